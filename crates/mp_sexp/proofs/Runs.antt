-- What stands first in the rest of a text, when the rest is read.
use Rattle.std.proofs.Common.{◌≡◌, ℕ, ◌+◌, ◌<◌, ◌≤◌, Bool, true, false, cond, suc, List, [], ◌∷◌, ◌++◌, length, map, get_or, take, drop, ◌-◌, Result, Ok, Err, refl, sym, ap, subst, ◌∙◌, append_assoc, arith, inl, inr}
use Rattle.std.proofs.lemmas.Bool.{cases_Bool, ne_eqb, eqb-true, both_ways, eq-eqb}
use Rattle.std.proofs.lemmas.List.{append-nil, length-drop, length-reverse}
use Rattle.std.proofs.Math.Seq.{take-length}
use Rattle.std.proofs.lemmas.List.Sums.{prefix_len-le-length}
use Rattle.std.specs.Prelude.{◌==◌, not}
use Rattle.std.specs.List.{prefix_len}
use Rattle.mp_sexp.specs.declared.tree.Place.{Place}
use Rattle.mp_sexp.specs.declared.bytes.Kind.{Kind}
use Rattle.mp_sexp.specs.declared.bytes.Kind.TheVariants as kinds
use Rattle.mp_sexp.specs.Part as parts
use Rattle.mp_sexp.specs.declared.refusal.ReadRefusal.{ReadRefusal}
use Rattle.mp_sexp.specs.declared.refusal.ReadRefusal.TheVariants as refusals
use Rattle.mp_sexp.specs.Bytes.{IsWordByte, folded, folded_byte, line_feed}
use Rattle.mp_sexp.specs.Kinds.{kind_of, is_word_kind}
use Rattle.mp_sexp.specs.Node.{Node, word}
use Rattle.mp_sexp.specs.Spelling.{next_place}
use Rattle.mp_sexp.specs.declared.open_lists.OpenList.{OpenList}
use Rattle.mp_sexp.specs.Reading.{level_of, levels_in, State, Level, step, read_byte, run, node_at, finished, opened, closed, misplaced, Fails, GoesOn, further, is_word, is_within_line, ◌>>=◌}
use Rattle.mp_sexp.proofs.KindLemmas.{IsOfKind, is_of_kind, word_kind}
use Rattle.mp_sexp.proofs.Complete.{reading, run_cons, step_kind, gap_space, gap_comment, comment_ends, comment_goes_on, begins_word, lengthens, word_ends}

of_kind : (b : ℕ) (k : Kind) → kind_of b ≡ k → IsOfKind k b
of_kind b k e = subst (λ (j : Kind). IsOfKind j b) e (is_of_kind b)

-- ---- places

line_sum : (at : Place) (b n : ℕ) → (next_place at b).line + n ≤ at.line + (n + 1)
line_sum at b n = elim (b == line_feed) as (λ v. (cond {A = Place} v record { line = at.line + 1; column = 1 } record { line = at.line; column = at.column + 1 }).line + n ≤ at.line + (n + 1)) [ true ↦ omega arith | false ↦ omega arith ]

column_sum : (at : Place) (b n : ℕ) → (next_place at b).column + n ≤ at.column + (n + 1)
column_sum at b n = elim (b == line_feed) as (λ v. (cond {A = Place} v record { line = at.line + 1; column = 1 } record { line = at.line; column = at.column + 1 }).column + n ≤ at.column + (n + 1)) [ true ↦ omega arith | false ↦ omega arith ]

-- ---- one byte

pub byte_goes_on : (s t : State) (at : Place) (b : ℕ) (bs : List ℕ) → step s at b ≡ Ok t → GoesOn s at (b ∷ bs) t (next_place at b) bs
byte_goes_on s t at b bs e =
    let l = line_sum at b (length bs) in
    let c = column_sum at b (length bs) in
    record { same = run_cons s t at b bs e; less = omega arith; line = omega (arith, l); column = omega (arith, c) }

space_goes_on : (members : List Node) (around : List Level) (at : Place) (b : ℕ) (bs : List ℕ) → kind_of b ≡ kinds.Space
    → GoesOn (reading parts.Gap members around) at (b ∷ bs) (reading parts.Gap members around) (next_place at b) bs
space_goes_on members around at b bs e = byte_goes_on _ _ at b bs (gap_space members around at b (of_kind b kinds.Space e))

pub open_step : (members : List Node) (around : List Level) (at : Place) (b : ℕ) → kind_of b ≡ kinds.Open → step (reading parts.Gap members around) at b ≡ opened at members around
unfolding read_byte
open_step members around at b e = step_kind members around at b kinds.Open e

pub close_step : (members : List Node) (around : List Level) (at : Place) (b : ℕ) → kind_of b ≡ kinds.Close → step (reading parts.Gap members around) at b ≡ closed at members around
unfolding read_byte
close_step members around at b e = step_kind members around at b kinds.Close e

open_goes_on : (members : List Node) (around : List Level) (t : State) (at : Place) (b : ℕ) (bs : List ℕ) → kind_of b ≡ kinds.Open → opened at members around ≡ Ok t
    → GoesOn (reading parts.Gap members around) at (b ∷ bs) t (next_place at b) bs
open_goes_on members around t at b bs k e = byte_goes_on _ t at b bs (open_step members around at b k ∙ e)

close_goes_on : (members : List Node) (around : List Level) (t : State) (at : Place) (b : ℕ) (bs : List ℕ) → kind_of b ≡ kinds.Close → closed at members around ≡ Ok t
    → GoesOn (reading parts.Gap members around) at (b ∷ bs) t (next_place at b) bs
close_goes_on members around t at b bs k e = byte_goes_on _ t at b bs (close_step members around at b k ∙ e)

-- ---- refusals

pub fails_here : (e : ReadRefusal) (s : State) (at : Place) (b : ℕ) (bs : List ℕ) → Fails e (step s at b) → Fails e (run s at (b ∷ bs))
unfolding run
fails_here refusals.OutOfMemory s at b bs h = tt
fails_here (refusals.Char place) s at b bs h = rw h refl
fails_here (refusals.Unbalanced place) s at b bs h = rw h refl
fails_here (refusals.Trailing place) s at b bs h = rw h refl
fails_here (refusals.Deep place) s at b bs h = rw h refl

open_fails : (e : ReadRefusal) (members : List Node) (around : List Level) (at : Place) (b : ℕ) (bs : List ℕ) → kind_of b ≡ kinds.Open → Fails e (opened at members around)
    → Fails e (run (reading parts.Gap members around) at (b ∷ bs))
open_fails e members around at b bs k h = fails_here e _ at b bs (subst (Fails e) (sym (open_step members around at b k)) h)

close_fails : (e : ReadRefusal) (members : List Node) (around : List Level) (at : Place) (b : ℕ) (bs : List ℕ) → kind_of b ≡ kinds.Close → Fails e (closed at members around)
    → Fails e (run (reading parts.Gap members around) at (b ∷ bs))
close_fails e members around at b bs k h = fails_here e _ at b bs (subst (Fails e) (sym (close_step members around at b k)) h)

foreign_fails : (members : List Node) (around : List Level) (at : Place) (b : ℕ) (bs : List ℕ) → kind_of b ≡ kinds.Foreign
    → run (reading parts.Gap members around) at (b ∷ bs) ≡ Err (refusals.Char at)
unfolding read_byte
foreign_fails members around at b bs k = fails_here (refusals.Char at) _ at b bs (step_kind members around at b kinds.Foreign k)

word_fails_at : (members : List Node) (at : Place) (b : ℕ) (bs : List ℕ) → kind_of b ≡ kinds.Word → run (reading parts.Gap members []) at (b ∷ bs) ≡ Err (misplaced members at)
unfolding read_byte run
word_fails_at members at b bs k = rw (step_kind members [] at b kinds.Word k) refl

-- ---- comments and words

further-none : (at : Place) → further at 0 ≡ at
further-none at = ap (λ (c : ℕ). record { line = at.line; column = c }) (omega arith)

further-next : (at : Place) (b n : ℕ) → (b == line_feed) ≡ false → further (next_place at b) n ≡ further at (1 + n)
further-next at b n e = rw e (ap (λ (c : ℕ). record { line = at.line; column = c }) (omega arith))

drop_more : (b : ℕ) (bs : List ℕ) (n : ℕ) → drop (1 + n) (b ∷ bs) ≡ drop n bs
drop_more b bs n = let e : 1 + n ≡ suc n = omega arith in rw e refl

take_more : (b : ℕ) (bs : List ℕ) (n : ℕ) → take (1 + n) (b ∷ bs) ≡ b ∷ take n bs
take_more b bs n = let e : 1 + n ≡ suc n = omega arith in rw e refl

-- the state behind so many bytes of a text
abbrev pub behind : State → Place → List ℕ → ℕ → Result Node ReadRefusal
behind t at text n = run t (further at n) (drop n text)

none_behind : (t : State) (at : Place) (text : List ℕ) → behind t at text 0 ≡ run t at text
none_behind t at text = ap (λ (p : Place). run t p text) (further-none at)

one_behind : (t : State) (at : Place) (b : ℕ) (bs : List ℕ) (n : ℕ) → (b == line_feed) ≡ false → behind t at (b ∷ bs) (1 + n) ≡ behind t (next_place at b) bs n
one_behind t at b bs n e =
    ap (λ (p : Place). run t p (drop (1 + n) (b ∷ bs))) (sym (further-next at b n e)) ∙ ap (λ (rest : List ℕ). run t (further (next_place at b) n) rest) (drop_more b bs n)

-- the end of the text is where a comment may stand too
comment_at_end : (members : List Node) (around : List Level) (at : Place) → run (reading parts.Comment members around) at [] ≡ run (reading parts.Gap members around) at []
unfolding run
comment_at_end members around at = refl

-- what is read of a comment with this rest of a text
abbrev IsLineRead : List ℕ → Type 0
IsLineRead text = (members : List Node) (around : List Level) (at : Place)
    → run (reading parts.Comment members around) at text ≡ behind (reading parts.Gap members around) at text (prefix_len is_within_line text)

line_from : (ends : Bool) (b : ℕ) (bs : List ℕ) → (b == line_feed) ≡ ends → IsLineRead bs → (members : List Node) (around : List Level) (at : Place)
    → run (reading parts.Comment members around) at (b ∷ bs) ≡ behind (reading parts.Gap members around) at (b ∷ bs) (cond (not ends) (1 + prefix_len is_within_line bs) 0)
line_from true b bs e read members around at =
    let feed = eqb-true b line_feed e in
    run_cons _ _ at b bs (comment_ends members around at b feed)
    ∙ sym (run_cons _ _ at b bs (gap_space members around at b (inr (inl feed))))
    ∙ sym (none_behind (reading parts.Gap members around) at (b ∷ bs))
line_from false b bs e read members around at =
    run_cons _ _ at b bs (comment_goes_on members around at b (λ feed. both_ways (b == line_feed) e (eq-eqb b line_feed feed)))
    ∙ read members around (next_place at b)
    ∙ sym (one_behind (reading parts.Gap members around) at b bs (prefix_len is_within_line bs) e)

behind_line : (text : List ℕ) → IsLineRead text
behind_line [] members around at = comment_at_end members around at ∙ sym (none_behind (reading parts.Gap members around) at [])
behind_line (b ∷ bs) members around at = line_from (b == line_feed) b bs refl (behind_line bs) members around at

-- a word may end at the end of the text, where a list stands open
word_at_end : (name : List ℕ) (begin : Place) (members : List Node) (level : Level) (around : List Level) (at : Place)
    → run (reading (parts.Word name begin) members (level ∷ around)) at [] ≡ run (reading parts.Gap (members ++ word name begin ∷ []) (level ∷ around)) at []
unfolding run
word_at_end name begin members level around at = refl

word_stops : (name : List ℕ) (begin : Place) (members : List Node) (around : List Level) (at : Place) (b : ℕ) (bs : List ℕ) → (IsWordByte b → ⊥)
    → run (reading (parts.Word name begin) members around) at (b ∷ bs) ≡ run (reading parts.Gap (members ++ word name begin ∷ []) around) at (b ∷ bs)
unfolding run
word_stops name begin members around at b bs n =
    ap (λ (o : Result State ReadRefusal). o >>= λ (t : State). run t (next_place at b) bs) (word_ends name begin members around at b n)

-- no byte of a word ends a line
word_in_line : (b : ℕ) → IsWordByte b → (b == line_feed) ≡ false
word_in_line b w = ne_eqb b line_feed (λ e. let h = w.0 in omega (arith, h, e))

is_word_true : (b : ℕ) → is_word b ≡ true → IsWordByte b
is_word_true b e = from_kind (kind_of b) b (is_of_kind b) e
  where
    from_kind : (k : Kind) (b : ℕ) → IsOfKind k b → is_word_kind k ≡ true → IsWordByte b
    from_kind kinds.Space b h e = cc
    from_kind kinds.Comment b h e = cc
    from_kind kinds.Open b h e = cc
    from_kind kinds.Close b h e = cc
    from_kind kinds.Word b h e = h
    from_kind kinds.Foreign b h e = cc

is_word_false : (b : ℕ) → is_word b ≡ false → IsWordByte b → ⊥
is_word_false b e w = both_ways (is_word b) e (ap is_word_kind (word_kind b w))

-- the list with a word behind its members
abbrev pub with_word : List Node → List ℕ → Place → List Level → State
with_word members name begin around = reading parts.Gap (members ++ word name begin ∷ []) around

-- what is read of a word with this rest of a text
abbrev IsWordRead : List ℕ → Type 0
IsWordRead text = (name : List ℕ) (begin : Place) (members : List Node) (level : Level) (around : List Level) (at : Place)
    → run (reading (parts.Word name begin) members (level ∷ around)) at text
    ≡ behind (with_word members (name ++ folded (take (prefix_len is_word text) text)) begin (level ∷ around)) at text (prefix_len is_word text)

word_stops_here : (b : ℕ) (bs : List ℕ) → is_word b ≡ false → (name : List ℕ) (begin : Place) (members : List Node) (level : Level) (around : List Level) (at : Place)
    → run (reading (parts.Word name begin) members (level ∷ around)) at (b ∷ bs) ≡ behind (with_word members (name ++ []) begin (level ∷ around)) at (b ∷ bs) 0
word_stops_here b bs e name begin members level around at =
    word_stops name begin members (level ∷ around) at b bs (is_word_false b e)
    ∙ ap (λ (w : List ℕ). run (with_word members w begin (level ∷ around)) at (b ∷ bs)) (sym (append-nil name))
    ∙ sym (none_behind (with_word members (name ++ []) begin (level ∷ around)) at (b ∷ bs))

word_goes_further : (b : ℕ) (bs : List ℕ) → is_word b ≡ true → IsWordRead bs → (name : List ℕ) (begin : Place) (members : List Node) (level : Level) (around : List Level) (at : Place)
    → let n = prefix_len is_word bs in
    run (reading (parts.Word name begin) members (level ∷ around)) at (b ∷ bs)
    ≡ behind (with_word members (name ++ folded (take (1 + n) (b ∷ bs))) begin (level ∷ around)) at (b ∷ bs) (1 + n)
word_goes_further b bs e read name begin members level around at =
    let w = is_word_true b e in
    let n = prefix_len is_word bs in
    let longer : (name ++ folded_byte b ∷ []) ++ folded (take n bs) ≡ name ++ folded (take (1 + n) (b ∷ bs)) =
    append_assoc name (folded_byte b ∷ []) (folded (take n bs)) ∙ ap (λ (t : List ℕ). name ++ folded t) (sym (take_more b bs n)) in
    run_cons _ _ at b bs (lengthens name begin members level around at b w)
    ∙ read (name ++ folded_byte b ∷ []) begin members level around (next_place at b)
    ∙ ap (λ (v : List ℕ). behind (with_word members v begin (level ∷ around)) (next_place at b) bs n) longer
    ∙ sym (one_behind (with_word members (name ++ folded (take (1 + n) (b ∷ bs))) begin (level ∷ around)) at b bs n (word_in_line b w))

word_from : (goes_on : Bool) (b : ℕ) (bs : List ℕ) → is_word b ≡ goes_on → IsWordRead bs → (name : List ℕ) (begin : Place) (members : List Node) (level : Level) (around : List Level) (at : Place)
    → let n = cond goes_on (1 + prefix_len is_word bs) 0 in
    run (reading (parts.Word name begin) members (level ∷ around)) at (b ∷ bs)
    ≡ behind (with_word members (name ++ folded (take n (b ∷ bs))) begin (level ∷ around)) at (b ∷ bs) n
word_from false b bs e read name begin members level around at = word_stops_here b bs e name begin members level around at
word_from true b bs e read name begin members level around at = word_goes_further b bs e read name begin members level around at

behind_word : (text : List ℕ) → IsWordRead text
behind_word [] name begin members level around at =
    word_at_end name begin members level around at
    ∙ ap (λ (w : List ℕ). run (with_word members w begin (level ∷ around)) at []) (sym (append-nil name))
    ∙ sym (none_behind (with_word members (name ++ []) begin (level ∷ around)) at [])
behind_word (b ∷ bs) name begin members level around at = word_from (is_word b) b bs refl (behind_word bs) name begin members level around at

-- ---- what stands first

comment_goes_on_at : (members : List Node) (around : List Level) (at : Place) (b : ℕ) (bs : List ℕ) → kind_of b ≡ kinds.Comment
    → let n = prefix_len is_within_line bs in GoesOn (reading parts.Gap members around) at (b ∷ bs) (reading parts.Gap members around) (further (next_place at b) n) (drop n bs)
comment_goes_on_at members around at b bs k =
    let n = prefix_len is_within_line bs in
    let shorter = length-drop n bs in
    let within = prefix_len-le-length is_within_line bs in
    let l = line_sum at b (length bs) in
    let c = column_sum at b (length bs) in
    record {
      same = run_cons _ _ at b bs (gap_comment members around at b (of_kind b kinds.Comment k)) ∙ behind_line bs members around (next_place at b);
      less = omega (arith, shorter);
      line = omega (arith, shorter, l);
      column = omega (arith, shorter, within, c);
    }

some_word : (bs : List ℕ) (b : ℕ) → 0 < prefix_len is_word (b ∷ bs) → is_word b ≡ true
some_word bs b h = elim (cases_Bool (is_word b)) [
  | inl e ↦ e
  | inr e ↦ (let none : prefix_len is_word (b ∷ bs) ≡ 0 = ap (λ (v : Bool). cond v (1 + prefix_len is_word bs) 0) e in absurd (omega (arith, h, none)))
]

word_read : (members : List Node) (level : Level) (around : List Level) (at : Place) (b : ℕ) (bs : List ℕ) → is_word b ≡ true
    → let n = prefix_len is_word (b ∷ bs) in
    run (reading parts.Gap members (level ∷ around)) at (b ∷ bs) ≡ behind (with_word members (folded (take n (b ∷ bs))) at (level ∷ around)) at (b ∷ bs) n
word_read members level around at b bs e =
    let w = is_word_true b e in
    let n = prefix_len is_word bs in
    let all : prefix_len is_word (b ∷ bs) ≡ 1 + n = ap (λ (v : Bool). cond v (1 + n) 0) e in
    run_cons _ _ at b bs (begins_word members level around at b w)
    ∙ behind_word bs (folded_byte b ∷ []) at members level around (next_place at b)
    ∙ ap (λ (v : List ℕ). behind (with_word members (folded v) at (level ∷ around)) (next_place at b) bs n) (sym (take_more b bs n))
    ∙ sym (one_behind (with_word members (folded (take (1 + n) (b ∷ bs))) at (level ∷ around)) at b bs n (word_in_line b w))
    ∙ ap (λ (m : ℕ). behind (with_word members (folded (take m (b ∷ bs))) at (level ∷ around)) at (b ∷ bs) m) (sym all)

pub word_goes_on : (members : List Node) (around : List Level) (at : Place) (text : List ℕ) → 0 < length around → 0 < prefix_len is_word text
    → let n = prefix_len is_word text in
    GoesOn (reading parts.Gap members around) at text (with_word members (folded (take n text)) at around) (further at n) (drop n text)
word_goes_on members [] at text some h = absurd (omega (arith, some))
word_goes_on members (level ∷ around) at [] some h = absurd (omega (arith, h))
word_goes_on members (level ∷ around) at (b ∷ bs) some h =
    let n = prefix_len is_word (b ∷ bs) in
    let shorter = length-drop n (b ∷ bs) in
    let within = prefix_len-le-length is_word (b ∷ bs) in
    record {
      same = word_read members level around at b bs (some_word bs b h);
      less = omega (arith, shorter, h);
      line = omega (arith, shorter);
      column = omega (arith, shorter, within);
    }

pub word_fails : (members : List Node) (at : Place) (text : List ℕ) → 0 < prefix_len is_word text → run (reading parts.Gap members []) at text ≡ Err (misplaced members at)
word_fails members at [] h = absurd (omega (arith, h))
word_fails members at (b ∷ bs) h = word_fails_at members at b bs (word_kind b (is_word_true b (some_word bs b h)))

-- ---- the same over what the reader holds

pub text_parts : (text : List ℕ) → 0 < length text → text ≡ get_or text 0 0 ∷ take (length text - 1) (drop 1 text)
text_parts [] h = absurd (omega (arith, h))
text_parts (b ∷ bs) h =
    let one : length (b ∷ bs) - 1 ≡ length bs = omega arith in
    ap (λ (t : List ℕ). b ∷ t) (sym (ap (λ (n : ℕ). take n bs) one ∙ take-length bs))

misplaced_fails : (members : List Node) (at : Place) (r : Result Node ReadRefusal) → r ≡ Err (misplaced members at) → Fails (misplaced members at) r
misplaced_fails [] at r e = e
misplaced_fails (m ∷ ms) at r e = e

pub outside_fails : (members : List Node) (lists : List OpenList) (at : Place) (text : List ℕ) → length lists ≡ 0 → 0 < prefix_len is_word text
    → Fails (misplaced members at) (run (reading parts.Gap members (levels_in lists)) at text)
outside_fails members [] at text none h = misplaced_fails members at _ (word_fails members at text h)
outside_fails members (l ∷ ls) at text none h = absurd (omega (arith, none))

as_many : (lists : List OpenList) → length (map level_of lists) ≡ length lists
as_many [] = refl
as_many (l ∷ ls) = omega (arith, as_many ls)

pub some_levels : (lists : List OpenList) → (length lists ≡ 0 → ⊥) → 0 < length (levels_in lists)
some_levels lists some =
    let e : length (levels_in lists) ≡ length lists = length-reverse (map level_of lists) ∙ as_many lists in
    omega (arith, e, some)

-- ---- the same over a text that is not empty, by its first byte

abbrev pub first : List ℕ → ℕ
first text = get_or text 0 0

abbrev pub others : List ℕ → List ℕ
others text = take (length text - 1) (drop 1 text)

pub space_read : (members : List Node) (around : List Level) (at : Place) (text : List ℕ) → 0 < length text → kind_of (first text) ≡ kinds.Space
    → GoesOn (reading parts.Gap members around) at text (reading parts.Gap members around) (next_place at (first text)) (others text)
space_read members around at text some k =
    let s = reading parts.Gap members around in
    let next = next_place at (first text) in
    let rest = others text in
    subst (λ (t : List ℕ). GoesOn s at t s next rest) (sym (text_parts text some)) (space_goes_on members around at (first text) (others text) k)

pub comment_read : (members : List Node) (around : List Level) (at : Place) (text : List ℕ) → 0 < length text → kind_of (first text) ≡ kinds.Comment
    → let n = prefix_len is_within_line (others text) in
    GoesOn (reading parts.Gap members around) at text (reading parts.Gap members around) (further (next_place at (first text)) n) (drop n (others text))
comment_read members around at text some k =
    let s = reading parts.Gap members around in
    let n = prefix_len is_within_line (others text) in
    let next = further (next_place at (first text)) n in
    let rest = drop n (others text) in
    subst (λ (t : List ℕ). GoesOn s at t s next rest) (sym (text_parts text some)) (comment_goes_on_at members around at (first text) (others text) k)

pub open_read : (members : List Node) (around : List Level) (t : State) (at : Place) (text : List ℕ) → 0 < length text → kind_of (first text) ≡ kinds.Open → opened at members around ≡ Ok t
    → GoesOn (reading parts.Gap members around) at text t (next_place at (first text)) (others text)
open_read members around t at text some k e =
    let next = next_place at (first text) in
    let rest = others text in
    subst (λ (all : List ℕ). GoesOn (reading parts.Gap members around) at all t next rest) (sym (text_parts text some)) (open_goes_on members around t at (first text) (others text) k e)

pub close_read : (members : List Node) (around : List Level) (t : State) (at : Place) (text : List ℕ) → 0 < length text → kind_of (first text) ≡ kinds.Close → closed at members around ≡ Ok t
    → GoesOn (reading parts.Gap members around) at text t (next_place at (first text)) (others text)
close_read members around t at text some k e =
    let next = next_place at (first text) in
    let rest = others text in
    subst (λ (all : List ℕ). GoesOn (reading parts.Gap members around) at all t next rest) (sym (text_parts text some)) (close_goes_on members around t at (first text) (others text) k e)

pub open_refused : (e : ReadRefusal) (members : List Node) (around : List Level) (at : Place) (text : List ℕ) → 0 < length text → kind_of (first text) ≡ kinds.Open → Fails e (opened at members around)
    → Fails e (run (reading parts.Gap members around) at text)
open_refused e members around at text some k h =
    subst (λ (all : List ℕ). Fails e (run (reading parts.Gap members around) at all)) (sym (text_parts text some)) (open_fails e members around at (first text) (others text) k h)

pub close_refused : (e : ReadRefusal) (members : List Node) (around : List Level) (at : Place) (text : List ℕ) → 0 < length text → kind_of (first text) ≡ kinds.Close → Fails e (closed at members around)
    → Fails e (run (reading parts.Gap members around) at text)
close_refused e members around at text some k h =
    subst (λ (all : List ℕ). Fails e (run (reading parts.Gap members around) at all)) (sym (text_parts text some)) (close_fails e members around at (first text) (others text) k h)

pub foreign_refused : (members : List Node) (around : List Level) (at : Place) (text : List ℕ) → 0 < length text → kind_of (first text) ≡ kinds.Foreign
    → run (reading parts.Gap members around) at text ≡ Err (refusals.Char at)
foreign_refused members around at text some k =
    ap (λ (all : List ℕ). run (reading parts.Gap members around) at all) (text_parts text some) ∙ foreign_fails members around at (first text) (others text) k

-- ---- the end of the text, and a refusal before it

pub run_ends : (s : State) (at : Place) (text whole : List ℕ) → length text ≡ 0 → run s at text ≡ node_at whole → node_at whole ≡ finished at s
unfolding run
run_ends s at [] whole none e = sym e
run_ends s at (b ∷ bs) whole none e = absurd (omega (arith, none))
