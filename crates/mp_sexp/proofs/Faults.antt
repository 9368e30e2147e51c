-- The reader stops at a text's first fault, and nowhere else.
use Rattle.std.proofs.Common.{◌≡◌, ℕ, ◌+◌, ◌≤◌, ◌<◌, Bool, true, false, cond, ltb, List, [], ◌∷◌, ◌++◌, length, Result, Ok, Err, refl, sym, ap, ◌∙◌, subst, append_assoc, arith, inl, inr}
use Rattle.std.specs.Prelude.{◌⊎◌, ◌==◌}
use Rattle.std.proofs.lemmas.Bool.{cases_lt, ltb-true, ltb-false, false≢true}
use Rattle.std.proofs.lemmas.List.{length_push, length-append}
use Rattle.mp_sexp.specs.declared.tree.Place.{Place}
use Rattle.mp_sexp.specs.declared.bytes.Kind.{Kind}
use Rattle.mp_sexp.specs.declared.bytes.Kind.TheVariants as kinds
use Rattle.mp_sexp.specs.Part.{Part}
use Rattle.mp_sexp.specs.Part as parts
use Rattle.mp_sexp.specs.declared.refusal.ReadRefusal.{ReadRefusal}
use Rattle.mp_sexp.specs.declared.refusal.ReadRefusal.TheVariants.{Char, Unbalanced, Trailing, Deep, OutOfMemory}
use Rattle.mp_sexp.specs.Bytes.{IsSpace, IsWordByte, open_bracket, close_bracket, semicolon, line_feed}
use Rattle.mp_sexp.specs.Kinds.{kind_of}
use Rattle.mp_sexp.specs.Node.{Node, word, list, nodes_from}
use Rattle.mp_sexp.specs.Spelling.{next_place, place_after, deepest}
use Rattle.mp_sexp.specs.Reading.{State, Level, ended, lengthened, opened, misplaced, read_byte, step, run, finished, single_list, node_at, ◌>>=◌}
use Rattle.mp_sexp.specs.Fault.{in_comment, opening, closing, IsBefore, IsBehind, IsSolid, IsForeign, IsFault, ReadFault}
use Rattle.mp_sexp.proofs.KindLemmas.{IsOfKind, is_of_kind}
use Rattle.mp_sexp.proofs.Placed.{place_from-append}
use Rattle.mp_sexp.proofs.Complete.{not_none, reading}
use Rattle.mp_sexp.proofs.Sound.{IsList}
use Rattle.mp_sexp.proofs.FaultCounts.{count_commented, count_semicolon, count_other, count_open, count_close, comment_stays, comment_begins, comment_after}

-- ---- which faults a byte can have

faults_in_comment : (e : ReadRefusal) (before rest : List ℕ) (b : ℕ) → in_comment before ≡ true → IsFault e before (b ∷ rest) → ⊥
faults_in_comment OutOfMemory before rest b c h = h
faults_in_comment (Char place) before rest b c h = false≢true (sym h.1 ∙ c)
faults_in_comment (Unbalanced place) before rest b c h = false≢true (sym h.1 ∙ c)
faults_in_comment (Trailing place) before rest b c h = false≢true (sym h.1 ∙ c)
faults_in_comment (Deep place) before rest b c h = false≢true (sym h.1 ∙ c)

space_solid : (b : ℕ) → IsSpace b → IsSolid b → ⊥
space_solid b s (inl w) = grind arith
space_solid b s (inr (inl o)) = grind arith
space_solid b s (inr (inr o)) = grind arith

semicolon_solid : (b : ℕ) → b ≡ semicolon → IsSolid b → ⊥
semicolon_solid b s (inl w) = w.4 s
semicolon_solid b s (inr (inl o)) = absurd (omega arith)
semicolon_solid b s (inr (inr o)) = absurd (omega arith)

faults_of_space : (e : ReadRefusal) (before rest : List ℕ) (b : ℕ) → IsSpace b → IsFault e before (b ∷ rest) → ⊥
faults_of_space OutOfMemory before rest b s h = h
faults_of_space (Char place) before rest b s h = h.2.0 s
faults_of_space (Unbalanced place) before rest b s h = space_solid b s (elim h.3 [ inl w ↦ inl w | inr c ↦ inr (inr c) ])
faults_of_space (Trailing place) before rest b s h = space_solid b s h.3
faults_of_space (Deep place) before rest b s h = space_solid b s (inr (inl h.2))

faults_of_semicolon : (e : ReadRefusal) (before rest : List ℕ) (b : ℕ) → b ≡ semicolon → IsFault e before (b ∷ rest) → ⊥
faults_of_semicolon OutOfMemory before rest b s h = h
faults_of_semicolon (Char place) before rest b s h = h.2.2 s
faults_of_semicolon (Unbalanced place) before rest b s h = semicolon_solid b s (elim h.3 [ inl w ↦ inl w | inr c ↦ inr (inr c) ])
faults_of_semicolon (Trailing place) before rest b s h = semicolon_solid b s h.3
faults_of_semicolon (Deep place) before rest b s h = semicolon_solid b s (inr (inl h.2))

-- a word or a closing bracket outside of all brackets
Misplaced : ReadRefusal → List ℕ → Type 0
Misplaced e before = ((e ≡ Unbalanced (place_after before)) × IsBefore before) ⊎ ((e ≡ Trailing (place_after before)) × IsBehind before)

faults_of_word : (e : ReadRefusal) (before rest : List ℕ) (b : ℕ) → IsWordByte b → IsFault e before (b ∷ rest) → Misplaced e before
unfolding Misplaced
faults_of_word OutOfMemory before rest b w h = absurd h
faults_of_word (Char place) before rest b w h = absurd (h.2.1 (inl w))
faults_of_word (Unbalanced place) before rest b w h = inl (ap Unbalanced h.0, h.2)
faults_of_word (Trailing place) before rest b w h = inr (ap Trailing h.0, h.2)
faults_of_word (Deep place) before rest b w h = absurd (w.2 h.2)

faults_of_close : (e : ReadRefusal) (before rest : List ℕ) (b : ℕ) → b ≡ close_bracket → IsFault e before (b ∷ rest) → Misplaced e before
unfolding Misplaced
faults_of_close OutOfMemory before rest b c h = absurd h
faults_of_close (Char place) before rest b c h = absurd (h.2.1 (inr (inr c)))
faults_of_close (Unbalanced place) before rest b c h = inl (ap Unbalanced h.0, h.2)
faults_of_close (Trailing place) before rest b c h = inr (ap Trailing h.0, h.2)
faults_of_close (Deep place) before rest b c h = absurd (let f = h.2 in omega arith)

Opened : ReadRefusal → List ℕ → Type 0
Opened e before = ((e ≡ Trailing (place_after before)) × IsBehind before) ⊎ ((e ≡ Deep (place_after before)) × (opening before ≡ closing before + deepest))

faults_of_open : (e : ReadRefusal) (before rest : List ℕ) (b : ℕ) → b ≡ open_bracket → IsFault e before (b ∷ rest) → Opened e before
unfolding Opened
faults_of_open OutOfMemory before rest b o h = absurd h
faults_of_open (Char place) before rest b o h = absurd (h.2.1 (inr (inl o)))
faults_of_open (Unbalanced place) before rest b o h = absurd (elim h.3 [ inl w ↦ w.2 o | inr c ↦ absurd (omega arith) ])
faults_of_open (Trailing place) before rest b o h = inl (ap Trailing h.0, h.2)
faults_of_open (Deep place) before rest b o h = inr (ap Deep h.0, h.3)

faults_of_foreign : (e : ReadRefusal) (before rest : List ℕ) (b : ℕ) → IsForeign b → IsFault e before (b ∷ rest) → e ≡ Char (place_after before)
faults_of_foreign OutOfMemory before rest b f h = absurd h
faults_of_foreign (Char place) before rest b f h = ap Char h.0
faults_of_foreign (Unbalanced place) before rest b f h = absurd (f.1 (elim h.3 [ inl w ↦ inl w | inr c ↦ inr (inr c) ]))
faults_of_foreign (Trailing place) before rest b f h = absurd (f.1 h.3)
faults_of_foreign (Deep place) before rest b f h = absurd (f.1 (inr (inl h.2)))

faults_of_end : (e : ReadRefusal) (before : List ℕ) → IsFault e before [] → (e ≡ Unbalanced (place_after before)) × (IsBehind before → ⊥)
faults_of_end OutOfMemory before h = absurd h
faults_of_end (Char place) before h = absurd h
faults_of_end (Unbalanced place) before h = (ap Unbalanced h.0, h.1)
faults_of_end (Trailing place) before h = absurd h
faults_of_end (Deep place) before h = absurd h

-- ---- what the reader knows of the beginning that it has read

abbrev is_comment : Part → Bool
is_comment parts.Gap = false
is_comment parts.Comment = true
is_comment (parts.Word name place) = false

abbrev IsNoWord : Part → Type 0
IsNoWord parts.Gap = Unit {0}
IsNoWord parts.Comment = Unit {0}
IsNoWord (parts.Word name place) = ⊥

-- outside of all brackets stands nothing, or the list
abbrev IsTop : List Node → List ℕ → Type 0
IsTop [] before = opening before ≡ 0
IsTop (word name place ∷ ns) before = ⊥
IsTop (list nodes place ∷ []) before = 0 < opening before
IsTop (list nodes place ∷ n ∷ ns) before = ⊥

-- before the first bracket stands nothing
abbrev IsRooted : List Level → Type 0
IsRooted [] = Unit {0}
IsRooted (level ∷ []) = level.members ≡ []
IsRooted (level ∷ other ∷ around) = IsRooted (other ∷ around)

abbrev IsPlaced : Part → List Node → List Level → List ℕ → Type 0
IsPlaced part members [] before = IsNoWord part × IsTop members before
IsPlaced part members (level ∷ around) before = IsRooted (level ∷ around)

record Stands (before : List ℕ) (part : Part) (members : List Node) (around : List Level) : Type 0 where
  comment : in_comment before ≡ is_comment part
  count : opening before ≡ closing before + length around
  few : length around ≤ deepest
  placed : IsPlaced part members around before

-- a step is right where it goes on without a fault or stops at the one fault
abbrev IsRight : Result State ReadRefusal → List ℕ → ℕ → List ℕ → Type 0
IsRight (Ok t) before b rest =
    Stands (before ++ b ∷ []) t.part t.members t.around × ((e : ReadRefusal) → IsFault e before (b ∷ rest) → ⊥)
IsRight (Err f) before b rest = IsFault f before (b ∷ rest) × ((e : ReadRefusal) → IsFault e before (b ∷ rest) → e ≡ f)

top_kept : (members : List Node) (before after : List ℕ) → opening after ≡ opening before → IsTop members before → IsTop members after
top_kept [] before after e h = e ∙ h
top_kept (word name place ∷ ns) before after e h = h
top_kept (list nodes place ∷ []) before after e h = omega arith
top_kept (list nodes place ∷ n ∷ ns) before after e h = h

placed_kept : (part next : Part) (members : List Node) (around : List Level) (before after : List ℕ) → (IsNoWord part → IsNoWord next) → opening after ≡ opening before
    → IsPlaced part members around before → IsPlaced next members around after
placed_kept part next members [] before after n e h = (n h.0, top_kept members before after e h.1)
placed_kept part next members (level ∷ around) before after n e h = h

-- what ends before this byte is the same outside of all brackets
placed_ended : (part next : Part) (members : List Node) (around : List Level) (before after : List ℕ) → IsNoWord next → opening after ≡ opening before
    → IsPlaced part members around before → IsPlaced next (ended part members) around after
placed_ended parts.Gap next members around before after n e h = placed_kept parts.Gap next members around before after (λ _. n) e h
placed_ended parts.Comment next members around before after n e h = placed_kept parts.Comment next members around before after (λ _. n) e h
placed_ended (parts.Word name place) next members [] before after n e h = absurd h.0
placed_ended (parts.Word name place) next members (level ∷ around) before after n e h = h

comment_right : (members : List Node) (around : List Level) (before rest : List ℕ) (b : ℕ) → Stands before parts.Comment members around
    → IsRight (step (reading parts.Comment members around) (place_after before) b) before b rest
unfolding step
comment_right members around before rest b h =
    let counts = count_commented before b h.comment in
    let next : Part = cond (b == line_feed) parts.Gap parts.Comment in
    let is_next : is_comment next ≡ cond (b == line_feed) false true = elim (b == line_feed) as (λ v. is_comment (cond v parts.Gap parts.Comment) ≡ cond v false true) [ true ↦ refl | false ↦ refl ] in
    let no_word : IsNoWord next = elim (b == line_feed) as (λ v. IsNoWord (cond v parts.Gap parts.Comment)) [ true ↦ tt | false ↦ tt ] in (
      record {
        comment = comment_after before b h.comment ∙ sym is_next;
        count = let c = h.count in omega (arith, c, counts.0, counts.1);
        few = h.few;
        placed = placed_kept parts.Comment next members around before (before ++ b ∷ []) (λ _. no_word) counts.0 h.placed;
      },
      λ e f. faults_in_comment e before rest b h.comment f,
    )

space_solid_or : (b : ℕ) → IsSpace b → b ≡ semicolon → ⊥
space_solid_or b s e = grind arith

lengthened_word : (part : Part) (at : Place) (b : ℕ) → is_comment (lengthened part at b) ≡ false
lengthened_word parts.Gap at b = refl
lengthened_word parts.Comment at b = refl
lengthened_word (parts.Word name place) at b = refl

space_others : (b : ℕ) → IsSpace b → (b ≡ semicolon → ⊥) × (b ≡ open_bracket → ⊥) × (b ≡ close_bracket → ⊥)
space_others b s = (λ e. absurd (space_solid_or b s e), λ e. space_solid b s (inr (inl e)), λ e. space_solid b s (inr (inr e)))

space_right : (part : Part) (members : List Node) (around : List Level) (before rest : List ℕ) (b : ℕ) → IsSpace b → in_comment before ≡ false → Stands before part members around
    → IsRight (read_byte kinds.Space (reading part members around) (place_after before) b) before b rest
unfolding read_byte
space_right part members around before rest b s c h =
    let other = space_others b s in
    let counts = count_other before b c other.0 other.1 other.2 in (
      record {
        comment = comment_stays before b c other.0;
        count = let k = h.count in omega (arith, k, counts.0, counts.1);
        few = h.few;
        placed = placed_ended part parts.Gap members around before (before ++ b ∷ []) tt counts.0 h.placed;
      },
      λ e f. faults_of_space e before rest b s f,
    )

semicolon_right : (part : Part) (members : List Node) (around : List Level) (before rest : List ℕ) → in_comment before ≡ false → Stands before part members around
    → IsRight (read_byte kinds.Comment (reading part members around) (place_after before) semicolon) before semicolon rest
unfolding read_byte
semicolon_right part members around before rest c h =
    let counts = count_semicolon before c in (
      record {
        comment = comment_begins before c;
        count = let k = h.count in omega (arith, k, counts.0, counts.1);
        few = h.few;
        placed = placed_ended part parts.Comment members around before (before ++ semicolon ∷ []) tt counts.0 h.placed;
      },
      λ e f. faults_of_semicolon e before rest semicolon refl f,
    )

-- a word or closing bracket outside of all brackets
misplaced_right : (members : List Node) (before rest : List ℕ) (b : ℕ) → in_comment before ≡ false → IsWordByte b ⊎ (b ≡ close_bracket) → opening before ≡ closing before + 0 → IsTop members before
    → ((e : ReadRefusal) → IsFault e before (b ∷ rest) → Misplaced e before)
    → IsRight (Err (misplaced members (place_after before))) before b rest
unfolding Misplaced
misplaced_right [] before rest b c solid count top which =
    ((refl, c, top, solid), λ e f. elim (which e f) [ inl h ↦ h.0 | inr h ↦ absurd (let k = h.1.0 in omega arith) ])
misplaced_right (word name place ∷ ns) before rest b c solid count top which = absurd top
misplaced_right (list nodes place ∷ []) before rest b c solid count top which =
    ((refl, c, (top, omega arith), elim solid [ inl w ↦ inl w | inr e ↦ inr (inr e) ]), λ e f. elim (which e f) [ inl h ↦ absurd (let k = h.1 in omega arith) | inr h ↦ h.0 ])
misplaced_right (list nodes place ∷ n ∷ ns) before rest b c solid count top which = absurd top

-- inside brackets nothing is misplaced
never_misplaced : (e : ReadRefusal) (before : List ℕ) (level : Level) (around : List Level) → opening before ≡ closing before + length (level ∷ around) → Misplaced e before → ⊥
unfolding Misplaced
never_misplaced e before level around count (inl h) = let k = h.1 in absurd (omega (arith, k, count))
never_misplaced e before level around count (inr h) = let k = h.1.1 in absurd (omega (arith, k, count))

top_of : (part : Part) (members : List Node) (before : List ℕ) → IsPlaced part members [] before → ended part members ≡ members
top_of parts.Gap members before h = refl
top_of parts.Comment members before h = refl
top_of (parts.Word name place) members before h = absurd h.0

-- the list that closes is a member of the one around it
placed_closed : (level : Level) (around : List Level) (n : Node) (before : List ℕ) → IsList n → 0 < opening before → IsRooted (level ∷ around) → IsPlaced parts.Gap (level.members ++ n ∷ []) around before
placed_closed level [] (word name place) before l some h = absurd l
placed_closed level [] (list nodes place) before l some h = (tt, rw h some)
placed_closed level (other ∷ around) n before l some h = h

close_right : (part : Part) (around : List Level) (members : List Node) (before rest : List ℕ) → in_comment before ≡ false → Stands before part members around
    → IsRight (read_byte kinds.Close (reading part members around) (place_after before) close_bracket) before close_bracket rest
unfolding read_byte
close_right part [] members before rest c h =
    let same = top_of part members before h.placed in
    subst (λ (ns : List Node). IsRight (Err (misplaced ns (place_after before))) before close_bracket rest) (sym same)
    (misplaced_right members before rest close_bracket c (inr refl) h.count h.placed.1 (λ e f. faults_of_close e before rest close_bracket refl f))
close_right part (level ∷ around) members before rest c h =
    let counts = count_close before c in
    let count = h.count in (
      record {
        comment = comment_stays before close_bracket c (λ e. absurd (omega (arith, e)));
        count = omega (arith, count, counts.0, counts.1);
        few = let f = h.few in omega (arith, f);
        placed = placed_closed level around (list (nodes_from (ended part members)) level.inner) (before ++ close_bracket ∷ []) tt (omega (arith, count, counts.0)) h.placed;
      },
      λ e f. never_misplaced e before level around count (faults_of_close e before rest close_bracket refl f),
    )

word_right : (part : Part) (around : List Level) (members : List Node) (before rest : List ℕ) (b : ℕ) → IsWordByte b → in_comment before ≡ false → Stands before part members around
    → IsRight (read_byte kinds.Word (reading part members around) (place_after before) b) before b rest
unfolding read_byte
word_right part [] members before rest b w c h =
    misplaced_right members before rest b c (inl w) h.count h.placed.1 (λ e f. faults_of_word e before rest b w f)
word_right part (level ∷ around) members before rest b w c h =
    let counts = count_other before b c w.4 w.2 w.3 in
    let count = h.count in
    rw (not_none level around) (
      record {
        comment = comment_stays before b c w.4 ∙ sym (lengthened_word part (place_after before) b);
        count = omega (arith, count, counts.0, counts.1);
        few = h.few;
        placed = h.placed;
      },
      λ e f. never_misplaced e before level around count (faults_of_word e before rest b w f),
    )

foreign_right : (part : Part) (around : List Level) (members : List Node) (before rest : List ℕ) (b : ℕ) → IsForeign b → in_comment before ≡ false
    → IsRight (read_byte kinds.Foreign (reading part members around) (place_after before) b) before b rest
unfolding read_byte
foreign_right part around members before rest b f c = ((refl, c, f), λ e g. faults_of_foreign e before rest b f g)

-- the bracket after which these lists stand open
opens_here : (members : List Node) (around : List Level) (before rest : List ℕ) → in_comment before ≡ false → opening before ≡ closing before + length around → length around < deepest
    → IsRooted (record { members = members; inner = place_after before } ∷ around) → ((e : ReadRefusal) → Opened e before → ⊥)
    → IsRight (Ok (reading parts.Gap [] (record { members = members; inner = place_after before } ∷ around))) before open_bracket rest
opens_here members around before rest c count few rooted which =
    let counts = count_open before c in (
      record {
        comment = comment_stays before open_bracket c (λ e. absurd (omega (arith, e)));
        count = omega (arith, count, counts.0, counts.1);
        few = omega (arith, few);
        placed = rooted;
      },
      λ e f. which e (faults_of_open e before rest open_bracket refl f),
    )

first_only : (e : ReadRefusal) (before : List ℕ) → opening before ≡ closing before + 0 → opening before ≡ 0 → Opened e before → ⊥
unfolding Opened
first_only e before count top (inl h) = let k = h.1.0 in absurd (omega (arith, k, count, top))
first_only e before count top (inr h) = let k = h.1 in absurd (omega (arith, k, count, top))

inner_only : (e : ReadRefusal) (before : List ℕ) (level : Level) (around : List Level) → opening before ≡ closing before + length (level ∷ around) → length (level ∷ around) < deepest → Opened e before → ⊥
unfolding Opened
inner_only e before level around count few (inl h) = let k = h.1.1 in absurd (omega (arith, k, count, few))
inner_only e before level around count few (inr h) = let k = h.1 in absurd (omega (arith, k, count, few))

open_top_right : (members : List Node) (before rest : List ℕ) → in_comment before ≡ false → opening before ≡ closing before + 0 → IsTop members before
    → IsRight (opened (place_after before) members []) before open_bracket rest
unfolding Opened
open_top_right [] before rest c count top = opens_here [] [] before rest c count (omega arith) refl (λ e f. first_only e before count top f)
open_top_right (word name place ∷ ns) before rest c count top = absurd top
open_top_right (list nodes place ∷ []) before rest c count top =
    ((refl, c, (top, omega (arith, count)), inr (inl refl)), λ e f. elim (faults_of_open e before rest open_bracket refl f) [ inl h ↦ h.0 | inr h ↦ absurd (let k = h.1 in omega (arith, k, count)) ])
open_top_right (list nodes place ∷ n ∷ ns) before rest c count top = absurd top

rooted_more : (members : List Node) (at : Place) (level : Level) (around : List Level) → IsRooted (level ∷ around) → IsRooted (record { members = members; inner = at } ∷ level ∷ around)
rooted_more members at level around h = h

open_if_right : (b : Bool) (members : List Node) (level : Level) (around : List Level) (before rest : List ℕ) → in_comment before ≡ false → opening before ≡ closing before + length (level ∷ around)
    → length (level ∷ around) ≤ deepest → IsRooted (level ∷ around) → (b ≡ true → length (level ∷ around) < deepest) → (b ≡ false → deepest ≤ length (level ∷ around))
    → IsRight (cond b (Ok (reading parts.Gap [] (record { members = members; inner = place_after before } ∷ level ∷ around))) (Err (Deep (place_after before)))) before open_bracket rest
unfolding Opened
open_if_right true members level around before rest c count few rooted below above =
    let lt = below refl in
    opens_here members (level ∷ around) before rest c count lt (rooted_more members (place_after before) level around rooted) (λ e f. inner_only e before level around count lt f)
open_if_right false members level around before rest c count few rooted below above =
    let le = above refl in
    ((refl, c, refl, omega (arith, count, le, few)), λ e f. elim (faults_of_open e before rest open_bracket refl f) [ inl h ↦ absurd (let k = h.1.1 in omega (arith, k, count, le)) | inr h ↦ h.0 ])

open_right : (part : Part) (around : List Level) (members : List Node) (before rest : List ℕ) → in_comment before ≡ false → Stands before part members around
    → IsRight (read_byte kinds.Open (reading part members around) (place_after before) open_bracket) before open_bracket rest
unfolding read_byte
open_right part [] members before rest c h =
    let same = top_of part members before h.placed in
    subst (λ (ns : List Node). IsRight (opened (place_after before) ns []) before open_bracket rest) (sym same) (open_top_right members before rest c h.count h.placed.1)
open_right part (level ∷ around) members before rest c h =
    rw (not_none level around)
    (open_if_right (ltb (length (level ∷ around)) deepest) (ended part members) level around before rest c h.count h.few h.placed
    (λ e. ltb-true (length (level ∷ around)) deepest e) (λ e. ltb-false (length (level ∷ around)) deepest e))

-- ---- any byte

foreign_from : (b : ℕ) → IsOfKind kinds.Foreign b → IsForeign b
foreign_from b h = (h.0, λ s. elim s [ inl w ↦ h.1 w | inr t ↦ elim t [ inl o ↦ h.2 o | inr c ↦ h.3 c ] ], h.4)

byte_right : (k : Kind) (b : ℕ) → IsOfKind k b → (part : Part) (members : List Node) (around : List Level) (before rest : List ℕ) → in_comment before ≡ false → Stands before part members around
    → IsRight (read_byte k (reading part members around) (place_after before) b) before b rest
byte_right kinds.Space b h part members around before rest c s = space_right part members around before rest b h c s
byte_right kinds.Comment b h part members around before rest c s =
    subst (λ (x : ℕ). IsRight (read_byte kinds.Comment (reading part members around) (place_after before) x) before x rest) (sym h) (semicolon_right part members around before rest c s)
byte_right kinds.Open b h part members around before rest c s =
    subst (λ (x : ℕ). IsRight (read_byte kinds.Open (reading part members around) (place_after before) x) before x rest) (sym h) (open_right part around members before rest c s)
byte_right kinds.Close b h part members around before rest c s =
    subst (λ (x : ℕ). IsRight (read_byte kinds.Close (reading part members around) (place_after before) x) before x rest) (sym h) (close_right part around members before rest c s)
byte_right kinds.Word b h part members around before rest c s = word_right part around members before rest b h c s
byte_right kinds.Foreign b h part members around before rest c s = foreign_right part around members before rest b (foreign_from b h) c

step_right : (part : Part) (members : List Node) (around : List Level) (before rest : List ℕ) (b : ℕ) → Stands before part members around
    → IsRight (step (reading part members around) (place_after before) b) before b rest
unfolding step
step_right parts.Gap members around before rest b s = byte_right (kind_of b) b (is_of_kind b) parts.Gap members around before rest s.comment s
step_right parts.Comment members around before rest b s = comment_right members around before rest b s
step_right (parts.Word name place) members around before rest b s = byte_right (kind_of b) b (is_of_kind b) (parts.Word name place) members around before rest s.comment s

-- ---- the end

abbrev IsRightEnd : Result Node ReadRefusal → List ℕ → Type 0
IsRightEnd (Ok n) before = (e : ReadRefusal) → IsFault e before [] → ⊥
IsRightEnd (Err f) before = IsFault f before [] × ((e : ReadRefusal) → IsFault e before [] → e ≡ f)

end_top : (members : List Node) (before : List ℕ) → opening before ≡ closing before + 0 → IsTop members before → IsRightEnd (single_list (place_after before) members) before
end_top [] before count top = ((refl, λ h. let k = h.0 in absurd (omega (arith, k, top))), λ e f. (faults_of_end e before f).0)
end_top (word name place ∷ ns) before count top = absurd top
end_top (list nodes place ∷ []) before count top = λ e f. (faults_of_end e before f).1 (top, omega (arith, count))
end_top (list nodes place ∷ n ∷ ns) before count top = absurd top

end_right : (part : Part) (around : List Level) (members : List Node) (before : List ℕ) → Stands before part members around → IsRightEnd (finished (place_after before) (reading part members around)) before
end_right part [] members before s =
    let same = top_of part members before s.placed in
    subst (λ (ns : List Node). IsRightEnd (single_list (place_after before) ns) before) (sym same) (end_top members before s.count s.placed.1)
end_right part (level ∷ around) members before s =
    let count = s.count in
    ((refl, λ h. let k = h.1 in absurd (omega (arith, k, count))), λ e f. (faults_of_end e before f).0)

-- ---- the whole text

start_stands : Stands [] parts.Gap [] []
start_stands = record { comment = refl; count = omega arith; few = omega arith; placed = (tt, refl) }

-- no fault stands in a beginning that is shorter
abbrev NoneBelow : List ℕ → ℕ → Type 0
NoneBelow text n = (shorter more : List ℕ) (other : ReadRefusal) → text ≡ shorter ++ more → length shorter < n → IsFault other shorter more → ⊥

-- beginnings of one length are one
one_beginning : (a b c d : List ℕ) → a ++ b ≡ c ++ d → length a ≡ length c → (a ≡ c) × (b ≡ d)
one_beginning [] b [] d e l = (refl, e)
one_beginning [] b (y ∷ c) d e l = absurd (omega (arith, l))
one_beginning (x ∷ a) b [] d e l = absurd (omega (arith, l))
one_beginning (x ∷ a) b (y ∷ c) d e l =
    let first : x ≡ y = cc (e) in
    let behind : a ++ b ≡ c ++ d = cc (e) in
    let rest = one_beginning a b c d behind (omega (arith, l)) in
    (ap (λ (t : List ℕ). x ∷ t) rest.0 ∙ ap (λ (n : ℕ). n ∷ c) first, rest.1)

none_more : (text before rest : List ℕ) (b : ℕ) → text ≡ before ++ b ∷ rest → NoneBelow text (length before) → ((e : ReadRefusal) → IsFault e before (b ∷ rest) → ⊥) → NoneBelow text (length (before ++ b ∷ []))
none_more text before rest b is below here shorter more other e lt fault =
    elim (cases_lt (length shorter) (length before)) [
      | inl less ↦ below shorter more other e less fault
      | inr le ↦
          let long : length (before ++ b ∷ []) ≡ length before + 1 = length_push before b in
          let same = one_beginning shorter more before (b ∷ rest) (sym e ∙ is) (omega (arith, le, lt, long)) in
          here other (subst (λ (t : List ℕ). IsFault other t (b ∷ rest)) same.0 (subst (λ (t : List ℕ). IsFault other shorter t) same.1 fault))
    ]

place_more : (before : List ℕ) (b : ℕ) → place_after (before ++ b ∷ []) ≡ next_place (place_after before) b
place_more before b = place_from-append (place_after []) before (b ∷ [])

regroup : (text before rest : List ℕ) (b : ℕ) → text ≡ before ++ b ∷ rest → text ≡ (before ++ b ∷ []) ++ rest
regroup text before rest b e = e ∙ sym (append_assoc before (b ∷ []) rest)

-- what a run from here that stops tells, by the outcome of its first step
stops_after : (o : Result State ReadRefusal) (text before rest : List ℕ) (b : ℕ) (e : ReadRefusal) → IsRight o before b rest → text ≡ before ++ b ∷ rest → NoneBelow text (length before)
    → ((t : State) → Stands (before ++ b ∷ []) t.part t.members t.around → NoneBelow text (length (before ++ b ∷ [])) → run t (place_after (before ++ b ∷ [])) rest ≡ Err e → ReadFault text e)
    → (o >>= λ (t : State). run t (next_place (place_after before) b) rest) ≡ Err e → ReadFault text e
stops_after (Ok t) text before rest b e right is below later stops =
    later t right.0 (none_more text before rest b is below right.1) (ap (λ (p : Place). run t p rest) (place_more before b) ∙ stops)
stops_after (Err f) text before rest b e right is below later stops =
    let same : f ≡ e = cc (stops) in
    subst (λ (x : ReadRefusal). ReadFault text x) same (before, b ∷ rest, is, right.0, below)

end_stops : (o : Result Node ReadRefusal) (text before : List ℕ) (e : ReadRefusal) → IsRightEnd o before → text ≡ before ++ [] → NoneBelow text (length before) → o ≡ Err e → ReadFault text e
end_stops (Ok n) text before e right is below stops = absurd (cc (stops))
end_stops (Err f) text before e right is below stops =
    let same : f ≡ e = cc (stops) in
    subst (λ (x : ReadRefusal). ReadFault text x) same (before, [], is, right.0, below)

stopped : (rest text before : List ℕ) (part : Part) (members : List Node) (around : List Level) (e : ReadRefusal) → Stands before part members around → text ≡ before ++ rest → NoneBelow text (length before)
    → run (reading part members around) (place_after before) rest ≡ Err e → ReadFault text e
unfolding run
stopped [] text before part members around e s is below stops =
    end_stops (finished (place_after before) (reading part members around)) text before e (end_right part around members before s) is below stops
stopped (b ∷ rest) text before part members around e s is below stops =
    let right = step_right part members around before rest b s in
    stops_after (step (reading part members around) (place_after before) b) text before rest b e right is below
    (λ t stands none_here later. stopped rest text (before ++ b ∷ []) t.part t.members t.around e stands (regroup text before rest b is) none_here later)
    stops

-- where the reader stops is the first fault
pub fault_is_first : (text : List ℕ) (e : ReadRefusal) → node_at text ≡ Err e → ReadFault text e
unfolding node_at
fault_is_first text e stops = stopped text text [] parts.Gap [] [] e start_stands refl (λ shorter more other e lt fault. absurd (omega (arith, lt))) stops

-- ---- the other way

-- a fault further right, or here
module _ (text far behind : List ℕ) (e : ReadRefusal) (is_far : text ≡ far ++ behind) (fault : IsFault e far behind) (first : NoneBelow text (length far)) where
  fault_here : (before rest : List ℕ) → text ≡ before ++ rest → length far ≡ length before → IsFault e before rest
  fault_here before rest is same =
      let one = one_beginning far behind before rest (sym is_far ∙ is) same in
      subst (λ (t : List ℕ). IsFault e before t) one.1 (subst (λ (t : List ℕ). IsFault e t behind) one.0 fault)

  end_is : (o : Result Node ReadRefusal) (before : List ℕ) → IsRightEnd o before → IsFault e before [] → o ≡ Err e
  end_is (Ok n) before right f = absurd (right e f)
  end_is (Err g) before right f = ap Err (sym (right.1 e f))

  end_reached : (o : Result Node ReadRefusal) (before : List ℕ) → IsRightEnd o before → text ≡ before ++ [] → length before ≤ length far → o ≡ Err e
  end_reached o before right is le =
      let whole : length (far ++ behind) ≡ length (before ++ []) = ap length (sym is_far ∙ is) in
      let same : length far ≡ length before = omega (arith, whole, le, length-append far behind, length-append {A = ℕ} before []) in
      end_is o before right (fault_here before [] is same)

  here_reached : (o : Result State ReadRefusal) (before rest : List ℕ) (b : ℕ) → IsRight o before b rest → IsFault e before (b ∷ rest)
      → (o >>= λ (t : State). run t (next_place (place_after before) b) rest) ≡ Err e
  here_reached (Ok t) before rest b right f = absurd (right.1 e f)
  here_reached (Err g) before rest b right f = ap Err (sym (right.1 e f))

  later_reached : (o : Result State ReadRefusal) (before rest : List ℕ) (b : ℕ) → IsRight o before b rest → text ≡ before ++ b ∷ rest → length before < length far
      → ((t : State) → Stands (before ++ b ∷ []) t.part t.members t.around → run t (place_after (before ++ b ∷ [])) rest ≡ Err e)
      → (o >>= λ (t : State). run t (next_place (place_after before) b) rest) ≡ Err e
  later_reached (Ok t) before rest b right is lt later = ap (λ (p : Place). run t p rest) (sym (place_more before b)) ∙ later t right.0
  later_reached (Err g) before rest b right is lt later = absurd (first before (b ∷ rest) g is lt right.0)

  reached : (rest before : List ℕ) (part : Part) (members : List Node) (around : List Level) → Stands before part members around → text ≡ before ++ rest → length before ≤ length far
      → run (reading part members around) (place_after before) rest ≡ Err e
  unfolding run
  reached [] before part members around s is le =
      end_reached (finished (place_after before) (reading part members around)) before (end_right part around members before s) is le
  reached (b ∷ rest) before part members around s is le =
      let right = step_right part members around before rest b s in
      elim (cases_lt (length before) (length far)) [
        | inl lt ↦ later_reached (step (reading part members around) (place_after before) b) before rest b right is lt
            (λ t stands. reached rest (before ++ b ∷ []) t.part t.members t.around stands (regroup text before rest b is) (omega (arith, lt, length_push before b)))
        | inr ge ↦ here_reached (step (reading part members around) (place_after before) b) before rest b right (fault_here before (b ∷ rest) is (omega (arith, le, ge)))
      ]

-- where the first fault is the reader stops
pub first_is_fault : (text : List ℕ) (e : ReadRefusal) → ReadFault text e → node_at text ≡ Err e
unfolding node_at
first_is_fault text e f = reached text f.0 f.1 e f.2 f.3 f.4 text [] parts.Gap [] [] start_stands refl (omega arith)
