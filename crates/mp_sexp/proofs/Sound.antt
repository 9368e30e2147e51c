-- What is read is spelled by the text: from the end of the text back to its beginning.
use Rattle.std.proofs.Common.{◌≡◌, ℕ, Bool, true, cond, ltb, List, [], ◌∷◌, ◌++◌, length, Result, Ok, Err, refl, sym, ap, ◌∙◌, subst, append_assoc, arith, inl, inr}
use Rattle.std.specs.List.{AllByRecursion}
use Rattle.std.proofs.lemmas.Bool.{cases_Bool, cases_eq, lt-ltb}
use Rattle.std.proofs.lemmas.List.{append-nil}
use Rattle.mp_sexp.specs.declared.tree.Place.{Place}
use Rattle.mp_sexp.specs.declared.bytes.Kind.{Kind}
use Rattle.mp_sexp.specs.declared.bytes.Kind.TheVariants as kinds
use Rattle.mp_sexp.specs.Part.{Part}
use Rattle.mp_sexp.specs.Part as parts
use Rattle.mp_sexp.specs.Bytes.{IsSpace, IsWordByte, folded, folded_byte, open_bracket, close_bracket, semicolon, line_feed}
use Rattle.mp_sexp.specs.Kinds.{kind_of}
use Rattle.mp_sexp.specs.Node.{Node, Nodes, word, list, none, more, nodes_from}
use Rattle.mp_sexp.specs.Spelling.{next_place, place_from, place_after, deepest, IsGap, IsComment, IsTail, IsCommentTail, EndsWord, SpellsText}
use Rattle.mp_sexp.specs.Reading.{State, Level, opened, closed, spelled_on, step, read_byte, run, finished, single_list, node_at, ◌>>=◌}
use Rattle.mp_sexp.specs.declared.refusal.ReadRefusal.{ReadRefusal}
use Rattle.mp_sexp.specs.declared.refusal.ReadRefusal.TheVariants as refusals
use Rattle.mp_sexp.proofs.KindLemmas.{IsOfKind, is_of_kind}
use Rattle.mp_sexp.proofs.Placed.{SpellsAt, SpellsAllAt, unplaced, place_from-append}
use Rattle.mp_sexp.proofs.Complete.{not_none, comment_ends, comment_goes_on, reading, joined, joined-push, joined-none}

-- the same with a comment that is not ended yet before the first member
abbrev pub SpellsBehindComment : Place → List ℕ → Nodes → Type 0
SpellsBehindComment at text none = IsComment text
SpellsBehindComment at text (more node nodes) =
    (gap body rest : List ℕ) × (text ≡ gap ++ body ++ rest) × IsComment gap × SpellsAt (place_from at gap) body node
    × EndsWord node rest × SpellsAllAt (place_from (place_from at gap) body) rest nodes

-- the same with the rest of a word before the other members
abbrev pub SpellsBehindWord : List ℕ → Place → Place → List ℕ → Nodes → Type 0
SpellsBehindWord name begin at text nodes =
    (letters rest : List ℕ) × (others : Nodes) × (text ≡ letters ++ rest) × AllByRecursion IsWordByte letters
    × (nodes ≡ more (word (name ++ folded letters) begin) others) × EndsWord (word name begin) rest × SpellsAllAt (place_from at letters) rest others

abbrev pub SpellsOn : Part → Place → List ℕ → Nodes → Type 0
SpellsOn parts.Gap at text nodes = SpellsAllAt at text nodes
SpellsOn parts.Comment at text nodes = SpellsBehindComment at text nodes
SpellsOn (parts.Word name begin) at text nodes = SpellsBehindWord name begin at text nodes

abbrev pub IsList : Node → Type 0
IsList (word name place) = ⊥
IsList (list nodes place) = Unit {0}

-- the one list among these
abbrev pub IsOnly : List Node → Node → Type 0
IsOnly [] node = ⊥
IsOnly (word name place ∷ ns) node = ⊥
IsOnly (list nodes place ∷ []) node = list nodes place ≡ node
IsOnly (list nodes place ∷ n ∷ ns) node = ⊥

pub is_only : (ns : List Node) (at : Place) (node : Node) → single_list at ns ≡ Ok node → IsOnly ns node
is_only [] at node e = absurd (cc (e))
is_only (word name place ∷ ns) at node e = absurd (cc (e))
is_only (list nodes place ∷ []) at node e = cc (e)
is_only (list nodes place ∷ n ∷ ns) at node e = absurd (cc (e))

-- what a text is to be outside of all brackets, so that the node is read
abbrev pub ReadsLast : Part → List Node → Place → List ℕ → Node → Type 0
ReadsLast parts.Gap [] at text node =
    (gap body tail : List ℕ) × (text ≡ gap ++ body ++ tail) × IsGap gap × IsList node × SpellsAt (place_from at gap) body node × IsTail tail
ReadsLast parts.Gap (m ∷ ms) at text node = IsOnly (m ∷ ms) node × IsTail text
ReadsLast parts.Comment [] at text node =
    (gap body tail : List ℕ) × (text ≡ gap ++ body ++ tail) × IsComment gap × IsList node × SpellsAt (place_from at gap) body node × IsTail tail
ReadsLast parts.Comment (m ∷ ms) at text node = IsOnly (m ∷ ms) node × IsCommentTail text
ReadsLast (parts.Word name begin) members at text node = IsOnly (members ++ word name begin ∷ []) node × IsTail text

-- what a text is to be behind this state, so that the node is read
abbrev pub Reads : Part → List Node → List Level → Place → List ℕ → Node → Type 0
Reads part members [] at text node = ReadsLast part members at text node
Reads part members (level ∷ around) at text node =
    (inner rest : List ℕ) × (nodes : Nodes) × (text ≡ inner ++ close_bracket ∷ rest) × SpellsOn part at inner nodes
    × Reads parts.Gap (level.members ++ list (joined members nodes) level.inner ∷ []) around (next_place (place_from at inner) close_bracket) rest node

-- ---- one byte back

space_back_all : (nodes : Nodes) (at : Place) (b : ℕ) (text : List ℕ) → IsSpace b → SpellsAllAt (next_place at b) text nodes → SpellsAllAt at (b ∷ text) nodes
space_back_all none at b text s h = inl (s, h)
space_back_all (more node nodes) at b text s h = (b ∷ h.0, h.1, h.2, ap (λ (t : List ℕ). b ∷ t) h.3, inl (s, h.4), h.5, h.6, h.7)

comment_back_all : (nodes : Nodes) (at : Place) (b : ℕ) (text : List ℕ) → b ≡ semicolon → SpellsBehindComment (next_place at b) text nodes → SpellsAllAt at (b ∷ text) nodes
comment_back_all none at b text s h = inr (s, h)
comment_back_all (more node nodes) at b text s h = (b ∷ h.0, h.1, h.2, ap (λ (t : List ℕ). b ∷ t) h.3, inr (s, h.4), h.5, h.6, h.7)

feed_back_all : (nodes : Nodes) (at : Place) (b : ℕ) (text : List ℕ) → b ≡ line_feed → SpellsAllAt (next_place at b) text nodes → SpellsBehindComment at (b ∷ text) nodes
feed_back_all none at b text s h = inl (s, h)
feed_back_all (more node nodes) at b text s h = (b ∷ h.0, h.1, h.2, ap (λ (t : List ℕ). b ∷ t) h.3, inl (s, h.4), h.5, h.6, h.7)

on_back_all : (nodes : Nodes) (at : Place) (b : ℕ) (text : List ℕ) → (b ≡ line_feed → ⊥) → SpellsBehindComment (next_place at b) text nodes → SpellsBehindComment at (b ∷ text) nodes
on_back_all none at b text s h = inr (s, h)
on_back_all (more node nodes) at b text s h = (b ∷ h.0, h.1, h.2, ap (λ (t : List ℕ). b ∷ t) h.3, inr (s, h.4), h.5, h.6, h.7)

space_back : (around : List Level) (members : List Node) (at : Place) (b : ℕ) (text : List ℕ) (node : Node) → IsSpace b → Reads parts.Gap members around (next_place at b) text node → Reads parts.Gap members around at (b ∷ text) node
space_back [] [] at b text node s h = (b ∷ h.0, h.1, h.2, ap (λ (t : List ℕ). b ∷ t) h.3, inl (s, h.4), h.5, h.6, h.7)
space_back [] (m ∷ ms) at b text node s h = (h.0, inl (s, h.1))
space_back (level ∷ around) members at b text node s h = (b ∷ h.0, h.1, h.2, ap (λ (t : List ℕ). b ∷ t) h.3, space_back_all h.2 at b h.0 s h.4, h.5)

comment_back : (around : List Level) (members : List Node) (at : Place) (b : ℕ) (text : List ℕ) (node : Node) → b ≡ semicolon → Reads parts.Comment members around (next_place at b) text node → Reads parts.Gap members around at (b ∷ text) node
comment_back [] [] at b text node s h = (b ∷ h.0, h.1, h.2, ap (λ (t : List ℕ). b ∷ t) h.3, inr (s, h.4), h.5, h.6, h.7)
comment_back [] (m ∷ ms) at b text node s h = (h.0, inr (s, h.1))
comment_back (level ∷ around) members at b text node s h = (b ∷ h.0, h.1, h.2, ap (λ (t : List ℕ). b ∷ t) h.3, comment_back_all h.2 at b h.0 s h.4, h.5)

feed_back : (around : List Level) (members : List Node) (at : Place) (b : ℕ) (text : List ℕ) (node : Node) → b ≡ line_feed → Reads parts.Gap members around (next_place at b) text node → Reads parts.Comment members around at (b ∷ text) node
feed_back [] [] at b text node s h = (b ∷ h.0, h.1, h.2, ap (λ (t : List ℕ). b ∷ t) h.3, inl (s, h.4), h.5, h.6, h.7)
feed_back [] (m ∷ ms) at b text node s h = (h.0, inl (s, h.1))
feed_back (level ∷ around) members at b text node s h = (b ∷ h.0, h.1, h.2, ap (λ (t : List ℕ). b ∷ t) h.3, feed_back_all h.2 at b h.0 s h.4, h.5)

on_back : (around : List Level) (members : List Node) (at : Place) (b : ℕ) (text : List ℕ) (node : Node) → (b ≡ line_feed → ⊥) → Reads parts.Comment members around (next_place at b) text node → Reads parts.Comment members around at (b ∷ text) node
on_back [] [] at b text node s h = (b ∷ h.0, h.1, h.2, ap (λ (t : List ℕ). b ∷ t) h.3, inr (s, h.4), h.5, h.6, h.7)
on_back [] (m ∷ ms) at b text node s h = (h.0, inr (s, h.1))
on_back (level ∷ around) members at b text node s h = (b ∷ h.0, h.1, h.2, ap (λ (t : List ℕ). b ∷ t) h.3, on_back_all h.2 at b h.0 s h.4, h.5)

close_back : (members : List Node) (level : Level) (around : List Level) (at : Place) (b : ℕ) (text : List ℕ) (node : Node) → b ≡ close_bracket
    → Reads parts.Gap (level.members ++ list (nodes_from members) level.inner ∷ []) around (next_place at b) text node → Reads parts.Gap members (level ∷ around) at (b ∷ text) node
close_back members level around at b text node s h = (
  [],
  text,
  none,
  ap (λ (c : ℕ). c ∷ text) s,
  tt,
  subst (λ (ns : Nodes). Reads parts.Gap (level.members ++ list ns level.inner ∷ []) around (next_place at close_bracket) text node) (sym (joined-none members))
      (subst (λ (c : ℕ). Reads parts.Gap (level.members ++ list (nodes_from members) level.inner ∷ []) around (next_place at c) text node) s h),
)

-- a bracket with its inside
bracketed : List ℕ → List ℕ
bracketed inner = open_bracket ∷ inner ++ close_bracket ∷ []

place_from-bracketed : (at : Place) (inner : List ℕ) → place_from at (open_bracket ∷ inner ++ close_bracket ∷ []) ≡ next_place (place_from (next_place at open_bracket) inner) close_bracket
place_from-bracketed at inner = place_from-append (next_place at open_bracket) inner (close_bracket ∷ [])

bracketed-append : (inner rest : List ℕ) → (open_bracket ∷ inner ++ close_bracket ∷ []) ++ rest ≡ open_bracket ∷ inner ++ close_bracket ∷ rest
bracketed-append inner rest = append_assoc (open_bracket ∷ inner) (close_bracket ∷ []) rest

open_last_here : (at : Place) (text : List ℕ) (node : Node)
    → Reads parts.Gap [] (record { members = []; inner = at } ∷ []) (next_place at open_bracket) text node → Reads parts.Gap [] [] at (open_bracket ∷ text) node
open_last_here at text node h =
    let body : List ℕ = open_bracket ∷ h.0 ++ close_bracket ∷ [] in
    let made : list h.2 at ≡ node = h.5.0 in
    subst (λ (n : Node). Reads parts.Gap [] [] at (open_bracket ∷ text) n) made
    ([], body, h.1, ap (λ (t : List ℕ). open_bracket ∷ t) h.3 ∙ sym (bracketed-append h.0 h.1), tt, tt, (h.0, refl, refl, h.4), h.5.1)

open_back_last : (at : Place) (b : ℕ) (text : List ℕ) (node : Node) → b ≡ open_bracket
    → Reads parts.Gap [] (record { members = []; inner = at } ∷ []) (next_place at b) text node → Reads parts.Gap [] [] at (b ∷ text) node
open_back_last at b text node s h =
    let P : ℕ → Type 0 = λ c. Reads parts.Gap [] (record { members = []; inner = at } ∷ []) (next_place at c) text node → Reads parts.Gap [] [] at (c ∷ text) node in
    subst P (sym s) (open_last_here at text node) h

open_here : (members : List Node) (level : Level) (around : List Level) (at : Place) (text : List ℕ) (node : Node)
    → Reads parts.Gap [] (record { members = members; inner = at } ∷ level ∷ around) (next_place at open_bracket) text node → Reads parts.Gap members (level ∷ around) at (open_bracket ∷ text) node
open_here members level around at text node h =
    let inner = h.0 in
    let nodes = h.2 in
    let r = h.5 in
    let body : List ℕ = open_bracket ∷ inner ++ close_bracket ∷ [] in
    let made = list nodes at in
    let at_rest = place_from-bracketed at inner in
    let behind = next_place (place_from (next_place at open_bracket) inner) close_bracket in
    let at_end : place_from at (body ++ r.0) ≡ place_from behind r.0 = place_from-append at body r.0 ∙ ap (λ (p : Place). place_from p r.0) at_rest in
    let parted : open_bracket ∷ text ≡ (body ++ r.0) ++ close_bracket ∷ r.1 =
    ap (λ (t : List ℕ). open_bracket ∷ t) (h.3 ∙ ap (λ (t : List ℕ). inner ++ close_bracket ∷ t) r.3)
    ∙ sym (bracketed-append inner (r.0 ++ close_bracket ∷ r.1)) ∙ sym (append_assoc body r.0 (close_bracket ∷ r.1)) in (
      body ++ r.0,
      r.1,
      more made r.2,
      parted,
      ([], body, r.0, refl, tt, (inner, refl, refl, h.4), tt, subst (λ (p : Place). SpellsAllAt p r.0 r.2) (sym at_rest) r.4),
      subst (λ (ns : Nodes). Reads parts.Gap (level.members ++ list ns level.inner ∷ []) around (next_place (place_from at (body ++ r.0)) close_bracket) r.1 node) (joined-push members made r.2)
          (subst (λ (p : Place). Reads parts.Gap (level.members ++ list (joined (members ++ made ∷ []) r.2) level.inner ∷ []) around (next_place p close_bracket) r.1 node) (sym at_end) r.5),
    )

open_back : (members : List Node) (level : Level) (around : List Level) (at : Place) (b : ℕ) (text : List ℕ) (node : Node) → b ≡ open_bracket
    → Reads parts.Gap [] (record { members = members; inner = at } ∷ level ∷ around) (next_place at b) text node → Reads parts.Gap members (level ∷ around) at (b ∷ text) node
open_back members level around at b text node s h =
    let P : ℕ → Type 0 = λ c. Reads parts.Gap [] (record { members = members; inner = at } ∷ level ∷ around) (next_place at c) text node → Reads parts.Gap members (level ∷ around) at (c ∷ text) node in
    subst P (sym s) (open_here members level around at text node) h

begin_back : (members : List Node) (level : Level) (around : List Level) (at : Place) (b : ℕ) (text : List ℕ) (node : Node) → IsWordByte b
    → Reads (parts.Word (folded_byte b ∷ []) at) members (level ∷ around) (next_place at b) text node → Reads parts.Gap members (level ∷ around) at (b ∷ text) node
begin_back members level around at b text node w h =
    let s = h.4 in (
      b ∷ h.0,
      h.1,
      h.2,
      ap (λ (t : List ℕ). b ∷ t) h.3,
      subst (λ (ns : Nodes). SpellsAllAt at (b ∷ h.0) ns) (sym s.5) ([], b ∷ s.0, s.1, ap (λ (t : List ℕ). b ∷ t) s.3, tt, ((w, s.4), refl, refl), s.6, s.7),
      h.5,
    )

letter_back : (name : List ℕ) (begin : Place) (members : List Node) (level : Level) (around : List Level) (at : Place) (b : ℕ) (text : List ℕ) (node : Node) → IsWordByte b
    → Reads (parts.Word (name ++ folded_byte b ∷ []) begin) members (level ∷ around) (next_place at b) text node → Reads (parts.Word name begin) members (level ∷ around) at (b ∷ text) node
letter_back name begin members level around at b text node w h =
    let s = h.4 in (
      b ∷ h.0,
      h.1,
      h.2,
      ap (λ (t : List ℕ). b ∷ t) h.3,
      (b ∷ s.0, s.1, s.2, ap (λ (t : List ℕ). b ∷ t) s.3, (w, s.4), s.5 ∙ ap (λ (t : List ℕ). more (word t begin) s.2) (append_assoc name (folded_byte b ∷ []) (folded s.0)), s.6, s.7),
      h.5,
    )

first_stops : (name : List ℕ) (begin : Place) (b : ℕ) (text inner rest : List ℕ) → (IsWordByte b → ⊥) → b ∷ text ≡ inner ++ rest → EndsWord (word name begin) inner
first_stops name begin b text [] rest n e = tt
first_stops name begin b text (c ∷ cs) rest n e = λ w. n (let same : c ≡ b = cc (e) in subst IsWordByte same w)

ended_back : (around : List Level) (members : List Node) (name : List ℕ) (begin : Place) (at : Place) (b : ℕ) (text : List ℕ) (node : Node) → (IsWordByte b → ⊥)
    → Reads parts.Gap (members ++ word name begin ∷ []) around at (b ∷ text) node → Reads (parts.Word name begin) members around at (b ∷ text) node
ended_back [] [] name begin at b text node n h = h
ended_back [] (m ∷ ms) name begin at b text node n h = h
ended_back (level ∷ around) members name begin at b text node n h = (
  h.0,
  h.1,
  more (word name begin) h.2,
  h.3,
  ([], h.0, h.2, refl, tt, ap (λ (t : List ℕ). more (word t begin) h.2) (sym (append-nil name)), first_stops name begin b text h.0 (close_bracket ∷ h.1) n h.3, h.4),
  subst (λ (ns : Nodes). Reads parts.Gap (level.members ++ list ns level.inner ∷ []) around (next_place (place_from at h.0) close_bracket) h.1 node) (joined-push members (word name begin) h.2) h.5,
)

-- ---- the whole text

-- that the rest of the text leads from this state to the node
abbrev pub Leads : Result State ReadRefusal → Place → List ℕ → Node → Type 0
Leads o at text node = (o >>= λ (t : State). run t at text) ≡ Ok node

-- what is said of the rest of the text, in any state
abbrev pub IsKnown : List ℕ → Node → Type 0
IsKnown text node =
    (part : Part) (members : List Node) (around : List Level) (at : Place) → run (reading part members around) at text ≡ Ok node → Reads part members around at text node

-- no second list begins
pub second_trails : (at : Place) (m : Node) (ms : List Node) → opened at (m ∷ ms) [] ≡ Err (refusals.Trailing at)
second_trails at m ms =
    let some : ltb 0 (length (m ∷ ms)) ≡ true = lt-ltb 0 (length (m ∷ ms)) (omega arith) in
    rw some refl

second_refused : (at : Place) (m : Node) (ms : List Node) (next : Place) (text : List ℕ) (node : Node) → Leads (opened at (m ∷ ms) []) next text node → ⊥
second_refused at m ms next text node e =
    let f : Leads (Err (refusals.Trailing at)) next text node = rw (second_trails at m ms) at e in
    absurd (cc (f))

opened_leads : (at : Place) (members : List Node) (level : Level) (around : List Level) (next : Place) (text : List ℕ) (node : Node) → Leads (opened at members (level ∷ around)) next text node
    → run (reading parts.Gap [] (record { members = members; inner = at } ∷ level ∷ around)) next text ≡ Ok node
opened_leads at members level around next text node e =
    let made : Result State ReadRefusal = Ok (reading parts.Gap [] (record { members = members; inner = at } ∷ level ∷ around)) in
    let not_made : Result State ReadRefusal = Err (refusals.Deep at) in
    let chosen : opened at members (level ∷ around) ≡ cond (ltb (length (level ∷ around)) deepest) made not_made = rw (not_none level around) refl in
    elim (cases_Bool (ltb (length (level ∷ around)) deepest)) [
      | inl few ↦ subst (λ (o : Result State ReadRefusal). Leads o next text node) (chosen ∙ ap (λ (v : Bool). cond v made not_made) few) e
      | inr many ↦ absurd (let f = subst (λ (o : Result State ReadRefusal). Leads o next text node) (chosen ∙ ap (λ (v : Bool). cond v made not_made) many) e in cc (f))
    ]

kinds_differ_space : (b : ℕ) → IsSpace b → IsWordByte b → ⊥
kinds_differ_space b s w = grind arith

opened_back : (around : List Level) (members : List Node) (at : Place) (b : ℕ) (text : List ℕ) (node : Node) → b ≡ open_bracket → IsKnown text node
    → Leads (opened at members around) (next_place at b) text node → Reads parts.Gap members around at (b ∷ text) node
opened_back [] [] at b text node s known e = open_back_last at b text node s (known parts.Gap [] (record { members = []; inner = at } ∷ []) (next_place at b) e)
opened_back [] (m ∷ ms) at b text node s known e = absurd (second_refused at m ms (next_place at b) text node e)
opened_back (level ∷ around) members at b text node s known e =
    let opens = record { members = members; inner = at } ∷ level ∷ around in
    let on = opened_leads at members level around (next_place at b) text node e in
    open_back members level around at b text node s (known parts.Gap [] opens (next_place at b) on)

closed_back : (around : List Level) (members : List Node) (at : Place) (b : ℕ) (text : List ℕ) (node : Node) → b ≡ close_bracket → IsKnown text node
    → Leads (closed at members around) (next_place at b) text node → Reads parts.Gap members around at (b ∷ text) node
closed_back [] members at b text node s known e = absurd (cc (e))
closed_back (level ∷ around) members at b text node s known e =
    close_back members level around at b text node s (known parts.Gap (level.members ++ list (nodes_from members) level.inner ∷ []) around (next_place at b) e)

begun_back : (around : List Level) (members : List Node) (at : Place) (b : ℕ) (text : List ℕ) (node : Node) → IsWordByte b → IsKnown text node
    → Leads (spelled_on (reading parts.Gap members around) at b) (next_place at b) text node → Reads parts.Gap members around at (b ∷ text) node
begun_back [] members at b text node w known e = absurd (cc (e))
begun_back (level ∷ around) members at b text node w known e =
    begin_back members level around at b text node w (known (parts.Word (folded_byte b ∷ []) at) members (level ∷ around) (next_place at b) (rw (not_none level around) at e))

lettered_back : (around : List Level) (members : List Node) (name : List ℕ) (begin : Place) (at : Place) (b : ℕ) (text : List ℕ) (node : Node) → IsWordByte b → IsKnown text node
    → Leads (spelled_on (reading (parts.Word name begin) members around) at b) (next_place at b) text node → Reads (parts.Word name begin) members around at (b ∷ text) node
lettered_back [] members name begin at b text node w known e = absurd (cc (e))
lettered_back (level ∷ around) members name begin at b text node w known e =
    letter_back name begin members level around at b text node w (known (parts.Word (name ++ folded_byte b ∷ []) begin) members (level ∷ around) (next_place at b) (rw (not_none level around) at e))

-- a byte behind a gap
byte_back : (k : Kind) (b : ℕ) → IsOfKind k b → (members : List Node) (around : List Level) (at : Place) (text : List ℕ) (node : Node) → IsKnown text node
    → Leads (read_byte k (reading parts.Gap members around) at b) (next_place at b) text node → Reads parts.Gap members around at (b ∷ text) node
unfolding read_byte
byte_back kinds.Space b h members around at text node known e = space_back around members at b text node h (known parts.Gap members around (next_place at b) e)
byte_back kinds.Comment b h members around at text node known e = comment_back around members at b text node h (known parts.Comment members around (next_place at b) e)
byte_back kinds.Open b h members around at text node known e = opened_back around members at b text node h known e
byte_back kinds.Close b h members around at text node known e = closed_back around members at b text node h known e
byte_back kinds.Word b h members around at text node known e = begun_back around members at b text node h known e
byte_back kinds.Foreign b h members around at text node known e = absurd (cc (e))

-- a byte behind a word
word_byte_back : (k : Kind) (b : ℕ) → IsOfKind k b → (members : List Node) (name : List ℕ) (begin : Place) (around : List Level) (at : Place) (text : List ℕ) (node : Node) → IsKnown text node
    → Leads (read_byte k (reading (parts.Word name begin) members around) at b) (next_place at b) text node → Reads (parts.Word name begin) members around at (b ∷ text) node
unfolding read_byte
word_byte_back kinds.Space b h members name begin around at text node known e =
    ended_back around members name begin at b text node (λ w. kinds_differ_space b h w) (byte_back kinds.Space b h (members ++ word name begin ∷ []) around at text node known e)
word_byte_back kinds.Comment b h members name begin around at text node known e =
    ended_back around members name begin at b text node (λ w. w.4 h) (byte_back kinds.Comment b h (members ++ word name begin ∷ []) around at text node known e)
word_byte_back kinds.Open b h members name begin around at text node known e =
    ended_back around members name begin at b text node (λ w. w.2 h) (byte_back kinds.Open b h (members ++ word name begin ∷ []) around at text node known e)
word_byte_back kinds.Close b h members name begin around at text node known e =
    ended_back around members name begin at b text node (λ w. w.3 h) (byte_back kinds.Close b h (members ++ word name begin ∷ []) around at text node known e)
word_byte_back kinds.Word b h members name begin around at text node known e = lettered_back around members name begin at b text node h known e
word_byte_back kinds.Foreign b h members name begin around at text node known e = absurd (cc (e))

-- the end of the text
at_end : (part : Part) (members : List Node) (around : List Level) (at : Place) (node : Node) → finished at (reading part members around) ≡ Ok node → Reads part members around at [] node
at_end parts.Gap [] [] at node e = absurd (cc (e))
at_end parts.Gap (m ∷ ms) [] at node e = (is_only (m ∷ ms) at node e, tt)
at_end parts.Comment [] [] at node e = absurd (cc (e))
at_end parts.Comment (m ∷ ms) [] at node e = (is_only (m ∷ ms) at node e, tt)
at_end (parts.Word name begin) members [] at node e = (is_only (members ++ word name begin ∷ []) at node e, tt)
at_end part members (level ∷ around) at node e = absurd (cc (e))

leads_from : (s : State) (at : Place) (b : ℕ) (text : List ℕ) (node : Node) → run s at (b ∷ text) ≡ Ok node → Leads (step s at b) (next_place at b) text node
unfolding run
leads_from s at b text node e = e

comment_byte_back : (members : List Node) (around : List Level) (at : Place) (b : ℕ) (text : List ℕ) (node : Node) → IsKnown text node
    → Leads (step (reading parts.Comment members around) at b) (next_place at b) text node → Reads parts.Comment members around at (b ∷ text) node
comment_byte_back members around at b text node known e =
    elim (cases_eq b line_feed) [
      | inl h ↦ feed_back around members at b text node h (known parts.Gap members around (next_place at b) (rw (comment_ends members around at b h) at e))
      | inr h ↦ on_back around members at b text node h (known parts.Comment members around (next_place at b) (rw (comment_goes_on members around at b h) at e))
    ]

known_after : (part : Part) (members : List Node) (around : List Level) (at : Place) (b : ℕ) (text : List ℕ) (node : Node) → IsKnown text node
    → Leads (step (reading part members around) at b) (next_place at b) text node → Reads part members around at (b ∷ text) node
unfolding step
known_after parts.Gap members around at b text node known e = byte_back (kind_of b) b (is_of_kind b) members around at text node known e
known_after parts.Comment members around at b text node known e = comment_byte_back members around at b text node known e
known_after (parts.Word name begin) members around at b text node known e = word_byte_back (kind_of b) b (is_of_kind b) members name begin around at text node known e

all_known : (text : List ℕ) (node : Node) → IsKnown text node
unfolding run
all_known [] node part members around at e = at_end part members around at node e
all_known (b ∷ text) node part members around at e =
    known_after part members around at b text node (all_known text node) (leads_from (reading part members around) at b text node e)

-- what is read is spelled by the text
pub is_spelled : (node : Node) (text : List ℕ) → node_at text ≡ Ok node → SpellsText text node
unfolding node_at
is_spelled (word name place) text e = absurd (all_known text (word name place) parts.Gap [] [] (place_after []) e).5
is_spelled (list nodes place) text e =
    let h = all_known text (list nodes place) parts.Gap [] [] (place_after []) e in
    (h.0, h.1, h.2, h.3, h.4, unplaced (list nodes place) h.0 h.1 h.6, h.7)
