-- Spelling, with the place of a text's first byte in place of the text before it.
use Rattle.std.proofs.Common.{◌≡◌, ℕ, List, [], ◌∷◌, ◌++◌, length, refl, sym, ap, ◌∙◌, subst, arith}
use Rattle.std.specs.Prelude.{All}
use Rattle.std.specs.List.{AllByRecursion}
use Rattle.std.proofs.lemmas.List.Elements.{All-from_recursion, recursion_from_All}
use Rattle.mp_sexp.specs.declared.tree.Place.{Place}
use Rattle.mp_sexp.specs.Bytes.{IsWordByte, folded, open_bracket, close_bracket}
use Rattle.mp_sexp.specs.Node.{Node, Nodes, word, list, none, more}
use Rattle.mp_sexp.specs.Spelling.{next_place, place_from, place_after, IsGap, EndsWord, Spells, SpellsAll}

pub place_from-append : (at : Place) (a b : List ℕ) → place_from at (a ++ b) ≡ place_from (place_from at a) b
place_from-append at [] b = refl
place_from-append at (x ∷ a) b = place_from-append (next_place at x) a b

-- one word byte at least
abbrev pub IsWordText : List ℕ → Type 0
IsWordText [] = ⊥
IsWordText (b ∷ bs) = IsWordByte b × AllByRecursion IsWordByte bs

abbrev mutual
  pub SpellsAt : Place → List ℕ → Node → Type 0
  SpellsAt at text (word name place) = IsWordText text × (name ≡ folded text) × (place ≡ at)
  SpellsAt at text (list nodes place) =
      (inner : List ℕ) × (text ≡ open_bracket ∷ inner ++ close_bracket ∷ []) × (place ≡ at)
      × SpellsAllAt (next_place at open_bracket) inner nodes

  pub SpellsAllAt : Place → List ℕ → Nodes → Type 0
  SpellsAllAt at text none = IsGap text
  SpellsAllAt at text (more node nodes) =
      (gap body rest : List ℕ) × (text ≡ gap ++ body ++ rest) × IsGap gap × SpellsAt (place_from at gap) body node
      × EndsWord node rest × SpellsAllAt (place_from (place_from at gap) body) rest nodes

word_text : (text : List ℕ) → (0 ≡ length text → ⊥) → All IsWordByte text → IsWordText text
word_text [] some all = absurd (some refl)
word_text (b ∷ bs) some all = recursion_from_All IsWordByte (b ∷ bs) all

word_all : (text : List ℕ) → IsWordText text → All IsWordByte text
word_all [] h = absurd h
word_all (b ∷ bs) h = All-from_recursion IsWordByte (b ∷ bs) h

word_some : (text : List ℕ) → IsWordText text → 0 ≡ length text → ⊥
word_some [] h e = h
word_some (b ∷ bs) h e = absurd (omega (arith, e))

mutual
  pub placed : (node : Node) (before text : List ℕ) → Spells before text node → SpellsAt (place_after before) text node
  placed (word name place) before text h = (word_text text h.0 h.1, h.2, h.3)
  placed (list nodes place) before text h =
      (h.0, h.1, h.2, subst (λ (at : Place). SpellsAllAt at h.0 nodes) (place_from-append (place_after []) before (open_bracket ∷ [])) (placed_all nodes (before ++ open_bracket ∷ []) h.0 h.3))

  pub placed_all : (nodes : Nodes) (before text : List ℕ) → SpellsAll before text nodes → SpellsAllAt (place_after before) text nodes
  placed_all none before text h = h
  placed_all (more node nodes) before text h =
      let gap = h.0 in
      let body = h.1 in
      let at_body = place_from-append (place_after []) before gap in
      let at_rest : place_after (before ++ gap ++ body) ≡ place_from (place_from (place_after before) gap) body =
      place_from-append (place_after []) (before ++ gap) body ∙ ap (λ (at : Place). place_from at body) at_body in (
        gap,
        body,
        h.2,
        h.3,
        h.4,
        subst (λ (at : Place). SpellsAt at body node) at_body (placed node (before ++ gap) body h.5),
        h.6,
        subst (λ (at : Place). SpellsAllAt at h.2 nodes) at_rest (placed_all nodes (before ++ gap ++ body) h.2 h.7),
      )

mutual
  pub unplaced : (node : Node) (before text : List ℕ) → SpellsAt (place_after before) text node → Spells before text node
  unplaced (word name place) before text h = (word_some text h.0, word_all text h.0, h.1, h.2)
  unplaced (list nodes place) before text h =
      (h.0, h.1, h.2, unplaced_all nodes (before ++ open_bracket ∷ []) h.0 (subst (λ (at : Place). SpellsAllAt at h.0 nodes) (sym (place_from-append (place_after []) before (open_bracket ∷ []))) h.3))

  pub unplaced_all : (nodes : Nodes) (before text : List ℕ) → SpellsAllAt (place_after before) text nodes → SpellsAll before text nodes
  unplaced_all none before text h = h
  unplaced_all (more node nodes) before text h =
      let gap = h.0 in
      let body = h.1 in
      let at_body = place_from-append (place_after []) before gap in
      let at_rest : place_after (before ++ gap ++ body) ≡ place_from (place_from (place_after before) gap) body =
      place_from-append (place_after []) (before ++ gap) body ∙ ap (λ (at : Place). place_from at body) at_body in (
        gap,
        body,
        h.2,
        h.3,
        h.4,
        unplaced node (before ++ gap) body (subst (λ (at : Place). SpellsAt at body node) (sym at_body) h.5),
        h.6,
        unplaced_all nodes (before ++ gap ++ body) h.2 (subst (λ (at : Place). SpellsAllAt at h.2 nodes) (sym at_rest) h.7),
      )
