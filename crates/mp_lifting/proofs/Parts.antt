-- Literals that a condition asks for, or has under `not`.
use Rattle.mp_lifting.proofs.Basics.{◌≡◌, Bool, true, false, ◌&&◌, not, List, [], ◌∷◌, map, refl, sym, ap, inl, inr, filter, if◌then◌else◌, cases_Bool, Typed, Literal, Text, asked_atoms, negated_atoms, Vocabulary, lifted_atom, ground_atom}
use Rattle.mp_forms.specs.declared.atom_values.Atom.{Atom}
use Rattle.mp_lifting.specs.Lifting.{lifted_where}

abbrev pub has_sign : Bool → Literal → Bool
has_sign positive l = if positive then l.positive else not l.positive

all_passing : {Y : Type 0} (s : Literal → Bool) (f : Atom → Y) (ls : List Literal) → map f (map (λ (l : Literal). l.atom) (filter s ls)) ≡ map (λ (l : Literal). f l.atom) (filter s ls)
all_passing s f [] = refl
all_passing s f (l ∷ ls) =
    elim (cases_Bool (s l)) [
      | inl passes ↦ rw passes (ap (λ rest. f l.atom ∷ rest) (all_passing s f ls))
      | inr fails ↦ rw fails (all_passing s f ls)
    ]

both_passing : {Y : Type 0} (s : Literal → Bool) (t : Atom → Bool) (f : Atom → Y) (ls : List Literal)
    → map f (filter t (map (λ (l : Literal). l.atom) (filter s ls))) ≡ map (λ (l : Literal). f l.atom) (filter (λ (l : Literal). s l && t l.atom) ls)
both_passing s t f [] = refl
both_passing s t f (l ∷ ls) =
    elim (cases_Bool (s l)) [
      | inl passes ↦ elim (cases_Bool (t l.atom)) [
        | inl also ↦ rw (passes, also) (ap (λ rest. f l.atom ∷ rest) (both_passing s t f ls))
        | inr differs ↦ rw (passes, differs) (both_passing s t f ls)
      ]
      | inr fails ↦ rw fails (both_passing s t f ls)
    ]

-- in numbers, those whose predicates pass a test
pub part_is : (vocabulary : Vocabulary) (test : Text → Bool) (params : List Typed) (positive : Bool) (ls : List Literal)
    → map (λ (l : Literal). lifted_atom vocabulary params l.atom) (filter (λ (l : Literal). has_sign positive l && test l.atom.word.name) ls)
    ≡ lifted_where vocabulary test params (if positive then asked_atoms ls else negated_atoms ls)
part_is vocabulary test params true ls = sym (both_passing (has_sign true) (λ (a : Atom). test a.word.name) (lifted_atom vocabulary params) ls)
part_is vocabulary test params false ls = sym (both_passing (has_sign false) (λ (a : Atom). test a.word.name) (lifted_atom vocabulary params) ls)

-- and all of them, without parameters
pub goals_are : (vocabulary : Vocabulary) (positive : Bool) (ls : List Literal)
    → map (λ (l : Literal). ground_atom vocabulary l.atom) (filter (has_sign positive) ls)
    ≡ map (ground_atom vocabulary) (if positive then asked_atoms ls else negated_atoms ls)
goals_are vocabulary true ls = sym (all_passing (has_sign true) (ground_atom vocabulary) ls)
goals_are vocabulary false ls = sym (all_passing (has_sign false) (ground_atom vocabulary) ls)
