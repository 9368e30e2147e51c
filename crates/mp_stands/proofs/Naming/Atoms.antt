-- Atoms by other names are the same in numbers.
use Rattle.std.proofs.Common.{◌≡◌, Bool, true, not, List, [], map, filter, All, codes, if◌then◌else◌, refl, sym, ap, ◌∙◌}
use Rattle.std.specs.Str.{bytes_eq}
use Rattle.std.proofs.lemmas.Bool.{false≢true}
use Rattle.mp_forms.specs.Limits.{name_of_term}
use Rattle.mp_forms.specs.Words.{assignments, connectives, is_fixed, other_words, quantifiers}
use Rattle.mp_forms.specs.declared.typed_values.Typed.{Typed}
use Rattle.mp_forms.specs.declared.atom_values.Term.{Term}
use Rattle.mp_forms.specs.declared.atom_values.Term.TheVariants as terms
use Rattle.mp_forms.specs.declared.atom_values.Atom.{Atom}
use Rattle.mp_forms.specs.declared.literal.Literal.{Literal}
use Rattle.mp_forms.specs.declared.effect_values.Increase.{Increase}
use Rattle.mp_forms.specs.declared.effect_values.Increase.TheVariants as increases
use Rattle.mp_forms.specs.declared.factor.Factor.{Factor}
use Rattle.mp_sexp.specs.Numbers.{number_in}
use Rattle.mp_typing.specs.Uses.{is_declared}
use Rattle.mp_joint.specs.Fact.{Text}
use Rattle.mp_joint.specs.Grounding.{asked_atoms, negated_atoms, object_of}
use Rattle.mp_lifted.specs.declared.lifted.LiftedTerm.TheVariants.{Parameter, Object}
use Rattle.mp_lifted.specs.declared.lifted.Amount.TheVariants.{Value, Missing}
use Rattle.mp_lifting.specs.declared.vocabulary.Vocabulary.{Vocabulary}
use Rattle.mp_lifting.specs.Factors.{ground_with}
use Rattle.mp_lifting.specs.Lifting.{parameter_in, lifted_term, lifted_with, lifted_atom, lifted_amount, lifted_where}
use Rattle.mp_ground_laws.proofs.Lists.{filter_of_map}
use Rattle.mp_ground_laws.proofs.Parts.{IsDeclared}
use Rattle.mp_stands.specs.Renaming.{Renaming, IsOneToOne, IsRenamingOf, kept_typed, renamed_term, renamed_atom, renamed_fact, renamed_literal, renamed_increase}
use Rattle.mp_stands.proofs.Naming.Lists.{filter_same, map_of_map, map_same, place_of_map}
use Rattle.mp_stands.proofs.Naming.Names.{numbered_same, same_test}
use Rattle.mp_stands.proofs.Naming.Vocabulary.{other_vocabulary}

fixed : is_fixed (codes "total-cost") ≡ true
unfolding is_fixed connectives quantifiers assignments other_words
fixed = refl

-- the total cost keeps its name
pub cost_same : (other : Text → Text) (publics : List Text) → IsRenamingOf publics other
    → (name : Text) → bytes_eq (other name) (codes "total-cost") ≡ bytes_eq name (codes "total-cost")
cost_same other publics is name =
    ap (bytes_eq (other name)) (sym (is.words_stay (codes "total-cost") fixed))
    ∙ same_test other is.one_to_one name (codes "total-cost")

module _ (r : Renaming) (objects : IsOneToOne r.objects) where
  parameter_same : (params : List Typed) (name : Text)
      → parameter_in (map kept_typed params) name ≡ parameter_in params name
  parameter_same params name = place_of_map (λ (p : Typed). bytes_eq p.word.name name) kept_typed params

  term_same : (v : Vocabulary) (params : List Typed) (t : Term)
      → lifted_term (other_vocabulary r v) (map kept_typed params) (renamed_term r t) ≡ lifted_term v params t
  term_same v params (terms.Variable w) = ap Parameter (parameter_same params w.name)
  term_same v params (terms.Object w) = ap Object (numbered_same r.objects objects v.objects w.name)

  -- an atom of a predicate, or of a function
  with_same : (other : Text → Text) → IsOneToOne other
      → (names : List Text) (v : Vocabulary) (params : List Typed) (a : Atom)
      → lifted_with (map other names) (other_vocabulary r v) (map kept_typed params) (renamed_atom r other a)
      ≡ lifted_with names v params a
  with_same other one names v params a =
      let terms = map_of_map (lifted_term (other_vocabulary r v) (map kept_typed params)) (renamed_term r) a.terms
      ∙ (λ i. map (λ t. term_same v params t i) a.terms) in
      λ i. record { symbol = numbered_same other one names a.word.name i; terms = terms i }

  module _ (predicates : IsOneToOne r.predicates) (v : Vocabulary) (params : List Typed) where
    pub atom_same : (a : Atom)
        → lifted_atom (other_vocabulary r v) (map kept_typed params) (renamed_fact r a) ≡ lifted_atom v params a
    atom_same a = with_same r.predicates predicates v.predicates v params a

    pub atoms_same : (atoms : List Atom)
        → map (lifted_atom (other_vocabulary r v) (map kept_typed params)) (map (renamed_fact r) atoms)
        ≡ map (lifted_atom v params) atoms
    atoms_same atoms =
        map_of_map (lifted_atom (other_vocabulary r v) (map kept_typed params)) (renamed_fact r) atoms
        ∙ (λ i. map (λ a. atom_same a i) atoms)

    -- atoms whose predicates pass a test
    pub where_same : (P : Atom → Type 0) (test' test : Text → Bool) (atoms : List Atom) → All P atoms
        → ((a : Atom) → P a → test' (r.predicates a.word.name) ≡ test a.word.name)
        → lifted_where (other_vocabulary r v) test' (map kept_typed params) (map (renamed_fact r) atoms)
        ≡ lifted_where v test params atoms
    where_same P test' test atoms all tests =
        ap (map (lifted_atom (other_vocabulary r v) (map kept_typed params)))
        (filter_of_map (renamed_fact r) (λ (a : Atom). test' a.word.name) atoms
        ∙ ap (map (renamed_fact r))
        (filter_same P (λ (a : Atom). test' (r.predicates a.word.name))
        (λ (a : Atom). test a.word.name) atoms all tests))
        ∙ atoms_same (filter (λ (a : Atom). test a.word.name) atoms)

  module _ (publics : List Text) (functions : IsRenamingOf publics r.functions) (v : Vocabulary)
      (params : List Typed) where
    amount_same : (i : Increase)
        → lifted_amount (other_vocabulary r v) (map kept_typed params) (renamed_increase r i) ≡ lifted_amount v params i
    amount_same (increases.Number cost) = refl
    amount_same (increases.Function a) =
        λ i.
        if cost_same r.functions publics functions a.word.name i then Missing
        else Value (with_same r.functions functions.one_to_one v.functions v params a i)

    pub amounts_same : (is : List Increase)
        → map (lifted_amount (other_vocabulary r v) (map kept_typed params)) (map (renamed_increase r) is)
        ≡ map (lifted_amount v params) is
    amounts_same is =
        map_of_map (lifted_amount (other_vocabulary r v) (map kept_typed params)) (renamed_increase r) is
        ∙ (λ i. map (λ x. amount_same x i) is)

  -- ---- literals

  of_literals : (test : Literal → Bool) → ((l : Literal) → test (renamed_literal r l) ≡ test l) → (ls : List Literal)
      → map (λ (l : Literal). l.atom) (filter test (map (renamed_literal r) ls))
      ≡ map (renamed_fact r) (map (λ (l : Literal). l.atom) (filter test ls))
  of_literals test tests ls =
      ap (map (λ (l : Literal). l.atom))
      (filter_of_map (renamed_literal r) test ls ∙ (λ i. map (renamed_literal r) (filter (λ l. tests l i) ls)))
      ∙ map_of_map (λ (l : Literal). l.atom) (renamed_literal r) (filter test ls)
      ∙ sym (map_of_map (renamed_fact r) (λ (l : Literal). l.atom) (filter test ls))

  pub asked_same : (ls : List Literal)
      → asked_atoms (map (renamed_literal r) ls) ≡ map (renamed_fact r) (asked_atoms ls)
  asked_same ls = of_literals (λ (l : Literal). l.positive) (λ _. refl) ls

  pub negated_same : (ls : List Literal)
      → negated_atoms (map (renamed_literal r) ls) ≡ map (renamed_fact r) (negated_atoms ls)
  negated_same ls = of_literals (λ (l : Literal). not l.positive) (λ _. refl) ls

  -- ---- atoms without variables

  name_same : (f : Factor) (t : Term) → IsDeclared [] f t → name_of_term (renamed_term r t) ≡ r.objects (name_of_term t)
  unfolding is_declared
  name_same f (terms.Variable w) declared = absurd (false≢true declared)
  name_same f (terms.Object w) declared = refl

  pub names_same : (f : Factor) (ts : List Term) → All (IsDeclared [] f) ts
      → map name_of_term (map (renamed_term r) ts) ≡ map r.objects (map name_of_term ts)
  names_same f ts declared =
      map_of_map name_of_term (renamed_term r) ts
      ∙ map_same (IsDeclared [] f) (λ t. name_of_term (renamed_term r t)) (λ t. r.objects (name_of_term t)) ts declared
      (name_same f)
      ∙ sym (map_of_map r.objects name_of_term ts)

  -- in a fact a term stands for itself
  object_same : (f : Factor) (t : Term) → IsDeclared [] f t
      → object_of [] [] (renamed_term r t) ≡ r.objects (object_of [] [] t)
  unfolding is_declared
  object_same f (terms.Variable w) declared = absurd (false≢true declared)
  object_same f (terms.Object w) declared = refl

  pub args_same : (f : Factor) (ts : List Term) → All (IsDeclared [] f) ts
      → map (object_of [] []) (map (renamed_term r) ts) ≡ map r.objects (map (object_of [] []) ts)
  args_same f ts declared =
      map_of_map (object_of [] []) (renamed_term r) ts
      ∙ map_same (IsDeclared [] f) (λ t. object_of [] [] (renamed_term r t))
      (λ t. r.objects (object_of [] [] t)) ts declared (object_same f)
      ∙ sym (map_of_map r.objects (object_of [] []) ts)

  pub ground_same : (other : Text → Text) → IsOneToOne other
      → (f : Factor) (names : List Text) (v : Vocabulary) (a : Atom) → All (IsDeclared [] f) a.terms
      → ground_with (map other names) (other_vocabulary r v) (other a.word.name)
      (map name_of_term (map (renamed_term r) a.terms))
      ≡ ground_with names v a.word.name (map name_of_term a.terms)
  ground_same other one f names v a declared =
      let args = ap (map (number_in (map r.objects v.objects))) (names_same f a.terms declared)
      ∙ map_of_map (number_in (map r.objects v.objects)) r.objects (map name_of_term a.terms)
      ∙ (λ i. map (λ n. numbered_same r.objects objects v.objects n i) (map name_of_term a.terms)) in
      λ i. record { symbol = numbered_same other one names a.word.name i; args = args i }
