-- The facts of the start by other names: the same ones are public, and those are the same.
use Rattle.std.proofs.Common.{◌≡◌, ℕ, true, false, ◌||◌, List, [], ◌∷◌, map, filter, All, Some, None, if◌then◌else◌, refl, sym, ap, ◌∙◌}
use Rattle.std.specs.List.{list_any}
use Rattle.std.specs.Option.{is_none}
use Rattle.std.proofs.lemmas.Bool.{false≢true, not-true, or_parts}
use Rattle.std.proofs.lemmas.List.Elements.{All-head, All-tail}
use Rattle.mp_forms.specs.declared.atom_values.Term.{Term}
use Rattle.mp_forms.specs.declared.atom_values.Term.TheVariants as terms
use Rattle.mp_forms.specs.declared.atom_values.Atom.{Atom}
use Rattle.mp_forms.specs.declared.factor.Factor.{Factor}
use Rattle.mp_typing.specs.Lookups.{objects_of as declared_of}
use Rattle.mp_typing.specs.Uses.{is_declared}
use Rattle.mp_joint.specs.declared.fact.NamedFact.{NamedFact}
use Rattle.mp_joint.specs.Fact.{Text, Privates, is_listed, is_private}
use Rattle.mp_joint.specs.FactorContribution.{declared_objects, facts_of, privates_of}
use Rattle.mp_joint.specs.Grounding.{fact_of, object_of, objects_of}
use Rattle.mp_lifting.specs.Privates.{is_private_atom}
use Rattle.mp_ground_laws.proofs.Parts.{IsAtom, IsDeclared}
use Rattle.mp_ground_laws.proofs.Starts.{nobody}
use Rattle.mp_views.specs.Opened.{public_init}
use Rattle.mp_stands.specs.Renaming.{Renaming, IsRenaming, renamed, renamed_fact}
use Rattle.mp_stands.proofs.Naming.Atoms.{args_same}
use Rattle.mp_stands.proofs.Naming.Lists.{all_mapped, map_of_map, passing_same}
use Rattle.mp_stands.proofs.Naming.Names.{any_listed_same, listed_same}
use Rattle.mp_stands.proofs.Naming.Objects.{name_of, object_listed}
use Rattle.mp_stands.proofs.Naming.Vocabulary.{object_stays, predicate_stays, privates_same}

module _ (r : Renaming) (f : Factor) (is : IsRenaming f r) where
  abbrev privates : Privates
  privates = privates_of f

  -- the same atoms are private
  pub privacy_same : (a : Atom) → IsAtom [] f a
      → is_private_atom (privates_of (renamed r f)) (renamed_fact r a) ≡ is_private_atom privates a
  privacy_same a used =
      (λ i. is_private (privates_same r is.objects.one_to_one f i) (r.predicates a.word.name)
      (args_same r is.objects.one_to_one f a.terms used.terms i))
      ∙ (λ i. listed_same r.predicates is.predicates.one_to_one a.word.name privates.predicates i
      || any_listed_same r.objects is.objects.one_to_one privates.objects (objects_of [] [] a.terms) i)

  abbrev IsObjectName : Text → Type 0
  IsObjectName name = is_listed name (map name_of (declared_objects f)) ≡ true

  -- objects none of which is private stay
  public_args_stay : (args : List Text) → All IsObjectName args
      → list_any (λ a. is_listed a privates.objects) args ≡ false → map r.objects args ≡ args
  public_args_stay [] all public = refl
  public_args_stay (a ∷ args) all public =
      let parts = or_parts (is_listed a privates.objects) (list_any (λ b. is_listed b privates.objects) args) public in
      λ i. object_stays r f is a (All-head IsObjectName a args all) parts.0 i
      ∷ public_args_stay args (All-tail IsObjectName a args all) parts.1 i

  term_declared : (t : Term) → IsDeclared [] f t → IsObjectName (object_of [] [] t)
  unfolding is_declared
  term_declared (terms.Variable w) declared = absurd (false≢true declared)
  term_declared (terms.Object w) declared = sym (object_listed (declared_of f) w.name) ∙ declared

  module _ (agent : ℕ) where
    abbrev before : Atom → NamedFact
    before a = fact_of agent privates [] [] a

    abbrev after : Atom → NamedFact
    after a = fact_of agent (privates_of (renamed r f)) [] [] (renamed_fact r a)

    publicness_same : (a : Atom) → IsAtom [] f a → is_none (after a).owner ≡ is_none (before a).owner
    publicness_same a used = ap (λ t. is_none (if t then Some agent else None)) (privacy_same a used)

    public_same : (a : Atom) → IsAtom [] f a → is_none (before a).owner ≡ true → after a ≡ before a
    public_same a used public =
        let args = objects_of [] [] a.terms in
        let parts =
        or_parts (is_listed a.word.name privates.predicates) (list_any (λ o. is_listed o privates.objects) args)
        (not-true (is_private_atom privates a) (nobody agent (is_private_atom privates a) ∙ public)) in
        let name = predicate_stays r f is a.word.name used.named parts.0 in
        let objects = args_same r is.objects.one_to_one f a.terms used.terms
        ∙ public_args_stay args
        (all_mapped (IsDeclared [] f) IsObjectName (object_of [] []) a.terms used.terms term_declared) parts.1 in
        λ i. record {
          owner = if privacy_same a used i then Some agent else None;
          predicate = name i;
          args = objects i;
        }

    pub public_facts_same : (atoms : List Atom) → All (IsAtom [] f) atoms
        → filter (λ (x : NamedFact). is_none x.owner) (facts_of agent (renamed r f) [] [] (map (renamed_fact r) atoms))
        ≡ filter (λ (x : NamedFact). is_none x.owner) (facts_of agent f [] [] atoms)
    public_facts_same atoms all =
        ap (filter (λ (x : NamedFact). is_none x.owner))
        (map_of_map (fact_of agent (privates_of (renamed r f)) [] []) (renamed_fact r) atoms)
        ∙ passing_same (IsAtom [] f) after before
        (λ (x : NamedFact). is_none x.owner) atoms all publicness_same public_same

  pub public_init_same : All (IsAtom [] f) f.problem.init → public_init (renamed r f) ≡ public_init f
  public_init_same all = public_facts_same 1 f.problem.init all
