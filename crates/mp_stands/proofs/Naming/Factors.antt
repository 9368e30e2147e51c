-- A factor by other names is the same in numbers, but for the initial facts that others show.
use Rattle.std.proofs.Common.{◌≡◌, ℕ, Bool, true, false, not, List, [], map, filter, All, Some, slice_get, ap, ◌∙◌}
use Rattle.std.proofs.lemmas.Bool.{not-true}
use Rattle.std.proofs.lemmas.List.Elements.{All-filter, filter_passes}
use Rattle.mp_forms.specs.declared.atom_values.Atom.{Atom}
use Rattle.mp_forms.specs.declared.init_values.Value.{Value}
use Rattle.mp_forms.specs.declared.factor.Factor.{Factor}
use Rattle.mp_sexp.specs.Numbers.{name_at}
use Rattle.mp_joint.specs.Fact.{Text, is_listed}
use Rattle.mp_joint.specs.FactorContribution.{privates_of}
use Rattle.mp_joint.specs.Grounding.{asked_atoms, negated_atoms}
use Rattle.mp_lifting.specs.declared.view.OpenView.{OpenView}
use Rattle.mp_lifting.specs.declared.vocabulary.Vocabulary.{Vocabulary}
use Rattle.mp_lifting.specs.Factors.{ground_atom, ground_value, lifted_factor}
use Rattle.mp_lifting.specs.Lifting.{is_total_cost}
use Rattle.mp_lifting.specs.Privates.{is_private_atom}
use Rattle.mp_lifting.specs.Views.{has_complements}
use Rattle.mp_lifting.specs.Vocabulary.{vocabulary_of}
use Rattle.mp_ground_laws.proofs.Lists.{filter_of_map}
use Rattle.mp_ground_laws.proofs.Parts.{HasParts, IsAtom, IsValue}
use Rattle.mp_stands.specs.Renaming.{Renaming, IsOneToOne, IsRenaming, public_signatures, renamed, renamed_fact, renamed_value}
use Rattle.mp_stands.specs.Translation.{AreAlike, AreAlikeButKnown}
use Rattle.mp_stands.proofs.Naming.Actions.{actions_same}
use Rattle.mp_stands.proofs.Naming.Atoms.{asked_same, cost_same, ground_same, negated_same}
use Rattle.mp_stands.proofs.Naming.Facts.{privacy_same}
use Rattle.mp_stands.proofs.Naming.Lists.{filter_same, map_of_map, map_same, stays_at}
use Rattle.mp_stands.proofs.Naming.Names.{all_listed, listed_same}
use Rattle.mp_stands.proofs.Naming.Shown.{shown_same}
use Rattle.mp_stands.proofs.Naming.Views.{IsPredicate, complements_same}
use Rattle.mp_stands.proofs.Naming.Vocabulary.{known_object_stays, other_vocabulary, predicate_stays, privates_same, vocabulary_same}

-- which names are private
flags_same : (other : Text → Text) → IsOneToOne other → (names privates : List Text)
    → map (λ n. is_listed n (map other privates)) (map other names) ≡ map (λ n. is_listed n privates) names
flags_same other one names privates =
    map_of_map (λ n. is_listed n (map other privates)) other names
    ∙ (λ i. map (λ n. listed_same other one n privates i) names)

-- the name at a place that is public stays
name_stays : (other : Text → Text) (names privates : List Text) (n : ℕ)
    → ((name : Text) → is_listed name names ≡ true → is_listed name privates ≡ false → other name ≡ name)
    → slice_get (map (λ name. is_listed name privates) names) n ≡ Some false
    → name_at (map other names) n ≡ name_at names n
name_stays other names privates n stays public =
    stays_at [] other (λ name. is_listed name privates) names n
    (all_listed (λ name. is_listed name privates ≡ false → other name ≡ name) names stays) public

module _ (r : Renaming) (f : Factor) (view : OpenView) (is : IsRenaming f r) (parts : HasParts f) where
  abbrev objects : IsOneToOne r.objects
  objects = is.objects.one_to_one

  abbrev predicates : IsOneToOne r.predicates
  predicates = is.predicates.one_to_one

  abbrev v : Vocabulary
  v = vocabulary_of f

  private_predicates_same
      : map (λ p. is_listed p (privates_of (renamed r f)).predicates) (vocabulary_of (renamed r f)).predicates
      ≡ map (λ p. is_listed p (privates_of f).predicates) v.predicates
  private_predicates_same =
      (λ i. map (λ p. is_listed p ((privates_same r objects f i).predicates))
      ((vocabulary_same r objects f i).predicates))
      ∙ flags_same r.predicates predicates v.predicates (privates_of f).predicates

  private_objects_same
      : map (λ o. is_listed o (privates_of (renamed r f)).objects) (vocabulary_of (renamed r f)).objects
      ≡ map (λ o. is_listed o (privates_of f).objects) v.objects
  private_objects_same =
      (λ i. map (λ o. is_listed o ((privates_same r objects f i).objects)) ((vocabulary_same r objects f i).objects))
      ∙ flags_same r.objects objects v.objects (privates_of f).objects

  complemented_same
      : map (has_complements (renamed r f) view) (vocabulary_of (renamed r f)).predicates
      ≡ map (has_complements f view) v.predicates
  complemented_same =
      (λ i. map (has_complements (renamed r f) view) ((vocabulary_same r objects f i).predicates))
      ∙ map_of_map (has_complements (renamed r f) view) r.predicates v.predicates
      ∙ map_same (IsPredicate f) (λ p. has_complements (renamed r f) view (r.predicates p))
      (has_complements f view) v.predicates
      (all_listed (IsPredicate f) v.predicates (λ name there. there)) (complements_same r f view is)

  atoms_same : (atoms : List Atom) → All (IsAtom [] f) atoms
      → map (ground_atom (vocabulary_of (renamed r f))) (map (renamed_fact r) atoms) ≡ map (ground_atom v) atoms
  atoms_same atoms all =
      (λ i. map (ground_atom (vocabulary_same r objects f i)) (map (renamed_fact r) atoms))
      ∙ map_of_map (ground_atom (other_vocabulary r v)) (renamed_fact r) atoms
      ∙ map_same (IsAtom [] f) (λ a. ground_atom (other_vocabulary r v) (renamed_fact r a)) (ground_atom v) atoms all
      (λ a used. ground_same r objects r.predicates predicates f v.predicates v a used.terms)

  private_atoms_same
      : map (ground_atom (vocabulary_of (renamed r f)))
      (filter (is_private_atom (privates_of (renamed r f))) (map (renamed_fact r) f.problem.init))
      ≡ map (ground_atom v) (filter (is_private_atom (privates_of f)) f.problem.init)
  private_atoms_same =
      let is_own = is_private_atom (privates_of f) in
      ap (map (ground_atom (vocabulary_of (renamed r f))))
      (filter_of_map (renamed_fact r) (is_private_atom (privates_of (renamed r f))) f.problem.init
      ∙ ap (map (renamed_fact r))
      (filter_same (IsAtom [] f) (λ a. is_private_atom (privates_of (renamed r f)) (renamed_fact r a)) is_own
      f.problem.init parts.init (privacy_same r f is)))
      ∙ atoms_same (filter is_own f.problem.init) (All-filter is_own (IsAtom [] f) f.problem.init parts.init)

  -- ---- values of functions

  abbrev is_cost : Value → Bool
  is_cost x = not (is_total_cost x.of)

  record IsCounted (x : Value) : Type 0 where
    value : IsValue f x
    counts : is_cost x ≡ true

  value_same : (x : Value) → IsCounted x → ground_value (other_vocabulary r v) (renamed_value r x) ≡ ground_value v x
  value_same x counted =
      let used = counted.value (not-true (is_total_cost x.of) counted.counts) in
      λ i. record {
        of = ground_same r objects r.functions is.functions.one_to_one f v.functions v x.of used.terms i;
        cost = x.cost;
      }

  counted_values : All IsCounted (filter is_cost f.problem.values)
  counted_values = λ k d lt. record {
    value = All-filter is_cost (IsValue f) f.problem.values parts.values k d lt;
    counts = filter_passes is_cost f.problem.values k d lt;
  }

  values_same
      : map (ground_value (vocabulary_of (renamed r f))) (filter is_cost (map (renamed_value r) f.problem.values))
      ≡ map (ground_value v) (filter is_cost f.problem.values)
  values_same =
      let publics = public_signatures f.domain.functions in
      let some = filter_of_map (renamed_value r) is_cost f.problem.values
      ∙ (λ i. map (renamed_value r)
      (filter (λ (x : Value). not (cost_same r.functions publics is.functions x.of.word.name i)) f.problem.values)) in
      (λ i. map (ground_value (vocabulary_same r objects f i)) (some i))
      ∙ map_of_map (ground_value (other_vocabulary r v)) (renamed_value r) (filter is_cost f.problem.values)
      ∙ map_same IsCounted (λ x. ground_value (other_vocabulary r v) (renamed_value r x)) (ground_value v)
      (filter is_cost f.problem.values)
      counted_values value_same

  -- ---- the factor

  lifted_same : AreAlikeButKnown (lifted_factor f view) (lifted_factor (renamed r f) view)
  lifted_same =
      let atoms' = map (ground_atom (vocabulary_of (renamed r f))) in
      let goals =
      ap atoms' (asked_same r objects f.problem.goals) ∙ atoms_same (asked_atoms f.problem.goals) parts.goals.asked in
      let avoided =
      ap atoms' (negated_same r objects f.problem.goals)
      ∙ atoms_same (negated_atoms f.problem.goals) parts.goals.negated in
      λ i. record {
        private_predicates = private_predicates_same i;
        negated_predicates = complemented_same i;
        private_objects = private_objects_same i;
        actions = actions_same r f view is parts.schemas i;
        init = private_atoms_same i;
        known = (lifted_factor (renamed r f) view).known;
        goals = goals i;
        avoided = avoided i;
        values = values_same i;
      }

  pub renamed_is_alike : AreAlike view f (renamed r f)
  renamed_is_alike = record {
    lifted = lifted_same;
    public_objects = λ n public.
        (λ i. name_at ((vocabulary_same r objects f i).objects) n)
        ∙ name_stays r.objects v.objects (privates_of f).objects n (known_object_stays r f is) public;
    public_predicates = λ n public.
        (λ i. name_at ((vocabulary_same r objects f i).predicates) n)
        ∙ name_stays r.predicates v.predicates (privates_of f).predicates n (predicate_stays r f is) public;
    shown = shown_same r f is parts;
  }
