-- The names in the facts of a checked factor are declared.
use Rattle.std.proofs.Common.{arith, ◌≡◌, suc, Bool, true, false, ◌||◌, List, [], ◌∷◌, map, filter, length, All, Option, Some, None, if◌then◌else◌, refl, sym, ap, subst}
use Rattle.std.proofs.lemmas.Bool.{and_from, and_parts, false≢true}
use Rattle.std.proofs.lemmas.List.Elements.{All-head, All-tail}
use Rattle.std.proofs.lemmas.Slice.Eq.{bytes_eq-Decides}
use Rattle.std.specs.List.{list_any, list_all, find}
use Rattle.std.specs.Option.{option_map_or}
use Rattle.std.specs.Prelude.{Contains}
use Rattle.std.specs.Str.{bytes_eq}
use Rattle.mp_list.proofs.Members.{contains_head, any_from, to_map}
use Rattle.mp_forms.specs.declared.typed_values.Typed.{Typed}
use Rattle.mp_forms.specs.declared.atom_values.Term.{Term}
use Rattle.mp_forms.specs.declared.atom_values.Term.TheVariants.{Variable, Object}
use Rattle.mp_forms.specs.declared.atom_values.Atom.{Atom}
use Rattle.mp_forms.specs.declared.factor.Factor.{Factor}
use Rattle.mp_typing.specs.Names.{names_of}
use Rattle.mp_typing.specs.ObjectList.{object_list}
use Rattle.mp_typing.specs.Under.{is_of_type}
use Rattle.mp_typing.specs.Uses.{is_declared}
use Rattle.mp_typing.proofs.Passing.{taken_from_passes}
use Rattle.mp_joint.specs.Fact.{Text, is_listed}
use Rattle.mp_joint.specs.FactorContribution.{may_stand, may_stand_for}
use Rattle.mp_joint.specs.Grounding.{standing_for, object_of, objects_of}
use Rattle.mp_lifting.specs.Vocabulary.{vocabulary_of}
use Rattle.mp_bindings.specs.Bindings.{product}
use Rattle.mp_stands.proofs.MemberLists.{found_in}
use Rattle.mp_ground_laws.specs.Grounding.{members_by_name}
use Rattle.mp_ground_laws.proofs.Atoms.{object_stands}
use Rattle.mp_ground_laws.proofs.Parts.{IsDeclared, IsAtom}
use Rattle.mp_stands.specs.Declared.{AreDeclared}
use Rattle.mp_stands.proofs.JoinedLists.{in_parts, found_passes}

abbrev is_object_name : Factor → Text → Bool
is_object_name factor name = is_listed name (vocabulary_of factor).objects

-- declared objects, one for each parameter
pub record AreStanding (factor : Factor) (params : List Typed) (objects : List Text) : Type 0 where
  pub long : length objects ≡ length params
  pub named : list_all (is_object_name factor) objects ≡ true

-- ---- members

-- an object of the type of a parameter
record IsStanding (factor : Factor) (p : Typed) (name : Text) : Type 0 where
  object : Typed
  listed : Contains (object_list factor.domain factor.problem) object
  called : object.word.name ≡ name
  passes : is_of_type factor.domain.types (names_of p.types) object ≡ true

standing : (factor : Factor) (p : Typed) (name : Text) → may_stand factor p name ≡ true → IsStanding factor p name
standing factor p name h = by (find (λ (o : Typed). bytes_eq o.word.name name) (object_list factor.domain factor.problem)) refl h
  where
    by : (found : Option Typed) → find (λ (o : Typed). bytes_eq o.word.name name) (object_list factor.domain factor.problem) ≡ found
        → option_map_or (is_of_type factor.domain.types (names_of p.types)) found false ≡ true → IsStanding factor p name
    by None e h = absurd (false≢true h)
    by (Some o) e h = record {
      object = o;
      listed = found_in (λ (t : Typed). bytes_eq t.word.name name) (object_list factor.domain factor.problem) o e;
      called =
          (bytes_eq-Decides o.word.name name).0
          (found_passes (λ (t : Typed). bytes_eq t.word.name name) (object_list factor.domain factor.problem) o e);
      passes = h;
    }

member_named : (factor : Factor) (p : Typed) (name : Text) → IsStanding factor p name → Contains (members_by_name factor p) name
member_named factor p name h =
    let test = is_of_type factor.domain.types (names_of p.types) in
    let objects = object_list factor.domain factor.problem in
    subst (Contains (members_by_name factor p)) h.called
    (to_map (λ (o : Typed). o.word.name) (filter test objects) h.object (taken_from_passes test objects h.object h.listed h.passes))

object_named : (factor : Factor) (p : Typed) (name : Text) → IsStanding factor p name → is_object_name factor name ≡ true
object_named factor p name h =
    any_from (λ n. bytes_eq name n) (vocabulary_of factor).objects h.object.word.name
    (to_map (λ (o : Typed). o.word.name) (object_list factor.domain factor.problem) h.object h.listed)
    ((bytes_eq-Decides name h.object.word.name).1 (sym h.called))

pub are_standing : (factor : Factor) (params : List Typed) (objects : List Text) → may_stand_for factor params objects ≡ true → AreStanding factor params objects
are_standing factor [] [] h = record { long = refl; named = refl }
are_standing factor [] (o ∷ os) h = absurd (false≢true h)
are_standing factor (p ∷ ps) [] h = absurd (false≢true h)
are_standing factor (p ∷ ps) (o ∷ os) h =
    let parts = and_parts (may_stand factor p o) (may_stand_for factor ps os) h in
    let rest = are_standing factor ps os parts.1 in
    record {
      long = ap suc rest.long;
      named = and_from (is_object_name factor o) (list_all (is_object_name factor) os) (object_named factor p o (standing factor p o parts.0)) rest.named;
    }

-- they are one of the product
pub is_choice : (factor : Factor) (params : List Typed) (objects : List Text) → may_stand_for factor params objects ≡ true
    → Contains (product (map (members_by_name factor) params)) objects
unfolding product
is_choice factor [] [] h = contains_head [] []
is_choice factor [] (o ∷ os) h = absurd (false≢true h)
is_choice factor (p ∷ ps) [] h = absurd (false≢true h)
is_choice factor (p ∷ ps) (o ∷ os) h =
    let parts = and_parts (may_stand factor p o) (may_stand_for factor ps os) h in
    let others = product (map (members_by_name factor) ps) in
    in_parts (λ name. map (λ rest. name ∷ rest) others) (members_by_name factor p) o (o ∷ os)
    (member_named factor p o (standing factor p o parts.0))
    (to_map (λ rest. o ∷ rest) others os (is_choice factor ps os parts.1))

-- ---- terms and atoms

either : (names : List Text) (test more : Bool) (o rest : Text) → is_listed o names ≡ true → (more ≡ true → is_listed rest names ≡ true) → (test || more) ≡ true
    → is_listed (if test then o else rest) names ≡ true
either names true more o rest here later h = here
either names false more o rest here later h = later h

variable_named : (names : List Text) (params : List Typed) (objects : List Text) (v : Text) → length objects ≡ length params
    → list_all (λ a. is_listed a names) objects ≡ true → list_any (λ (p : Typed). bytes_eq p.word.name v) params ≡ true
    → is_listed (standing_for params objects v) names ≡ true
variable_named names [] objects v long named h = absurd (false≢true h)
variable_named names (p ∷ ps) [] v long named h = absurd (omega (arith, long))
variable_named names (p ∷ ps) (o ∷ os) v long named h =
    let parts = and_parts (is_listed o names) (list_all (λ a. is_listed a names) os) named in
    either names (bytes_eq p.word.name v) (list_any (λ (q : Typed). bytes_eq q.word.name v) ps) o (standing_for ps os v) parts.0
    (variable_named names ps os v (omega (arith, long)) parts.1) h

term_named : (factor : Factor) (params : List Typed) (objects : List Text) (t : Term) → AreStanding factor params objects → IsDeclared params factor t
    → is_object_name factor (object_of params objects t) ≡ true
unfolding is_declared
term_named factor params objects (Variable w) s h = variable_named (vocabulary_of factor).objects params objects w.name s.long s.named h
term_named factor params objects (Object w) s h = object_stands factor w.name h

terms_named : (factor : Factor) (params : List Typed) (objects : List Text) (terms : List Term) → AreStanding factor params objects → All (IsDeclared params factor) terms
    → list_all (is_object_name factor) (objects_of params objects terms) ≡ true
terms_named factor params objects [] s h = refl
terms_named factor params objects (t ∷ ts) s h =
    and_from (is_object_name factor (object_of params objects t)) (list_all (is_object_name factor) (objects_of params objects ts))
    (term_named factor params objects t s (All-head (IsDeclared params factor) t ts h))
    (terms_named factor params objects ts s (All-tail (IsDeclared params factor) t ts h))

pub atom_declared : (factor : Factor) (params : List Typed) (objects : List Text) (a : Atom) → AreStanding factor params objects → IsAtom params factor a
    → AreDeclared factor a.word.name (objects_of params objects a.terms)
atom_declared factor params objects a s h = record {
  predicate_is = h.named;
  args_are = terms_named factor params objects a.terms s h.terms;
}

pub none_stand : (factor : Factor) → AreStanding factor [] []
none_stand factor = record { long = refl; named = refl }
