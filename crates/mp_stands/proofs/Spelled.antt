-- The declared names of a checked factor are names.
use Rattle.std.proofs.Common.{◌≡◌, true, List, [], ◌∷◌, ◌++◌, refl, subst, inl, inr}
use Rattle.std.proofs.lemmas.Bool.{and_parts, and_from}
use Rattle.std.proofs.lemmas.List.Elements.{All-contains, Contains-append_cases}
use Rattle.std.specs.List.{list_all}
use Rattle.std.specs.Prelude.{Contains, IsTrue}
use Rattle.mp_list.proofs.Members.{contains_head, contains_tail, contains_cases, from_map}
use Rattle.mp_forms.specs.Kinds.{is_name}
use Rattle.mp_forms.specs.Words.{is_name_byte, begins_with_letter}
use Rattle.mp_forms.specs.Uses.{IsName}
use Rattle.mp_forms.proofs.TakenFiles.{predicates_named, constants_named, objects_named}
use Rattle.mp_forms.specs.declared.typed_values.Typed.{Typed}
use Rattle.mp_forms.specs.declared.signature_values.Signature.{Signature}
use Rattle.mp_forms.specs.declared.factor.Factor.{Factor}
use Rattle.mp_typing.specs.ObjectList.{first_declared, object_list}
use Rattle.mp_typing.proofs.Passing.{taken_passes}
use Rattle.mp_joint.specs.Fact.{Text, is_listed}
use Rattle.mp_lifting.specs.Vocabulary.{vocabulary_of}
use Rattle.mp_ground_laws.specs.Checked.{IsChecked}
use Rattle.mp_stands.specs.Declared.{AreDeclared}
use Rattle.mp_stands.proofs.JoinedLists.{listed_member}
use Rattle.mp_stands.proofs.Words.{IsSpelling, AreSpelled}

name_spelled : (name : Text) → IsTrue (is_name name) → IsSpelling name
unfolding is_name
name_spelled name h = (and_parts (begins_with_letter name) (list_all is_name_byte name) h).1

predicate_spelled : (factor : Factor) (name : Text) → IsChecked factor → is_listed name (vocabulary_of factor).predicates ≡ true → IsSpelling name
predicate_spelled factor name checked h =
    let from = from_map (λ (s : Signature). s.word.name) factor.domain.predicates name (listed_member name (vocabulary_of factor).predicates h) in
    let is = All-contains (λ (s : Signature). IsName s.word) factor.domain.predicates from.0 (predicates_named factor.domain checked.domain_names) from.1 in
    subst IsSpelling from.2 (name_spelled from.0.word.name is)

first_in : (ts : List Typed) (t : Typed) → Contains (first_declared ts) t → Contains ts t
unfolding first_declared
first_in [] t found = found
first_in (s ∷ ts) t found =
    elim (contains_cases s _ t found) [
      | inl here ↦ subst (Contains (s ∷ ts)) here (contains_head s ts)
      | inr there ↦ contains_tail s ts t (first_in ts t (taken_passes _ (first_declared ts) t there).0)
    ]

object_spelled : (factor : Factor) (name : Text) → IsChecked factor → is_listed name (vocabulary_of factor).objects ≡ true → IsSpelling name
object_spelled factor name checked h =
    let from = from_map (λ (o : Typed). o.word.name) (object_list factor.domain factor.problem) name (listed_member name (vocabulary_of factor).objects h) in
    let here = first_in (factor.domain.constants ++ factor.problem.objects) from.0 from.1 in
    let IsNamed : Typed → Type 0 = λ (o : Typed). IsName o.word in
    let is : IsNamed from.0 =
    elim (Contains-append_cases factor.domain.constants factor.problem.objects from.0 here) [
      | inl constant ↦ All-contains IsNamed factor.domain.constants from.0 (constants_named factor.domain checked.domain_names) constant
      | inr object ↦ All-contains IsNamed factor.problem.objects from.0 (objects_named factor.problem checked.problem_names) object
    ] in
    subst IsSpelling from.2 (name_spelled from.0.word.name is)

objects_spelled : (factor : Factor) (names : List Text) → IsChecked factor → list_all (λ a. is_listed a (vocabulary_of factor).objects) names ≡ true
    → list_all (list_all is_name_byte) names ≡ true
objects_spelled factor [] checked h = refl
objects_spelled factor (n ∷ ns) checked h =
    let parts = and_parts (is_listed n (vocabulary_of factor).objects) (list_all (λ a. is_listed a (vocabulary_of factor).objects) ns) h in
    and_from (list_all is_name_byte n) (list_all (list_all is_name_byte) ns) (object_spelled factor n checked parts.0) (objects_spelled factor ns checked parts.1)

-- declared names are names
pub declared_spelled : (factor : Factor) (predicate : Text) (args : List Text) → IsChecked factor → AreDeclared factor predicate args → AreSpelled predicate args
declared_spelled factor predicate args checked h = record {
  predicate_is = predicate_spelled factor predicate checked h.predicate_is;
  args_are = objects_spelled factor args checked h.args_are;
}
