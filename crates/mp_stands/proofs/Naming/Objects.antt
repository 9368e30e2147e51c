-- The objects of a factor by other names, in object order, and their names.
use Rattle.std.proofs.Common.{◌≡◌, not, List, [], ◌∷◌, map, refl, sym, ap, ◌∙◌}
use Rattle.std.specs.List.{list_any}
use Rattle.std.specs.Str.{bytes_eq}
use Rattle.std.proofs.lemmas.List.{map-append}
use Rattle.std.proofs.lemmas.List.Elements.{filter_agree}
use Rattle.mp_forms.specs.declared.typed_values.Typed.{Typed}
use Rattle.mp_forms.specs.declared.factor.Factor.{Factor}
use Rattle.mp_sexp.proofs.Places.{swapped}
use Rattle.mp_typing.specs.Lookups.{is_object}
use Rattle.mp_typing.specs.Names.{names_of}
use Rattle.mp_typing.specs.ObjectList.{others, first_declared, object_list}
use Rattle.mp_typing.specs.Places.{numbers_where}
use Rattle.mp_typing.specs.Under.{is_of_type}
use Rattle.mp_joint.specs.Fact.{Text, is_listed}
use Rattle.mp_joint.specs.FactorContribution.{declared_objects}
use Rattle.mp_lifting.specs.Lifting.{members_of}
use Rattle.mp_ground_laws.proofs.Lists.{filter_of_map}
use Rattle.mp_stands.specs.Renaming.{Renaming, IsOneToOne, kept_typed, renamed, renamed_domain, renamed_problem, renamed_typed}
use Rattle.mp_stands.proofs.Naming.Lists.{any_of_map, numbers_of_map}
use Rattle.mp_stands.proofs.Naming.Names.{same_test}
use Rattle.mp_stands.proofs.Naming.Typing.{kept_names, type_same}

abbrev pub name_of : Typed → Text
name_of o = o.word.name

-- a declared object is listed
pub object_listed : (objects : List Typed) (name : Text) → is_object objects name ≡ is_listed name (map name_of objects)
unfolding is_object
object_listed objects name =
    (λ i. list_any (λ (o : Typed). swapped o.word.name name i) objects)
    ∙ sym (any_of_map (bytes_eq name) name_of objects)

module _ (other : Text → Text) (one : IsOneToOne other) where
  others_same : (name : Text) (declared : List Typed)
      → others (other name) (map (renamed_typed other) declared) ≡ map (renamed_typed other) (others name declared)
  others_same name declared =
      filter_of_map (renamed_typed other) (λ (t : Typed). not (bytes_eq t.word.name (other name))) declared
      ∙ ap (map (renamed_typed other))
      (filter_agree (λ (t : Typed). not (bytes_eq (other t.word.name) (other name)))
      (λ (t : Typed). not (bytes_eq t.word.name name))
      (λ t. ap not (same_test other one t.word.name name)) declared)

  pub first_same : (declared : List Typed)
      → first_declared (map (renamed_typed other) declared) ≡ map (renamed_typed other) (first_declared declared)
  unfolding first_declared
  first_same [] = refl
  first_same (t ∷ ts) =
      ap (λ us. renamed_typed other t ∷ us)
      (ap (others (other t.word.name)) (first_same ts) ∙ others_same t.word.name (first_declared ts))

module _ (r : Renaming) (one : IsOneToOne r.objects) (f : Factor) where
  pub declared_same : declared_objects (renamed r f) ≡ map (renamed_typed r.objects) (declared_objects f)
  declared_same = sym (map-append (renamed_typed r.objects) f.domain.constants f.problem.objects)

  pub objects_same : object_list (renamed_domain r f.domain) (renamed_problem r f.problem)
      ≡ map (renamed_typed r.objects) (object_list f.domain f.problem)
  objects_same = ap first_declared declared_same ∙ first_same r.objects one (declared_objects f)

  -- the same numbers may stand for a parameter
  pub members_same : (param : Typed) → members_of (renamed r f) (kept_typed param) ≡ members_of f param
  members_same param =
      let types = map kept_typed f.domain.types in
      let asked = names_of param.types in
      let objects = object_list f.domain f.problem in
      (λ i. numbers_where 0 (is_of_type types (kept_names param.types i)) (objects_same i))
      ∙ numbers_of_map (is_of_type types asked) (renamed_typed r.objects) 0 objects
      ∙ (λ i. numbers_where 0 (λ object. type_same r.objects f.domain.types asked object i) objects)
