-- No step is grounded twice.
use Rattle.std.proofs.Common.{◌≡◌, ℕ, List, [], ◌∷◌, map, filter, Some, sym, ap, subst}
use Rattle.std.proofs.lemmas.Option.{option_and_then_some, same_Some}
use Rattle.std.specs.Prelude.{Contains, ◌≢◌, AllPairs}
use Rattle.mp_list.proofs.Members.{contains_head, contains_tail, no_member, from_map}
use Rattle.mp_forms.specs.declared.typed_values.Typed.{Typed}
use Rattle.mp_forms.specs.declared.schema_values.Schema.{Schema}
use Rattle.mp_forms.specs.declared.factor.Factor.{Factor}
use Rattle.mp_typing.specs.Names.{names_of}
use Rattle.mp_typing.specs.ObjectList.{object_list}
use Rattle.mp_typing.specs.Under.{is_of_type}
use Rattle.mp_joint.specs.declared.plan.PlanStep.{PlanStep}
use Rattle.mp_joint.specs.Fact.{Text}
use Rattle.mp_joint.specs.FactorContribution.{instance_of_schema}
use Rattle.mp_joint.specs.Grounded.{Setting, suits_start}
use Rattle.mp_bindings.specs.Bindings.{product}
use Rattle.mp_stands.proofs.MemberLists.{chosen}
use Rattle.mp_ground_laws.specs.Checked.{IsChecked}
use Rattle.mp_ground_laws.specs.Grounding.{GroundedStep, members_by_name, step_with, grounded_at, grounded_of, grounded}
use Rattle.mp_ground_laws.proofs.Facts.{objects_distinct}
use Rattle.mp_ground_laws.proofs.Parts.{parts_of}
use Rattle.mp_stands.proofs.JoinedLists.{from_given}
use Rattle.mp_stands.proofs.Made.{itself}
use Rattle.mp_stands.proofs.Once.{AreOnce, once_pairs, once_parts, once_given, once_map, once_some, distinct_once}

members_once : (factor : Factor) (p : Typed) → AreOnce itself (members_by_name factor p)
members_once factor p =
    let test = is_of_type factor.domain.types (names_of p.types) in
    let objects = object_list factor.domain factor.problem in
    once_map itself (λ (o : Typed). o.word.name) (filter test objects)
    (once_some (λ (o : Typed). o.word.name) test objects (distinct_once (λ (o : Typed). o.word.name) objects (objects_distinct factor)))

abbrev first_of : List Text → Text
first_of [] = []
first_of (n ∷ ns) = n

abbrev behind : List Text → List Text
behind [] = []
behind (n ∷ ns) = ns

before_once : (name : Text) (others : List (List Text)) → AreOnce itself others → AreOnce (λ rest. name ∷ rest) others
before_once name [] h = tt
before_once name (o ∷ os) h = (λ y found same. h.0 y found (ap behind same), before_once name os h.1)

product_once : (lists : List (List Text)) → ((names : List Text) → Contains lists names → AreOnce itself names) → AreOnce itself (product lists)
unfolding product
product_once [] each = ((λ y found same. no_member y found), tt)
product_once (names ∷ others) each =
    let rest = product_once others (λ more found. each more (contains_tail names others more found)) in
    once_parts itself (λ name. map (λ more. name ∷ more) (product others)) itself first_of names
    (λ name found. once_map itself (λ more. name ∷ more) (product others) (before_once name (product others) rest))
    (λ name y found. let from = from_map (λ more. name ∷ more) (product others) y found in ap first_of (sym from.2))
    (each names (contains_head names others))

module _ (me : ℕ) (factor : Factor) (setting : Setting) where
  abbrev pub step_of : GroundedStep → PlanStep
  step_of g = g.step

  -- the step of what is given at these objects
  step_at : (schema : Schema) (objects : List Text) (g : GroundedStep) → grounded_at me factor setting schema objects ≡ Some g
      → ◌≡◌ {A = PlanStep} (record { agent = me; action = schema.word.name; args = objects }) g.step
  step_at schema objects g h =
      let step : PlanStep = record { agent = me; action = schema.word.name; args = objects } in
      option_and_then_some (step_with setting step) (instance_of_schema me factor objects schema) g h (λ i at kept.
      let parts = chosen (suits_start setting i) (Some (record { step = step; instance = i })) g kept in
      ap step_of (same_Some (record { step = step; instance = i }) g parts.1))

  of_action : (schema : Schema) → AreOnce step_of (grounded_of me factor setting schema)
  of_action schema =
      once_given step_of (grounded_at me factor setting schema) itself (λ (step : PlanStep). step.args) (product (map (members_by_name factor) schema.params))
      (λ objects g h. sym (ap (λ (step : PlanStep). step.args) (step_at schema objects g h)))
      (product_once (map (members_by_name factor) schema.params)
      (λ names found. let from = from_map (members_by_name factor) schema.params names found in subst (AreOnce itself) from.2 (members_once factor from.0)))

  pub steps_once : IsChecked factor → AreOnce step_of (grounded me factor setting)
  steps_once checked =
      once_parts step_of (grounded_of me factor setting) (λ (s : Schema). s.word.name) (λ (step : PlanStep). step.action) factor.domain.schemas
      (λ schema found. of_action schema)
      (λ schema g found.
      let from = from_given (grounded_at me factor setting schema) (product (map (members_by_name factor) schema.params)) g found in
      sym (ap (λ (step : PlanStep). step.action) (step_at schema from.0 g from.2)))
      (distinct_once (λ (s : Schema). s.word.name) factor.domain.schemas (parts_of factor checked.no_fault).actions)

  pub steps_differ : IsChecked factor → AllPairs (λ (a b : GroundedStep). a.step ≢ b.step) (grounded me factor setting)
  steps_differ checked = once_pairs step_of (grounded me factor setting) (steps_once checked)
