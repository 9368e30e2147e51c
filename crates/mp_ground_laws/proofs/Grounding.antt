-- The instances of a factor in numbers stand for its grounded actions by names.
use Rattle.mp_ground_laws.proofs.Basics.{◌≡◌, ℕ, Bool, true, false, List, [], ◌++◌, map, Option, Some, None, slice_get, if◌then◌else◌, refl, sym, ap, ◌∙◌, map-append, slice_get-map, get_or_from_slice_get}
use Rattle.mp_ground_laws.proofs.Basics.{enumerate_from, filter_map, flat_map, option_map, option_map_or, option_and_then, Schema, Factor, instance_with, cost_of, ActionBinding, LiftedAction, LiftedFactor, GroundFact, OpenView, lifted_factor, members_of, setting_of, product, suits}
use Rattle.mp_ground_laws.proofs.Basics.{binding_of, instances_of, instances, IsChecked, members_by_name, named_objects, named_instance, signed_fact, numbered_action, IsBinding}
use Rattle.mp_joint.specs.Grounded as named
use Rattle.mp_joint.specs.Instance.{Instance}
use Rattle.mp_joint.specs.declared.plan.PlanStep.{PlanStep}
use Rattle.mp_ground_facts.specs.Touched as touched
use Rattle.mp_ground_laws.specs.Grounding.{step_with, grounded_at, grounded_of, grounded, grounded_instance}
use Rattle.mp_ground_laws.specs.Named.{action_names}
use Rattle.mp_ground_laws.proofs.Choosing.{IsChoice, products_are_choices, products_named}
use Rattle.mp_ground_laws.proofs.Costs.{same_cost}
use Rattle.mp_ground_laws.proofs.Lists.{by_places, map_of_some, map_of_given, given_same, given_of_map}
use Rattle.mp_ground_laws.proofs.Needed.{needed_stand, added_stand, deleted_stand}
use Rattle.mp_ground_laws.proofs.Parts.{HasParts, parts_of, schema_at}
use Rattle.mp_ground_laws.proofs.Suiting.{same_suits}

module _ (agent : ℕ) (factor : Factor) (view : OpenView) (checked : IsChecked factor) (parts : HasParts factor) (place : ℕ) (s : Schema)
    (at : slice_get factor.domain.schemas place ≡ Some s) where
  abbrev lifted : LiftedFactor
  lifted = lifted_factor factor view

  abbrev action : LiftedAction
  action = numbered_action factor view s

  abbrev setting : named.Setting
  setting = setting_of agent factor view

  abbrev binding : List ℕ → ℕ → ActionBinding
  binding objects cost = record { action = place; objects = objects; cost = cost }

  abbrev step : List ℕ → PlanStep
  step objects = record { agent = agent; action = s.word.name; args = named_objects factor objects }

  abbrev instance : List ℕ → ℕ → Instance
  instance objects cost = instance_with agent factor s (named_objects factor objects) cost

  -- one instance
  one_instance : (objects : List ℕ) (cost : ℕ) → IsBinding factor s.params objects
      → named_instance agent factor lifted (binding objects cost) ≡ grounded_instance setting (record { step = step objects; instance = instance objects cost })
  one_instance objects cost b =
      let name = get_or_from_slice_get (action_names factor) place s.word.name []
      (slice_get-map (λ (t : Schema). t.word.name) factor.domain.schemas place ∙ ap (option_map (λ (t : Schema). t.word.name)) at) in
      let here = slice_get-map (numbered_action factor view) factor.domain.schemas place ∙ ap (option_map (numbered_action factor view)) at in
      let h = schema_at factor parts place s at in
      let taken = λ (facts : LiftedFactor → LiftedAction → List ℕ → List GroundFact).
      ap (λ o. map (signed_fact agent factor) (option_map_or (λ (a : LiftedAction). facts lifted a objects) o [])) here in
      λ i. record {
        step = record { agent = agent; action = name i; args = named_objects factor objects };
        cost = cost;
        pre = (taken touched.needed ∙ needed_stand agent factor view s objects cost b h) i;
        add = (taken touched.added ∙ added_stand agent factor view s objects cost parts b h) i;
        del = (taken touched.deleted ∙ deleted_stand agent factor view s objects cost b h) i;
      }

  -- where the objects suit and where they don't, with a cost and without
  by_cost : (objects : List ℕ) → IsBinding factor s.params objects → (test : Bool) (cost : Option ℕ) → test ≡ named.suits_start setting (instance objects 0)
      → option_map (named_instance agent factor lifted) (if test then option_map (binding objects) cost else None)
      ≡ option_map (grounded_instance setting) (option_and_then (step_with setting (step objects)) (option_map (instance objects) cost))
  by_cost objects b true None e = refl
  by_cost objects b false None e = refl
  by_cost objects b true (Some cost) e =
      ap Some (one_instance objects cost b)
      ∙ (λ i. option_map (grounded_instance setting) (if e i then Some (record { step = step objects; instance = instance objects cost }) else None))
  by_cost objects b false (Some cost) e =
      λ i. option_map (grounded_instance setting) (if e i then Some (record { step = step objects; instance = instance objects cost }) else None)

  -- one list of objects
  one_choice : (objects : List ℕ) → IsChoice factor s.params objects
      → option_map (named_instance agent factor lifted) (if suits lifted action objects then binding_of lifted place action objects else None)
      ≡ option_map (grounded_instance setting) (grounded_at agent factor setting s (named_objects factor objects))
  one_choice objects c =
      let h = schema_at factor parts place s at in
      let cost = cost_of factor.problem.metric factor.problem.values s.params (named_objects factor objects) s.increases in
      let costs = same_cost factor factor.problem.values factor.problem.metric s objects c.binding parts.values h.increases in
      ap (λ o. option_map (named_instance agent factor lifted) (if suits lifted action objects then option_map (binding objects) o else None)) costs
      ∙ by_cost objects c.binding (suits lifted action objects) cost (same_suits agent factor view s objects checked parts h 0 c.binding)
      ∙ sym (ap (λ t. option_map (grounded_instance setting)
      (option_and_then (step_with setting (step objects)) (if t then option_map (instance objects) cost else None))) c.may)

  -- one action
  one_action : map (named_instance agent factor lifted) (instances_of lifted place action) ≡ map (grounded_instance setting) (grounded_of agent factor setting s)
  one_action =
      let bindings = product (map (members_of factor) s.params) in
      map_of_some (named_instance agent factor lifted) (binding_of lifted place action) (suits lifted action) bindings
      ∙ given_same (IsChoice factor s.params) _ _ bindings (products_are_choices factor s.params) one_choice
      ∙ sym (map_of_given (grounded_instance setting) (grounded_at agent factor setting s) (product (map (members_by_name factor) s.params))
      ∙ ap (filter_map (λ names. option_map (grounded_instance setting) (grounded_at agent factor setting s names))) (products_named factor s.params)
      ∙ given_of_map (named_objects factor) _ bindings)

pub instances_stand : (agent : ℕ) (factor : Factor) (view : OpenView) → IsChecked factor
    → map (named_instance agent factor (lifted_factor factor view)) (instances (lifted_factor factor view))
    ≡ map (grounded_instance (setting_of agent factor view)) (grounded agent factor (setting_of agent factor view))
instances_stand agent factor view checked =
    let lifted = lifted_factor factor view in
    let setting = setting_of agent factor view in
    by_places factor.domain.schemas
    (λ from ss.
    map (named_instance agent factor lifted)
    (flat_map (λ (x : ℕ × LiftedAction). instances_of lifted x.0 x.1) (enumerate_from from (map (numbered_action factor view) ss)))
    ≡ map (grounded_instance setting) (flat_map (grounded_of agent factor setting) ss))
    (λ from. refl)
    (λ from s ss at rest.
    map-append (named_instance agent factor lifted) (instances_of lifted from (numbered_action factor view s)) _
    ∙ (λ i. one_action agent factor view checked (parts_of factor checked.no_fault) from s at i ++ rest i)
    ∙ sym (map-append (grounded_instance setting) (grounded_of agent factor setting s) _))
