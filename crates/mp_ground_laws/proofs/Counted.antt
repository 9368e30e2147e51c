-- The instances in numbers are actions at objects, and the facts that they touch and goals name are in range.
use Rattle.mp_ground_laws.proofs.Basics.{◌≡◌, ℕ, Bool, true, false, List, [], ◌++◌, map, filter, All, Option, Some, None, slice_get, refl, sym, ap, ◌∙◌, subst, All-nil, All-append, All-map, slice_get-map}
use Rattle.mp_ground_laws.proofs.Basics.{enumerate_from, flat_map, option_map, option_map_or, Atom, Schema, Factor, asked_atoms, negated_atoms, GroundAtom, LiftedAction, OpenView, lifted_factor, members_of}
use Rattle.mp_ground_laws.proofs.Basics.{is_changed, product, ActionBinding, cost_at, suits, binding_of, instances_of, instances, plain, complement}
use Rattle.mp_ground_laws.proofs.Basics.{touched, of_action, counted, IsChecked, numbered_action, IsBinding, IsInRange, IsOfFactor}
use Rattle.std.proofs.lemmas.Option.{same_Some, none-some}
use Rattle.mp_ground_laws.specs.Numbered.{IsInstance}
use Rattle.mp_ground_laws.proofs.Atoms.{atoms_stand, ground_atoms_stand, some_stand}
use Rattle.mp_ground_laws.proofs.Choosing.{IsChoice, products_are_choices}
use Rattle.std.proofs.lemmas.List.Elements.{All-filter, All-weaker}
use Rattle.mp_ground_facts.specs.Facts.{fact_of}
use Rattle.mp_ground_laws.proofs.Lists.{all_given, all_parts, by_places}
use Rattle.mp_ground_laws.proofs.Parts.{IsAtom, IsSchema, HasParts, parts_of, schema_at}

-- ---- instances

-- with a cost, an action and its objects are an instance
of_cost : (factor : Factor) (place : ℕ) (s : Schema) (objects : List ℕ) → slice_get factor.domain.schemas place ≡ Some s → IsBinding factor s.params objects
    → (o : Option ℕ) (i : ActionBinding) → option_map (λ cost. record { action = place; objects = objects; cost = cost }) o ≡ Some i → IsInstance factor i
of_cost factor place s objects at b None i h = absurd (none-some i h)
of_cost factor place s objects at b (Some cost) i h =
    subst (IsInstance factor) (same_Some (record { action = place; objects = objects; cost = cost }) i h) (record { schema = s; at = at; objects = b })

of_one_action : (factor : Factor) (view : OpenView) (place : ℕ) (s : Schema) → slice_get factor.domain.schemas place ≡ Some s
    → All (IsInstance factor) (instances_of (lifted_factor factor view) place (numbered_action factor view s))
of_one_action factor view place s at =
    let lifted = lifted_factor factor view in
    let action = numbered_action factor view s in
    let bindings = product (map (members_of factor) s.params) in
    all_given (IsChoice factor s.params) (IsInstance factor) (binding_of lifted place action) (filter (suits lifted action) bindings)
    (All-filter (suits lifted action) (IsChoice factor s.params) bindings (products_are_choices factor s.params))
    (λ b c i h. of_cost factor place s b at c.binding (cost_at lifted.values b action.amounts) i h)

pub all_instances : (factor : Factor) (view : OpenView) → All (IsInstance factor) (instances (lifted_factor factor view))
all_instances factor view =
    by_places factor.domain.schemas
    (λ from ss. All (IsInstance factor) (flat_map (λ (x : ℕ × LiftedAction). instances_of (lifted_factor factor view) x.0 x.1)
    (enumerate_from from (map (numbered_action factor view) ss))))
    (λ from. All-nil (IsInstance factor)) (λ from s ss at rest. All-append (IsInstance factor) _ _ (of_one_action factor view from s at) rest)

-- ---- facts

ones : (factor : Factor) (view : OpenView) (sign : Bool) (atoms : List GroundAtom) → All (IsInRange factor) atoms
    → All (IsOfFactor factor view) (map (fact_of (lifted_factor factor view) sign) atoms)
ones factor view sign atoms h =
    let fact = fact_of (lifted_factor factor view) sign in
    All-map (IsOfFactor factor view) fact atoms
    (All-weaker (IsInRange factor) (λ a. IsOfFactor factor view (fact a)) (λ a is. record { range = is; public = refl }) atoms h)

both_ones : (factor : Factor) (view : OpenView) (first second : List GroundAtom) → All (IsInRange factor) first → All (IsInRange factor) second
    → All (IsOfFactor factor view) (map (plain (lifted_factor factor view)) first ++ map (complement (lifted_factor factor view)) second)
both_ones factor view first second h k =
    All-append (IsOfFactor factor view) _ _ (ones factor view false first h) (ones factor view true second k)

touched_ones : (factor : Factor) (view : OpenView) (s : Schema) (objects : List ℕ) → IsSchema factor s → IsBinding factor s.params objects
    → All (IsOfFactor factor view) (touched (lifted_factor factor view) (numbered_action factor view s) objects)
touched_ones factor view s objects h b =
    let pre = λ (atoms : List Atom) (used : All (IsAtom s.params factor) atoms).
    (some_stand 0 factor s.params objects (is_changed factor view) atoms b used).range in
    let adds = (atoms_stand 0 factor s.params objects s.add b h.add).range in
    let dels = (atoms_stand 0 factor s.params objects s.del b h.del).range in
    All-append (IsOfFactor factor view) _ _
    (All-append (IsOfFactor factor view) _ _
    (both_ones factor view _ _ (pre _ h.pre.asked) (pre _ h.pre.negated))
    (both_ones factor view _ _ adds (All-filter _ (IsInRange factor) _ dels)))
    (both_ones factor view _ _ dels (All-filter _ (IsInRange factor) _ adds))

of_instance : (factor : Factor) (view : OpenView) (i : ActionBinding) → HasParts factor → IsInstance factor i
    → All (IsOfFactor factor view) (of_action (lifted_factor factor view) touched i)
of_instance factor view i parts is =
    let lifted = lifted_factor factor view in
    let s = is.schema in
    let taken : slice_get lifted.actions i.action ≡ Some (numbered_action factor view s) =
    slice_get-map (numbered_action factor view) factor.domain.schemas i.action ∙ ap (option_map (numbered_action factor view)) is.at in
    subst (λ o. All (IsOfFactor factor view) (option_map_or (λ (action : LiftedAction). touched lifted action i.objects) o [])) (sym taken)
    (touched_ones factor view s i.objects (schema_at factor parts i.action s is.at) is.objects)

pub all_counted : (factor : Factor) (view : OpenView) → IsChecked factor
    → All (IsOfFactor factor view) (counted (lifted_factor factor view) (instances (lifted_factor factor view)))
all_counted factor view checked =
    let lifted = lifted_factor factor view in
    let parts = parts_of factor checked.no_fault in
    All-append (IsOfFactor factor view) _ _
    (all_parts (IsInstance factor) (IsOfFactor factor view) (of_action lifted touched) (instances lifted) (all_instances factor view)
    (λ i is. of_instance factor view i parts is))
    (both_ones factor view lifted.goals lifted.avoided
    (ground_atoms_stand 0 factor (asked_atoms factor.problem.goals) parts.goals.asked).range
    (ground_atoms_stand 0 factor (negated_atoms factor.problem.goals) parts.goals.negated).range)
