-- The costs of a factor in numbers are those of its files.
use Rattle.mp_ground_laws.proofs.Basics.{arith, ◌≤◌, Bool, true, false, not, List, [], length, All, length-map, All-nil, All-cons, All-map, Typed, Increase, Value, Schema, Factor}
use Rattle.mp_ground_laws.proofs.Basics.{OpenView, Vocabulary, lifted_factor, ground_value, lifted_amount, amounts_of, is_total_cost, vocabulary_of, IsChecked, numbered_action}
use Rattle.std.proofs.lemmas.Bool.{cond_both}
use Rattle.std.proofs.lemmas.List.Elements.{All-filter, All-weaker}
use Rattle.mp_forms.specs.Limits.{IsAllowedIncrease, SchemaFits}
use Rattle.mp_forms.specs.Numbers.{greatest_cost}
use Rattle.mp_forms.specs.declared.effect_values.Increase.TheVariants as increases
use Rattle.mp_lifted.specs.declared.lifted.Amount.TheVariants.{Number}
use Rattle.mp_instances.specs.Costs.{IsSmall, IsCheap, HasSmallCosts}

amount_small : (vocabulary : Vocabulary) (params : List Typed) (i : Increase) → IsAllowedIncrease i → IsSmall (lifted_amount vocabulary params i)
amount_small vocabulary params (increases.Number cost) h = h
amount_small vocabulary params (increases.Function function) h = cond_both (is_total_cost function) _ _ IsSmall (λ _. tt) (λ _. tt)

-- what an action's cost is the sum of is small, with and without a metric
all_small : (vocabulary : Vocabulary) (metric : Bool) (s : Schema) → SchemaFits s
    → (length (amounts_of vocabulary metric s) ≤ 16) × All IsSmall (amounts_of vocabulary metric s)
all_small vocabulary true s h = (
  rw length-map h.increases,
  All-map IsSmall (lifted_amount vocabulary s.params) s.increases (All-weaker IsAllowedIncrease _ (amount_small vocabulary s.params) s.increases h.costs),
)
all_small vocabulary false s h = (omega arith, All-cons IsSmall (Number 1) [] (let e : 1 ≤ 1000000 = omega arith in e) (All-nil IsSmall))

pub small_costs : (factor : Factor) (view : OpenView) → IsChecked factor → HasSmallCosts (lifted_factor factor view)
small_costs factor view h = record {
  actions = All-map IsCheap (numbered_action factor view) factor.domain.schemas
      (All-weaker SchemaFits (λ s. IsCheap (numbered_action factor view s))
      (λ s fits. let small = all_small (vocabulary_of factor) factor.problem.metric s fits in record { count = small.0; small = small.1 })
      factor.domain.schemas h.domain_limits);
  values = All-map (λ v. v.cost ≤ 1000000) (ground_value (vocabulary_of factor)) _
      (All-filter (λ (v : Value). not (is_total_cost v.of)) (λ (v : Value). v.cost ≤ greatest_cost) factor.problem.values h.problem_limits.costs);
}
