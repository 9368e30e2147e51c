use Rattle.mp_lifting.proofs.Basics.{◌≡◌, map, take, filter, is_total_cost, ground_value}
use Rattle.std.specs.Prelude.{not}
use Rattle.mp_forms.specs.declared.init_values.Value.{Value}
use Rattle.mp_lifting.proofs.factors.ground_values.Given as goal

abbrev pub invariant-loop-value : goal.invariant-loop-value
invariant-loop-value l =
    l.made ≡ map (ground_value l.vocabulary)
    (filter (λ (v : Value). not (is_total_cost v.of)) (take l.value-index l.values))
