use Rattle.mp_split.proofs.Basics.{◌≡◌, take, flat_map}
use Rattle.mp_split.proofs.common.table_of.Given as goal

abbrev pub invariant-loop-view : goal.invariant-loop-view
invariant-loop-view l = l.facts.items ≡ flat_map (λ v. v.facts) (take l.view-index l.views)
