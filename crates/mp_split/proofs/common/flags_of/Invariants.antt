use Rattle.mp_split.proofs.Basics.{◌≡◌, map, take}
use Rattle.mp_split.proofs.common.flags_of.Given as goal

abbrev pub invariant-loop-view : goal.invariant-loop-view
invariant-loop-view l = l.met ≡ map (λ v. v.met) (take l.view-index l.views)
