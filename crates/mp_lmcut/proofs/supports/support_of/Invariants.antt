use Rattle.std.proofs.Common.{◌≡◌, ◌<◌, None, drop, length}
use Rattle.std.specs.Option.{IfSome}
use Rattle.mp_list.specs.First.{leftmost}
use Rattle.mp_estimates.specs.Lowering.{value_at}
use Rattle.mp_lmcut.specs.Cut.{supports_before}
use Rattle.mp_lmcut.proofs.supports.support_of.Given as goal

abbrev pub invariant-loop-x : goal.invariant-loop-x
invariant-loop-x l = record {
  first : leftmost (supports_before (value_at l.numbers)) l.best (drop l.x-index l.pre) ≡ leftmost (supports_before (value_at l.numbers)) None l.pre;
  below : IfSome l.best (λ x. x < length l.numbers);
}
