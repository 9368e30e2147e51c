use Rattle.std.proofs.Common.{◌≡◌, ◌<◌, ◌^◌, drop}
use Rattle.mp_estimates.specs.Estimates.{greater}
use Rattle.mp_relaxed.specs.Values.{greatest}
use Rattle.mp_estimates.specs.Lowering.{known, value_at}
use Rattle.mp_relaxed.proofs.search.greatest_of.Given as goal

abbrev pub invariant-loop-x : goal.invariant-loop-x
invariant-loop-x l = record {
  fits : l.most < 2 ^ 64;
  so_far : greater (known l.most) (greatest (value_at l.numbers) (drop l.x-index l.facts)) ≡ greatest (value_at l.numbers) l.facts;
}
