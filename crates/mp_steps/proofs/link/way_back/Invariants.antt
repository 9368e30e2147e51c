use Rattle.std.proofs.Common.{◌≡◌, ◌-◌, ◌++◌, length, reverse}
use Rattle.mp_steps.specs.Marks.{way_to}
use Rattle.mp_steps.proofs.link.way_back.Given as goal

abbrev pub invariant-loop : goal.invariant-loop
invariant-loop l = way_to l.mets l.count l.last ≡ way_to l.mets (l.count - l.counter) l.time ++ reverse l.back.items

abbrev pub invariant-loop-time : goal.invariant-loop-time
invariant-loop-time l = way_to l.mets l.count l.last ≡ l.times ++ reverse l.back.items

abbrev pub decreases-loop-time : goal.decreases-loop-time
decreases-loop-time l = length l.back.items
