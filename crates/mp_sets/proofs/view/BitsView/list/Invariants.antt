use Rattle.std.proofs.Common.{◌≡◌, ◌≤◌, ◌-◌}
use Rattle.std.specs.List.{filter, range_with_len}
use Rattle.std.specs.FinSet as set
use Rattle.mp_sets.proofs.view.BitsView.list.Given as goal

abbrev pub invariant-loop-number : goal.invariant-loop-number
invariant-loop-number l = (l.list ≡ filter (set.contains l.self.members) (range_with_len 0 l.from)) × (l.from ≤ l.self.size)

abbrev pub decreases-loop-number : goal.decreases-loop-number
decreases-loop-number l = l.self.size - l.from
