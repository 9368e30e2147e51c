use Rattle.std.proofs.Common.{◌≡◌, ◌+◌, ◌-◌, ℕ, length, get_or}
use Rattle.mp_steps.proofs.put.grow.Given as goal

abbrev pub invariant-loop-nothing : goal.invariant-loop-nothing
invariant-loop-nothing g l = (k : ℕ) → get_or l.items.items k l.nothing ≡ get_or l.fn.items.items k l.nothing

abbrev pub decreases-loop-nothing : goal.decreases-loop-nothing
decreases-loop-nothing g l = (l.place + 1) - length l.items.items
