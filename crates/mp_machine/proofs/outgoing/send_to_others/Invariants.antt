use Rattle.std.proofs.Common.{◌≡◌, ◌++◌, map}
use Rattle.mp_machine.specs.Outgoing.{in_bytes, others, to_each}
use Rattle.mp_machine.proofs.outgoing.send_to_others.Given as goal

abbrev pub invariant-loop-before : goal.invariant-loop-before
invariant-loop-before l = l.outs ≡ l.fn.outs ++ map in_bytes (to_each (others l.me l.before) l.message)
