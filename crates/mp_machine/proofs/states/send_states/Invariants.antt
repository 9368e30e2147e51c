use Rattle.std.proofs.Common.{◌≡◌, ◌++◌, take}
use Rattle.std.specs.List.{flat_map}
use Rattle.mp_machine.specs.MemberFields.{sent_state}
use Rattle.mp_machine.proofs.states.send_states.Given as goal

abbrev pub invariant-loop-sending : goal.invariant-loop-sending
invariant-loop-sending l = l.outs ≡ l.fn.outs ++ flat_map sent_state (take l.sending-index l.sendings)
