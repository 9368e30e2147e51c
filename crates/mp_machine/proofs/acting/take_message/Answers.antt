use Rattle.std.proofs.Common.{sym, subst}
use Rattle.mp_messages.specs.declared.message.Message.{Message}
use Rattle.mp_machine.specs.MemberFields.{IsTaken, record_of}
use Rattle.mp_machine.specs.Taking.{took_message}
use Rattle.mp_machine.proofs.acting.take_message.Goals as goal

pub returns-in-State-clause-step : goal.returns-in-State-clause-step
returns-in-State-clause-step g c =
    let s = c.args.search.now in
    let r = record_of s c.args.member.now in
    subst
    (λ (m : Message).
    IsTaken c.take_state.result (took_message (g.H.Heuristic.value s.task) r c.args.from m) c.args.outs.now c.args.outs.now r
    (record_of c.take_state.new.search c.take_state.new.member))
    (sym c.in-State.is) (c.take_state.ensures.step c.args.outs.now)
