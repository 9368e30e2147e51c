use Rattle.std.proofs.Common.{◌<◌, ◌^◌, refl, ap, subst, arith}
use Rattle.std.specs.Prelude.{Result, Err}
use Rattle.mp_messages.specs.declared.decoding.DecodeRefusal.{DecodeRefusal}
use Rattle.mp_messages.specs.declared.message.Message.{Message}
use Rattle.mp_machine.specs.declared.refusal.BadKind.{BadKind}
use Rattle.mp_machine.specs.MemberFields.{IsTaken, record_of}
use Rattle.mp_machine.specs.Outgoing.{Step}
use Rattle.mp_machine.proofs.TakingLemmas.{spelled_by, spelled_for, took_spelled, took_unspelled}
use Rattle.mp_machine.proofs.acting.take_decoded.Goals as goal

as_answer : DecodeRefusal → Result Message DecodeRefusal
as_answer e = Err e

pub returns-in-Ok-clause-step : goal.returns-in-Ok-clause-step
returns-in-Ok-clause-step g c =
    let s = c.args.search.now in
    let m = c.args.member.now in
    let r = record_of s m in
    let small : s.task.publics < 2 ^ 32 = let most = c.requires.ready.search.task.publics in omega arith in
    subst
    (λ (w : Result Step BadKind).
    IsTaken c.take_message.result w c.args.outs.now c.take_message.new.outs r (record_of c.take_message.new.search c.take_message.new.member))
    (took_spelled (g.H.Heuristic.value s.task) r c.args.from c.args.bytes.now c.in-Ok.message small
    (spelled_for s.task m c.requires.ready.member c.in-Ok.message c.args.bytes.now c.in-Ok.ensures.spelled)) c.take_message.ensures.step

pub returns-in-Err-NotAMessage-clause-step : goal.returns-in-Err-NotAMessage-clause-step
unfolding as_answer
returns-in-Err-NotAMessage-clause-step g c =
    let s = c.args.search.now in
    let m = c.args.member.now in (
      took_unspelled (g.H.Heuristic.value s.task) (record_of s m) c.args.from c.args.bytes.now
          (λ message spelled.
          c.in-Err-NotAMessage.ensures.refused.0 (ap as_answer c.in-Err-NotAMessage.field-0-is) message
          (spelled_by s.task m c.requires.ready.member message c.args.bytes.now spelled)),
      refl,
    )
