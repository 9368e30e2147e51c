use Rattle.std.proofs.Common.{sym, ◌∙◌}
use Rattle.mp_search.proofs.SendingSteps.{on_ok}
use Rattle.mp_machine.specs.MemberFields.{record_of}
use Rattle.mp_machine.specs.Outgoing.{without_messages}
use Rattle.mp_machine.specs.Snapshots.{by_verdict, judged}
use Rattle.mp_machine.proofs.NotesLemmas.{given_at_first}
use Rattle.mp_machine.proofs.StepLemmas.{judged_given, judged_none, nothing_out}
use Rattle.mp_machine.proofs.WalkSteps.{same_step}
use Rattle.mp_machine.proofs.snapshots.judge.Goals as goal

pub returns-in-Some-clause-step : goal.returns-in-Some-clause-step
returns-in-Some-clause-step g c =
    let r = record_of c.args.search.now c.args.member.now in
    let first = sym c.requires.ready.member.me ∙ c.requires.first in
    on_ok c.carry_out.result _ _ c.carry_out.ensures.step
    (λ stepped.
    same_step (judged r) (by_verdict r c.in-Some.verdict) c.args.outs.now c.carry_out.new.outs (record_of c.args.search.now c.carry_out.new.member)
    (judged_given r c.in-Some.verdict (given_at_first r first ∙ sym c.verdict.ensures ∙ c.in-Some.is)) stepped)

pub returns-in-None-clause-step : goal.returns-in-None-clause-step
returns-in-None-clause-step g c =
    let r = record_of c.args.search.now c.args.member.now in
    let first = sym c.requires.ready.member.me ∙ c.requires.first in
    same_step (judged r) (without_messages r) c.args.outs.now c.args.outs.now r
    (judged_none r (given_at_first r first ∙ sym c.verdict.ensures ∙ c.in-None.is)) (nothing_out r c.args.outs.now)
