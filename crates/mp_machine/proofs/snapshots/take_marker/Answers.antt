use Rattle.std.proofs.Common.{sym, ap, subst, ◌∙◌}
use Rattle.std.proofs.lemmas.Bool.{false≢true}
use Rattle.mp_messages.specs.declared.message.Findings.{Findings}
use Rattle.mp_snapshot.specs.Notes.{Notes}
use Rattle.mp_snapshot.specs.Rules.{after_marker, is_strange_marker, is_under_way}
use Rattle.mp_machine.specs.declared.refusal.BadKind.TheVariants.{StrangeMarker}
use Rattle.mp_machine.specs.MemberFields.{IsReady, record_of}
use Rattle.mp_machine.specs.Snapshots.{judged_or_reported, marked}
use Rattle.mp_machine.proofs.ReadyLemmas.{ready_marked}
use Rattle.mp_machine.proofs.StepLemmas.{false_if_not, marked_on, not_bad, true_if_not}
use Rattle.mp_machine.proofs.WalkSteps.{same_step}
use Rattle.mp_machine.proofs.snapshots.take_marker.Goals as goal

pub begin_here-requires-clause-ready : goal.begin_here-requires-clause-ready
begin_here-requires-clause-ready g c =
    let s = c.args.search.now in
    let m = c.args.member.now in
    let fair = false_if_not (is_strange_marker m.snapshot c.args.from c.args.number) (λ is. false≢true (c.in-Ok.ensures.strange.1 is)) in
    subst (λ (n : Notes). IsReady s (record m { snapshot = n }))
    (sym (c.in-Ok.ensures.notes ∙ ap (λ (f : Findings). after_marker m.snapshot c.args.from c.args.number f) c.findings.ensures))
    (ready_marked s m c.requires.ready c.args.from c.args.number c.requires.small fair)

pub returns-in_ok-judge_or_report-in-Ok-clause-step :
    goal.returns-in_ok-judge_or_report-in-Ok-clause-step
returns-in_ok-judge_or_report-in-Ok-clause-step g c =
    let s = c.args.search.now in
    let m = c.args.member.now in
    let r = record_of s m in
    let after = record_of s c.judge_or_report.new.member in
    let fair = false_if_not (is_strange_marker m.snapshot c.args.from c.args.number) (λ is. false≢true (c.in-Ok.ensures.strange.1 is)) in
    let on = true_if_not (is_under_way m.snapshot) (sym c.in-Ok.ensures.first ∙ c.if-marked.false) in
    let notes = c.in-Ok.ensures.notes ∙ ap (λ (f : Findings). after_marker m.snapshot c.args.from c.args.number f) c.findings.ensures in
    not_bad (is_strange_marker m.snapshot c.args.from c.args.number) StrangeMarker (marked r c.args.from c.args.number) c.args.outs.now
    c.judge_or_report.new.outs after fair
    (same_step (marked r c.args.from c.args.number) (judged_or_reported (record_of s (record m { snapshot = c.marker.new.self }))) c.args.outs.now
    c.judge_or_report.new.outs after
    (ap (λ (n : Notes). judged_or_reported (record_of s (record m { snapshot = n }))) notes ∙ marked_on s m c.args.from c.args.number on)
    c.in_ok-judge_or_report-in-Ok.ensures.step)
