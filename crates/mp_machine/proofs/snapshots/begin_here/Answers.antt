use Rattle.std.proofs.Common.{sym, subst}
use Rattle.mp_machine.specs.declared.member.Member.{Member}
use Rattle.mp_machine.specs.MemberFields.{IsReady}
use Rattle.mp_machine.proofs.ReadyLemmas.{ready_noted}
use Rattle.mp_machine.proofs.snapshots.begin_here.Goals as goal

pub judge_or_report-requires-clause-ready : goal.judge_or_report-requires-clause-ready
judge_or_report-requires-clause-ready g c =
    subst (λ (m : Member). IsReady c.args.search.now m) (sym c.note.ensures)
    (ready_noted c.args.search.now c.args.member.now c.requires.ready)
