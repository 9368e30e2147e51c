use Rattle.std.proofs.Common.{sym, subst}
use Rattle.std.specs.Prelude.{OnOk}
use Rattle.mp_snapshot.specs.declared.verdict.Verdict.{Verdict}
use Rattle.mp_machine.specs.MemberFields.{HasStepped, record_of}
use Rattle.mp_machine.specs.Snapshots.{by_verdict}
use Rattle.mp_machine.proofs.snapshots.carry_out.Goals as goal

pub returns-in-Proved-clause-step : goal.returns-in-Proved-clause-step
returns-in-Proved-clause-step g c =
    let s = c.args.search.now in
    subst
    (λ (v : Verdict).
    OnOk c.pick.result (HasStepped (by_verdict (record_of s c.args.member.now) v) c.args.outs.now c.pick.new.outs (record_of s c.pick.new.member)))
    (sym c.in-Proved.is) (c.pick.ensures.step c.in-Proved.field-1)
