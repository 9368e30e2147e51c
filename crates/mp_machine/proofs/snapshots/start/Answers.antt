use Rattle.std.proofs.Common.{◌+◌, sym, subst}
use Rattle.mp_snapshot.specs.Rules.{begun}
use Rattle.mp_machine.specs.declared.member.Member.{Member}
use Rattle.mp_machine.specs.MemberFields.{IsReady, record_of}
use Rattle.mp_machine.specs.Snapshots.{found_by}
use Rattle.mp_machine.proofs.ReadyLemmas.{ready_begun, ready_noted}
use Rattle.mp_machine.proofs.StepLemmas.{start_parts, start_unknown}
use Rattle.mp_machine.proofs.snapshots.start.Goals as goal

pub judge-requires-clause-ready : goal.judge-requires-clause-ready
judge-requires-clause-ready g c =
    let s = c.args.search.now in
    let m = c.args.member.now in
    let may = start_parts (record_of s m) c.requires.may in
    let begins : Member = record m { snapshot = begun m.snapshot (m.snapshot.number + 1) (found_by s.limit s.done) } in
    subst (λ (x : Member). IsReady s x) (sym c.begin.ensures)
    (ready_noted s begins
    (ready_begun s m c.requires.ready may.room (c.requires.ready.trail (start_unknown (record_of s m) may))))
