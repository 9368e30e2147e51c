use Rattle.std.proofs.Common.{[], ◌∷◌, subst, sym}
use Rattle.mp_top.specs.Asked.Work.{audited}
use Rattle.mp_top.specs.Decided.{IsRefusedTeam}
use Rattle.mp_top.proofs.Decided.{refused_audit}
use Rattle.mp_top.proofs.optimality.audit_for.Goals as goal

pub returns-in-Err-clause-refused : goal.returns-in-Err-clause-refused
returns-in-Err-clause-refused c =
    let certificate = c.args.certificate.now in
    let plan = c.args.plan.now in
    subst (IsRefusedTeam audited c.args.team.now (certificate ∷ plan ∷ [])) (sym c.audit_refused.ensures)
    (refused_audit c.args.team.now certificate plan c.in-Err.refusal c.in-Err.ensures.refused)

pub returns-in-Ok-clause-outcome : goal.returns-in-Ok-clause-outcome
returns-in-Ok-clause-outcome c = record { found = c.in-Ok.found; is_audited = c.in-Ok.ensures.audited; is_told = c.told_audit.ensures }
