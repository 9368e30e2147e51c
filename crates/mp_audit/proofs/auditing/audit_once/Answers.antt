use Rattle.std.proofs.Common.{◌∙◌}
use Rattle.mp_audit.proofs.AuditLemmas.{once_verdict}
use Rattle.mp_audit.proofs.auditing.audit_once.Goals as goal

pub first_failure-requires : goal.first_failure-requires
first_failure-requires c = record { team = λ t here. record { agree = c.requires.bounds.agree; in_team = here }; fits = c.requires.bounds.fits; all = c.requires.all; once = c.requires.once; finders = c.in_ok-finders.ensures }

pub returns : goal.returns
returns c =
    c.verdict_by.ensures
    ∙ once_verdict c.args.tasks.now c.args.bounds.now.entries c.args.cost c.in_ok-first.first c.requires.once c.in_ok-first.ensures
