use Rattle.std.proofs.Common.{subst}
use Rattle.mp_audit.specs.Tables.{IsTable}
use Rattle.mp_audit.proofs.AuditLemmas.{double_verdict}
use Rattle.mp_audit.proofs.auditing.audit_bounds.Goals as goal

pub audit_once-requires-clause-all : goal.audit_once-requires-clause-all
audit_once-requires-clause-all c = (subst (IsTable c.args.tasks.now c.args.bounds.now.entries) c.in-Once.is c.in_ok-chains.ensures).0

pub audit_once-requires-clause-once : goal.audit_once-requires-clause-once
audit_once-requires-clause-once c = (subst (IsTable c.args.tasks.now c.args.bounds.now.entries) c.in-Once.is c.in_ok-chains.ensures).1

pub returns-in-Double : goal.returns-in-Double
returns-in-Double c =
    double_verdict c.args.tasks.now c.args.bounds.now.entries c.args.cost c.in-Double.entry (subst (IsTable c.args.tasks.now c.args.bounds.now.entries) c.in-Double.is c.in_ok-chains.ensures)
