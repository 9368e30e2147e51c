use Rattle.std.proofs.Common.{sym, ◌∙◌}
use Rattle.mp_audit.specs.Failures.{all_entry_failures, low_starts}
use Rattle.mp_audit.proofs.FirstLemmas.{first_of, second_of}
use Rattle.mp_audit.proofs.auditing.first_failure.Goals as goal

pub returns-in-Some : goal.returns-in-Some
returns-in-Some c =
    let d = c.args.known.now in
    first_of (low_starts d.tasks.now d.bounds.now.entries c.args.cost) (all_entry_failures d.tasks.now d.bounds.now.entries) c.in-Some.failure
    (sym c.in-Some.is ∙ c.in_ok-failure.ensures)

pub returns : goal.returns
returns c =
    let d = c.args.known.now in
    second_of (low_starts d.tasks.now d.bounds.now.entries c.args.cost) (all_entry_failures d.tasks.now d.bounds.now.entries) c.in_ok-first.first
    (sym c.in_default.is ∙ c.in_ok-failure.ensures) c.in_ok-first.ensures
