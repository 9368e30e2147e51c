use Rattle.std.proofs.Common.{Some, sym}
use Rattle.mp_certificates.proofs.LineLemmas.{entry_by_end}
use Rattle.mp_certificates.proofs.lines.entry.Goals as goal

pub returns-clause-entry : goal.returns-clause-entry
returns-clause-entry c =
    entry_by_end c.args.tasks.now c.args.text.now c.in-Some.head c.in-Some.rest.now c.entry_lists.new.lists c.in_ok-rest.rest.now
    (Some c.in-Some-behind.rest.now) (sym c.in-Some.ensures) c.in_ok-rest.ensures.lists (sym c.in-Some-behind.ensures)
