use Rattle.std.proofs.Common.{subst}
use Rattle.mp_rows.specs.Apart.{AreApart}
use Rattle.mp_rows.proofs.rows.Rows.len.Goals as goal

pub returns-clause-apart : goal.returns-clause-apart
returns-clause-apart c = subst AreApart c.self.view_is c.self.invariant.placed.apart
