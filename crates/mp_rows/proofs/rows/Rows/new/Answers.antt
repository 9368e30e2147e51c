use Rattle.mp_rows.proofs.RowLemmas.{no_rows}
use Rattle.mp_rows.proofs.rows.Rows.new.Goals as goal

pub invariant_of-result : goal.invariant_of-result
invariant_of-result c = no_rows c.new.result.items c.new-2.result.items c.new-3.result.items c.new-2.ensures.items c.new-3.ensures.items
