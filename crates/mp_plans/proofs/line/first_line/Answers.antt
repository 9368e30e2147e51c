use Rattle.mp_plans.proofs.LineLemmas.{lines_cut, rest_shorter}
use Rattle.mp_plans.proofs.line.first_line.Goals as goal

pub returns-clause-lines : goal.returns-clause-lines
returns-clause-lines c =
    lines_cut _ _ _ _ c.if-is_empty.ensures c.line_size.ensures.value c.split_at.ensures.front c.split_at.ensures.back

pub returns-clause-shorter : goal.returns-clause-shorter
returns-clause-shorter c = rest_shorter _ _ _ c.if-is_empty.ensures c.line_size.ensures.value c.split_at.ensures.back
