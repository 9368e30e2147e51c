use Rattle.mp_top.proofs.Workers.{of_turns}
use Rattle.mp_top.proofs.finding.in_turn.Goals as goal

pub returns : goal.returns
returns c =
    of_turns c.args.search c.args.workers c.args.team.now c.searched.result c.searched.ensures.within
    c.searched.ensures.refused c.searched.ensures.solution
