use Rattle.mp_top.proofs.Spent.{call_spent}
use Rattle.mp_top.proofs.undecided.undecided_is_spent.Goals as goal

pub returns : goal.returns
returns c =
    call_spent
    (record { one = c.one_team.ensures.one; held = c.one_team.ensures.held; holds = c.one_team.ensures.holds; made = c.one_team.ensures.made })
    c.tasks_are_one.ensures
