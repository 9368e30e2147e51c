use Rattle.mp_split.proofs.Basics.{List, subst, sym, Act, IsOfTeam}
use Rattle.mp_split.proofs.task.add_task.Goals as goal

pub make_task-requires : goal.make_task-requires
make_task-requires c =
    subst (λ (acts : List Act). IsOfTeam c.args.table.now c.args.common.now (record c.args.ground { acts = acts }))
    (sym c.replace-acts.ensures.value) c.requires
