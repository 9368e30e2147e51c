use Rattle.mp_audit.proofs.SizeLemmas.{number_within, sizes_of_task}
use Rattle.mp_audit.proofs.leading.cheap_in_other.Goals as goal

pub concerns-requires-clause-team : goal.concerns-requires-clause-team
concerns-requires-clause-team c =
    number_within c.args.known.now.tasks.now c.args.task.now c.args.other.now (c.requires.ready.team c.args.task.now c.requires.team) c.requires.other

pub concerns-requires-clause-sizes : goal.concerns-requires-clause-sizes
concerns-requires-clause-sizes c =
    sizes_of_task c.args.known.now.tasks.now c.args.task.now c.args.reached.now (c.requires.ready.team c.args.task.now c.requires.team) c.requires.sizes

pub concerns-requires-clause-other : goal.concerns-requires-clause-other
concerns-requires-clause-other c =
    sizes_of_task c.args.known.now.tasks.now c.args.other.now c.args.reached.now (c.requires.ready.team c.args.other.now c.requires.other) c.requires.sizes
