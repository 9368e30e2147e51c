use Rattle.std.proofs.Common.{sym, ◌∙◌}
use Rattle.mp_audit.proofs.SizeLemmas.{sizes_beside, sizes_of_task}
use Rattle.mp_audit.proofs.StateLemmas.{beside_copy}
use Rattle.mp_audit.proofs.entries.agent_failure.Goals as goal

pub find_actions-requires-clause-sizes : goal.find_actions-requires-clause-sizes
find_actions-requires-clause-sizes c =
    sizes_of_task c.args.known.now.tasks.now c.args.task.now c.args.state.now (c.requires.ready.team c.args.task.now c.requires.team) c.requires.sizes

pub copy_state-requires-clause-publics : goal.copy_state-requires-clause-publics
copy_state-requires-clause-publics c = c.requires.reached.publics ∙ sym c.requires.sizes.publics

pub copy_state-requires-clause-privates : goal.copy_state-requires-clause-privates
copy_state-requires-clause-privates c = c.requires.reached.privates ∙ sym c.requires.sizes.privates

pub cheap_actions-requires-clause-beside : goal.cheap_actions-requires-clause-beside
cheap_actions-requires-clause-beside c = beside_copy c.args.task.now c.args.state.now c.copy_state.new.copy c.copy_state.ensures.publics c.copy_state.ensures.privates

pub returns-clause-reached : goal.returns-clause-reached
returns-clause-reached c =
    sizes_beside c.args.known.now.tasks.now c.args.task.now c.args.state.now c.cheap_actions.new.reached c.requires.sizes c.cheap_actions.ensures.beside
