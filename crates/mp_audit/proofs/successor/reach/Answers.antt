use Rattle.mp_audit.proofs.SizeLemmas.{mine_beside, reached_beside, reached_joint}
use Rattle.mp_audit.proofs.successor.reach.Goals as goal

pub change_own-requires-clause-size : goal.change_own-requires-clause-size
change_own-requires-clause-size c = mine_beside c.args.task.now c.args.state.now _ c.requires.sizes c.requires.beside

pub change_publics-requires-clause-size : goal.change_publics-requires-clause-size
change_publics-requires-clause-size c = c.requires.beside.publics

pub returns-clause-joint : goal.returns-clause-joint
returns-clause-joint c =
    reached_joint c.args.task.now c.args.act.now c.args.state.now c.args.reached.now
    (record { publics = c.change_publics.new.publics; privates = c.change_own.new.sets }) c.requires.beside c.change_publics.ensures c.change_own.ensures

pub returns-clause-beside : goal.returns-clause-beside
returns-clause-beside c = reached_beside c.args.task.now c.args.act.now c.args.state.now _ _ c.requires.sizes c.requires.beside c.change_publics.ensures c.change_own.ensures
