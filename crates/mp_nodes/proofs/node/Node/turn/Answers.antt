use Rattle.std.proofs.Common.{refl}
use Rattle.mp_nodes.proofs.AfterTurns.{turn_stopped}
use Rattle.mp_nodes.proofs.node.Node.turn.Goals as goal

pub returns-in-Err-clause-stopped : goal.returns-in-Err-clause-stopped
returns-in-Err-clause-stopped g c = turn_stopped g.H.Heuristic.value c.args.posts.now.shared.table_id c.args.posts.now.shared.key
    c.args.self.now c.args.desk.now.view c.turn.new.self.view c.requires.ready.node c.turn.new.self refl c.take_batch-batch.new.self
    c.take_back.new.self c.me-me.result c.take_batch-batch.result c.in-Err.refusal c.take_back.result c.me-me.ensures
    c.take_batch-batch.ensures.batch c.take_batch-batch.ensures.left c.in-Err.ensures.refused c.take_back.ensures
