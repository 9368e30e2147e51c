use Rattle.mp_nodes.proofs.OneAfterAnother.{then}
use Rattle.mp_nodes.proofs.node.Node.has_turn.Goals as goal

pub returns-in-Ok : goal.returns-in-Ok
returns-in-Ok g c =
    then g.H.Heuristic.value c.args.posts.now.shared.table_id c.args.posts.now.shared.key c.args.self.now c.take_from_others.new.self
    c.act_and_sign.new.self c.args.desk.now c.take_from_others.new.desk c.act_and_sign.new.desk c.in-Ok.took c.act_and_sign.result c.in-Ok.ensures
    c.act_and_sign.ensures
