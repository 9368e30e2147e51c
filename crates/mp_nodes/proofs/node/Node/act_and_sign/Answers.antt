use Rattle.mp_nodes.proofs.OneAfterAnother.{then}
use Rattle.mp_nodes.proofs.node.Node.act_and_sign.Goals as goal

pub returns-after-did : goal.returns-after-did
returns-after-did g c =
    let table = c.args.posts.now.shared.table_id in
    let agents = c.args.posts.now.shared.key in
    then g.H.Heuristic.value table agents c.args.self.now c.act_alone.new.self c.sign_after.new.self c.args.desk.now c.args.desk.now
    c.sign_after.new.desk c.in-Ok.acted c.sign_after.result (c.in-Ok.ensures table agents c.args.desk.now c.requires.ready) c.sign_after.ensures
