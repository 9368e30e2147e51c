use Rattle.mp_nodes.proofs.Places.{place_off}
use Rattle.mp_nodes.proofs.serving.node_has_turn.Goals as goal

pub returns-in-Err : goal.returns-in-Err
returns-in-Err g c =
    place_off g.H.Heuristic.value c.args.posts.now.shared.table_id c.args.posts.now.shared.key c.args.agent c.args.node.now c.has_turn.new.self
    c.args.desk.now c.has_turn.new.desk c.requires.node.fits.me c.in-Err.stop c.answered.result c.answered.new.desk c.in-Err.ensures
    c.requires.posts.from_1 c.answered.ensures.desk c.answered.ensures.others c.answered.ensures.answer
