use Rattle.mp_nodes.proofs.OneAfterAnother.{with_answer}
use Rattle.mp_nodes.proofs.node.Node.start_after.Goals as goal

pub returns-after-did : goal.returns-after-did
returns-after-did g c = λ table agents d ready. with_answer g.H.Heuristic.value table agents c.args.self.now c.start_if_first.new.self d d
    c.in-Ok.started c.if-did.result (c.in-Ok.ensures table agents d ready)
