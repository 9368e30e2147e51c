use Rattle.std.proofs.Common.{true}
use Rattle.mp_nodes.proofs.OneAfterAnother.{acts}
use Rattle.mp_nodes.proofs.node.Node.act_if.Goals as goal

pub returns-in-Ok : goal.returns-in-Ok
returns-in-Ok g c = λ table agents d ready. acts g.H.Heuristic.value table agents c.messages_go_to_others.ensures.step c.args.self.now c.act.new.self
    d c.args.kind true ready c.act.ensures.same c.in-Ok.ensures.acted
