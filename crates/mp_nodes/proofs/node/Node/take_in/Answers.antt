use Rattle.mp_nodes.proofs.OneAfterAnother.{receives}
use Rattle.mp_nodes.proofs.node.Node.take_in.Goals as goal

pub returns-in-Ok-clause-leaves : goal.returns-in-Ok-clause-leaves
returns-in-Ok-clause-leaves g c = λ table agents d at. receives g.H.Heuristic.value table agents c.messages_go_to_others.ensures.step c.args.self.now
    c.receive.new.self d c.args.from c.args.bytes.now at c.in-Ok.ensures.same c.in-Ok.ensures.received
