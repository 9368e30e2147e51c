use Rattle.mp_nodes.proofs.OneAfterAnother.{ready_again, then}
use Rattle.mp_nodes.proofs.node.Node.act_alone.Goals as goal

pub returns-in-Ok : goal.returns-in-Ok
returns-in-Ok g c = λ table agents d ready.
    let first = c.in-Ok.ensures table agents d ready in
    then g.H.Heuristic.value table agents c.args.self.now c.act_if.new.self c.start_after.new.self d d d c.in-Ok.expanded c.start_after.result first
    (c.start_after.ensures table agents d
    (ready_again g.H.Heuristic.value table agents c.args.self.now c.act_if.new.self d d c.in-Ok.expanded first))
