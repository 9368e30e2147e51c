use Rattle.std.proofs.Common.{◌≢◌, Some, ap, subst, sym, ◌∙◌}
use Rattle.mp_nodes.specs.Nodes.{SeenNode}
use Rattle.mp_nodes.specs.Steps.{HasHanded, me_of}
use Rattle.mp_nodes.proofs.OneAfterAnother.{takes}
use Rattle.mp_nodes.proofs.node.Node.take_one.Goals as goal

pub returns-in-Ok-Some : goal.returns-in-Ok-Some
returns-in-Ok-Some g c =
    let turn = c.in-Ok-Some.ensures in
    let table = c.args.posts.now.shared.table_id in
    let agents = c.args.posts.now.shared.key in
    takes g.H.Heuristic.value table agents c.args.self.now c.turn.new.self c.take_in.new.self
    c.args.desk.now c.turn.new.desk c.take_in.result (turn.machine ∙ ap (λ (n : SeenNode). n.machine) c.passes_over.ensures)
    (λ agent other. turn.others agent (subst (λ (n : SeenNode). agent ≢ me_of n) (sym c.passes_over.ensures) other)) turn.desk c.take_in.ensures.same
    (c.take_in.ensures.leaves table agents c.turn.new.desk
    (subst (λ handed. HasHanded g.H.Heuristic.value table agents (Some c.args.from) handed c.turn.new.self c.turn.new.desk) c.in-Ok-Some.field-0-is
    turn.handed))
