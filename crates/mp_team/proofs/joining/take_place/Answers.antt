use Rattle.std.proofs.Common.{None, get_or, set, ◌∙◌}
use Rattle.std.proofs.lemmas.List.{set-set}
use Rattle.mp_team.specs.Joined.{either_node}
use Rattle.mp_team.proofs.joining.take_place.Goals as goal

pub returns-clause-own : goal.returns-clause-own
returns-clause-own g c =
    let ns = c.args.nodes.now in
    let ms = c.args.others.now in
    let at = c.args.at in
    let own = c.take-own.ensures in
    let x = either_node (get_or ns at None) (get_or ms at None) in
    c.put.ensures
    ∙ ((λ i. set (own.left i) at (c.either.ensures i))
    ∙ ((λ i. set (set ns at None) at (either_node (own.node i) (c.take-other.ensures.node i))) ∙ set-set ns at None x))
