use Rattle.std.proofs.Common.{◌<◌, List, Option, length, set, subst, sym, ◌∙◌}
use Rattle.mp_nodes.specs.Nodes.{AreServed, IsPlaceAt, SeenNode}
use Rattle.mp_nodes.specs.Served.{IsRound}
use Rattle.mp_nodes.proofs.Places.{at_place, is_at, round_of}
use Rattle.mp_nodes.proofs.serving.turn_at.Goals as goal

pub place_has_turn-requires-clause-place : goal.place_has_turn-requires-clause-place
place_has_turn-requires-clause-place g c =
    let nodes = c.nodes.inside.places.items in
    let v = c.args.desk.now.view in
    let value = g.H.Heuristic.value in
    let agents = c.args.posts.now.shared.key in
    let agent = c.agent_at.result in
    let at = c.args.at in
    let served : AreServed value agents nodes v = subst (λ ns. AreServed value agents ns v) (sym c.nodes.view_is) c.requires.served in
    let inside : at < length nodes = subst (λ (ns : List (Option SeenNode)). at < length ns) (sym c.nodes.view_is) c.requires.at in
    subst (IsPlaceAt value agents agent v)
    (at_place nodes at agent c.agent_at.ensures ∙ is_at nodes at c.index_mut.result.now inside c.index_mut.ensures.value)
    (served.each agent)

pub returns : goal.returns
returns g c =
    let nodes = c.nodes.inside.places.items in
    let v = c.args.desk.now.view in
    let value = g.H.Heuristic.value in
    let table = c.args.posts.now.shared.table_id in
    let agents = c.args.posts.now.shared.key in
    let at = c.args.at in
    let new = c.place_has_turn.new.place in
    let served : AreServed value agents nodes v = subst (λ ns. AreServed value agents ns v) (sym c.nodes.view_is) c.requires.served in
    let inside : at < length nodes = subst (λ (ns : List (Option SeenNode)). at < length ns) (sym c.nodes.view_is) c.requires.at in
    subst (λ ns. IsRound value table agents ns c.place_has_turn.result (set nodes at new) c.place_has_turn.new.desk) c.nodes.view_is
    (round_of value table agents c.agent_at.result nodes at c.index_mut.result.now new v c.place_has_turn.new.desk served c.agent_at.ensures inside
    (is_at nodes at c.index_mut.result.now inside c.index_mut.ensures.value) c.place_has_turn.result c.place_has_turn.ensures)
