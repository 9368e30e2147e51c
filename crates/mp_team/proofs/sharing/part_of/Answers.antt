use Rattle.std.proofs.Common.{◌≡◌, None, Some, length, set, ap, ◌∙◌}
use Rattle.std.specs.Prelude.{replicate}
use Rattle.std.proofs.lemmas.List.{length-set}
use Rattle.mp_team.proofs.Serving.{party_there}
use Rattle.mp_team.proofs.Shares.{parted}
use Rattle.mp_team.proofs.sharing.part_of.Goals as goal

pub split_off-requires-clause-held : goal.split_off-requires-clause-held
split_off-requires-clause-held g c =
    party_there g.H.Heuristic.value c.args.posts.now.shared.key c.args.work.now.nodes c.args.at c.in-Some.node c.args.work.now.desk.view
    c.requires.work.served c.in-Some.ensures.node

pub returns-in-Ok : goal.returns-in-Ok
returns-in-Ok g c =
    let shared = c.args.posts.now.shared in
    let old = c.args.work.now in
    let at = c.args.at in
    let node = c.in-Some.node in
    let e = c.in-Ok.ensures in
    let left = c.take.ensures.left in
    let many : length c.take.new.self ≡ length old.nodes = ap length left ∙ length-set old.nodes at None in
    parted g.H.Heuristic.value shared.table_id shared.key old c.split_off.new.work c.in-Ok.part at node c.requires.work c.requires.at
    c.in-Some.ensures.node e.desk e.part e.split (e.others ∙ left) (e.nodes ∙ ap (λ n. set (replicate n None) at (Some node)) many)
