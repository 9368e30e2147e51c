use Rattle.std.proofs.Common.{[], ◌∷◌}
use Rattle.mp_team.specs.Works.{parts_of}
use Rattle.mp_team.proofs.Shares.{one_over, others_fit}
use Rattle.mp_team.proofs.sharing.one_more.Goals as goal

pub gathered-requires-clause-part : goal.gathered-requires-clause-part
gathered-requires-clause-part g c =
    let shared = c.args.posts.now.shared in
    others_fit g.H.Heuristic.value shared.table_id shared.key (c.args.from.now.nodes ∷ []) c.part_of.new.work (parts_of c.in-Ok.part)
    c.in-Ok.ensures

pub returns-in-Ok : goal.returns-in-Ok
returns-in-Ok g c =
    let shared = c.args.posts.now.shared in
    one_over g.H.Heuristic.value shared.table_id shared.key c.args.from.now c.part_of.new.work c.args.work c.in-Ok.part c.gathered.result
    c.in-Ok.ensures c.gathered.ensures
