use Rattle.std.proofs.Common.{List, [], ◌∷◌, sym, subst}
use Rattle.mp_team.specs.Works.{AreShared, parts_of}
use Rattle.mp_team.specs.declared.work.Work.{Work}
use Rattle.mp_team.proofs.Shares.{first_fits, one_worker}
use Rattle.mp_team.proofs.sharing.shared_out.Goals as goal

pub work_of-requires-clause-from : goal.work_of-requires-clause-from
work_of-requires-clause-from g c =
    let shared = c.args.posts.now.shared in
    let l = c.loop-worker in
    first_fits g.H.Heuristic.value shared.table_id shared.key (c.args.from.now.nodes ∷ []) l.from l.others.items l.invariant

pub loop-worker-preserved : goal.loop-worker-preserved
loop-worker-preserved g c =
    let value = g.H.Heuristic.value in
    let table = c.args.posts.now.shared.table_id in
    let key = c.args.posts.now.shared.key in
    let l = c.loop-worker in
    let new = c.work_of.new.from in
    subst (λ (ws : List (Work g.row.H.Denot)). AreShared value table key (c.args.from.now.nodes ∷ []) (new ∷ ws)) (sym c.in_ok-push.ensures)
    (one_worker value table key (c.args.from.now.nodes ∷ []) l.from new l.others.items (parts_of c.in_ok-work.work) l.invariant
    c.in_ok-work.ensures)
