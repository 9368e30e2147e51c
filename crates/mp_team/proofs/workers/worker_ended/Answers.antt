use Rattle.std.proofs.Common.{ap, subst}
use Rattle.mp_team.specs.Works.{IsBack}
use Rattle.mp_team.proofs.Answering.{served_back}
use Rattle.mp_team.proofs.workers.worker_ended.Goals as goal

pub returns : goal.returns
returns g c =
    let value = g.H.Heuristic.value in
    let shared = c.args.posts.now.shared in
    let old = c.args.handle.promise.work.value in
    let given = c.args.handle.promise.posts.value.shared in
    let back : IsBack value shared.table_id shared.key old c.join.result =
    subst (λ t. IsBack value t shared.key old c.join.result) (ap (λ x. x.shared.table_id) c.requires.same)
    (subst (λ k. IsBack value given.table_id k old c.join.result) (ap (λ x. x.shared.key) c.requires.same) c.join.ensures) in
    served_back value shared.table_id shared.key old c.join.result c.ended.result back c.ended.ensures
