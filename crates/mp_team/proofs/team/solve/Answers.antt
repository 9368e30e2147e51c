use Rattle.std.proofs.Common.{[], ◌∷◌}
use Rattle.std.proofs.lemmas.Result.{IfOk-weaker}
use Rattle.mp_team.proofs.Answering.{all_answered}
use Rattle.mp_team.proofs.Shares.{first_fits, others_fit}
use Rattle.mp_team.proofs.team.solve.Goals as goal

pub in_threads-answered-requires-clause-work : goal.in_threads-answered-requires-clause-work
in_threads-answered-requires-clause-work g c κs within =
    let shared = c.in_ok-posts.posts.shared in
    first_fits g.H.Heuristic.value shared.table_id shared.key (c.in_ok-posts.work.nodes ∷ []) c.shared_out.new.from
    c.in_ok-others.others.items c.in_ok-others.ensures

pub in_threads-answered-requires-clause-others : goal.in_threads-answered-requires-clause-others
in_threads-answered-requires-clause-others g c κs within =
    let shared = c.in_ok-posts.posts.shared in
    others_fit g.H.Heuristic.value shared.table_id shared.key (c.in_ok-posts.work.nodes ∷ []) c.shared_out.new.from
    c.in_ok-others.others.items c.in_ok-others.ensures

pub closed-requires-clause-all : goal.closed-requires-clause-all
closed-requires-clause-all g c =
    let shared = c.in_ok-posts.posts.shared in
    let begun = c.in_ok-posts.ensures in
    let answered = c.in_threads-answered in (
      c.args.machines.items,
      all_answered g.H.Heuristic.value shared.table_id shared.key c.args.machines.items c.requires.machines begun.posts.1 c.in_ok-posts.work.nodes
          begun.nodes (c.shared_out.new.from ∷ c.in_ok-others.others.items) c.in_ok-others.ensures.kept answered.result answered.ensures,
    )

pub returns : goal.returns
returns g c =
    let shared = c.in_ok-posts.posts.shared in
    let begun = c.in_ok-posts.ensures in
    let answered = c.in_threads-answered in
    IfOk-weaker c.closed.result _ _
    (λ f finished. finished c.args.machines.items
    (all_answered g.H.Heuristic.value shared.table_id shared.key c.args.machines.items c.requires.machines begun.posts.1 c.in_ok-posts.work.nodes
    begun.nodes (c.shared_out.new.from ∷ c.in_ok-others.others.items) c.in_ok-others.ensures.kept answered.result answered.ensures))
    c.closed.ensures
