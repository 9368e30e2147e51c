use Rattle.mp_team.proofs.Answering.{turned_answers}
use Rattle.mp_team.proofs.workers.both.Goals as goal

pub returns-then-is_bad : goal.returns-then-is_bad
returns-then-is_bad g c = λ first second a b.
    let shared = c.args.posts.now.shared in
    turned_answers g.H.Heuristic.value shared.table_id shared.key first second c.in_one.result (c.in_one.ensures second first b a)
