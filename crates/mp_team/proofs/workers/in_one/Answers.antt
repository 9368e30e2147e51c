use Rattle.std.proofs.Common.{◌++◌, subst, sym, ◌∙◌}
use Rattle.mp_team.specs.Works.{AreAnswered}
use Rattle.mp_team.proofs.Answering.{joined_answers, many_here}
use Rattle.mp_team.proofs.workers.in_one.Goals as goal

pub joined-requires-clause-many : goal.joined-requires-clause-many
joined-requires-clause-many g c =
    let shared = c.args.posts.now.shared in
    let one = c.requires.one in
    let other = c.requires.other in
    let enough = c.requires.enough in
    many_here g.H.Heuristic.value shared.table_id shared.key other.0 c.args.other enough.1 other.1
    ∙ sym (many_here g.H.Heuristic.value shared.table_id shared.key one.0 c.args.one enough.0 one.1)

pub returns : goal.returns
returns g c = λ first second a b.
    let value = g.H.Heuristic.value in
    let shared = c.args.posts.now.shared in
    let joined = c.joined.ensures in
    let enough = c.requires.enough in
    let r = c.joined.result in
    subst (λ s. AreAnswered value shared.table_id shared.key (first ++ second) (record { work = r; served = s }))
    (sym c.first_unended-served.ensures)
    (joined_answers value shared.table_id shared.key first second c.args.one c.args.other r enough.0 enough.1 a b
    joined.desk joined.merged joined.nodes c.requires.bad)
