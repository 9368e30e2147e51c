use Rattle.mp_team.proofs.Shares.{left_alone, only, put_together, same_many}
use Rattle.mp_team.proofs.sharing.gathered.Goals as goal

pub joined-requires-clause-desk : goal.joined-requires-clause-desk
joined-requires-clause-desk g c =
    let shared = c.args.posts.now.shared in
    (only g.H.Heuristic.value shared.table_id shared.key c.args.work c.in-Some.work c.in-Some.is c.requires.work).desk

pub joined-requires-clause-other : goal.joined-requires-clause-other
joined-requires-clause-other g c =
    let shared = c.args.posts.now.shared in
    (only g.H.Heuristic.value shared.table_id shared.key c.args.part c.in-Some-part.part c.in-Some-part.is c.requires.part).desk

pub joined-requires-clause-many : goal.joined-requires-clause-many
joined-requires-clause-many g c =
    let shared = c.args.posts.now.shared in
    same_many g.H.Heuristic.value shared.table_id shared.key c.in-Some.work c.in-Some-part.part
    (only g.H.Heuristic.value shared.table_id shared.key c.args.work c.in-Some.work c.in-Some.is c.requires.work)
    (only g.H.Heuristic.value shared.table_id shared.key c.args.part c.in-Some-part.part c.in-Some-part.is c.requires.part)

pub returns-in-None-part : goal.returns-in-None-part
returns-in-None-part g c =
    let shared = c.args.posts.now.shared in
    left_alone g.H.Heuristic.value shared.table_id shared.key c.args.work c.args.part c.in-Some.work c.in-Some.is c.in-None-part.is
    c.requires.work

pub returns-in-Some-part : goal.returns-in-Some-part
returns-in-Some-part g c =
    let shared = c.args.posts.now.shared in
    let both = c.joined.ensures in
    put_together g.H.Heuristic.value shared.table_id shared.key c.args.work c.args.part c.in-Some.work c.in-Some-part.part c.joined.result
    c.in-Some.is c.in-Some-part.is c.requires.work c.requires.part both.desk both.merged both.nodes
