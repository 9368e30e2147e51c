use Rattle.std.proofs.Common.{◌≡◌, [], ◌∷◌, sym, subst}
use Rattle.mp_post.specs.Parts.{HasMerged}
use Rattle.mp_team.specs.Joined.{either_nodes}
use Rattle.mp_team.specs.Works.{AreAnswered, IsBack, IsWork, nodes_of}
use Rattle.mp_team.specs.declared.work.Work.{Work}
use Rattle.mp_team.proofs.Shares.{at_joined, at_last, joined_fits, popped, same_many}
use Rattle.mp_team.proofs.workers.+all_served.Goals as goal

pub started-requires-clause-work : goal.started-requires-clause-work
started-requires-clause-work g t c κs within =
    let shared = c.args.posts.now.shared in
    (popped g.H.Heuristic.value shared.table_id shared.key c.args.others.items c.pop.new.self.items c.in-Some.other c.in-Some.ensures.items
    c.requires.others).1

pub all_served-rest-requires-clause-others : goal.all_served-rest-requires-clause-others
all_served-rest-requires-clause-others g t c κs within =
    let shared = c.args.posts.now.shared in
    (popped g.H.Heuristic.value shared.table_id shared.key c.args.others.items c.pop.new.self.items c.in-Some.other c.in-Some.ensures.items
    c.requires.others).0

pub worker_ended-last-requires-clause-work : goal.worker_ended-last-requires-clause-work
worker_ended-last-requires-clause-work g t c =
    let shared = c.args.posts.now.shared in
    subst (λ (w : Work g.row.H.Denot). IsWork g.H.Heuristic.value c.args.posts.now.shared.table_id c.args.posts.now.shared.key w)
    (sym c.in-Ok.ensures.1)
    (popped g.H.Heuristic.value shared.table_id shared.key c.args.others.items c.pop.new.self.items c.in-Some.other
    c.in-Some.ensures.items c.requires.others).1

pub all_served-rest-requires-in-Err-Ok-clause-others : goal.all_served-rest-requires-in-Err-Ok-clause-others
all_served-rest-requires-in-Err-Ok-clause-others g t c κs within =
    let shared = c.args.posts.now.shared in
    (popped g.H.Heuristic.value shared.table_id shared.key c.args.others.items c.pop.new.self.items c.in-Some.other c.in-Some.ensures.items
    c.requires.others).0

pub joined-work-requires-clause-other : goal.joined-work-requires-clause-other
joined-work-requires-clause-other g t c =
    let shared = c.args.posts.now.shared in
    (subst (λ (w : Work g.row.H.Denot). IsWork g.H.Heuristic.value c.args.posts.now.shared.table_id c.args.posts.now.shared.key w)
    (sym (subst (IsBack g.H.Heuristic.value c.args.posts.now.shared.table_id c.args.posts.now.shared.key c.in-Some.other) c.in-Err-Err.field-0-is c.in-Err-Err.ensures))
    (popped g.H.Heuristic.value shared.table_id shared.key c.args.others.items c.pop.new.self.items c.in-Some.other
    c.in-Some.ensures.items c.requires.others).1).desk

pub joined-work-requires-clause-many : goal.joined-work-requires-clause-many
joined-work-requires-clause-many g t c =
    let shared = c.args.posts.now.shared in
    same_many g.H.Heuristic.value shared.table_id shared.key c.args.work c.in-Err-Err.other c.requires.work
    (subst (λ (w : Work g.row.H.Denot). IsWork g.H.Heuristic.value c.args.posts.now.shared.table_id c.args.posts.now.shared.key w)
    (sym (subst (IsBack g.H.Heuristic.value c.args.posts.now.shared.table_id c.args.posts.now.shared.key c.in-Some.other) c.in-Err-Err.field-0-is c.in-Err-Err.ensures))
    (popped g.H.Heuristic.value shared.table_id shared.key c.args.others.items c.pop.new.self.items c.in-Some.other
    c.in-Some.ensures.items c.requires.others).1)

pub all_served-requires-clause-work : goal.all_served-requires-clause-work
all_served-requires-clause-work g t c κs within =
    let shared = c.args.posts.now.shared in
    let both = c.joined-work.ensures in
    joined_fits g.H.Heuristic.value shared.table_id shared.key c.args.work c.in-Err-Err.other c.joined-work.result c.requires.work
    (subst (λ (w : Work g.row.H.Denot). IsWork g.H.Heuristic.value c.args.posts.now.shared.table_id c.args.posts.now.shared.key w)
    (sym (subst (IsBack g.H.Heuristic.value c.args.posts.now.shared.table_id c.args.posts.now.shared.key c.in-Some.other) c.in-Err-Err.field-0-is c.in-Err-Err.ensures))
    (popped g.H.Heuristic.value shared.table_id shared.key c.args.others.items c.pop.new.self.items c.in-Some.other
    c.in-Some.ensures.items c.requires.others).1)
    both.desk both.merged both.nodes

pub all_served-requires-clause-others : goal.all_served-requires-clause-others
all_served-requires-clause-others g t c κs within =
    let shared = c.args.posts.now.shared in
    (popped g.H.Heuristic.value shared.table_id shared.key c.args.others.items c.pop.new.self.items c.in-Some.other c.in-Some.ensures.items
    c.requires.others).0

pub returns-in-Ok : goal.returns-in-Ok
returns-in-Ok g t c =
    let shared = c.args.posts.now.shared in
    let before = c.pop.new.self.items in
    at_last g.H.Heuristic.value shared.table_id shared.key c.args.work c.in-Some.other before c.args.others.items c.both.result
    c.in-Some.ensures.items
    (c.both.ensures (nodes_of (c.args.work ∷ before)) (c.in-Some.other.nodes ∷ []) c.all_served-rest.ensures
    (subst (λ (w : Work g.row.H.Denot). AreAnswered g.H.Heuristic.value c.args.posts.now.shared.table_id
    c.args.posts.now.shared.key (w.nodes ∷ []) c.worker_ended-last.result) c.in-Ok.ensures.1 c.worker_ended-last.ensures))

pub returns-in-Err-Ok : goal.returns-in-Err-Ok
returns-in-Err-Ok g t c =
    let shared = c.args.posts.now.shared in
    let before = c.pop.new.self.items in
    at_last g.H.Heuristic.value shared.table_id shared.key c.args.work c.in-Some.other before c.args.others.items c.both-in-Err-Ok.result
    c.in-Some.ensures.items
    (c.both-in-Err-Ok.ensures (nodes_of (c.args.work ∷ before)) (c.in-Some.other.nodes ∷ []) c.all_served-rest-in-Err-Ok.ensures
    (subst (IsBack g.H.Heuristic.value c.args.posts.now.shared.table_id c.args.posts.now.shared.key c.in-Some.other) c.in-Err-Ok.field-0-is c.in-Err-Ok.ensures))

pub returns-in-Err-Err : goal.returns-in-Err-Err
returns-in-Err-Err g t c =
    let value = g.H.Heuristic.value in
    let table = c.args.posts.now.shared.table_id in
    let key = c.args.posts.now.shared.key in
    let before = c.pop.new.self.items in
    let both = c.joined-work.ensures in
    let own : IsWork value table key c.in-Some.other =
    (popped value table key c.args.others.items before c.in-Some.other c.in-Some.ensures.items c.requires.others).1 in
    let is : c.in-Err-Err.other ≡ c.in-Some.other =
    subst (IsBack value table key c.in-Some.other) c.in-Err-Err.field-0-is c.in-Err-Err.ensures in
    at_joined value table key c.args.work c.in-Some.other c.joined-work.result before c.args.others.items c.all_served.result
    c.in-Some.ensures.items c.requires.work own both.desk
    (subst (λ (w : Work g.row.H.Denot). HasMerged c.args.work.desk.view w.desk.view c.joined-work.result.desk.view) is both.merged)
    (subst (λ (w : Work g.row.H.Denot). c.joined-work.result.nodes ≡ either_nodes c.args.work.nodes w.nodes) is both.nodes)
    c.all_served.ensures
