use Rattle.std.proofs.Common.{◌≡◌, length, ap, sym, ◌∙◌, subst, arith}
use Rattle.mp_nodes.specs.Nodes.{AreServed}
use Rattle.mp_post.specs.Desks.{IsDeskOf}
use Rattle.mp_post_rule.specs.Views.{first_view}
use Rattle.mp_team.specs.Machines.{first_places}
use Rattle.mp_team.proofs.First.{first_served, numbers}
use Rattle.mp_team.proofs.beginning.begun.Goals as goal

pub nodes_of-requires-clause-numbered : goal.nodes_of-requires-clause-numbered
nodes_of-requires-clause-numbered g c = numbers g.H.Heuristic.value c.args.machines.items c.requires

pub returns-clause-work : goal.returns-clause-work
returns-clause-work g c =
    let value = g.H.Heuristic.value in
    let ms = c.args.machines.items in
    let posts = c.in_ok-posts.posts in
    let desk = c.in_ok-posts.desk in
    let made = c.in_ok-posts.ensures in
    let key = posts.shared.key in
    let view = made.view ∙ ap first_view (sym made.posts.1) in
    let count : key ≡ length ms =
    let same = made.posts.1 in let many = c.len-count.ensures in let all = c.args.machines.ok in omega arith in
    let served = first_served value ms c.requires key count in
    record {
      desk = subst (λ n. IsDeskOf posts.shared.table_id n desk) (sym made.posts.1) made.desk;
      served = subst (λ ns. AreServed value key ns desk.view) (sym c.in_ok-nodes.ensures)
          (subst (AreServed value key (first_places ms)) (sym view) served);
    }
