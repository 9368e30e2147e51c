use Rattle.mp_split.proofs.Basics.{arith, ◌++◌, All, All-head, length, map, refl, subst, sym, ap, ◌∙◌, into_iter_items, Ground, IsOfTeam, task_with}
use Rattle.std.proofs.lemmas.List.Elements.{All-rest}
use Rattle.mp_split.proofs.Taking.{all_taken, one_taken}
use Rattle.mp_split.proofs.task.tasks_of.Goals as goal

pub loop-ground-init : goal.loop-ground-init
loop-ground-init c =
    let gives = c.into_iter-ground-iterator.ensures.into_iter_gives in
    record {
      count = let a = gives.1 in let b = ap length gives.0 in let d = c.args.grounds.ok.0 in omega arith;
      tasks = λ i. c.in_ok-with_capacity.ensures i ++ map (task_with c.args.table.now c.args.common.now) (gives.0 i);
      steps = λ i. c.in_ok-with_capacity-2.ensures i ++ map (λ (g : Ground). g.steps) (gives.0 i);
      views = refl;
      team = subst (All (IsOfTeam c.args.table.now c.args.common.now)) (sym gives.0) c.requires;
    }

pub add_task-requires : goal.add_task-requires
add_task-requires c =
    let g = c.in-Some.ground in
    let rest = into_iter_items c.next.new.self in
    let of_team = IsOfTeam c.args.table.now c.args.common.now in
    All-head of_team g rest (subst (All of_team) c.in-Some.ensures.steps.0 c.loop-ground.invariant.team)

pub loop-ground-preserved : goal.loop-ground-preserved
loop-ground-preserved c =
    let l = c.loop-ground in
    let before = into_iter_items l.ground-iterator in
    let rest = into_iter_items c.next.new.self in
    let g = c.in-Some.ground in
    let step = c.in-Some.ensures.steps in
    record {
      count = let a = l.invariant.count in let b = step.1 in let d = ap length step.0 in omega arith;
      tasks = one_taken (task_with c.args.table.now c.args.common.now) l.out.tasks c.add_task.new.out.tasks _ before rest g step.0
          c.in_ok-add_task.ensures.task l.invariant.tasks;
      steps = one_taken (λ (g : Ground). g.steps) l.out.steps c.add_task.new.out.steps _ before rest g step.0
          c.in_ok-add_task.ensures.steps l.invariant.steps;
      views = c.in_ok-add_task.ensures.views ∙ l.invariant.views;
      team = All-rest (IsOfTeam c.args.table.now c.args.common.now) g rest before step.0 l.invariant.team;
    }

pub returns-clause-tasks : goal.returns-clause-tasks
returns-clause-tasks c =
    let l = c.loop-ground in
    all_taken (task_with c.args.table.now c.args.common.now) l.out.tasks (map (task_with c.args.table.now c.args.common.now) c.args.grounds.items)
    (into_iter_items l.ground-iterator) (let a = l.invariant.count in let b = c.in-None.ensures.steps.0 in omega arith) l.invariant.tasks

pub returns-clause-steps : goal.returns-clause-steps
returns-clause-steps c =
    let l = c.loop-ground in
    all_taken (λ (g : Ground). g.steps) l.out.steps (map (λ (g : Ground). g.steps) c.args.grounds.items)
    (into_iter_items l.ground-iterator) (let a = l.invariant.count in let b = c.in-None.ensures.steps.0 in omega arith) l.invariant.steps
