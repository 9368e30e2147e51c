use Rattle.std.proofs.Common.{arith, [], ◌∷◌, ◌++◌, length, ap, ◌∙◌}
use Rattle.std.specs.Vec.Iter.{into_iter_items}
use Rattle.mp_machine.specs.Machine.{AgentMachine}
use Rattle.mp_schedule.specs.Machines.{new_machine}
use Rattle.mp_counted.proofs.Taking.{one_made}
use Rattle.mp_counted.proofs.machines.counted_machines.Goals as goal

pub loop-task-preserved : goal.loop-task-preserved
loop-task-preserved g c =
    let l = c.loop-task in
    let made = new_machine g.H.Heuristic.value c.args.limit in
    let before = into_iter_items l.task-iterator in
    let rest = into_iter_items c.next.new.self in
    let step = c.in-Some.ensures.steps in
    record {
      count = let a = l.invariant.count in let b = step.1 in let d = ap length step.0 in omega arith;
      made = one_made made l.machines.items c.push.new.self.items _ before rest c.in-Some.task step.0
          (c.in_ok-push.ensures.items ∙ ap (λ (m : AgentMachine). l.machines.items ++ m ∷ []) c.in_ok-counted_machine.ensures)
          l.invariant.made;
    }
