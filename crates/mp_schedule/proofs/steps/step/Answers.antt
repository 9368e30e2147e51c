use Rattle.std.proofs.Common.{◌≡◌, ◌-◌, [], Some, ap, subst, ◌∙◌, arith}
use Rattle.std.specs.Prelude.{option_map, slice_get, slice_set}
use Rattle.mp_machine.specs.Machine.{IsStep, given}
use Rattle.mp_world.specs.Events.{agent_of}
use Rattle.mp_machine.specs.LocalStep.{may}
use Rattle.mp_schedule.specs.Machines.{IsFree}
use Rattle.mp_schedule.proofs.Happens.{of_each}
use Rattle.mp_schedule.proofs.MachinePlaces.{found, may_is}
use Rattle.mp_schedule.proofs.steps.step.Goals as goal

pub step_allowed-requires : goal.step_allowed-requires
step_allowed-requires g c =
    let ms = c.args.machines.now.items in
    let m = c.index_mut-machine.result.now in
    let there : slice_get ms c.place-at.result ≡ Some m =
    found ms c.place-at.result m (omega arith) c.index_mut-machine.ensures.value in
    record {
      free = of_each IsFree ms c.place-at.result m c.requires.free there;
      may = ap (may m.done) c.local_of-local.ensures
          ∙ may_is ms [] c.args.event.now c.place-at.result m (c.place-at.ensures.number ∙ c.agent_of.ensures) there
          ∙ c.requires.may;
    }

pub returns : goal.returns
returns g c =
    let ms = c.args.machines.now.items in
    let m = c.index_mut-machine.result.now in
    let at : c.place-at.result ≡ agent_of c.args.event.now - 1 = c.place-at.ensures.place
    ∙ ap (λ a. a - 1) c.agent_of.ensures in
    let number = c.place-at.ensures.number ∙ c.agent_of.ensures in
    record {
      from_1 = omega arith;
      before = m;
      there = subst (λ k. slice_get ms k ≡ Some m) at (found ms c.place-at.result m
          (omega arith) c.index_mut-machine.ensures.value);
      after = c.step_allowed.new.self;
      step = subst (λ local. IsStep (g.H.Heuristic.value m.done.task) m local (given (option_map
          (λ b. b.now) c.args.bytes)) c.step_allowed.result c.step_allowed.new.self)
          c.local_of-local.ensures c.step_allowed.ensures;
      others = ap (λ k. slice_set ms k c.step_allowed.new.self) at;
    }
