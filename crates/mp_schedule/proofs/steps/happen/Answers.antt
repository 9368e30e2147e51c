use Rattle.std.proofs.Common.{◌≡◌, ◌++◌, length, ap, map, sym, ◌∙◌}
use Rattle.std.specs.Prelude.{option_map}
use Rattle.std.proofs.lemmas.Bool.{and_parts}
use Rattle.std.proofs.lemmas.List.{length-map}
use Rattle.mp_machine.specs.Machine.{AgentMachine, given}
use Rattle.mp_world.specs.Logs.{entries_of}
use Rattle.mp_schedule.proofs.Happens.{all_done, keeps_limit, keeps_tasks, not_done}
use Rattle.mp_schedule.proofs.steps.happen.Goals as goal

pub step-requires-clause-may : goal.step-requires-clause-may
step-requires-clause-may g c = (and_parts _ _ c.requires.legal).0

pub returns-in-Err : goal.returns-in-Err
returns-in-Err g c =
    let value = g.H.Heuristic.value in
    let ms = c.args.machines.now.items in
    let new = c.step.new.machines.items in
    let event = c.args.event.now in
    let bytes = given (option_map (λ b. b.now) c.lent.result) in
    record {
      done = not_done value ms new event bytes c.args.mail.now c.args.log.now c.requires.free c.requires.legal
          (c.lent.ensures ∙ c.take-message.ensures.taken (map (λ (m : AgentMachine). m.done) ms)) c.in-Err.refusal
          (record { machines = new; mail = c.take-message.new.mail; log = c.args.log.now }) c.in-Err.ensures;
      tasks = keeps_tasks value ms new event bytes c.step.result c.step.ensures;
      limit = keeps_limit value ms new event bytes c.step.result c.step.ensures;
    }

pub returns-in_err-finish-clause-tasks : goal.returns-in_err-finish-clause-tasks
returns-in_err-finish-clause-tasks g c =
    keeps_tasks g.H.Heuristic.value c.args.machines.now.items c.step.new.machines.items c.args.event.now (given
    (option_map (λ b. b.now) c.lent.result))
    c.step.result c.step.ensures

pub returns-in_err-finish-clause-limit : goal.returns-in_err-finish-clause-limit
returns-in_err-finish-clause-limit g c =
    keeps_limit g.H.Heuristic.value c.args.machines.now.items c.step.new.machines.items c.args.event.now (given
    (option_map (λ b. b.now) c.lent.result))
    c.step.result c.step.ensures

pub returns : goal.returns
returns g c =
    let value = g.H.Heuristic.value in
    let ms = c.args.machines.now.items in
    let new = c.step.new.machines.items in
    let event = c.args.event.now in
    let bytes = given (option_map (λ b. b.now) c.lent.result) in
    let records = map (λ (m : AgentMachine). m.done) new in
    let size : length records ≡ c.len.result = length-map new (λ (m : AgentMachine). m.done)
    ∙ sym (c.len.ensures ∙ c.step.new.machines.ok.0) in
    record {
      done = all_done value ms new event bytes c.args.mail.now c.args.log.now c.requires.free c.requires.legal
          (c.lent.ensures ∙ c.take-message.ensures.taken (map (λ (m : AgentMachine). m.done) ms))
          c.in-Ok.outs c.take-message.new.mail c.finish.new.mail c.finish.new.log c.in-Ok.ensures
          (c.take-message.ensures.left (map (λ (m : AgentMachine). m.done) ms))
          (c.in_ok-finish.ensures.mail records size)
          (c.in_ok-finish.ensures.log ∙ ap (λ b. c.args.log.now ++ entries_of event b c.in-Ok.outs) (sym c.lent.ensures));
      tasks = keeps_tasks value ms new event bytes c.step.result c.step.ensures;
      limit = keeps_limit value ms new event bytes c.step.result c.step.ensures;
    }
