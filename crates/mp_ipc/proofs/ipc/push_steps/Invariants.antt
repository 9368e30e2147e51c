use Rattle.std.proofs.Common.{◌≡◌, ◌++◌, drop}
use Rattle.std.specs.List.{flat_map}
use Rattle.mp_ipc.specs.Ipc.{step_line}
use Rattle.mp_ipc.proofs.ipc.push_steps.Given as goal

-- the text so far and the actions that are left make the whole
abbrev pub invariant-loop-step : goal.invariant-loop-step
invariant-loop-step l =
    l.text ++ flat_map step_line (drop l.step-index l.plan) ≡ l.fn.text ++ flat_map step_line l.plan
