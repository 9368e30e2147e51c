use Rattle.std.proofs.Common.{◌≡◌, ◌++◌, take}
use Rattle.mp_text.specs.Lines.{text_of_lines}
use Rattle.mp_plans.specs.Packed.{action_lines}
use Rattle.mp_plans.proofs.packed.push_actions.Given as goal

-- the text has grown by the lines of the actions so far
abbrev pub invariant-loop-time : goal.invariant-loop-time
invariant-loop-time l = l.text ≡ l.fn.text ++ text_of_lines (action_lines l.plan (take l.time-index l.times))
