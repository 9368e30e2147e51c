use Rattle.std.proofs.Common.{◌≡◌, ◌+◌, ◌++◌, drop}
use Rattle.mp_text.specs.Lines.{text_of_lines}
use Rattle.mp_plans.specs.Packed.{lines_of_steps}
use Rattle.mp_plans.proofs.packed.push_steps.Given as goal

-- the text so far and the lines of the steps that are left make the whole
abbrev pub invariant-loop-place : goal.invariant-loop-place
invariant-loop-place l =
    l.text ++ text_of_lines (lines_of_steps l.plan (l.place + 1) (drop l.place l.steps))
    ≡ l.fn.text ++ text_of_lines (lines_of_steps l.plan 1 l.steps)
