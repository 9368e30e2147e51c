use Rattle.std.proofs.Common.{◌≡◌, ◌+◌, ◌≤◌, ◌++◌, length, drop}
use Rattle.mp_plans.specs.Lines.{whole_lines}
use Rattle.mp_plans.specs.Plan.{own_steps}
use Rattle.mp_plans.proofs.plan.push_own.Given as goal

-- the steps so far and those of the lines that are left are all, and as many lines are passed over in the end
abbrev pub invariant-loop-line : goal.invariant-loop-line
invariant-loop-line l = record {
  steps : l.steps ++ own_steps l.agent l.most l.last (whole_lines l.rest)
      ≡ l.fn.steps ++ own_steps l.agent l.most 0 (whole_lines l.text);
  number : l.next + length (own_steps l.agent l.most l.last (whole_lines l.rest))
      ≡ l.number + length (own_steps l.agent l.most 0 (whole_lines l.text));
  lines : drop (length (own_steps l.agent l.most l.last (whole_lines l.rest))) (whole_lines l.rest)
      ≡ drop (length (own_steps l.agent l.most 0 (whole_lines l.text))) (whole_lines l.text);
  short : l.next + length l.rest ≤ l.number + length l.text;
}

abbrev pub decreases-loop-line : goal.decreases-loop-line
decreases-loop-line l = length l.rest
