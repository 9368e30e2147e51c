use Rattle.std.proofs.Common.{◌≡◌, ◌+◌, ◌-◌, ◌≤◌, length}
use Rattle.mp_plans.specs.Lines.{whole_lines}
use Rattle.mp_plans.specs.Plan.{agents_of, with_steps}
use Rattle.mp_plans.proofs.plan.steps_in.Given as goal

-- the steps so far and those of the agents that are left make the whole
abbrev pub invariant-loop-agent : goal.invariant-loop-agent
invariant-loop-agent l = record {
  steps : with_steps l.steps (agents_of ((l.agents + 1) - l.agent) l.agent l.most l.number (whole_lines l.rest))
      ≡ agents_of l.agents 1 l.most 3 (whole_lines l.text);
  short : l.number + length l.rest ≤ 3 + length l.text;
}
