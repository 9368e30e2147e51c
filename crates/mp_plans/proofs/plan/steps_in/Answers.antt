use Rattle.std.proofs.Common.{arith}
use Rattle.mp_plans.specs.Lines.{whole_lines}
use Rattle.mp_plans.proofs.AgentLemmas.{goes_on}
use Rattle.mp_plans.proofs.plan.steps_in.Goals as goal

pub loop-agent-preserved : goal.loop-agent-preserved
loop-agent-preserved c =
    let shorter = c.in-Ok.ensures.shorter in
    let short = c.loop-agent.invariant.short in
    record {
      steps = goes_on c.args.agents c.loop-agent.agent c.args.most c.loop-agent.number c.in-Ok.next c.loop-agent.steps
          c.push_agent.new.steps (whole_lines c.loop-agent.rest.now) (whole_lines c.in-Ok.left.now) _ c.loop-agent-test.true
          c.in-Ok.ensures.found c.loop-agent.invariant.steps;
      short = omega arith;
    }
