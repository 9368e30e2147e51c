use Rattle.std.proofs.Common.{◌+◌, ◌∷◌, [], refl}
use Rattle.mp_maker.specs.Domain.{domain}
use Rattle.mp_maker.specs.Problem.{problem}
use Rattle.mp_maker.proofs.AgentLemmas.{one_agent_more}
use Rattle.mp_maker.proofs.family.delivery.Goals as goal

pub loop-agent-preserved : goal.loop-agent-preserved
loop-agent-preserved c =
    rw (c.in_ok-push-2.ensures.ok, c.in_ok-push.ensures.ok, c.in_ok-domain.ensures, c.in_ok-problem_file.ensures)
    (one_agent_more (λ agent. domain ∷ problem c.args.size c.args.number agent ∷ []) c.loop-agent.texts _ domain
    (problem c.args.size c.args.number c.loop-agent.agent) c.loop-agent.agent (c.args.size + 1) c.loop-agent-test.true refl
    c.loop-agent.invariant)
