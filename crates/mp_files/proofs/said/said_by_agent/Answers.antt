use Rattle.mp_files.specs.Fetched.{texts_of}
use Rattle.mp_files.specs.Said.{parts_of}
use Rattle.std.proofs.Common.{Ok}
use Rattle.mp_files.specs.declared.said.AgentParts.{AgentParts}
use Rattle.mp_files.specs.Team.{Says}
use Rattle.mp_files.proofs.Texts.{weaker}
use Rattle.mp_files.proofs.said.said_by_agent.Goals as goal

pub returns-clause-said : goal.returns-clause-said
returns-clause-said c =
    weaker c.with_problem.result _ (λ (parts : AgentParts). Says c.args.agent (texts_of c.args.texts) (Ok (parts_of parts)))
    (λ parts h. (c.in_ok-domain.domain, c.in_ok-domain.ensures.said, h))
    c.with_problem.ensures.said
