use Rattle.std.proofs.Common.{ap, ◌∙◌}
use Rattle.mp_task.specs.AgentTask.{AgentTask}
use Rattle.mp_search.specs.Search.{tokens_given}
use Rattle.mp_certify.proofs.team.tokens_of.Goals as goal

pub returns-clause-used : goal.returns-clause-used
returns-clause-used g c =
    let of = c.search.ensures.of in
    c.tokens.ensures.used (c.search.ensures.works c.requires) ∙ (λ j. tokens_given (of.task j) (of.done j).kept)

pub returns-clause-size : goal.returns-clause-size
returns-clause-size g c =
    c.tokens.ensures.size (c.search.ensures.works c.requires) ∙ ap (λ (t : AgentTask). t.privates) c.search.ensures.of.task
