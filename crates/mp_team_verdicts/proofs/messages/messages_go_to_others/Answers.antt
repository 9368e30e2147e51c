use Rattle.mp_team_verdicts.proofs.AgentEntries.{entries_of_agent, parts_of_agents, step_goes}
use Rattle.mp_team_verdicts.proofs.messages.messages_go_to_others.Goals as goal

pub returns-clause-step : goal.returns-clause-step
returns-clause-step c = λ value limit t log r event bytes s some done allowed did.
    step_goes value limit t some log r event bytes s done allowed did

pub returns-clause-done : goal.returns-clause-done
returns-clause-done c = λ value limit t log last some done. entries_of_agent value limit t some log last done

pub returns-clause-logs : goal.returns-clause-logs
returns-clause-logs c = λ team log t numbered is here.
    parts_of_agents team log t numbered is here
