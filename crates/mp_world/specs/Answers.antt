-- What a team answers.
use Rattle.std.specs.Prelude.{ℕ, Option, Some, None, map, if◌then◌else◌}
use Rattle.std.specs.Option.{option_map_or}
use Rattle.mp_snapshot.specs.declared.verdict.Verdict.{Verdict}
use Rattle.mp_snapshot.specs.declared.verdict.Verdict.TheVariants.{Proved, NoPlan, Spent, Continue}
use Rattle.mp_machine.specs.declared.event.Ending.{Ending}
use Rattle.mp_machine.specs.declared.event.Ending.TheVariants as endings
use Rattle.mp_machine.specs.AgentRecord.{given_verdict}
use Rattle.mp_world.specs.declared.answer.Answer.{Answer}
use Rattle.mp_world.specs.declared.answer.Answer.TheVariants as answers
use Rattle.mp_world.specs.declared.outcome.Outcome.{Outcome}
use Rattle.mp_world.specs.RoundRobin.{is_over}
use Rattle.mp_world.specs.World.{World, agent_at}

-- how many actions the plan has that an agent ended with
abbrev pub plan_length : Ending → ℕ
plan_length endings.Going = 0
plan_length (endings.Solved length) = length
plan_length endings.NoPlan = 0
plan_length endings.Spent = 0

-- what agent 1 answers by its last verdict
abbrev pub answer_by : Ending → Option Verdict → Answer
answer_by ending None = answers.Nothing
answer_by ending (Some (Proved agent cost)) = answers.Solved cost (plan_length ending)
answer_by ending (Some NoPlan) = answers.Unsolvable
answer_by ending (Some (Spent agent)) = answers.Undecided
answer_by ending (Some Continue) = answers.Nothing

-- The answer of a team: nothing before all agents have ended, and then what agent 1 answers.
abbrev pub answer_of : World → Answer
answer_of w =
    if is_over w
    then option_map_or (λ r. answer_by r.ending (given_verdict r)) (agent_at w 1) answers.Nothing
    else answers.Nothing

-- What a team found: its answer, and the share of each agent.
abbrev pub outcome_of : World → Outcome
outcome_of w = record { answer = answer_of w; shares = map (λ r. r.share) w.agents }
