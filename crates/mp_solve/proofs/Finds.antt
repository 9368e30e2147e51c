-- What a team has found.
use Rattle.std.proofs.Common.{◌≡◌, true, false, List, [], map, Option, Some, None, refl}
use Rattle.std.proofs.Common.{sym, ap, ◌∙◌}
use Rattle.std.specs.Prelude.{MatchOption}
use Rattle.mp_joint.specs.declared.plan.PlanStep.{PlanStep}
use Rattle.mp_messages.specs.declared.history.Entry.{Entry}
use Rattle.mp_machine.specs.AgentRecord.{AgentRecord}
use Rattle.mp_machine.specs.Machine.{AgentMachine}
use Rattle.mp_world.specs.declared.outcome.Outcome.{Outcome}
use Rattle.mp_world.specs.declared.answer.Answer.TheVariants.{Nothing}
use Rattle.mp_world.specs.Answers.{answer_of, outcome_of}
use Rattle.mp_world.specs.RoundRobin.{is_over}
use Rattle.mp_world.specs.Values.{Values}
use Rattle.mp_world.specs.World.{World}
use Rattle.mp_schedule.specs.Finished.{AreOfRun}
use Rattle.mp_schedule.specs.TeamRun.{TeamRun, team_in}
use Rattle.mp_schedule.proofs.Keeping.{is_run_of}
use Rattle.mp_text.specs.Outcome.{outcome_text}
use Rattle.mp_solve.specs.Ended.{HasDoneAll}

-- what the machines of a team found, by what they have done
abbrev pub Tells : List AgentMachine → Option Outcome → Type 0
Tells machines found =
    (last : World)
    → last.agents ≡ map (λ m. m.done) machines
    → MatchOption found (is_over last ≡ false) (λ o. (is_over last ≡ true) × (o ≡ outcome_of last))

-- nothing where an agent has not ended
abbrev nothing_found : Outcome
nothing_found = record { answer = Nothing; shares = [] }

pub no_answer : (w : World) → is_over w ≡ false → Nothing ≡ answer_of w
no_answer w is = rw is refl

no_text : (w : World) (names : List (List PlanStep)) (log : List Entry) → Nothing ≡ answer_of w
    → outcome_text nothing_found names log ≡ outcome_text (outcome_of w) names log
no_text w names log none =
    ap (λ a. outcome_text (record { answer = a; shares = map (λ (x : AgentRecord). x.share) w.agents }) names log) none

-- the machines of a team that has done something
pub are_of_run : (value : Values) (r : TeamRun)
    → HasDoneAll (team_in value r) r.schedule r → (machines : List AgentMachine)
    → map (λ m. m.done) machines ≡ r.world.agents → AreOfRun value machines
are_of_run value r done machines agents = record {
  limit = r.limit;
  tasks = r.tasks;
  schedule = r.schedule;
  last = r.world;
  run = is_run_of value r done.team done.run;
  agents = sym agents;
}

module _ (last : World) (machines : List AgentMachine) (agents : last.agents ≡ map (λ m. m.done) machines)
  where
    told_of : (found : Option Outcome) → Tells machines found
        → MatchOption found (is_over last ≡ false) (λ o. (is_over last ≡ true) × (o ≡ outcome_of last))
    told_of found tells = tells last agents

    what_was_found : (found : Option Outcome) → Tells machines found → (o : Outcome) → found ≡ Some o
        → o ≡ outcome_of last
    what_was_found None tells o is = absurd (let impossible : ⊥ = cc in impossible)
    what_was_found (Some other) tells o is = let same : other ≡ o = cc in sym same ∙ (told_of (Some other) tells).1

    pub answer_is : (found : Option Outcome) → Tells machines found → (o : Outcome) → found ≡ Some o
        → o.answer ≡ answer_of last
    answer_is found tells o is = ap (λ (x : Outcome). x.answer) (what_was_found found tells o is)

    pub text_is : (found : Option Outcome) → Tells machines found → (o : Outcome) → found ≡ Some o
        → (names : List (List PlanStep)) (log : List Entry) → outcome_text o names log ≡ outcome_text (outcome_of last) names log
    text_is found tells o is names log = ap (λ (x : Outcome). outcome_text x names log) (what_was_found found tells o is)

    goes_on : (found : Option Outcome) → Tells machines found → found ≡ None → is_over last ≡ false
    goes_on None tells is = told_of None tells
    goes_on (Some o) tells is = let impossible : ⊥ = cc in absurd impossible

    pub nothing_is : (found : Option Outcome) → Tells machines found → found ≡ None → Nothing ≡ answer_of last
    nothing_is found tells is = no_answer last (goes_on found tells is)

    pub no_text_is : (found : Option Outcome) → Tells machines found → found ≡ None
        → (names : List (List PlanStep)) (log : List Entry) → outcome_text nothing_found names log ≡ outcome_text (outcome_of last) names log
    no_text_is found tells is names log = no_text last names log (nothing_is found tells is)
