-- An agent hears of states from other agents alone, so that a walk back never goes on at the agent itself.
use Rattle.mp_world.proofs.Basics.{◌≡◌, ◌≢◌, ℕ, ◌+◌, ◌≤◌, List, Some, refl, sym, subst, ◌∙◌, arith}
use Rattle.mp_trail.specs.declared.steps.Walked.TheVariants as ends
use Rattle.mp_world.specs.AgentWords.{Event, Walked, walk, AgentRecord}
use Rattle.mp_world.specs.SearchWords.{Record, AgentState}
use Rattle.mp_world.specs.Events.{agent_of, local_of, run, taken}
use Rattle.mp_world.specs.Steps.{IsStepOf}
use Rattle.mp_world.specs.Team.{Team}
use Rattle.mp_world.specs.World.{AreNumbered, World, agent_at, start_world}
use Rattle.mp_world.proofs.Agents.{member_of}
use Rattle.mp_world.proofs.LogOfRun.{new_at}
use Rattle.mp_world.proofs.Mail.{agent_of_team}
use Rattle.mp_world.proofs.Runs.{run_has}
use Rattle.mp_world.proofs.Stepping.{start_is_team, team_size}
use Rattle.mp_team_states.proofs.EachAgent.{each_agent}
use Rattle.mp_team_verdicts.proofs.Others.{EndsAtOther, start_of_others, walk_to_other}
use Rattle.mp_team_verdicts.proofs.StepMessages.{IsSound, local_goes}

-- no agent hears of a state from itself
abbrev pub HearOthers : World → Type 0
HearOthers w = (i : ℕ) (r : AgentRecord) → agent_at w i ≡ Some r → IsSound r

module _ (team : Team) (numbered : AreNumbered team.tasks) where
  open team use {tasks, value}

  pub start_hears : HearOthers (start_world team)
  start_hears i r there =
      let w = start_world team in
      let of_team = start_is_team team in
      let many = (member_of tasks numbered w of_team i r there).agents in
      let size = team_size tasks w of_team in
      let at = agent_of_team w i r there in
      let low = at.from_1 in
      let high = at.at_most in
      let some : 1 ≤ r.task.agents = omega arith in
      subst IsSound (sym (new_at team i r there))
      (record { some = some; notes = refl; heard = start_of_others r.task (value r.task) })

  pub event_hears : (w : World) (event : Event) (next : World) → HearOthers w → IsStepOf value w event next → HearOthers next
  event_hears w event next old is =
      let r = is.agent in
      each_agent value w event next is (λ i r. IsSound r)
      (local_goes (value r.task) r is.step (local_of event) (taken w event) (old (agent_of event) r is.there) is.may is.local).after
      (λ i r there other. old i r there)

  pub hears_in_runs : (schedule : List Event) (w : World) → run team schedule ≡ Some w → HearOthers w
  hears_in_runs = run_has team HearOthers start_hears (λ w event next of_team old is. event_hears w event next old is)

-- ---- a walk ends at another agent

abbrev pub EndsElsewhere : ℕ → Walked → Type 0
EndsElsewhere me (ends.Root length) = Unit {0}
EndsElsewhere me (ends.Hop agent sent back) = agent ≢ me

pub walk_elsewhere : (me : ℕ) (r : AgentRecord) → IsSound r → r.task.me ≡ me → (kept : Record AgentState) → r.search.kept ≡ kept
    → (number back : ℕ) → EndsElsewhere me (walk kept number back).end
walk_elsewhere me r sound me_is kept kept_is number back =
    subst (λ (x : Record AgentState). EndsElsewhere me (walk x number back).end) kept_is
    (by (walk r.search.kept number back).end (walk_to_other r.task r.search.kept sound.heard (number + 1) number back))
  where
    by : (end : Walked) → EndsAtOther r.task end → EndsElsewhere me end
    by (ends.Root length) is = tt
    by (ends.Hop agent sent more) is = λ same. is.another (same ∙ sym me_is)
