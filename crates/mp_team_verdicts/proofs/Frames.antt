-- What an event leaves of agents and messages of the end as it was.
use Rattle.mp_world.proofs.Basics.{◌≡◌, ◌≢◌, ℕ, true, false, List, ◌∷◌, length, Some, refl, sym, ap, subst, ◌∙◌, ◌⊎◌, inl, inr, IfSome, filter, slice_get, and_parts, cases_eq, false≢true, same_Some}
use Rattle.mp_world.specs.AgentWords.{AgentTask, TaskStep, Event, Message, Take, message_of, own, AgentRecord, given_verdict, is_going, may_now}
use Rattle.mp_world.specs.Events.{agent_of, local_of, taken}
use Rattle.mp_world.specs.Steps.{IsStepOf}
use Rattle.mp_world.specs.Values.{Values}
use Rattle.mp_world.specs.World.{IsAgent, IsTeamWorld, World, agent_at}
use Rattle.mp_world.proofs.Agents.{agent_there}
use Rattle.mp_team_snapshots.specs.Team.{IsTeamOf}
use Rattle.mp_team_snapshots.proofs.Changes.{left, numbers_next}
use Rattle.mp_team_snapshots.proofs.InRuns.{HoldsInRuns}
use Rattle.mp_team_snapshots.proofs.Protocol.{IsOf, pair}
use Rattle.mp_team_snapshots.proofs.TakingFirst.{left_others, taken_first}
use Rattle.mp_team_snapshots.proofs.Worlds.{is_agent_of, is_of_agent, is_of_there, team_numbers}
use Rattle.mp_team_states.specs.Further.{HaveGrown}
use Rattle.mp_team_states.proofs.ReachedEntries.{path_stays}
use Rattle.mp_team_states.proofs.WorldsGrow.{step_grows}
use Rattle.mp_team_verdicts.specs.Ending.{HasEnded, HasGoal, IsProved, LeadsTo, end_messages, is_of_end}
use Rattle.mp_team_verdicts.proofs.Few.{HoldsSoFar}
use Rattle.mp_team_verdicts.proofs.Heard.{HearOthers}
use Rattle.mp_team_states.proofs.ReachedEntries.{sent_at_stays}

-- what is known of a world that a legal schedule leads to
pub record IsKnownWorld (publics : ℕ) (tasks : List AgentTask) (w : World) : Type 0 where
  pub team : IsTeamWorld tasks w
  pub so_far : HoldsSoFar tasks w
  pub in_runs : HoldsInRuns publics w
  pub hears : HearOthers w

-- an agent noted the goal entry whose cost it found
abbrev pub NotesItsGoal : AgentRecord → Type 0
NotesItsGoal r = IfSome (own r.snapshot).goal (λ cost. (number : ℕ) × HasGoal r number cost)

module _ (value : Values) (publics : ℕ) (tasks : List AgentTask) (team : IsTeamOf publics tasks) (w : World)
    (is : IsTeamWorld tasks w) (event : Event) (next : World) (step : IsStepOf value w event next) where
  pub of_next : (i : ℕ) (r : AgentRecord) → agent_at next i ≡ Some r → IsOf (length tasks) i
  of_next i r there = is_of_there publics tasks team next (numbers_next value publics tasks team w is event next step) i r there

  pub of_agent_next : (i : ℕ) → IsAgent next i → IsOf (length tasks) i
  of_agent_next i agent = is_of_agent publics tasks team next (numbers_next value publics tasks team w is event next step) i agent

  pub of_before : (i : ℕ) (r : AgentRecord) → agent_at w i ≡ Some r → IsOf (length tasks) i
  of_before i r there = is_of_there publics tasks team w (team_numbers publics tasks team w is) i r there

  pub me_before : (i : ℕ) (r : AgentRecord) → agent_at w i ≡ Some r → r.task.me ≡ i
  me_before i r there = (team_numbers publics tasks team w is).me i r there

  pub agent_before : (i : ℕ) → IsOf (length tasks) i → (r : AgentRecord) × (agent_at w i ≡ Some r)
  agent_before i of = agent_there w i (is_agent_of publics tasks team w (team_numbers publics tasks team w is) i of)

  -- the agents of the team stay
  pub agent_stays : (i : ℕ) → IsAgent w i → IsAgent next i
  agent_stays i agent =
      is_agent_of publics tasks team next (numbers_next value publics tasks team w is event next step) i
      (is_of_agent publics tasks team w (team_numbers publics tasks team w is) i agent)

  -- agent 1 after the event
  pub first_next : (first : AgentRecord) → agent_at w 1 ≡ Some first → (later : AgentRecord) × (agent_at next 1 ≡ Some later)
      × (((1 ≡ agent_of event) × (later ≡ step.step.after)) ⊎ ((1 ≡ agent_of event → ⊥) × (later ≡ first)))
  first_next first there = by (cases_eq 1 (agent_of event))
    where
      by : (1 ≡ agent_of event) ⊎ (1 ≡ agent_of event → ⊥) → (later : AgentRecord) × (agent_at next 1 ≡ Some later)
          × (((1 ≡ agent_of event) × (later ≡ step.step.after)) ⊎ ((1 ≡ agent_of event → ⊥) × (later ≡ first)))
      by (inl same) = (step.step.after, ap (agent_at next) same ∙ step.after, inl (same, refl))
      by (inr other) = (first, step.others 1 other ∙ there, inr (other, refl))

  -- an agent that has ended takes no step
  pub ended_stays : (i : ℕ) → HasEnded w i → HasEnded next i
  ended_stays i old = by (cases_eq i (agent_of event))
    where
      going : is_going step.agent.ending ≡ true
      going = (and_parts (is_going step.agent.ending) (may_now step.agent (local_of event)) step.may).0

      by : (i ≡ agent_of event) ⊎ (i ≡ agent_of event → ⊥) → HasEnded next i
      by (inl same) =
          let one : step.agent ≡ old.who = same_Some step.agent old.who (sym step.there ∙ sym (ap (agent_at w) same) ∙ old.there) in
          absurd (false≢true (sym old.ended ∙ ap (λ (r : AgentRecord). is_going r.ending) (sym one) ∙ going))
      by (inr other) = record { who = old.who; there = step.others i other ∙ old.there; ended = old.ended }

  grown : HaveGrown w next
  grown = step_grows value w next event step

  pub leads_stays : (sender sent : ℕ) (steps : List TaskStep) → LeadsTo w sender sent steps → LeadsTo next sender sent steps
  leads_stays sender sent steps leads = record {
    number = leads.number;
    given = sent_at_stays w next grown sender sent leads.number leads.given;
    path = path_stays w next grown sender leads.number steps leads.path;
  }

  -- a goal entry that was noted
  pub goal_stays : (r later : AgentRecord) (i number cost : ℕ) → agent_at w i ≡ Some r → agent_at next i ≡ Some later → later.goal ≡ r.goal → HasGoal r number cost → HasGoal later number cost
  goal_stays r later i number cost there there_too same goal =
      let now = grown i r there in
      let one : now.0 ≡ later = same_Some now.0 later (sym now.1 ∙ there_too) in
      let e = now.2.kept.entries number goal.entry goal.at in
      record {
        entry = e.0;
        noted = same ∙ goal.noted;
        at = subst (λ (x : AgentRecord). slice_get x.search.kept.entries number ≡ Some e.0) one e.1;
        is_goal = e.2.goal ∙ goal.is_goal;
        cost_is = e.2.g ∙ goal.cost_is;
      }

  -- the proved plan, where the verdict and the goal entries that are noted stay
  pub proved_stays : (first later : AgentRecord) (plan : List TaskStep) → given_verdict later ≡ given_verdict first → step.step.after.goal ≡ step.agent.goal
      → (old : IsProved w first plan) → (now : IsProved next later plan) × (now.agent ≡ old.agent)
  proved_stays first later plan verdict same old = (
    record {
      agent = old.agent;
      cost = old.cost;
      verdict = verdict ∙ old.verdict;
      picked = picked.0;
      there = picked.1;
      number = old.number;
      goal = goal_stays old.picked picked.0 old.agent old.number old.cost old.there picked.1 picked.2 old.goal;
      path = path_stays w next grown old.agent old.number plan old.path;
    },
    refl,
  )
    where
      by : (old.agent ≡ agent_of event) ⊎ (old.agent ≡ agent_of event → ⊥) → (r : AgentRecord) × (agent_at next old.agent ≡ Some r) × (r.goal ≡ old.picked.goal)
      by (inl here) =
          let one : step.agent ≡ old.picked = same_Some step.agent old.picked (sym step.there ∙ sym (ap (agent_at w) here) ∙ old.there) in
          (step.step.after, ap (agent_at next) here ∙ step.after, same ∙ ap (λ (r : AgentRecord). r.goal) one)
      by (inr other) = (old.picked, step.others old.agent other ∙ old.there, refl)

      picked : (r : AgentRecord) × (agent_at next old.agent ≡ Some r) × (r.goal ≡ old.picked.goal)
      picked = by (cases_eq old.agent (agent_of event))

-- ---- a message that is taken

module _ (value : Values) (publics : ℕ) (tasks : List AgentTask) (team : IsTeamOf publics tasks) (w : World)
    (is : IsTeamWorld tasks w) (b a : ℕ) (next : World) (step : IsStepOf value w (Take b a) next) (m : Message)
    (read : message_of step.agent.task.agents step.agent.task.publics (taken w (Take b a)) ≡ Some m) where
  -- one that is none of the end leaves all of the end
  pub ends_left : is_of_end m ≡ false → (i j : ℕ) → IsOf (length tasks) i → IsOf (length tasks) j
      → filter is_of_end (left value publics tasks team w is (Take b a) next step i j) ≡ end_messages publics w i j
  ends_left other i j is_i is_j = by (pair i j a b)
    where
      this : filter is_of_end (left value publics tasks team w is (Take b a) next step a b) ≡ end_messages publics w a b
      this = sym (ap (filter is_of_end) (taken_first value publics tasks team w is b a next step m read) ∙ rw other refl)

      by : ((i ≡ a) × (j ≡ b)) ⊎ ((i ≢ a) ⊎ (j ≢ b)) → filter is_of_end (left value publics tasks team w is (Take b a) next step i j) ≡ end_messages publics w i j
      by (inl same) =
          subst (λ k. filter is_of_end (left value publics tasks team w is (Take b a) next step k j) ≡ end_messages publics w k j) (sym same.0)
          (subst (λ k. filter is_of_end (left value publics tasks team w is (Take b a) next step a k) ≡ end_messages publics w a k) (sym same.1) this)
      by (inr apart) = ap (filter is_of_end) (left_others value publics tasks team w is b a next step m read i j is_i is_j apart)

  -- one of the end was the first of them
  pub end_taken : is_of_end m ≡ true → end_messages publics w a b ≡ m ∷ filter is_of_end (left value publics tasks team w is (Take b a) next step a b)
  end_taken is_end = ap (filter is_of_end) (taken_first value publics tasks team w is b a next step m read) ∙ rw is_end refl

  pub end_others : (i j : ℕ) → IsOf (length tasks) i → IsOf (length tasks) j → (i ≢ a) ⊎ (j ≢ b)
      → filter is_of_end (left value publics tasks team w is (Take b a) next step i j) ≡ end_messages publics w i j
  end_others i j is_i is_j apart = ap (filter is_of_end) (left_others value publics tasks team w is b a next step m read i j is_i is_j apart)
