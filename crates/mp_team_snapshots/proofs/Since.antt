-- The agents after a schedule and after its cut, once an event has happened.
use Rattle.mp_world.proofs.Basics.{◌≡◌, ◌≢◌, ℕ, ◌≤◌, Bool, true, false, eqb, Some, refl, sym, ap, subst, ◌∙◌, arith, ◌⊎◌, inl, inr, eqb-false, eqb-true, false≢true, le-leb, leb-false, leb-true, same_Some}
use Rattle.mp_world.specs.AgentWords.{Event, AgentRecord}
use Rattle.mp_world.specs.Events.{agent_of}
use Rattle.mp_world.specs.Steps.{IsStepOf}
use Rattle.mp_world.specs.Values.{Values}
use Rattle.mp_world.specs.World.{World, agent_at}
use Rattle.mp_team_states.specs.Further.{IsFurther}
use Rattle.mp_team_states.proofs.Growth.{grown_then}
use Rattle.mp_team_states.proofs.WorldsGrow.{step_grows}
use Rattle.mp_team_snapshots.specs.Cut.{has_recorded}
use Rattle.mp_team_snapshots.specs.CutWorlds.{AreAgentsCut, HasNoted, IsSinceRecording}
use Rattle.mp_team_snapshots.proofs.Acting.{Keeps, Starts}

-- the number of an agent's snapshot never falls
pub number_rises : (r s : AgentRecord) → Keeps r s ⊎ Starts r s → r.snapshot.number ≤ s.snapshot.number
number_rises r s (inl keeps) = let e = keeps.number in omega arith
number_rises r s (inr starts) = let e = starts.number in omega arith

pub stays_recorded : (k : ℕ) (r s : AgentRecord) → Keeps r s ⊎ Starts r s → has_recorded k r ≡ true
    → has_recorded k s ≡ true
stays_recorded k r s passes was =
    let low = leb-true k r.snapshot.number was in
    let rises = number_rises r s passes in
    le-leb k s.snapshot.number (omega arith)

-- what was noted stays, as long as no later snapshot begins
noted_again : (then r s : AgentRecord) → Keeps r s → HasNoted then r → HasNoted then s
noted_again then r s keeps old = record {
  noted = keeps.noted ∙ old.noted;
  goal = keeps.goal ∙ old.goal;
  found = record {
    least = keeps.least ∙ old.found.least;
    goal = keeps.cost ∙ old.found.goal;
    spent = keeps.spent ∙ old.found.spent;
  };
}

pub since_again : (k : ℕ) (then r s : AgentRecord) → has_recorded k r ≡ true → IsFurther r s → Keeps r s ⊎ Starts r s
    → IsSinceRecording k then r → IsSinceRecording k then s
since_again k then r s was further passes old = record {
  task = further.task ∙ old.task;
  limit = limit_by passes ∙ old.limit;
  before = old.before;
  grown = grown_then then.search.kept r.search.kept s.search.kept old.grown further.kept;
  last = λ is. last_by is passes;
}
  where
    limit_by : Keeps r s ⊎ Starts r s → s.limit ≡ r.limit
    limit_by (inl keeps) = keeps.limit
    limit_by (inr starts) = starts.limit

    last_by : s.snapshot.number ≡ k → Keeps r s ⊎ Starts r s → HasNoted then s
    last_by is (inl keeps) = noted_again then r s keeps (old.last (sym keeps.number ∙ is))
    last_by is (inr starts) =
        let low = leb-true k r.snapshot.number was in
        let e = starts.number in
        absurd (omega arith)

-- an agent records
pub since_now : (k : ℕ) (r s : AgentRecord) → has_recorded k r ≡ false → has_recorded k s ≡ true → IsFurther r s
    → Keeps r s ⊎ Starts r s
    → IsSinceRecording k r s
since_now k r s not_was now further (inl keeps) =
    let below = leb-false k r.snapshot.number not_was in
    let low = leb-true k s.snapshot.number now in
    let e = keeps.number in
    absurd (omega arith)
since_now k r s not_was now further (inr starts) = record {
  task = further.task;
  limit = starts.limit;
  before = leb-false k r.snapshot.number not_was;
  grown = further.kept;
  last = λ is. record {
    noted = starts.noted;
    goal = starts.goal;
    found = record {
      least = ap (λ f. f.least) starts.own_findings;
      goal = ap (λ f. f.goal) starts.own_findings;
      spent = ap (λ f. f.spent) starts.own_findings;
    };
  };
}

module _ (value : Values) (w next : World) (event : Event)
    (step : IsStepOf value w event next) (k : ℕ)
    (passes : Keeps step.agent step.step.after ⊎ Starts step.agent step.step.after) (c : World)
    (before : AreAgentsCut k w c) where
  further : IsFurther step.agent step.step.after
  further =
      let grows = step_grows value w next event step (agent_of event) step.agent step.there in
      subst (IsFurther step.agent) (same_Some grows.0 step.step.after (sym grows.1 ∙ step.after)) grows.2

  abbrev Recorded : World → AgentRecord → Type 0
  Recorded c now = (then : AgentRecord) × (agent_at c (agent_of event) ≡ Some then) × IsSinceRecording k then now

  -- the agent of the event, and the others, which stay
  module _ (d : World) (others : (other : ℕ) → other ≢ agent_of event → agent_at d other ≡ agent_at c other)
      (unrecorded : has_recorded k step.step.after ≡ false → agent_at d (agent_of event) ≡ Some step.step.after)
      (recorded : has_recorded k step.step.after ≡ true → Recorded d step.step.after) where
    it_is : (agent : ℕ) (r : AgentRecord) → agent ≡ agent_of event → agent_at next agent ≡ Some r → step.step.after ≡ r
    it_is agent r same there = same_Some step.step.after r (sym step.after ∙ ap (agent_at next) (sym same) ∙ there)

    pub agents_next : AreAgentsCut k next d
    agents_next = record {
      unrecorded = λ agent r there not_r. unrecorded_by agent r there not_r (eqb agent (agent_of event)) refl;
      recorded = λ agent r there is_r. recorded_by agent r there is_r (eqb agent (agent_of event)) refl;
    }
      where
        unrecorded_by : (agent : ℕ) (r : AgentRecord) → agent_at next agent ≡ Some r → has_recorded k r ≡ false
            → (b : Bool) → eqb agent (agent_of event) ≡ b → agent_at d agent ≡ Some r
        unrecorded_by agent r there not_r true test =
            let same = eqb-true agent (agent_of event) test in
            let this = it_is agent r same there in
            ap (agent_at d) same ∙ unrecorded (ap (has_recorded k) this ∙ not_r) ∙ ap Some this
        unrecorded_by agent r there not_r false test =
            let off = eqb-false agent (agent_of event) test in
            others agent off ∙ before.unrecorded agent r (sym (step.others agent off) ∙ there) not_r

        recorded_by : (agent : ℕ) (r : AgentRecord) → agent_at next agent ≡ Some r → has_recorded k r ≡ true
            → (b : Bool) → eqb agent (agent_of event) ≡ b
            → (then : AgentRecord) × (agent_at d agent ≡ Some then) × IsSinceRecording k then r
        recorded_by agent r there is_r true test =
            let same = eqb-true agent (agent_of event) test in
            let this = it_is agent r same there in
            let found = recorded (ap (has_recorded k) this ∙ is_r) in
            (found.0, ap (agent_at d) same ∙ found.1, subst (IsSinceRecording k found.0) this found.2)
        recorded_by agent r there is_r false test =
            let off = eqb-false agent (agent_of event) test in
            let found = before.recorded agent r (sym (step.others agent off) ∙ there) is_r in
            (found.0, others agent off ∙ found.1, found.2)

  -- an event of an agent that has recorded
  pub agents_skipped : has_recorded k step.agent ≡ true → AreAgentsCut k next c
  agents_skipped was =
      let still = stays_recorded k step.agent step.step.after passes was in
      let found = before.recorded (agent_of event) step.agent step.there was in
      agents_next c (λ other off. refl) (λ not_now. absurd (false≢true (sym not_now ∙ still)))
      (λ now. (found.0, found.1, since_again k found.0 step.agent step.step.after was further passes found.2))

  -- the event by which an agent records
  pub agents_recorded : has_recorded k step.agent ≡ false → has_recorded k step.step.after ≡ true
      → AreAgentsCut k next c
  agents_recorded not_was now =
      agents_next c (λ other off. refl) (λ not_now. absurd (false≢true (sym not_now ∙ now)))
      (λ is_now. (
        step.agent,
        before.unrecorded
            (agent_of event) step.agent step.there not_was,
        since_now k step.agent step.step.after not_was now further
            passes,
      ))

  -- an event that happens after the cut, too
  pub agents_done : has_recorded k step.step.after ≡ false → (d : World)
      → agent_at d (agent_of event) ≡ Some step.step.after
      → ((other : ℕ) → other ≢ agent_of event → agent_at d other ≡ agent_at c other) → AreAgentsCut k next d
  agents_done not_now d after others =
      agents_next d others (λ is_not. after) (λ now. absurd (false≢true (sym not_now ∙ now)))
