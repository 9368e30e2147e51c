-- Worlds in which no state is under way and no agent has anything to expand: so it stays, and agent 1 decides the search by
-- the next snapshot that it starts.
use Rattle.mp_world.proofs.Basics.{◌≡◌, ◌≢◌, ℕ, true, List, [], ◌∷◌, length, Some, All, sym, subst, ◌∙◌, ◌==◌, not, slice_index_or, false≢true, All-contains, All-head, All-nil}
use Rattle.mp_machine.specs.declared.event.Local.TheVariants as locals
use Rattle.mp_world.specs.AgentWords.{AgentTask, Event, Expand, Take, Start, Message, message_of, AgentRecord, Outgoing, Step, started, with_state}
use Rattle.mp_world.specs.Events.{local_of, taken}
use Rattle.mp_world.specs.Steps.{IsStepOf}
use Rattle.mp_world.specs.Values.{Values}
use Rattle.mp_world.specs.World.{IsTeamWorld, World, agent_at, under_way}
use Rattle.mp_world.proofs.Agents.{member_of}
use Rattle.mp_world.proofs.LocalCases.{same_step}
use Rattle.mp_team_snapshots.specs.Team.{IsTeamOf}
use Rattle.mp_team_snapshots.proofs.Protocol.{IsOf}
use Rattle.mp_team_snapshots.proofs.TakingFirst.{apart, is_receiver, is_sender}
use Rattle.mp_team_states.proofs.Quiet.{IsOther, quiet_message, quiet_started}
use Rattle.mp_team_states.proofs.StepsSound.{other_stays}
use Rattle.mp_team_states.proofs.WorldsGrow.{search_holds, taking}
use Rattle.mp_team_verdicts.specs.Quiet.{is_quiet}
use Rattle.mp_team_verdicts.proofs.Fitting.{all_next, sent_all}

-- bytes that are not read as a state, in a team of so many agents with so many public facts
abbrev pub IsNoState : ℕ → ℕ → List ℕ → Type 0
IsNoState agents publics bytes = (m : Message) → message_of agents publics bytes ≡ Some m → IsOther m

-- no state is under way from one agent to another
abbrev pub HasNoStates : ℕ → ℕ → World → ℕ → ℕ → Type 0
HasNoStates agents publics w i j = All (IsNoState agents publics) (under_way w i j)

front_of : (P : List ℕ → Type 0) (xs : List (List ℕ)) → not (length xs == 0) ≡ true → All P xs → P (slice_index_or xs 0 [])
front_of P [] some all = absurd (let impossible : ⊥ = cc in impossible)
front_of P (x ∷ xs) some all = All-head P x xs all

module _ (value : Values) (publics : ℕ) (tasks : List AgentTask) (team : IsTeamOf publics tasks)
    (w : World) (is : IsTeamWorld tasks w) where
  abbrev NoState : List ℕ → Type 0
  NoState = IsNoState (length tasks) publics

  -- an event that is no expansion sends no states
  sends_none : (event : Event) (next : World) (step : IsStepOf value w event next) → is_quiet event ≡ true
      → All (λ x. IsOther x.message) step.step.out
  unfolding with_state
  sends_none event next step quiet =
      let r = step.agent in
      search_holds (value r.task) r (local_of event) (taken w event) (λ (s : Step). All (λ x. IsOther x.message) s.out) (record {
        expands = λ at. absurd (no_expansion event quiet at);
        receives = λ from m at reads. All-nil (λ (x : Outgoing). IsOther x.message);
        quiet = λ s quiet. quiet.out;
      }) step.step step.local
    where
      no_expansion : (event : Event) → is_quiet event ≡ true → local_of event ≢ locals.Expand
      no_expansion (Expand agent) quiet at = false≢true quiet
      no_expansion (Take b a) quiet at = let impossible : ⊥ = cc in impossible
      no_expansion Start quiet at = let impossible : ⊥ = cc in impossible

  -- no states are under way between two agents still
  pub none_next : (event : Event) (next : World) → IsStepOf value w event next → is_quiet event ≡ true
      → (i j : ℕ) → IsOf (length tasks) i → IsOf (length tasks) j
      → HasNoStates (length tasks) publics w i j → HasNoStates (length tasks) publics next i j
  none_next event next step quiet i j is_i is_j none =
      all_next value publics tasks team w is NoState event next step i j is_i is_j
      (sent_all (λ (x : Outgoing). IsOther x.message) NoState (λ x other m read. other_stays (length tasks) publics x.message m other read) j
      step.step.out (sends_none event next step quiet)) none

  -- the receiver reads messages as those of its team
  team_reads : (b : ℕ) (r : AgentRecord) → agent_at w b ≡ Some r → (bytes : List ℕ)
      → message_of r.task.agents r.task.publics bytes ≡ message_of (length tasks) publics bytes
  team_reads b r there bytes =
      let of = member_of tasks team.numbered w is b r there in
      let alike = All-contains (λ t. t.publics ≡ publics) tasks r.task team.alike of.task in
      let agents = of.agents in
      λ k. message_of (agents k) (alike k) bytes

  -- a message that is taken is no state where no states are under way
  pub takes_other : (b a : ℕ) (next : World) (step : IsStepOf value w (Take b a) next)
      → HasNoStates (length tasks) publics w a b
      → (m : Message) → message_of step.agent.task.agents step.agent.task.publics (taken w (Take b a)) ≡ Some m → IsOther m
  takes_other b a next step none m read =
      front_of NoState (under_way w a b) step.message none m
      (sym (team_reads b step.agent step.there (taken w (Take b a))) ∙ read)

  -- what the agent of a quiet event has kept is as it was, where no state comes to it
  pub keeps_search : (event : Event) (next : World) (step : IsStepOf value w event next) → is_quiet event ≡ true
      → ((i j : ℕ) → IsOf (length tasks) i → IsOf (length tasks) j → i ≢ j → HasNoStates (length tasks) publics w i j)
      → (step.step.after.search ≡ step.agent.search) × (step.step.after.limit ≡ step.agent.limit)
  keeps_search (Expand agent) next step quiet none = absurd (false≢true quiet)
  keeps_search (Take b a) next step quiet none =
      let t = taking (value step.agent.task) step.agent a (taken w (Take b a)) step.step step.local in
      let is_a = is_sender value publics tasks team w is b a next step in
      let is_b = is_receiver value publics tasks team w is b a next step in
      let other = takes_other b a next step (none a b is_a is_b (apart value publics tasks team w is b a next step)) t.message t.reads in
      let same = quiet_message step.agent step.step (value step.agent.task) a t.message other t.took in
      (same.search_is, same.limit_is)
  keeps_search Start next step quiet none =
      let s = same_step (started step.agent) step.step step.local in
      let same = quiet_started step.agent in (
        subst (λ (s : Step). s.after.search ≡ step.agent.search) s same.search_is,
        subst (λ (s : Step). s.after.limit ≡ step.agent.limit) s same.limit_is,
      )
