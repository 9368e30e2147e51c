-- What rounds without an expansion lead to, as long as all agents go on.
use Rattle.mp_world.proofs.Basics.{◌≡◌, ◌≢◌, ℕ, ◌≤◌, Bool, true, false, List, [], length, Option, Some, All, refl, sym, ap, subst, ◌∙◌, arith, ◌⊎◌, inl, inr, filter_map, cases_eq, false≢true, All-nil}
use Rattle.std.proofs.lemmas.Bool.{true_from_ne_false}
use Rattle.mp_runs.specs.Run.{run as run_of}
use Rattle.mp_world.specs.AgentWords.{Event, Notes, has, AgentRecord, is_going}
use Rattle.mp_world.specs.SearchWords.{may_expand}
use Rattle.mp_world.specs.Events.{after_event, agent_of}
use Rattle.mp_world.specs.RoundRobin.{Round}
use Rattle.mp_world.specs.Steps.{IsStepOf}
use Rattle.mp_world.specs.Team.{IsTeam, Team}
use Rattle.mp_world.specs.World.{World, agent_at, under_way}
use Rattle.mp_world.proofs.Agents.{agent_there}
use Rattle.mp_team_snapshots.specs.Messages.{messages}
use Rattle.mp_team_snapshots.specs.Team.{IsTeamOf}
use Rattle.mp_team_snapshots.proofs.Changes.{note_after, note_before, note_other}
use Rattle.mp_team_snapshots.proofs.Protocol.{IsOf}
use Rattle.mp_team_snapshots.proofs.Worlds.{note_at}
use Rattle.mp_team_verdicts.specs.Ending.{HasEnded}
use Rattle.mp_team_states.proofs.EachAgent.{each_agent}
use Rattle.mp_team_verdicts.proofs.Frames.{IsKnownWorld, ended_stays}
use Rattle.mp_team_snapshots.proofs.Taken.{its_notes}
use Rattle.mp_team_verdicts.specs.Quiet.{are_quiet, is_quiet}
use Rattle.mp_team_verdicts.proofs.Fresh.{IsSilent, silent_next}
use Rattle.mp_team_verdicts.proofs.Noting.{moved}
use Rattle.mp_team_verdicts.proofs.Points.{could_not_expand, quiet_parts, round_runs, took_from}
use Rattle.mp_team_verdicts.proofs.ReachedWorlds.{IsReached, all_pass, known, onward}
use Rattle.mp_team_verdicts.proofs.Staying.{number_rises, still_marked, still_reported}
use Rattle.mp_team_verdicts.proofs.Silence.{HasNoStates, IsNoState, keeps_search, none_next}
use Rattle.mp_team_verdicts.proofs.Stuck.{another_at, is_agent, no_messages, nothing_left, nothing_to_expand, of_there}

module _ (team : Team) (is_team : IsTeam team) (publics : ℕ) (of_team : IsTeamOf publics team.tasks) where
  open team use {tasks, value}

  abbrev n : ℕ
  n = length tasks

  abbrev pub Reached : World → Type 0
  Reached w = IsReached team w

  abbrev pub Goes : World → List Event → World → Type 0
  Goes u events v = run_of (after_event value) u events ≡ Some v

  is_known : (w : World) → Reached w → IsKnownWorld publics tasks w
  is_known = known team is_team publics of_team

  -- what every event keeps
  pub stays_on : (Holds : World → Type 0)
      → ((v : World) (event : Event) (next : World) → Reached v → Reached next → IsStepOf value v event next → Holds v → Holds next)
      → (events : List Event) (u w : World) → Reached u → Holds u → Goes u events w → Holds w
  stays_on Holds keeps events u w at holds goes =
      (onward team is_team publics of_team (λ event. true) Holds
      (λ v event next at_v at_next step pass holds. keeps v event next at_v at_next step holds) events u w at holds (all_pass events) goes).1

  pub goes_reached : (events : List Event) (u w : World) → Reached u → Goes u events w → Reached w
  goes_reached events u w at goes =
      (onward team is_team publics of_team (λ event. true) (λ v. Unit {0})
      (λ v event next at_v at_next step pass holds. tt) events u w at tt (all_pass events) goes).0

  -- all agents go on
  abbrev pub AllGo : World → Type 0
  AllGo w = (i : ℕ) (r : AgentRecord) → agent_at w i ≡ Some r → is_going r.ending ≡ true

  -- who goes on has gone on before
  pub went_on : (events : List Event) (u w : World) → Reached u → Goes u events w → AllGo w → AllGo u
  went_on events u w at goes go i r there =
      true_from_ne_false (is_going r.ending) (λ test.
      let e =
      stays_on (λ v. HasEnded v i)
      (λ v event next at_v at_next step old. ended_stays value publics tasks of_team v (is_known v at_v).team event next step i old)
      events u w at (record { who = r; there = there; ended = test }) goes in
      false≢true (sym e.ended ∙ go i e.who e.there))

  -- silence stays
  pub silent_on : (events : List Event) (u w : World) → Reached u → Goes u events w → IsSilent n publics u → IsSilent n publics w
  silent_on events u w at goes silent =
      stays_on (IsSilent n publics)
      (λ v event next at_v at_next step old.
      silent_next value publics tasks of_team v (is_known v at_v).team (is_known v at_v).in_runs old event next step)
      events u w at silent goes

  -- ---- numbers of snapshots

  abbrev pub number_at : World → ℕ → ℕ
  number_at w i = (note_at w i).number

  -- what holds of the notes of one agent
  notes_on : (j : ℕ) (Holds : Notes → Type 0)
      → ((v : World) (event : Event) (next : World) → Reached v → (step : IsStepOf value v event next) → j ≡ agent_of event
      → Holds step.agent.snapshot → Holds step.step.after.snapshot)
      → (events : List Event) (u w : World) → Reached u → Goes u events w → Holds (note_at u j) → Holds (note_at w j)
  notes_on j Holds keeps events u w at goes holds =
      stays_on (λ v. Holds (note_at v j)) one events u w at holds goes
    where
      one : (v : World) (event : Event) (next : World) → Reached v → Reached next → IsStepOf value v event next
          → Holds (note_at v j) → Holds (note_at next j)
      one v event next at_v at_next step old = by (cases_eq j (agent_of event))
        where
          by : (j ≡ agent_of event) ⊎ (j ≡ agent_of event → ⊥) → Holds (note_at next j)
          by (inl same) =
              let before : note_at v j ≡ step.agent.snapshot =
              ap (note_at v) same ∙ note_before value publics tasks of_team v (is_known v at_v).team event next step in
              let after : note_at next j ≡ step.step.after.snapshot =
              ap (note_at next) same ∙ note_after value publics tasks of_team v (is_known v at_v).team event next step in
              subst Holds (sym after) (keeps v event next at_v step same (subst Holds before old))
          by (inr other) =
              subst Holds (sym (note_other value publics tasks of_team v (is_known v at_v).team event next step j other)) old

  -- the numbers of an agent's snapshots rise
  pub rises : (j : ℕ) (events : List Event) (u w : World) → Reached u → Goes u events w → number_at u j ≤ number_at w j
  rises j events u w at goes =
      notes_on j (λ s. number_at u j ≤ s.number)
      (λ v event next at_v step same old.
      let m = moved value publics tasks of_team v (is_known v at_v).team event next step in
      let more = number_rises (agent_of event) m.message step.agent step.step.after m.moves in
      omega arith) events u w at goes (omega arith)

  -- a marker and a report that have come stay, as long as the number does
  flag_on : (flags : Notes → List Bool) (i j : ℕ)
      → ((v : World) (event : Event) (next : World) → Reached v → (step : IsStepOf value v event next)
      → step.step.after.snapshot.number ≡ step.agent.snapshot.number → has (flags step.agent.snapshot) i ≡ true
      → has (flags step.step.after.snapshot) i ≡ true)
      → (events : List Event) (u w : World) → Reached u → Goes u events w → number_at w j ≡ number_at u j
      → has (flags (note_at u j)) i ≡ true → has (flags (note_at w j)) i ≡ true
  flag_on flags i j still events u w at goes same set =
      (notes_on j (λ s. (number_at u j ≤ s.number) × (s.number ≡ number_at u j → has (flags s) i ≡ true))
      (λ v event next at_v step here old.
      let m = moved value publics tasks of_team v (is_known v at_v).team event next step in
      let more = number_rises (agent_of event) m.message step.agent step.step.after m.moves in
      let low = old.0 in
      (omega arith, λ equal. still v event next at_v step (omega arith) (old.1 (omega arith)))) events u w at goes (omega arith, λ equal. set)).1 same

  pub marked_on : (i j : ℕ) → IsOf n i → (events : List Event) (u w : World) → Reached u → Goes u events w
      → number_at w j ≡ number_at u j → has (note_at u j).marked i ≡ true → has (note_at w j).marked i ≡ true
  marked_on i j is_i =
      flag_on (λ s. s.marked) i j (λ v event next at_v step.
      let m = moved value publics tasks of_team v (is_known v at_v).team event next step in
      let notes = its_notes value publics tasks of_team v (is_known v at_v).team (is_known v at_v).in_runs event next step in
      still_marked n i of_team.agents is_i (agent_of event) m.message step.agent step.step.after notes.marked m.moves)

  pub reported_on : (i j : ℕ) → IsOf n i → (events : List Event) (u w : World) → Reached u → Goes u events w
      → number_at w j ≡ number_at u j → has (note_at u j).reported i ≡ true → has (note_at w j).reported i ≡ true
  reported_on i j is_i =
      flag_on (λ s. s.reported) i j (λ v event next at_v step.
      let m = moved value publics tasks of_team v (is_known v at_v).team event next step in
      let notes = its_notes value publics tasks of_team v (is_known v at_v).team (is_known v at_v).in_runs event next step in
      still_reported n i of_team.agents is_i (agent_of event) m.message step.agent step.step.after notes.reported m.moves)

  -- ---- a round without an expansion

  pub record IsQuietRound (w v : World) : Type 0 where
    pub events : List Event
    pub quiet : are_quiet events ≡ true
    pub round : Round value n w events v

  -- a round in which no agent expands, after which all go on
  module _ (w v : World) (at : Reached w) (q : IsQuietRound w v) (go : AllGo v) where
    goes : Goes w q.events v
    goes = round_runs value n w v q.events q.round

    pub quiet_reached : Reached v
    quiet_reached = goes_reached q.events w v at goes

    -- an agent has taken all from another one
    pub record HasTakenAll (i j : ℕ) : Type 0 where
      pub at_world : World
      pub before : List Event
      pub after : List Event
      pub ran : Goes w before at_world
      pub goes_on : Goes at_world after v
      pub are_reached : Reached at_world
      pub quiet_before : are_quiet before ≡ true
      pub quiet_after : are_quiet after ≡ true
      pub nothing : under_way at_world i j ≡ []

    pub takes_all : (i j : ℕ) → IsOf n i → IsOf n j → i ≢ j → HasTakenAll i j
    takes_all i j is_i is_j off =
        let p = took_from value n w v q.events q.quiet q.round i j is_i is_j off in
        let reached = goes_reached p.before w p.at at p.ran in
        let all_go = went_on p.after p.at v reached p.goes go in
        let found = agent_there p.at j (is_agent team is_team publics of_team p.at reached j is_j) in
        let parts = quiet_parts p.before p.after (sym (ap are_quiet p.is) ∙ q.quiet) in
        record {
          at_world = p.at;
          before = p.before;
          after = p.after;
          ran = p.ran;
          goes_on = p.goes;
          are_reached = reached;
          quiet_before = parts.0;
          quiet_after = parts.1;
          nothing = nothing_left p.at i j found.0 found.1 (all_go j found.0 found.1)
              (another_at team is_team publics of_team p.at reached i j found.0 found.1 is_i off) p.holds;
        }

    pub none_of_part : {X : Type 0} (i j : ℕ) (is_i : IsOf n i) (is_j : IsOf n j) (off : i ≢ j) (part : _ → Option X)
        → filter_map part (messages publics (takes_all i j is_i is_j off).at_world i j) ≡ []
    none_of_part i j is_i is_j off part =
        let t = takes_all i j is_i is_j off in
        ap (filter_map part) (no_messages team is_team publics of_team t.at_world t.are_reached i j t.nothing)

    -- no state is under way after it
    pub no_states_after : (i j : ℕ) → IsOf n i → IsOf n j → i ≢ j → HasNoStates n publics v i j
    no_states_after i j is_i is_j off =
        let t = takes_all i j is_i is_j off in
        (onward team is_team publics of_team is_quiet (λ x. HasNoStates n publics x i j)
        (λ x event next at_x at_next step pass old.
        none_next value publics tasks of_team x (is_known x at_x).team event next step pass i j is_i is_j old)
        t.after t.at_world v t.are_reached
        (subst (λ (ms : List (List ℕ)). All (IsNoState n publics) ms) (sym t.nothing) (All-nil (IsNoState n publics)))
        t.quiet_after t.goes_on).1

    abbrev NoStates : World → Type 0
    NoStates x = (i j : ℕ) → IsOf n i → IsOf n j → i ≢ j → HasNoStates n publics x i j

    no_states_on : (events : List Event) (x y : World) → Reached x → Goes x events y → are_quiet events ≡ true → NoStates x → NoStates y
    no_states_on events x y at_x goes_x quiet none =
        (onward team is_team publics of_team is_quiet NoStates
        (λ u event next at_u at_next step pass old i j is_i is_j off.
        none_next value publics tasks of_team u (is_known u at_u).team event next step pass i j is_i is_j (old i j is_i is_j off))
        events x y at_x none quiet goes_x).1

    abbrev Idle : ℕ → World → Type 0
    Idle i x = NoStates x × ((r : AgentRecord) → agent_at x i ≡ Some r → may_expand r.limit r.search ≡ false)

    -- where none was under way before it, it leads to silence
    pub silent_after : NoStates w → IsSilent n publics v
    silent_after none = record {
      no_states = no_states_on q.events w v at goes q.quiet none;
      idle = λ i r there. idle_at i r there (of_there team is_team publics of_team v quiet_reached i r there);
    }
      where
        keeps_idle : (i : ℕ) (x : World) (event : Event) (next : World) → Reached x → Reached next → (step : IsStepOf value x event next)
            → is_quiet event ≡ true → Idle i x → Idle i next
        keeps_idle i x event next at_x at_next step pass old =
            let is = (is_known x at_x).team in
            let kept = keeps_search value publics tasks of_team x is event next step pass old.0 in (
              λ a b is_a is_b off. none_next value publics tasks of_team x is event next step pass a b is_a is_b (old.0 a b is_a is_b off),
              λ r there.
                  each_agent value x event next step (λ k r. k ≡ i → may_expand r.limit r.search ≡ false)
                  (λ same. (λ h. may_expand (kept.1 h) (kept.0 h)) ∙ old.1 step.agent (sym (ap (agent_at x) same) ∙ step.there))
                  (λ k r there off same. old.1 r (sym (ap (agent_at x) same) ∙ there)) i r there refl,
            )

        idle_at : (i : ℕ) (r : AgentRecord) → agent_at v i ≡ Some r → IsOf n i → may_expand r.limit r.search ≡ false
        idle_at i r there is_i =
            let p = could_not_expand value n w v q.events q.quiet q.round i is_i in
            let reached = goes_reached p.before w p.at at p.ran in
            let all_go = went_on p.after p.at v reached p.goes go in
            let parts = quiet_parts p.before p.after (sym (ap are_quiet p.is) ∙ q.quiet) in
            let there_none = no_states_on p.before w p.at at p.ran parts.0 none in
            (onward team is_team publics of_team is_quiet (Idle i)
            (keeps_idle i) p.after p.at v reached
            (there_none, λ x at_x. nothing_to_expand p.at i x at_x (all_go i x at_x) p.holds) parts.1 p.goes).1.1 r there
