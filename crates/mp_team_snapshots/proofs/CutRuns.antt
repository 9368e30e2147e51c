-- The cut of each legal schedule is legal, and leads to a world that stays beside that of the schedule.
use Rattle.mp_world.proofs.Basics.{◌≡◌, ℕ, ◌≤◌, Bool, true, false, eqb, List, [], ◌∷◌, ◌++◌, length, Some, refl, sym, ap, ◌∙◌, append-nil, arith, option_and_then, and_left, eqb-false, eqb-true, false_from_ne_true, false≢true, leb-true}
use Rattle.mp_runs.specs.Run.{run as run_of}
use Rattle.mp_runs.proofs.Runs.{run-more, run-none, run_keeps_history}
use Rattle.mp_world.specs.AgentWords.{Event, Marker, spelling, has, AgentRecord}
use Rattle.mp_world.specs.Events.{after_event, agent_of}
use Rattle.mp_world.specs.Steps.{IsStepOf}
use Rattle.mp_world.specs.Team.{Team}
use Rattle.mp_world.specs.World.{IsTeamWorld, World, agent_at, start_world, under_way}
use Rattle.mp_world.proofs.Agents.{agent_there}
use Rattle.mp_world.proofs.LogOfRun.{new_at}
use Rattle.mp_world.proofs.Runs.{run_of_team}
use Rattle.mp_world.proofs.Stepping.{event_is_step, start_is_team, team_lists}
use Rattle.mp_team_snapshots.specs.Team.{IsTeamOf}
use Rattle.mp_team_snapshots.proofs.Changes.{note_after, note_before, note_other}
use Rattle.mp_team_snapshots.proofs.InRuns.{HoldsInRuns, holds_in_runs}
use Rattle.mp_team_snapshots.proofs.Protocol.{IsOf}
use Rattle.mp_team_snapshots.proofs.Worlds.{is_agent_of, note_at, note_of, team_numbers, view}
use Rattle.mp_team_snapshots.specs.Cut.{cut_from, has_recorded, kept_event}
use Rattle.mp_team_snapshots.specs.CutWorlds.{AreAgentsCut}
use Rattle.mp_team_snapshots.proofs.Both.{IsCut, recorded, taken_in}
use Rattle.mp_team_snapshots.proofs.CutMail.{cut_again}
use Rattle.mp_team_snapshots.proofs.CutSchedules.{cut_more, cut_none, is_kept, not_kept}
use Rattle.mp_team_snapshots.proofs.Done.{event_too}
use Rattle.mp_team_snapshots.proofs.Lasts.{first_at_most}
use Rattle.mp_team_snapshots.proofs.Recorded.{recorded_event}
use Rattle.mp_team_snapshots.proofs.Since.{agents_done, agents_recorded, agents_skipped, number_rises, stays_recorded}
use Rattle.mp_team_snapshots.proofs.Skipped.{skipped_event}
use Rattle.mp_team_snapshots.proofs.Taken.{both, cutting, is_its, passes, sound_view}

module _ (team : Team) (publics : ℕ) (of_team : IsTeamOf publics team.tasks) (k : ℕ) (some : 1 ≤ k) where
  open team use {tasks, value}

  abbrev start : World
  start = start_world team

  abbrev pub HasCut : World → World → Type 0
  HasCut w c = (counted : ℕ → ℕ → List (List ℕ)) × IsCut (cutting (length tasks) publics k) (both w c counted)

  -- events, the world that they lead to, and the world after their cut
  pub record IsBeside (past : List Event) (w : World) : Type 0 where
    pub ran : run_of (after_event value) (start_world team) past ≡ Some w
    pub cut : World
    pub cut_ran : run_of (after_event value) (start_world team)
        (cut_from value k (start_world team) past) ≡ Some cut
    pub agents : AreAgentsCut k w cut
    pub mail : (note_at w 1).number ≤ k → HasCut w cut

  -- ---- the start

  new_unrecorded : (agent : ℕ) (r : AgentRecord) → agent_at start agent ≡ Some r → has_recorded k r ≡ false
  new_unrecorded agent r there =
      false_from_ne_true (has_recorded k r) (λ is_recorded.
      let low = leb-true k r.snapshot.number is_recorded in
      let none : r.snapshot.number ≡ 0 = ap (λ x. x.snapshot.number) (new_at team agent r there) in
      let impossible : ⊥ = absurd (omega arith) in impossible)

  is_team : IsTeamWorld tasks start
  is_team = start_is_team team

  new_note : (i : ℕ) → IsOf (length tasks) i → recorded k (note_at start i) ≡ false
  new_note i is =
      let found =
      agent_there start i (is_agent_of publics tasks of_team start (team_numbers publics tasks of_team start is_team) i is) in
      ap (recorded k) (note_of start i found.0 found.1) ∙ new_unrecorded i found.0 found.1

  no_counted : ℕ → ℕ → List (List ℕ)
  no_counted i j = []

  start_cut : IsCut (cutting (length tasks) publics k) (both start start no_counted)
  unfolding no_counted
  start_cut = record {
    mail = λ i j is_i is_j off.
        cut_again (spelling (Marker k)) false (recorded k (note_at start i)) false
        (taken_in k (note_at start j) i) [] []
        (under_way start i j) (under_way start i j) (under_way start i j) (under_way start i j)
        (new_note i is_i) (and_left (recorded k (note_at start j)) (has (note_at start j).marked i) (new_note j is_j))
        refl refl refl refl;
    none = λ i j is_j not_is. refl;
    least = λ j is_j is_recorded. absurd (false≢true (sym (new_note j is_j) ∙ is_recorded));
  }

  start_beside : IsBeside [] start
  start_beside = record {
    ran = run-none (after_event value) start;
    cut = start;
    cut_ran = ap (run_of (after_event value) start) (cut_none value k start) ∙ run-none (after_event value) start;
    agents = record {
      unrecorded = λ agent r there not_r. there;
      recorded = λ agent r there is_r. absurd (false≢true (sym (new_unrecorded agent r there) ∙ is_r));
    };
    mail = λ upto. (no_counted, start_cut);
  }

  -- ---- an event

  module _ (past : List Event) (w : World) (event : Event) (next : World) (old : IsBeside past w)
      (leads : after_event value w event ≡ Some next) where
    is : IsTeamWorld tasks w
    is = run_of_team team past w old.ran

    holds : HoldsInRuns publics w
    holds = holds_in_runs team publics of_team past w old.ran

    ran_next : run_of (after_event value) start (past ++ event ∷ []) ≡ Some next
    ran_next =
        run-more (after_event value) start past event ∙ ap (option_and_then (λ v. after_event value v event)) old.ran
        ∙ leads

    is_next : IsTeamWorld tasks next
    is_next = run_of_team team (past ++ event ∷ []) next ran_next

    holds_next : HoldsInRuns publics next
    holds_next = holds_in_runs team publics of_team (past ++ event ∷ []) next ran_next

    step : IsStepOf value w event next
    step = event_is_step value w (team_lists tasks w is) event next leads

    cut_next : cut_from value k start (past ++ event ∷ []) ≡ cut_from value k start past ++ kept_event k w event next
    cut_next = cut_more value k past start w next event old.ran leads

    -- the event is not in the cut
    cut_without : kept_event k w event next ≡ []
        → run_of (after_event value) start (cut_from value k start (past ++ event ∷ [])) ≡ Some old.cut
    cut_without none =
        ap (run_of (after_event value) start)
        (cut_next ∙ ap (λ es. cut_from value k start past ++ es) none ∙ append-nil (cut_from value k start past))
        ∙ old.cut_ran

    its : IsOf (length tasks) (agent_of event)
    its = is_its value publics tasks of_team w is holds event next step

    -- agent 1's number does not fall
    upto_before : (note_at next 1).number ≤ k → (note_at w 1).number ≤ k
    upto_before upto = by (eqb 1 (agent_of event)) refl
      where
        by : (b : Bool) → eqb 1 (agent_of event) ≡ b → (note_at w 1).number ≤ k
        by true test =
            let here = eqb-true 1 (agent_of event) test in
            let rises =
            number_rises step.agent step.step.after (passes value publics tasks of_team w is holds event next step) in
            let was : (note_at w 1).number ≡ step.agent.snapshot.number =
            ap (λ i. (note_at w i).number) here
            ∙ ap (λ s. s.number) (note_before value publics tasks of_team w is event next step) in
            let now : (note_at next 1).number ≡ step.step.after.snapshot.number =
            ap (λ i. (note_at next i).number) here
            ∙ ap (λ s. s.number) (note_after value publics tasks of_team w is event next step) in
            omega arith
        by false test =
            let same =
            ap (λ s. s.number) (note_other value publics tasks of_team w is event next step 1
            (eqb-false 1 (agent_of event) test)) in
            omega arith

    skipped : has_recorded k step.agent ≡ true → IsBeside (past ++ event ∷ []) next
    skipped was =
        let passed = passes value publics tasks of_team w is holds event next step in
        let still = stays_recorded k step.agent step.step.after passed was in
        record {
          ran = ran_next;
          cut = old.cut;
          cut_ran = cut_without (not_kept k w next event step.agent step.step.after step.there step.after still);
          agents = agents_skipped value w next event step k passed old.cut old.agents was;
          mail = λ upto.
              let mail = old.mail (upto_before upto) in
              skipped_event value publics tasks of_team w is holds k some old.cut mail.0 mail.1
              (upto_before upto) event next step was still upto;
        }

    -- where the agent has not recorded, agent 1 has begun no later snapshot
    not_there : has_recorded k step.agent ≡ false → (note_at w 1).number ≤ k
    not_there not_was =
        first_at_most (length tasks) (view publics w) (sound_view value publics tasks of_team w is holds) k some
        (agent_of event) its
        (ap (recorded k) (note_before value publics tasks of_team w is event next step) ∙ not_was)

    records : has_recorded k step.agent ≡ false → has_recorded k step.step.after ≡ true
        → IsBeside (past ++ event ∷ []) next
    records not_was now =
        let passed = passes value publics tasks of_team w is holds event next step in
        let mail = old.mail (not_there not_was) in
        record {
          ran = ran_next;
          cut = old.cut;
          cut_ran = cut_without (not_kept k w next event step.agent step.step.after step.there step.after now);
          agents = agents_recorded value w next event step k passed old.cut old.agents not_was now;
          mail = λ upto. (
            mail.0,
            recorded_event value publics tasks of_team w is holds k some old.cut mail.0 mail.1 event next step
                is_next holds_next not_was now,
          );
        }

    done : has_recorded k step.agent ≡ false → has_recorded k step.step.after ≡ false
        → IsBeside (past ++ event ∷ []) next
    done not_was not_now =
        let passed = passes value publics tasks of_team w is holds event next step in
        let mail = old.mail (not_there not_was) in
        let is_cut = run_of_team team (cut_from value k start past) old.cut old.cut_ran in
        let too = event_too value publics tasks of_team w is holds k old.cut is_cut mail.0 mail.1 event next step
        (old.agents.unrecorded (agent_of event) step.agent step.there not_was) not_was not_now
        in
        record {
          ran = ran_next;
          cut = too.last;
          cut_ran =
              ap (run_of (after_event value) start)
              (cut_next
              ∙ ap (λ es. cut_from value k start past ++ es)
              (is_kept k w next event step.agent step.step.after step.there step.after not_was not_now))
              ∙ run-more (after_event value) start (cut_from value k start past) event
              ∙ ap (option_and_then (λ v. after_event value v event)) old.cut_ran
              ∙ too.leads;
          agents =
              agents_done value w next event step k passed old.cut old.agents not_now too.last too.after too.others;
          mail = λ upto. (mail.0, too.cut);
        }

    beside_next : IsBeside (past ++ event ∷ []) next
    beside_next = by (has_recorded k step.agent) refl (has_recorded k step.step.after) refl
      where
        by : (p : Bool) → has_recorded k step.agent ≡ p → (q : Bool) → has_recorded k step.step.after ≡ q
            → IsBeside (past ++ event ∷ []) next
        by true was q now = skipped was
        by false not_was true now = records not_was now
        by false not_was false not_now = done not_was not_now

  pub beside : (schedule : List Event) (w : World)
      → run_of (after_event value) (start_world team) schedule ≡ Some w → IsBeside schedule w
  beside schedule w ran =
      run_keeps_history (after_event value) IsBeside
      (λ past v next event old leads. beside_next past v event next old leads) [] schedule start w start_beside ran
