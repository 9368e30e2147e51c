-- The laws for tasks that agree and are within the limits, of which there may be none.
use Rattle.mp_world.proofs.Basics.{◌≡◌, ℕ, zero, suc, ◌≤◌, Bool, true, false, List, [], ◌∷◌, Some, refl, sym, ap, subst, ◌∙◌, ◌⊎◌, inl, inr, none-some, same_Some}
use Rattle.mp_list.proofs.Members.{contains_head}
use Rattle.mp_runs.specs.Run.{run as run_of}
use Rattle.mp_runs.proofs.Runs.{run-none, run_parts}
use Rattle.mp_world.specs.AgentWords.{AgentTask, Event, Verdict, AgentRecord, given_verdict}
use Rattle.mp_world.specs.Events.{after_event, agent_of, run}
use Rattle.mp_world.specs.Team.{AreTeamTasks, Team, team_with}
use Rattle.mp_world.specs.Values.{Values}
use Rattle.mp_world.specs.World.{IsTeamWorld, World, agent_at, start_world}
use Rattle.mp_world.proofs.Agents.{agent_there}
use Rattle.mp_world.proofs.Runs.{run_of_team}
use Rattle.mp_world.proofs.Stepping.{stepped}
use Rattle.mp_team_snapshots.specs.Team.{IsTeamOf}
use Rattle.mp_team_snapshots.proofs.Agreeing.{are_of_team}
use Rattle.mp_team_snapshots.proofs.Worlds.{is_agent_of, is_of_there, note_of, team_numbers}
use Rattle.mp_team_states.specs.Further.{HaveGrown, IsFurther}
use Rattle.mp_team_states.proofs.Growth.{grown_not}
use Rattle.mp_team_snapshots.specs.Cut.{cut_from, has_recorded}
use Rattle.mp_team_snapshots.specs.CutWorlds.{AreAgentsCut, HasCut}
use Rattle.mp_team_snapshots.specs.Verdicts.{HasVerdictWorld, IsVerdictOn}
use Rattle.mp_team_snapshots.proofs.CutRuns.{beside}
use Rattle.mp_team_snapshots.proofs.CutSchedules.{cut_none}
use Rattle.mp_team_snapshots.proofs.CutVerdicts.{next_to, some, verdict_on}
use Rattle.mp_team_snapshots.proofs.MessagesCut.{messages_cut}

-- what each agent keeps and has sent after the cut has grown since
all_grown : (publics : ℕ) (tasks : List AgentTask) → IsTeamOf publics tasks → (w : World) → IsTeamWorld tasks w
    → (c : World) → IsTeamWorld tasks c
    → (k : ℕ) → AreAgentsCut k w c → HaveGrown c w
all_grown publics tasks team w is c is_c k agents agent r there =
    let of = is_of_there publics tasks team c (team_numbers publics tasks team c is_c) agent r there in
    let found =
    agent_there w agent (is_agent_of publics tasks team w (team_numbers publics tasks team w is) agent of) in
    (found.0, found.1, by found.0 found.1 (has_recorded k found.0) refl)
  where
    by : (now : AgentRecord) → agent_at w agent ≡ Some now → (b : Bool) → has_recorded k now ≡ b → IsFurther r now
    by now at true is_now =
        let since = agents.recorded agent now at is_now in
        subst (λ x. IsFurther x now) (same_Some since.0 r (sym since.1 ∙ there))
        (record { task = since.2.task; kept = since.2.grown })
    by now at false not_now =
        subst (λ x. IsFurther x now) (same_Some now r (sym (agents.unrecorded agent now at not_now) ∙ there))
        (record { task = refl; kept = grown_not now.search.kept })

-- there is no task, or the tasks are those of a team
none_or_team : (tasks : List AgentTask) → AreTeamTasks tasks → (tasks ≡ []) ⊎ ((publics : ℕ) × IsTeamOf publics tasks)
none_or_team [] are = inl refl
none_or_team (t ∷ ts) are = inr (t.publics, are_of_team (t ∷ ts) t are (contains_head t ts))

module _ (value : Values) (limit : ℕ) where
  -- a team of none
  abbrev empty : Team
  empty = team_with value limit []

  -- ---- nobody

  nobody : (agent : ℕ) (r : AgentRecord) → agent_at (start_world empty) agent ≡ Some r → ⊥
  nobody zero r there = none-some r there
  nobody (suc k) r there = none-some r there

  -- nothing happens
  nothing_happens : (schedule : List Event) (w : World) → run empty schedule ≡ Some w
      → (schedule ≡ []) × (start_world empty ≡ w)
  nothing_happens [] w ran = (
    refl,
    same_Some (start_world empty) w
        (sym (run-none (after_event value) (start_world empty)) ∙ ran),
  )
  nothing_happens (e ∷ es) w ran =
      let parts = run_parts (after_event value) (start_world empty) w e es ran in
      let s = stepped value (start_world empty) e parts.0 parts.1 in
      absurd (nobody (agent_of e) s.agent s.there)

  none_cut : (k : ℕ) → HasCut empty k [] (start_world empty)
  none_cut k = record {
    world = start_world empty;
    runs =
        ap (run_of (after_event value) (start_world empty)) (cut_none value k (start_world empty))
        ∙ run-none (after_event value) (start_world empty);
    agents = record {
      unrecorded = λ agent r there not_r. there;
      recorded = λ agent r there is_r. absurd (nobody agent r there);
    };
    grown = λ agent r there. absurd (nobody agent r there);
    messages = λ first there upto. absurd (nobody 1 first there);
  }

  nobody_cut : (k : ℕ) (schedule : List Event) (w : World) → run empty schedule ≡ Some w
      → HasCut empty k schedule w
  nobody_cut k schedule w ran =
      let nothing = nothing_happens schedule w ran in
      subst (λ v. HasCut empty k schedule v) nothing.1
      (subst (λ es. HasCut empty k es (start_world empty)) (sym nothing.0) (none_cut k))

-- ---- a team

module _ (team : Team) (schedule : List Event) (w : World) (ran : run team schedule ≡ Some w) where
  open team use {tasks, value, limit}

  team_cut : (publics : ℕ) → IsTeamOf publics tasks → (k : ℕ) → 1 ≤ k → HasCut team k schedule w
  team_cut publics of_team k some =
      let b = beside team publics of_team k some schedule w ran in
      record {
        world = b.cut;
        runs = b.cut_ran;
        agents = b.agents;
        grown = all_grown publics tasks of_team w (run_of_team team schedule w ran) b.cut
            (run_of_team team
            (cut_from value k (start_world team) schedule) b.cut b.cut_ran) k b.agents;
        messages = λ first there upto.
            let mail = b.mail (subst (λ s. s.number ≤ k) (sym (note_of w 1 first there)) upto) in
            messages_cut publics tasks of_team w (run_of_team team schedule w ran) k b.cut mail.0 mail.1;
      }

  pub has_cut : AreTeamTasks tasks → (k : ℕ) → 1 ≤ k → HasCut team k schedule w
  has_cut are k some = by (none_or_team tasks are)
    where
      by : (tasks ≡ []) ⊎ ((publics : ℕ) × IsTeamOf publics tasks) → HasCut team k schedule w
      by (inl none) =
          subst (λ ts. HasCut (record team { tasks = ts }) k schedule w) (sym none)
          (nobody_cut value limit k schedule w (subst (λ ts. run (record team { tasks = ts }) schedule ≡ Some w) none ran))
      by (inr (publics, of_team)) = team_cut publics of_team k some

  module _ (first : AgentRecord) (there : agent_at w 1 ≡ Some first) (v : Verdict)
      (given : given_verdict first ≡ Some v) where
    pub has_verdict_world : AreTeamTasks tasks
        → HasVerdictWorld team first.snapshot.number schedule w v
    has_verdict_world are = by (none_or_team tasks are)
      where
        by : (tasks ≡ []) ⊎ ((publics : ℕ) × IsTeamOf publics tasks)
            → HasVerdictWorld team first.snapshot.number schedule w v
        by (inl none) =
            let nothing = nothing_happens value limit schedule w (subst (λ ts. run (record team { tasks = ts }) schedule ≡ Some w) none ran) in
            absurd (nobody value limit 1 first (ap (λ u. agent_at u 1) nothing.1 ∙ there))
        by (inr (publics, of_team)) =
            let cut =
            team_cut publics of_team first.snapshot.number
            (some team publics of_team schedule w ran first there v given) in
            let b = next_to team publics of_team schedule w ran first there v given in
            record {
              cut = cut;
              verdict_on =
                  subst (λ c. IsVerdictOn first.snapshot.number w c v)
                  (same_Some b.cut cut.world (sym b.cut_ran ∙ cut.runs))
                  (verdict_on team publics of_team schedule w ran first there v given);
            }
