-- The verdict of agent 1 is right.
use Rattle.mp_world.proofs.Basics.{◌≡◌, ℕ, suc, ◌+◌, ◌<◌, ◌≤◌, ◌⊎◌, true, List, map, Option, Some, None, refl, sym, ap, subst, ◌∙◌, arith, inl, inr, Contains, IsSomeAnd, IsTrue, slice_get, ◌&&◌, and_parts, eqb-true}
use Rattle.mp_task.specs.Plan.{TaskSolves}
use Rattle.mp_reach.proofs.PlanWitness.{plan_witness}
use Rattle.mp_world.specs.AgentWords.{AgentTask, JointState, TaskStep, goals_hold, task_cost, Event, Findings, Verdict, Proved, NoPlan, Spent, Continue, is_cost, least_f, least_goal, AgentRecord, given_verdict}
use Rattle.mp_world.specs.SearchWords.{Entry, f as f_of, AgentState}
use Rattle.mp_world.specs.Events.{run}
use Rattle.mp_world.specs.Joint.{joint}
use Rattle.mp_world.specs.Team.{IsTeam, Team}
use Rattle.mp_world.specs.World.{World, agent_at, start_world}
use Rattle.mp_world.proofs.Agents.{agent_there, agree_numbered}
use Rattle.mp_world.proofs.Mail.{agent_of_team}
use Rattle.mp_world.proofs.Runs.{run_of_team}
use Rattle.mp_world.proofs.Stepping.{team_size}
use Rattle.mp_team_states.specs.Paths.{AreReached}
use Rattle.mp_team_states.proofs.ReachedEntries.{entry_in}
use Rattle.mp_team_states.proofs.StepsSound.{agent_sound}
use Rattle.mp_team_states.specs.Estimates.{AreGoalsFlagged}
use Rattle.mp_team_states.specs.TeamFound.{found_of}
use Rattle.mp_team_states.proofs.Flags.{flags_of_joint}
use Rattle.mp_team_states.proofs.Runs.{IsInvariant, run_invariant}
use Rattle.mp_team_states.proofs.SoundWorlds.{IsHeuristic}
use Rattle.mp_team_verdicts.proofs.Few.{holds_so_far}
use Rattle.mp_team_snapshots.specs.Cut.{cut_schedule}
use Rattle.mp_team_snapshots.specs.Found.{findings_in}
use Rattle.mp_team_snapshots.specs.Verdicts.{HasVerdictWorld}
use Rattle.mp_team_snapshots.proofs.Teams.{has_verdict_world}
use Rattle.mp_team_snapshots.proofs.Unnumbered.{found_by}
use Rattle.mp_team_verdicts.specs.Right.{CostsAtLeast, HasExpanded, IsLeast, IsOptimal, IsReachedAt, IsRightVerdict, IsAtLimit, IsUndecided, IsUnsolvable}
use Rattle.mp_team_verdicts.proofs.Cases.{IsAbove, IsNoneBelow, SaysSpent, says_no_plan, says_proved_cost, says_spent}
use Rattle.mp_team_verdicts.proofs.Counted.{goal_counted, open_counted, state_counted, witness_counted}
use Rattle.mp_team_verdicts.proofs.Counts.{AreCounted, count_cut, counted_in_runs}
use Rattle.mp_team_verdicts.proofs.LeastEntries.{HasOpenAt, least_f_there}
use Rattle.mp_team_verdicts.proofs.Least.{IsAtMost, at_most_is, none_at_most}
use Rattle.mp_team_verdicts.proofs.Proving.{cost_found}
use Rattle.mp_team_verdicts.proofs.ToOthers.{HaveNoneToThemselves, none_to_themselves}

-- what is left to do is at most a cost, and nothing left to do is below another one
below_most : (cost n : ℕ) (o : Option ℕ) → IsNoneBelow cost o → IsAtMost n o → cost ≤ n
below_most cost n None below most = absurd most
below_most cost n (Some f) below most = omega arith

above_most : (f n : ℕ) (o : Option ℕ) → IsAbove f o → IsAtMost n o → f < n
above_most f n None above most = absurd most
above_most f n (Some c) above most = omega arith

module _ (team : Team) (is_team : IsTeam team) (heuristic : IsHeuristic team.value team.tasks) (t : AgentTask)
    (member : Contains team.tasks t) where
  open team use {tasks, value, limit}

  -- ---- a world that a legal schedule leads to

  module _ (schedule : List Event) (w : World) (ran : run team schedule ≡ Some w) where
    all : IsInvariant value tasks is_team.tasks w
    all = run_invariant team is_team heuristic schedule w ran

    flags : AreGoalsFlagged tasks w
    flags = flags_of_joint tasks is_team.tasks w all.team all.sound all.flags

    none : HaveNoneToThemselves tasks w
    none = none_to_themselves team (agree_numbered tasks is_team.tasks.agree) schedule w ran

    reached : AreReached tasks w
    reached = (holds_so_far team is_team schedule w ran).reached

    counted : AreCounted limit schedule w
    counted = counted_in_runs team is_team schedule w ran

    abbrev found : List Findings
    found = map (findings_in w) w.agents

    -- each plan shows in what is found
    plan_counted : (plan : List TaskStep) → TaskSolves tasks plan → IsAtMost (task_cost tasks plan) (least_f found) ⊎ IsAtMost (task_cost tasks plan) (least_goal found)
    plan_counted plan solves =
        witness_counted tasks is_team.tasks w all.team all.sound none flags (task_cost tasks plan) (plan_witness tasks t (found_of w) plan (record { agree = is_team.tasks.agree; in_team = member }) all.explored solves)

    pub costs_at_least : (cost : ℕ) → (least_goal found ≡ Some cost) × IsNoneBelow cost (least_f found) → CostsAtLeast tasks cost
    costs_at_least cost said plan solves =
        elim (plan_counted plan solves) [
          | inl left ↦ below_most cost (task_cost tasks plan) (least_f found) said.1 left
          | inr goal ↦ at_most_is (task_cost tasks plan) cost (least_goal found) said.0 goal
        ]

    pub is_unsolvable : (least_goal found ≡ None) × (least_f found ≡ None) → IsUnsolvable tasks
    is_unsolvable said plan solves =
        elim (plan_counted plan solves) [
          | inl left ↦ none_at_most (task_cost tasks plan) (least_f found) said.1 left
          | inr goal ↦ none_at_most (task_cost tasks plan) (least_goal found) said.0 goal
        ]

    at_least_left : (f : ℕ) → least_f found ≡ Some f → IsAbove f (least_goal found) → CostsAtLeast tasks f
    at_least_left f least above plan solves =
        elim (plan_counted plan solves) [
          | inl left ↦ at_most_is (task_cost tasks plan) f (least_f found) least left
          | inr goal ↦ let less = above_most f (task_cost tasks plan) (least_goal found) above goal in omega arith
        ]

    is_least_left : (f : ℕ) → least_f found ≡ Some f → IsAbove f (least_goal found) → IsLeast w f
    is_least_left f least above = record {
      entries = λ agent number e has is_open.
          at_most_is (f_of e) f (least_f found) least (open_counted tasks is_team.tasks w all.team all.sound none agent number e has is_open);
      states = λ from to r m sender there here.
          at_most_is (m.g + m.h) f (least_f found) least (state_counted tasks is_team.tasks w all.team all.sound none from to r m sender there here);
      goals = λ agent number e has goal.
          above_most f e.g (least_goal found) above (goal_counted tasks is_team.tasks w all.team all.sound none agent number e has goal);
    }

    -- an agent that the rule names as spent
    record IsSpentAt (agent f : ℕ) : Type 0 where
      who : AgentRecord
      there : agent_at w agent ≡ Some who
      count : who.search.expansions ≡ limit
      own : HasOpenAt who.search.kept f

    spent_there : (agent : ℕ) (s : SaysSpent found agent) → IsSpentAt agent s.f
    spent_there agent s =
        let r = found_by (findings_in w) w.agents s.named.place s.named.found s.named.there in
        let is = s.named.is in
        let place : agent ≡ suc s.named.place = omega arith in
        let there : agent_at w agent ≡ Some r.0 = ap (agent_at w) place ∙ r.1 in
        let passes = and_parts (findings_in w r.0).spent (is_cost s.f (findings_in w r.0).least)
        (ap (λ (x : Findings). x.spent && is_cost s.f x.least) r.2 ∙ s.named.passes) in
        record {
          who = r.0;
          there = there;
          count = eqb-true r.0.search.expansions r.0.limit passes.0 ∙ (counted agent r.0 there).limit_is;
          own = least_f_there r.0.search.kept s.f (cost_found s.f (findings_in w r.0).least passes.1);
        }

    is_at_limit : (agent : ℕ) → SaysSpent found agent → (at_limit : IsAtLimit limit w agent) × CostsAtLeast tasks at_limit.least
    is_at_limit agent s =
        let x = spent_there agent s in (
          record {
            least = s.f;
            spent = record { who = x.who; there = x.there; expanded = x.count };
            own = record {
              number = x.own.number;
              entry = x.own.entry;
              there = entry_in w agent x.own.number x.who x.own.entry x.there x.own.at;
              is_open = x.own.is_open;
              f_is = x.own.f_is;
            };
            is_least = is_least_left s.f s.least s.goal;
          },
          at_least_left s.f s.least s.goal,
        )

    -- a goal entry that was found is reached by a plan
    goal_reached : (agent number : ℕ) (r : AgentRecord) (e : Entry AgentState) → agent_at w agent ≡ Some r → slice_get r.search.kept.entries number ≡ Some e
        → e.goal ≡ true → IsReachedAt tasks e.g
    goal_reached agent number r e there at goal =
        let has = entry_in w agent number r e there at in
        let x = reached agent number e has in
        let hold : goals_hold tasks (joint w agent e.key) ≡ true = sym (flags agent number e has) ∙ goal in
        record {
          plan = x.steps;
          solves = subst (λ (o : Option JointState). IsSomeAnd o (λ last. IsTrue (goals_hold tasks last))) (sym x.leads) hold;
          cost_is = x.cost;
        }

  -- ---- a verdict

  module _ (schedule : List Event) (w : World) (ran : run team schedule ≡ Some w) (first : AgentRecord) (there : agent_at w 1 ≡ Some first) where
    abbrev k : ℕ
    k = first.snapshot.number

    abbrev cut_events : List Event
    cut_events = cut_schedule team k schedule

    -- as many entries as it may, and still as many
    still_spent : (c : World) → run team cut_events ≡ Some c → (agent : ℕ) → HasExpanded c agent limit → HasExpanded w agent limit
    still_spent c c_ran agent then =
        let is = agent_of_team c agent then.who then.there in
        let low = is.from_1 in
        let high = is.at_most in
        let size_c = team_size tasks c (run_of_team team cut_events c c_ran) in
        let size = team_size tasks w (run_of_team team schedule w ran) in
        let now = agent_there w agent (record { from_1 = low; at_most = omega arith }) in
        let before = (counted cut_events c c_ran agent then.who then.there).count in
        let was = then.expanded in
        let after = counted schedule w ran agent now.0 now.1 in
        let count = after.count in
        let may = after.limit_is in
        let fewer = count_cut value k agent (start_world team) schedule in
        let all_now = all schedule w ran in
        let within = (agent_sound tasks is_team.tasks w all_now.team all_now.sound agent now.0 now.1).within in
        record { who = now.0; there = now.1; expanded = omega arith }

    module _ (v : Verdict) (world : HasVerdictWorld team k schedule w v) where
      abbrev c : World
      c = world.cut.world

      proved : (agent cost : ℕ) → v ≡ Proved agent cost → IsOptimal tasks cost
      proved agent cost is =
          let g = world.verdict_on.proved agent cost is in
          let x = goal_reached cut_events c world.cut.runs agent g.number g.then g.entry g.there_then g.is_entry g.goal in
          record {
            reached = subst (IsReachedAt tasks) g.cost_is x;
            least = costs_at_least cut_events c world.cut.runs cost (says_proved_cost (map (findings_in c) c.agents) agent cost (world.verdict_on.rule ∙ is));
          }

      no_plan : v ≡ NoPlan → IsUnsolvable tasks
      no_plan is = is_unsolvable cut_events c world.cut.runs (says_no_plan (map (findings_in c) c.agents) (world.verdict_on.rule ∙ is))

      undecided : (agent : ℕ) → v ≡ Spent agent → IsUndecided team schedule w k agent
      undecided agent is =
          let found = is_at_limit cut_events c world.cut.runs agent (says_spent (map (findings_in c) c.agents) agent (world.verdict_on.rule ∙ is)) in
          record {
            cut = world.cut;
            at_limit = found.0;
            spent = still_spent c world.cut.runs agent found.0.spent;
            least = found.1;
          }

    pub verdict_right : (v : Verdict) → given_verdict first ≡ Some v → IsRightVerdict team schedule w first.snapshot.number v
    verdict_right v given = by v refl
      where
        world : HasVerdictWorld team k schedule w v
        world = has_verdict_world team schedule w ran first there v given is_team.tasks

        by : (u : Verdict) → v ≡ u → IsRightVerdict team schedule w first.snapshot.number u
        by (Proved agent cost) is = proved v world agent cost is
        by NoPlan is = no_plan v world is
        by (Spent agent) is = undecided v world agent is
        by Continue is = tt
