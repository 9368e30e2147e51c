-- What a run is worth in the world after its last cut, where the heuristic knows nothing: an entry below the proved cost is no
-- goal, and what its state leads to costs as much, or has an entry that costs no more.
use Rattle.std.proofs.Common.{◌≡◌, ℕ, ◌+◌, ◌<◌, ◌≤◌, ◌⊎◌, List, map, Option, Some, None, refl, sym, subst, arith, inl, inr}
use Rattle.mp_task.specs.AgentTask.{AgentTask}
use Rattle.mp_messages.specs.declared.history.Event.{Event}
use Rattle.mp_snapshot.specs.VerdictRule.{least_f, least_goal}
use Rattle.mp_store.specs.declared.entry.Mark.{Mark}
use Rattle.mp_store.specs.declared.entry.Mark.TheVariants.{Open, Expanded, Replaced}
use Rattle.mp_reach.specs.Explored.{HasEntry, HasLiveEntry, HasMessage, HasWitness, IsAt, IsFoundAt, LeavesNothingOut}
use Rattle.mp_reach.specs.Explored.HasWitness.{open_entry, under_way, goal_entry}
use Rattle.mp_reach.specs.Found.{Entry as Seen}
use Rattle.mp_reach.specs.LeadsOn.{IsAny, IsGoal, IsRoot, Known, LeadsOn}
use Rattle.mp_reach.specs.Ways.Way.{arrived}
use Rattle.mp_reach.proofs.NothingLeftOut.{nothing_left_out}
use Rattle.mp_world.proofs.Agents.{agree_numbered}
use Rattle.mp_world.specs.Events.{run}
use Rattle.mp_world.specs.Team.{IsTeam, team_with}
use Rattle.mp_world.specs.World.{World}
use Rattle.mp_team_states.specs.Estimates.{AreGoalsFlagged}
use Rattle.mp_team_states.specs.Expansions.{nothing_known}
use Rattle.mp_team_states.specs.TeamFound.{found_of}
use Rattle.mp_team_states.proofs.Flags.{flags_of_joint}
use Rattle.mp_team_states.proofs.Heuristics.{knows_nothing}
use Rattle.mp_team_states.proofs.Runs.{IsInvariantFor, run_invariant}
use Rattle.mp_team_snapshots.specs.Found.{findings_in}
use Rattle.mp_team_verdicts.proofs.Cases.{IsNoneBelow}
use Rattle.mp_team_verdicts.proofs.Counted.{witness_counted}
use Rattle.mp_team_verdicts.proofs.Least.{IsAtMost, at_most_is}
use Rattle.mp_team_verdicts.proofs.ToOthers.{HaveNoneToThemselves, none_to_themselves}

below_most : (cost n : ℕ) (o : Option ℕ) → IsNoneBelow cost o → IsAtMost n o → cost ≤ n
below_most cost n None below most = absurd most
below_most cost n (Some f) below most = omega arith

module _ (limit : ℕ) (tasks : List AgentTask) (is_team : IsTeam (team_with nothing_known limit tasks))
    (schedule : List Event) (w : World) (ran : run (team_with nothing_known limit tasks) schedule ≡ Some w) where
  all : IsInvariantFor nothing_known tasks is_team.tasks IsAny w
  all = run_invariant (team_with nothing_known limit tasks) is_team (knows_nothing IsAny tasks) schedule w ran

  nothing_out : LeavesNothingOut (LeadsOn tasks) (IsRoot tasks) (found_of w)
  nothing_out = nothing_left_out (LeadsOn tasks) IsAny (IsRoot tasks) (λ k. tt) (found_of w) all.explored

  flags : AreGoalsFlagged tasks w
  flags = flags_of_joint tasks is_team.tasks w all.team all.sound all.flags

  to_themselves : HaveNoneToThemselves tasks w
  to_themselves = none_to_themselves (team_with nothing_known limit tasks) (agree_numbered tasks is_team.tasks.agree) schedule w ran

  module _ (cost : ℕ) (goal_is : least_goal (map (findings_in w) w.agents) ≡ Some cost) (none_below : IsNoneBelow cost (least_f (map (findings_in w) w.agents))) where
    -- what shows that a cost may be costs as much
    costs_so_much : (c : ℕ) → HasWitness (IsGoal tasks) (found_of w) c → cost ≤ c
    costs_so_much c shows =
        elim (witness_counted tasks is_team.tasks w all.team all.sound to_themselves flags c shows) [
          | inl left ↦ below_most cost c (least_f (map (findings_in w) w.agents)) none_below left
          | inr goal ↦ at_most_is c cost (least_goal (map (findings_in w) w.agents)) goal_is goal
        ]

    open_costs : (i : ℕ × ℕ) (e : Seen Known) → IsAt (found_of w) i e → e.mark ≡ Open → cost ≤ e.cost
    open_costs i e at is =
        let nothing = all.explored.entries i e at 0 e.state (arrived e.state) tt in
        costs_so_much e.cost (open_entry i e at is (omega arith))

    message_costs : (k : Known) (c : ℕ) → HasMessage (found_of w) k c → cost ≤ c
    message_costs k c has =
        let m = has.message in
        let within = has.within in
        let nothing = all.explored.messages m has.there 0 m.state (arrived m.state) tt in
        costs_so_much c (under_way m has.there (omega arith))

    pub goal_costs : (i : ℕ × ℕ) (e : Seen Known) → IsAt (found_of w) i e → IsGoal tasks e.state → cost ≤ e.cost
    goal_costs i e at goal = costs_so_much e.cost (goal_entry i e at goal (omega arith))

    -- what is found at a cost has an entry, or costs as much
    found_costs : (k : Known) (c : ℕ) → IsFoundAt (found_of w) k c → (cost ≤ c) ⊎ HasEntry (found_of w) k c
    found_costs k c (inl has) = inr has
    found_costs k c (inr has) = inl (message_costs k c has)

    pub start_found : (k : Known) → IsRoot tasks k → (cost ≤ 0) ⊎ HasEntry (found_of w) k 0
    start_found k root = found_costs k 0 (nothing_out.roots k root)

    pub led_found : (i : ℕ × ℕ) (e : Seen Known) → IsAt (found_of w) i e → e.cost < cost → (price : ℕ) (k : Known) → LeadsOn tasks e.state price k
        → (cost ≤ e.cost + price) ⊎ HasEntry (found_of w) k (e.cost + price)
    led_found i e at below price k leads = by l.has.entry.mark refl
      where
        l : HasLiveEntry (found_of w) e.state e.cost
        l = nothing_out.live i e at

        at_more : (c d : ℕ) → c ≤ d → (cost ≤ c) ⊎ HasEntry (found_of w) k c → (cost ≤ d) ⊎ HasEntry (found_of w) k d
        at_more c d le (inl much) = inl (omega arith)
        at_more c d le (inr has) =
            let within = has.within in
            inr (record { index = has.index; entry = has.entry; there = has.there; of = has.of; within = omega arith })

        by : (m : Mark) → l.has.entry.mark ≡ m → (cost ≤ e.cost + price) ⊎ HasEntry (found_of w) k (e.cost + price)
        by Open is =
            let much = open_costs l.has.index l.has.entry l.has.there is in
            let within = l.has.within in
            inl (omega arith)
        by Expanded is =
            let within = l.has.within in
            at_more (l.has.entry.cost + price) (e.cost + price) (omega arith)
            (found_costs k (l.has.entry.cost + price)
            (nothing_out.closed l.has.index l.has.entry l.has.there is price k (subst (λ (u : Known). LeadsOn tasks u price k) (sym l.has.of) leads)))
        by Replaced is = absurd (l.live is)
