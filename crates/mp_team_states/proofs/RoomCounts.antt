-- Costs and estimates are small at the start, and so is the number of all expansions.
use Rattle.mp_world.proofs.Basics.{◌≡◌, ℕ, suc, ◌+◌, ◌≤◌, ◌^◌, ◌⊎◌, List, [], ◌∷◌, length, get_or, Some, All, refl, sym, ap, subst, ◌∙◌, arith, inl, inr, Contains, slice_get, none-some, slice_get-get_or}
use Rattle.std.proofs.lemmas.List.Sums.{sum_by-le}
use Rattle.mp_world.specs.AgentWords.{AgentTask, task_of, AgentRecord, new_record}
use Rattle.mp_world.specs.SearchWords.{Entry, empty, AgentState, start_state, start_record}
use Rattle.mp_world.specs.Team.{AreTeamTasks, IsTeam, Team, most_expansions}
use Rattle.mp_world.specs.World.{IsTeamWorld, World, agent_at, start_world}
use Rattle.mp_world.proofs.Agents.{agree_numbered, member_of}
use Rattle.mp_world.proofs.Stepping.{team_size}
use Rattle.mp_team_states.specs.Paths.{IsEntryAt}
use Rattle.mp_team_states.specs.Room.{AreSmall, HasSmallValues, IsSmall, expanded_by_all}
use Rattle.mp_team_states.specs.Sound.{AreStatesSound}
use Rattle.mp_team_states.proofs.Entries.{IsNew, IsOld, changes_entry}
use Rattle.mp_team_states.proofs.Expanding.{IsFirst, start_changes}
use Rattle.mp_team_states.proofs.ReachedEntries.{HasIt, has_it}
use Rattle.mp_team_states.proofs.RoomLemmas.{small_value}
use Rattle.mp_team_states.proofs.StartReached.{here, task_is}
use Rattle.mp_team_states.proofs.StepsSound.{agent_sound, limits_of}

-- ---- the start

pub start_small : (team : Team) → IsTeam team → HasSmallValues team.value team.tasks → AreSmall (start_world team)
start_small team is_team values agent n e has = by found.0 (here team is_team agent found.0 found.1) at
  where
    open team use {tasks, value, limit}

    h : HasIt (start_world team) agent n e
    h = has_it (start_world team) agent n e has

    found : (t : AgentTask) × (task_of tasks agent ≡ Some t) × (h.agent_is ≡ new_record t (value t) limit)
    found = task_is team is_team agent h.agent_is h.there

    at : slice_get (start_record found.0 (value found.0)).kept.entries n ≡ Some e
    at = subst (λ (r : AgentRecord). slice_get r.search.kept.entries n ≡ Some e) found.2 h.at

    by : (t : AgentTask) → Contains tasks t → slice_get (start_record t (value t)).kept.entries n ≡ Some e → IsSmall (expanded_by_all (start_world team)) e
    by t in_team at = either (changes_entry (IsFirst t (value t)) t empty (start_record t (value t)).kept [] (start_changes t (value t)) n e at)
      where
        either : IsOld empty n e ⊎ IsNew (IsFirst t (value t)) t (start_record t (value t)).kept n e → IsSmall (expanded_by_all (start_world team)) e
        either (inl old) = absurd (none-some old.old old.there)
        either (inr new) =
            let g_is : e.g ≡ 0 = new.alike.g ∙ new.comes.g in
            let s = start_state t in
            record {
              cost = omega arith;
              estimate = small_value (value t s.publics s.mine) e.h (values t s.publics s.mine in_team) (new.comes.h ∙ ap (λ (h : ℕ). Some h) (sym new.alike.h));
            }

-- ---- how many entries are expanded

module _ (tasks : List AgentTask) (are : AreTeamTasks tasks) (w : World) (team : IsTeamWorld tasks w) (sound : AreStatesSound tasks w) where
  each_count : All (λ r. r.search.expansions ≤ most_expansions) w.agents
  each_count k d h =
      let there : agent_at w (suc k) ≡ Some (get_or w.agents k d) = slice_get-get_or w.agents k d h in
      let is = agent_sound tasks are w team sound (suc k) (get_or w.agents k d) there in
      let within = is.within in
      let most = is.limit in
      omega arith

  few_agents : length w.agents ≤ 16
  few_agents = by w.agents refl
    where
      by : (rs : List AgentRecord) → w.agents ≡ rs → length rs ≤ 16
      by [] is = omega arith
      by (r ∷ rs) is =
          let there : agent_at w 1 ≡ Some r = ap (λ (xs : List AgentRecord). slice_get xs 0) is in
          let fit = limits_of tasks are w team 1 r there in
          let of = member_of tasks (agree_numbered tasks are.agree) w team 1 r there in
          let size = team_size tasks w team in
          let many = of.agents in
          let most = fit.at_most_16_agents in
          let same = ap length is in
          omega arith

  pub few_expansions : expanded_by_all w ≤ 160000000
  few_expansions =
      let all = sum_by-le (λ (r : AgentRecord). r.search.expansions) most_expansions w.agents each_count in
      let few = few_agents in
      omega arith

  pub room_left : AreSmall w → (agent number : ℕ) (e : Entry AgentState) → IsEntryAt w agent number e → e.g + 16000000 + 2 ^ 50 ≤ 2 ^ 53
  room_left small agent number e has =
      let is = small agent number e has in
      let cost = is.cost in
      let few = few_expansions in
      omega arith
