-- A state that an agent knows and that is a goal state is a joint state in which all goals of the team hold.
use Rattle.mp_world.proofs.Basics.{◌≡◌, ℕ, ◌+◌, ◌-◌, ◌<◌, ◌⊎◌, Bool, true, false, ◌&&◌, List, length, get_or, Option, Some, sym, ap, subst, ◌∙◌, arith, inl, inr, Contains, IfSome, ◌==◌, ◌||◌, if◌then◌else◌, enumerate_from, and_parts, cases_eq, eqb-true}
use Rattle.mp_world.proofs.Basics.{false_from_ne_true, false≢true, All-contains, get_or_default, get_or-enumerate_from, length-enumerate_from, AllPass-from_list_all}
use Rattle.std.specs.FinSet as set
use Rattle.std.proofs.lemmas.List.Sums.{list_all-from_AllPass}
use Rattle.mp_task.proofs.Agreeing.{same_number}
use Rattle.mp_search.specs.AgentState.{others_are_met}
use Rattle.mp_world.specs.AgentWords.{AgentTask, IsWithinLimits, is_met, goals_hold, private_of, AgentRecord}
use Rattle.mp_world.specs.SearchWords.{Tag, holds, AgentState, is_goal_state, no_tag}
use Rattle.mp_world.specs.Joint.{joint, private_facts, told_by}
use Rattle.mp_world.specs.Team.{AreTeamTasks}
use Rattle.mp_world.specs.World.{IsTeamWorld, World, agent_at}
use Rattle.mp_world.proofs.Agents.{agree_numbered, member_of, task_there}
use Rattle.mp_team_states.specs.Sound.{IsStateOf, IsTold, tag_of}
use Rattle.mp_team_states.proofs.GoodStates.{own_facts}
use Rattle.mp_team_states.proofs.JointStates.{read_place}

module _ (tasks : List AgentTask) (are : AreTeamTasks tasks) (w : World) (team : IsTeamWorld tasks w) (agent : ℕ) (r : AgentRecord)
    (there : agent_at w agent ≡ Some r) (s : AgentState) (is : IsStateOf w r.task s) (goal : is_goal_state r.task s ≡ true) where
  me : r.task.me ≡ agent
  me = (member_of tasks (agree_numbered tasks are.agree) w team agent r there).me

  mine : Contains tasks r.task
  mine = (member_of tasks (agree_numbered tasks are.agree) w team agent r there).task

  parts : (holds s.publics r.task.goal_pub ≡ true) × (is_met r.task s.mine ≡ true) × (others_are_met r.task s ≡ true)
  parts =
      let a = and_parts (holds s.publics r.task.goal_pub) (is_met r.task s.mine && others_are_met r.task s) goal in
      let b = and_parts (is_met r.task s.mine) (others_are_met r.task s) a.1 in
      (a.0, b.0, b.1)

  -- the tag of another agent says that its goals hold
  met_at : (k : ℕ) → k < length s.tags → (1 + k ≡ r.task.me → ⊥) → (get_or s.tags k no_tag).met ≡ true
  met_at k inside other =
      let long = length-enumerate_from 1 s.tags in
      let at = get_or-enumerate_from 1 s.tags k (1, no_tag) inside in
      let passes = AllPass-from_list_all (λ (x : ℕ × Tag). x.0 == r.task.me || x.1.met) (enumerate_from 1 s.tags) parts.2 k (1, no_tag) (omega arith) in
      right (1 + k == r.task.me) (get_or s.tags k no_tag).met (ap (λ (x : ℕ × Tag). x.0 == r.task.me || x.1.met) (sym at) ∙ passes)
      (false_from_ne_true (1 + k == r.task.me) (λ same. other (eqb-true (1 + k) r.task.me same)))
    where
      right : (p q : Bool) → (p || q) ≡ true → p ≡ false → q ≡ true
      right true q either no_p = absurd (false≢true (sym no_p))
      right false q either no_p = either

  -- the private goals of each agent hold
  each_met : (t : AgentTask) → Contains tasks t → is_met t (private_of (joint w agent s) t.me) ≡ true
  each_met t here = by (cases_eq t.me agent)
    where
      by : (t.me ≡ agent) ⊎ (t.me ≡ agent → ⊥) → is_met t (private_of (joint w agent s) t.me) ≡ true
      by (inl same) =
          let one : t ≡ r.task = same_number tasks are.agree.numbered t r.task here mine (same ∙ sym me) in
          (λ j. is_met (one j) (private_of (joint w agent s) (same j))) ∙ ap (is_met r.task) (own_facts tasks are w team agent r there s is) ∙ parts.1
      by (inr other) =
          let fit = All-contains IsWithinLimits tasks t are.within here in
          let low = fit.from_1 in
          let in_team = fit.in_team in
          let agents = All-contains (λ (t : AgentTask). t.agents ≡ length tasks) tasks t (agree_numbered tasks are.agree).team here in
          let many = is.number in
          let team_size = (member_of tasks (agree_numbered tasks are.agree) w team agent r there).agents in
          let inside : t.me - 1 < length s.tags = omega arith in
          let place : 1 + (t.me - 1) ≡ t.me = omega arith in
          let tag = tag_of s.tags t.me in
          let told : IsTold w t.me tag = is.others t.me low (omega arith) (λ same. other (same ∙ me)) in
          let who = task_there tasks (agree_numbered tasks are.agree) w team t here in
          let byte : tag.met ≡ is_met who.0.task (told_by w (t.me, tag)) =
          subst (λ (o : Option AgentRecord). IfSome o (λ r. tag.met ≡ is_met r.task (told_by w (t.me, tag)))) who.1 told.byte in
          let facts : private_of (joint w agent s) t.me ≡ told_by w (t.me, tag) =
          read_place (private_facts w agent s.mine) 1 s.tags (t.me - 1) no_tag set.empty inside
          ∙ ap (λ (i : ℕ). private_facts w agent s.mine (i, tag)) place
          ∙ ap (λ (b : Bool). if b then s.mine else told_by w (t.me, tag)) (false_from_ne_true (t.me == agent) (λ same. other (eqb-true t.me agent same))) in
          ap (is_met t) facts ∙ ap (λ (u : AgentTask). is_met u (told_by w (t.me, tag))) (sym who.2) ∙ sym byte
          ∙ met_at (t.me - 1) inside (λ same. other (sym place ∙ same ∙ me))

  pub all_hold : goals_hold tasks (joint w agent s) ≡ true
  all_hold =
      list_all-from_AllPass (λ (t : AgentTask). holds s.publics t.goal_pub && is_met t (private_of (joint w agent s) t.me)) tasks
      (λ k d inside.
      let t = get_or tasks k d in
      let here : Contains tasks t = (k, inside, get_or_default tasks k t d inside) in
      let publics : holds s.publics t.goal_pub ≡ true = ap (holds s.publics) (are.agree.alike t r.task here mine).goal_pub ∙ parts.0 in
      λ j. publics j && each_met t here j)
