-- At the start each agent's entry is that of the joint start.
use Rattle.mp_world.proofs.Basics.{◌≡◌, ℕ, zero, suc, ◌+◌, ◌-◌, ◌<◌, ◌⊎◌, Bool, true, false, cond, List, [], length, map, get_or, Option, Some, None, refl, sym, ap, subst, ◌∙◌, arith, inl, inr, Contains, option_map, slice_get, ◌==◌, enumerate_from, eqb-false}
use Rattle.mp_world.proofs.Basics.{eqb-true, get_or-map, length-map, same_lists, length-enumerate_from, All-contains, get_or_from_slice_get, none-some, same_Some, slice_get-map, slice_get_within}
use Rattle.std.specs.FinSet as set
use Rattle.mp_runs.proofs.Runs.{run-none}
use Rattle.mp_task.specs.Plan.{public_start}
use Rattle.mp_task.proofs.Agreeing.{Contains-slice_get, number_at, public_start-at, same_number}
use Rattle.mp_search.specs.AgentState.{start_tag}
use Rattle.mp_world.specs.AgentWords.{FitsTeam, AgentTask, IsWithinLimits, JointState, after_step, joint_start, task_of, AgentRecord, new_record}
use Rattle.mp_world.specs.SearchWords.{Tag, Entry, empty, AgentState, no_tag, start_state, start_record, tokens_given}
use Rattle.mp_world.specs.Team.{IsTeam, Team}
use Rattle.mp_world.specs.World.{World, agent_at, start_world}
use Rattle.mp_world.specs.Joint.{joint, private_facts, sets_of, told_by}
use Rattle.mp_team_states.specs.Paths.{AreReached, IsEntryAt, IsReached}
use Rattle.mp_team_states.specs.Paths.IsPath.{at_root}
use Rattle.mp_team_states.proofs.Entries.{IsNew, IsOld, changes_entry}
use Rattle.mp_team_states.proofs.Expanding.{IsFirst, start_changes}
use Rattle.mp_team_states.proofs.JointStates.{read_place, tag_at}
use Rattle.mp_team_states.proofs.ReachedEntries.{has_it}
use Rattle.mp_team_states.proofs.Received.{tag_other}
use Rattle.mp_team_states.proofs.StartSound.{first_given, some_item, state, there}
use Rattle.mp_team_states.proofs.WorldsGrow.{sets_at}

module _ (team : Team) (is_team : IsTeam team) where
  open team use {tasks, value, limit}

  abbrev w : World
  w = start_world team

  agent_is : (agent : ℕ) (t : AgentTask) → task_of tasks agent ≡ Some t → agent_at w agent ≡ Some (new_record t (value t) limit)
  agent_is agent t at = there team is_team agent t at

  -- what token 0 of an agent stands for
  first_set : (k : ℕ) (u : AgentTask) → slice_get tasks k ≡ Some u → (tag : Tag) → tag.token ≡ 0 → told_by w (suc k, tag) ≡ set.from_list u.start_priv
  first_set k u at tag zero_token =
      let r = new_record u (value u) limit in
      let sets : sets_of w (suc k) ≡ tokens_given u r.search.kept = sets_at w (suc k) r (agent_is (suc k) u at) in
      (λ j. get_or (sets j) (zero_token j) set.empty) ∙ (first_given u r.search.kept).1

  module _ (agent : ℕ) (t : AgentTask) (at : task_of tasks agent ≡ Some t) where
    in_team : (a : ℕ) → task_of tasks a ≡ Some t → Contains tasks t × (t.me ≡ a)
    in_team zero at = absurd (none-some t at)
    in_team (suc k) at =
        let here = Contains-slice_get tasks k t at in
        (here, number_at tasks is_team.tasks.agree.numbered k t (slice_get_within tasks k t at) (get_or_from_slice_get tasks k t t at))

    pub here : Contains tasks t
    here = (in_team agent at).0

    me : t.me ≡ agent
    me = (in_team agent at).1

    fit : IsWithinLimits t
    fit = All-contains IsWithinLimits tasks t is_team.tasks.within here

    size : t.agents ≡ length tasks
    size = (All-contains (FitsTeam tasks) tasks t is_team.tasks.agree.team here).agents

    tags : List Tag
    tags = (start_state t).tags

    many : length tags ≡ length tasks
    unfolding tags
    many = (state team is_team agent t at).number ∙ size

    other_token : (i : ℕ) → i < length tags → (1 + i ≡ t.me → ⊥) → (get_or tags i no_tag).token ≡ 0
    unfolding tags
    other_token i h other =
        let size_is = size in
        let length_is = many in
        let place : 1 + i - 1 ≡ i = omega arith in
        let flags = fit.a_flag_each in
        ap (λ (x : Tag). x.token)
        (tag_at tags i no_tag h ∙ tag_other (map start_tag t.met) t.me (1 + i) no_tag fit.from_1 (omega arith) other
        ∙ ap (λ (k : ℕ). get_or (map start_tag t.met) k no_tag) place ∙ get_or-map start_tag t.met i false no_tag (omega arith))

    privates : map (private_facts w t.me (set.from_list t.start_priv)) (enumerate_from 1 tags) ≡ map (λ u. set.from_list u.start_priv) tasks
    privates =
        let mine = set.from_list t.start_priv in
        let facts = map (private_facts w t.me mine) (enumerate_from 1 tags) in
        let long : length facts ≡ length tags = length-map (enumerate_from 1 tags) (private_facts w t.me mine) ∙ length-enumerate_from 1 tags in
        same_lists facts (map (λ u. set.from_list u.start_priv) tasks) (long ∙ many ∙ sym (length-map tasks (λ (u : AgentTask). set.from_list u.start_priv)))
        (λ i d h.
        let inside : i < length tags = omega arith in
        let in_tasks : i < length tasks = let m = many in omega arith in
        let found = some_item tasks i in_tasks in
        let u = found.0 in
        let start : get_or (map (λ (u : AgentTask). set.from_list u.start_priv) tasks) i d ≡ set.from_list u.start_priv =
        get_or-map (λ (u : AgentTask). set.from_list u.start_priv) tasks i u d in_tasks ∙ ap (λ (u : AgentTask). set.from_list u.start_priv) (get_or_from_slice_get tasks i u u found.1)
        in
        read_place (private_facts w t.me mine) 1 tags i no_tag d inside ∙ by i u inside found.1 (1 + i == t.me) refl ∙ sym start)
      where
        by : (i : ℕ) (u : AgentTask) → i < length tags → slice_get tasks i ≡ Some u → (b : Bool) → (1 + i == t.me) ≡ b
            → cond b (set.from_list t.start_priv) (told_by w (1 + i, get_or tags i no_tag)) ≡ set.from_list u.start_priv
        by i u inside found true test =
            let mine = eqb-true (1 + i) t.me test in
            let there_too = Contains-slice_get tasks i u found in
            let number = number_at tasks is_team.tasks.agree.numbered i u (slice_get_within tasks i u found) (get_or_from_slice_get tasks i u u found) in
            ap (λ (x : AgentTask). set.from_list x.start_priv) (same_number tasks is_team.tasks.agree.numbered t u here there_too (omega arith))
        by i u inside found false test =
            let next : 1 + i ≡ suc i = omega arith in
            ap (λ (a : ℕ). told_by w (a, get_or tags i no_tag)) next
            ∙ first_set i u found (get_or tags i no_tag) (other_token i inside (eqb-false (1 + i) t.me test))

    start_is_joint : joint w agent (start_state t) ≡ joint_start tasks
    unfolding tags
    start_is_joint =
        let publics : public_start tasks ≡ set.from_list t.start_pub =
        public_start-at tasks t here (λ u there_too. (is_team.tasks.agree.alike u t there_too here).start_pub)
        in
        ap (λ (a : ℕ). joint w a (start_state t)) (sym me) ∙ (λ j. record { publics = sym publics j; privates = privates j })

    first_reached : (n : ℕ) (e : Entry AgentState) → slice_get (start_record t (value t)).kept.entries n ≡ Some e → IsEntryAt w agent n e → IsReached tasks w agent n e
    first_reached n e found has =
        by (changes_entry (IsFirst t (value t)) t empty (start_record t (value t)).kept [] (start_changes t (value t)) n e found)
      where
        by : IsOld empty n e ⊎ IsNew (IsFirst t (value t)) t (start_record t (value t)).kept n e → IsReached tasks w agent n e
        by (inl old) = absurd (none-some old.old old.there)
        by (inr new) = record {
          steps = [];
          path = at_root agent n e has (new.alike.origin ∙ new.comes.origin);
          leads =
              run-none (after_step tasks) (joint_start tasks)
              ∙ ap (λ (s : JointState). Some s) (sym start_is_joint)
              ∙ ap (λ (k : AgentState). Some (joint w agent k)) (sym (new.alike.key ∙ new.comes.key));
          cost = sym (new.alike.g ∙ new.comes.g);
        }

  pub task_is : (agent : ℕ) (r : AgentRecord) → agent_at w agent ≡ Some r → (t : AgentTask) × (task_of tasks agent ≡ Some t) × (r ≡ new_record t (value t) limit)
  task_is zero r is = absurd (none-some r is)
  task_is (suc k) r is = by (slice_get tasks k) refl (sym (slice_get-map (λ (t : AgentTask). new_record t (value t) limit) tasks k) ∙ is)
    where
      by : (o : Option AgentTask) → slice_get tasks k ≡ o → option_map (λ (t : AgentTask). new_record t (value t) limit) o ≡ Some r
          → (t : AgentTask) × (slice_get tasks k ≡ Some t) × (r ≡ new_record t (value t) limit)
      by None at is = absurd (none-some r is)
      by (Some t) at is = (t, at, sym (same_Some (new_record t (value t) limit) r is))

  pub start_reaches : AreReached tasks (start_world team)
  start_reaches agent n e has =
      let h = has_it w agent n e has in
      let found = task_is agent h.agent_is h.there in
      first_reached agent found.0 found.1 n e (subst (λ (r : AgentRecord). slice_get r.search.kept.entries n ≡ Some e) found.2 h.at) has
