-- Joint states along own actions, and the joint start.
use Rattle.mp_world.proofs.Basics.{◌≡◌, ℕ, ◌+◌, ◌-◌, ◌<◌, ◌⊎◌, Bool, true, false, cond, List, length, map, get_or, Option, Some, None, refl, sym, ap, ◌∙◌, arith, inl, inr, option_and_then, slice_get, slice_set, ◌==◌, enumerate_from, cases_eq, eq-eqb, eqb-true}
use Rattle.mp_world.proofs.Basics.{get_or-set_other, get_or-set_same, length-map, length-set, same_lists, length-enumerate_from}
use Rattle.std.specs.FinSet as set
use Rattle.mp_sets.specs.Numbers.{after}
use Rattle.mp_task.specs.Plan.{after_act, after_if_applies, applies as may_apply}
use Rattle.mp_world.specs.AgentWords.{Act, AgentTask, IsWithinLimits, TaskStep, act_of, after_step, private_of, task_of}
use Rattle.mp_world.specs.SearchWords.{Numbers, AgentState, applies, no_tag, successor}
use Rattle.mp_world.specs.World.{World}
use Rattle.mp_world.specs.Joint.{joint, private_facts, told_by}
use Rattle.mp_team_states.specs.Sound.{IsStateOf}
use Rattle.mp_team_states.proofs.JointStates.{read_place}

module _ (w : World) (t : AgentTask) (limits : IsWithinLimits t) (s : AgentState) (is : IsStateOf w t s) where
  facts : Numbers → List Numbers
  facts mine = map (private_facts w t.me mine) (enumerate_from 1 s.tags)

  many : (mine : Numbers) → length (facts mine) ≡ length s.tags
  unfolding facts
  many mine = length-map (enumerate_from 1 s.tags) (private_facts w t.me mine) ∙ length-enumerate_from 1 s.tags

  fact_at : (mine : Numbers) (i : ℕ) (e : Numbers) → i < length s.tags → get_or (facts mine) i e ≡ private_facts w t.me mine (1 + i, get_or s.tags i no_tag)
  unfolding facts
  fact_at mine i e h = read_place (private_facts w t.me mine) 1 s.tags i no_tag e h

  me_inside : t.me - 1 < length s.tags
  me_inside = let low = limits.from_1 in let high = limits.in_team in let number = is.number in omega arith

  at_me : (mine : Numbers) (e : Numbers) → get_or (facts mine) (t.me - 1) e ≡ mine
  at_me mine e =
      let low = limits.from_1 in
      let me : 1 + (t.me - 1) ≡ t.me = omega arith in
      fact_at mine (t.me - 1) e me_inside
      ∙ ap (λ (b : Bool). cond b mine (told_by w (1 + (t.me - 1), get_or s.tags (t.me - 1) no_tag))) (eq-eqb (1 + (t.me - 1)) t.me me)

  -- the agent's own facts
  pub mine_is : private_of (joint w t.me s) t.me ≡ s.mine
  unfolding facts
  mine_is = at_me s.mine set.empty

  -- other own facts in their place
  with_mine : (mine other : Numbers) → slice_set (facts mine) (t.me - 1) other ≡ facts other
  with_mine mine other =
      same_lists (slice_set (facts mine) (t.me - 1) other) (facts other)
      (length-set (facts mine) (t.me - 1) other ∙ many mine ∙ sym (many other))
      (λ i d h. by i d (let l = length-set (facts mine) (t.me - 1) other in let m = many mine in omega arith) (cases_eq i (t.me - 1)))
    where
      other_place : (i : ℕ) → (i ≡ t.me - 1 → ⊥) → (1 + i == t.me) ≡ false
      other_place i apart = by (1 + i == t.me) refl
        where
          by : (b : Bool) → (1 + i == t.me) ≡ b → b ≡ false
          by true test = absurd (apart (let e = eqb-true (1 + i) t.me test in omega arith))
          by false test = refl

      by : (i : ℕ) (d : Numbers) → i < length s.tags → (i ≡ t.me - 1) ⊎ (i ≡ t.me - 1 → ⊥) → get_or (slice_set (facts mine) (t.me - 1) other) i d ≡ get_or (facts other) i d
      by i d h (inl same) =
          ap (λ (k : ℕ). get_or (slice_set (facts mine) (t.me - 1) other) k d) same
          ∙ get_or-set_same (facts mine) (t.me - 1) other d (let l = many mine in let m = me_inside in omega arith)
          ∙ sym (ap (λ (k : ℕ). get_or (facts other) k d) same ∙ at_me other d)
      by i d h (inr apart) =
          let test = other_place i apart in
          get_or-set_other (facts mine) (t.me - 1) i other d apart ∙ fact_at mine i d h
          ∙ (λ j. cond (test j) mine (told_by w (1 + i, get_or s.tags i no_tag))) ∙ (λ j. cond (sym test j) other (told_by w (1 + i, get_or s.tags i no_tag)))
          ∙ sym (fact_at other i d h)

  -- an own action leads from joint state to joint state
  pub action_leads : (tasks : List AgentTask) (action : ℕ) (act : Act) → task_of tasks t.me ≡ Some t → slice_get t.acts action ≡ Some act → applies act s ≡ true
      → after_step tasks (joint w t.me s) (record { agent = t.me; action = action }) ≡ Some (joint w t.me (successor act s))
  unfolding facts
  action_leads tasks action act at own may =
      let step : TaskStep = record { agent = t.me; action = action } in
      let this : act_of tasks step ≡ Some act = ap (λ (o : Option AgentTask). option_and_then (λ t. slice_get t.acts action) o) at ∙ own in
      let before = joint w t.me s in
      let allowed : may_apply act before.publics (private_of before t.me) ≡ true = ap (λ (x : Numbers). may_apply act s.publics x) mine_is ∙ may in
      let mine = after s.mine act.del_priv act.add_priv in
      let privates : slice_set before.privates (t.me - 1) (after (private_of before t.me) act.del_priv act.add_priv) ≡ facts mine =
      ap (λ (x : Numbers). slice_set before.privates (t.me - 1) (after x act.del_priv act.add_priv)) mine_is ∙ with_mine s.mine mine
      in
      ap (λ (o : Option Act). option_and_then (after_if_applies before t.me) o) this
      ∙ (λ j. cond (allowed j) (Some (after_act before t.me act)) None)
      ∙ (λ j. Some (record { publics = after s.publics act.del_pub act.add_pub; privates = privates j }))
