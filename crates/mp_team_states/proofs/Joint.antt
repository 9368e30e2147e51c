-- What an agent's state says of the joint state that it is: whom it concerns, what may be seen, and what own actions lead to.
use Rattle.mp_world.proofs.Basics.{◌≡◌, ◌≢◌, ℕ, zero, suc, ◌+◌, ◌-◌, ◌<◌, ◌≤◌, ◌⊎◌, Bool, true, false, cond, ◌&&◌, length, get_or, Option, Some, refl, sym, ap, subst, ◌∙◌, arith, inl, inr, Contains, IfSome, IsTrue, filter, not, ◌==◌, enumerate_from, range_with_len}
use Rattle.mp_world.proofs.Basics.{and_from, and_parts, eq-eqb, false≢true, ne_eqb, length-map, Contains-get_or, get_or-enumerate_from, get_or-range_with_len, length-enumerate_from}
use Rattle.std.specs.FinSet as set
use Rattle.std.proofs.lemmas.Bool.{not_from_false, or_left, or_right}
use Rattle.std.proofs.lemmas.List.FromFn.{length-range_with_len}
use Rattle.mp_list.proofs.Members.{any_from}
use Rattle.mp_task.specs.declared.act.Far.{Far}
use Rattle.mp_task.specs.Public.{is_public}
use Rattle.mp_store.proofs.RankLemmas.{member_kept, member_passes}
use Rattle.mp_search.specs.Concern.{concerns, is_receiver, is_unmet, is_visible, may_act}
use Rattle.mp_reach.specs.LeadsOn.{Concerns, IsVisible}
use Rattle.mp_world.specs.AgentWords.{Act, AgentTask, IsWithinLimits, is_met, private_of, AgentRecord}
use Rattle.mp_world.specs.SearchWords.{holds, AgentState, no_tag, successor, receivers, is_due}
use Rattle.mp_world.specs.World.{World, agent_at}
use Rattle.mp_world.specs.Joint.{joint, private_facts, told_by}
use Rattle.mp_team_states.specs.Sound.{IsTold, tag_of}
use Rattle.mp_team_states.proofs.JointStates.{read_place}

-- ---- the agents that a state is for

-- a receiver is another agent of the team
pub record IsReceiver (t : AgentTask) (agent : ℕ) : Type 0 where
  pub from_1 : 1 ≤ agent
  pub in_team : agent ≤ t.agents
  pub another : agent ≢ t.me

pub not_equal : (a b : ℕ) → not (a == b) ≡ true → a ≢ b
not_equal a b test same = false≢true (sym (ap not (eq-eqb a b same)) ∙ test)

-- numbers of the team's agents but the own
pub listed_is : (t : AgentTask) (p : ℕ → Bool) (agent : ℕ) → (p agent ≡ true → agent ≢ t.me) → Contains (filter p (range_with_len 1 t.agents)) agent
    → IsReceiver t agent
listed_is t p agent other here =
    let both = member_passes p (range_with_len 1 t.agents) agent here in
    let place = both.0 in
    let many = length-range_with_len 1 t.agents in
    let inside : place.0 < t.agents = let lt = place.1 in omega arith in
    let number : 1 + place.0 ≡ agent = sym (get_or-range_with_len 1 t.agents place.0 agent inside) ∙ place.2 in
    record { from_1 = omega arith; in_team = omega arith; another = other both.1 }

pub receiver_is : (t : AgentTask) (s : AgentState) (agent : ℕ) → Contains (receivers t s) agent → IsReceiver t agent
receiver_is t s agent =
    listed_is t (is_receiver t s) agent (λ test. not_equal agent t.me (and_parts (not (agent == t.me)) (concerns t s agent) test).0)

pub is_among_receivers : (t : AgentTask) (s : AgentState) (agent : ℕ) → 1 ≤ agent → agent ≤ t.agents → is_receiver t s agent ≡ true → Contains (receivers t s) agent
is_among_receivers t s agent low high test =
    let many = length-range_with_len 1 t.agents in
    let back : 1 + (agent - 1) ≡ agent = omega arith in
    let number : get_or (range_with_len 1 t.agents) (agent - 1) agent ≡ agent = get_or-range_with_len 1 t.agents (agent - 1) agent (omega arith) ∙ back in
    member_kept (is_receiver t s) (range_with_len 1 t.agents) agent (agent - 1, omega arith, number) test

module _ (w : World) (t : AgentTask) (limits : IsWithinLimits t) (s : AgentState) (number : length s.tags ≡ t.agents) where
  -- the own facts
  pub own_private : private_of (joint w t.me s) t.me ≡ s.mine
  own_private =
      let low = limits.from_1 in
      let high = limits.in_team in
      let me : 1 + (t.me - 1) ≡ t.me = omega arith in
      read_place (private_facts w t.me s.mine) 1 s.tags (t.me - 1) no_tag set.empty (omega arith)
      ∙ ap (λ (b : Bool). cond b s.mine (told_by w (1 + (t.me - 1), get_or s.tags (t.me - 1) no_tag))) (eq-eqb (1 + (t.me - 1)) t.me me)

  -- those of another agent
  pub other_private : (agent : ℕ) → 1 ≤ agent → agent ≤ t.agents → agent ≢ t.me → private_of (joint w t.me s) agent ≡ told_by w (agent, tag_of s.tags agent)
  other_private agent low high other =
      let back : 1 + (agent - 1) ≡ agent = omega arith in
      read_place (private_facts w t.me s.mine) 1 s.tags (agent - 1) no_tag set.empty (omega arith)
      ∙ ap (λ (a : ℕ). private_facts w t.me s.mine (a, tag_of s.tags agent)) back
      ∙ ap (λ (b : Bool). cond b s.mine (told_by w (agent, tag_of s.tags agent))) (ne_eqb agent t.me other)

  pub joint_size : length (joint w t.me s).privates ≡ t.agents
  joint_size = length-map (enumerate_from 1 s.tags) (private_facts w t.me s.mine) ∙ length-enumerate_from 1 s.tags ∙ number

  -- a tag stands at its agent's place
  pub tag_there : (agent : ℕ) → 1 ≤ agent → agent ≤ t.agents → Contains (enumerate_from 1 s.tags) (agent, tag_of s.tags agent)
  tag_there agent low high =
      let back : 1 + (agent - 1) ≡ agent = omega arith in
      let inside : agent - 1 < length s.tags = omega arith in
      let many = length-enumerate_from 1 s.tags in
      let at : get_or (enumerate_from 1 s.tags) (agent - 1) (1, no_tag) ≡ (agent, tag_of s.tags agent) =
      get_or-enumerate_from 1 s.tags (agent - 1) (1, no_tag) inside ∙ ap (λ (a : ℕ). (a, tag_of s.tags agent)) back
      in
      subst (Contains (enumerate_from 1 s.tags)) at (Contains-get_or (enumerate_from 1 s.tags) (agent - 1) (1, no_tag) (omega arith))

  module _ (others : (agent : ℕ) → 1 ≤ agent → agent ≤ t.agents → agent ≢ t.me → IsTold w agent (tag_of s.tags agent)) where
    -- what a tag says of an agent's private goals is so
    pub met_is : (u : AgentRecord) (agent : ℕ) → 1 ≤ agent → agent ≤ t.agents → agent ≢ t.me → agent_at w agent ≡ Some u
        → (tag_of s.tags agent).met ≡ is_met u.task (private_of (joint w t.me s) agent)
    met_is u agent low high other there =
        let told = others agent low high other in
        subst (λ (o : Option AgentRecord). IfSome o (λ r. (tag_of s.tags agent).met ≡ is_met r.task (told_by w (agent, tag_of s.tags agent)))) there told.byte
        ∙ ap (is_met u.task) (sym (other_private agent low high other))

    unmet_is : (u : AgentRecord) (agent : ℕ) → 1 ≤ agent → agent ≤ t.agents → agent ≢ t.me → agent_at w agent ≡ Some u
        → ¬ IsTrue (is_met u.task (private_of (joint w t.me s) agent)) → is_unmet agent s ≡ true
    unmet_is u agent low high other there unmet =
        any_from (λ x. x.0 == agent && not x.1.met) (enumerate_from 1 s.tags) (agent, tag_of s.tags agent) (tag_there agent low high)
        (and_from (agent == agent) (not (tag_of s.tags agent).met) (eq-eqb agent agent refl)
        (by (tag_of s.tags agent).met (met_is u agent low high other there)))
      where
        by : (b : Bool) → b ≡ is_met u.task (private_of (joint w t.me s) agent) → not b ≡ true
        by true same = absurd (unmet (sym same))
        by false same = refl

    -- a state goes to each agent that it concerns
    pub concerned_is_receiver : (other : AgentTask) (u : AgentRecord) → 1 ≤ other.me → other.me ≤ t.agents → agent_at w other.me ≡ Some u → u.task ≡ other
        → Concerns t other (joint w t.me s) → Contains (receivers t s) other.me
    concerned_is_receiver other u low high there same concern =
        is_among_receivers t s other.me low high
        (and_from (not (other.me == t.me)) (concerns t s other.me) (not_from_false (other.me == t.me) (ne_eqb other.me t.me concern.another)) (by concern.because))
      where
        by : ((part : Far) × Contains t.far part × (part.by ≡ other.me) × IsTrue (holds s.publics part.pre)) ⊎ ¬ IsTrue (is_met other (private_of (joint w t.me s) other.me))
            → concerns t s other.me ≡ true
        by (inl part) =
            or_left (may_act t other.me s) (is_unmet other.me s)
            (any_from (λ p. p.by == other.me && holds s.publics p.pre) t.far part.0 part.1
            (and_from (part.0.by == other.me) (holds s.publics part.0.pre) (eq-eqb part.0.by other.me part.2) part.3))
        by (inr unmet) =
            or_right (may_act t other.me s) (is_unmet other.me s)
            (unmet_is u other.me low high concern.another there
            (subst (λ (v : AgentTask). ¬ IsTrue (is_met v (private_of (joint w t.me s) other.me))) (sym same) unmet))

  -- what may be seen of an own action
  pub visible_is : (act : Act) → IsVisible t act (joint w t.me s) (joint w t.me (successor act s)) → private_of (joint w t.me (successor act s)) t.me ≡ (successor act s).mine
      → is_visible t act s (successor act s) ≡ true
  visible_is act visible mine = by visible
    where
      by : IsTrue (is_public act) ⊎ (¬ IsTrue (is_met t (private_of (joint w t.me s) t.me)) × IsTrue (is_met t (private_of (joint w t.me (successor act s)) t.me)))
          → is_visible t act s (successor act s) ≡ true
      by (inl public) = or_left (is_public act) (not (is_met t s.mine) && is_met t (successor act s).mine) public
      by (inr newly) =
          or_right (is_public act) (not (is_met t s.mine) && is_met t (successor act s).mine)
          (and_from (not (is_met t s.mine)) (is_met t (successor act s).mine)
          (unmet (is_met t s.mine) (λ met. newly.0 (ap (is_met t) own_private ∙ met)))
          (ap (is_met t) (sym mine) ∙ newly.1))
        where
          unmet : (b : Bool) → (b ≡ true → ⊥) → not b ≡ true
          unmet true no_ = absurd (no_ refl)
          unmet false no_ = refl

-- where there is a receiver, there is one
pub some_receiver : (t : AgentTask) (act : Act) (s reached : AgentState) (agent : ℕ) → is_visible t act s reached ≡ true → Contains (receivers t reached) agent → is_due t act s reached ≡ true
some_receiver t act s reached agent visible here =
    and_from (is_visible t act s reached) (not (length (receivers t reached) == 0)) visible
    (by (length (receivers t reached)) here.1)
  where
    by : (n : ℕ) → here.0 < n → not (n == 0) ≡ true
    by zero lt = absurd (omega arith)
    by (suc n) lt = not_from_false (suc n == 0) (ne_eqb (suc n) 0 (λ same. omega arith))
