-- No failure is found exactly where a certificate shows that no plan is cheaper.
use Rattle.std.proofs.Common.{◌≡◌, ℕ, zero, suc, ◌+◌, ◌≤◌, Bool, true, false, cond, not, ◌&&◌, ◌||◌, eqb, ltb, List, [], Option, Some, None, slice_get, refl, sym, ap, ◌∙◌, subst, inl, inr, ◌⊎◌, true≢false, eqb-true, eq-eqb, ne_eqb, arith}
use Rattle.std.proofs.lemmas.Bool.{false_from_ne_true, and_parts, and_from, or_cases, or_left, or_right, ltb-false, le-ltb}
use Rattle.std.proofs.lemmas.Option.{none-some, slice_get-get_or, slice_get_within, get_or_from_slice_get}
use Rattle.std.specs.List.{Contains, enumerate_from, flat_map, list_any}
use Rattle.std.specs.Option.{option_and_then, option_map_or}
use Rattle.mp_list.proofs.Members.{any_from, some_member}
use Rattle.mp_sets.specs.Numbers.{holds}
use Rattle.mp_task.specs.declared.act.Act.{Act}
use Rattle.mp_task.specs.declared.act.Far.{Far}
use Rattle.mp_task.specs.AgentTask.{AgentTask}
use Rattle.mp_task.specs.Agreement.{AreNumbered}
use Rattle.mp_task.specs.Met.{is_met}
use Rattle.mp_task.specs.Plan.{JointState, TaskStep, after_act, applies, goals_hold, private_of, task_of}
use Rattle.mp_task.specs.Public.{is_public}
use Rattle.mp_task.proofs.Agreeing.{Contains-slice_get, number_at}
use Rattle.mp_order.specs.Ordered.{TakesStep}
use Rattle.mp_reach.specs.LeadsOn.{Known, Concerns, IsVisible, LeadsOn, IsGoal, IsRoot, any_action}
use Rattle.mp_reach.specs.LeadsOn.LeadsOn.{alone, to_another}
use Rattle.mp_audit.specs.declared.certificate.Bound.{Bound}
use Rattle.mp_audit.specs.declared.verdict.AuditVerdict.{AuditVerdict}
use Rattle.mp_audit.specs.declared.verdict.AuditVerdict.TheVariants.{Goal}
use Rattle.mp_audit.specs.Audited.{bound_of, known_of, state_of}
use Rattle.mp_audit.specs.Failures.{failure_if, root_of, low_start, low_starts, concerns, is_visible, cheap_in, cheap_in_other, cheap_leads, cheap_steps, cheap_acts, entry_failures, all_entry_failures}
use Rattle.mp_audit.proofs.EmptyLemmas.{parts_empty, both_empty, each_empty, all_empty, numbered_has, numbered_is}

-- a failure comes exactly where its test passes
fails_not : (b : Bool) (v : AuditVerdict) → failure_if b v ≡ [] → b ≡ false
fails_not true v e = absurd (cc)
fails_not false v e = refl

no_failure : (b : Bool) (v : AuditVerdict) → b ≡ false → failure_if b v ≡ []
no_failure b v e = ap (λ (t : Bool). failure_if t v) e

not_below : (a b : ℕ) (v : AuditVerdict) → failure_if (ltb a b) v ≡ [] → b ≤ a
not_below a b v e = ltb-false a b (fails_not (ltb a b) v e)

is_not_below : (a b : ℕ) (v : AuditVerdict) → b ≤ a → failure_if (ltb a b) v ≡ []
is_not_below a b v le = no_failure (ltb a b) v (le-ltb a b le)

if_passes : {X : Type 0} (b : Bool) (xs : List X) → b ≡ true → cond b xs [] ≡ [] → xs ≡ []
if_passes true xs p e = e
if_passes false xs p e = absurd (cc)

empty_if : {X : Type 0} (b : Bool) (xs : List X) → (b ≡ true → xs ≡ []) → cond b xs [] ≡ []
empty_if true xs h = h refl
empty_if false xs h = refl

from_0 : (n : ℕ) → 0 + n ≡ n
from_0 n = omega arith

-- what a test of a visible step, and of concern, says
visible_is : (t : AgentTask) (act : Act) (s reached : JointState) → is_visible t act s reached ≡ true → IsVisible t act s reached
visible_is t act s reached h =
    let met : Bool = is_met t (private_of s t.me) in
    elim (or_cases (is_public act) (not met && is_met t (private_of reached t.me)) h) [
      | inl public ↦ inl public
      | inr newly ↦
          let parts = and_parts (not met) (is_met t (private_of reached t.me)) newly in
          inr ((λ is. true≢false (sym parts.0 ∙ ap not is)), parts.1)
    ]

is_visible_from : (t : AgentTask) (act : Act) (s reached : JointState) → IsVisible t act s reached → is_visible t act s reached ≡ true
is_visible_from t act s reached (inl public) = or_left (is_public act) _ public
is_visible_from t act s reached (inr newly) =
    or_right (is_public act) _
    (and_from (not (is_met t (private_of s t.me))) (is_met t (private_of reached t.me))
    (ap not (false_from_ne_true (is_met t (private_of s t.me)) newly.0)) newly.1)

concerns_is : (t other : AgentTask) (s : JointState) → concerns t other s ≡ true → Concerns t other s
concerns_is t other s h =
    let may : Far → Bool = λ part. eqb part.by other.me && holds s.publics part.pre in
    let parts = and_parts (not (eqb other.me t.me)) (list_any may t.far || not (is_met other (private_of s other.me))) h in
    record {
      another = λ same. true≢false (sym parts.0 ∙ ap (λ (b : Bool). not b) (eq-eqb other.me t.me same));
      because = elim (or_cases (list_any may t.far) (not (is_met other (private_of s other.me))) parts.1) [
        | inl acts ↦
            let found = some_member may t.far acts in
            let tests = and_parts (eqb found.0.by other.me) (holds s.publics found.0.pre) found.2 in
            inl (found.0, found.1, eqb-true found.0.by other.me tests.0, tests.1)
        | inr unmet ↦ inr (λ is. true≢false (sym unmet ∙ ap not is))
      ];
    }

concerns_from : (t other : AgentTask) (s : JointState) → Concerns t other s → concerns t other s ≡ true
concerns_from t other s c =
    let may : Far → Bool = λ part. eqb part.by other.me && holds s.publics part.pre in
    and_from (not (eqb other.me t.me)) (list_any may t.far || not (is_met other (private_of s other.me)))
    (ap not (ne_eqb other.me t.me c.another))
    (because c.because)
  where
    because : ((part : Far) × Contains t.far part × (part.by ≡ other.me) × (holds s.publics part.pre ≡ true)) ⊎ ¬ (is_met other (private_of s other.me) ≡ true)
        → (list_any (λ (part : Far). eqb part.by other.me && holds s.publics part.pre) t.far || not (is_met other (private_of s other.me))) ≡ true
    because (inl (part, there, by, pre)) =
        or_left (list_any (λ (p : Far). eqb p.by other.me && holds s.publics p.pre) t.far) _
        (any_from (λ (p : Far). eqb p.by other.me && holds s.publics p.pre) t.far part there
        (and_from (eqb part.by other.me) (holds s.publics part.pre) (eq-eqb part.by other.me by) pre))
    because (inr unmet) =
        or_right (list_any (λ (p : Far). eqb p.by other.me && holds s.publics p.pre) t.far) _
        (ap not (false_from_ne_true (is_met other (private_of s other.me)) unmet))

module _ (tasks : List AgentTask) (are : AreNumbered tasks) (bounds : List Bound) where
  -- the task of an agent
  task_at : (t : AgentTask) → Contains tasks t → task_of tasks t.me ≡ Some t
  task_at t here =
      let number : t.me ≡ suc here.0 = number_at tasks are.numbered here.0 t here.1 here.2 in
      ap (task_of tasks) number ∙ slice_get-get_or tasks here.0 t here.1 ∙ ap (λ (u : AgentTask). Some u) here.2

  -- ---- from no failure: along each lead the bound falls by no more than is paid

  module _ (none : all_entry_failures tasks bounds ≡ []) where
    entry_none : (b : Bound) (here : Contains bounds b) → entry_failures tasks bounds (1 + here.0) b ≡ []
    entry_none b here =
        each_empty (λ (numbered : ℕ × Bound). entry_failures tasks bounds numbered.0 numbered.1) (enumerate_from 1 bounds) none (1 + here.0, b)
        (numbered_has 1 bounds here.0 b (slice_get-get_or bounds here.0 b here.1 ∙ ap (λ (x : Bound). Some x) here.2))

    pub no_goal : (b : Bound) → Contains bounds b → ¬ IsGoal tasks (known_of b)
    no_goal b here goal =
        let parts = parts_empty (failure_if (goals_hold tasks (state_of b)) (Goal (1 + here.0))) (option_map_or (cheap_acts tasks bounds (1 + here.0) b) (task_of tasks b.agent) []) (entry_none b here) in
        true≢false (sym goal ∙ fails_not (goals_hold tasks (state_of b)) (Goal (1 + here.0)) parts.0)

    acts_none : (b : Bound) (here : Contains bounds b) (t : AgentTask) → task_of tasks b.agent ≡ Some t → cheap_acts tasks bounds (1 + here.0) b t ≡ []
    acts_none b here t is =
        let parts = parts_empty (failure_if (goals_hold tasks (state_of b)) (Goal (1 + here.0))) (option_map_or (cheap_acts tasks bounds (1 + here.0) b) (task_of tasks b.agent) []) (entry_none b here) in
        sym (ap (λ (o : Option AgentTask). option_map_or (cheap_acts tasks bounds (1 + here.0) b) o []) is) ∙ parts.1

    -- an action of the agent of an entry that applies leads on to no failure
    leads_none : (b : Bound) (here : Contains bounds b) (t : AgentTask) → Contains tasks t → (s reached : JointState) (step : TaskStep)
        → (takes : TakesStep tasks t.me any_action s step reached) → b.agent ≡ t.me → state_of b ≡ s
        → cheap_leads tasks bounds (1 + here.0) b t step.action takes.act reached ≡ []
    leads_none b here t in_team s reached step takes agent state =
        let task : task_of tasks b.agent ≡ Some t = ap (task_of tasks) agent ∙ task_at t in_team in
        let own : slice_get t.acts step.action ≡ Some takes.act =
        sym (ap (λ (o : Option AgentTask). option_and_then (λ u. slice_get u.acts step.action) o) (ap (task_of tasks) takes.by ∙ task_at t in_team)) ∙ takes.is in
        let one : cheap_steps tasks bounds (1 + here.0) b t step.action takes.act ≡ [] =
        each_empty (λ (numbered : ℕ × Act). cheap_steps tasks bounds (1 + here.0) b t numbered.0 numbered.1) (enumerate_from 0 t.acts) (acts_none b here t task)
        (step.action, takes.act) (subst (λ (k : ℕ). Contains (enumerate_from 0 t.acts) (k, takes.act)) (from_0 step.action) (numbered_has 0 t.acts step.action takes.act own)) in
        let may : applies takes.act (state_of b).publics (private_of (state_of b) t.me) ≡ true =
        ap (λ (u : JointState). applies takes.act u.publics (private_of u t.me)) state ∙ takes.may in
        let led : after_act (state_of b) t.me takes.act ≡ reached = ap (λ (u : JointState). after_act u t.me takes.act) state ∙ sym takes.leads in
        subst (λ (u : JointState). cheap_leads tasks bounds (1 + here.0) b t step.action takes.act u ≡ []) led
        (if_passes (applies takes.act (state_of b).publics (private_of (state_of b) t.me)) _ may one)

    falls : (k l : Known) (cost : ℕ) → LeadsOn tasks k cost l → (b : Bound) → Contains bounds b → known_of b ≡ k → b.bound ≤ bound_of bounds l + cost
    falls _ _ _ (alone t s reached step in_team takes) b here is =
        let agent : b.agent ≡ t.me = ap (λ (k : Known). k.agent) is in
        let state : state_of b ≡ s = ap (λ (k : Known). k.state) is in
        let parts = parts_empty (cheap_in bounds (1 + here.0) b step.action takes.act reached t.me) _ (leads_none b here t in_team s reached step takes agent state) in
        not_below _ b.bound _ parts.0
    falls _ _ _ (to_another t other s reached step in_team other_in_team takes visible concern) b here is =
        let agent : b.agent ≡ t.me = ap (λ (k : Known). k.agent) is in
        let state : state_of b ≡ s = ap (λ (k : Known). k.state) is in
        let parts = parts_empty (cheap_in bounds (1 + here.0) b step.action takes.act reached t.me) _ (leads_none b here t in_team s reached step takes agent state) in
        let seen : is_visible t takes.act (state_of b) reached ≡ true =
        ap (λ (u : JointState). is_visible t takes.act u reached) state ∙ is_visible_from t takes.act s reached visible in
        let all = if_passes (is_visible t takes.act (state_of b) reached) (flat_map (cheap_in_other bounds (1 + here.0) b t step.action takes.act reached) tasks) seen parts.1 in
        let one = each_empty (cheap_in_other bounds (1 + here.0) b t step.action takes.act reached) tasks all other other_in_team in
        not_below _ b.bound _ (if_passes (concerns t other reached) _ (concerns_from t other reached concern) one)

    pub no_cheap_step : (b : Bound) (cost : ℕ) (k : Known) → Contains bounds b → LeadsOn tasks (known_of b) cost k → b.bound ≤ bound_of bounds k + cost
    no_cheap_step b cost k here leads = falls (known_of b) k cost leads b here refl

  -- ---- to no failure

  module _ (goals : (b : Bound) → Contains bounds b → ¬ IsGoal tasks (known_of b))
      (steps : (b : Bound) (cost : ℕ) (k : Known) → Contains bounds b → LeadsOn tasks (known_of b) cost k → b.bound ≤ bound_of bounds k + cost) where
    module _ (n : ℕ) (b : Bound) (here : Contains bounds b) (t : AgentTask) (in_team : Contains tasks t) (mine : t.me ≡ b.agent) (i : ℕ) (act : Act) (own : slice_get t.acts i ≡ Some act)
        (may : applies act (state_of b).publics (private_of (state_of b) t.me) ≡ true) where
      abbrev reached : JointState
      reached = after_act (state_of b) t.me act

      abbrev step : TaskStep
      step = record { agent = t.me; action = i }

      abbrev takes : TakesStep tasks t.me any_action (state_of b) step reached
      takes = record {
        by = refl;
        act = act;
        is = ap (λ (o : Option AgentTask). option_and_then (λ u. slice_get u.acts i) o) (task_at t in_team) ∙ own;
        kind = refl;
        may = may;
        leads = refl;
      }

      from_entry : (l : Known) → LeadsOn tasks (record { agent = t.me; state = state_of b }) act.cost l → b.bound ≤ bound_of bounds l + act.cost
      from_entry l leads = steps b act.cost l here (subst (λ (a : ℕ). LeadsOn tasks (record { agent = a; state = state_of b }) act.cost l) mine leads)

      no_cheap_lead : cheap_leads tasks bounds n b t i act reached ≡ []
      no_cheap_lead =
          both_empty (cheap_in bounds n b i act reached t.me) _
          (is_not_below _ b.bound _ (from_entry (record { agent = t.me; state = reached }) (alone t (state_of b) reached step in_team takes)))
          (empty_if (is_visible t act (state_of b) reached) _ (λ seen.
          all_empty (cheap_in_other bounds n b t i act reached) tasks (λ other other_in_team.
          empty_if (concerns t other reached) _ (λ concern.
          is_not_below _ b.bound _ (from_entry (record { agent = other.me; state = reached })
          (to_another t other (state_of b) reached step in_team other_in_team takes (visible_is t act (state_of b) reached seen) (concerns_is t other reached concern)))))))

    acts_free : (n : ℕ) (b : Bound) → Contains bounds b → (o : Option AgentTask) → task_of tasks b.agent ≡ o → option_map_or (cheap_acts tasks bounds n b) o [] ≡ []
    acts_free n b here None is = refl
    acts_free n b here (Some t) is =
        let found = found_task b.agent t is in
        all_empty (λ (numbered : ℕ × Act). cheap_steps tasks bounds n b t numbered.0 numbered.1) (enumerate_from 0 t.acts) (λ p there.
        let at = numbered_is 0 t.acts p there in
        let own : slice_get t.acts p.0 ≡ Some p.1 = ap (slice_get t.acts) (at.1 ∙ from_0 at.0) ∙ at.2 in
        empty_if (applies p.1 (state_of b).publics (private_of (state_of b) t.me)) _ (λ may. no_cheap_lead n b here t found.0 found.1 p.0 p.1 own may))
      where
        found_task : (agent : ℕ) (u : AgentTask) → task_of tasks agent ≡ Some u → Contains tasks u × (u.me ≡ agent)
        found_task zero u e = absurd (none-some u e)
        found_task (suc k) u e =
            (Contains-slice_get tasks k u e, number_at tasks are.numbered k u (slice_get_within tasks k u e) (get_or_from_slice_get tasks k u u e))

    pub no_entry_fails : all_entry_failures tasks bounds ≡ []
    no_entry_fails =
        all_empty (λ (numbered : ℕ × Bound). entry_failures tasks bounds numbered.0 numbered.1) (enumerate_from 1 bounds) (λ p there.
        let at = numbered_is 1 bounds p there in
        let here : Contains bounds p.1 = Contains-slice_get bounds at.0 p.1 at.2 in
        both_empty (failure_if (goals_hold tasks (state_of p.1)) (Goal p.0)) _
        (no_failure (goals_hold tasks (state_of p.1)) (Goal p.0) (false_from_ne_true (goals_hold tasks (state_of p.1)) (goals p.1 here)))
        (acts_free p.0 p.1 here (task_of tasks p.1.agent) refl))

  -- ---- starts

  pub starts_reach : (cost : ℕ) → low_starts tasks bounds cost ≡ [] → (k : Known) → IsRoot tasks k → cost ≤ bound_of bounds k
  starts_reach cost none k root =
      let is : k ≡ root_of tasks root.task = λ i. record { agent = root.agent i; state = root.state i } in
      subst (λ (l : Known). cost ≤ bound_of bounds l) (sym is)
      (not_below (bound_of bounds (root_of tasks root.task)) cost _ (each_empty (low_start tasks bounds cost) tasks none root.task root.in_team))

  pub no_start_low : (cost : ℕ) → ((k : Known) → IsRoot tasks k → cost ≤ bound_of bounds k) → low_starts tasks bounds cost ≡ []
  no_start_low cost starts =
      all_empty (low_start tasks bounds cost) tasks (λ t here.
      is_not_below (bound_of bounds (root_of tasks t)) cost _ (starts (root_of tasks t) (record { task = t; in_team = here; agent = refl; state = refl })))
