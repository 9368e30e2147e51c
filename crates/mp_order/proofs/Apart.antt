-- States that differ in one agent's private facts alone: what that agent's private actions lead to, and that the
-- others' actions don't tell them apart.
use Rattle.std.proofs.Common.{◌≡◌, ◌≢◌, ℕ, ◌-◌, ◌≤◌, Bool, true, false, cond, not, List, [], ◌∷◌, Option, Some, None, refl, sym, ap, ◌∙◌, subst, arith}
use Rattle.std.proofs.Math.ListN.{set as set_at}
use Rattle.std.proofs.lemmas.Bool.{and_parts, eqb-true, eq-eqb, not-true, false≢true}
use Rattle.std.proofs.lemmas.List.{get_or-set_other, set-set, set_comm}
use Rattle.std.proofs.lemmas.Option.{cond_some, none-some, option_and_then_some, same_Some}
use Rattle.std.specs.FinSet as set
use Rattle.std.specs.List.{list_all}
use Rattle.std.specs.Option.{option_and_then, option_map, option_map_or}
use Rattle.mp_runs.specs.Run.{run}
use Rattle.mp_runs.proofs.Runs.{run-none, run-first, run_parts}
use Rattle.mp_sets.specs.Numbers.{after}
use Rattle.mp_task.specs.declared.act.Act.{Act}
use Rattle.mp_task.specs.AgentTask.{AgentTask}
use Rattle.mp_task.specs.Plan.{JointState, TaskStep, act_of, private_of, applies, after_act, after_if_applies, after_step}
use Rattle.mp_task.specs.Public.{is_public, is_private}
use Rattle.mp_task.proofs.Agreeing.{step_parts}
use Rattle.mp_order.specs.Ordered.{TakesStep}
use Rattle.mp_order.proofs.Swaps.{publics_stay, private_stays, is_shown, of_agent, of_another}

-- what a step is that was taken
pub record IsTaken (tasks : List AgentTask) (s : JointState) (step : TaskStep) (reached : JointState) : Type 0 where
  pub act : Act
  pub is : act_of tasks step ≡ Some act
  pub may : applies act s.publics (private_of s step.agent) ≡ true
  pub leads : reached ≡ after_act s step.agent act

pub taken : (tasks : List AgentTask) (s reached : JointState) (step : TaskStep) → after_step tasks s step ≡ Some reached → IsTaken tasks s step reached
taken tasks s reached step ran =
    option_and_then_some (after_if_applies s step.agent) (act_of tasks step) reached ran (λ act is led.
    let parts = cond_some (applies act s.publics (private_of s step.agent)) (after_act s step.agent act) reached led in
    record { act = act; is = is; may = parts.0; leads = sym parts.1 })

pub shown_act : (tasks : List AgentTask) (step : TaskStep) (act : Act) (b : Bool) → act_of tasks step ≡ Some act → is_shown tasks step ≡ b → is_public act ≡ b
shown_act tasks step act b is shown = sym (ap (λ o. option_map_or is_public o false) is) ∙ shown

-- a step of an agent, public or private
pub takes_public : (tasks : List AgentTask) (agent : ℕ) (s reached : JointState) (step : TaskStep) → step.agent ≡ agent → is_shown tasks step ≡ true → after_step tasks s step ≡ Some reached → TakesStep tasks agent is_public s step reached
takes_public tasks agent s reached step by shown ran =
    let it = taken tasks s reached step ran in
    subst (λ a. TakesStep tasks a is_public s step reached) by
    (record { by = refl; act = it.act; is = it.is; kind = shown_act tasks step it.act true it.is shown; may = it.may; leads = it.leads })

pub takes_private : (tasks : List AgentTask) (agent : ℕ) (s reached : JointState) (step : TaskStep) → step.agent ≡ agent → is_shown tasks step ≡ false → after_step tasks s step ≡ Some reached → TakesStep tasks agent is_private s step reached
takes_private tasks agent s reached step by hidden ran =
    let it = taken tasks s reached step ran in
    subst (λ a. TakesStep tasks a is_private s step reached) by
    (record { by = refl; act = it.act; is = it.is; kind = ap not (shown_act tasks step it.act false it.is hidden); may = it.may; leads = it.leads })

-- a state without an agent's private facts
abbrev pub without : ℕ → JointState → JointState
without agent s = record { publics = s.publics; privates = set_at s.privates (agent - 1) set.empty }

pub same_private : (agent other : ℕ) (s t : JointState) → other - 1 ≢ agent - 1 → without agent t ≡ without agent s → private_of t other ≡ private_of s other
same_private agent other s t ne alike =
    sym (get_or-set_other t.privates (agent - 1) (other - 1) set.empty set.empty ne)
    ∙ ap (λ u. private_of u other) alike
    ∙ get_or-set_other s.privates (agent - 1) (other - 1) set.empty set.empty ne

own_act : (s : JointState) (agent : ℕ) (act : Act) → is_public act ≡ false → without agent (after_act s agent act) ≡ without agent s
own_act s agent act hidden =
    let pubs = publics_stay s agent act hidden in
    let privs = set-set s.privates (agent - 1) (after (private_of s agent) act.del_priv act.add_priv) set.empty in
    (λ i. record { publics = pubs i; privates = privs i })

-- another agent's action does the same without them
other_act : (s : JointState) (agent other : ℕ) (act : Act) → other - 1 ≢ agent - 1 → after_if_applies (without agent s) other act ≡ option_map (without agent) (after_if_applies s other act)
other_act s agent other act ne =
    by (applies act s.publics (private_of s other)) (ap (applies act s.publics) mine)
  where
    mine : private_of (without agent s) other ≡ private_of s other
    mine = get_or-set_other s.privates (agent - 1) (other - 1) set.empty set.empty ne

    led : after_act (without agent s) other act ≡ without agent (after_act s other act)
    led =
        let privs : (after_act (without agent s) other act).privates ≡ (without agent (after_act s other act)).privates =
        (λ i. set_at (without agent s).privates (other - 1) (after (mine i) act.del_priv act.add_priv))
        ∙ set_comm s.privates (agent - 1) (other - 1) set.empty _ (λ e. ne (sym e)) in
        (λ i. record { publics = after s.publics act.del_pub act.add_pub; privates = privs i })

    by : (b : Bool) → applies act s.publics (private_of (without agent s) other) ≡ b → cond (applies act s.publics (private_of (without agent s) other)) (Some (after_act (without agent s) other act)) None ≡ option_map (without agent) (cond b (Some (after_act s other act)) None)
    by true may = ap (λ b. cond b (Some (after_act (without agent s) other act)) None) may ∙ ap Some led
    by false may = ap (λ b. cond b (Some (after_act (without agent s) other act)) None) may

module _ (tasks : List AgentTask) (agent : ℕ) (from_1 : 1 ≤ agent) where
  other_place : (step : TaskStep) (act : Act) → act_of tasks step ≡ Some act → of_another agent step ≡ true → step.agent - 1 ≢ agent - 1
  other_place step act is another same =
      let p = step_parts tasks step act is in
      let at = p.agent in
      let e : step.agent ≡ agent = omega arith in
      false≢true (sym (not-true _ another) ∙ eq-eqb step.agent agent e)

  other_step : (s : JointState) (step : TaskStep) → of_another agent step ≡ true → after_step tasks (without agent s) step ≡ option_map (without agent) (after_step tasks s step)
  other_step s step another = by (act_of tasks step) refl
    where
      by : (o : Option Act) → act_of tasks step ≡ o → option_and_then (after_if_applies (without agent s) step.agent) o ≡ option_map (without agent) (option_and_then (after_if_applies s step.agent) o)
      by None is = refl
      by (Some act) is = other_act s agent step.agent act (other_place step act is another)

  -- so that it does the same in states that differ in them alone
  pub record LeadsAlike (u : JointState) (steps : List TaskStep) (t : JointState) : Type 0 where
    pub end : JointState
    pub runs : run (after_step tasks) u steps ≡ Some end
    pub alike : without agent end ≡ without agent t

  alike_step : (s t u : JointState) (step : TaskStep) → of_another agent step ≡ true → after_step tasks s step ≡ Some t → without agent u ≡ without agent s → (v : JointState) × (after_step tasks u step ≡ Some v) × (without agent v ≡ without agent t)
  alike_step s t u step another ran same =
      by (after_step tasks u step) refl (sym (other_step u step another) ∙ ap (λ w. after_step tasks w step) same ∙ other_step s step another ∙ ap (option_map (without agent)) ran)
    where
      by : (o : Option JointState) → after_step tasks u step ≡ o → option_map (without agent) o ≡ Some (without agent t) → (v : JointState) × (after_step tasks u step ≡ Some v) × (without agent v ≡ without agent t)
      by None is e = absurd (none-some _ e)
      by (Some v) is e = (v, is, same_Some _ _ e)

  pub alike_run : (s t u : JointState) (steps : List TaskStep) → list_all (of_another agent) steps ≡ true → run (after_step tasks) s steps ≡ Some t → without agent u ≡ without agent s → LeadsAlike u steps t
  alike_run s t u [] all ran same =
      record { end = u; runs = run-none (after_step tasks) u; alike = same ∙ ap (without agent) (same_Some s t (sym (run-none (after_step tasks) s) ∙ ran)) }
  alike_run s t u (x ∷ steps) all ran same =
      let each = and_parts (of_another agent x) (list_all (of_another agent) steps) all in
      let parts = run_parts (after_step tasks) s t x steps ran in
      let now = alike_step s parts.0 u x each.0 parts.1 same in
      let then_ = alike_run parts.0 t now.0 steps each.1 parts.2 now.2 in
      record { end = then_.end; runs = run-first (after_step tasks) u now.0 x steps now.1 ∙ then_.runs; alike = then_.alike }

  -- other agents' actions leave an agent's private facts
  pub others_keep : (s t : JointState) (steps : List TaskStep) → list_all (of_another agent) steps ≡ true → run (after_step tasks) s steps ≡ Some t → private_of t agent ≡ private_of s agent
  others_keep s t [] all ran = ap (λ u. private_of u agent) (sym (same_Some s t (sym (run-none (after_step tasks) s) ∙ ran)))
  others_keep s t (x ∷ steps) all ran =
      let each = and_parts (of_another agent x) (list_all (of_another agent) steps) all in
      let parts = run_parts (after_step tasks) s t x steps ran in
      let it = taken tasks s parts.0 x parts.1 in
      let place = other_place x it.act it.is each.0 in
      others_keep parts.0 t steps each.1 parts.2
      ∙ ap (λ u. private_of u agent) it.leads
      ∙ private_stays s x.agent agent it.act (λ e. place (sym e))

-- an agent's private steps lead to such states
pub own_step : (tasks : List AgentTask) (agent : ℕ) (s t : JointState) (step : TaskStep) → of_agent agent step ≡ true → is_shown tasks step ≡ false → after_step tasks s step ≡ Some t → without agent t ≡ without agent s
own_step tasks agent s t step mine hidden ran =
    let it = taken tasks s t step ran in
    let led = ap (λ a. after_act s a it.act) (eqb-true step.agent agent mine) in
    ap (without agent) (it.leads ∙ led) ∙ own_act s agent it.act (shown_act tasks step it.act false it.is hidden)

-- private steps leave the public facts
pub private_run : (tasks : List AgentTask) (s t : JointState) (steps : List TaskStep) → list_all (λ x. not (is_shown tasks x)) steps ≡ true → run (after_step tasks) s steps ≡ Some t → t.publics ≡ s.publics
private_run tasks s t [] all ran = ap (λ (u : JointState). u.publics) (sym (same_Some s t (sym (run-none (after_step tasks) s) ∙ ran)))
private_run tasks s t (x ∷ steps) all ran =
    let each = and_parts (not (is_shown tasks x)) (list_all (λ y. not (is_shown tasks y)) steps) all in
    let parts = run_parts (after_step tasks) s t x steps ran in
    let it = taken tasks s parts.0 x parts.1 in
    private_run tasks parts.0 t steps each.1 parts.2
    ∙ ap (λ (u : JointState). u.publics) it.leads
    ∙ publics_stay s x.agent it.act (shown_act tasks x it.act false it.is (not-true _ each.0))
