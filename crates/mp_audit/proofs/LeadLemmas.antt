-- The first search in which an action leads on too cheaply.
use Rattle.std.proofs.Common.{◌≡◌, ℕ, Bool, true, false, cond, List, [], Option, Some, None, slice_get, sym, ap, ◌∙◌}
use Rattle.std.specs.List.{flat_map}
use Rattle.mp_task.specs.declared.act.Act.{Act}
use Rattle.mp_task.specs.AgentTask.{AgentTask}
use Rattle.mp_task.specs.Plan.{JointState, after_act, applies, private_of}
use Rattle.mp_audit.specs.declared.certificate.Bound.{Bound}
use Rattle.mp_audit.specs.declared.verdict.AuditVerdict.{AuditVerdict}
use Rattle.mp_audit.specs.Audited.{state_of}
use Rattle.mp_audit.specs.Failures.{cheap_in, cheap_in_other, cheap_leads, cheap_steps, concerns, is_visible}
use Rattle.mp_audit.proofs.FirstLemmas.{first_of, second_of}

module _ (tasks : List AgentTask) (bounds : List Bound) (entry : ℕ) (b : Bound) (t : AgentTask) (action : ℕ) (act : Act) where
  abbrev pub own : JointState → List AuditVerdict
  own s = cheap_in bounds entry b action act s t.me

  abbrev pub others : JointState → List AuditVerdict
  others s = flat_map (cheap_in_other bounds entry b t action act s) tasks

  abbrev pub leads : JointState → List AuditVerdict
  leads s = cheap_leads tasks bounds entry b t action act s

  pub other_concerned : (s : JointState) (other : AgentTask) (o : Option AuditVerdict) → concerns t other s ≡ true → o ≡ slice_get (cheap_in bounds entry b action act s other.me) 0
      → o ≡ slice_get (cheap_in_other bounds entry b t action act s other) 0
  other_concerned s other o concerned first =
      first ∙ ap (λ (p : Bool). slice_get (cond p (cheap_in bounds entry b action act s other.me) []) 0) (sym concerned)

  pub other_unconcerned : (s : JointState) (other : AgentTask) → concerns t other s ≡ false → None ≡ slice_get (cheap_in_other bounds entry b t action act s other) 0
  other_unconcerned s other unconcerned =
      ap (λ (p : Bool). slice_get (cond p (cheap_in bounds entry b action act s other.me) []) 0) (sym unconcerned)

  pub own_lead : (s : JointState) (v : AuditVerdict) → Some v ≡ slice_get (own s) 0 → Some v ≡ slice_get (leads s) 0
  own_lead s v first = first_of (own s) (cond (is_visible t act (state_of b) s) (others s) []) v first

  pub unseen_lead : (s : JointState) → None ≡ slice_get (own s) 0 → is_visible t act (state_of b) s ≡ false → None ≡ slice_get (leads s) 0
  unseen_lead s none hidden =
      second_of (own s) (cond (is_visible t act (state_of b) s) (others s) []) None none
      (ap (λ (p : Bool). slice_get (cond p (others s) []) 0) (sym hidden))

  pub other_lead : (s : JointState) (o : Option AuditVerdict) → None ≡ slice_get (own s) 0 → is_visible t act (state_of b) s ≡ true → o ≡ slice_get (others s) 0 → o ≡ slice_get (leads s) 0
  other_lead s o none seen first =
      second_of (own s) (cond (is_visible t act (state_of b) s) (others s) []) o none
      (first ∙ ap (λ (p : Bool). slice_get (cond p (others s) []) 0) (sym seen))

  abbrev may : Bool
  may = applies act (state_of b).publics (private_of (state_of b) t.me)

  abbrev after : JointState
  after = after_act (state_of b) t.me act

  pub step_applies : (s reached : JointState) (o : Option AuditVerdict) → s ≡ state_of b → reached ≡ after_act s t.me act
      → applies act s.publics (private_of s t.me) ≡ true → o ≡ slice_get (leads reached) 0 → o ≡ slice_get (cheap_steps tasks bounds entry b t action act) 0
  step_applies s reached o is leads_to applied first =
      let applied_here : may ≡ true = ap (λ (u : JointState). applies act u.publics (private_of u t.me)) (sym is) ∙ applied in
      let led : reached ≡ after = leads_to ∙ ap (λ (u : JointState). after_act u t.me act) is in
      first ∙ ap (λ (u : JointState). slice_get (leads u) 0) led
      ∙ ap (λ (p : Bool). slice_get (cond p (leads after) []) 0) (sym applied_here)

  -- an action that does not apply leads on to nothing
  pub step_idle : (s : JointState) → s ≡ state_of b → applies act s.publics (private_of s t.me) ≡ false → cheap_steps tasks bounds entry b t action act ≡ []
  step_idle s is idle =
      let idle_here : may ≡ false = ap (λ (u : JointState). applies act u.publics (private_of u t.me)) (sym is) ∙ idle in
      ap (λ (p : Bool). cond p (leads after) []) idle_here
