-- No failure says that a certificate holds.
use Rattle.std.proofs.Common.{◌≡◌, ℕ, Bool, true, false, cond, List, [], ◌∷◌, ◌++◌, map, Option, Some, None, slice_get, refl, ap}
use Rattle.std.specs.List.{enumerate_from, flat_map}
use Rattle.std.specs.Option.{option_map_or}
use Rattle.mp_task.specs.declared.act.Act.{Act}
use Rattle.mp_task.specs.AgentTask.{AgentTask}
use Rattle.mp_task.specs.Plan.{JointState, after_act, applies, private_of, task_of}
use Rattle.mp_audit.specs.declared.certificate.Bound.{Bound}
use Rattle.mp_audit.specs.declared.certificate.Certificate.{Certificate}
use Rattle.mp_audit.specs.declared.verdict.AuditVerdict.{AuditVerdict}
use Rattle.mp_audit.specs.declared.verdict.AuditVerdict.TheVariants.{Holds, Double, Start, Goal, Step}
use Rattle.mp_audit.specs.Audited.{state_of}
use Rattle.mp_audit.specs.Failures.{failure_if, doubles, low_start, low_starts, concerns, is_visible, cheap_in, cheap_in_other, cheap_leads, cheap_steps, cheap_acts, entry_failures, all_entry_failures, failures, verdict_on}

-- the first is not that it holds
abbrev AreFailures : List AuditVerdict → Type 0
AreFailures vs = slice_get vs 0 ≡ Some Holds → ⊥

none_fail : AreFailures []
none_fail e = absurd (cc)

both_fail : (xs ys : List AuditVerdict) → AreFailures xs → AreFailures ys → AreFailures (xs ++ ys)
both_fail [] ys first later = later
both_fail (x ∷ xs) ys first later = first

each_fail : {X : Type 0} (f : X → List AuditVerdict) (xs : List X) → ((x : X) → AreFailures (f x)) → AreFailures (flat_map f xs)
each_fail f [] each = none_fail
each_fail f (x ∷ xs) each = both_fail (f x) (flat_map f xs) (each x) (each_fail f xs each)

if_fails : (b : Bool) (xs : List AuditVerdict) → AreFailures xs → AreFailures (cond b xs [])
if_fails true xs fail = fail
if_fails false xs fail = none_fail

double_fails : (ns : List (ℕ × Bound)) → AreFailures (map (λ numbered. Double numbered.0) ns)
double_fails [] e = none_fail e
double_fails (n ∷ ns) e = absurd (cc)

start_fails : (b : Bool) (agent : ℕ) → AreFailures (failure_if b (Start agent))
start_fails true agent e = absurd (cc)
start_fails false agent e = absurd (cc)

goal_fails : (b : Bool) (entry : ℕ) → AreFailures (failure_if b (Goal entry))
goal_fails true entry e = absurd (cc)
goal_fails false entry e = absurd (cc)

step_fails : (b : Bool) (entry action agent : ℕ) → AreFailures (failure_if b (Step entry action agent))
step_fails true entry action agent e = absurd (cc)
step_fails false entry action agent e = absurd (cc)

module _ (tasks : List AgentTask) (bounds : List Bound) where
  leads_fail : (n : ℕ) (b : Bound) (t : AgentTask) (i : ℕ) (act : Act) (reached : JointState) → AreFailures (cheap_leads tasks bounds n b t i act reached)
  leads_fail n b t i act reached =
      both_fail (cheap_in bounds n b i act reached t.me) _ (step_fails _ n i t.me)
      (if_fails (is_visible t act (state_of b) reached) _
      (each_fail (cheap_in_other bounds n b t i act reached) tasks (λ other. if_fails (concerns t other reached) _ (step_fails _ n i other.me))))

  acts_fail : (n : ℕ) (b : Bound) (t : AgentTask) → AreFailures (cheap_acts tasks bounds n b t)
  acts_fail n b t =
      each_fail (λ (numbered : ℕ × Act). cheap_steps tasks bounds n b t numbered.0 numbered.1) (enumerate_from 0 t.acts) (λ numbered.
      if_fails (applies numbered.1 (state_of b).publics (private_of (state_of b) t.me)) _
      (leads_fail n b t numbered.0 numbered.1 (after_act (state_of b) t.me numbered.1)))

  entry_fails : (n : ℕ) (b : Bound) → AreFailures (entry_failures tasks bounds n b)
  entry_fails n b = both_fail (failure_if _ (Goal n)) _ (goal_fails _ n) (of_task (task_of tasks b.agent))
    where
      of_task : (o : Option AgentTask) → AreFailures (option_map_or (cheap_acts tasks bounds n b) o [])
      of_task None = none_fail
      of_task (Some t) = acts_fail n b t

-- so where the first failure is said to hold there is none
pub none_where_holds : (tasks : List AgentTask) (certificate : Certificate) → verdict_on tasks certificate ≡ Holds → failures tasks certificate ≡ []
none_where_holds tasks certificate holds = by (failures tasks certificate) fail holds
  where
    fail : AreFailures (failures tasks certificate)
    fail =
        both_fail (doubles certificate.bounds) _ (double_fails _)
        (both_fail (low_starts tasks certificate.bounds certificate.cost) (all_entry_failures tasks certificate.bounds)
        (each_fail (low_start tasks certificate.bounds certificate.cost) tasks (λ t. start_fails _ t.me))
        (each_fail (λ (numbered : ℕ × Bound). entry_failures tasks certificate.bounds numbered.0 numbered.1) (enumerate_from 1 certificate.bounds) (λ numbered. entry_fails tasks certificate.bounds numbered.0 numbered.1)))

    by : (vs : List AuditVerdict) → AreFailures vs → option_map_or (λ v. v) (slice_get vs 0) Holds ≡ Holds → vs ≡ []
    by [] none e = refl
    by (v ∷ vs) none e = absurd (none (ap (λ (w : AuditVerdict). Some w) e))

pub holds_from_none : (tasks : List AgentTask) (certificate : Certificate) → failures tasks certificate ≡ [] → verdict_on tasks certificate ≡ Holds
holds_from_none tasks certificate none = ap (λ (vs : List AuditVerdict). option_map_or (λ v. v) (slice_get vs 0) Holds) none
