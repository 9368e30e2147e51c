-- The first failure of an entry, by its parts.
use Rattle.std.proofs.Common.{◌≡◌, ℕ, zero, suc, ◌-◌, ◌<◌, ◌≤◌, Bool, true, false, List, [], length, get_or, Option, Some, None, slice_get, sym, ap, ◌∙◌, subst, arith}
use Rattle.std.specs.Option.{option_map_or}
use Rattle.std.specs.Prelude.{IfSome}
use Rattle.std.proofs.lemmas.Option.{slice_get-get_or, slice_get_within}
use Rattle.mp_task.specs.AgentTask.{AgentTask}
use Rattle.mp_task.specs.Plan.{JointState, goals_hold, task_of}
use Rattle.mp_audit.specs.declared.certificate.Bound.{Bound}
use Rattle.mp_audit.specs.declared.lookup.Finder.{Finder}
use Rattle.mp_audit.specs.declared.verdict.AuditVerdict.{AuditVerdict}
use Rattle.mp_audit.specs.declared.verdict.AuditVerdict.TheVariants.{Goal}
use Rattle.mp_audit.specs.Audited.{state_of}
use Rattle.mp_audit.specs.Failures.{cheap_acts, entry_failures, failure_if}
use Rattle.mp_audit.specs.Tables.{AreFindersOf, IsFinderOf}
use Rattle.mp_audit.proofs.FirstLemmas.{first_of, second_of}

-- the task of an agent stands in its place
task_at_place : (tasks : List AgentTask) (agent : ℕ) → 1 ≤ agent → task_of tasks agent ≡ slice_get tasks (agent - 1)
task_at_place tasks zero from_1 = absurd (omega arith)
task_at_place tasks (suc k) from_1 = let same : k ≡ suc k - 1 = omega arith in ap (slice_get tasks) same

module _ (tasks : List AgentTask) (bounds : List Bound) (n : ℕ) (b : Bound) (s : JointState) (is : s ≡ state_of b) where
  abbrev goal : Bool → List AuditVerdict
  goal holds = failure_if holds (Goal n)

  abbrev later : Option AgentTask → List AuditVerdict
  later o = option_map_or (cheap_acts tasks bounds n b) o []

  holds_here : (p : Bool) → goals_hold tasks s ≡ p → goals_hold tasks (state_of b) ≡ p
  holds_here p holds = ap (goals_hold tasks) (sym is) ∙ holds

  pub goal_first : goals_hold tasks s ≡ true → Some (Goal n) ≡ slice_get (entry_failures tasks bounds n b) 0
  goal_first holds =
      first_of (goal (goals_hold tasks (state_of b))) (later (task_of tasks b.agent)) (Goal n)
      (ap (λ (p : Bool). slice_get (goal p) 0) (sym (holds_here true holds)))

  behind : (o : Option AuditVerdict) → goals_hold tasks s ≡ false → o ≡ slice_get (later (task_of tasks b.agent)) 0 → o ≡ slice_get (entry_failures tasks bounds n b) 0
  behind o fails first =
      second_of (goal (goals_hold tasks (state_of b))) (later (task_of tasks b.agent)) o
      (ap (λ (p : Bool). slice_get (goal p) 0) (sym (holds_here false fails))) first

  pub no_task : goals_hold tasks s ≡ false → 1 ≤ b.agent → slice_get tasks (b.agent - 1) ≡ None → None ≡ slice_get (entry_failures tasks bounds n b) 0
  no_task fails from_1 none =
      behind None fails (ap (λ (o : Option AgentTask). slice_get (later o) 0) (sym (task_at_place tasks b.agent from_1 ∙ none)))

  pub by_task : (t : AgentTask) (o : Option AuditVerdict) → goals_hold tasks s ≡ false → 1 ≤ b.agent → slice_get tasks (b.agent - 1) ≡ Some t
      → o ≡ slice_get (cheap_acts tasks bounds n b t) 0 → o ≡ slice_get (entry_failures tasks bounds n b) 0
  by_task t o fails from_1 there first =
      behind o fails (first ∙ ap (λ (p : Option AgentTask). slice_get (later p) 0) (sym (task_at_place tasks b.agent from_1 ∙ there)))

-- what finds the actions of the task in a place
module _ (tasks : List AgentTask) (finders list : List Finder) (are : AreFindersOf tasks finders) (list_is : list ≡ finders) (place : ℕ) (t : AgentTask) (there : slice_get tasks place ≡ Some t) where
  pub finder_inside : place < length list
  finder_inside =
      let lt = slice_get_within tasks place t there in
      let count = are.as_many in
      let same = ap length list_is in
      omega (arith, lt, count, same)

  pub finder_is : (finder : Finder) → finder ≡ get_or list place finder → IsFinderOf t finder
  finder_is finder is =
      let found : slice_get finders place ≡ Some finder =
      ap (λ (fs : List Finder). slice_get fs place) (sym list_is) ∙ slice_get-get_or list place finder finder_inside ∙ ap (λ (f : Finder). Some f) (sym is) in
      subst (λ (o : Option Finder). IfSome o (λ f. (u : AgentTask) → slice_get tasks place ≡ Some u → IsFinderOf u f)) found (are.each place) t there
