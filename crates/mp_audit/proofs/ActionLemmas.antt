-- The first failure of the actions that apply in an entry, as a loop over these alone finds it.
use Rattle.std.proofs.Common.{◌≡◌, ℕ, ◌+◌, ◌-◌, ◌<◌, ◌≤◌, false, List, [], length, get_or, drop, Option, Some, None, slice_get, sym, ap, ◌∙◌, arith}
use Rattle.std.specs.FinSet as set
use Rattle.std.specs.Option.{option_map_or}
use Rattle.std.proofs.lemmas.Option.{get_or_from_slice_get}
use Rattle.mp_sets.specs.Numbers.{Numbers, IsLeastFrom, HasNoneFrom}
use Rattle.mp_task.specs.declared.act.Act.{Act}
use Rattle.mp_task.specs.AgentTask.{AgentTask}
use Rattle.mp_task.specs.Plan.{JointState, applies, private_of}
use Rattle.mp_applicable.specs.Applicable.{is_applicable}
use Rattle.mp_audit.specs.declared.certificate.Bound.{Bound}
use Rattle.mp_audit.specs.declared.verdict.AuditVerdict.{AuditVerdict}
use Rattle.mp_audit.specs.Audited.{state_of}
use Rattle.mp_audit.specs.Failures.{cheap_steps}
use Rattle.mp_audit.proofs.FirstLemmas.{from_place, item_at, numbered_found, numbered_passed, all_passed, none_left, empty_of}
use Rattle.mp_audit.proofs.LeadLemmas.{step_idle}

module _ (tasks : List AgentTask) (bounds : List Bound) (entry : ℕ) (b : Bound) (t : AgentTask) (s : JointState) (state : s ≡ state_of b)
    (found : Numbers) (numbers : (k : ℕ) → set.contains found k ≡ is_applicable t.acts s.publics (private_of s t.me) k) where
  abbrev gives : ℕ → Act → List AuditVerdict
  gives = cheap_steps tasks bounds entry b t

  abbrev rest : ℕ → List AuditVerdict
  rest from = from_place gives from (drop from t.acts)

  idle : (k : ℕ) (act : Act) → slice_get t.acts k ≡ Some act → set.contains found k ≡ false → gives k act ≡ []
  idle k act is none =
      step_idle tasks bounds entry b t k act s state
      (sym (ap (λ (o : Option Act). option_map_or (λ a. applies a s.publics (private_of s t.me)) o false) is) ∙ sym (numbers k) ∙ none)

  -- what is passed over on the way to the next action that applies
  to_next : (from n : ℕ) → IsLeastFrom found from n → n < length t.acts → rest n ≡ rest from
  to_next from n least inside =
      let above = least.above in
      let there : from + (n - from) ≡ n = omega arith in
      ap rest (sym there)
      ∙ all_passed gives t.acts from (n - from) (omega arith) (λ k act least_from below is.
      let before : k < n = omega arith in
      idle k act is (least.least k least_from before))

  pub next_fails : (from n : ℕ) (v : AuditVerdict) → IsLeastFrom found from n → n < length t.acts
      → ((act : Act) → slice_get t.acts n ≡ Some act → Some v ≡ slice_get (gives n act) 0) → Some v ≡ slice_get (rest from) 0
  next_fails from n v least inside first =
      let item = item_at t.acts n inside in
      let is : item.0 ≡ get_or t.acts n item.0 = sym (get_or_from_slice_get t.acts n item.0 item.0 item.1) in
      numbered_found gives t.acts n n item.0 inside is v (first item.0 item.1) ∙ ap (λ (vs : List AuditVerdict). slice_get vs 0) (to_next from n least inside)

  pub next_passed : (from n : ℕ) → IsLeastFrom found from n → n < length t.acts
      → ((act : Act) → slice_get t.acts n ≡ Some act → None ≡ slice_get (gives n act) 0) → rest (n + 1) ≡ rest from
  next_passed from n least inside none =
      let item = item_at t.acts n inside in
      let is : item.0 ≡ get_or t.acts n item.0 = sym (get_or_from_slice_get t.acts n item.0 item.0 item.1) in
      numbered_passed gives t.acts n n item.0 inside is (empty_of (gives n item.0) (none item.0 item.1)) ∙ to_next from n least inside

  pub none_next : (from : ℕ) → from ≤ length t.acts → HasNoneFrom found from → rest from ≡ []
  none_next from inside none = none_left gives t.acts from inside (λ k act least_from is. idle k act is (none k least_from))
