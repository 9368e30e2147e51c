-- What is found of a certificate, by its parts.
use Rattle.std.proofs.Common.{◌≡◌, ℕ, List, [], ◌++◌, Option, Some, slice_get, sym, ap, ◌∙◌}
use Rattle.std.specs.Option.{option_map_or}
use Rattle.mp_task.specs.AgentTask.{AgentTask}
use Rattle.mp_audit.specs.declared.certificate.Bound.{Bound}
use Rattle.mp_audit.specs.declared.verdict.AuditVerdict.{AuditVerdict}
use Rattle.mp_audit.specs.declared.verdict.AuditVerdict.TheVariants.{Holds, Double}
use Rattle.mp_audit.specs.Failures.{all_entry_failures, doubles, low_starts, verdict_on}
use Rattle.mp_audit.proofs.FirstLemmas.{first_of}

module _ (tasks : List AgentTask) (bounds : List Bound) (cost : ℕ) where
  -- the failures behind those of entries that repeat an earlier one
  abbrev pub behind : List AuditVerdict
  behind = low_starts tasks bounds cost ++ all_entry_failures tasks bounds

  pub once_verdict : (o : Option AuditVerdict) → doubles bounds ≡ [] → o ≡ slice_get behind 0
      → option_map_or (λ v. v) o Holds ≡ verdict_on tasks (record { cost = cost; bounds = bounds })
  once_verdict o once first =
      ap (λ (p : Option AuditVerdict). option_map_or (λ v. v) p Holds)
      (first ∙ ap (λ (vs : List AuditVerdict). slice_get (vs ++ behind) 0) (sym once))

  pub double_verdict : (entry : ℕ) → slice_get (doubles bounds) 0 ≡ Some (Double entry) → Double entry ≡ verdict_on tasks (record { cost = cost; bounds = bounds })
  double_verdict entry first =
      ap (λ (p : Option AuditVerdict). option_map_or (λ v. v) p Holds) (first_of (doubles bounds) behind (Double entry) (sym first))
