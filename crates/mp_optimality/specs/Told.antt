-- What is told of a plan and of a certificate: one line, with its line feed.
use Rattle.std.specs.Prelude.{ℕ, ◌==◌, ◌&&◌, Bool, false, [], ◌∷◌, ◌++◌, codes, if◌then◌else◌}
use Rattle.mp_audit.specs.declared.verdict.AuditVerdict.{AuditVerdict}
use Rattle.mp_audit.specs.declared.verdict.AuditVerdict.TheVariants.{Holds, Double, Start, Goal, Step}
use Rattle.mp_plan_verdict.specs.declared.verdict.CheckVerdict.{CheckVerdict}
use Rattle.mp_plan_verdict.specs.declared.verdict.CheckVerdict.TheVariants.{Valid}
use Rattle.mp_plans.specs.Verdict.{verdict_text}
use Rattle.mp_text.specs.Lines.{Text}
use Rattle.mp_text.specs.Outcome.{labelled}

-- a plan solves, at the cost that its text states
abbrev pub is_valid : CheckVerdict → ℕ → Bool
is_valid (Valid cost) stated = cost == stated
is_valid _ stated = false

-- an audit of a certificate with this bound shows that no plan costs less than this
abbrev pub is_shown : AuditVerdict → ℕ → ℕ → Bool
is_shown Holds bound cost = bound == cost
is_shown _ bound cost = false

-- both, for a certificate with this bound and a plan whose text states this cost
abbrev pub is_optimal : CheckVerdict → AuditVerdict → ℕ → ℕ → Bool
is_optimal found audit bound stated = is_valid found stated && is_shown audit bound stated

-- `optimal cost C`, where the bound that holds is the plan's cost, and else `invalid bound is B`
abbrev pub bound_line : ℕ → ℕ → Text
bound_line bound cost =
    if bound == cost then labelled (codes "optimal cost ") cost else labelled (codes "invalid bound is ") bound

-- `fails at K action A agent J`
abbrev pub step_line : ℕ → ℕ → ℕ → Text
step_line entry action agent =
    labelled (codes "fails at ") entry
    ++ (labelled (codes " action ") action ++ labelled (codes " agent ") agent)

-- what an audit found, for a certificate with this bound and a plan of this cost
unfoldable pub audit_line : AuditVerdict → ℕ → ℕ → Text
audit_line Holds bound cost = bound_line bound cost
audit_line (Double entry) bound cost = labelled (codes "fails double ") entry
audit_line (Start agent) bound cost = labelled (codes "fails at start agent ") agent
audit_line (Goal entry) bound cost = labelled (codes "fails goal ") entry
audit_line (Step entry action agent) bound cost = step_line entry action agent

abbrev pub audit_text : AuditVerdict → ℕ → ℕ → Text
audit_text audit bound cost = audit_line audit bound cost ++ 10 ∷ []

-- a plan that is not valid at the cost that its text states is told by what a check finds, and else by what the audit finds
abbrev pub told_audit : CheckVerdict → AuditVerdict → ℕ → ℕ → Text
told_audit found audit bound stated =
    if is_valid found stated then audit_text audit bound stated else verdict_text found stated

-- the text of a plan that no other one undercuts
abbrev pub optimal_text : ℕ → Text
optimal_text cost = labelled (codes "optimal cost ") cost ++ 10 ∷ []
