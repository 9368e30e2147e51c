-- What follows of what a call keeps: which statuses it can have, that the first refusal comes, and what is told of a valid plan.
use Rattle.std.specs.Prelude.{◌≡◌, ◌≤◌, ◌⊎◌, ℕ, Bool, true, false, List, [], ◌∷◌, ◌++◌, codes, decimal}
use Rattle.mp_forms.specs.declared.factor.Factor.{Factor}
use Rattle.mp_joint.specs.Fact.{Text}
use Rattle.mp_outside.specs.Source.{Files as Held}
use Rattle.mp_plans.specs.Packed.{steps_text}
use Rattle.mp_plans.specs.declared.plan.PlanText.{PlanText}
use Rattle.mp_words.specs.Requests.{Wanted}
use Rattle.mp_words.specs.Requests.Wanted.{audits, certifies, checks, makes, replays, solves}
use Rattle.mp_top.specs.Asked.{TeamRequest}
use Rattle.mp_top.specs.Call.{Call, Says}
use Rattle.mp_top.specs.First.{IsFirst}
use Rattle.mp_top.specs.Keeps.{line_for}
use Rattle.mp_top.specs.Outcome.{packing_of}
use Rattle.mp_top.specs.Refusal.{status_of}
use Rattle.mp_top.specs.declared.refusal.Refusal.{Refusal}
use Rattle.mp_top.specs.declared.status.Status.{Status}
use Rattle.mp_top.specs.declared.status.Status.TheVariants as status

-- what these files hold has no first refusal
abbrev pub IsNotRefused : Held → TeamRequest → Type 0
IsNotRefused files request = (r : Refusal) → IsFirst files request r → ⊥

-- neither the source nor the output had a fault
pub record HadNoFault (call : Call) : Type 0 where
  pub source : call.source.now ≤ call.source.before
  pub out : call.out.now ≤ call.out.before

-- the statuses of answers
abbrev pub IsSolved : Status → Type 0
IsSolved ended = (ended ≡ status.Solved) ⊎ (ended ≡ status.No) ⊎ (ended ≡ status.Undecided)

-- a status of an outcome: of an answer, or that of a schedule that ended before there was one, or of what is found of a
-- plan, or of a certificate and a plan
abbrev pub IsOutcomeStatus : Wanted → Status → Type 0
IsOutcomeStatus (solves w) ended = IsSolved ended
IsOutcomeStatus (replays w) ended = IsSolved ended ⊎ (ended ≡ status.Unfinished)
IsOutcomeStatus (checks w) ended = (ended ≡ status.Solved) ⊎ (ended ≡ status.No)
IsOutcomeStatus (certifies w) ended = IsSolved ended
IsOutcomeStatus (audits w) ended = (ended ≡ status.Solved) ⊎ (ended ≡ status.No)
IsOutcomeStatus (makes w) ended = IsSolved ended

-- the status is one of an outcome of the request, or memory ran out
abbrev pub IsAnswered : Wanted → Call → Type 0
IsAnswered request call = IsOutcomeStatus request call.status ⊎ (call.status ≡ status.Memory)

-- a refusal is told, but for a fault of reading or want of memory
abbrev pub TellsFirst : Call → Wanted → Refusal → Type 0
TellsFirst call request r =
    (call.status ≡ status.Read) ⊎ (call.status ≡ status.Memory)
    ⊎ ((call.status ≡ status_of r) × Says call.err (line_for request r))

-- ---- plans that are checked

-- the text of a valid plan
abbrev pub valid_text : ℕ → Text
valid_text cost = (codes "valid cost " ++ decimal cost) ++ 10 ∷ []

-- the text says that a plan solves at the cost that its text states
abbrev pub TellsValid : Bool → List Factor → PlanText → Text → Type 0
TellsValid false team plan text = (cost : ℕ) × (text ≡ valid_text cost)
TellsValid true team plan text = text ≡ steps_text plan.plan (packing_of team plan.plan plan.cost)
