-- The outcome of a request, before it is printed.
use Rattle.std.specs.Prelude.{◌≡◌, ◌==◌, ◌++◌, ℕ, Bool, true, List, length, Ok, Option, if◌then◌else◌}
use Rattle.mp_forms.specs.declared.factor.Factor.{Factor}
use Rattle.mp_joint.specs.Fact.{Text}
use Rattle.mp_grounder.specs.declared.refusal.GroundRefusal.{GroundRefusal}
use Rattle.mp_optimality.specs.Audits.{IsAudited}
use Rattle.mp_optimality.specs.Certified.{IsCertified}
use Rattle.mp_optimality.specs.declared.auditing.PlanAudit.{PlanAudit}
use Rattle.mp_optimality.specs.declared.certifying.Certified.{Certified}
use Rattle.mp_optimality.specs.declared.refusal.AuditRefusal.{AuditRefusal}
use Rattle.mp_optimality.specs.declared.refusal.AuditRefusal.TheVariants as audit
use Rattle.mp_outside.specs.Source.{Files as Held}
use Rattle.mp_plan_verdict.specs.Verdict.{verdict}
use Rattle.mp_plan_verdict.specs.declared.verdict.CheckVerdict.{CheckVerdict}
use Rattle.mp_plan_verdict.specs.declared.verdict.CheckVerdict.TheVariants.{Valid}
use Rattle.mp_plans.specs.Packed.{steps_text}
use Rattle.mp_plans.specs.Plan.{plan_in}
use Rattle.mp_plans.specs.Verdict.{verdict_text}
use Rattle.mp_plans.specs.declared.plan.PlanText.{PlanText}
use Rattle.mp_steps.specs.declared.plan.Packed.{Packed}
use Rattle.mp_solutions.specs.Solution.{IsFoundOn, IsReplayed}
use Rattle.mp_solutions.specs.declared.solution.Solution.{Solution}
use Rattle.mp_solve.specs.Refused.{AreWithin}
use Rattle.mp_solve.specs.declared.refusal.ReplayRefusal.{ReplayRefusal}
use Rattle.mp_solve.specs.declared.refusal.ReplayRefusal.TheVariants as replay
use Rattle.mp_split.specs.Team.{IsFirstRefusal}
use Rattle.mp_top.specs.Asked.{Work, values_of}
use Rattle.mp_top.specs.Asked.Work.{audited, checked, replayed, searched}
use Rattle.mp_top.specs.First.{IsTextLineRefused}
use Rattle.mp_top.specs.Outcome.{IsOutcome, answer_status, audit_status, plan_status, printed_text, reported, told_made, told_plan}
use Rattle.mp_top.specs.Report.{IsEmptyReport}
use Rattle.mp_top.specs.declared.decision.Decision.{Decision}
use Rattle.mp_top.specs.declared.decision.Search.{Search}
use Rattle.mp_top.specs.declared.report.Report.{Report}
use Rattle.mp_words.specs.Requests.{Searching, Wanted}
use Rattle.mp_top.specs.declared.refusal.Refusal.{Refusal}
use Rattle.mp_top.specs.declared.refusal.Refusal.TheVariants.{Files, First, Sizes}
use Rattle.mp_top.specs.declared.refusal.FirstRefusal.TheVariants as first
use Rattle.mp_files.specs.declared.refusal.Refusal.TheVariants as files

-- how agents search
abbrev pub searching_by : Search → Searching
searching_by s = record { heuristic = s.heuristic; limit = s.limit }

-- its text
abbrev pub told : Decision → Text
told d = d.before ++ d.text

-- the report of it
abbrev pub report_of : Decision → Report
report_of d = record { views = d.views; log = d.log; answer = d.answer }

-- this is decided about a request
abbrev pub Decides : Option Held → Wanted → Decision → Type 0
Decides held request d = IsOutcome held request (report_of d) d.status (told d)

-- a solution is told with this text
pub record IsTold (s : Solution) (text : Text) (d : Decision) : Type 0 where
  pub views : d.views ≡ s.views
  pub log : d.log ≡ s.log
  pub answer : d.answer ≡ s.answer
  pub printed : told d ≡ text
  pub ended : d.status ≡ answer_status s.answer

-- it was found for a team whose sizes keep the limits, and has this text: by round robin on one thread alone, and otherwise
-- by some schedule until all agents had ended
pub record IsSolved (s : Searching) (one : Bool) (team : List Factor) (report : Report) (outcome : Text) : Type 0 where
  pub within : AreWithin team
  pub found : IsFoundOn (values_of s.heuristic) s.limit team one (reported report outcome)

-- it was found by the schedule that this text has
pub record IsReplayedBy
    (s : Searching)
    (team : List Factor)
    (schedule : Text)
    (report : Report)
    (outcome : Text)
    : Type 0 where
  pub within : AreWithin team
  pub found : IsReplayed (values_of s.heuristic) s.limit team schedule (reported report outcome)

-- a team solves for a plan, on one thread alone or not, and is told with the trace where that is asked for
pub record SolvesFor (s : Searching) (one trace : Bool) (team : List Factor) (d : Decision) : Type 0 where
  pub outcome : Text
  pub solved : IsSolved s one team (report_of d) outcome
  pub printed : told d ≡ printed_text trace d.log d.answer outcome
  pub ended : d.status ≡ answer_status d.answer

-- a team replays the schedule of a text
pub record ReplaysBy (s : Searching) (text : Text) (team : List Factor) (d : Decision) : Type 0 where
  pub outcome : Text
  pub replayed : IsReplayedBy s team text (report_of d) outcome
  pub printed : told d ≡ printed_text true d.log d.answer outcome
  pub ended : d.status ≡ answer_status d.answer

-- a made team of this size, with these files, solves for a plan, and is told in summary
pub record MakesFor
    (s : Searching)
    (one show : Bool)
    (texts : List Text)
    (size : ℕ)
    (team : List Factor)
    (d : Decision)
    : Type 0 where
  pub outcome : Text
  pub solved : IsSolved s one team (report_of d) outcome
  pub printed : told d ≡ told_made show texts size d.answer
  pub ended : d.status ≡ answer_status d.answer

-- the steps of a plan that solves at this cost are told, where its text states the cost, and else the cost
pub record IsToldOfSteps (packed : Packed) (plan : PlanText) (d : Decision) : Type 0 where
  pub empty : IsEmptyReport (report_of d)
  pub printed :
      told d ≡ (if packed.cost == plan.cost then steps_text plan.plan packed
      else verdict_text (Valid packed.cost) plan.cost)
  pub ended : d.status ≡ plan_status (Valid packed.cost) plan.cost

-- what is told of a plan of a team, with its steps where they are asked for
pub record IsToldByTeam (steps : Bool) (team : List Factor) (plan : PlanText) (d : Decision) : Type 0 where
  pub empty : IsEmptyReport (report_of d)
  pub printed : told d ≡ told_plan steps team plan
  pub ended : d.status ≡ plan_status (verdict team plan.plan) plan.cost

-- what is found of a plan is told, with an empty report
pub record IsToldOfPlan (found : CheckVerdict) (stated : ℕ) (d : Decision) : Type 0 where
  pub empty : IsEmptyReport (report_of d)
  pub printed : told d ≡ verdict_text found stated
  pub ended : d.status ≡ plan_status found stated

-- what is found of the plan of a text
pub record ChecksFor (steps : Bool) (text : Text) (team : List Factor) (d : Decision) : Type 0 where
  pub plan : PlanText
  pub is_plan : plan_in (length team) text ≡ Ok plan
  pub is_told : IsToldByTeam steps team plan d

-- what certifies an answer is told
pub record IsToldByCertificate (c : Certified) (d : Decision) : Type 0 where
  pub views : d.views ≡ c.solution.views
  pub log : d.log ≡ c.solution.log
  pub answer : d.answer ≡ c.solution.answer
  pub printed : told d ≡ c.text
  pub ended : d.status ≡ answer_status c.solution.answer

-- what an audit finds is told, with an empty report
pub record IsToldByAudit (found : PlanAudit) (d : Decision) : Type 0 where
  pub empty : IsEmptyReport (report_of d)
  pub printed : told d ≡ found.text
  pub ended : d.status ≡ audit_status found

-- a team searches without a heuristic, and what certifies its answer is told
pub record CertifiesFor (limit : ℕ) (team : List Factor) (d : Decision) : Type 0 where
  pub outcome : Text
  pub within : AreWithin team
  pub certified : IsCertified limit team (reported (report_of d) outcome) (told d)
  pub ended : d.status ≡ answer_status d.answer

-- what is found of the certificate and the plan of two texts, with an empty report
pub record AuditsFor (certificate plan : Text) (team : List Factor) (d : Decision) : Type 0 where
  pub found : PlanAudit
  pub is_audited : IsAudited team certificate plan found
  pub is_told : IsToldByAudit found d

-- what is said of a schedule that is not replayed
abbrev pub refusal_of : ReplayRefusal → Refusal
refusal_of (replay.Sizes r) = Sizes r
refusal_of (replay.Line number) = First 0 (first.Line number)

-- what is said of a certificate and a plan that are not audited
abbrev pub refusal_of_audit : AuditRefusal → Refusal
refusal_of_audit (audit.Sizes r) = Sizes r
refusal_of_audit (audit.Certificate number) = First 0 (first.Line number)
refusal_of_audit (audit.Plan number) = First 1 (first.Line number)

-- an agent whose factor is not grounded; a plan is checked without
abbrev pub IsGroundRefused : Work → List Factor → GroundRefusal → Type 0
IsGroundRefused (searched s) team r = IsFirstRefusal team r
IsGroundRefused (replayed s) team r = IsFirstRefusal team r
IsGroundRefused checked team r = ⊥
IsGroundRefused audited team r = IsFirstRefusal team r

-- a refusal behind the reading of the texts: of the first agent whose factor is not grounded, of a line of a first text, or
-- for want of memory
abbrev pub IsRefusedTeam : Work → List Factor → List Text → Refusal → Type 0
IsRefusedTeam work team texts (Files r) = r ≡ files.OutOfMemory
IsRefusedTeam work team texts (Sizes r) = IsGroundRefused work team r
IsRefusedTeam work team texts (First place first.Read) = ⊥
IsRefusedTeam work team texts (First place first.TooLarge) = ⊥
IsRefusedTeam work team texts (First place (first.Line number)) = IsTextLineRefused work team texts place number
