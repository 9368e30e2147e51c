-- The first refusal by what the texts of a request are, in the one order: the first files, one after another; the texts of the
-- agents; ground sizes, one agent after another; and then the lines of the first files, one file after another. Where the
-- source does not tell what it holds, nothing is said of files.
use Rattle.std.specs.Prelude.{◌≡◌, ◌<◌, ℕ, zero, suc, List, length, slice_get, take, Option, Some, None, Ok, Err, IfSome, IsSomeAnd}
use Rattle.mp_forms.specs.declared.factor.Factor.{Factor}
use Rattle.mp_joint.specs.Fact.{Text}
use Rattle.mp_outside.specs.Acts.{FileAsked}
use Rattle.mp_outside.specs.Source.{Files as Held}
use Rattle.mp_files.specs.declared.refusal.Refusal.{Refusal as FilesRefusal}
use Rattle.mp_grounder.specs.declared.refusal.GroundRefusal.{GroundRefusal}
use Rattle.mp_grounder.specs.declared.refusal.GroundRefusal.TheVariants.{OutOfMemory}
use Rattle.mp_optimality.specs.Audits.{IsAuditAccepted, IsCertificateRefused, IsPlanRefused}
use Rattle.mp_plans.specs.Plan.{plan_in}
use Rattle.mp_plans.specs.declared.plan.PlanText.{PlanText}
use Rattle.mp_solutions.specs.Solution.{IsRefusedLine, IsReplayed}
use Rattle.mp_solutions.specs.declared.solution.Solution.{Solution}
use Rattle.mp_solve.specs.Refused.{AreWithin}
use Rattle.mp_split.specs.Team.{IsFirstRefusal}
use Rattle.mp_top.specs.Asked.{TeamRequest, Work, values_of}
use Rattle.mp_words.specs.Requests.{Searching}
use Rattle.mp_top.specs.Asked.Work.{audited, checked, replayed, searched}
use Rattle.mp_top.specs.FirstText.{AreTextsOf, HaveTexts, text_at}
use Rattle.mp_top.specs.Team.{IsTeam, IsTextRefused}
use Rattle.mp_top.specs.declared.refusal.Refusal.{Refusal}
use Rattle.mp_top.specs.declared.refusal.Refusal.TheVariants.{Files, First, Sizes}
use Rattle.mp_top.specs.declared.refusal.FirstRefusal.{FirstRefusal}
use Rattle.mp_top.specs.declared.refusal.FirstRefusal.TheVariants.{Read, TooLarge, Line}

-- the first agent whose factor is not grounded, for its size
abbrev pub IsFirstSize : List Factor → GroundRefusal → Type 0
IsFirstSize team OutOfMemory = ⊥
IsFirstSize team r = IsFirstRefusal team r

-- a team is grounded, where it is more than a plan that is checked
abbrev pub IsSizeRefused : Work → List Factor → GroundRefusal → Type 0
IsSizeRefused checked team r = ⊥
IsSizeRefused _ team r = IsFirstSize team r

-- a line of the certificate is refused, whose file is the first, or, where that fits, a line of the plan
abbrev pub IsAuditLineRefused : List Factor → Text → Text → ℕ → ℕ → Type 0
IsAuditLineRefused team certificate plan zero number = IsCertificateRefused team certificate number
IsAuditLineRefused team certificate plan (suc zero) number = IsPlanRefused team certificate plan number
IsAuditLineRefused team certificate plan (suc (suc place)) number = ⊥

-- a line of a schedule is refused, for a team whose sizes keep the limits
abbrev pub IsScheduleLineRefused : Searching → List Factor → Text → ℕ → Type 0
IsScheduleLineRefused s team schedule number =
    AreWithin team × IsRefusedLine (values_of s.heuristic) s.limit team schedule number

-- something is found by a schedule
abbrev pub IsReplayable : Searching → List Factor → Text → Type 0
IsReplayable s team schedule =
    (found : Solution) × IsReplayed (values_of s.heuristic) s.limit team schedule found

-- A line of the first file at this place is refused: one of a schedule, for a team whose sizes keep the limits; one of a plan;
-- or, where a certificate and a plan are audited, one of the certificate or of the plan.
abbrev pub IsTextLineRefused : Work → List Factor → List Text → ℕ → ℕ → Type 0
IsTextLineRefused (searched s) team texts place number = ⊥
IsTextLineRefused (replayed s) team texts place number =
    (place ≡ 0) × IsScheduleLineRefused s team (text_at texts 0) number
IsTextLineRefused checked team texts place number =
    (place ≡ 0) × (plan_in (length team) (text_at texts 0) ≡ Err number)
IsTextLineRefused audited team texts place number =
    IsAuditLineRefused team (text_at texts 0) (text_at texts 1) place number

-- Nothing of a team and of the texts of the first files is refused: the sizes of the team keep the limits, and something is
-- found by the schedule; the text is a plan; or the one is a certificate that fits the team, and the other a plan.
abbrev pub IsAccepted : Work → List Factor → List Text → Type 0
IsAccepted (searched s) team texts = AreWithin team
IsAccepted (replayed s) team texts = AreWithin team × IsReplayable s team (text_at texts 0)
IsAccepted checked team texts = (plan : PlanText) × (plan_in (length team) (text_at texts 0) ≡ Ok plan)
IsAccepted audited team texts = AreWithin team × IsAuditAccepted team (text_at texts 0) (text_at texts 1)

module _ (held : Option Held) (request : TeamRequest) where
  -- the first file at this place is not there, and those before it fit
  pub record IsFirstAbsent (place : ℕ) : Type 0 where
    pub file : FileAsked
    pub asked : slice_get request.first place ≡ Some file
    pub before : HaveTexts held (take place request.first)
    pub absent : IfSome held (λ files. files file.name ≡ None)

  -- it is too long, and those before it fit
  pub record IsFirstLong (place : ℕ) : Type 0 where
    pub file : FileAsked
    pub asked : slice_get request.first place ≡ Some file
    pub before : HaveTexts held (take place request.first)
    pub long : IfSome held (λ files. IsSomeAnd (files file.name) (λ text. file.longest < length text))

  -- the first files fit, and of the texts of the agents this is the first refusal
  pub record IsFileRefused (r : FilesRefusal) : Type 0 where
    pub first_texts : HaveTexts held request.first
    pub first : IsTextRefused held request.texts r

  -- the first files fit, the texts of the agents lead to a team, and this is the first of its sizes that is too large
  pub record IsTooLarge (r : GroundRefusal) : Type 0 where
    pub first_texts : HaveTexts held request.first
    pub team : List Factor
    pub is_team : IsTeam held request.texts team
    pub refused : IsSizeRefused request.work team r

  -- the texts lead to a team, nothing of which is refused, and the line of this number of the first file at this place is
  pub record IsLineRefused (place number : ℕ) : Type 0 where
    pub texts : List Text
    pub are_texts : AreTextsOf held request.first texts
    pub team : List Factor
    pub is_team : IsTeam held request.texts team
    pub refused : IsTextLineRefused request.work team texts place number

  abbrev pub IsFirstRefused : ℕ → FirstRefusal → Type 0
  IsFirstRefused place Read = IsFirstAbsent place
  IsFirstRefused place TooLarge = IsFirstLong place
  IsFirstRefused place (Line number) = IsLineRefused place number

  -- this refusal comes first
  abbrev pub ComesFirst : Refusal → Type 0
  ComesFirst (Files r) = IsFileRefused r
  ComesFirst (Sizes r) = IsTooLarge r
  ComesFirst (First place r) = IsFirstRefused place r

-- the first refusal by what these files hold
abbrev pub IsFirst : Held → TeamRequest → Refusal → Type 0
IsFirst files request r = ComesFirst (Some files) request r
