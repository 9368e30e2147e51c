-- What is printed for a request, and the report.
use Rattle.std.specs.Prelude.{◌≡◌, ℕ, ◌&&◌, List, [], ◌∷◌, ◌++◌, length, codes, Bool, true, Option, Ok, if◌then◌else◌}
use Rattle.mp_forms.specs.declared.factor.Factor.{Factor}
use Rattle.mp_joint.specs.Fact.{Text}
use Rattle.mp_joint.specs.FactorContribution.{team_of}
use Rattle.mp_joint.specs.declared.plan.PlanStep.{PlanStep}
use Rattle.mp_logs.specs.Alike.{AreAlike}
use Rattle.mp_optimality.specs.Audits.{IsAudited}
use Rattle.mp_optimality.specs.Certified.{IsCertified}
use Rattle.mp_optimality.specs.Told.{is_valid}
use Rattle.mp_optimality.specs.declared.auditing.PlanAudit.{PlanAudit}
use Rattle.mp_outside.specs.Source.{Files}
use Rattle.mp_messages.specs.declared.history.Entry.{Entry}
use Rattle.mp_plan_verdict.specs.Verdict.{verdict}
use Rattle.mp_plan_verdict.specs.declared.verdict.CheckVerdict.{CheckVerdict}
use Rattle.mp_plans.specs.Made.{made_text, shown_text}
use Rattle.mp_plans.specs.Packed.{steps_text}
use Rattle.mp_plans.specs.Plan.{plan_in}
use Rattle.mp_plans.specs.Verdict.{verdict_text}
use Rattle.mp_plans.specs.declared.plan.PlanText.{PlanText}
use Rattle.mp_steps.specs.PlanSteps.{plan_chain, plan_steps}
use Rattle.mp_steps.specs.declared.plan.Packed.{Packed}
use Rattle.mp_text.specs.Alike.{TellTheSame}
use Rattle.mp_text.specs.Trace.{trace_text}
use Rattle.mp_words.specs.Requests.{Searching, Wanted}
use Rattle.mp_words.specs.Requests.Wanted.{audits, certifies, checks, makes, replays, solves}
use Rattle.mp_maker.specs.Delivery.{delivery}
use Rattle.mp_world.specs.declared.answer.Answer.{Answer}
use Rattle.mp_world.specs.declared.answer.Answer.TheVariants.{Nothing, Solved, Unsolvable, Undecided}
use Rattle.mp_solutions.specs.Solution.{IsFoundOn, IsReplayed}
use Rattle.mp_solutions.specs.declared.solution.Solution.{Solution}
use Rattle.mp_solve.specs.Refused.{AreWithin}
use Rattle.mp_top.specs.Asked.{team_request, texts_of, values_of, without_heuristic}
use Rattle.mp_top.specs.FirstText.{AreTextsOf, text_at}
use Rattle.mp_top.specs.Report.{IsEmptyReport}
use Rattle.mp_top.specs.Team.{IsReadFor}
use Rattle.mp_top.specs.declared.report.Report.{Report}
use Rattle.mp_top.specs.declared.status.Status.{Status}
use Rattle.mp_top.specs.declared.status.Status.TheVariants as status

-- the line behind a trace: an answer follows, or the events ended before there was one
abbrev pub behind_trace : Answer → Text
behind_trace Nothing = codes "unfinished"
behind_trace (Solved cost steps) = codes "answer"
behind_trace Unsolvable = codes "answer"
behind_trace Undecided = codes "answer"

-- with a trace, what the agents did and the line behind it come first
abbrev pub printed_text : Bool → List Entry → Answer → Text → Text
printed_text trace log answer outcome =
    if trace then trace_text log ++ (behind_trace answer ++ 10 ∷ outcome) else outcome

-- a report with the text of the outcome
abbrev pub reported : Report → Text → Solution
reported report outcome =
    record { views = report.views; log = report.log; answer = report.answer; text = outcome }

-- the text of a made team: a summary, behind the files of the team where they are asked for
abbrev pub told_made : Bool → List Text → ℕ → Answer → Text
told_made show texts size answer = (if show then shown_text texts else []) ++ made_text size answer

-- the status of a call that printed an answer
abbrev pub answer_status : Answer → Status
answer_status Nothing = status.Unfinished
answer_status (Solved cost length) = status.Solved
answer_status Unsolvable = status.No
answer_status Undecided = status.Undecided

-- the status of a call that printed what is found of a plan
abbrev pub plan_status : CheckVerdict → ℕ → Status
plan_status found stated = if is_valid found stated then status.Solved else status.No

-- the steps and the chain of a plan of a team, with this cost
abbrev pub packing_of : List Factor → List PlanStep → ℕ → Packed
packing_of team plan cost =
    record { cost = cost; steps = plan_steps (team_of team) plan; chain = plan_chain (team_of team) plan }

-- what is told of a plan: its steps, where they are asked for and it solves at the cost that its text states, and else what
-- is found of it
abbrev pub told_plan : Bool → List Factor → PlanText → Text
told_plan steps team plan =
    if steps && is_valid (verdict team plan.plan) plan.cost
    then steps_text plan.plan (packing_of team plan.plan plan.cost)
    else verdict_text (verdict team plan.plan) plan.cost

-- the status of a call that printed what an audit finds
abbrev pub audit_status : PlanAudit → Status
audit_status found = if found.optimal then status.Solved else status.No

-- ---- What is printed of a team, with this report and status.

module _ (team : List Factor) (report : Report) (ended : Status) (text : Text) where
  -- What agents found, whose sizes keep the limits: the report is that of what is found so, and what is printed tells its text.
  pub record TellsFound (is_found : Solution → Type 0) (telling : Text → Text) : Type 0 where
    pub outcome : Text
    pub within : AreWithin team
    pub found : is_found (reported report outcome)
    pub printed : text ≡ telling outcome
    pub is_ended : ended ≡ answer_status report.answer

  -- what is found of the plan of a text, or its steps, with an empty report
  pub record TellsPlan (steps : Bool) (first : Text) : Type 0 where
    pub plan : PlanText
    pub is_plan : plan_in (length team) first ≡ Ok plan
    pub empty : IsEmptyReport report
    pub printed : text ≡ told_plan steps team plan
    pub is_ended : ended ≡ plan_status (verdict team plan.plan) plan.cost

  -- what certifies an answer that was found without a heuristic, a certificate where it is a plan
  pub record TellsCertificate (limit : ℕ) : Type 0 where
    pub outcome : Text
    pub within : AreWithin team
    pub certified : IsCertified limit team (reported report outcome) text
    pub is_ended : ended ≡ answer_status report.answer

  -- what is found of the certificate and the plan of two texts, with an empty report
  pub record TellsAudit (certificate plan : Text) : Type 0 where
    pub found : PlanAudit
    pub is_audited : IsAudited team certificate plan found
    pub empty : IsEmptyReport report
    pub printed : text ≡ found.text
    pub is_ended : ended ≡ audit_status found

  -- What is printed for a request, where its first files have these texts: what is found by round robin on one thread alone, and
  -- otherwise by some schedule until all agents have ended, after the trace where that is asked for; what is found by the
  -- schedule that the first text has, after the trace; or in summary, behind the files of a made team where they are asked for.
  abbrev pub Tells : Wanted → List Text → Type 0
  Tells (solves w) first =
      TellsFound (IsFoundOn (values_of w.search.heuristic) w.search.limit team w.work.one)
      (printed_text w.trace report.log report.answer)
  Tells (replays w) first =
      TellsFound (IsReplayed (values_of w.search.heuristic) w.search.limit team (text_at first 0))
      (printed_text true report.log report.answer)
  Tells (checks w) first = TellsPlan w.steps (text_at first 0)
  Tells (certifies w) first = TellsCertificate w.limit
  Tells (audits w) first = TellsAudit (text_at first 0) (text_at first 1)
  Tells (makes w) first =
      TellsFound (IsFoundOn (values_of w.search.heuristic) w.search.limit team w.work.one)
      (λ outcome. told_made w.show (delivery w.size w.number) w.size report.answer)

-- What is printed for a request, with the report and the status of its outcome: it is told of the factors of its texts, and of
-- the texts of its first files.
pub record IsOutcome (held : Option Files) (request : Wanted) (report : Report) (ended : Status) (text : Text) : Type 0 where
  pub first : List Text
  pub are_first : AreTextsOf held (team_request request).first first
  pub team : List Factor
  pub is_team : IsReadFor held (texts_of request) team
  pub told : Tells team report ended text request first

-- ---- For what is said of two outcomes.

-- what was printed for a request
pub record Printed (held : Option Files) (request : Wanted) : Type 0 where
  pub report : Report
  pub ended : Status
  pub text : Text
  pub outcome : IsOutcome held request report ended text

-- the agents of a request search so
abbrev pub Searches : Wanted → Searching → Type 0
Searches (solves w) s = w.search ≡ s
Searches (replays w) s = w.search ≡ s
Searches (checks w) s = ⊥
Searches (certifies w) s = without_heuristic w.limit ≡ s
Searches (audits w) s = ⊥
Searches (makes w) s = w.search ≡ s

-- each event is printed
abbrev pub HasTrace : Wanted → Type 0
HasTrace (solves w) = w.trace ≡ true
HasTrace (replays w) = Unit {0}
HasTrace (checks w) = ⊥
HasTrace (certifies w) = ⊥
HasTrace (audits w) = ⊥
HasTrace (makes w) = ⊥

-- the events of a request happen one after another: those of a schedule that is replayed, or of a search on one thread alone
abbrev pub IsInTurn : Wanted → Type 0
IsInTurn (solves w) = w.work.one ≡ true
IsInTurn (replays w) = Unit {0}
IsInTurn (checks w) = ⊥
IsInTurn (certifies w) = Unit {0}
IsInTurn (audits w) = ⊥
IsInTurn (makes w) = w.work.one ≡ true

-- One schedule, the same messages between each two agents in the same order, one trace and the same counts, and one answer.
pub record AreSameRuns (report other : Report) : Type 0 where
  pub alike : AreAlike report.log other.log
  pub texts : TellTheSame report.log other.log
  pub answer : other.answer ≡ report.answer

-- The same was printed again, with the same status, and the same was found, and shown. The logs are equal where the events of
-- the first happened one after another.
pub record IsPrintedAgain
    (held other : Option Files)
    (request its : Wanted)
    (first : Printed held request)
    (second : Printed other its)
    : Type 0 where
  pub text : second.text ≡ first.text
  pub ended : second.ended ≡ first.ended
  pub runs : AreSameRuns first.report second.report
  pub views : second.report.views ≡ first.report.views
  pub log : IsInTurn request → second.report.log ≡ first.report.log
