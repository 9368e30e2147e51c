-- What certifies for the files of a team how its search without a heuristic ended.
use Rattle.std.specs.Prelude.{◌≡◌, ℕ, List, [], ◌∷◌, ◌++◌, map, codes, Some}
use Rattle.mp_audit.specs.Failures.{verdict_on}
use Rattle.mp_audit.specs.LastCut.{last_bounds, said_by}
use Rattle.mp_audit.specs.declared.certificate.Certificate.{Certificate}
use Rattle.mp_audit.specs.declared.verdict.AuditVerdict.TheVariants.{Holds}
use Rattle.mp_certificates.specs.Accepted.{IsCertificate}
use Rattle.mp_certificates.specs.Text.{certificate_text}
use Rattle.mp_forms.specs.declared.factor.Factor.{Factor}
use Rattle.mp_messages.specs.History.{schedule}
use Rattle.mp_solutions.specs.Solution.{IsSolution}
use Rattle.mp_solutions.specs.declared.solution.Solution.{Solution}
use Rattle.mp_split.specs.Team.{AreTasksOf}
use Rattle.mp_split.specs.declared.team.Tasks.{Tasks}
use Rattle.mp_task.specs.AgentTask.{AgentTask}
use Rattle.mp_team_states.specs.Expansions.{nothing_known}
use Rattle.mp_text.specs.Lines.{Text}
use Rattle.mp_world.specs.Answers.{answer_of}
use Rattle.mp_world.specs.Events.{run}
use Rattle.mp_world.specs.Team.{team_with}
use Rattle.mp_world.specs.World.{World}
use Rattle.mp_world.specs.declared.answer.Answer.{Answer}
use Rattle.mp_world.specs.declared.answer.Answer.TheVariants.{Nothing, Solved, Unsolvable, Undecided}

-- A certificate with this cost has the bounds of the last cut, it fits the tasks, so that its text is read as this certificate
-- again, and an audit finds that it holds.
pub record IsOfLastCut (tasks : List AgentTask) (last : World) (cost : ℕ) (certificate : Certificate) : Type 0 where
  pub cost_is : certificate.cost ≡ cost
  pub bounds_are : map said_by certificate.bounds ≡ last_bounds last cost
  pub fits : IsCertificate tasks certificate
  pub holds : verdict_on tasks certificate ≡ Holds

-- the text of such a certificate
abbrev pub TellsCertificate : List AgentTask → World → ℕ → Text → Type 0
TellsCertificate tasks last cost text =
    (certificate : Certificate) × IsOfLastCut tasks last cost certificate × (text ≡ certificate_text certificate)

-- the same in a world that has the answer of a plan
abbrev pub TellsSolved : List AgentTask → World → Text → Type 0
TellsSolved tasks last text =
    (cost steps : ℕ) → answer_of last ≡ Solved cost steps → TellsCertificate tasks last cost text

-- what is told by the answer: a certificate where a plan was found, and else a line
abbrev pub TellsAnswer : List AgentTask → World → Answer → Text → Type 0
TellsAnswer tasks last Nothing text = text ≡ []
TellsAnswer tasks last (Solved cost steps) text = TellsCertificate tasks last cost text
TellsAnswer tasks last Unsolvable text = text ≡ codes "unsolvable" ++ 10 ∷ []
TellsAnswer tasks last Undecided text = text ≡ codes "undecided" ++ 10 ∷ []

-- This was found for the files of a team without a heuristic, by round robin on one thread, and the text tells the answer by the
-- world that the run of its log led to.
pub record IsCertified (limit : ℕ) (team : List Factor) (found : Solution) (text : Text) : Type 0 where
  pub solution : IsSolution nothing_known limit team found
  pub tasks : Tasks
  pub are_tasks : AreTasksOf team tasks
  pub last : World
  pub leads : run (team_with nothing_known limit tasks.tasks) (schedule found.log) ≡ Some last
  pub told : TellsAnswer tasks.tasks last found.answer text
