-- No report is under way to any agent but agent 1.
use Rattle.mp_world.proofs.Basics.{◌≡◌, ◌≢◌, ℕ, Bool, true, false, List, [], ◌∷◌, ◌++◌, length, Option, None, refl, sym, ap, ◌∙◌, Ok, ◌==◌, eqb-true}
use Rattle.mp_world.specs.AgentWords.{AgentTask, Event, Findings, Message, Marker, Report, Pick, Trace, Length, Done, own, Local, AgentRecord, local, Outgoing, Step, others, to_each, to_one, to_others}
use Rattle.mp_world.specs.SearchWords.{Numbers, expanded}
use Rattle.mp_world.specs.Events.{local_of, taken}
use Rattle.mp_world.specs.Steps.{IsStepOf}
use Rattle.mp_world.specs.Values.{Values}
use Rattle.mp_world.specs.World.{IsTeamWorld, World}
use Rattle.mp_world.proofs.LocalCases.{StepCases, each_local, each_such}
use Rattle.mp_team_snapshots.specs.Messages.{report_of, reports}
use Rattle.mp_team_snapshots.specs.Team.{IsTeamOf, SendsFitting}
use Rattle.mp_team_snapshots.proofs.Ends.{none_next}
use Rattle.mp_team_snapshots.proofs.Protocol.{IsOf}
use Rattle.mp_team_snapshots.proofs.Quiet.{expansion_quiet}
use Rattle.mp_team_snapshots.proofs.Sendings.{none_to, reports_to, reports_to-append}

-- reports go out to agent 1 alone
abbrev pub TellsFirst : List Outgoing → Type 0
TellsFirst out = (j : ℕ) → j ≢ 1 → reports_to j out ≡ []

one_report : (found : Findings) → TellsFirst (to_one 1 (Report found))
one_report found j other = by (1 == j) refl
  where
    by : (b : Bool) → (1 == j) ≡ b → reports_to j (to_one 1 (Report found)) ≡ []
    by true test = absurd (other (sym (eqb-true 1 j test)))
    by false test = rw test refl

no_report : (m : Message) → report_of m ≡ None → (agents : List ℕ) (j : ℕ) → reports_to j (to_each agents m) ≡ []
no_report m none agents = none_to report_of (to_each agents m) (each_such (λ m. report_of m ≡ None) m none agents)

abbrev Tells : AgentRecord → Step → Type 0
Tells r s = TellsFirst s.out

telling : StepCases Tells
telling = record {
  acts = λ r. record {
    silent = λ j other. refl;
    root = λ entry back length is j other. no_report (Length length) refl (others r.task.me r.task.agents) j;
    hop = λ entry back agent sent more is j other. no_report (Trace sent more) refl (agent ∷ []) j;
    pick = λ agent cost given away j other. no_report (Pick r.snapshot.number) refl (agent ∷ []) j;
    ended = λ v kind given j other. no_report (Done kind) refl (others r.task.me r.task.agents) j;
  };
  report = λ r. one_report (own r.snapshot);
  notes = λ r new s tells. tells;
  begins = λ r new number s tells j other.
      reports_to-append j (to_others r.task (Marker number)) s.out
      ∙ ap (λ (rs : List Findings). rs ++ reports_to j s.out) (no_report (Marker number) refl (others r.task.me r.task.agents) j)
      ∙ tells j other;
  picked = λ r s tells. tells;
  ended = λ r ending share j other. refl;
}

local_tells : (value : Numbers → Numbers → Option ℕ) (r : AgentRecord) (s : Step) (event : Local) (bytes : List ℕ)
    → local value r event bytes ≡ Ok s → TellsFirst s.out
local_tells value r s event bytes is =
    each_local Tells telling value r event bytes s (λ j other. (expansion_quiet r (expanded r.task value r.search)).silent.reports j)
    (λ from x j other. refl) is

-- ---- in worlds

-- reports are under way to agent 1 alone
abbrev pub ReportsToFirst : ℕ → ℕ → World → Type 0
ReportsToFirst agents publics w = (i j : ℕ) → IsOf agents i → IsOf agents j → j ≢ 1 → reports publics w i j ≡ []

pub reports_next : (value : Values) (publics : ℕ) (tasks : List AgentTask) (team : IsTeamOf publics tasks) (w : World)
    (is : IsTeamWorld tasks w) → ReportsToFirst (length tasks) publics w → (next : World) (event : Event) (step : IsStepOf value w event next)
    → SendsFitting step.step → ReportsToFirst (length tasks) publics next
reports_next value publics tasks team w is old next event step fits =
    none_next report_of (record { state = λ s. refl; pick = λ n. refl; trace = λ sent back. refl; length = λ n. refl }) (λ i j. j ≢ 1) value publics tasks team w is old event next step fits
    (λ j other. local_tells (value step.agent.task) step.agent step.step (local_of event) (taken w event) step.local j other)
