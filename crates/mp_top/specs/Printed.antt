-- What telling a decision comes to.
use Rattle.std.specs.Prelude.{◌≡◌, ◌<◌, ◌⊎◌, [], List}
use Rattle.std.specs.Io.KnownBytes.{Appends}
use Rattle.mp_files.specs.Team.{Two}
use Rattle.mp_joint.specs.Fact.{Text}
use Rattle.mp_outside.specs.Sink.{AppendsBeginning}
use Rattle.mp_top.specs.Call.{SeenSink, Says}
use Rattle.mp_top.specs.Decided.{report_of, told}
use Rattle.mp_top.specs.Refusal.{line_of, status_of, write_line}
use Rattle.mp_top.specs.declared.decision.Decision.{Decision}
use Rattle.mp_top.specs.declared.refusal.Refusal.{Refusal}
use Rattle.mp_top.specs.declared.report.Report.{Report}
use Rattle.mp_top.specs.declared.status.Status.{Status}
use Rattle.mp_top.specs.declared.status.Status.TheVariants as status

-- its text was written whole, and nothing told, or a write failed, and that is told
abbrev pub Writes : SeenSink → SeenSink → Decision → Status → Type 0
Writes out err d ended =
    ((ended ≡ d.status) × Appends out.old out.new (told d) × (out.now ≡ out.before) × Says err [])
    ⊎ ((ended ≡ status.Write) × AppendsBeginning out.old out.new (told d)
    × (out.before < out.now) × Says err write_line)

-- a decision is kept in the report and written
abbrev pub Publishes : SeenSink → SeenSink → Report → Status → Decision → Type 0
Publishes out err report ended d = (report ≡ report_of d) × Writes out err d ended

-- a refusal is told, with the names of the first files and of the files of the agents, and nothing else is done
pub record TellsRefusal
    (first : List Text)
    (agents : List Two)
    (out err : SeenSink)
    (before report : Report)
    (ended : Status)
    (r : Refusal)
    : Type 0 where
  pub is_ended : ended ≡ status_of r
  pub nothing_written : out.new ≡ out.old
  pub no_fault : out.now ≡ out.before
  pub same_report : report ≡ before
  pub line : Says err (line_of first agents r)
