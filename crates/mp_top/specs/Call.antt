-- What is seen of a call of the program.
use Rattle.std.specs.Prelude.{◌≡◌, ℕ, List, Option}
use Rattle.std.specs.Io.KnownBytes.{Appends}
use Rattle.mp_joint.specs.Fact.{Text}
use Rattle.mp_outside.specs.Acts.{Act}
use Rattle.mp_outside.specs.Sink.{AppendsBeginning}
use Rattle.mp_files.specs.Cause.{SeenSource}
use Rattle.mp_top.specs.declared.report.Report.{Report}
use Rattle.mp_top.specs.declared.status.Status.{Status}

-- the bytes of a sink before the call and now, where it tells, and how many faults it had and has
pub record SeenSink : Type 0 where
  pub old : Option Text
  pub new : Option Text
  pub before : ℕ
  pub now : ℕ

abbrev pub seen_sink : {K : Type 0} → (K → Option Text) → (K → ℕ) → K → K → SeenSink
seen_sink written faults old new =
    record { old = written old; new = written new; before = faults old; now = faults new }

-- a sink gained a beginning of this text, and all of it where its count of faults did not rise
abbrev pub Says : SeenSink → Text → Type 0
Says sink text =
    AppendsBeginning sink.old sink.new text
    × (sink.now ≡ sink.before → Appends sink.old sink.new text)

-- what was done at a source before the call, and what was done until now, where it tells
pub record SeenActs : Type 0 where
  pub old : Option (List Act)
  pub new : Option (List Act)

abbrev pub seen_acts : {S : Type 0} → (S → Option (List Act)) → S → S → SeenActs
seen_acts acts old new = record { old = acts old; new = acts new }

-- a call: its words, what is seen of the source, of what is done at it, and of the two sinks, the report before and now,
-- and the status
pub record Call : Type 0 where
  pub words : List Text
  pub source : SeenSource
  pub acts : SeenActs
  pub out : SeenSink
  pub err : SeenSink
  pub before : Report
  pub report : Report
  pub status : Status
