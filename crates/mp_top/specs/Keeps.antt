-- What each call of the program keeps.
use Rattle.std.specs.Prelude.{◌≡◌, ◌<◌, ◌⊎◌, List, [], map, MatchOption}
use Rattle.std.specs.Io.KnownBytes.{Appends}
use Rattle.mp_joint.specs.Fact.{Text}
use Rattle.mp_outside.specs.Acts.{AreReadInTurn, Does, FileAsked}
use Rattle.mp_outside.specs.Sink.{AppendsBeginning}
use Rattle.mp_words.specs.Requests.{Wanted, request_of}
use Rattle.mp_top.specs.Asked.{files_asked, names_of_texts, team_request, texts_of}
use Rattle.mp_top.specs.Call.{Call, Says}
use Rattle.mp_top.specs.Cause.{Rests}
use Rattle.mp_top.specs.Outcome.{IsOutcome}
use Rattle.mp_top.specs.Refusal.{status_of, line_of, memory_line, words_line, write_line}
use Rattle.mp_top.specs.declared.refusal.Refusal.{Refusal}
use Rattle.mp_top.specs.declared.status.Status.{Status}
use Rattle.mp_top.specs.declared.status.Status.TheVariants as status

-- `out` gained nothing and had no fault, and the report stays as it was
pub record PrintsNothing (call : Call) : Type 0 where
  pub out : call.out.new ≡ call.out.old
  pub no_fault : call.out.now ≡ call.out.before
  pub report : call.report ≡ call.before

-- `out` gained the whole text of the outcome of a request, with its status and its report, and had no fault, and `err` is told
-- nothing
abbrev pub PrintsOutcome : Call → Wanted → Type 0
PrintsOutcome call request =
    (text : Text) × IsOutcome call.source.held request call.report call.status text
    × Appends call.out.old call.out.new text × (call.out.now ≡ call.out.before) × Says call.err []

-- `out` had a fault, of which the status and `err` tell; it gained a beginning of the text of the outcome
abbrev pub FailsToPrint : Call → Wanted → Type 0
FailsToPrint call request =
    (text : Text) × (ended : Status) × IsOutcome call.source.held request call.report ended text
    × AppendsBeginning call.out.old call.out.new text × (call.out.before < call.out.now)
    × (call.status ≡ status.Write) × Says call.err write_line

-- the line of a refusal, with the names that a request has
abbrev pub line_for : Wanted → Refusal → Text
line_for request r =
    line_of (map (λ (file : FileAsked). file.name) (team_request request).first) (names_of_texts (texts_of request)) r

-- nothing is printed; there is a refusal that has its cause, of which the status and `err` tell
abbrev pub IsRefusal : Call → Wanted → Type 0
IsRefusal call request =
    PrintsNothing call
    × ((r : Refusal) × Rests call.source (team_request request) r × (call.status ≡ status_of r)
    × Says call.err (line_for request r))

-- nothing is printed about words that are not accepted, of which the status and `err` tell, unless memory ran out before that
-- was known
abbrev pub RefusesWords : Call → Type 0
RefusesWords call =
    PrintsNothing call
    × (((call.status ≡ status.Words) × Says call.err words_line)
    ⊎ ((call.status ≡ status.Memory) × Says call.err memory_line))

-- how a call ends
abbrev pub Ends : Call → Type 0
Ends call =
    MatchOption (request_of call.words) (RefusesWords call)
    (λ request. PrintsOutcome call request ⊎ FailsToPrint call request ⊎ IsRefusal call request)

-- These files were read and nothing else was done at the source: each was begun at most once, in their order, and at most one
-- byte past its limit was taken of it, by reads of which each but the last took at least one byte.
abbrev pub ReadsInTurn : Call → List FileAsked → Type 0
ReadsInTurn call files = Does (AreReadInTurn files) call.acts.old call.acts.new

-- the files of a request, and none for words that are not accepted
abbrev pub ReadsFiles : Call → Type 0
ReadsFiles call =
    MatchOption (request_of call.words) (ReadsInTurn call [])
    (λ request. ReadsInTurn call (files_asked (team_request request)))

-- The promises of a call, by name:
-- ends: how it ends, with which status, what `out` gains, what the report holds, and the line on `err`: by the outcome of the
-- request, by a fault of `out`, or by a refusal that has its cause;
-- read_faults: no fault of reading is passed over;
-- files: which files are read, in which order and how far.
pub record Keeps (call : Call) : Type 0 where
  pub ends : Ends call
  pub read_faults : call.source.before < call.source.now → call.status ≡ status.Read
  pub files : ReadsFiles call
