-- Why a schedule is not replayed.
use Rattle.std.specs.Prelude.{◌≡◌, ℕ, false, List, Some, Err, slice_get}
use Rattle.mp_forms.specs.declared.factor.Factor.{Factor}
use Rattle.mp_grounder.specs.Limits.{IsWithin}
use Rattle.mp_grounder.specs.declared.refusal.GroundRefusal.TheVariants.{OutOfMemory}
use Rattle.mp_joint.specs.Fact.{Text}
use Rattle.mp_solutions.specs.Solution.{IsRefusedLine, StopsAt}
use Rattle.mp_split.specs.Team.{IsFirstRefusal, known_at}
use Rattle.mp_text.specs.Schedule.{schedule_in}
use Rattle.mp_text.specs.declared.schedule.EventLine.{EventLine}
use Rattle.mp_world.specs.Events.{is_legal}
use Rattle.mp_world.specs.Team.{Team}
use Rattle.mp_world.specs.Values.{Values}
use Rattle.mp_world.specs.World.{World}
use Rattle.mp_solve.specs.declared.refusal.ReplayRefusal.{ReplayRefusal}
use Rattle.mp_solve.specs.declared.refusal.ReplayRefusal.TheVariants.{Sizes, Line}

-- no agent's factor is too large
abbrev pub AreWithin : List Factor → Type 0
AreWithin team =
    (place : ℕ) (factor : Factor) → slice_get team place ≡ Some factor → IsWithin (known_at team place factor)

-- memory ran out, or an event of these lines may not happen when it is its turn
abbrev pub Stops : Team → List EventLine → ReplayRefusal → Type 0
Stops team lines (Sizes refusal) = refusal ≡ OutOfMemory
Stops team lines (Line number) = StopsAt team lines number

-- memory ran out, or the event of this line may not happen in a world
abbrev pub MayNot : World → EventLine → ReplayRefusal → Type 0
MayNot w line (Sizes refusal) = refusal ≡ OutOfMemory
MayNot w line (Line number) = (is_legal w line.event ≡ false) × (line.line ≡ number)

-- memory ran out, or the line of this number is neither of an event nor of a message
abbrev pub IsUnread : ℕ → Text → ReplayRefusal → Type 0
IsUnread agents text (Sizes refusal) = refusal ≡ OutOfMemory
IsUnread agents text (Line number) = schedule_in agents text ≡ Err number

-- the first agent's factor that is too large, or, where none is, the refused line of the schedule's text
abbrev pub Refuses
    : Values → ℕ → List Factor → Text → ReplayRefusal → Type 0
Refuses value limit team text (Sizes refusal) = IsFirstRefusal team refusal
Refuses value limit team text (Line number) = AreWithin team × IsRefusedLine value limit team text number
