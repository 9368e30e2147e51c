use Rattle.std.proofs.Common.{◌≡◌, ◌+◌, ◌≤◌, length}
use Rattle.mp_text.specs.Lines.{lines_of}
use Rattle.mp_text.specs.Schedule.{schedule_of}
use Rattle.mp_text.proofs.Known.{behind_events}
use Rattle.mp_text.proofs.schedule.read_schedule.Given as goal

-- the events so far and the schedule of what is left make the whole, and each line so far had a byte
abbrev pub invariant-loop-line : goal.invariant-loop-line
invariant-loop-line l =
    (behind_events l.events (schedule_of l.agents l.number (lines_of l.rest)) ≡ schedule_of l.agents 1 (lines_of l.text))
    × (l.number + length l.rest ≤ length l.text + 1)

abbrev pub decreases-loop-line : goal.decreases-loop-line
decreases-loop-line l = length l.rest
