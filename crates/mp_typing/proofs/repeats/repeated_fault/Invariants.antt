use Rattle.mp_typing.proofs.Basics.{◌≡◌, take, leftmost, repeated_faults}
use Rattle.mp_typing.proofs.RepeatLemmas.{Seen, names_by, faults_from}
use Rattle.mp_typing.proofs.repeats.repeated_fault.Given as goal

abbrev pub invariant-loop-item : goal.invariant-loop-item
invariant-loop-item g l =
    Seen l.before (names_by g.T.Named.called (take l.item-index l.items))
    × (leftmost l.first (faults_from l.file g.T.Named.called l.items l.item-index)
    ≡ leftmost l.fn.least (repeated_faults l.fn.file g.T.Named.called l.fn.items))
