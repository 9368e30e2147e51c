-- The number that the program ends with.
use Rattle.std.specs.Prelude.{ℕ}
use Rattle.mp_top.specs.declared.status.Status.{Status}
use Rattle.mp_top.specs.declared.status.Status.TheVariants.{Solved, No, Undecided, Words, Read, Refused, TooLarge, Write, Memory, Line, Unfinished}

abbrev pub code_of : Status → ℕ
code_of Solved = 0
code_of No = 1
code_of Undecided = 2
code_of Words = 3
code_of Read = 4
code_of Refused = 5
code_of TooLarge = 6
code_of Write = 7
code_of Memory = 8
code_of Line = 9
code_of Unfinished = 10
