use Rattle.std.proofs.Common.{◌≡◌, ◌++◌, map, length}
use Rattle.mp_files.specs.Fetched.{texts_of}
use Rattle.mp_top.specs.Asked.{agents_of}
use Rattle.mp_top.proofs.making.team_texts.Given as goal

-- the texts so far and those of the agents that are left are all
abbrev pub invariant-loop-rest : goal.invariant-loop-rest
invariant-loop-rest l = map texts_of l.made.items ++ agents_of l.rest ≡ agents_of l.texts

abbrev pub decreases-loop-rest : goal.decreases-loop-rest
decreases-loop-rest l = length l.rest
