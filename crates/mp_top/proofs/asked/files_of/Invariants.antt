use Rattle.std.proofs.Common.{◌≡◌, ◌++◌, map, length}
use Rattle.mp_files.specs.Fetched.{names_of}
use Rattle.mp_top.specs.Asked.{agents_of}
use Rattle.mp_top.proofs.asked.files_of.Given as goal

-- the files so far and those of the names that are left are all
abbrev pub invariant-loop-rest : goal.invariant-loop-rest
invariant-loop-rest l =
    map names_of l.files.items ++ agents_of (map (λ name. name.now) l.rest) ≡ agents_of (map (λ name. name.now) l.names)

abbrev pub decreases-loop-rest : goal.decreases-loop-rest
decreases-loop-rest l = length l.rest
