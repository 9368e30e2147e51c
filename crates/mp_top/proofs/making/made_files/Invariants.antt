use Rattle.std.proofs.Common.{◌≡◌, ◌-◌, ◌+◌, ◌++◌, map}
use Rattle.std.specs.List.{range_with_len}
use Rattle.mp_files.specs.Fetched.{names_of}
use Rattle.mp_top.specs.Asked.{made_name}
use Rattle.mp_top.proofs.making.made_files.Given as goal

-- the names so far and those of the agents that are left make the whole
abbrev pub invariant-loop-agent : goal.invariant-loop-agent
invariant-loop-agent l =
    map names_of l.files.items ++ map made_name (range_with_len l.agent ((l.size + 1) - l.agent))
    ≡ map made_name (range_with_len 1 l.size)
