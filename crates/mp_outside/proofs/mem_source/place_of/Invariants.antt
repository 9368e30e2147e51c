use Rattle.std.proofs.Common.{◌≡◌, drop}
use Rattle.mp_outside.specs.Memory.{held_in}
use Rattle.mp_outside.proofs.mem_source.place_of.Given as goal

-- none of the files so far has the name
abbrev pub invariant-loop-place : goal.invariant-loop-place
invariant-loop-place l = held_in (drop l.place l.files) l.name ≡ held_in l.files l.name
