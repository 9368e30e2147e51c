use Rattle.std.proofs.Common.{◌≡◌, take}
use Rattle.mp_list.proofs.copied.Copied.copy_all.Given as goal

-- what is copied so far is the beginning of the values
abbrev pub invariant-loop-value : goal.invariant-loop-value
invariant-loop-value g l = l.copies.items ≡ take l.value-index l.values
