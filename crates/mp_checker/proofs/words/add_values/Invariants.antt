use Rattle.std.proofs.Common.{◌≡◌, ◌++◌, drop}
use Rattle.std.specs.List.{flat_map}
use Rattle.mp_checker.specs.Words.{names_of_value}
use Rattle.mp_checker.proofs.words.add_values.Given as goal

abbrev pub invariant-loop-value : goal.invariant-loop-value
invariant-loop-value l = l.names ++ flat_map names_of_value (drop l.value-index l.values) ≡ l.fn.names ++ flat_map names_of_value l.values
