use Rattle.std.proofs.Common.{◌≡◌, ◌++◌, drop}
use Rattle.std.specs.List.{flat_map}
use Rattle.mp_checker.specs.Words.{names_of_factor}
use Rattle.mp_checker.proofs.words.team_names.Given as goal

abbrev pub invariant-loop-factor : goal.invariant-loop-factor
invariant-loop-factor l = l.names ++ flat_map names_of_factor (drop l.factor-index l.factors) ≡ flat_map names_of_factor l.factors
