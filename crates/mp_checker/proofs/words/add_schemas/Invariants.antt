use Rattle.std.proofs.Common.{◌≡◌, ◌++◌, drop}
use Rattle.std.specs.List.{flat_map}
use Rattle.mp_checker.specs.Words.{names_of_schema}
use Rattle.mp_checker.proofs.words.add_schemas.Given as goal

abbrev pub invariant-loop-schema : goal.invariant-loop-schema
invariant-loop-schema l = l.names ++ flat_map names_of_schema (drop l.schema-index l.schemas) ≡ l.fn.names ++ flat_map names_of_schema l.schemas
