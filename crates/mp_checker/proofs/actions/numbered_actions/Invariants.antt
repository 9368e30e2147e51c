use Rattle.std.proofs.Common.{◌≡◌, map, take}
use Rattle.mp_checker.specs.Numbering.{numbered_action}
use Rattle.mp_checker.proofs.actions.numbered_actions.Given as goal

abbrev pub invariant-loop-schema : goal.invariant-loop-schema
invariant-loop-schema l = l.made ≡ map (numbered_action l.names l.factor) (take l.schema-index l.schemas)
