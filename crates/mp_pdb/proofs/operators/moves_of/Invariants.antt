use Rattle.std.proofs.Common.{◌++◌, map, take}
use Rattle.mp_task.specs.Projected.{far_operator, own_operator}
use Rattle.mp_pdb.specs.Moves.{AreMoves}
use Rattle.mp_pdb.proofs.operators.moves_of.Given as goal

abbrev pub invariant-loop-act : goal.invariant-loop-act
invariant-loop-act l =
    AreMoves l.pattern.facts (map (own_operator l.task.publics) (take l.act-index l.task.acts)) l.moves.items

abbrev pub invariant-loop-part : goal.invariant-loop-part
invariant-loop-part l =
    AreMoves l.pattern.facts (map (own_operator l.task.publics) l.task.acts ++ map far_operator (take l.part-index l.task.far)) l.moves.items
