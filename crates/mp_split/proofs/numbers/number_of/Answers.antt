use Rattle.mp_split.proofs.Basics.{arith}
use Rattle.mp_grounder.proofs.NumberBounds.{number_within}
use Rattle.mp_split.proofs.numbers.number_of.Goals as goal

pub overflow_cast-result : goal.overflow_cast-result
overflow_cast-result c = omega (arith, number_within c.args.table.now c.args.text.now, c.number.ensures, c.requires)
