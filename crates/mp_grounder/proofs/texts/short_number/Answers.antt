use Rattle.mp_grounder.proofs.Basics.{arith}
use Rattle.mp_grounder.proofs.NumberBounds.{number_within}
use Rattle.mp_grounder.proofs.texts.short_number.Goals as goal

pub overflow_cast-result : goal.overflow_cast-result
overflow_cast-result c = omega (arith, number_within c.args.table.now c.args.name.now, c.number.ensures, c.requires)
