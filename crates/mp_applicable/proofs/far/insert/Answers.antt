use Rattle.std.proofs.Common.{sym, ◌∙◌}
use Rattle.mp_sets.specs.Numbers.{holds}
use Rattle.mp_applicable.proofs.FarLemmas.{known_list}
use Rattle.mp_applicable.proofs.far.insert.Goals as goal

pub returns-then-contains-clause-tells : goal.returns-then-contains-clause-tells
returns-then-contains-clause-tells c s = known_list (holds s) c.args.set.now.keys c.args.list.now (sym c.contains.ensures ∙ c.if-contains.true)
