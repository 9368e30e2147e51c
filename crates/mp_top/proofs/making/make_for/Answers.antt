use Rattle.mp_top.specs.Decided.{searching_by}
use Rattle.mp_top.proofs.Decided.{makes_for}
use Rattle.mp_top.proofs.making.make_for.Goals as goal

pub returns-clause-outcome : goal.returns-clause-outcome
returns-clause-outcome g c =
    makes_for (searching_by c.args.search) c.args.workers.one c.args.show c.args.texts.now c.args.size c.args.team.now c.in_ok-solution.solution c.in_ok-summed.field-0
    c.in_ok-solution.ensures.within c.in_ok-solution.ensures.found c.in_ok-summed.ensures

pub found-requires-clause-found : goal.found-requires-clause-found
found-requires-clause-found g c = λ t s w r comes. (c.requires.finds t s w r comes).0

pub found-requires-clause-within : goal.found-requires-clause-within
found-requires-clause-within g c = λ t s w r comes. (c.requires.finds t s w r comes).1

pub found-requires-clause-refused : goal.found-requires-clause-refused
found-requires-clause-refused g c = λ t s w r comes. (c.requires.finds t s w r comes).2
