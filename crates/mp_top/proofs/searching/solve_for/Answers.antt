use Rattle.mp_top.specs.Decided.{searching_by}
use Rattle.mp_top.proofs.Decided.{solves_for}
use Rattle.mp_top.proofs.searching.solve_for.Goals as goal

pub returns-clause-outcome : goal.returns-clause-outcome
returns-clause-outcome g c =
    solves_for (searching_by c.args.search) c.args.workers.one c.args.trace c.args.team.now c.in_ok-solution.solution c.in_ok-traced.field-0
    c.in_ok-solution.ensures.within c.in_ok-solution.ensures.found c.in_ok-traced.ensures

pub found-requires-clause-found : goal.found-requires-clause-found
found-requires-clause-found g c = λ t s w r comes. (c.requires.finds t s w r comes).0

pub found-requires-clause-within : goal.found-requires-clause-within
found-requires-clause-within g c = λ t s w r comes. (c.requires.finds t s w r comes).1

pub found-requires-clause-refused : goal.found-requires-clause-refused
found-requires-clause-refused g c = λ t s w r comes. (c.requires.finds t s w r comes).2
