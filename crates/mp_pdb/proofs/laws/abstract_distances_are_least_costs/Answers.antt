use Rattle.mp_pdb.specs.Laws.Bounds.{abstract_distance_is_least, abstract_distance_is_small, are_abstract_actions}
use Rattle.mp_pdb.specs.Laws.Growth.{at_most_12}
use Rattle.mp_pdb.proofs.laws.abstract_distances_are_least_costs.Goals as goal

pub returns-clause-least : goal.returns-clause-least
returns-clause-least c = abstract_distance_is_least

pub returns-clause-actions : goal.returns-clause-actions
returns-clause-actions c = are_abstract_actions

pub returns-clause-few : goal.returns-clause-few
returns-clause-few c = at_most_12

pub returns-clause-small : goal.returns-clause-small
returns-clause-small c = λ pattern problem s few cheap. abstract_distance_is_small pattern problem few cheap s
