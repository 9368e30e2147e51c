use Rattle.mp_trail.proofs.ShareLemmas.{times_rise, times_within}
use Rattle.mp_trail.proofs.laws.times_of_share.Goals as goal

pub returns-clause-rising : goal.returns-clause-rising
returns-clause-rising c = λ noted plan rising below. times_rise plan noted rising below

pub returns-clause-within : goal.returns-clause-within
returns-clause-within c = λ noted plan below. times_within plan noted below
