use Rattle.mp_trail.proofs.WalkLemmas.{follows, short}
use Rattle.mp_trail.proofs.laws.walk_follows_origins.Goals as goal

pub returns-clause-follows : goal.returns-clause-follows
returns-clause-follows g c = λ same r entry back sound inside. follows same r sound entry back inside

pub returns-clause-short : goal.returns-clause-short
returns-clause-short g c = λ same r entry back sound inside. short same r sound entry back inside
