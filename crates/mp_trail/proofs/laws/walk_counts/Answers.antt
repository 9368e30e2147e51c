use Rattle.std.proofs.Common.{◌+◌}
use Rattle.mp_trail.proofs.WalkLemmas.{backs_within, end_within, walked_fits, walked_rising}
use Rattle.mp_trail.proofs.laws.walk_counts.Goals as goal

pub returns-clause-backs : goal.returns-clause-backs
returns-clause-backs g c = λ r entry back. backs_within r (entry + 1) entry back

pub returns-clause-end : goal.returns-clause-end
returns-clause-end g c = λ r entry back. end_within r (entry + 1) entry back

pub returns-clause-rising : goal.returns-clause-rising
returns-clause-rising g c = λ r entry back noted rising below. walked_rising r entry back noted rising below

pub returns-clause-fits : goal.returns-clause-fits
returns-clause-fits g c = λ r entry back noted below. walked_fits r entry back noted below
