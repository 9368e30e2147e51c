use Rattle.std.proofs.Common.{subst, sym}
use Rattle.mp_stamps.specs.Lists.{Matched}
use Rattle.mp_stamps.proofs.Examples.{neither_matches}
use Rattle.mp_stamps.proofs.tests.log_of_neither.Goals as goal

pub merge_stamped-requires-clause-matched : goal.merge_stamped-requires-clause-matched
merge_stamped-requires-clause-matched c = subst Matched (sym c.in_ok-lists.ensures) neither_matches
