use Rattle.std.proofs.Common.{subst, sym}
use Rattle.mp_stamps.specs.Lists.{Matched}
use Rattle.mp_stamps.proofs.Examples.{both_match}
use Rattle.mp_stamps.proofs.tests.log_of_both.Goals as goal

pub merge_stamped-requires-clause-matched : goal.merge_stamped-requires-clause-matched
merge_stamped-requires-clause-matched c = subst Matched (sym c.in_ok-lists.ensures) both_match
