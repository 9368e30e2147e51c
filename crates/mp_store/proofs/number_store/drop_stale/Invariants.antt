use Rattle.std.proofs.Common.{length}
use Rattle.mp_store.specs.NumberFields.{AreRanks}
use Rattle.mp_store.proofs.number_store.drop_stale.Given as goal

abbrev pub invariant-stale : goal.invariant-stale
invariant-stale l = AreRanks l.entries.items l.ranks

abbrev pub decreases-stale : goal.decreases-stale
decreases-stale l = length l.ranks
