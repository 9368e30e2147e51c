use Rattle.mp_relaxed.proofs.PlaceLemmas.{placed_none}
use Rattle.mp_relaxed.proofs.places.Places.clear.Goals as goal

pub returns : goal.returns
returns c = placed_none 0 c.empty_all.new.rows.items c.empty_all.ensures.empty
