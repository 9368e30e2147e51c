-- What holds of an agent's notes after a state, which they count or not.
use Rattle.mp_world.proofs.Basics.{ℕ, Bool, true, false, if◌then◌else◌}
use Rattle.mp_snapshot.specs.Rules.{with_state}
use Rattle.mp_world.specs.AgentWords.{Notes, after_state, is_counted}

pub counted_has : (P : Notes → Type 0) (s : Notes) (from f : ℕ) → P s → P (with_state s f) → P (after_state s from f)
counted_has P s from f as_before counted = by (is_counted s from)
  where
    by : (b : Bool) → P (if b then with_state s f else s)
    by true = counted
    by false = as_before
