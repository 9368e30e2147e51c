-- Ways in a graph whose edges have costs.
use Rattle.std.specs.Prelude.{ℕ, ◌+◌, ◌≤◌}

module _ {S : Type 0} (Step : S → ℕ → S → Type 0) where
  -- a way of a cost from one state to another
  pub data Way : S → ℕ → S → Type 0 where
    arrived : (s : S) → Way s 0 s
    onward :
        (s t last : S) (cost later : ℕ)
        → Step s cost t
        → Way t later last
        → Way s (cost + later) last

  -- no way leads from a state to a goal
  abbrev pub IsHopeless : (S → Type 0) → S → Type 0
  IsHopeless Goal s = (cost : ℕ) (t : S) → Way s cost t → ¬ Goal t

  -- an estimate is at most the cost of each way from a state to a goal
  abbrev pub IsBound : (S → Type 0) → S → ℕ → Type 0
  IsBound Goal s estimate = (cost : ℕ) (t : S) → Way s cost t → Goal t → estimate ≤ cost
