-- What falls along each step by no more than the step costs, and is nothing at goals, is a bound.
use Rattle.std.proofs.Common.{◌≡◌, ℕ, ◌+◌, ◌≤◌, arith}
use Rattle.mp_reach.specs.Ways.{IsBound}
use Rattle.mp_reach.specs.Ways.Way.{arrived, onward}

module _ {S : Type 0} (Step : S → ℕ → S → Type 0) (Goal : S → Type 0) (left : S → ℕ)
    (falls : (s : S) (cost : ℕ) (t : S) → Step s cost t → left s ≤ left t + cost)
    (ends : (s : S) → Goal s → left s ≡ 0) where
  pub is_bound : (s : S) → IsBound Step Goal s (left s)
  is_bound s cost t (arrived _) goal = let none = ends s goal in omega arith
  is_bound s total last (onward _ t _ cost later step way) goal =
      let step_bound = falls s cost t step in
      let way_bound = is_bound t later last way goal in
      omega arith
