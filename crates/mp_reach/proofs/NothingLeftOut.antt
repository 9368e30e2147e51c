-- Where each state counts as a goal, no state leads to none, so that what is explored leaves nothing out.
use Rattle.std.proofs.Common.{ℕ, ◌+◌, None, ⊎_elim, inl, inr}
use Rattle.std.proofs.lemmas.Option.{none-some}
use Rattle.mp_reach.specs.Explored.{IsExplored, IsFoundAt, LeavesNothingOut, Reaches}
use Rattle.mp_reach.specs.Found.{Found}
use Rattle.mp_reach.specs.Ways.Way.{arrived}

module _ {I S : Type 0} (Step : S → ℕ → S → Type 0) (Goal Root : S → Type 0) (each : (s : S) → Goal s) (found : Found I S) where
  -- the empty way leads to a goal
  found_if_reached : (s : S) (cost : ℕ) → Reaches Step Goal found s cost → IsFoundAt found s cost
  found_if_reached s cost reached = ⊎_elim inl (λ other. ⊎_elim inr (λ hopeless. absurd (hopeless 0 s (arrived s) (each s))) other) reached

  pub nothing_left_out : IsExplored Step Goal Root None found → LeavesNothingOut Step Root found
  nothing_left_out x = record {
    roots = λ s root. found_if_reached s 0 (x.roots s root);
    live = x.live;
    closed = λ i e here is cost t step. ⊎_elim
        (λ none. absurd (none-some i none))
        (λ leads. found_if_reached t (e.cost + cost) (leads cost t step))
        (x.closed i e here is);
  }
