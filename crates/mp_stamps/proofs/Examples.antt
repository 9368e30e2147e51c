-- The lists of the worked examples fit each other.
use Rattle.std.proofs.Common.{refl, ℕ, zero, suc, ◌<◌, List, [], ◌∷◌, arith}
use Rattle.std.specs.Prelude.{All}
use Rattle.std.specs.List.{AllPairs}
use Rattle.mp_stamps.specs.declared.stamped.Stamped.{Stamped}
use Rattle.mp_stamps.specs.Examples.{of_both, of_neither, of_the_first, of_the_second}
use Rattle.mp_stamps.specs.Lists.{HasTaken, IsAgentOf, IsOwn, Matched, Rises, list_of, puts, receipts}
use Rattle.mp_stamps.specs.Lists.AreTaken.{none, more}
use Rattle.mp_stamps.specs.Mail.{Mail}

two : {X : Type 0} (P : X → Type 0) (x y : X) → P x → P y → All P (x ∷ y ∷ [])
two P x y px py zero d low = px
two P x y px py (suc zero) d low = py
two P x y px py (suc (suc k)) d low = absurd (omega arith)

pair : {X : Type 0} (R : X → X → Type 0) (x y : X) → R x y → AllPairs R (x ∷ y ∷ [])
pair R x y r zero zero d less low = absurd (omega arith)
pair R x y r zero (suc zero) d less low = r
pair R x y r zero (suc (suc j)) d less low = absurd (omega arith)
pair R x y r (suc i) zero d less low = absurd (omega arith)
pair R x y r (suc i) (suc zero) d less low = absurd (omega arith)
pair R x y r (suc i) (suc (suc j)) d less low = absurd (omega arith)

each : (P : ℕ → Type 0) → P 1 → P 2 → (agent : ℕ) → IsAgentOf 2 agent → P agent
each P one another zero is = absurd (omega arith)
each P one another (suc zero) is = one
each P one another (suc (suc zero)) is = another
each P one another (suc (suc (suc k))) is = absurd (omega arith)

abbrev Fits : List (List Stamped) → ℕ → ℕ → Type 0
Fits lists from to = (waiting : List Mail) × HasTaken (puts from to (list_of lists from)) (receipts from to (list_of lists to)) waiting

pub both_match : Matched of_both
both_match = record {
  rise = each (λ agent. Rises (list_of of_both agent)) (pair (λ a b. a.stamp < b.stamp) _ _ (omega arith)) (pair (λ a b. a.stamp < b.stamp) _ _ (omega arith));
  own = each (λ agent. All (λ s. IsOwn 2 agent s.entry) (list_of of_both agent))
      (two (λ s. IsOwn 2 1 s.entry) _ _ refl (refl, record { of_team = record { from_1 = omega arith; at_most = omega arith }; differs = λ e. omega arith }))
      (two (λ s. IsOwn 2 2 s.entry) _ _ refl (refl, record { of_team = record { from_1 = omega arith; at_most = omega arith }; differs = λ e. omega arith }));
  taken = λ from to is_from is_to. each (λ f. Fits of_both f to)
      (each (Fits of_both 1) ([], none_put) ([], handed) to is_to)
      (each (Fits of_both 2) ([], none_put) ([], none_put) to is_to)
      from is_from;
}
  where
    none_put : HasTaken [] [] []
    none_put = record { gone = []; split = refl; were_taken = none }

    handed : HasTaken (puts 1 2 of_the_first) (receipts 1 2 of_the_second) []
    handed = record {
      gone = puts 1 2 of_the_first;
      split = refl;
      were_taken = more (record { stamp = 2; bytes = 7 ∷ 1 ∷ [] }) (record { stamp = 3; bytes = 7 ∷ 1 ∷ [] }) [] [] refl (omega arith) none;
    }

pub neither_matches : Matched of_neither
neither_matches = record {
  rise = each (λ agent. Rises (list_of of_neither agent)) (λ i j d less low. absurd (omega arith)) (λ i j d less low. absurd (omega arith));
  own = each (λ agent. All (λ s. IsOwn 2 agent s.entry) (list_of of_neither agent)) (λ k d low. absurd (omega arith)) (λ k d low. absurd (omega arith));
  taken = λ from to is_from is_to. each (λ f. Fits of_neither f to)
      (each (Fits of_neither 1) ([], none_put) ([], none_put) to is_to)
      (each (Fits of_neither 2) ([], none_put) ([], none_put) to is_to)
      from is_from;
}
  where
    none_put : HasTaken [] [] []
    none_put = record { gone = []; split = refl; were_taken = none }
