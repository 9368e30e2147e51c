-- Some event may happen: the one that is found among all that there are.
use Rattle.mp_world.proofs.Basics.{◌≡◌, ℕ, zero, suc, Bool, true, false, length, refl, ap, ◌∙◌, arith, ◌⊎◌, inl, inr, cases_eq}
use Rattle.mp_world.specs.AgentWords.{Event, Expand, Take, Start}
use Rattle.mp_world.specs.Events.{is_legal}
use Rattle.mp_world.specs.RoundRobin.{is_over}
use Rattle.mp_world.specs.Team.{IsTeam, Team}
use Rattle.mp_world.specs.World.{World}
use Rattle.mp_team_snapshots.specs.Team.{IsTeamOf}
use Rattle.mp_team_snapshots.proofs.Protocol.{IsOf}
use Rattle.mp_team_verdicts.proofs.ReachedWorlds.{IsReached}
use Rattle.mp_team_verdicts.proofs.Stuck.{HasNumberLeft, not_stuck}

-- one of the numbers from 1 to n passes a test, or none does
search_one : (n : ℕ) (test : ℕ → Bool) → ((i : ℕ) × (test i ≡ true)) ⊎ ((i : ℕ) → IsOf n i → test i ≡ false)
search_one zero test = inr (λ i of. let low = of.from_1 in let high = of.at_most in absurd (omega arith))
search_one (suc n) test = by (test (suc n)) refl (search_one n test)
  where
    by : (b : Bool) → test (suc n) ≡ b → ((i : ℕ) × (test i ≡ true)) ⊎ ((i : ℕ) → IsOf n i → test i ≡ false)
        → ((i : ℕ) × (test i ≡ true)) ⊎ ((i : ℕ) → IsOf (suc n) i → test i ≡ false)
    by true passes rest = inl (suc n, passes)
    by false fails (inl found) = inl found
    by false fails (inr none) = inr (λ i of. either i of (cases_eq i (suc n)))
      where
        either : (i : ℕ) → IsOf (suc n) i → (i ≡ suc n) ⊎ (i ≡ suc n → ⊥) → test i ≡ false
        either i of (inl same) = ap test same ∙ fails
        either i of (inr other) =
            let low = of.from_1 in
            let high = of.at_most in
            none i (record { from_1 = low; at_most = omega (arith, other) })

-- one pair passes a test, or none does
search_pair : (m n : ℕ) (test : ℕ → ℕ → Bool)
    → ((j : ℕ) × (i : ℕ) × (test j i ≡ true)) ⊎ ((j i : ℕ) → IsOf m j → IsOf n i → test j i ≡ false)
search_pair zero n test = inr (λ j i of_j of_i. let low = of_j.from_1 in let high = of_j.at_most in absurd (omega arith))
search_pair (suc m) n test = by (search_one n (test (suc m))) (search_pair m n test)
  where
    by : ((i : ℕ) × (test (suc m) i ≡ true)) ⊎ ((i : ℕ) → IsOf n i → test (suc m) i ≡ false)
        → ((j : ℕ) × (i : ℕ) × (test j i ≡ true)) ⊎ ((j i : ℕ) → IsOf m j → IsOf n i → test j i ≡ false)
        → ((j : ℕ) × (i : ℕ) × (test j i ≡ true)) ⊎ ((j i : ℕ) → IsOf (suc m) j → IsOf n i → test j i ≡ false)
    by (inl found) rest = inl (suc m, found.0, found.1)
    by (inr none) (inl found) = inl found
    by (inr none) (inr others) = inr (λ j i of_j of_i. either j i of_j of_i (cases_eq j (suc m)))
      where
        either : (j i : ℕ) → IsOf (suc m) j → IsOf n i → (j ≡ suc m) ⊎ (j ≡ suc m → ⊥) → test j i ≡ false
        either j i of_j of_i (inl same) = ap (λ k. test k i) same ∙ none i of_i
        either j i of_j of_i (inr other) =
            let low = of_j.from_1 in
            let high = of_j.at_most in
            others j i (record { from_1 = low; at_most = omega (arith, other) }) of_i

module _ (team : Team) (is_team : IsTeam team) (publics : ℕ) (of_team : IsTeamOf publics team.tasks) (w : World)
    (at : IsReached team w) where
  open team use {tasks}

  pub goes_on : is_over w ≡ false → HasNumberLeft w → (event : Event) × (is_legal w event ≡ true)
  goes_on on room =
      by (search_one (length tasks) (λ i. is_legal w (Expand i)))
      (search_pair (length tasks) (length tasks) (λ j i. is_legal w (Take j i)))
      (is_legal w Start) refl
    where
      by : ((i : ℕ) × (is_legal w (Expand i) ≡ true)) ⊎ ((i : ℕ) → IsOf (length tasks) i → is_legal w (Expand i) ≡ false)
          → ((j : ℕ) × (i : ℕ) × (is_legal w (Take j i) ≡ true))
          ⊎ ((j i : ℕ) → IsOf (length tasks) j → IsOf (length tasks) i → is_legal w (Take j i) ≡ false)
          → (b : Bool) → is_legal w Start ≡ b
          → (event : Event) × (is_legal w event ≡ true)
      by (inl expands) takes b start = (Expand expands.0, expands.1)
      by (inr none) (inl takes) b start = (Take takes.0 takes.1, takes.2)
      by (inr none) (inr nothing) true start = (Start, start)
      by (inr none) (inr nothing) false start =
          absurd (not_stuck team is_team publics of_team w at on room
          (record { take = λ j i of_j of_i off. nothing j i of_j of_i; expand = none; start = start }))
