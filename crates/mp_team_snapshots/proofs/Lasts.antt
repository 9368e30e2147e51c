-- Which agents have recorded the snapshot of a number, where agent 1 has begun no later one.
use Rattle.mp_world.proofs.Basics.{◌≡◌, ◌≢◌, ℕ, ◌+◌, ◌≤◌, true, false, sym, ◌∙◌, arith, ◌⊎◌, inl, inr, and_from, le-leb, leb-false, leb-true}
use Rattle.mp_world.specs.AgentWords.{has, is_whole}
use Rattle.mp_team_snapshots.proofs.Due.{begun_in, begun_is, begun_number}
use Rattle.mp_team_snapshots.proofs.Protocol.{IsOf, Sound, View}
use Rattle.mp_team_snapshots.proofs.Both.{recorded}

module _ (agents : ℕ) (v : View) (sound : Sound agents v) where
  -- the number of an agent's snapshot is that of agent 1 or one less
  pub number_low : (i : ℕ) → IsOf agents i → (v.note i).number ≤ (v.note 1).number
  number_low i is = by (sound.follows i is).number
    where
      by : ((v.note i).number ≡ (v.note 1).number)
          ⊎ (((v.note i).number + 1 ≡ (v.note 1).number) × (((v.note i).number ≡ 0) ⊎ (is_whole (v.note i) ≡ true)))
          → (v.note i).number ≤ (v.note 1).number
      by (inl same) = omega arith
      by (inr (next, either)) = omega arith

  pub number_high : (i : ℕ) → IsOf agents i → (v.note 1).number ≤ (v.note i).number + 1
  number_high i is = by (sound.follows i is).number
    where
      by : ((v.note i).number ≡ (v.note 1).number)
          ⊎ (((v.note i).number + 1 ≡ (v.note 1).number) × (((v.note i).number ≡ 0) ⊎ (is_whole (v.note i) ≡ true)))
          → (v.note 1).number ≤ (v.note i).number + 1
      by (inl same) = omega arith
      by (inr (next, either)) = omega arith

  module _ (k : ℕ) (some : 1 ≤ k) where
    -- where an agent has not recorded, agent 1 has begun no later snapshot
    pub first_at_most : (i : ℕ) → IsOf agents i → recorded k (v.note i) ≡ false → (v.note 1).number ≤ k
    first_at_most i is not_is =
        let below = leb-false k (v.note i).number not_is in
        let high = number_high i is in
        omega arith

    module _ (upto : (v.note 1).number ≤ k) where
      pub number_is : (i : ℕ) → IsOf agents i → recorded k (v.note i) ≡ true → (v.note i).number ≡ k
      number_is i is recorded_i =
          let low = leb-true k (v.note i).number recorded_i in
          let high = number_low i is in
          omega arith

      pub last_is : (i : ℕ) → IsOf agents i → recorded k (v.note i) ≡ true → (v.note 1).number ≡ k
      last_is i is recorded_i =
          let low = leb-true k (v.note i).number recorded_i in
          let high = number_low i is in
          omega arith

      pub begun_there : (i : ℕ) → IsOf agents i → recorded k (v.note i) ≡ true
          → begun_in (v.note 1).number (v.note i).number ≡ true
      begun_there i is recorded_i =
          let last = last_is i is recorded_i in
          begun_is (v.note 1).number (v.note i).number (omega arith) (number_is i is recorded_i ∙ sym last)

      -- an agent that has begun what another one has recorded has recorded it
      pub recorded_too : (i j : ℕ) → IsOf agents j → recorded k (v.note j) ≡ true
          → begun_in (v.note 1).number (v.note i).number ≡ true
          → recorded k (v.note i) ≡ true
      recorded_too i j is_j recorded_j begun =
          let same = begun_number (v.note 1).number (v.note i).number begun in
          let last = last_is j is_j recorded_j in
          le-leb k (v.note i).number (omega arith)

      -- an agent whose marker was taken has recorded
      pub recorded_sender : (i j : ℕ) → IsOf agents i → IsOf agents j → i ≢ j → recorded k (v.note j) ≡ true
          → has (v.note j).marked i ≡ true
          → recorded k (v.note i) ≡ true
      recorded_sender i j is_i is_j off recorded_j taken =
          recorded_too i j is_j recorded_j
          (sound.sent i j is_i is_j off
          (and_from (begun_in (v.note 1).number (v.note j).number) (has (v.note j).marked i)
          (begun_there j is_j recorded_j) taken))
