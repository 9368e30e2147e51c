-- What stays in the notes of an agent, as long as no snapshot begins, and that numbers of snapshots rise.
use Rattle.mp_world.proofs.Basics.{◌≡◌, ℕ, ◌+◌, ◌-◌, ◌≤◌, Bool, true, List, length, ap, subst, ◌∙◌, arith, ◌⊎◌, inl, inr, refl, Option, slice_set, cases_eq}
use Rattle.mp_world.specs.AgentWords.{Message, Notes, after_state, has, AgentRecord}
use Rattle.mp_team_snapshots.proofs.NotePlaces.{has_set_other, has_set_same}
use Rattle.mp_team_snapshots.proofs.Protocol.{IsOf}
use Rattle.mp_team_verdicts.proofs.CountedStates.{counted_has}
use Rattle.mp_team_verdicts.proofs.Noting.{Moves}
use Rattle.mp_team_verdicts.proofs.Noting.Moves.{begins, counts, marks, reports, starts, stays}

-- ---- the number of the last snapshot

pub counted_number : (s : Notes) (from f : ℕ) → (after_state s from f).number ≡ s.number
counted_number s from f = counted_has (λ t. t.number ≡ s.number) s from f refl refl

-- it stays, or the next one begins
pub number_moves : (agent : ℕ) (o : Option Message) (r s : AgentRecord) → Moves agent o r s
    → (s.snapshot.number ≡ r.snapshot.number) ⊎ (s.snapshot.number ≡ r.snapshot.number + 1)
number_moves agent o r s (stays is) = inl (ap (λ (t : Notes). t.number) is)
number_moves agent o r s (counts from m state is) = inl (ap (λ (t : Notes). t.number) is ∙ counted_number r.snapshot from (m.g + m.h))
number_moves agent o r s (marks from low is) = inl (ap (λ (t : Notes). t.number) is)
number_moves agent o r s (reports from found low off is) = inl (ap (λ (t : Notes). t.number) is)
number_moves agent o r s (begins from other is) = inr (ap (λ (t : Notes). t.number) is)
number_moves agent o r s (starts is) = inr (ap (λ (t : Notes). t.number) is)

pub number_rises : (agent : ℕ) (o : Option Message) (r s : AgentRecord) → Moves agent o r s → r.snapshot.number ≤ s.snapshot.number
number_rises agent o r s m = by (number_moves agent o r s m)
  where
    by : (s.snapshot.number ≡ r.snapshot.number) ⊎ (s.snapshot.number ≡ r.snapshot.number + 1)
        → r.snapshot.number ≤ s.snapshot.number
    by (inl same) = omega arith
    by (inr next) = omega arith

-- ---- markers and reports that have come stay, as long as no snapshot begins

counted_marked : (s : Notes) (from f : ℕ) → (after_state s from f).marked ≡ s.marked
counted_marked s from f = counted_has (λ t. t.marked ≡ s.marked) s from f refl refl

counted_reported : (s : Notes) (from f : ℕ) → (after_state s from f).reported ≡ s.reported
counted_reported s from f = counted_has (λ t. t.reported ≡ s.reported) s from f refl refl

module _ (agents i : ℕ) (small : agents ≤ 16) (is_i : IsOf agents i) where
  low_i : 1 ≤ i
  low_i = is_i.from_1

  high_i : i ≤ 16
  high_i = let high = is_i.at_most in omega arith

  still_set : (flags : List Bool) (from : ℕ) → 1 ≤ from → length flags ≡ 16 → has flags i ≡ true → has (slice_set flags (from - 1) true) i ≡ true
  still_set flags from low many set = by (cases_eq i from)
    where
      by : (i ≡ from) ⊎ (i ≡ from → ⊥) → has (slice_set flags (from - 1) true) i ≡ true
      by (inl same) = subst (λ k. has (slice_set flags (k - 1) true) i ≡ true) same (has_set_same flags i low_i high_i many)
      by (inr other) = has_set_other flags i from low_i low other ∙ set

  pub still_marked : (agent : ℕ) (o : Option Message) (r s : AgentRecord) → length r.snapshot.marked ≡ 16 → Moves agent o r s
      → s.snapshot.number ≡ r.snapshot.number → has r.snapshot.marked i ≡ true → has s.snapshot.marked i ≡ true
  still_marked agent o r s many (stays is) same set = ap (λ (t : Notes). has t.marked i) is ∙ set
  still_marked agent o r s many (counts from m state is) same set =
      ap (λ (t : Notes). has t.marked i) is ∙ ap (λ (flags : List Bool). has flags i) (counted_marked r.snapshot from (m.g + m.h)) ∙ set
  still_marked agent o r s many (marks from low is) same set =
      ap (λ (t : Notes). has t.marked i) is ∙ still_set r.snapshot.marked from low many set
  still_marked agent o r s many (reports from found low off is) same set = ap (λ (t : Notes). has t.marked i) is ∙ set
  still_marked agent o r s many (begins from other is) same set =
      let next = ap (λ (t : Notes). t.number) is in absurd (omega arith)
  still_marked agent o r s many (starts is) same set =
      let next = ap (λ (t : Notes). t.number) is in absurd (omega arith)

  pub still_reported : (agent : ℕ) (o : Option Message) (r s : AgentRecord) → length r.snapshot.reported ≡ 16 → Moves agent o r s
      → s.snapshot.number ≡ r.snapshot.number → has r.snapshot.reported i ≡ true → has s.snapshot.reported i ≡ true
  still_reported agent o r s many (stays is) same set = ap (λ (t : Notes). has t.reported i) is ∙ set
  still_reported agent o r s many (counts from m state is) same set =
      ap (λ (t : Notes). has t.reported i) is ∙ ap (λ (flags : List Bool). has flags i) (counted_reported r.snapshot from (m.g + m.h)) ∙ set
  still_reported agent o r s many (marks from low is) same set = ap (λ (t : Notes). has t.reported i) is ∙ set
  still_reported agent o r s many (reports from found low off is) same set =
      ap (λ (t : Notes). has t.reported i) is ∙ still_set r.snapshot.reported from low many set
  still_reported agent o r s many (begins from other is) same set =
      let next = ap (λ (t : Notes). t.number) is in absurd (omega arith)
  still_reported agent o r s many (starts is) same set =
      let next = ap (λ (t : Notes). t.number) is in absurd (omega arith)
