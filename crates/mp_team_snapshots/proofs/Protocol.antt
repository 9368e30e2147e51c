-- What is so of snapshots, over the notes of agents and the markers and reports under way alone.
use Rattle.mp_world.proofs.Basics.{◌≡◌, ◌≢◌, ℕ, ◌+◌, ◌-◌, ◌≤◌, Bool, true, false, ◌&&◌, eqb, List, refl, sym, ap, subst, ◌∙◌, arith, ◌⊎◌, inl, inr, nat_lt, slice_index_or, eqb-false, eqb-true}
use Rattle.mp_world.specs.AgentWords.{Findings, Notes, has, is_whole, nothing, own}
use Rattle.mp_team_snapshots.specs.Snapshots.{AreNotesOf}
use Rattle.mp_team_snapshots.proofs.Due.{begun_in, due_marker, due_report}

-- the notes of each agent, the markers under way between each two, and the reports under way from each to agent 1
pub record View : Type 0 where
  pub note : ℕ → Notes
  pub markers : ℕ → ℕ → List ℕ
  pub reports : ℕ → List Findings

-- a number is that of an agent of a team of so many
pub record IsOf (agents i : ℕ) : Type 0 where
  pub from_1 : 1 ≤ i
  pub at_most : i ≤ agents

-- an agent's last snapshot is that of agent 1 or the one before
pub record Follows (last i : ℕ) (s : Notes) : Type 0 where
  pub number :
      (s.number ≡ last)
      ⊎ ((s.number + 1 ≡ last)
      × ((s.number ≡ 0) ⊎ (is_whole s ≡ true)))
  pub itself : begun_in last s.number ≡ true → has s.marked i ≡ true

-- the report that agent 1 has is what an agent found
pub record HasFound (first : Notes) (i : ℕ) (s : Notes) : Type 0 where
  pub done : (begun_in first.number s.number && is_whole s) ≡ true
  pub found : slice_index_or first.found (i - 1) nothing ≡ own s

pub record Sound (agents : ℕ) (v : View) : Type 0 where
  pub notes : (i : ℕ) → IsOf agents i → AreNotesOf agents i (v.note i)
  pub follows : (i : ℕ) → IsOf agents i → Follows (v.note 1).number i (v.note i)
  pub sent : (i j : ℕ) → IsOf agents i → IsOf agents j → i ≢ j
      → (begun_in (v.note 1).number (v.note j).number && has (v.note j).marked i) ≡ true
      → begun_in (v.note 1).number (v.note i).number ≡ true
  pub marker : (i j : ℕ) → IsOf agents i → IsOf agents j → i ≢ j
      → v.markers i j ≡ due_marker (v.note 1).number (v.note i).number (v.note j).number (has (v.note j).marked i)
  pub report : (i : ℕ) → IsOf agents i → i ≢ 1
      → v.reports i ≡ due_report (v.note 1).number (v.note i).number (is_whole (v.note i)) (has (v.note 1).reported i) (own (v.note i))
  pub reported : (i : ℕ) → IsOf agents i → i ≢ 1
      → (nat_lt 0 (v.note 1).number && has (v.note 1).reported i) ≡ true
      → HasFound (v.note 1) i (v.note i)

-- ---- what stays, where nothing of it changes

pub follows_again : (last last' i : ℕ) (s s' : Notes) → last' ≡ last → s'.number ≡ s.number → is_whole s' ≡ is_whole s → has s'.marked i ≡ has s.marked i
    → Follows last i s → Follows last' i s'
follows_again last last' i s s' e_last e_number e_whole e_has old = record {
  number = by old.number;
  itself = λ is. e_has ∙ old.itself (sym (λ k. begun_in (e_last k) (e_number k)) ∙ is);
}
  where
    earlier : (s.number ≡ 0) ⊎ (is_whole s ≡ true) → (s'.number ≡ 0) ⊎ (is_whole s' ≡ true)
    earlier (inl none) = inl (e_number ∙ none)
    earlier (inr whole) = inr (e_whole ∙ whole)

    by : (s.number ≡ last) ⊎ ((s.number + 1 ≡ last) × ((s.number ≡ 0) ⊎ (is_whole s ≡ true)))
        → (s'.number ≡ last') ⊎ ((s'.number + 1 ≡ last') × ((s'.number ≡ 0) ⊎ (is_whole s' ≡ true)))
    by (inl same) = inl (e_number ∙ same ∙ sym e_last)
    by (inr (next, either)) = inr (ap (λ n. n + 1) e_number ∙ next ∙ sym e_last, earlier either)

pub found_again : (f f' : Notes) (i : ℕ) (s s' : Notes) → f'.number ≡ f.number → s'.number ≡ s.number → is_whole s' ≡ is_whole s
    → slice_index_or f'.found (i - 1) nothing ≡ slice_index_or f.found (i - 1) nothing → own s' ≡ own s
    → HasFound f i s → HasFound f' i s'
found_again f f' i s s' e_last e_number e_whole e_found e_own old = record {
  done = (λ k. begun_in (e_last k) (e_number k) && e_whole k) ∙ old.done;
  found = e_found ∙ old.found ∙ sym e_own;
}

pub first_of : (agents i : ℕ) → IsOf agents i → IsOf agents 1
first_of agents i is =
    let low = is.from_1 in
    let high = is.at_most in
    record { from_1 = omega arith; at_most = omega arith }

-- ---- cases of agents

-- each agent is one agent or another one
pub each : (agents b : ℕ) (Holds : ℕ → Type 0) → Holds b → ((j : ℕ) → IsOf agents j → j ≢ b → Holds j) → (j : ℕ) → IsOf agents j → Holds j
each agents b Holds here others j is = by (eqb j b) refl
  where
    by : (test : Bool) → eqb j b ≡ test → Holds j
    by true same = subst Holds (sym (eqb-true j b same)) here
    by false apart = others j is (eqb-false j b apart)

-- two agents are one pair or another one
pub pair : (i j a b : ℕ) → ((i ≡ a) × (j ≡ b)) ⊎ ((i ≢ a) ⊎ (j ≢ b))
pair i j a b = by (eqb i a) refl (eqb j b) refl
  where
    by : (p : Bool) → eqb i a ≡ p → (q : Bool) → eqb j b ≡ q → ((i ≡ a) × (j ≡ b)) ⊎ ((i ≢ a) ⊎ (j ≢ b))
    by true is_i true is_j = inl (eqb-true i a is_i, eqb-true j b is_j)
    by true is_i false not_j = inr (inr (eqb-false j b not_j))
    by false not_i q is_j = inr (inl (eqb-false i a not_i))
