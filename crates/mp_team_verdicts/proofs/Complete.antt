-- Where nothing of a snapshot is under way, agent 1 has the findings of all agents.
use Rattle.mp_world.proofs.Basics.{◌≡◌, ◌≢◌, ℕ, zero, suc, ◌-◌, ◌≤◌, ◌<◌, Bool, true, false, ◌&&◌, eqb, List, [], ◌∷◌, length, take, refl, sym, ap, subst, ◌∙◌, arith, not, nat_lt, slice_index_or, list_all, and_from, and_parts, eqb-false, eqb-true}
use Rattle.mp_world.specs.AgentWords.{has, is_complete, is_whole, own}
use Rattle.mp_world.proofs.LocalCases.{not_false}
use Rattle.mp_team_snapshots.specs.Snapshots.{one_if_due}
use Rattle.mp_team_snapshots.proofs.Due.{begun_in, begun_is}
use Rattle.mp_team_snapshots.proofs.Protocol.{IsOf, Sound, View, each, first_of}

-- what is due is not there, so it is not due
pub not_due : {A : Type 0} (b : Bool) (x : A) → one_if_due b x ≡ [] → b ≡ false
not_due true x is = absurd (let impossible : ⊥ = cc in impossible)
not_due false x is = refl

-- of two that do not hold together, the one holds, so the other one does not
pub other_false : (a b : Bool) → (a && b) ≡ false → a ≡ true → b ≡ false
other_false true b is on = is
other_false false b is on = absurd (let impossible : ⊥ = cc in impossible)

all_taken : (flags : List Bool) (n : ℕ) → n ≤ length flags → ((k : ℕ) → k < n → slice_index_or flags k false ≡ true)
    → list_all (λ b. b) (take n flags) ≡ true
all_taken [] zero within each_one = refl
all_taken [] (suc n) within each_one = absurd (omega arith)
all_taken (x ∷ xs) zero within each_one = refl
all_taken (x ∷ xs) (suc n) within each_one =
    and_from x (list_all (λ b. b) (take n xs)) (each_one zero (omega arith))
    (all_taken xs n (omega arith) (λ k inside. each_one (suc k) (omega arith)))

-- where each agent of a team is listed, all are
all_listed : (flags : List Bool) (agents : ℕ) → agents ≤ 16 → length flags ≡ 16
    → ((i : ℕ) → IsOf agents i → has flags i ≡ true) → list_all (λ b. b) (take agents flags) ≡ true
all_listed flags agents small many each_one =
    all_taken flags agents (omega arith)
    (λ k inside.
    let place : suc k - 1 ≡ k = omega arith in
    subst (λ j. slice_index_or flags j false ≡ true) place
    (each_one (suc k) (record { from_1 = omega arith; at_most = omega arith })))

-- no marker and no report is under way
pub record IsStill (agents : ℕ) (v : View) : Type 0 where
  pub markers : (i j : ℕ) → IsOf agents i → IsOf agents j → i ≢ j → v.markers i j ≡ []
  pub reports : (i : ℕ) → IsOf agents i → i ≢ 1 → v.reports i ≡ []

module _ (agents : ℕ) (small : agents ≤ 16) (v : View) (sound : Sound agents v) (some : 0 < (v.note 1).number) where
  first_begun : begun_in (v.note 1).number (v.note 1).number ≡ true
  first_begun = begun_is (v.note 1).number (v.note 1).number some refl

  -- where the marker of agent 1 is not under way to an agent, that one has begun
  pub begun_by : (i : ℕ) → IsOf agents i → (1 ≢ i → v.markers 1 i ≡ [])
      → begun_in (v.note 1).number (v.note i).number ≡ true
  begun_by i is none = by (eqb i 1) refl
    where
      by : (b : Bool) → eqb i 1 ≡ b → begun_in (v.note 1).number (v.note i).number ≡ true
      by true test = subst (λ k. begun_in (v.note 1).number (v.note k).number ≡ true) (sym (eqb-true i 1 test)) first_begun
      by false test =
          let off : 1 ≢ i = λ same. eqb-false i 1 test (sym same) in
          let first = (v.note 1).number in
          let taken = begun_in first (v.note i).number && has (v.note i).marked 1 in
          let due : one_if_due (begun_in first first && not taken) first ≡ [] =
          sym (sound.marker 1 i (first_of agents i is) is off) ∙ none off in
          (and_parts (begun_in first (v.note i).number) (has (v.note i).marked 1)
          (not_false taken
          (other_false (begun_in first first) (not taken) (not_due (begun_in first first && not taken) first due) first_begun))).0

  -- where the marker of an agent that has begun is not under way to another one, that one has taken it
  pub marked_by : (i j : ℕ) → IsOf agents i → IsOf agents j → (i ≢ j → v.markers i j ≡ [])
      → begun_in (v.note 1).number (v.note i).number ≡ true
      → begun_in (v.note 1).number (v.note j).number ≡ true
      → has (v.note j).marked i ≡ true
  marked_by i j is_i is_j none begun_i begun_j = by (eqb i j) refl
    where
      by : (b : Bool) → eqb i j ≡ b → has (v.note j).marked i ≡ true
      by true test =
          subst (λ k. has (v.note j).marked k ≡ true) (sym (eqb-true i j test)) ((sound.follows j is_j).itself begun_j)
      by false test =
          let off : i ≢ j = eqb-false i j test in
          let first = (v.note 1).number in
          let sent = begun_in first (v.note i).number in
          let taken = begun_in first (v.note j).number && has (v.note j).marked i in
          let due : one_if_due (sent && not taken) first ≡ [] = sym (sound.marker i j is_i is_j off) ∙ none off in
          (and_parts (begun_in first (v.note j).number) (has (v.note j).marked i)
          (not_false taken (other_false sent (not taken) (not_due (sent && not taken) first due) begun_i))).1

  -- an agent that has taken the markers of all awaits none
  pub whole_by : (j : ℕ) → IsOf agents j → ((i : ℕ) → IsOf agents i → has (v.note j).marked i ≡ true)
      → is_whole (v.note j) ≡ true
  whole_by j is_j marked =
      let notes = sound.notes j is_j in
      ap (λ n. list_all (λ b. b) (take n (v.note j).marked)) notes.agents
      ∙ all_listed (v.note j).marked agents small notes.marked marked

  -- where the report of an agent that is done is not under way, agent 1 has it
  pub reported_by : (i : ℕ) → IsOf agents i → i ≢ 1 → v.reports i ≡ []
      → begun_in (v.note 1).number (v.note i).number ≡ true → is_whole (v.note i) ≡ true
      → has (v.note 1).reported i ≡ true
  reported_by i is off none begun_i whole =
      let first = (v.note 1).number in
      let done = begun_in first (v.note i).number && is_whole (v.note i) in
      let here = nat_lt 0 first && has (v.note 1).reported i in
      let due : one_if_due (done && not here) (own (v.note i)) ≡ [] = sym (sound.report i is off) ∙ none in
      (and_parts (nat_lt 0 first) (has (v.note 1).reported i)
      (not_false here
      (other_false done (not here) (not_due (done && not here) (own (v.note i)) due)
      (and_from (begun_in first (v.note i).number) (is_whole (v.note i)) begun_i whole)))).1

  -- agent 1 is listed by itself, and awaits neither a marker nor a report
  pub complete_by : is_whole (v.note 1) ≡ true → IsOf agents 1 → has (v.note 1).reported 1 ≡ true
      → ((i : ℕ) → IsOf agents i → i ≢ 1 → has (v.note 1).reported i ≡ true)
      → is_complete (v.note 1) ≡ true
  complete_by whole is_1 itself others =
      let notes = sound.notes 1 is_1 in
      and_from (is_whole (v.note 1)) (list_all (λ b. b) (take (v.note 1).agents (v.note 1).reported)) whole
      (ap (λ n. list_all (λ b. b) (take n (v.note 1).reported)) notes.agents
      ∙ all_listed (v.note 1).reported agents small notes.reported
      (each agents 1 (λ i. has (v.note 1).reported i ≡ true) itself others))

  pub complete_if_still : IsStill agents v → IsOf agents 1 → has (v.note 1).reported 1 ≡ true → is_complete (v.note 1) ≡ true
  complete_if_still still is_1 itself =
      let begun_all : (i : ℕ) → IsOf agents i → begun_in (v.note 1).number (v.note i).number ≡ true =
      λ i is. begun_by i is (λ off. still.markers 1 i is_1 is off) in
      let whole : (j : ℕ) → IsOf agents j → is_whole (v.note j) ≡ true =
      λ j is_j. whole_by j is_j (λ i is_i.
      marked_by i j is_i is_j (λ off. still.markers i j is_i is_j off) (begun_all i is_i) (begun_all j is_j)) in
      complete_by (whole 1 is_1) is_1 itself
      (λ i is off. reported_by i is off (still.reports i is off) (begun_all i is) (whole i is))
