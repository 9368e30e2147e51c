-- A marker is taken, in a snapshot that has begun at its receiver.
use Rattle.mp_world.proofs.Basics.{◌≡◌, ◌≢◌, ℕ, ◌-◌, ◌≤◌, true, false, ◌&&◌, List, ◌∷◌, ◌++◌, length, sym, ap, subst, ◌∙◌, arith, ◌⊎◌, inl, inr, nat_lt, slice_index_or, and_from, and_parts, and_right, false_from_ne_true, length-set}
use Rattle.mp_world.specs.AgentWords.{Notes, has, is_whole, nothing, own, with_marker}
use Rattle.mp_team_snapshots.specs.Snapshots.{AreNotesOf, one_if_due}
use Rattle.mp_team_snapshots.proofs.Due.{IsMarker, apart_bools, begun_in, begun_is, begun_some, due_marker, due_report, marker_again, marker_there, no_marker_taken, no_report_done, report_again, report_whole}
use Rattle.mp_team_snapshots.proofs.NotePlaces.{has_set_other, has_set_same, whole_has}
use Rattle.mp_team_snapshots.proofs.Protocol.{Follows, HasFound, IsOf, Sound, View, each, first_of, follows_again, found_again, pair}

-- notes that differ in the markers that have come alone
pub record SameButMarks (s s' : Notes) : Type 0 where
  pub me : s'.me ≡ s.me
  pub agents : s'.agents ≡ s.agents
  pub number : s'.number ≡ s.number
  pub marked : length s'.marked ≡ length s.marked
  pub reported : s'.reported ≡ s.reported
  pub found : s'.found ≡ s.found

same_notes : (s s' : Notes) → s' ≡ s → SameButMarks s s'
same_notes s s' same = record {
  me = ap (λ t. t.me) same;
  agents = ap (λ t. t.agents) same;
  number = ap (λ t. t.number) same;
  marked = ap (λ t. length t.marked) same;
  reported = ap (λ t. t.reported) same;
  found = ap (λ t. t.found) same;
}

marker_notes : (s s' : Notes) (a : ℕ) → s' ≡ with_marker s a → SameButMarks s s'
marker_notes s s' a is = record {
  me = ap (λ t. t.me) is;
  agents = ap (λ t. t.agents) is;
  number = ap (λ t. t.number) is;
  marked = ap (λ t. length t.marked) is ∙ length-set s.marked (a - 1) true;
  reported = ap (λ t. t.reported) is;
  found = ap (λ t. t.found) is;
}

module _ (agents : ℕ) (small : agents ≤ 16) (v v' : View) (before : Sound agents v) (a b number : ℕ) (rest : List ℕ)
    (is_a : IsOf agents a) (is_b : IsOf agents b) (apart : a ≢ b)
    (front : v.markers a b ≡ number ∷ rest)
    (behind : v'.markers a b ≡ rest)
    (under_way : (v.note b).number ≡ number)
    (note : v'.note b ≡ with_marker (v.note b) a)
    (others : (j : ℕ) → IsOf agents j → j ≢ b → v'.note j ≡ v.note j)
    (markers : (i j : ℕ) → IsOf agents i → IsOf agents j → i ≢ j → (i ≢ a) ⊎ (j ≢ b) → v'.markers i j ≡ v.markers i j)
    (reports : (i : ℕ) → IsOf agents i → i ≢ 1 → i ≢ b → v'.reports i ≡ v.reports i)
    (mine : b ≢ 1 → v'.reports b ≡ v.reports b ++ one_if_due (is_whole (v'.note b)) (own (v'.note b))) where
  there : IsMarker (v.note 1).number (v.note a).number (v.note b).number number (has (v.note b).marked a) rest
  there =
      marker_there (v.note 1).number (v.note a).number (v.note b).number number (has (v.note b).marked a) rest
      (sym front ∙ before.marker a b is_a is_b apart)

  begun_b : begun_in (v.note 1).number (v.note b).number ≡ true
  begun_b = begun_is (v.note 1).number (v.note b).number (begun_some (v.note 1).number (v.note a).number there.begun) (under_way ∙ there.number)

  not_marked : has (v.note b).marked a ≡ false
  not_marked = let begun = begun_b in sym (λ k. begun k && has (v.note b).marked a) ∙ there.awaited

  not_whole : is_whole (v.note b) ≡ false
  not_whole =
      let notes = before.notes b is_b in
      false_from_ne_true (is_whole (v.note b)) (λ whole.
      apart_bools (has (v.note b).marked a) (whole_has (v.note b) agents a notes.agents notes.marked is_a.from_1 is_a.at_most small whole) not_marked)

  alike : (j : ℕ) → IsOf agents j → SameButMarks (v.note j) (v'.note j)
  alike =
      each agents b (λ j. SameButMarks (v.note j) (v'.note j)) (marker_notes (v.note b) (v'.note b) a note)
      (λ j is off. same_notes (v.note j) (v'.note j) (others j is off))

  last_same : (v'.note 1).number ≡ (v.note 1).number
  last_same = (alike 1 (first_of agents a is_a)).number

  own_same : (j : ℕ) → IsOf agents j → own (v'.note j) ≡ own (v.note j)
  own_same j is = let same = alike j is in λ k. slice_index_or (same.found k) (same.me k - 1) nothing

  here_same : (i : ℕ) → has (v'.note 1).reported i ≡ has (v.note 1).reported i
  here_same i = ap (λ flags. has flags i) (alike 1 (first_of agents a is_a)).reported

  whole_same : (j : ℕ) → IsOf agents j → j ≢ b → is_whole (v'.note j) ≡ is_whole (v.note j)
  whole_same j is off = ap is_whole (others j is off)

  -- all but the marker that was taken
  marks_b : (i : ℕ) → IsOf agents i → i ≢ a → has (v'.note b).marked i ≡ has (v.note b).marked i
  marks_b i is off = ap (λ t. has t.marked i) note ∙ has_set_other (v.note b).marked i a is.from_1 is_a.from_1 off

  marks_same : (i j : ℕ) → IsOf agents i → IsOf agents j → (i ≢ a) ⊎ (j ≢ b) → has (v'.note j).marked i ≡ has (v.note j).marked i
  marks_same i j is_i is_j (inr off) = ap (λ t. has t.marked i) (others j is_j off)
  marks_same i j is_i is_j (inl off) =
      each agents b (λ j. has (v'.note j).marked i ≡ has (v.note j).marked i) (marks_b i is_i off)
      (λ k is_k apart_b. ap (λ t. has t.marked i) (others k is_k apart_b)) j is_j

  marks_a : has (v'.note b).marked a ≡ true
  marks_a =
      let low = is_a.from_1 in
      let high = is_a.at_most in
      ap (λ t. has t.marked a) note ∙ has_set_same (v.note b).marked a low (omega arith) (before.notes b is_b).marked

  taken_now : (begun_in (v'.note 1).number (v'.note b).number && has (v'.note b).marked a) ≡ true
  taken_now =
      let last = last_same in
      let to = (alike b is_b).number in
      and_from (begun_in (v'.note 1).number (v'.note b).number) (has (v'.note b).marked a) ((λ k. begun_in (last k) (to k)) ∙ begun_b) marks_a

  notes_kept : (i : ℕ) → IsOf agents i → AreNotesOf agents i (v'.note i)
  notes_kept i is =
      let old = before.notes i is in
      let same = alike i is in
      record {
        me = same.me ∙ old.me;
        agents = same.agents ∙ old.agents;
        marked = same.marked ∙ old.marked;
        reported = ap length same.reported ∙ old.reported;
        found = ap length same.found ∙ old.found;
        own_number = ap (λ f. f.number) (own_same i is) ∙ old.own_number ∙ sym same.number;
      }

  follows_b : Follows (v'.note 1).number b (v'.note b)
  follows_b = record {
    number = inl ((alike b is_b).number ∙ under_way ∙ there.number ∙ sym last_same);
    itself = λ is. marks_b b is_b (λ same. apart (sym same)) ∙ (before.follows b is_b).itself begun_b;
  }

  follows_kept : (i : ℕ) → IsOf agents i → Follows (v'.note 1).number i (v'.note i)
  follows_kept =
      each agents b (λ i. Follows (v'.note 1).number i (v'.note i)) follows_b
      (λ i is off. follows_again (v.note 1).number (v'.note 1).number i (v.note i) (v'.note i) last_same (alike i is).number (whole_same i is off)
      (marks_same i i is is (inr off)) (before.follows i is))

  from_begun : (i : ℕ) → IsOf agents i → begun_in (v.note 1).number (v.note i).number ≡ true → begun_in (v'.note 1).number (v'.note i).number ≡ true
  from_begun i is begun =
      let last = last_same in
      let from = (alike i is).number in
      (λ k. begun_in (last k) (from k)) ∙ begun

  sent_kept : (i j : ℕ) → IsOf agents i → IsOf agents j → i ≢ j
      → (begun_in (v'.note 1).number (v'.note j).number && has (v'.note j).marked i) ≡ true
      → begun_in (v'.note 1).number (v'.note i).number ≡ true
  sent_kept i j is_i is_j off is = from_begun i is_i (by (pair i j a b))
    where
      by : ((i ≡ a) × (j ≡ b)) ⊎ ((i ≢ a) ⊎ (j ≢ b)) → begun_in (v.note 1).number (v.note i).number ≡ true
      by (inl this) = subst (λ k. begun_in (v.note 1).number (v.note k).number ≡ true) (sym this.0) there.begun
      by (inr other) =
          let last = last_same in
          let to = (alike j is_j).number in
          let taken = marks_same i j is_i is_j other in
          before.sent i j is_i is_j off (sym (λ k. begun_in (last k) (to k) && taken k) ∙ is)

  marker_kept : (i j : ℕ) → IsOf agents i → IsOf agents j → i ≢ j
      → v'.markers i j ≡ due_marker (v'.note 1).number (v'.note i).number (v'.note j).number (has (v'.note j).marked i)
  marker_kept i j is_i is_j off = by (pair i j a b)
    where
      taken : v'.markers a b ≡ due_marker (v'.note 1).number (v'.note a).number (v'.note b).number (has (v'.note b).marked a)
      taken =
          behind ∙ there.alone
          ∙ sym (no_marker_taken (v'.note 1).number (v'.note a).number (v'.note b).number (has (v'.note b).marked a) taken_now)

      by : ((i ≡ a) × (j ≡ b)) ⊎ ((i ≢ a) ⊎ (j ≢ b))
          → v'.markers i j ≡ due_marker (v'.note 1).number (v'.note i).number (v'.note j).number (has (v'.note j).marked i)
      by (inl this) =
          subst (λ k. v'.markers k j ≡ due_marker (v'.note 1).number (v'.note k).number (v'.note j).number (has (v'.note j).marked k)) (sym this.0)
          (subst (λ k. v'.markers a k ≡ due_marker (v'.note 1).number (v'.note a).number (v'.note k).number (has (v'.note k).marked a)) (sym this.1) taken)
      by (inr other) =
          markers i j is_i is_j off other ∙ before.marker i j is_i is_j off
          ∙ marker_again (v.note 1).number (v'.note 1).number (v.note i).number (v'.note i).number (v.note j).number (v'.note j).number
          (has (v.note j).marked i) (has (v'.note j).marked i) last_same (alike i is_i).number (alike j is_j).number (marks_same i j is_i is_j other)

  -- agent 1 has no report of the receiver, which awaited a marker
  not_here : b ≢ 1 → (nat_lt 0 (v.note 1).number && has (v.note 1).reported b) ≡ false
  not_here other =
      false_from_ne_true (nat_lt 0 (v.note 1).number && has (v.note 1).reported b) (λ here.
      apart_bools (is_whole (v.note b)) (and_parts (begun_in (v.note 1).number (v.note b).number) (is_whole (v.note b)) (before.reported b is_b other here).done).1
      not_whole)

  not_here_now : b ≢ 1 → (nat_lt 0 (v'.note 1).number && has (v'.note 1).reported b) ≡ false
  not_here_now other =
      let last = last_same in
      let listed = here_same b in
      (λ k. nat_lt 0 (last k) && listed k) ∙ not_here other

  report_b : b ≢ 1 → v'.reports b ≡ due_report (v'.note 1).number (v'.note b).number (is_whole (v'.note b)) (has (v'.note 1).reported b) (own (v'.note b))
  report_b other =
      mine other
      ∙ ap (λ ms. ms ++ one_if_due (is_whole (v'.note b)) (own (v'.note b)))
      (before.report b is_b other
      ∙ no_report_done (v.note 1).number (v.note b).number (is_whole (v.note b)) (has (v.note 1).reported b) (own (v.note b))
      (and_right (begun_in (v.note 1).number (v.note b).number) (is_whole (v.note b)) not_whole))
      ∙ sym (report_whole (v'.note 1).number (v'.note b).number (is_whole (v'.note b)) (has (v'.note 1).reported b) (own (v'.note b))
      (from_begun b is_b begun_b) (not_here_now other))

  report_kept : (i : ℕ) → IsOf agents i → i ≢ 1
      → v'.reports i ≡ due_report (v'.note 1).number (v'.note i).number (is_whole (v'.note i)) (has (v'.note 1).reported i) (own (v'.note i))
  report_kept =
      each agents b (λ i. i ≢ 1 → v'.reports i ≡ due_report (v'.note 1).number (v'.note i).number (is_whole (v'.note i)) (has (v'.note 1).reported i) (own (v'.note i)))
      report_b
      (λ i is off other. reports i is other off ∙ before.report i is other
      ∙ report_again (v.note 1).number (v'.note 1).number (v.note i).number (v'.note i).number (is_whole (v.note i)) (is_whole (v'.note i))
      (has (v.note 1).reported i) (has (v'.note 1).reported i) (own (v.note i)) (own (v'.note i))
      last_same (alike i is).number (whole_same i is off) (here_same i) (own_same i is))

  reported_kept : (i : ℕ) → IsOf agents i → i ≢ 1
      → (nat_lt 0 (v'.note 1).number && has (v'.note 1).reported i) ≡ true → HasFound (v'.note 1) i (v'.note i)
  reported_kept =
      each agents b (λ i. i ≢ 1 → (nat_lt 0 (v'.note 1).number && has (v'.note 1).reported i) ≡ true → HasFound (v'.note 1) i (v'.note i))
      (λ other here. absurd (apart_bools (nat_lt 0 (v'.note 1).number && has (v'.note 1).reported b) here (not_here_now other)))
      (λ i is off other here.
      let last = last_same in
      let listed = here_same i in
      found_again (v.note 1) (v'.note 1) i (v.note i) (v'.note i) last_same (alike i is).number (whole_same i is off)
      (ap (λ found. slice_index_or found (i - 1) nothing) (alike 1 (first_of agents a is_a)).found) (own_same i is)
      (before.reported i is other (sym (λ k. nat_lt 0 (last k) && listed k) ∙ here)))

  pub marked_sound : Sound agents v'
  marked_sound = record {
    notes = notes_kept;
    follows = follows_kept;
    sent = sent_kept;
    marker = marker_kept;
    report = report_kept;
    reported = reported_kept;
  }
