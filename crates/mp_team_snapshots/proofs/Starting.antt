-- Agent 1 starts a snapshot, once all have reported on the last one or there was none, and sends a marker to all others.
use Rattle.mp_world.proofs.Basics.{◌≡◌, ◌≢◌, ℕ, ◌+◌, ◌-◌, ◌≤◌, ◌<◌, Bool, true, false, ◌&&◌, List, [], ◌∷◌, ◌++◌, length, replicate, take, refl, sym, ap, subst, ◌∙◌, arith, ◌⊎◌, inl, inr, nat_lt, slice_set, list_all, and_from, and_left, and_parts, and_right, lt-ltb}
use Rattle.mp_world.proofs.Basics.{length-replicate, length-set}
use Rattle.mp_snapshot.specs.Rules.{all_of}
use Rattle.mp_world.specs.AgentWords.{Findings, begun, has, is_complete, is_whole, noted, nothing, own}
use Rattle.mp_team_snapshots.specs.Snapshots.{AreNotesOf}
use Rattle.mp_team_snapshots.proofs.Beginning.{own_begun}
use Rattle.mp_team_snapshots.proofs.Due.{apart_bools, begun_in, begun_is, begun_number, due_marker, due_report, no_marker_begun, no_marker_taken, no_report_done, no_report_here, none_begun, not_begun, one_marker}
use Rattle.mp_team_snapshots.proofs.NotePlaces.{all_has, has_nobody, has_set_other, has_set_same, whole_has}
use Rattle.mp_team_snapshots.proofs.Protocol.{Follows, HasFound, IsOf, Sound, View, each, first_of}

-- ---- the last snapshot is over

-- where agent 1 has all findings, each agent has begun the snapshot and awaits no marker
module _ (agents : ℕ) (small : agents ≤ 16) (v : View) (before : Sound agents v) (some : 0 < (v.note 1).number) (complete : is_complete (v.note 1) ≡ true) where
  pub all_here : (i : ℕ) → IsOf agents i → (nat_lt 0 (v.note 1).number && has (v.note 1).reported i) ≡ true
  all_here i is =
      let notes = before.notes 1 (first_of agents i is) in
      let parts = and_parts (is_whole (v.note 1)) (all_of (v.note 1) (v.note 1).reported) complete in
      and_from (nat_lt 0 (v.note 1).number) (has (v.note 1).reported i) (lt-ltb 0 (v.note 1).number some)
      (all_has (v.note 1).reported agents i is.from_1 is.at_most small notes.reported
      (sym (ap (λ n. list_all (λ b. b) (take n (v.note 1).reported)) notes.agents) ∙ parts.1))

  pub all_begun : (i : ℕ) → IsOf agents i → begun_in (v.note 1).number (v.note i).number ≡ true
  all_begun =
      each agents 1 (λ i. begun_in (v.note 1).number (v.note i).number ≡ true) (begun_is (v.note 1).number (v.note 1).number some refl)
      (λ i is other. (and_parts (begun_in (v.note 1).number (v.note i).number) (is_whole (v.note i)) (before.reported i is other (all_here i is)).done).0)

  pub all_whole : (i : ℕ) → IsOf agents i → is_whole (v.note i) ≡ true
  all_whole =
      each agents 1 (λ i. is_whole (v.note i) ≡ true) (and_parts (is_whole (v.note 1)) (all_of (v.note 1) (v.note 1).reported) complete).0
      (λ i is other. (and_parts (begun_in (v.note 1).number (v.note i).number) (is_whole (v.note i)) (before.reported i is other (all_here i is)).done).1)

  pub all_taken : (i j : ℕ) → IsOf agents i → IsOf agents j → (begun_in (v.note 1).number (v.note j).number && has (v.note j).marked i) ≡ true
  all_taken i j is_i is_j =
      let notes = before.notes j is_j in
      and_from (begun_in (v.note 1).number (v.note j).number) (has (v.note j).marked i) (all_begun j is_j)
      (whole_has (v.note j) agents i notes.agents notes.marked is_i.from_1 is_i.at_most small (all_whole j is_j))

  pub no_marker_left : (i j : ℕ) → IsOf agents i → IsOf agents j → i ≢ j → v.markers i j ≡ []
  no_marker_left i j is_i is_j off =
      before.marker i j is_i is_j off
      ∙ no_marker_taken (v.note 1).number (v.note i).number (v.note j).number (has (v.note j).marked i) (all_taken i j is_i is_j)

  pub no_report_left : (i : ℕ) → IsOf agents i → i ≢ 1 → v.reports i ≡ []
  no_report_left i is other =
      before.report i is other
      ∙ no_report_here (v.note 1).number (v.note i).number (is_whole (v.note i)) (has (v.note 1).reported i) (own (v.note i)) (all_here i is)

-- before a start: nothing of the last snapshot is under way, and all keep up
module _ (agents : ℕ) (small : agents ≤ 16) (v : View) (before : Sound agents v) where
  abbrev pub IsOver : Type 0
  IsOver = ((v.note 1).number ≡ 0) ⊎ ((0 < (v.note 1).number) × (is_complete (v.note 1) ≡ true))

  no_marker_before : IsOver → (i j : ℕ) → IsOf agents i → IsOf agents j → i ≢ j → v.markers i j ≡ []
  no_marker_before (inl none) i j is_i is_j off =
      before.marker i j is_i is_j off
      ∙ no_marker_begun (v.note 1).number (v.note i).number (v.note j).number (has (v.note j).marked i) (none_begun (v.note 1).number (v.note i).number none)
  no_marker_before (inr (some, complete)) i j is_i is_j off = no_marker_left agents small v before some complete i j is_i is_j off

  no_report_before : IsOver → (i : ℕ) → IsOf agents i → i ≢ 1 → v.reports i ≡ []
  no_report_before (inl none) i is other =
      before.report i is other
      ∙ no_report_done (v.note 1).number (v.note i).number (is_whole (v.note i)) (has (v.note 1).reported i) (own (v.note i))
      (and_left (begun_in (v.note 1).number (v.note i).number) (is_whole (v.note i)) (none_begun (v.note 1).number (v.note i).number none))
  no_report_before (inr (some, complete)) i is other = no_report_left agents small v before some complete i is other

  number_before : IsOver → (i : ℕ) → IsOf agents i → ((v.note i).number ≡ (v.note 1).number) × (((v.note i).number ≡ 0) ⊎ (is_whole (v.note i) ≡ true))
  number_before (inl none) i is = by (before.follows i is).number
    where
      by : ((v.note i).number ≡ (v.note 1).number) ⊎ (((v.note i).number + 1 ≡ (v.note 1).number) × (((v.note i).number ≡ 0) ⊎ (is_whole (v.note i) ≡ true)))
          → ((v.note i).number ≡ (v.note 1).number) × (((v.note i).number ≡ 0) ⊎ (is_whole (v.note i) ≡ true))
      by (inl same) = (same, inl (same ∙ none))
      by (inr earlier) = let next = earlier.0 in absurd (omega arith)
  number_before (inr (some, complete)) i is = (
    begun_number (v.note 1).number (v.note i).number (all_begun agents small v before some complete i is),
    inr (all_whole agents small v before some complete i is),
  )

-- ---- the start

module _ (agents : ℕ) (small : agents ≤ 16) (v v' : View) (before : Sound agents v) (found : Findings) (over : IsOver agents small v before) (is_1 : IsOf agents 1)
    (note : v'.note 1 ≡ begun (v.note 1) ((v.note 1).number + 1) found)
    (others : (j : ℕ) → IsOf agents j → j ≢ 1 → v'.note j ≡ v.note j)
    (markers : (i j : ℕ) → IsOf agents i → IsOf agents j → i ≢ j → i ≢ 1 → v'.markers i j ≡ v.markers i j)
    (sends : (j : ℕ) → IsOf agents j → 1 ≢ j → v'.markers 1 j ≡ v.markers 1 j ++ ((v.note 1).number + 1) ∷ [])
    (reports : (i : ℕ) → IsOf agents i → i ≢ 1 → v'.reports i ≡ v.reports i) where
  abbrev fresh : List Bool
  fresh = slice_set (replicate 16 false) ((v.note 1).me - 1) true

  many_fresh : length fresh ≡ 16
  many_fresh = length-set (replicate 16 false) ((v.note 1).me - 1) true ∙ length-replicate 16 false

  last : (v'.note 1).number ≡ (v.note 1).number + 1
  last = ap (λ s. s.number) note

  me_first : (v.note 1).me ≡ 1
  me_first = (before.notes 1 is_1).me

  fresh_itself : has fresh 1 ≡ true
  fresh_itself =
      ap (λ m. has (slice_set (replicate 16 false) (m - 1) true) 1) me_first
      ∙ has_set_same (replicate 16 false) 1 is_1.from_1 (omega arith) (length-replicate 16 false)

  fresh_other : (i : ℕ) → IsOf agents i → i ≢ 1 → has fresh i ≡ false
  fresh_other i is off =
      let high = is.at_most in
      ap (λ m. has (slice_set (replicate 16 false) (m - 1) true) i) me_first
      ∙ has_set_other (replicate 16 false) i 1 is.from_1 is_1.from_1 off
      ∙ has_nobody i is.from_1 (omega arith)

  not_begun_now : (i : ℕ) → IsOf agents i → i ≢ 1 → begun_in (v'.note 1).number (v'.note i).number ≡ false
  not_begun_now i is off =
      let same : (v'.note i).number ≡ (v.note i).number = ap (λ s. s.number) (others i is off) in
      let old = (number_before agents small v before over i is).0 in
      let new = last in
      not_begun (v'.note 1).number (v'.note i).number (λ e. omega arith)

  begun_1 : begun_in (v'.note 1).number (v'.note 1).number ≡ true
  begun_1 = let new = last in begun_is (v'.note 1).number (v'.note 1).number (omega arith) refl

  notes_1 : AreNotesOf agents 1 (v'.note 1)
  notes_1 = subst (AreNotesOf agents 1) (sym note) (record {
    me = me_first;
    agents = (before.notes 1 is_1).agents;
    marked = many_fresh;
    reported = many_fresh;
    found = length-set (replicate 16 nothing) ((v.note 1).me - 1) (noted ((v.note 1).number + 1) found) ∙ length-replicate 16 nothing;
    own_number = own_begun agents small (v.note 1) 1 ((v.note 1).number + 1) found me_first is_1;
  })

  follows_other : (i : ℕ) → IsOf agents i → i ≢ 1 → Follows (v'.note 1).number i (v'.note i)
  follows_other i is off =
      let old = number_before agents small v before over i is in
      let same = others i is off in
      record {
        number = inr (
          ap (λ s. s.number + 1) same ∙ ap (λ n. n + 1) old.0 ∙ sym last,
          subst (λ s. (s.number ≡ 0) ⊎ (is_whole s ≡ true)) (sym same) old.1,
        );
        itself = λ begun_it. absurd (apart_bools (begun_in (v'.note 1).number (v'.note i).number) begun_it (not_begun_now i is off));
      }

  not_taken : (i j : ℕ) → IsOf agents i → IsOf agents j → i ≢ 1 → (begun_in (v'.note 1).number (v'.note j).number && has (v'.note j).marked i) ≡ false
  not_taken i j is_i is_j off_i =
      each agents 1 (λ j. (begun_in (v'.note 1).number (v'.note j).number && has (v'.note j).marked i) ≡ false)
      (and_right (begun_in (v'.note 1).number (v'.note 1).number) (has (v'.note 1).marked i) (ap (λ s. has s.marked i) note ∙ fresh_other i is_i off_i))
      (λ j is_j other. and_left (begun_in (v'.note 1).number (v'.note j).number) (has (v'.note j).marked i) (not_begun_now j is_j other)) j is_j

  sent_kept : (i j : ℕ) → IsOf agents i → IsOf agents j → i ≢ j
      → (begun_in (v'.note 1).number (v'.note j).number && has (v'.note j).marked i) ≡ true
      → begun_in (v'.note 1).number (v'.note i).number ≡ true
  sent_kept i j is_i is_j off =
      each agents 1 (λ i. (begun_in (v'.note 1).number (v'.note j).number && has (v'.note j).marked i) ≡ true
      → begun_in (v'.note 1).number (v'.note i).number ≡ true) (λ is. begun_1)
      (λ i is_i other is. absurd (apart_bools (begun_in (v'.note 1).number (v'.note j).number && has (v'.note j).marked i) is
      (not_taken i j is_i is_j other))) i is_i

  abbrev IsDue : ℕ → ℕ → Type 0
  IsDue i j = v'.markers i j ≡ due_marker (v'.note 1).number (v'.note i).number (v'.note j).number (has (v'.note j).marked i)

  marker_sent : (j : ℕ) → IsOf agents j → 1 ≢ j → IsDue 1 j
  marker_sent j is off =
      sends j is off
      ∙ ap (λ ms. ms ++ ((v.note 1).number + 1) ∷ []) (no_marker_before agents small v before over 1 j is_1 is off)
      ∙ ap (λ n. n ∷ []) (sym last)
      ∙ sym (one_marker (v'.note 1).number (v'.note 1).number (v'.note j).number (has (v'.note j).marked 1) begun_1
      (and_left (begun_in (v'.note 1).number (v'.note j).number) (has (v'.note j).marked 1) (not_begun_now j is (λ e. off (sym e)))))

  marker_kept : (i j : ℕ) → IsOf agents i → IsOf agents j → i ≢ j → IsDue i j
  marker_kept i j is_i is_j =
      each agents 1 (λ i. i ≢ j → IsDue i j) (marker_sent j is_j)
      (λ i is_i off_i off. markers i j is_i is_j off off_i ∙ no_marker_before agents small v before over i j is_i is_j off
      ∙ sym (no_marker_begun (v'.note 1).number (v'.note i).number (v'.note j).number (has (v'.note j).marked i) (not_begun_now i is_i off_i))) i is_i

  report_kept : (i : ℕ) → IsOf agents i → i ≢ 1
      → v'.reports i ≡ due_report (v'.note 1).number (v'.note i).number (is_whole (v'.note i)) (has (v'.note 1).reported i) (own (v'.note i))
  report_kept i is off =
      reports i is off ∙ no_report_before agents small v before over i is off
      ∙ sym (no_report_done (v'.note 1).number (v'.note i).number (is_whole (v'.note i)) (has (v'.note 1).reported i) (own (v'.note i))
      (and_left (begun_in (v'.note 1).number (v'.note i).number) (is_whole (v'.note i)) (not_begun_now i is off)))

  reported_kept : (i : ℕ) → IsOf agents i → i ≢ 1
      → (nat_lt 0 (v'.note 1).number && has (v'.note 1).reported i) ≡ true → HasFound (v'.note 1) i (v'.note i)
  reported_kept i is off here =
      absurd (apart_bools (nat_lt 0 (v'.note 1).number && has (v'.note 1).reported i) here
      (and_right (nat_lt 0 (v'.note 1).number) (has (v'.note 1).reported i) (ap (λ s. has s.reported i) note ∙ fresh_other i is off)))

  pub started_sound : Sound agents v'
  started_sound = record {
    notes =
        each agents 1 (λ i. AreNotesOf agents i (v'.note i)) notes_1
        (λ i is off. subst (AreNotesOf agents i) (sym (others i is off)) (before.notes i is));
    follows =
        each agents 1 (λ i. Follows (v'.note 1).number i (v'.note i))
        (record { number = inl refl; itself = λ is. ap (λ s. has s.marked 1) note ∙ fresh_itself })
        follows_other;
    sent = sent_kept;
    marker = marker_kept;
    report = report_kept;
    reported = reported_kept;
  }
