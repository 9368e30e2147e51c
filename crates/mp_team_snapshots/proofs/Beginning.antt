-- A marker is taken by which a snapshot begins at its receiver, which is not agent 1. The receiver sends a marker to all
-- others.
use Rattle.mp_world.proofs.Basics.{◌≡◌, ◌≢◌, ℕ, ◌+◌, ◌-◌, ◌≤◌, ◌<◌, Bool, true, false, ◌&&◌, List, [], ◌∷◌, ◌++◌, length, replicate, sym, ap, subst, ◌∙◌, arith, ◌⊎◌, inl, inr, nat_lt, not, slice_set, and_from, and_left, and_parts, and_right, false_from_ne_true}
use Rattle.mp_world.proofs.Basics.{get_or-set_same, length-replicate, length-set}
use Rattle.mp_world.specs.AgentWords.{Findings, Notes, begun, has, is_whole, noted, nothing, own, with_marker}
use Rattle.mp_team_snapshots.specs.Snapshots.{AreNotesOf, one_if_due}
use Rattle.mp_team_snapshots.proofs.Due.{IsMarker, apart_bools, begun_in, begun_is, begun_some, due_marker, due_report, marker_again, marker_there, no_marker_begun, no_marker_taken, no_report_done, not_begun, one_marker, report_whole}
use Rattle.mp_team_snapshots.proofs.NotePlaces.{has_nobody, has_set_other, has_set_same}
use Rattle.mp_team_snapshots.proofs.Protocol.{Follows, HasFound, IsOf, Sound, View, each, first_of, follows_again}

-- the markers that are due where the receiver has not taken one, however that is
pub marker_awaited : (last from to to' : ℕ) (taken taken' : Bool) → (begun_in last to && taken) ≡ false → (begun_in last to' && taken') ≡ false
    → due_marker last from to taken ≡ due_marker last from to' taken'
marker_awaited last from to to' taken taken' none none' =
    (λ k. one_if_due (begun_in last from && not (none k)) last) ∙ sym (λ k. one_if_due (begun_in last from && not (none' k)) last)

-- the own findings of an agent that begins a snapshot have its number
pub own_begun : (agents : ℕ) → agents ≤ 16 → (s : Notes) (b number : ℕ) (found : Findings) → s.me ≡ b → IsOf agents b
    → (own (begun s number found)).number ≡ number
own_begun agents small s b number found me is_b =
    let low = is_b.from_1 in
    let high = is_b.at_most in
    ap (λ f. f.number) (get_or-set_same (replicate 16 nothing) (s.me - 1) (noted number found) nothing (within (omega arith)))
  where
    within : s.me - 1 < 16 → s.me - 1 < length (replicate 16 nothing)
    within is = subst (λ n. s.me - 1 < n) (sym (length-replicate 16 nothing)) is

-- the notes of an agent that begins a snapshot and has taken one marker
module _ (agents : ℕ) (small : agents ≤ 16) (s : Notes) (a b number : ℕ) (found : Findings) (notes : AreNotesOf agents b s) (is_a : IsOf agents a) (is_b : IsOf agents b) where
  abbrev after : Notes
  after = with_marker (begun s number found) a

  abbrev fresh : List Bool
  fresh = slice_set (replicate 16 false) (s.me - 1) true

  many_fresh : length fresh ≡ 16
  many_fresh = length-set (replicate 16 false) (s.me - 1) true ∙ length-replicate 16 false

  pub begun_notes : AreNotesOf agents b after
  begun_notes = record {
    me = notes.me;
    agents = notes.agents;
    marked = length-set fresh (a - 1) true ∙ many_fresh;
    reported = many_fresh;
    found = length-set (replicate 16 nothing) (s.me - 1) (noted number found) ∙ length-replicate 16 nothing;
    own_number = own_begun agents small s b number found notes.me is_b;
  }

  pub has_sender : has after.marked a ≡ true
  has_sender =
      let high = is_a.at_most in
      has_set_same fresh a is_a.from_1 (omega arith) many_fresh

  pub has_itself : a ≢ b → has after.marked b ≡ true
  has_itself apart =
      let high = is_b.at_most in
      has_set_other fresh b a is_b.from_1 is_a.from_1 (λ same. apart (sym same))
      ∙ ap (λ m. has (slice_set (replicate 16 false) (m - 1) true) b) notes.me
      ∙ has_set_same (replicate 16 false) b is_b.from_1 (omega arith) (length-replicate 16 false)

  pub has_no_other : (i : ℕ) → IsOf agents i → i ≢ a → i ≢ b → has after.marked i ≡ false
  has_no_other i is off_a off_b =
      let high = is.at_most in
      has_set_other fresh i a is.from_1 is_a.from_1 off_a
      ∙ ap (λ m. has (slice_set (replicate 16 false) (m - 1) true) i) notes.me
      ∙ has_set_other (replicate 16 false) i b is.from_1 is_b.from_1 off_b
      ∙ has_nobody i is.from_1 (omega arith)

module _ (agents : ℕ) (small : agents ≤ 16) (v v' : View) (before : Sound agents v) (a b number : ℕ) (found : Findings) (rest : List ℕ)
    (is_a : IsOf agents a) (is_b : IsOf agents b) (apart : a ≢ b) (not_first : b ≢ 1)
    (front : v.markers a b ≡ number ∷ rest)
    (behind : v'.markers a b ≡ rest)
    (next : number ≡ (v.note b).number + 1)
    (note : v'.note b ≡ with_marker (begun (v.note b) number found) a)
    (others : (j : ℕ) → IsOf agents j → j ≢ b → v'.note j ≡ v.note j)
    (markers : (i j : ℕ) → IsOf agents i → IsOf agents j → i ≢ j → i ≢ b → (i ≢ a) ⊎ (j ≢ b) → v'.markers i j ≡ v.markers i j)
    (sends : (j : ℕ) → IsOf agents j → b ≢ j → v'.markers b j ≡ v.markers b j ++ number ∷ [])
    (reports : (i : ℕ) → IsOf agents i → i ≢ 1 → i ≢ b → v'.reports i ≡ v.reports i)
    (mine : v'.reports b ≡ v.reports b ++ one_if_due (is_whole (v'.note b)) (own (v'.note b))) where
  there : IsMarker (v.note 1).number (v.note a).number (v.note b).number number (has (v.note b).marked a) rest
  there =
      marker_there (v.note 1).number (v.note a).number (v.note b).number number (has (v.note b).marked a) rest
      (sym front ∙ before.marker a b is_a is_b apart)

  first_same : v'.note 1 ≡ v.note 1
  first_same = others 1 (first_of agents a is_a) (λ same. not_first (sym same))

  last_same : (v'.note 1).number ≡ (v.note 1).number
  last_same = ap (λ s. s.number) first_same

  not_begun_b : begun_in (v.note 1).number (v.note b).number ≡ false
  not_begun_b =
      let last = there.number in
      not_begun (v.note 1).number (v.note b).number (λ same. omega arith)

  number_b : (v'.note b).number ≡ (v.note 1).number
  number_b = ap (λ s. s.number) note ∙ there.number

  begun_b : begun_in (v'.note 1).number (v'.note b).number ≡ true
  begun_b =
      let last = last_same in
      let some = begun_some (v.note 1).number (v.note a).number there.begun in
      begun_is (v'.note 1).number (v'.note b).number (subst (λ n. 0 < n) (sym last) some) (number_b ∙ sym last_same)

  marks_b : (i : ℕ) → has (v'.note b).marked i ≡ has (with_marker (begun (v.note b) number found) a).marked i
  marks_b i = ap (λ s. has s.marked i) note

  from_begun : (i : ℕ) → IsOf agents i → i ≢ b → begun_in (v.note 1).number (v.note i).number ≡ true → begun_in (v'.note 1).number (v'.note i).number ≡ true
  from_begun i is off begun =
      let last = last_same in
      let same = others i is off in
      (λ k. begun_in (last k) (same k).number) ∙ begun

  notes_kept : (i : ℕ) → IsOf agents i → AreNotesOf agents i (v'.note i)
  notes_kept =
      each agents b (λ i. AreNotesOf agents i (v'.note i))
      (subst (AreNotesOf agents b) (sym note) (begun_notes agents small (v.note b) a b number found (before.notes b is_b) is_a is_b))
      (λ i is off. subst (AreNotesOf agents i) (sym (others i is off)) (before.notes i is))

  follows_b : Follows (v'.note 1).number b (v'.note b)
  follows_b = record {
    number = inl (number_b ∙ sym last_same);
    itself = λ is. marks_b b ∙ has_itself agents small (v.note b) a b number found (before.notes b is_b) is_a is_b apart;
  }

  follows_kept : (i : ℕ) → IsOf agents i → Follows (v'.note 1).number i (v'.note i)
  follows_kept =
      each agents b (λ i. Follows (v'.note 1).number i (v'.note i)) follows_b
      (λ i is off. follows_again (v.note 1).number (v'.note 1).number i (v.note i) (v'.note i) last_same (ap (λ s. s.number) (others i is off))
      (ap is_whole (others i is off)) (ap (λ s. has s.marked i) (others i is off)) (before.follows i is))

  -- only the marker of the sender was taken at the receiver
  sent_to_b : (i : ℕ) → IsOf agents i → i ≢ b → has (v'.note b).marked i ≡ true → begun_in (v'.note 1).number (v'.note i).number ≡ true
  sent_to_b i is off taken =
      each agents a (λ i. i ≢ b → has (v'.note b).marked i ≡ true → begun_in (v'.note 1).number (v'.note i).number ≡ true)
      (λ off taken. from_begun a is_a off there.begun)
      (λ i is other off taken. absurd (apart_bools (has (v'.note b).marked i) taken
      (marks_b i ∙ has_no_other agents small (v.note b) a b number found (before.notes b is_b) is_a is_b i is other off))) i is off taken

  sent_to_others : (i j : ℕ) → IsOf agents i → IsOf agents j → j ≢ b → i ≢ j
      → (begun_in (v'.note 1).number (v'.note j).number && has (v'.note j).marked i) ≡ true
      → begun_in (v'.note 1).number (v'.note i).number ≡ true
  sent_to_others i j is_i is_j off_j off is =
      each agents b (λ i. i ≢ j → (begun_in (v'.note 1).number (v'.note j).number && has (v'.note j).marked i) ≡ true
      → begun_in (v'.note 1).number (v'.note i).number ≡ true) (λ off is. begun_b)
      (λ i is_i other off is.
      let last = last_same in
      let same = others j is_j off_j in
      from_begun i is_i other
      (before.sent i j is_i is_j off (sym (λ k. begun_in (last k) (same k).number && has (same k).marked i) ∙ is))) i is_i off is

  sent_kept : (i j : ℕ) → IsOf agents i → IsOf agents j → i ≢ j
      → (begun_in (v'.note 1).number (v'.note j).number && has (v'.note j).marked i) ≡ true
      → begun_in (v'.note 1).number (v'.note i).number ≡ true
  sent_kept i j is_i is_j off is =
      each agents b (λ j. i ≢ j → (begun_in (v'.note 1).number (v'.note j).number && has (v'.note j).marked i) ≡ true
      → begun_in (v'.note 1).number (v'.note i).number ≡ true)
      (λ off is. sent_to_b i is_i off (and_parts (begun_in (v'.note 1).number (v'.note b).number) (has (v'.note b).marked i) is).1)
      (λ j is_j other off is. sent_to_others i j is_i is_j other off is) j is_j off is

  abbrev IsDue : ℕ → ℕ → Type 0
  IsDue i j = v'.markers i j ≡ due_marker (v'.note 1).number (v'.note i).number (v'.note j).number (has (v'.note j).marked i)

  marker_taken : IsDue a b
  marker_taken =
      behind ∙ there.alone
      ∙ sym (no_marker_taken (v'.note 1).number (v'.note a).number (v'.note b).number (has (v'.note b).marked a)
      (and_from (begun_in (v'.note 1).number (v'.note b).number) (has (v'.note b).marked a) begun_b
      (marks_b a ∙ has_sender agents small (v.note b) a b number found (before.notes b is_b) is_a is_b)))

  -- no one has taken the receiver's marker
  not_taken : (j : ℕ) → IsOf agents j → b ≢ j → (begun_in (v'.note 1).number (v'.note j).number && has (v'.note j).marked b) ≡ false
  not_taken j is off =
      let last = last_same in
      let same = others j is (λ e. off (sym e)) in
      (λ k. begun_in (last k) (same k).number && has (same k).marked b)
      ∙ false_from_ne_true (begun_in (v.note 1).number (v.note j).number && has (v.note j).marked b)
      (λ taken. apart_bools (begun_in (v.note 1).number (v.note b).number) (before.sent b j is_b is off taken) not_begun_b)

  marker_sent : (j : ℕ) → IsOf agents j → b ≢ j → IsDue b j
  marker_sent j is off =
      sends j is off
      ∙ ap (λ ms. ms ++ number ∷ [])
      (before.marker b j is_b is off ∙ no_marker_begun (v.note 1).number (v.note b).number (v.note j).number (has (v.note j).marked b) not_begun_b)
      ∙ ap (λ n. n ∷ []) (there.number ∙ sym last_same)
      ∙ sym (one_marker (v'.note 1).number (v'.note b).number (v'.note j).number (has (v'.note j).marked b) begun_b (not_taken j is off))

  -- a marker that the receiver awaits still
  marker_to_b : (i : ℕ) → IsOf agents i → i ≢ a → i ≢ b → IsDue i b
  marker_to_b i is off_a off_b =
      markers i b is is_b off_b off_b (inl off_a) ∙ before.marker i b is is_b off_b
      ∙ marker_awaited (v.note 1).number (v.note i).number (v.note b).number (v'.note b).number (has (v.note b).marked i) (has (v'.note b).marked i)
      (and_left (begun_in (v.note 1).number (v.note b).number) (has (v.note b).marked i) not_begun_b)
      (and_right (begun_in (v.note 1).number (v'.note b).number) (has (v'.note b).marked i)
      (marks_b i ∙ has_no_other agents small (v.note b) a b number found (before.notes b is_b) is_a is_b i is off_a off_b))
      ∙ sym (λ k. due_marker (last_same k) ((others i is off_b) k).number (v'.note b).number (has (v'.note b).marked i))

  marker_among_others : (i j : ℕ) → IsOf agents i → IsOf agents j → i ≢ j → i ≢ b → j ≢ b → IsDue i j
  marker_among_others i j is_i is_j off off_i off_j =
      markers i j is_i is_j off off_i (inr off_j) ∙ before.marker i j is_i is_j off
      ∙ marker_again (v.note 1).number (v'.note 1).number (v.note i).number (v'.note i).number (v.note j).number (v'.note j).number
      (has (v.note j).marked i) (has (v'.note j).marked i) last_same (ap (λ s. s.number) (others i is_i off_i)) (ap (λ s. s.number) (others j is_j off_j))
      (ap (λ s. has s.marked i) (others j is_j off_j))

  marker_into_b : (i : ℕ) → IsOf agents i → i ≢ b → IsDue i b
  marker_into_b i is off =
      each agents a (λ i. i ≢ b → IsDue i b) (λ off. marker_taken) (λ i is other off. marker_to_b i is other off) i is off

  marker_kept : (i j : ℕ) → IsOf agents i → IsOf agents j → i ≢ j → IsDue i j
  marker_kept i j is_i is_j =
      each agents b (λ i. i ≢ j → IsDue i j) (marker_sent j is_j)
      (λ i is_i off_i. each agents b (λ j. i ≢ j → IsDue i j) (marker_into_b i is_i)
      (λ j is_j off_j off. marker_among_others i j is_i is_j off off_i off_j) j is_j) i is_i

  not_done_b : (begun_in (v.note 1).number (v.note b).number && is_whole (v.note b)) ≡ false
  not_done_b = and_left (begun_in (v.note 1).number (v.note b).number) (is_whole (v.note b)) not_begun_b

  -- agent 1 has no report of the receiver
  not_here : (nat_lt 0 (v.note 1).number && has (v.note 1).reported b) ≡ false
  not_here =
      false_from_ne_true (nat_lt 0 (v.note 1).number && has (v.note 1).reported b) (λ here.
      apart_bools (begun_in (v.note 1).number (v.note b).number && is_whole (v.note b)) (before.reported b is_b not_first here).done not_done_b)

  not_here_now : (nat_lt 0 (v'.note 1).number && has (v'.note 1).reported b) ≡ false
  not_here_now = ap (λ s. nat_lt 0 s.number && has s.reported b) first_same ∙ not_here

  abbrev IsReportDue : ℕ → Type 0
  IsReportDue i = v'.reports i ≡ due_report (v'.note 1).number (v'.note i).number (is_whole (v'.note i)) (has (v'.note 1).reported i) (own (v'.note i))

  report_b : IsReportDue b
  report_b =
      mine
      ∙ ap (λ ms. ms ++ one_if_due (is_whole (v'.note b)) (own (v'.note b)))
      (before.report b is_b not_first
      ∙ no_report_done (v.note 1).number (v.note b).number (is_whole (v.note b)) (has (v.note 1).reported b) (own (v.note b)) not_done_b)
      ∙ sym (report_whole (v'.note 1).number (v'.note b).number (is_whole (v'.note b)) (has (v'.note 1).reported b) (own (v'.note b)) begun_b not_here_now)

  report_kept : (i : ℕ) → IsOf agents i → i ≢ 1 → IsReportDue i
  report_kept =
      each agents b (λ i. i ≢ 1 → IsReportDue i) (λ other. report_b)
      (λ i is off other. reports i is other off ∙ before.report i is other
      ∙ sym (λ k. due_report (first_same k).number ((others i is off) k).number (is_whole ((others i is off) k)) (has (first_same k).reported i) (own ((others i is off) k))))

  reported_kept : (i : ℕ) → IsOf agents i → i ≢ 1
      → (nat_lt 0 (v'.note 1).number && has (v'.note 1).reported i) ≡ true → HasFound (v'.note 1) i (v'.note i)
  reported_kept =
      each agents b (λ i. i ≢ 1 → (nat_lt 0 (v'.note 1).number && has (v'.note 1).reported i) ≡ true → HasFound (v'.note 1) i (v'.note i))
      (λ other here. absurd (apart_bools (nat_lt 0 (v'.note 1).number && has (v'.note 1).reported b) here not_here_now))
      (λ i is off other here.
      subst (λ f. HasFound f i (v'.note i)) (sym first_same)
      (subst (HasFound (v.note 1) i) (sym (others i is off))
      (before.reported i is other (sym (ap (λ s. nat_lt 0 s.number && has s.reported i) first_same) ∙ here))))

  pub begun_sound : Sound agents v'
  begun_sound = record {
    notes = notes_kept;
    follows = follows_kept;
    sent = sent_kept;
    marker = marker_kept;
    report = report_kept;
    reported = reported_kept;
  }
