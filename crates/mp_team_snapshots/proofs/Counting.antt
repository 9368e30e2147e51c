-- A step in which no agent takes a marker or a report, and no snapshot begins: states may be counted.
use Rattle.mp_world.proofs.Basics.{◌≡◌, ◌≢◌, ℕ, ◌-◌, true, false, ◌&&◌, length, take, sym, ap, ◌∙◌, arith, ◌⊎◌, inl, inr, nat_lt, slice_index_or, list_all, and_right}
use Rattle.mp_world.specs.AgentWords.{Notes, has, is_whole, nothing, own}
use Rattle.mp_team_snapshots.specs.Snapshots.{AreNotesOf}
use Rattle.mp_team_snapshots.proofs.Due.{apart_bools, begun_in, due_report, marker_again, no_report_done, report_again}
use Rattle.mp_team_snapshots.proofs.NotePlaces.{apart_places}
use Rattle.mp_team_snapshots.proofs.Protocol.{HasFound, IsOf, Sound, View, first_of, follows_again, found_again}

-- An agent may have counted a state, where it awaits a marker.
pub record Counts (s s' : Notes) : Type 0 where
  pub me : s'.me ≡ s.me
  pub agents : s'.agents ≡ s.agents
  pub number : s'.number ≡ s.number
  pub marked : s'.marked ≡ s.marked
  pub reported : s'.reported ≡ s.reported
  pub places : length s'.found ≡ length s.found
  pub others : (k : ℕ) → k ≢ s.me - 1 → slice_index_or s'.found k nothing ≡ slice_index_or s.found k nothing
  pub own_findings : (own s' ≡ own s) ⊎ (is_whole s ≡ false)
  pub own_number : (own s').number ≡ (own s).number

pub counts_nothing : (s s' : Notes) → s' ≡ s → Counts s s'
counts_nothing s s' same = record {
  me = ap (λ t. t.me) same;
  agents = ap (λ t. t.agents) same;
  number = ap (λ t. t.number) same;
  marked = ap (λ t. t.marked) same;
  reported = ap (λ t. t.reported) same;
  places = ap (λ t. length t.found) same;
  others = λ k other. ap (λ t. slice_index_or t.found k nothing) same;
  own_findings = inl (ap own same);
  own_number = ap (λ t. (own t).number) same;
}

module _ (agents : ℕ) (v v' : View) (before : Sound agents v)
    (counts : (i : ℕ) → IsOf agents i → Counts (v.note i) (v'.note i))
    (markers : (i j : ℕ) → IsOf agents i → IsOf agents j → i ≢ j → v'.markers i j ≡ v.markers i j)
    (reports : (i : ℕ) → IsOf agents i → i ≢ 1 → v'.reports i ≡ v.reports i) where
  first : (i : ℕ) → IsOf agents i → Counts (v.note 1) (v'.note 1)
  first i is = counts 1 (first_of agents i is)

  last_same : (i : ℕ) → IsOf agents i → (v'.note 1).number ≡ (v.note 1).number
  last_same i is = (first i is).number

  whole_same : (i : ℕ) → IsOf agents i → is_whole (v'.note i) ≡ is_whole (v.note i)
  whole_same i is = λ k. list_all (λ b. b) (take ((counts i is).agents k) ((counts i is).marked k))

  has_same : (i j : ℕ) → IsOf agents j → has (v'.note j).marked i ≡ has (v.note j).marked i
  has_same i j is = ap (λ m. has m i) (counts j is).marked

  here_same : (i : ℕ) → IsOf agents i → has (v'.note 1).reported i ≡ has (v.note 1).reported i
  here_same i is = ap (λ m. has m i) (first i is).reported

  notes_kept : (i : ℕ) → IsOf agents i → AreNotesOf agents i (v'.note i)
  notes_kept i is =
      let old = before.notes i is in
      let c = counts i is in
      record {
        me = c.me ∙ old.me;
        agents = c.agents ∙ old.agents;
        marked = ap length c.marked ∙ old.marked;
        reported = ap length c.reported ∙ old.reported;
        found = c.places ∙ old.found;
        own_number = c.own_number ∙ old.own_number ∙ sym c.number;
      }

  sent_kept : (i j : ℕ) → IsOf agents i → IsOf agents j → i ≢ j
      → (begun_in (v'.note 1).number (v'.note j).number && has (v'.note j).marked i) ≡ true
      → begun_in (v'.note 1).number (v'.note i).number ≡ true
  sent_kept i j is_i is_j apart is =
      let last = last_same i is_i in
      let to = (counts j is_j).number in
      let taken = has_same i j is_j in
      let from = (counts i is_i).number in
      (λ k. begun_in (last k) (from k))
      ∙ before.sent i j is_i is_j apart (sym (λ k. begun_in (last k) (to k) && taken k) ∙ is)

  not_done : (i : ℕ) → IsOf agents i → is_whole (v.note i) ≡ false → (begun_in (v.note 1).number (v.note i).number && is_whole (v.note i)) ≡ false
  not_done i is none = and_right (begun_in (v.note 1).number (v.note i).number) (is_whole (v.note i)) none

  report_kept : (i : ℕ) → IsOf agents i → i ≢ 1
      → v'.reports i ≡ due_report (v'.note 1).number (v'.note i).number (is_whole (v'.note i)) (has (v'.note 1).reported i) (own (v'.note i))
  report_kept i is other = reports i is other ∙ before.report i is other ∙ by (counts i is).own_findings
    where
      by : (own (v'.note i) ≡ own (v.note i)) ⊎ (is_whole (v.note i) ≡ false)
          → due_report (v.note 1).number (v.note i).number (is_whole (v.note i)) (has (v.note 1).reported i) (own (v.note i))
          ≡ due_report (v'.note 1).number (v'.note i).number (is_whole (v'.note i)) (has (v'.note 1).reported i) (own (v'.note i))
      by (inl same) =
          report_again (v.note 1).number (v'.note 1).number (v.note i).number (v'.note i).number (is_whole (v.note i)) (is_whole (v'.note i))
          (has (v.note 1).reported i) (has (v'.note 1).reported i) (own (v.note i)) (own (v'.note i))
          (last_same i is) (counts i is).number (whole_same i is) (here_same i is) same
      by (inr none) =
          no_report_done (v.note 1).number (v.note i).number (is_whole (v.note i)) (has (v.note 1).reported i) (own (v.note i)) (not_done i is none)
          ∙ sym (no_report_done (v'.note 1).number (v'.note i).number (is_whole (v'.note i)) (has (v'.note 1).reported i) (own (v'.note i))
          (and_right (begun_in (v'.note 1).number (v'.note i).number) (is_whole (v'.note i)) (whole_same i is ∙ none)))

  reported_kept : (i : ℕ) → IsOf agents i → i ≢ 1
      → (nat_lt 0 (v'.note 1).number && has (v'.note 1).reported i) ≡ true → HasFound (v'.note 1) i (v'.note i)
  reported_kept i is other here = by (counts i is).own_findings
    where
      last : (v'.note 1).number ≡ (v.note 1).number
      last = last_same i is

      listed : has (v'.note 1).reported i ≡ has (v.note 1).reported i
      listed = here_same i is

      old : HasFound (v.note 1) i (v.note i)
      old = before.reported i is other (sym (λ k. nat_lt 0 (last k) && listed k) ∙ here)

      another : i - 1 ≢ (v.note 1).me - 1
      another same =
          let low = is.from_1 in
          let me = (before.notes 1 (first_of agents i is)).me in
          apart_places i 1 low (omega arith) other (omega arith)

      by : (own (v'.note i) ≡ own (v.note i)) ⊎ (is_whole (v.note i) ≡ false) → HasFound (v'.note 1) i (v'.note i)
      by (inl same) =
          found_again (v.note 1) (v'.note 1) i (v.note i) (v'.note i) last (counts i is).number (whole_same i is)
          ((first i is).others (i - 1) another) same old
      by (inr none) = absurd (apart_bools (begun_in (v.note 1).number (v.note i).number && is_whole (v.note i)) old.done (not_done i is none))

  pub counted_sound : Sound agents v'
  counted_sound = record {
    notes = notes_kept;
    follows = λ i is.
        follows_again (v.note 1).number (v'.note 1).number i (v.note i) (v'.note i) (last_same i is) (counts i is).number (whole_same i is) (has_same i i is)
        (before.follows i is);
    sent = sent_kept;
    marker = λ i j is_i is_j apart.
        markers i j is_i is_j apart ∙ before.marker i j is_i is_j apart
        ∙ marker_again (v.note 1).number (v'.note 1).number (v.note i).number (v'.note i).number (v.note j).number (v'.note j).number
        (has (v.note j).marked i) (has (v'.note j).marked i) (last_same i is_i) (counts i is_i).number (counts j is_j).number (has_same i j is_j);
    report = report_kept;
    reported = reported_kept;
  }
