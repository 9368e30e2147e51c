-- Agent 1 takes a report.
use Rattle.mp_world.proofs.Basics.{◌≡◌, ◌≢◌, ℕ, ◌-◌, ◌≤◌, true, ◌&&◌, List, ◌∷◌, length, sym, ap, ◌∙◌, arith, nat_lt, slice_index_or, and_from, and_parts, lt-ltb, get_or-set_other, get_or-set_same, length-set}
use Rattle.mp_world.specs.AgentWords.{Findings, Notes, after_report, has, is_whole, nothing, own}
use Rattle.mp_team_snapshots.specs.Snapshots.{AreNotesOf}
use Rattle.mp_team_snapshots.proofs.Due.{IsReport, begun_in, begun_some, due_report, marker_again, no_report_here, report_again, report_there}
use Rattle.mp_team_snapshots.proofs.NotePlaces.{apart_places, has_set_other, has_set_same}
use Rattle.mp_team_snapshots.proofs.Protocol.{HasFound, IsOf, Sound, View, each, first_of, follows_again, found_again}

-- notes that differ in the reports that are here alone
record SameButReports (s s' : Notes) : Type 0 where
  me : s'.me ≡ s.me
  agents : s'.agents ≡ s.agents
  number : s'.number ≡ s.number
  marked : s'.marked ≡ s.marked
  reported : length s'.reported ≡ length s.reported
  found : length s'.found ≡ length s.found

same_notes : (s s' : Notes) → s' ≡ s → SameButReports s s'
same_notes s s' same = record {
  me = ap (λ t. t.me) same;
  agents = ap (λ t. t.agents) same;
  number = ap (λ t. t.number) same;
  marked = ap (λ t. t.marked) same;
  reported = ap (λ t. length t.reported) same;
  found = ap (λ t. length t.found) same;
}

report_notes : (s s' : Notes) (a : ℕ) (found : Findings) → s' ≡ after_report s a found → SameButReports s s'
report_notes s s' a found is = record {
  me = ap (λ t. t.me) is;
  agents = ap (λ t. t.agents) is;
  number = ap (λ t. t.number) is;
  marked = ap (λ t. t.marked) is;
  reported = ap (λ t. length t.reported) is ∙ length-set s.reported (a - 1) true;
  found = ap (λ t. length t.found) is ∙ length-set s.found (a - 1) found;
}

module _ (agents : ℕ) (small : agents ≤ 16) (v v' : View) (before : Sound agents v) (a : ℕ) (found : Findings) (rest : List Findings)
    (is_a : IsOf agents a) (not_first : a ≢ 1)
    (front : v.reports a ≡ found ∷ rest)
    (behind : v'.reports a ≡ rest)
    (note : v'.note 1 ≡ after_report (v.note 1) a found)
    (others : (j : ℕ) → IsOf agents j → j ≢ 1 → v'.note j ≡ v.note j)
    (markers : (i j : ℕ) → IsOf agents i → IsOf agents j → i ≢ j → v'.markers i j ≡ v.markers i j)
    (reports : (i : ℕ) → IsOf agents i → i ≢ 1 → i ≢ a → v'.reports i ≡ v.reports i) where
  there : IsReport (v.note 1).number (v.note a).number (is_whole (v.note a)) (has (v.note 1).reported a) (own (v.note a)) found rest
  there =
      report_there (v.note 1).number (v.note a).number (is_whole (v.note a)) (has (v.note 1).reported a) (own (v.note a)) found rest
      (sym front ∙ before.report a is_a not_first)

  alike : (j : ℕ) → IsOf agents j → SameButReports (v.note j) (v'.note j)
  alike =
      each agents 1 (λ j. SameButReports (v.note j) (v'.note j)) (report_notes (v.note 1) (v'.note 1) a found note)
      (λ j is off. same_notes (v.note j) (v'.note j) (others j is off))

  last_same : (v'.note 1).number ≡ (v.note 1).number
  last_same = (alike 1 (first_of agents a is_a)).number

  whole_same : (j : ℕ) → IsOf agents j → is_whole (v'.note j) ≡ is_whole (v.note j)
  whole_same =
      each agents 1 (λ j. is_whole (v'.note j) ≡ is_whole (v.note j)) (ap is_whole note) (λ j is off. ap is_whole (others j is off))

  has_same : (i j : ℕ) → IsOf agents j → has (v'.note j).marked i ≡ has (v.note j).marked i
  has_same i j is = ap (λ m. has m i) (alike j is).marked

  here_other : (i : ℕ) → IsOf agents i → i ≢ a → has (v'.note 1).reported i ≡ has (v.note 1).reported i
  here_other i is off = ap (λ s. has s.reported i) note ∙ has_set_other (v.note 1).reported i a is.from_1 is_a.from_1 off

  here_now : has (v'.note 1).reported a ≡ true
  here_now =
      let high = is_a.at_most in
      ap (λ s. has s.reported a) note
      ∙ has_set_same (v.note 1).reported a is_a.from_1 (omega arith) (before.notes 1 (first_of agents a is_a)).reported

  found_other : (i : ℕ) → IsOf agents i → i ≢ a → slice_index_or (v'.note 1).found (i - 1) nothing ≡ slice_index_or (v.note 1).found (i - 1) nothing
  found_other i is off =
      ap (λ s. slice_index_or s.found (i - 1) nothing) note
      ∙ get_or-set_other (v.note 1).found (a - 1) (i - 1) found nothing (apart_places i a is.from_1 is_a.from_1 off)

  found_now : slice_index_or (v'.note 1).found (a - 1) nothing ≡ found
  found_now =
      let low = is_a.from_1 in
      let high = is_a.at_most in
      let many = (before.notes 1 (first_of agents a is_a)).found in
      ap (λ s. slice_index_or s.found (a - 1) nothing) note ∙ get_or-set_same (v.note 1).found (a - 1) found nothing (omega arith)

  own_first : (own (v'.note 1)).number ≡ (own (v.note 1)).number
  own_first =
      let me = (before.notes 1 (first_of agents a is_a)).me in
      let low = is_a.from_1 in
      ap (λ s. (own s).number) note
      ∙ ap (λ f. f.number) (get_or-set_other (v.note 1).found (a - 1) ((v.note 1).me - 1) found nothing (λ same. not_first (omega arith)))

  own_same : (j : ℕ) → IsOf agents j → (own (v'.note j)).number ≡ (own (v.note j)).number
  own_same = each agents 1 (λ j. (own (v'.note j)).number ≡ (own (v.note j)).number) own_first (λ j is off. ap (λ s. (own s).number) (others j is off))

  notes_kept : (i : ℕ) → IsOf agents i → AreNotesOf agents i (v'.note i)
  notes_kept i is =
      let old = before.notes i is in
      let same = alike i is in
      record {
        me = same.me ∙ old.me;
        agents = same.agents ∙ old.agents;
        marked = ap length same.marked ∙ old.marked;
        reported = same.reported ∙ old.reported;
        found = same.found ∙ old.found;
        own_number = own_same i is ∙ old.own_number ∙ sym same.number;
      }

  sent_kept : (i j : ℕ) → IsOf agents i → IsOf agents j → i ≢ j
      → (begun_in (v'.note 1).number (v'.note j).number && has (v'.note j).marked i) ≡ true
      → begun_in (v'.note 1).number (v'.note i).number ≡ true
  sent_kept i j is_i is_j off is =
      let last = last_same in
      let from = (alike i is_i).number in
      let to = (alike j is_j).number in
      let taken = has_same i j is_j in
      (λ k. begun_in (last k) (from k))
      ∙ before.sent i j is_i is_j off (sym (λ k. begun_in (last k) (to k) && taken k) ∙ is)

  done_now : (begun_in (v'.note 1).number (v'.note a).number && is_whole (v'.note a)) ≡ true
  done_now =
      let last = last_same in
      let same = others a is_a not_first in
      (λ k. begun_in (last k) (same k).number && is_whole (same k)) ∙ there.done

  some_now : nat_lt 0 (v'.note 1).number ≡ true
  some_now =
      let begun = and_parts (begun_in (v'.note 1).number (v'.note a).number) (is_whole (v'.note a)) done_now in
      lt-ltb 0 (v'.note 1).number (begun_some (v'.note 1).number (v'.note a).number begun.0)

  report_a : v'.reports a ≡ due_report (v'.note 1).number (v'.note a).number (is_whole (v'.note a)) (has (v'.note 1).reported a) (own (v'.note a))
  report_a =
      behind ∙ there.alone
      ∙ sym (no_report_here (v'.note 1).number (v'.note a).number (is_whole (v'.note a)) (has (v'.note 1).reported a) (own (v'.note a))
      (and_from (nat_lt 0 (v'.note 1).number) (has (v'.note 1).reported a) some_now here_now))

  report_kept : (i : ℕ) → IsOf agents i → i ≢ 1
      → v'.reports i ≡ due_report (v'.note 1).number (v'.note i).number (is_whole (v'.note i)) (has (v'.note 1).reported i) (own (v'.note i))
  report_kept =
      each agents a (λ i. i ≢ 1 → v'.reports i ≡ due_report (v'.note 1).number (v'.note i).number (is_whole (v'.note i)) (has (v'.note 1).reported i) (own (v'.note i)))
      (λ other. report_a)
      (λ i is off other. reports i is other off ∙ before.report i is other
      ∙ report_again (v.note 1).number (v'.note 1).number (v.note i).number (v'.note i).number (is_whole (v.note i)) (is_whole (v'.note i))
      (has (v.note 1).reported i) (has (v'.note 1).reported i) (own (v.note i)) (own (v'.note i))
      last_same (alike i is).number (whole_same i is) (here_other i is off) (ap own (others i is other)))

  found_a : HasFound (v'.note 1) a (v'.note a)
  found_a = record {
    done = done_now;
    found = found_now ∙ there.found ∙ sym (ap own (others a is_a not_first));
  }

  reported_kept : (i : ℕ) → IsOf agents i → i ≢ 1
      → (nat_lt 0 (v'.note 1).number && has (v'.note 1).reported i) ≡ true → HasFound (v'.note 1) i (v'.note i)
  reported_kept =
      each agents a (λ i. i ≢ 1 → (nat_lt 0 (v'.note 1).number && has (v'.note 1).reported i) ≡ true → HasFound (v'.note 1) i (v'.note i))
      (λ other here. found_a)
      (λ i is off other here.
      let last = last_same in
      let listed = here_other i is off in
      found_again (v.note 1) (v'.note 1) i (v.note i) (v'.note i) last_same (alike i is).number (whole_same i is)
      (found_other i is off) (ap own (others i is other))
      (before.reported i is other (sym (λ k. nat_lt 0 (last k) && listed k) ∙ here)))

  pub reported_sound : Sound agents v'
  reported_sound = record {
    notes = notes_kept;
    follows = λ i is.
        follows_again (v.note 1).number (v'.note 1).number i (v.note i) (v'.note i) last_same (alike i is).number (whole_same i is) (has_same i i is)
        (before.follows i is);
    sent = sent_kept;
    marker = λ i j is_i is_j off.
        markers i j is_i is_j off ∙ before.marker i j is_i is_j off
        ∙ marker_again (v.note 1).number (v'.note 1).number (v.note i).number (v'.note i).number (v.note j).number (v'.note j).number
        (has (v.note j).marked i) (has (v'.note j).marked i) last_same (alike i is_i).number (alike j is_j).number (has_same i j is_j);
    report = report_kept;
    reported = reported_kept;
  }
