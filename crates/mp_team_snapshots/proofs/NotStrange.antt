-- A marker and a report that are under way are not strange where they arrive.
use Rattle.mp_world.proofs.Basics.{◌≡◌, ◌≢◌, ℕ, zero, suc, ◌+◌, ◌≤◌, ◌<◌, Bool, true, false, ◌&&◌, take, refl, sym, ap, subst, ◌∙◌, arith, ◌⊎◌, inl, inr, ◌==◌, ◌||◌, Contains, nat_lt, not, if◌then◌else◌, list_all, and_from, and_left, and_parts, and_right, eq-eqb}
use Rattle.mp_world.proofs.Basics.{eqb-true, false_from_ne_true, lt-ltb}
use Rattle.std.proofs.lemmas.Bool.{not_from_true, or_from}
use Rattle.mp_snapshot.specs.Rules.{all_of}
use Rattle.mp_world.specs.AgentWords.{Findings, has, is_complete, is_strange_marker, is_strange_report, is_under_way, is_whole, own}
use Rattle.mp_team_snapshots.specs.Snapshots.{AreNotesOf, one_if_due}
use Rattle.mp_team_snapshots.proofs.Due.{apart_bools, begun_in, begun_is, begun_number, begun_some, not_true}
use Rattle.mp_team_snapshots.proofs.NotePlaces.{all_has, whole_has}
use Rattle.mp_team_snapshots.proofs.Protocol.{IsOf, Sound, View, first_of}

among_due : {A : Type 0} (b : Bool) (x y : A) → Contains (one_if_due b x) y → (b ≡ true) × (y ≡ x)
among_due true x y (zero, inside, here) = (refl, sym here)
among_due true x y (suc k, inside, here) = absurd (omega arith)
among_due false x y (k, inside, here) = absurd (omega arith)

module _ (agents : ℕ) (small : agents ≤ 16) (v : View) (before : Sound agents v) where
  -- ---- markers

  module _ (i j number : ℕ) (is_i : IsOf agents i) (is_j : IsOf agents j) (off : i ≢ j) (among : Contains (v.markers i j) number) where
    due : ((begun_in (v.note 1).number (v.note i).number && not (begun_in (v.note 1).number (v.note j).number && has (v.note j).marked i)) ≡ true)
        × (number ≡ (v.note 1).number)
    due =
        among_due (begun_in (v.note 1).number (v.note i).number && not (begun_in (v.note 1).number (v.note j).number && has (v.note j).marked i))
        (v.note 1).number number (subst (λ ns. Contains ns number) (before.marker i j is_i is_j off) among)

    parts : (begun_in (v.note 1).number (v.note i).number ≡ true) × (not (begun_in (v.note 1).number (v.note j).number && has (v.note j).marked i) ≡ true)
    parts = and_parts (begun_in (v.note 1).number (v.note i).number) (not (begun_in (v.note 1).number (v.note j).number && has (v.note j).marked i)) due.0

    some : 0 < (v.note 1).number
    some = begun_some (v.note 1).number (v.note i).number parts.0

    -- the receiver has begun the snapshot: it awaits this marker
    marker_on : (v.note j).number ≡ (v.note 1).number → is_strange_marker (v.note j) i number ≡ false
    marker_on same =
        ap (λ (b : Bool). if b then not (number == (v.note j).number) || has (v.note j).marked i else ((v.note j).me == 1) || not (number == (v.note j).number + 1)) under_way
        ∙ or_from (not (number == (v.note j).number)) (has (v.note j).marked i)
        (not_from_true (number == (v.note j).number) (eq-eqb number (v.note j).number (due.1 ∙ sym same))) not_marked
      where
        begun : begun_in (v.note 1).number (v.note j).number ≡ true
        begun = begun_is (v.note 1).number (v.note j).number some same

        not_marked : has (v.note j).marked i ≡ false
        not_marked =
            sym (λ k. begun k && has (v.note j).marked i) ∙ not_true (begun_in (v.note 1).number (v.note j).number && has (v.note j).marked i) parts.1

        not_whole : is_whole (v.note j) ≡ false
        not_whole =
            let notes = before.notes j is_j in
            false_from_ne_true (is_whole (v.note j)) (λ whole.
            apart_bools (has (v.note j).marked i) (whole_has (v.note j) agents i notes.agents notes.marked is_i.from_1 is_i.at_most small whole) not_marked)

        not_over : (b : Bool) → not (if b then is_complete (v.note j) else is_whole (v.note j)) ≡ true
        not_over true = ap not (and_left (is_whole (v.note j)) (all_of (v.note j) (v.note j).reported) not_whole)
        not_over false = ap not not_whole

        under_way : is_under_way (v.note j) ≡ true
        under_way =
            and_from (nat_lt 0 (v.note j).number) (not (if (v.note j).me == 1 then is_complete (v.note j) else is_whole (v.note j)))
            (lt-ltb 0 (v.note j).number (subst (λ n. 0 < n) (sym same) some)) (not_over ((v.note j).me == 1))

    -- the receiver has not: it is not agent 1, and the snapshot is the next one
    marker_next : (v.note j).number + 1 ≡ (v.note 1).number → ((v.note j).number ≡ 0) ⊎ (is_whole (v.note j) ≡ true) → is_strange_marker (v.note j) i number ≡ false
    marker_next next either =
        ap (λ (b : Bool). if b then not (number == (v.note j).number) || has (v.note j).marked i else ((v.note j).me == 1) || not (number == (v.note j).number + 1)) idle
        ∙ or_from ((v.note j).me == 1) (not (number == (v.note j).number + 1)) not_me
        (not_from_true (number == (v.note j).number + 1) (eq-eqb number ((v.note j).number + 1) (due.1 ∙ sym next)))
      where
        not_first : j ≢ 1
        not_first same =
            let one : (v.note j).number ≡ (v.note 1).number = ap (λ k. (v.note k).number) same in
            absurd (omega arith)

        not_me : ((v.note j).me == 1) ≡ false
        not_me = false_from_ne_true ((v.note j).me == 1) (λ is. not_first (sym (before.notes j is_j).me ∙ eqb-true (v.note j).me 1 is))

        over_by : ((v.note j).number ≡ 0) ⊎ (is_whole (v.note j) ≡ true) → is_under_way (v.note j) ≡ false
        over_by (inl none) =
            and_left (nat_lt 0 (v.note j).number) (not (if (v.note j).me == 1 then is_complete (v.note j) else is_whole (v.note j))) (ap (nat_lt 0) none)
        over_by (inr whole) =
            and_right (nat_lt 0 (v.note j).number) (not (if (v.note j).me == 1 then is_complete (v.note j) else is_whole (v.note j)))
            (ap (λ (b : Bool). not (if b then is_complete (v.note j) else is_whole (v.note j))) not_me ∙ ap not whole)

        idle : is_under_way (v.note j) ≡ false
        idle = over_by either

    pub marker_not_strange : is_strange_marker (v.note j) i number ≡ false
    marker_not_strange = by (before.follows j is_j).number
      where
        by : ((v.note j).number ≡ (v.note 1).number) ⊎ (((v.note j).number + 1 ≡ (v.note 1).number) × (((v.note j).number ≡ 0) ⊎ (is_whole (v.note j) ≡ true)))
            → is_strange_marker (v.note j) i number ≡ false
        by (inl same) = marker_on same
        by (inr (next, either)) = marker_next next either

  -- ---- reports

  module _ (i : ℕ) (found : Findings) (is_i : IsOf agents i) (off : i ≢ 1) (among : Contains (v.reports i) found) where
    report_due : (((begun_in (v.note 1).number (v.note i).number && is_whole (v.note i)) && not (nat_lt 0 (v.note 1).number && has (v.note 1).reported i)) ≡ true)
        × (found ≡ own (v.note i))
    report_due =
        among_due ((begun_in (v.note 1).number (v.note i).number && is_whole (v.note i)) && not (nat_lt 0 (v.note 1).number && has (v.note 1).reported i))
        (own (v.note i)) found (subst (λ fs. Contains fs found) (before.report i is_i off) among)

    report_parts : ((begun_in (v.note 1).number (v.note i).number && is_whole (v.note i)) ≡ true) × (not (nat_lt 0 (v.note 1).number && has (v.note 1).reported i) ≡ true)
    report_parts =
        and_parts (begun_in (v.note 1).number (v.note i).number && is_whole (v.note i)) (not (nat_lt 0 (v.note 1).number && has (v.note 1).reported i)) report_due.0

    begun_i : begun_in (v.note 1).number (v.note i).number ≡ true
    begun_i = (and_parts (begun_in (v.note 1).number (v.note i).number) (is_whole (v.note i)) report_parts.0).0

    some_number : nat_lt 0 (v.note 1).number ≡ true
    some_number = lt-ltb 0 (v.note 1).number (begun_some (v.note 1).number (v.note i).number begun_i)

    not_here : has (v.note 1).reported i ≡ false
    not_here =
        let there = some_number in
        sym (λ k. there k && has (v.note 1).reported i) ∙ not_true (nat_lt 0 (v.note 1).number && has (v.note 1).reported i) report_parts.1

    first_notes : AreNotesOf agents 1 (v.note 1)
    first_notes = before.notes 1 (first_of agents i is_i)

    is_me : ((v.note 1).me == 1) ≡ true
    is_me = eq-eqb (v.note 1).me 1 first_notes.me

    not_complete : is_complete (v.note 1) ≡ false
    not_complete =
        and_right (is_whole (v.note 1)) (all_of (v.note 1) (v.note 1).reported)
        (false_from_ne_true (all_of (v.note 1) (v.note 1).reported) (λ all.
        apart_bools (has (v.note 1).reported i)
        (all_has (v.note 1).reported agents i is_i.from_1 is_i.at_most small first_notes.reported
        (sym (ap (λ n. list_all (λ b. b) (take n (v.note 1).reported)) first_notes.agents) ∙ all))
        not_here))

    first_under_way : is_under_way (v.note 1) ≡ true
    first_under_way =
        and_from (nat_lt 0 (v.note 1).number) (not (if (v.note 1).me == 1 then is_complete (v.note 1) else is_whole (v.note 1))) some_number
        (ap (λ (b : Bool). not (if b then is_complete (v.note 1) else is_whole (v.note 1))) is_me ∙ ap not not_complete)

    same_number : (found.number == (v.note 1).number) ≡ true
    same_number =
        eq-eqb found.number (v.note 1).number
        (ap (λ f. f.number) report_due.1 ∙ (before.notes i is_i).own_number ∙ begun_number (v.note 1).number (v.note i).number begun_i)

    pub report_not_strange : is_strange_report (v.note 1) i found ≡ false
    report_not_strange =
        or_from (not ((v.note 1).me == 1) || not (is_under_way (v.note 1) && (found.number == (v.note 1).number))) (has (v.note 1).reported i)
        (or_from (not ((v.note 1).me == 1)) (not (is_under_way (v.note 1) && (found.number == (v.note 1).number))) (not_from_true ((v.note 1).me == 1) is_me)
        (not_from_true (is_under_way (v.note 1) && (found.number == (v.note 1).number))
        (and_from (is_under_way (v.note 1)) (found.number == (v.note 1).number) first_under_way same_number)))
        not_here
