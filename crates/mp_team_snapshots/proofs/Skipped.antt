-- An event of an agent that has recorded, in a world: the world after the cut stays.
use Rattle.mp_world.proofs.Basics.{◌≡◌, ◌≢◌, ℕ, ◌+◌, ◌≤◌, ◌<◌, ◌^◌, Bool, true, false, ◌&&◌, List, [], ◌∷◌, ◌++◌, length, Some, None, refl, sym, ap, ◌∙◌, arith, inl, inr, ◌==◌, if◌then◌else◌, not, filter_map, option_and_then, and_from, and_left, and_right, eq-eqb}
use Rattle.mp_world.proofs.Basics.{eqb-true, false_from_ne_true, lt-ltb}
use Rattle.mp_world.specs.AgentWords.{AgentTask, Event, Expand, Take, Start, Message, Marker, message_of, spelling, lesser, has, is_counted, own, with_marker}
use Rattle.mp_world.specs.Events.{agent_of, sent_in, taken}
use Rattle.mp_world.specs.Steps.{IsStepOf, sent_to}
use Rattle.mp_world.specs.Values.{Values}
use Rattle.mp_world.specs.World.{IsTeamWorld, World, under_way}
use Rattle.mp_team_snapshots.specs.Messages.{marker_of}
use Rattle.mp_team_snapshots.specs.Snapshots.{AreNotesOf}
use Rattle.mp_team_snapshots.specs.Team.{IsTeamOf}
use Rattle.mp_team_snapshots.proofs.Changes.{note_after, note_before, note_other}
use Rattle.mp_team_snapshots.proofs.Due.{IsMarker}
use Rattle.mp_team_snapshots.proofs.InRuns.{HoldsInRuns}
use Rattle.mp_team_snapshots.proofs.NotePlaces.{has_set_other, has_set_same}
use Rattle.mp_team_snapshots.proofs.Protocol.{IsOf, Sound}
use Rattle.mp_team_snapshots.proofs.Sendings.{one_among_others}
use Rattle.mp_team_snapshots.proofs.Worlds.{note_at, view}
use Rattle.mp_team_snapshots.specs.Found.{messages_in, state_f}
use Rattle.mp_team_snapshots.proofs.Acting.{BeginsBy, Marks, Took, Takes}
use Rattle.mp_team_snapshots.proofs.Both.{Both, ChangesOne, Cutting, IsCut, recorded}
use Rattle.mp_team_snapshots.proofs.Lasts.{begun_there, last_is, number_is, recorded_sender, recorded_too}
use Rattle.mp_team_snapshots.proofs.Moving.{moved, taken_front, to_expanding, to_taking}
use Rattle.mp_team_snapshots.proofs.Readings.{marker_read, no_marker_among}
use Rattle.mp_team_snapshots.proofs.Skipping.{skipped_alone, skipped_counted, skipped_late, skipped_marker}
use Rattle.mp_team_snapshots.proofs.Taken.{a_b, both, cutting, expansion_keeps, is_a, is_b, is_its, its_notes, only_marker}
use Rattle.mp_team_snapshots.proofs.Taken.{read_in_team, small_number, sound_view, starting, taking}

-- what was counted, with one message more from an agent to another
abbrev pub with_one : (ℕ → ℕ → List (List ℕ)) → ℕ → ℕ → List ℕ → ℕ → ℕ → List (List ℕ)
with_one counted a b x i j = if (i == a) && (j == b) then counted i j ++ x ∷ [] else counted i j

with_same : (counted : ℕ → ℕ → List (List ℕ)) (a b : ℕ) (x : List ℕ)
    → with_one counted a b x a b ≡ counted a b ++ x ∷ []
with_same counted a b x =
    ap (λ (t : Bool). if t then counted a b ++ x ∷ [] else counted a b)
    (and_from (a == a) (b == b) (eq-eqb a a refl) (eq-eqb b b refl))

with_other_to : (counted : ℕ → ℕ → List (List ℕ)) (a b : ℕ) (x : List ℕ) (i j : ℕ) → j ≢ b
    → with_one counted a b x i j ≡ counted i j
with_other_to counted a b x i j off =
    ap (λ (t : Bool). if t then counted i j ++ x ∷ [] else counted i j)
    (and_right (i == a) (j == b) (false_from_ne_true (j == b) (λ same. off (eqb-true j b same))))

with_other_from : (counted : ℕ → ℕ → List (List ℕ)) (a b : ℕ) (x : List ℕ) (i j : ℕ) → i ≢ a
    → with_one counted a b x i j ≡ counted i j
with_other_from counted a b x i j off =
    ap (λ (t : Bool). if t then counted i j ++ x ∷ [] else counted i j)
    (and_left (i == a) (j == b) (false_from_ne_true (i == a) (λ same. off (eqb-true i a same))))

module _ (value : Values) (publics : ℕ) (tasks : List AgentTask)
    (team : IsTeamOf publics tasks) (w : World)
    (is : IsTeamWorld tasks w) (holds : HoldsInRuns publics w) (k : ℕ) (some : 1 ≤ k) (c : World)
    (counted : ℕ → ℕ → List (List ℕ))
    (before : IsCut (cutting (length tasks) publics k) (both w c counted)) (upto : (note_at w 1).number ≤ k) where
  abbrev C : Cutting
  C = cutting (length tasks) publics k

  abbrev v : Both
  v = both w c counted

  sound : Sound (length tasks) (view publics w)
  sound = sound_view value publics tasks team w is holds

  -- the next world beside the same one after the cut
  abbrev pub HasNext : World → Type 0
  HasNext next = (after : ℕ → ℕ → List (List ℕ)) × IsCut (cutting (length tasks) publics k) (both next c after)

  module _ (event : Event) (next : World) (step : IsStepOf value w event next)
      (was : recorded k step.agent.snapshot ≡ true)
      (still : recorded k step.step.after.snapshot ≡ true) where
    its : IsOf (length tasks) (agent_of event)
    its = is_its value publics tasks team w is holds event next step

    before_note : note_at w (agent_of event) ≡ step.agent.snapshot
    before_note = note_before value publics tasks team w is event next step

    after_note : note_at next (agent_of event) ≡ step.step.after.snapshot
    after_note = note_after value publics tasks team w is event next step

    was_there : recorded k (note_at w (agent_of event)) ≡ true
    was_there = ap (recorded k) before_note ∙ was

    still_there : recorded k (note_at next (agent_of event)) ≡ true
    still_there = ap (recorded k) after_note ∙ still

    changes : (after : ℕ → ℕ → List (List ℕ)) → ((i j : ℕ) → j ≢ agent_of event → after i j ≡ counted i j)
        → ChangesOne C v (both next c after) (agent_of event)
    changes after same = record {
      notes = λ j off. note_other value publics tasks team w is event next step j off;
      first =
          λ i j is_i is_j off off_i off_j.
          (moved value publics tasks team w is event next step its).others i j is_i is_j off_i off_j;
      second = λ i j is_i is_j off off_i off_j. refl;
      counted = same;
    }

    sends : (after : ℕ → ℕ → List (List ℕ)) (j : ℕ) → IsOf (length tasks) j → j ≢ agent_of event
        → (more : List (List ℕ)) × ((both next c after).first (agent_of event) j ≡ v.first (agent_of event) j ++ more)
    sends after j is_j off =
        (sent_to j (sent_in step.step), (moved value publics tasks team w is event next step its).from j is_j off)

  -- it expands
  pub skipped_expansion : (agent : ℕ) (next : World) (step : IsStepOf value w (Expand agent) next)
      → recorded k step.agent.snapshot ≡ true
      → recorded k step.step.after.snapshot ≡ true → HasNext next
  skipped_expansion agent next step was still =
      let e = Expand agent in
      let of = its e next step was still in
      let same : note_at next agent ≡ note_at w agent =
      after_note e next step was still ∙ (expansion_keeps value publics tasks team w is holds agent next step).1
      ∙ sym (before_note e next step was still)
      in (
        counted,
        skipped_alone C v (both next c counted) agent (changes e next step was still counted (λ i j off. refl)) before of
            (was_there e next step was still) (still_there e next step was still) (sends e next step was still counted)
            (λ i j. refl) (λ i. ap (λ s. has s.marked i) same) (to_expanding value publics tasks team w is agent next step of)
            (λ i. refl) (ap (λ s. (own s).under_way) same),
      )

  -- agent 1 starts no snapshot before it has recorded the last one
  pub skipped_start : (next : World) (step : IsStepOf value w Start next) → recorded k step.agent.snapshot ≡ true
      → (note_at next 1).number ≤ k → HasNext next
  skipped_start next step was after =
      let begins = starting value publics tasks team w is holds next step in
      let now : (note_at next 1).number ≡ step.agent.snapshot.number + 1 =
      ap (λ s. s.number) (note_after value publics tasks team w is Start next step ∙ begins.snapshot) in
      let low : step.agent.snapshot.number ≡ k =
      ap (λ s. s.number) (sym (note_before value publics tasks team w is Start next step))
      ∙ number_is (length tasks) (view publics w) sound k some upto 1
      (is_its value publics tasks team w is holds Start next step)
      (ap (recorded k) (note_before value publics tasks team w is Start next step) ∙ was) in
      absurd (omega arith)

  -- it takes a message
  module _ (b a : ℕ) (next : World) (step : IsStepOf value w (Take b a) next)
      (was : recorded k step.agent.snapshot ≡ true)
      (still : recorded k step.step.after.snapshot ≡ true) where
    abbrev event : Event
    event = Take b a

    abbrev x : List ℕ
    x = taken w (Take b a)

    of_a : IsOf (length tasks) a
    of_a = is_a value publics tasks team w is holds b a next step

    of_b : IsOf (length tasks) b
    of_b = is_b value publics tasks team w is holds b a next step

    off : a ≢ b
    off = a_b value publics tasks team w is holds b a next step

    note_b : note_at w b ≡ step.agent.snapshot
    note_b = before_note event next step was still

    now_b : note_at next b ≡ step.step.after.snapshot
    now_b = after_note event next step was still

    recorded_b : recorded k (note_at w b) ≡ true
    recorded_b = was_there event next step was still

    small_k : k < 2 ^ 60
    small_k = small_number value publics tasks team w is holds k b step.agent step.there was

    front : v.first a b ≡ x ∷ (both next c counted).first a b
    front = taken_front value publics tasks team w is b a next step

    firsts : (i : ℕ) → IsOf (length tasks) i → i ≢ b → i ≢ a → (both next c counted).first i b ≡ v.first i b
    firsts i is_i off_i off_a = to_taking value publics tasks team w is b a next step i is_i off_i off_a

    read : message_of (length tasks) publics x ≡ Some (taking value publics tasks team w is holds b a next step).message
    read = read_in_team value publics tasks team w is holds b a next step

    number_b : step.agent.snapshot.number ≡ k
    number_b =
        ap (λ s. s.number) (sym note_b) ∙ number_is (length tasks) (view publics w) sound k some upto b of_b recorded_b

    -- a message of a cost and estimate that is no marker
    module _ (m : Message) (reads : message_of (length tasks) publics x ≡ Some m) (plain : marker_of m ≡ None)
        (takes : Takes step.agent (is_counted step.agent.snapshot a) (state_f m) step.step.after) where
      marks : (i : ℕ) → has (note_at next b).marked i ≡ has (note_at w b).marked i
      marks i = ap (λ s. has s.marked i) now_b ∙ ap (λ ms. has ms i) takes.marks ∙ ap (λ s. has s.marked i) (sym note_b)

      counts_by : (t : Bool) → has (note_at w b).marked a ≡ t → is_counted step.agent.snapshot a ≡ not t
      counts_by t test =
          let positive : 0 < step.agent.snapshot.number = let e = number_b in omega arith in
          let here : has step.agent.snapshot.marked a ≡ t = ap (λ s. has s.marked a) (sym note_b) ∙ test in
          (λ i. lt-ltb 0 step.agent.snapshot.number positive i && not (here i))

      under_way_by : (t : Bool) → has (note_at w b).marked a ≡ t
          → (own (note_at next b)).under_way
          ≡ (if not t then lesser (own (note_at w b)).under_way (state_f m) else (own (note_at w b)).under_way)
      under_way_by t test =
          ap (λ s. (own s).under_way) now_b ∙ takes.under_way
          ∙ ap (λ (p : Bool). if p then lesser (own step.agent.snapshot).under_way (state_f m) else
          (own step.agent.snapshot).under_way) (counts_by t test)
          ∙ ap (λ s. if not t then lesser (own s).under_way (state_f m) else (own s).under_way) (sym note_b)

      not_marker : x ≢ spelling (Marker k)
      not_marker same =
          let e : Some m ≡ Some (Marker k) =
          sym reads ∙ ap (message_of (length tasks) publics) same
          ∙ marker_read (length tasks) publics k team.facts small_k in
          let is_marker : m ≡ Marker k = cc in
          let none : Some k ≡ None = ap marker_of (sym is_marker) ∙ plain in
          let impossible : ⊥ = cc in impossible

      plain_by : (t : Bool) → has (note_at w b).marked a ≡ t → HasNext next
      plain_by true late = (
        counted,
        skipped_late C v (both next c counted) b
            (changes event next step was still counted (λ i j o. refl)) before of_b recorded_b
            (still_there event next step was still) (sends event next step was still counted) (λ i j. refl)
            a of_a off x front firsts (λ i is_i o. marks i) (λ i o. refl)
            (recorded_sender (length tasks) (view publics w) sound k some upto a b of_a of_b off recorded_b late)
            late (marks a ∙ late) refl (under_way_by true late),
      )
      plain_by false awaited = (
        with_one counted a b x,
        skipped_counted C v (both next c (with_one counted a b x)) b
            (changes event next step was still (with_one counted a b x) (λ i j o. with_other_to counted a b x i j o))
            before of_b recorded_b
            (still_there event next step was still) (sends event next step was still (with_one counted a b x))
            (λ i j. refl)
            a of_a off x front firsts (λ i is_i o. marks i) (λ i o. with_other_from counted a b x i b o)
            not_marker (one_among_others b (length tasks) a of_a.from_1 of_a.at_most off)
            awaited (marks a ∙ awaited) (with_same counted a b x)
            (under_way_by false awaited
            ∙ ap (lesser (own (note_at w b)).under_way) (sym (ap (option_and_then state_f) reads))),
      )

    -- the sender's marker
    module _ (number : ℕ)
        (is_marker : (taking value publics tasks team w is holds b a next step).message ≡ Marker number) where
      only : IsMarker (note_at w 1).number (note_at w a).number (note_at w b).number number (has (note_at w b).marked a)
          (filter_map marker_of (messages_in (length tasks) publics (under_way next a b)))
      only = only_marker value publics tasks team w is holds b a next step number is_marker

      awaited_a : has (note_at w b).marked a ≡ false
      awaited_a =
          (λ i. sym (begun_there (length tasks) (view publics w) sound k some upto b of_b recorded_b) i && has
          (note_at w b).marked a)
          ∙ only.awaited

      marker_next : Marks step.agent a number step.step → HasNext next
      marker_next marks = (
        counted,
        skipped_marker C v (both next c counted) b
            (changes event next step was still counted (λ i j o. refl)) before of_b recorded_b
            (still_there event next step was still) (sends event next step was still counted) (λ i j. refl)
            a of_a off x front firsts flags (λ i o. refl)
            (λ ahead later here. no_marker_among (length tasks) publics k team.facts small_k ahead later
            (ap (λ ms. filter_map marker_of (messages_in (length tasks) publics ms)) (sym here) ∙ only.alone))
            (recorded_too (length tasks) (view publics w) sound k some upto a b of_b recorded_b only.begun)
            awaited_a flag_a refl
            (ap (λ s. (own s).under_way) (now_b ∙ now) ∙ ap (λ s. (own s).under_way) (sym note_b)),
      )
        where
          notes : AreNotesOf (length tasks) b step.agent.snapshot
          notes = its_notes value publics tasks team w is holds event next step

          now : step.step.after.snapshot ≡ with_marker step.agent.snapshot a
          now = marks.snapshot

          flags : (i : ℕ) → IsOf (length tasks) i → i ≢ a → has (note_at next b).marked i ≡ has (note_at w b).marked i
          flags i is_i o =
              ap (λ s. has s.marked i) (now_b ∙ now)
              ∙ has_set_other step.agent.snapshot.marked i a is_i.from_1 of_a.from_1 o
              ∙ ap (λ s. has s.marked i) (sym note_b)

          flag_a : has (note_at next b).marked a ≡ true
          flag_a =
              let at_most = of_a.at_most in
              let team_size = team.agents in
              ap (λ s. has s.marked a) (now_b ∙ now)
              ∙ has_set_same step.agent.snapshot.marked a of_a.from_1 (omega arith) notes.marked

      no_begin : BeginsBy step.agent a number step.step → HasNext next
      no_begin begins =
          let next_number = begins.next in
          let this = only.number in
          let last = last_is (length tasks) (view publics w) sound k some upto b of_b recorded_b in
          let mine = number_b in
          absurd (omega arith)

    pub skipped_taking : HasNext next
    skipped_taking =
        by (taking value publics tasks team w is holds b a next step).message read refl
        (taking value publics tasks team w is holds b a next step).took
      where
        by : (m : Message) → message_of (length tasks) publics x ≡ Some m
            → (taking value publics tasks team w is holds b a next step).message ≡ m
            → Took step.agent a m step.step → HasNext next
        by m reads same (inl (plain, takes)) = plain_by m reads plain takes (has (note_at w b).marked a) refl
        by m reads same (inr (number, is_marker, inl marks)) = marker_next number (same ∙ is_marker) marks
        by m reads same (inr (number, is_marker, inr begins)) = no_begin number (same ∙ is_marker) begins

  pub skipped_event : (event : Event) (next : World) (step : IsStepOf value w event next)
      → recorded k step.agent.snapshot ≡ true
      → recorded k step.step.after.snapshot ≡ true → (note_at next 1).number ≤ k → HasNext next
  skipped_event (Expand agent) next step was still after = skipped_expansion agent next step was still
  skipped_event (Take b a) next step was still after = skipped_taking b a next step was still
  skipped_event Start next step was still after = skipped_start next step was after
