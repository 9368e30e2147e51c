-- The event by which an agent records, in a world: the world after the cut stays.
use Rattle.mp_world.proofs.Basics.{◌≡◌, ◌≢◌, ℕ, ◌+◌, ◌-◌, ◌≤◌, ◌<◌, ◌^◌, Bool, true, false, List, [], ◌∷◌, ◌++◌, length, map, replicate, None, refl, sym, ap, subst, ◌∙◌, arith, inl, inr, ◌==◌, slice_set, filter_map, and_parts, false_from_ne_true, false≢true, le-leb}
use Rattle.mp_world.proofs.Basics.{leb-false, leb-true, length-replicate, length-set}
use Rattle.mp_machine.proofs.NotesLemmas.{own_begun}
use Rattle.mp_world.specs.AgentWords.{AgentTask, Event, Expand, Take, Start, Message, Marker, spelling, Notes, begun, has, own, with_marker, AgentRecord, Outgoing, in_bytes, to_others, findings}
use Rattle.mp_world.specs.Events.{agent_of, sent_in, taken}
use Rattle.mp_world.specs.Steps.{IsStepOf, sent_to}
use Rattle.mp_world.specs.Values.{Values}
use Rattle.mp_world.specs.World.{IsTeamWorld, World, under_way}
use Rattle.mp_world.proofs.Agents.{member_of}
use Rattle.mp_team_snapshots.specs.Messages.{marker_of}
use Rattle.mp_team_snapshots.specs.Snapshots.{AreNotesOf}
use Rattle.mp_team_snapshots.specs.Team.{IsTeamOf}
use Rattle.mp_team_snapshots.proofs.Changes.{note_after, note_before, note_other}
use Rattle.mp_team_snapshots.proofs.Due.{IsMarker, begun_number}
use Rattle.mp_team_snapshots.proofs.InRuns.{HoldsInRuns}
use Rattle.mp_team_snapshots.proofs.NotePlaces.{has_nobody, has_set_other, has_set_same}
use Rattle.mp_team_snapshots.proofs.Protocol.{IsOf, Sound}
use Rattle.mp_team_snapshots.proofs.Sendings.{messages_to, messages_to-append, others_get}
use Rattle.mp_team_snapshots.proofs.Worlds.{note_at, view}
use Rattle.mp_team_snapshots.specs.Found.{messages_in}
use Rattle.mp_team_snapshots.proofs.Acting.{Begins, BeginsBy, Took}
use Rattle.mp_team_snapshots.proofs.Both.{Both, ChangesOne, Cutting, IsCut, recorded, taken_in}
use Rattle.mp_team_snapshots.proofs.Lasts.{first_at_most, recorded_sender}
use Rattle.mp_team_snapshots.proofs.Moving.{moved, taken_front, to_starting, to_taking}
use Rattle.mp_team_snapshots.proofs.Readings.{no_marker_among}
use Rattle.mp_team_snapshots.proofs.Recording.{recorded_alone, recorded_taking}
use Rattle.mp_team_snapshots.proofs.Taken.{a_b, both, cutting, expansion_keeps, is_a, is_b, is_its, its_notes, only_marker}
use Rattle.mp_team_snapshots.proofs.Taken.{small_number, sound_view, starting, taking}

-- what goes out for one agent, as bytes
sent_bytes : (j : ℕ) (out : List Outgoing) → sent_to j (map in_bytes out) ≡ map spelling (messages_to j out)
sent_bytes j [] = refl
sent_bytes j (x ∷ xs) = by (x.to == j) refl (sent_bytes j xs)
  where
    by : (b : Bool) → (x.to == j) ≡ b → sent_to j (map in_bytes xs) ≡ map spelling (messages_to j xs)
        → sent_to j (map in_bytes (x ∷ xs)) ≡ map spelling (messages_to j (x ∷ xs))
    by true test more = rw test (ap (λ ms. spelling x.message ∷ ms) more)
    by false test more = rw test more

module _ (value : Values) (publics : ℕ) (tasks : List AgentTask)
    (team : IsTeamOf publics tasks) (w : World)
    (is : IsTeamWorld tasks w) (holds : HoldsInRuns publics w) (k : ℕ) (some : 1 ≤ k) (c : World)
    (counted : ℕ → ℕ → List (List ℕ))
    (before : IsCut (cutting (length tasks) publics k) (both w c counted)) where
  abbrev C : Cutting
  C = cutting (length tasks) publics k

  abbrev v : Both
  v = both w c counted

  sound : Sound (length tasks) (view publics w)
  sound = sound_view value publics tasks team w is holds

  abbrev pub IsNext : World → Type 0
  IsNext next = IsCut (cutting (length tasks) publics k) (both next c counted)

  -- an agent whose snapshot stays doesn't record
  pub no_record : (r s : AgentRecord) → recorded k r.snapshot ≡ false → recorded k s.snapshot ≡ true
      → s.snapshot.number ≡ r.snapshot.number → ⊥
  no_record r s not_was now same =
      false≢true (sym not_was ∙ ap (λ n. recorded k (record r.snapshot { number = n })) (sym same) ∙ now)

  -- the agent records by the event, which begins a snapshot
  record Records (event : Event) (next : World) (step : IsStepOf value w event next) : Type 0 where
    not_was : recorded k step.agent.snapshot ≡ false
    now : recorded k step.step.after.snapshot ≡ true
    number : ℕ
    notes : Notes
    is_number : notes.number ≡ number
    begins : Begins step.agent number notes step.step

  module _ (event : Event) (next : World) (step : IsStepOf value w event next) (x : Records event next step) where
    open x use {not_was, now, number, notes, is_number, begins}

    abbrev b : ℕ
    b = agent_of event

    its : IsOf (length tasks) (agent_of event)
    its = is_its value publics tasks team w is holds event next step

    mine : AreNotesOf (length tasks) (agent_of event) step.agent.snapshot
    mine = its_notes value publics tasks team w is holds event next step

    before_note : note_at w (agent_of event) ≡ step.agent.snapshot
    before_note = note_before value publics tasks team w is event next step

    after_note : note_at next (agent_of event) ≡ notes
    after_note = note_after value publics tasks team w is event next step ∙ begins.snapshot

    not_there : recorded k (note_at w (agent_of event)) ≡ false
    not_there = ap (recorded k) before_note ∙ not_was

    now_there : recorded k (note_at next (agent_of event)) ≡ true
    now_there = ap (recorded k) (note_after value publics tasks team w is event next step) ∙ now

    number_k : number ≡ k
    number_k =
        let low = leb-false k step.agent.snapshot.number not_was in
        let high = leb-true k step.step.after.snapshot.number now in
        let e : step.step.after.snapshot.number ≡ number = ap (λ s. s.number) begins.snapshot ∙ is_number in
        let next_number = begins.next in
        omega arith

    changes : ChangesOne C v (both next c counted) (agent_of event)
    changes = record {
      notes = λ j off. note_other value publics tasks team w is event next step j off;
      first =
          λ i j is_i is_j off off_i off_j.
          (moved value publics tasks team w is event next step its).others i j is_i is_j off_i off_j;
      second = λ i j is_i is_j off off_i off_j. refl;
      counted = λ i j off. refl;
    }

    more : ℕ → List (List ℕ)
    more j = map spelling (messages_to j begins.more)

    sent_first : (j : ℕ) → IsOf (length tasks) j → j ≢ agent_of event
        → sent_to j (sent_in step.step) ≡ spelling (Marker k) ∷ more j
    unfolding more
    sent_first j is_j off =
        let of = member_of tasks team.numbered w is (agent_of event) step.agent step.there in
        let t = step.agent.task in
        sent_bytes j step.step.out
        ∙ ap (λ out. map spelling (messages_to j out)) begins.out
        ∙ ap (map spelling) (messages_to-append j (to_others t (Marker number)) begins.more)
        ∙ ap (λ ms. map spelling (ms ++ messages_to j begins.more))
        (others_get (Marker number) t.me t.agents j is_j.from_1 (subst (λ m. j ≤ m) (sym of.agents) is_j.at_most)
        (λ same. off (same ∙ of.me)))
        ∙ ap (λ m. spelling (Marker m) ∷ map spelling (messages_to j begins.more)) number_k

    sends : (j : ℕ) → IsOf (length tasks) j → j ≢ agent_of event
        → (both next c counted).first (agent_of event) j ≡ v.first (agent_of event) j ++ spelling (Marker k) ∷ more j
    sends j is_j off =
        (moved value publics tasks team w is event next step its).from j is_j off
        ∙ ap (λ ms. v.first (agent_of event) j ++ ms) (sent_first j is_j off)

    untaken : (j : ℕ) → IsOf (length tasks) j → j ≢ agent_of event → taken_in k (note_at w j) (agent_of event) ≡ false
    untaken j is_j off =
        false_from_ne_true (taken_in k (note_at w j) (agent_of event)) (λ yes_taken.
        let parts = and_parts (recorded k (note_at w j)) (has (note_at w j).marked (agent_of event)) yes_taken in
        false≢true (sym not_there
        ∙ recorded_sender (length tasks) (view publics w) sound k some
        (first_at_most (length tasks) (view publics w) sound k some (agent_of event) its not_there)
        (agent_of event) j its is_j (λ same. off (sym same)) parts.0 parts.1))

  -- agent 1 starts a snapshot
  module _ (next : World) (step : IsStepOf value w Start next) (not_was : recorded k step.agent.snapshot ≡ false)
      (now : recorded k step.step.after.snapshot ≡ true) where
    abbrev last : ℕ
    last = step.agent.snapshot.number + 1

    abbrev begun_1 : Notes
    begun_1 = begun step.agent.snapshot (step.agent.snapshot.number + 1) (findings step.agent)

    start_begins : Begins step.agent last begun_1 step.step
    start_begins = starting value publics tasks team w is holds next step

    of_1 : IsOf (length tasks) 1
    of_1 = is_its value publics tasks team w is holds Start next step

    mine_1 : AreNotesOf (length tasks) 1 step.agent.snapshot
    mine_1 = its_notes value publics tasks team w is holds Start next step

    after_1 : note_at next 1 ≡ begun_1
    after_1 = note_after value publics tasks team w is Start next step ∙ start_begins.snapshot

    nothing_yet_1 : (own (note_at next 1)).under_way ≡ None
    nothing_yet_1 =
        let me = mine_1.me in
        ap (λ s. (own s).under_way) after_1
        ∙ ap (λ f. f.under_way) (own_begun step.agent.snapshot last (findings step.agent) (omega arith) (omega arith))

    awaited_1 : (i : ℕ) → IsOf (length tasks) i → i ≢ 1 → has (note_at next 1).marked i ≡ false
    awaited_1 i is_i off =
        let me = mine_1.me in
        let at_most = is_i.at_most in
        let team_size = team.agents in
        ap (λ s. has s.marked i) after_1
        ∙ has_set_other (replicate 16 false) i step.agent.snapshot.me is_i.from_1 (omega arith)
        (λ same. off (same ∙ me))
        ∙ has_nobody i is_i.from_1 (omega arith)

    pub recorded_start : IsNext next
    recorded_start =
        let x : Records Start next step =
        record { not_was = not_was; now = now; number = last; notes = begun_1; is_number = refl; begins = start_begins } in
        recorded_alone C v (both next c counted) 1 (changes Start next step x) before of_1 (not_there Start next step x)
        (now_there Start next step x) (more Start next step x) (sends Start next step x) (λ i j. refl) (λ i j. refl)
        (untaken Start next step x) nothing_yet_1 awaited_1 (to_starting value publics tasks team w is next step of_1)

  -- another agent takes a marker
  module _ (b a : ℕ) (next : World) (step : IsStepOf value w (Take b a) next) (is_next : IsTeamWorld tasks next)
      (holds_next : HoldsInRuns publics next)
      (not_was : recorded k step.agent.snapshot ≡ false) (now : recorded k step.step.after.snapshot ≡ true) where
    of_a : IsOf (length tasks) a
    of_a = is_a value publics tasks team w is holds b a next step

    of_b : IsOf (length tasks) b
    of_b = is_b value publics tasks team w is holds b a next step

    off : a ≢ b
    off = a_b value publics tasks team w is holds b a next step

    small_k : k < 2 ^ 60
    small_k = small_number value publics tasks team next is_next holds_next k b step.step.after step.after now

    module _ (number : ℕ)
        (is_marker : (taking value publics tasks team w is holds b a next step).message ≡ Marker number)
        (begins : BeginsBy step.agent a number step.step) where
      abbrev new : Notes
      new = with_marker (begun step.agent.snapshot number (findings step.agent)) a

      abbrev records : Records (Take b a) next step
      records = record { not_was = not_was; now = now; number = number; notes = new; is_number = refl; begins = begins }

      only : IsMarker (note_at w 1).number (note_at w a).number (note_at w b).number number (has (note_at w b).marked a)
          (filter_map marker_of (messages_in (length tasks) publics (under_way next a b)))
      only = only_marker value publics tasks team w is holds b a next step number is_marker

      mine_b : AreNotesOf (length tasks) b step.agent.snapshot
      mine_b = its_notes value publics tasks team w is holds (Take b a) next step

      after_b : note_at next b ≡ new
      after_b = note_after value publics tasks team w is (Take b a) next step ∙ begins.snapshot

      nothing_yet : (own (note_at next b)).under_way ≡ None
      nothing_yet =
          let me = mine_b.me in
          let low = of_b.from_1 in
          let high = of_b.at_most in
          let team_size = team.agents in
          ap (λ s. (own s).under_way) after_b
          ∙ ap (λ f. f.under_way)
          (own_begun step.agent.snapshot number (findings step.agent) (omega arith) (omega arith))

      awaited : (i : ℕ) → IsOf (length tasks) i → i ≢ b → i ≢ a → has (note_at next b).marked i ≡ false
      awaited i is_i off_b off_a =
          let me = mine_b.me in
          let low_b = of_b.from_1 in
          let at_most = is_i.at_most in
          let team_size = team.agents in
          ap (λ s. has s.marked i) after_b
          ∙ has_set_other (slice_set (replicate 16 false) (step.agent.snapshot.me - 1) true) i a is_i.from_1 of_a.from_1
          off_a
          ∙ has_set_other (replicate 16 false) i step.agent.snapshot.me is_i.from_1 (omega arith)
          (λ same. off_b (same ∙ me))
          ∙ has_nobody i is_i.from_1 (omega arith)

      comes : has (note_at next b).marked a ≡ true
      comes =
          let at_most = of_a.at_most in
          let team_size = team.agents in
          ap (λ s. has s.marked a) after_b
          ∙ has_set_same (slice_set (replicate 16 false) (step.agent.snapshot.me - 1) true) a of_a.from_1 (omega arith)
          (length-set (replicate 16 false) (step.agent.snapshot.me - 1) true ∙ length-replicate 16 false)

      sent : recorded k (note_at w a) ≡ true
      sent =
          let this = begun_number (note_at w 1).number (note_at w a).number only.begun in
          let last = only.number in
          let mine : number ≡ k = number_k (Take b a) next step records in
          le-leb k (note_at w a).number (omega arith)

      pub recorded_marker : IsNext next
      recorded_marker =
          let e = Take b a in
          recorded_taking C v (both next c counted) b (changes e next step records) before of_b (not_there e next step records)
          (now_there e next step records) (more e next step records) (sends e next step records) (λ i j. refl) (λ i j. refl)
          (untaken e next step records) nothing_yet a of_a off (taken w e) (taken_front value publics tasks team w is b a next step)
          (λ ahead later here. no_marker_among (length tasks) publics k team.facts small_k ahead later
          (ap (λ ms. filter_map marker_of (messages_in (length tasks) publics ms)) (sym here) ∙ only.alone))
          sent comes awaited (λ i is_i off_b off_a. to_taking value publics tasks team w is b a next step i is_i off_b off_a)

    pub recorded_take : IsNext next
    recorded_take =
        by (taking value publics tasks team w is holds b a next step).message refl
        (taking value publics tasks team w is holds b a next step).took
      where
        by : (m : Message) → (taking value publics tasks team w is holds b a next step).message ≡ m
            → Took step.agent a m step.step → IsNext next
        by m same (inl (plain, takes)) = absurd (no_record step.agent step.step.after not_was now takes.keeps.number)
        by m same (inr (number, is_marker, inl marks)) =
            absurd (no_record step.agent step.step.after not_was now (ap (λ s. s.number) marks.snapshot))
        by m same (inr (number, is_marker, inr begins)) = recorded_marker number (same ∙ is_marker) begins

  pub recorded_event : (event : Event) (next : World) (step : IsStepOf value w event next) → IsTeamWorld tasks next
      → HoldsInRuns publics next
      → recorded k step.agent.snapshot ≡ false → recorded k step.step.after.snapshot ≡ true → IsNext next
  recorded_event (Expand agent) next step is_next holds_next not_was now =
      absurd (no_record step.agent step.step.after not_was now
      (expansion_keeps value publics tasks team w is holds agent next step).0.number)
  recorded_event (Take b a) next step is_next holds_next not_was now =
      recorded_take b a next step is_next holds_next not_was now
  recorded_event Start next step is_next holds_next not_was now = recorded_start next step not_was now
