-- An event of an agent that has not recorded and does not record by it, in a world: it happens after the cut, too.
use Rattle.mp_world.proofs.Basics.{◌≡◌, ◌≢◌, ℕ, true, false, List, [], ◌∷◌, ◌++◌, length, Some, None, refl, sym, ap, ◌∙◌, arith, inl, inr, ◌==◌, not, slice_index_or, Ok, eqb-suc-zero, false≢true, le-leb, same_Some}
use Rattle.mp_world.specs.AgentWords.{AgentTask, Event, Expand, Take, Start, Message, Marker, message_of, spelling, local}
use Rattle.mp_world.specs.Events.{after_event, after_local, agent_of, has_message, local_of, local_step, sent_in, taken}
use Rattle.mp_world.specs.Steps.{IsStepOf, sent_to}
use Rattle.mp_world.specs.Values.{Values}
use Rattle.mp_world.specs.World.{IsTeamWorld, World, agent_at, under_way}
use Rattle.mp_world.proofs.Agents.{agent_there}
use Rattle.mp_world.proofs.RunOfLog.{event_leads}
use Rattle.mp_world.proofs.Stepping.{event_is_step, team_lists}
use Rattle.mp_team_snapshots.specs.Messages.{marker_of}
use Rattle.mp_team_snapshots.specs.Team.{IsTeamOf}
use Rattle.mp_team_snapshots.proofs.Changes.{note_after, note_before, note_other}
use Rattle.mp_team_snapshots.proofs.Effects.{same_step}
use Rattle.mp_team_snapshots.proofs.InRuns.{HoldsInRuns}
use Rattle.mp_team_snapshots.proofs.Protocol.{IsOf}
use Rattle.mp_team_snapshots.proofs.Worlds.{is_agent_of, note_at, note_of, team_numbers}
use Rattle.mp_team_snapshots.proofs.Acting.{Took}
use Rattle.mp_team_snapshots.proofs.Both.{Both, ChangesOne, Cutting, IsCut, recorded}
use Rattle.mp_team_snapshots.proofs.CutMail.{IsTakenInBoth}
use Rattle.mp_team_snapshots.proofs.Doing.{done_alone, done_taking, oldest_in_both}
use Rattle.mp_team_snapshots.proofs.Moving.{moved, taken_front, to_expanding, to_starting, to_taking}
use Rattle.mp_team_snapshots.proofs.Readings.{marker_read}
use Rattle.mp_team_snapshots.proofs.Taken.{a_b, both, cutting, is_a, is_b, is_its, read_in_team, small_number, taking}

module _ (value : Values) (publics : ℕ) (tasks : List AgentTask)
    (team : IsTeamOf publics tasks) (w : World)
    (is : IsTeamWorld tasks w) (holds : HoldsInRuns publics w) (k : ℕ) (c : World) (is_c : IsTeamWorld tasks c)
    (counted : ℕ → ℕ → List (List ℕ))
    (before : IsCut (cutting (length tasks) publics k) (both w c counted)) where
  abbrev C : Cutting
  C = cutting (length tasks) publics k

  abbrev v : Both
  v = both w c counted

  -- the event happens after the cut, too, and the two worlds stay beside each other
  pub record HappensToo (event : Event) (next : World) (step : IsStepOf value w event next) : Type 0 where
    pub last : World
    pub leads : after_event value c event ≡ Some last
    pub after : agent_at last (agent_of event) ≡ Some step.step.after
    pub others : (other : ℕ) → other ≢ agent_of event → agent_at last other ≡ agent_at c other
    pub cut : IsCut (cutting (length tasks) publics k) (both next last counted)

  -- the agent has not recorded, before and after the event, and may do it after the cut, too
  record Again (event : Event) (next : World) (step : IsStepOf value w event next) : Type 0 where
    there : agent_at c (agent_of event) ≡ Some step.agent
    not_was : recorded k step.agent.snapshot ≡ false
    not_now : recorded k step.step.after.snapshot ≡ false
    message : has_message c event ≡ true
    same : taken c event ≡ taken w event

  module _ (event : Event) (next : World) (step : IsStepOf value w event next) (again : Again event next step) where
    abbrev last : World
    last = after_local c event step.step

    its : IsOf (length tasks) (agent_of event)
    its = is_its value publics tasks team w is holds event next step

    local_too : local_step value c event step.agent ≡ Ok step.step
    local_too = ap (local (value step.agent.task) step.agent (local_of event)) again.same ∙ step.local

    leads : after_event value c event ≡ Some last
    leads = event_leads value c event step.agent step.step again.there step.may again.message local_too

    step_too : IsStepOf value c event last
    step_too = event_is_step value c (team_lists tasks c is_c) event last leads

    same_agent : step_too.agent ≡ step.agent
    same_agent = same_Some step_too.agent step.agent (sym step_too.there ∙ again.there)

    same_steps : step_too.step ≡ step.step
    same_steps =
        same_step step_too.step step.step (sym step_too.local ∙ ap (local_step value c event) same_agent ∙ local_too)

    not_there : recorded k (note_at w (agent_of event)) ≡ false
    not_there = ap (recorded k) (note_before value publics tasks team w is event next step) ∙ again.not_was

    not_after : recorded k (note_at next (agent_of event)) ≡ false
    not_after = ap (recorded k) (note_after value publics tasks team w is event next step) ∙ again.not_now

    changes : ChangesOne C v (both next last counted) (agent_of event)
    changes = record {
      notes = λ j off. note_other value publics tasks team w is event next step j off;
      first =
          λ i j is_i is_j off off_i off_j.
          (moved value publics tasks team w is event next step its).others i j is_i is_j off_i off_j;
      second =
          λ i j is_i is_j off off_i off_j.
          (moved value publics tasks team c is_c event last step_too its).others i j is_i is_j off_i off_j;
      counted = λ i j off. refl;
    }

    abbrev more : ℕ → List (List ℕ)
    more j = sent_to j (sent_in step.step)

    sends : (j : ℕ) → IsOf (length tasks) j → j ≢ agent_of event
        → under_way next (agent_of event) j ≡ under_way w (agent_of event) j ++ more j
    sends j is_j off = (moved value publics tasks team w is event next step its).from j is_j off

    sends_too : (j : ℕ) → IsOf (length tasks) j → j ≢ agent_of event
        → under_way last (agent_of event) j ≡ under_way c (agent_of event) j ++ more j
    sends_too j is_j off =
        (moved value publics tasks team c is_c event last step_too its).from j is_j off
        ∙ ap (λ s. under_way c (agent_of event) j ++ sent_to j (sent_in s)) same_steps

    happens : IsCut C (both next last counted) → HappensToo event next step
    happens cut = record {
      last = last;
      leads = leads;
      after = step_too.after ∙ ap (λ s. Some s.after) same_steps;
      others = step_too.others;
      cut = cut;
    }

    alone : ((i : ℕ) → IsOf (length tasks) i → i ≢ agent_of event → under_way next i (agent_of event) ≡ under_way w i (agent_of event))
        → ((i : ℕ) → IsOf (length tasks) i → i ≢ agent_of event → under_way last i (agent_of event) ≡ under_way c i (agent_of event))
        → HappensToo event next step
    alone firsts seconds =
        happens (done_alone C v (both next last counted) (agent_of event) changes before its not_there not_after more sends sends_too (λ i j. refl)
        firsts seconds)

  -- ---- by events

  module _ (b a : ℕ) (next : World) (step : IsStepOf value w (Take b a) next) (there : agent_at c b ≡ Some step.agent)
      (not_was : recorded k step.agent.snapshot ≡ false) (not_now : recorded k step.step.after.snapshot ≡ false) where
    abbrev x : List ℕ
    x = taken w (Take b a)

    of_a : IsOf (length tasks) a
    of_a = is_a value publics tasks team w is holds b a next step

    of_b : IsOf (length tasks) b
    of_b = is_b value publics tasks team w is holds b a next step

    off : a ≢ b
    off = a_b value publics tasks team w is holds b a next step

    front : under_way w a b ≡ x ∷ under_way next a b
    front = taken_front value publics tasks team w is b a next step

    -- the marker of an agent that has recorded would let the receiver record, or it has
    no_marker : (m : Message) → m ≡ Marker k → Took step.agent a m step.step → ⊥
    no_marker m same (inl (plain, takes)) =
        let none : Some k ≡ None = ap marker_of (sym same) ∙ plain in
        let impossible : ⊥ = cc in impossible
    no_marker m same (inr (number, is_marker, inl marks)) =
        let e : Marker number ≡ Marker k = sym is_marker ∙ same in
        let this : number ≡ k = cc in
        let mine = marks.same in
        false≢true (sym not_was ∙ le-leb k step.agent.snapshot.number (omega arith))
    no_marker m same (inr (number, is_marker, inr begins)) =
        let e : Marker number ≡ Marker k = sym is_marker ∙ same in
        let this : number ≡ k = cc in
        let mine : step.step.after.snapshot.number ≡ number = ap (λ s. s.number) begins.snapshot in
        false≢true (sym not_now ∙ le-leb k step.step.after.snapshot.number (omega arith))

    other : recorded k (note_at w a) ≡ true → x ≢ spelling (Marker k)
    other recorded_a same =
        let found = agent_there w a (is_agent_of publics tasks team w (team_numbers publics tasks team w is) a of_a) in
        let small =
        small_number value publics tasks team w is holds k a found.0 found.1
        (ap (recorded k) (sym (note_of w a found.0 found.1)) ∙ recorded_a) in
        let m = (taking value publics tasks team w is holds b a next step).message in
        let e : Some m ≡ Some (Marker k) =
        sym (read_in_team value publics tasks team w is holds b a next step)
        ∙ ap (message_of (length tasks) publics) same
        ∙ marker_read (length tasks) publics k team.facts small in
        let is_marker : m ≡ Marker k = cc in
        no_marker m is_marker (taking value publics tasks team w is holds b a next step).took

    not_there_b : recorded k (note_at w b) ≡ false
    not_there_b = ap (recorded k) (note_before value publics tasks team w is (Take b a) next step) ∙ not_was

    oldest : IsTakenInBoth (spelling (Marker k)) (recorded k (note_at w a)) x (under_way next a b) (under_way c a b)
    oldest = oldest_in_both C v before a b of_a of_b off not_there_b x (under_way next a b) front other

    message_too : has_message c (Take b a) ≡ true
    message_too = ap (λ ms. not (length ms == 0)) oldest.front ∙ ap not (eqb-suc-zero (length oldest.left))

    same_too : taken c (Take b a) ≡ x
    same_too = ap (λ ms. slice_index_or ms 0 []) oldest.front

    taking_too : HappensToo (Take b a) next step
    taking_too =
        let e = Take b a in
        let x : Again (Take b a) next step = record { there = there; not_was = not_was; not_now = not_now; message = message_too; same = same_too } in
        let next_c = last e next step x in
        let step_c = step_too e next step x in
        happens e next step x
        (done_taking C v (both next next_c counted) b (changes e next step x) before of_b (not_there e next step x) (not_after e next step x)
        (more e next step x) (sends e next step x) (sends_too e next step x) (λ i j. refl) a of_a off (taken w e) front
        (taken_front value publics tasks team c is_c b a next_c step_c ∙ ap (λ y. y ∷ under_way next_c a b) same_too) other
        (λ i is_i off_b off_a. to_taking value publics tasks team w is b a next step i is_i off_b off_a)
        (λ i is_i off_b off_a. to_taking value publics tasks team c is_c b a next_c step_c i is_i off_b off_a))

  pub event_too : (event : Event) (next : World) (step : IsStepOf value w event next)
      → agent_at c (agent_of event) ≡ Some step.agent
      → recorded k step.agent.snapshot ≡ false → recorded k step.step.after.snapshot ≡ false
      → HappensToo event next step
  event_too (Take b a) next step there not_was not_now = taking_too b a next step there not_was not_now
  event_too (Expand agent) next step there not_was not_now =
      let x : Again (Expand agent) next step = record { there = there; not_was = not_was; not_now = not_now; message = refl; same = refl } in
      let of = is_its value publics tasks team w is holds (Expand agent) next step in
      alone (Expand agent) next step x (to_expanding value publics tasks team w is agent next step of)
      (to_expanding value publics tasks team c is_c agent (last (Expand agent) next step x) (step_too (Expand agent) next step x) of)
  event_too Start next step there not_was not_now =
      let x : Again Start next step = record { there = there; not_was = not_was; not_now = not_now; message = refl; same = refl } in
      let of = is_its value publics tasks team w is holds Start next step in
      alone Start next step x (to_starting value publics tasks team w is next step of)
      (to_starting value publics tasks team c is_c (last Start next step x) (step_too Start next step x) of)
