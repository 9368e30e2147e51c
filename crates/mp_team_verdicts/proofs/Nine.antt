-- The search does not go on over nine rounds in which no agent expands.
use Rattle.mp_world.proofs.Basics.{◌≡◌, ℕ, ◌+◌, ◌≤◌, ◌<◌, ◌^◌, Bool, true, List, ◌++◌, length, take, Some, None, refl, sym, ap, ◌∙◌, arith, ◌⊎◌, inl, inr, nat_lt, if◌then◌else◌, and_from, and_parts, cases_eq, false≢true, lt-ltb}
use Rattle.mp_messages.specs.declared.message.Message.TheVariants.{State as AState}
use Rattle.mp_machine.proofs.NotesLemmas.{given_at_first}
use Rattle.mp_world.specs.AgentWords.{Event, Expand, Take, Start, Message, Marker, Report, Pick, Trace, Length, Done, Notes, is_complete, verdict_of, Verdict, Proved, NoPlan, Spent, Continue, AgentRecord, given_verdict, is_going, may_start, Step, is_deciding}
use Rattle.mp_world.specs.Events.{agent_of, taken}
use Rattle.mp_world.specs.Steps.{IsStepOf}
use Rattle.mp_world.specs.Team.{IsTeam, Team}
use Rattle.mp_world.specs.World.{World, agent_at}
use Rattle.mp_world.proofs.Agents.{member_of}
use Rattle.mp_team_snapshots.specs.Team.{IsTeamOf}
use Rattle.mp_team_snapshots.proofs.Changes.{note_after, note_other}
use Rattle.mp_team_snapshots.proofs.Effects.{Effect, IsBegun, IsMarkedOn, took_effect}
use Rattle.mp_team_snapshots.proofs.Protocol.{IsOf, Sound}
use Rattle.mp_team_snapshots.proofs.Worlds.{note_at, note_of, view}
use Rattle.mp_team_verdicts.specs.Ending.{IsAt}
use Rattle.mp_team_verdicts.specs.Ending.Stage.{searching}
use Rattle.mp_team_verdicts.proofs.Frames.{IsKnownWorld}
use Rattle.mp_team_snapshots.proofs.Taken.{its_notes}
use Rattle.mp_team_verdicts.proofs.Calm.{AllGo, Goes, IsQuietRound, Reached, goes_reached, no_states_after, number_at, rises, silent_after, silent_on, went_on}
use Rattle.mp_team_verdicts.proofs.Fresh.{AreFresh, IsSilent, fresh_next, no_start, not_continue, quiet_in_silence, silent_next}
use Rattle.mp_team_verdicts.proofs.Progress.{behind, complete3, leads_on, round_leads}
use Rattle.mp_team_verdicts.proofs.ReachedWorlds.{all_pass, known, onward}
use Rattle.mp_team_verdicts.proofs.Starting.{starts_next}
use Rattle.mp_team_verdicts.proofs.Staying.{counted_number}
use Rattle.mp_team_verdicts.proofs.Stuck.{HasNumberLeft, is_first, of_there, sound_view}

-- ---- the number of agent 1's last snapshot changes by a start alone

message_number : (r : AgentRecord) (from : ℕ) (m : Message) (s : Step) → r.snapshot.me ≡ 1 → Effect r from m s
    → s.after.snapshot.number ≡ r.snapshot.number
message_number r from (AState m) s me effect =
    ap (λ (t : Notes). t.number) effect.snapshot ∙ counted_number r.snapshot from (m.g + m.h)
message_number r from (Marker number) s me effect = by effect
  where
    by : IsMarkedOn r from number s ⊎ IsBegun r from number s → s.after.snapshot.number ≡ r.snapshot.number
    by (inl on) = ap (λ (t : Notes). t.number) on.snapshot
    by (inr new) = absurd (new.other me)
message_number r from (Report found) s me effect = ap (λ (t : Notes). t.number) effect.snapshot
message_number r from (Pick number) s me effect = ap (λ (t : Notes). t.number) effect.snapshot
message_number r from (Trace sent back) s me effect = ap (λ (t : Notes). t.number) effect.snapshot
message_number r from (Length plan) s me effect = ap (λ (t : Notes). t.number) effect.snapshot
message_number r from (Done kind) s me effect = ap (λ (t : Notes). t.number) effect.snapshot

module _ (team : Team) (is_team : IsTeam team) (publics : ℕ) (of_team : IsTeamOf publics team.tasks) where
  open team use {tasks, value}

  abbrev n : ℕ
  n = length tasks

  abbrev At : World → Type 0
  At = Reached team is_team publics of_team

  abbrev Leads : World → List Event → World → Type 0
  Leads = Goes team is_team publics of_team

  abbrev Go : World → Type 0
  Go = AllGo team is_team publics of_team

  abbrev Quiet : World → World → Type 0
  Quiet = IsQuietRound team is_team publics of_team

  abbrev num : World → ℕ → ℕ
  num = number_at team is_team publics of_team

  is_known : (w : World) → At w → IsKnownWorld publics tasks w
  is_known = known team is_team publics of_team

  seen : (w : World) → At w → Sound n (view publics w)
  seen = sound_view team is_team publics of_team

  one : (w : World) → At w → IsOf n 1
  one = is_first team is_team publics of_team

  -- In silence agent 1 starts no snapshot more once it has one that began in silence.
  abbrev IsLate : ℕ → ℕ → World → Type 0
  IsLate k m w = IsSilent n publics w × AreFresh k w × (num w 1 ≡ m)

  module _ (k m : ℕ) (some : 1 ≤ k) (late : k ≤ m) (v : World) (at : At v) (old : IsLate k m v) where
    first_there : (r : AgentRecord) → agent_at v 1 ≡ Some r → r.snapshot.number ≡ m
    first_there r there = ap (λ (s : Notes). s.number) (sym (note_of v 1 r there)) ∙ old.2

    same_number : (event : Event) (next : World) (step : IsStepOf value v event next) → 1 ≡ agent_of event
        → step.step.after.snapshot.number ≡ step.agent.snapshot.number
    same_number (Expand agent) next step is =
        absurd (false≢true (quiet_in_silence value publics tasks of_team v (is_known v at).team (is_known v at).in_runs old.0 (Expand agent) next step))
    same_number (Take b a) next step is =
        let notes = its_notes value publics tasks of_team v (is_known v at).team (is_known v at).in_runs (Take b a) next step in
        let took = took_effect (value step.agent.task) step.agent a (taken v (Take b a)) step.step step.local in
        message_number step.agent a took.message step.step (notes.me ∙ sym is) took.effect
    same_number Start next step is =
        let number = first_there step.agent step.there in
        absurd (no_start value publics tasks of_team v (is_known v at).team (is_known v at).in_runs old.0 k old.1 step.agent step.there (omega arith) some
        (and_parts (is_going step.agent.ending) (may_start step.agent) step.may).1)

    late_next : (event : Event) (next : World) → IsStepOf value v event next → IsLate k m next
    late_next event next step = (
      silent_next value publics tasks of_team v (is_known v at).team (is_known v at).in_runs old.0 event next step,
      fresh_next value publics tasks of_team v (is_known v at).team (is_known v at).in_runs old.0 event next step k old.1,
      by (cases_eq 1 (agent_of event)),
    )
      where
        by : (1 ≡ agent_of event) ⊎ (1 ≡ agent_of event → ⊥) → num next 1 ≡ m
        by (inl is) =
            ap (λ (i : ℕ). num next i) is
            ∙ ap (λ (s : Notes). s.number) (note_after value publics tasks of_team v (is_known v at).team event next step)
            ∙ same_number event next step is
            ∙ first_there step.agent (ap (agent_at v) is ∙ step.there)
        by (inr other) =
            ap (λ (s : Notes). s.number) (note_other value publics tasks of_team v (is_known v at).team event next step 1 other) ∙ old.2

  late_on : (k m : ℕ) → 1 ≤ k → k ≤ m → (events : List Event) (u w : World) → At u → Leads u events w → IsLate k m u → IsLate k m w
  late_on k m some late events u w at goes old =
      (onward team is_team publics of_team (λ event. true) (IsLate k m)
      (λ v event next at_v at_next step pass holds. late_next k m some late v at_v holds event next step)
      events u w at old (all_pass events) goes).1

  fresh_on : (k : ℕ) → (events : List Event) (u w : World) → At u → Leads u events w → IsSilent n publics u × AreFresh k u
      → IsSilent n publics w × AreFresh k w
  fresh_on k events u w at goes old =
      (onward team is_team publics of_team (λ event. true) (λ v. IsSilent n publics v × AreFresh k v)
      (λ v event next at_v at_next step pass holds. (
        silent_next value publics tasks of_team v (is_known v at_v).team (is_known v at_v).in_runs holds.0 event next step,
        fresh_next value publics tasks of_team v (is_known v at_v).team (is_known v at_v).in_runs holds.0 event next step k holds.1,
      )) events u w at old (all_pass events) goes).1

  -- the verdict on a complete snapshot that began in silence decides
  decided : (k : ℕ) (w : World) → At w → IsAt publics w searching → IsSilent n publics w → AreFresh k w → 1 ≤ k → k ≤ num w 1
      → is_complete (note_at w 1) ≡ true → ⊥
  decided k w at searches silent fresh some late complete =
      by (verdict_of (take searches.first.snapshot.agents searches.first.snapshot.found)) given
    where
      noted : note_at w 1 ≡ searches.first.snapshot
      noted = note_of w 1 searches.first searches.there

      number : num w 1 ≡ searches.first.snapshot.number
      number = ap (λ (s : Notes). s.number) noted

      begun : 0 < searches.first.snapshot.number
      begun = let same = number in omega arith

      given : given_verdict searches.first ≡ Some (verdict_of (take searches.first.snapshot.agents searches.first.snapshot.found))
      given =
          given_at_first searches.first (member_of tasks of_team.numbered w (is_known w at).team 1 searches.first searches.there).me
          ∙ ap (λ (b : Bool). if b then Some (verdict_of (take searches.first.snapshot.agents searches.first.snapshot.found)) else None)
          (and_from (nat_lt 0 searches.first.snapshot.number) (is_complete searches.first.snapshot) (lt-ltb 0 searches.first.snapshot.number begun)
          (ap is_complete (sym noted) ∙ complete))

      by : (v : Verdict) → given_verdict searches.first ≡ Some v → ⊥
      by (Proved agent cost) is = false≢true (sym searches.verdict ∙ ap is_deciding is)
      by NoPlan is = false≢true (sym searches.verdict ∙ ap is_deciding is)
      by (Spent agent) is = false≢true (sym searches.verdict ∙ ap is_deciding is)
      by Continue is =
          not_continue value publics tasks of_team w (is_known w at).team (is_known w at).in_runs silent k fresh searches.first searches.there
          (let same = number in omega arith) is

  -- nine rounds, of the worlds between which the search goes on in these
  module _ (w0 w1 w2 w3 w4 w5 w6 w7 w8 w9 : World) (at0 : At w0)
      (q1 : Quiet w0 w1) (q2 : Quiet w1 w2) (q3 : Quiet w2 w3) (q4 : Quiet w3 w4) (q5 : Quiet w4 w5) (q6 : Quiet w5 w6)
      (q7 : Quiet w6 w7) (q8 : Quiet w7 w8) (q9 : Quiet w8 w9)
      (s2 : IsAt publics w2 searching) (s5 : IsAt publics w5 searching) (s9 : IsAt publics w9 searching)
      (room : num w9 1 + 1 < 2 ^ 60) where
    goes_in : (w : World) → IsAt publics w searching → Go w
    goes_in w s i r there = (s.agents i r there).walked.going

    reach : (u v : World) → At u → Quiet u v → At v
    reach u v at q = goes_reached team is_team publics of_team q.events u v at (round_leads team is_team publics of_team u v q)

    lead : (u v : World) (q : Quiet u v) → Leads u q.events v
    lead = round_leads team is_team publics of_team

    join : (u v w : World) (es fs : List Event) → Leads u es v → Leads v fs w → Leads u (es ++ fs) w
    join = leads_on team is_team publics of_team

    at1 : At w1
    at1 = reach w0 w1 at0 q1

    at2 : At w2
    at2 = reach w1 w2 at1 q2

    at3 : At w3
    at3 = reach w2 w3 at2 q3

    at5 : At w5
    at5 = reach w4 w5 (reach w3 w4 at3 q4) q5

    at6 : At w6
    at6 = reach w5 w6 at5 q6

    at9 : At w9
    at9 = reach w8 w9 (reach w7 w8 (reach w6 w7 at6 q7) q8) q9

    go2 : Go w2
    go2 = goes_in w2 s2

    go1 : Go w1
    go1 = went_on team is_team publics of_team q2.events w1 w2 at1 (lead w1 w2 q2) go2

    silent2 : IsSilent n publics w2
    silent2 =
        silent_after team is_team publics of_team w1 w2 at1 q2 go2
        (no_states_after team is_team publics of_team w0 w1 at0 q1 go1)

    rise : (j : ℕ) (es : List Event) (u v : World) → At u → Leads u es v → num u j ≤ num v j
    rise = rises team is_team publics of_team

    leads5 : Leads w2 (q3.events ++ (q4.events ++ q5.events)) w5
    leads5 =
        join w2 w3 w5 q3.events (q4.events ++ q5.events) (lead w2 w3 q3)
        (join w3 w4 w5 q4.events q5.events (lead w3 w4 q4) (lead w4 w5 q5))

    leads6 : Leads w2 ((q3.events ++ (q4.events ++ q5.events)) ++ q6.events) w6
    leads6 = join w2 w5 w6 (q3.events ++ (q4.events ++ q5.events)) q6.events leads5 (lead w5 w6 q6)

    leads9 : Leads w6 (q7.events ++ (q8.events ++ q9.events)) w9
    leads9 =
        join w6 w7 w9 q7.events (q8.events ++ q9.events) (lead w6 w7 q7)
        (join w7 w8 w9 q8.events q9.events (lead w7 w8 q8) (lead w8 w9 q9))

    silent5 : IsSilent n publics w5
    silent5 = silent_on team is_team publics of_team (q3.events ++ (q4.events ++ q5.events)) w2 w5 at2 leads5 silent2

    room_at : (w : World) → At w → num w 1 ≤ num w9 1 → HasNumberLeft w
    room_at w at low first there =
        let number : num w 1 ≡ first.snapshot.number = ap (λ (s : Notes). s.number) (note_of w 1 first there) in
        let space = room in
        omega arith

    -- in the first four rounds of silence agent 1 starts a snapshot
    started6 : num w2 1 + 1 ≤ num w6 1
    started6 = by (cases_eq (num w6 1) (num w2 1))
      where
        low26 : num w2 1 ≤ num w6 1
        low26 = rise 1 ((q3.events ++ (q4.events ++ q5.events)) ++ q6.events) w2 w6 at2 leads6

        low69 : num w6 1 ≤ num w9 1
        low69 = rise 1 (q7.events ++ (q8.events ++ q9.events)) w6 w9 at6 leads9

        low56 : num w5 1 ≤ num w6 1
        low56 = rise 1 q6.events w5 w6 at5 (lead w5 w6 q6)

        low25 : num w2 1 ≤ num w5 1
        low25 = rise 1 (q3.events ++ (q4.events ++ q5.events)) w2 w5 at2 leads5

        none : num w2 1 ≡ 0 → num w2 1 + 1 ≤ num w6 1
        none is =
            let next = starts_next team is_team publics of_team w2
            (record { at = at2; silent = silent2; searches = s2; over = inl is }) w3 q3
            (room_at w2 at2 (let a = low26 in let b = low69 in omega arith)) in
            let more = rise 1 ((q4.events ++ q5.events) ++ q6.events) w3 w6 at3
            (join w3 w5 w6 (q4.events ++ q5.events) q6.events (join w3 w4 w5 q4.events q5.events (lead w3 w4 q4) (lead w4 w5 q5)) (lead w5 w6 q6)) in
            omega arith

        some : num w6 1 ≡ num w2 1 → (num w2 1 ≡ 0 → ⊥) → num w2 1 + 1 ≤ num w6 1
        some same is =
            let a = low56 in
            let b = low25 in
            let same5 : num w5 1 ≡ num w2 1 = omega arith in
            let complete = complete3 team is_team publics of_team w2 w3 w4 w5 at2 q3 q4 q5 (goes_in w5 s5) same5
            (omega (arith, is)) in
            let next = starts_next team is_team publics of_team w5
            (record { at = at5; silent = silent5; searches = s5; over = inr complete }) w6 q6
            (room_at w5 at5 (let c = low69 in omega arith)) in
            omega arith

        zero_or : num w6 1 ≡ num w2 1 → (num w2 1 ≡ 0) ⊎ (num w2 1 ≡ 0 → ⊥) → num w2 1 + 1 ≤ num w6 1
        zero_or same (inl is) = none is
        zero_or same (inr is) = some same is

        by : (num w6 1 ≡ num w2 1) ⊎ (num w6 1 ≡ num w2 1 → ⊥) → num w2 1 + 1 ≤ num w6 1
        by (inl same) = zero_or same (cases_eq (num w2 1) 0)
        by (inr other) = let a = low26 in omega (arith, other)

    -- it began in silence
    fresh2 : AreFresh (num w2 1 + 1) w2
    fresh2 i r there =
        let of = of_there team is_team publics of_team w2 at2 i r there in
        let number : num w2 i ≡ r.snapshot.number = ap (λ (s : Notes). s.number) (note_of w2 i r there) in
        let low = behind team is_team publics of_team w2 at2 i of in
        inl (omega arith)

    pub never_nine : ⊥
    never_nine =
        let at_6 = fresh_on (num w2 1 + 1) ((q3.events ++ (q4.events ++ q5.events)) ++ q6.events) w2 w6 at2 leads6 (silent2, fresh2) in
        let more = started6 in
        let last = late_on (num w2 1 + 1) (num w6 1) (omega arith) more (q7.events ++ (q8.events ++ q9.events)) w6 w9 at6 leads9
        (at_6.0, at_6.1, refl) in
        let same : num w9 1 ≡ num w6 1 = last.2 in
        let complete = complete3 team is_team publics of_team w6 w7 w8 w9 at6 q7 q8 q9 (goes_in w9 s9) same (omega arith) in
        decided (num w2 1 + 1) w9 at9 s9 last.0 last.1 (omega arith) (omega arith) complete
