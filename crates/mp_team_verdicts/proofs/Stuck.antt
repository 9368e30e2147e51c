-- As long as not all agents have ended, some event may happen.
use Rattle.mp_world.proofs.Basics.{◌≡◌, ◌≢◌, ℕ, zero, suc, ◌+◌, ◌≤◌, ◌<◌, ◌^◌, Bool, true, false, ◌&&◌, List, [], ◌∷◌, length, Some, refl, sym, ap, subst, ◌∙◌, arith, ◌⊎◌, inl, inr, ◌==◌, filter, nat_le, nat_lt, not, if◌then◌else◌, slice_get, filter_map, list_all}
use Rattle.mp_world.proofs.Basics.{option_map_or, and_from, and_left, and_right, eq-eqb, eqb-true, false_from_ne_true, false≢true, le-leb, lt-ltb, same_Some}
use Rattle.mp_world.specs.AgentWords.{AgentTask, TaskStep, Event, Expand, Take, Start, EndKind, Message, Pick, Trace, Length, Done, message_of, Notes, has, is_complete, is_under_way, is_whole, AgentRecord, given_verdict, is_going, is_another, may, may_start}
use Rattle.mp_world.specs.AgentWords.{is_deciding}
use Rattle.mp_world.specs.SearchWords.{may_expand}
use Rattle.mp_world.specs.Events.{agent_may, agent_of, has_message, is_legal, local_of}
use Rattle.mp_world.specs.RoundRobin.{is_over}
use Rattle.mp_world.specs.Team.{IsTeam, Team}
use Rattle.mp_world.specs.World.{IsAgent, World, agent_at, start_world, under_way}
use Rattle.mp_world.proofs.Agents.{agent_there, member_of}
use Rattle.mp_world.proofs.LogOfRun.{new_at}
use Rattle.mp_world.proofs.LocalCases.{not_false}
use Rattle.mp_team_snapshots.specs.Messages.{marker_of, messages, report_of}
use Rattle.mp_team_snapshots.specs.Snapshots.{one_if_due}
use Rattle.mp_team_snapshots.specs.Team.{IsTeamOf}
use Rattle.mp_team_snapshots.proofs.Protocol.{IsOf, Sound}
use Rattle.mp_team_snapshots.proofs.Worlds.{is_agent_of, is_of_agent, is_of_there, note_at, note_of, team_numbers, to_view, view}
use Rattle.mp_team_states.proofs.ReachedEntries.{has_it}
use Rattle.mp_team_verdicts.specs.Ending.{HasEnded, IsAt, Stage, due, is_of_end}
use Rattle.mp_team_verdicts.specs.Ending.Stage.{over, picking, searching, walking, without_plan}
use Rattle.mp_team_states.proofs.EachAgent.{each_agent}
use Rattle.mp_team_verdicts.proofs.Frames.{IsKnownWorld}
use Rattle.mp_team_verdicts.proofs.InRuns.{EndsSoFar, ends_so_far}
use Rattle.mp_team_verdicts.proofs.Short.{path_entry}
use Rattle.mp_team_snapshots.proofs.Taken.{is_its, its_notes}
use Rattle.mp_team_verdicts.proofs.Complete.{IsStill, complete_if_still, not_due, other_false}
use Rattle.mp_team_verdicts.proofs.Noting.{ListsItself, lists_itself, moved}
use Rattle.mp_team_verdicts.proofs.ReachedWorlds.{IsReached, in_runs, known}

-- none of these events may happen in a world of a team of so many
pub record IsStuck (agents : ℕ) (w : World) : Type 0 where
  pub take :
      (by from : ℕ) → IsOf agents by → IsOf agents from → from ≢ by
      → is_legal w (Take by from) ≡ false
  pub expand : (agent : ℕ) → IsOf agents agent → is_legal w (Expand agent) ≡ false
  pub start : is_legal w Start ≡ false

-- agent 1 has a number left for a snapshot
abbrev pub HasNumberLeft : World → Type 0
HasNumberLeft w = (first : AgentRecord) → agent_at w 1 ≡ Some first → first.snapshot.number + 1 < 2 ^ 60

-- ---- tests

and_on : (a : Bool) → (a && true) ≡ false → a ≡ false
and_on true is = is
and_on false is = refl

pub both_same : (i j : ℕ) → (i == i && j == j) ≡ true
both_same i j = and_from (i == i) (j == j) (eq-eqb i i refl) (eq-eqb j j refl)

no_bytes : (xs : List (List ℕ)) → not (length xs == 0) ≡ false → xs ≡ []
no_bytes [] is = refl
no_bytes (x ∷ xs) is =
    let none = eqb-true (length (x ∷ xs)) 0 (not_false (length (x ∷ xs) == 0) is) in
    absurd (omega arith)

-- an agent that has not ended
pub record IsGoingAt (rs : List AgentRecord) : Type 0 where
  pub place : ℕ
  pub who : AgentRecord
  pub there : slice_get rs place ≡ Some who
  pub going : is_going who.ending ≡ true

pub one_goes : (rs : List AgentRecord) → list_all (λ r. not (is_going r.ending)) rs ≡ false → IsGoingAt rs
one_goes [] is = absurd (let impossible : ⊥ = cc in impossible)
one_goes (r ∷ rs) is = by (is_going r.ending) refl (one_goes rs)
  where
    by : (b : Bool) → is_going r.ending ≡ b → (list_all (λ r. not (is_going r.ending)) rs ≡ false → IsGoingAt rs) → IsGoingAt (r ∷ rs)
    by true test later = record { place = 0; who = r; there = refl; going = test }
    by false test later =
        let x =
        later (other_false (not (is_going r.ending)) (list_all (λ r. not (is_going r.ending)) rs) is (ap not test)) in
        record { place = suc x.place; who = x.who; there = x.there; going = x.going }

-- ---- what an agent may do

-- what an agent of a world may do, by its record
pub may_at : (w : World) (event : Event) (r : AgentRecord) → agent_at w (agent_of event) ≡ Some r
    → agent_may w event ≡ may r (local_of event)
may_at w event r there = ap (λ o. option_map_or (λ (x : AgentRecord). may x (local_of event)) o false) there

another : (t : AgentTask) (i : ℕ) → 1 ≤ i → i ≤ t.agents → i ≢ t.me → is_another t i ≡ true
another t i low high off =
    and_from (nat_le 1 i && nat_le i t.agents) (not (i == t.me))
    (and_from (nat_le 1 i) (nat_le i t.agents) (le-leb 1 i low) (le-leb i t.agents high))
    (ap not (false_from_ne_true (i == t.me) (λ same. off (eqb-true i t.me same))))

-- an agent that goes on takes what there is
pub nothing_left : (w : World) (i j : ℕ) (r : AgentRecord) → agent_at w j ≡ Some r → is_going r.ending ≡ true
    → is_another r.task i ≡ true → is_legal w (Take j i) ≡ false → under_way w i j ≡ []
nothing_left w i j r there going other illegal =
    no_bytes (under_way w i j)
    (other_false (agent_may w (Take j i)) (has_message w (Take j i)) illegal
    (may_at w (Take j i) r there ∙ and_from (is_going r.ending) (is_another r.task i) going other))

-- an agent that goes on has nothing to expand where it may not
pub nothing_to_expand : (w : World) (i : ℕ) (r : AgentRecord) → agent_at w i ≡ Some r → is_going r.ending ≡ true
    → is_legal w (Expand i) ≡ false → may_expand r.limit r.search ≡ false
nothing_to_expand w i r there going illegal =
    other_false (is_going r.ending) (may_expand r.limit r.search)
    (sym (may_at w (Expand i) r there) ∙ and_on (agent_may w (Expand i)) illegal) going

-- no snapshot is under way where there was none, or agent 1 has all findings
pub idle : (s : Notes) → s.me ≡ 1 → (s.number ≡ 0) ⊎ (is_complete s ≡ true) → is_under_way s ≡ false
idle s me (inl none) = and_left (nat_lt 0 s.number) (not (if s.me == 1 then is_complete s else is_whole s)) (ap (nat_lt 0) none)
idle s me (inr complete) =
    and_right (nat_lt 0 s.number) (not (if s.me == 1 then is_complete s else is_whole s))
    ((λ k. not (if eq-eqb s.me 1 me k then is_complete s else is_whole s)) ∙ ap not complete)

-- agent 1 may start a snapshot
pub first_may_start : (r : AgentRecord) → r.task.me ≡ 1 → may_expand r.limit r.search ≡ false → is_under_way r.snapshot ≡ false
    → is_deciding (given_verdict r) ≡ false → r.snapshot.number + 1 < 2 ^ 60 → may_start r ≡ true
first_may_start r me done free undecided room =
    let one : (r.task.me == 1) ≡ true = eq-eqb r.task.me 1 me in
    let two = and_from (r.task.me == 1) (not (may_expand r.limit r.search)) one (ap not done) in
    let three = and_from ((r.task.me == 1) && not (may_expand r.limit r.search)) (not (is_under_way r.snapshot)) two (ap not free) in
    let four = and_from ((r.task.me == 1) && not (may_expand r.limit r.search) && not (is_under_way r.snapshot))
    (not (is_deciding (given_verdict r))) three (ap not undecided) in
    and_from ((r.task.me == 1) && not (may_expand r.limit r.search) && not (is_under_way r.snapshot) && not (is_deciding (given_verdict r)))
    (nat_lt (r.snapshot.number + 1) (2 ^ 60)) four (lt-ltb (r.snapshot.number + 1) (2 ^ 60) room)

module _ (team : Team) (is_team : IsTeam team) (publics : ℕ) (of_team : IsTeamOf publics team.tasks) where
  open team use {tasks, value}

  -- ---- each agent has its own findings

  abbrev pub ListThemselves : World → Type 0
  ListThemselves w = (i : ℕ) (r : AgentRecord) → agent_at w i ≡ Some r → ListsItself r.snapshot

  new_listed : ListThemselves (start_world team)
  new_listed i r there =
      subst (λ (x : AgentRecord). ListsItself x.snapshot) (sym (new_at team i r there))
      (record { listed = λ some. absurd (omega arith) })

  pub list_themselves : (w : World) → IsReached team w → ListThemselves w
  list_themselves =
      in_runs team is_team publics of_team ListThemselves new_listed
      (λ v event next at at_next step old.
      let is = known team is_team publics of_team v at in
      let move = moved value publics tasks of_team v is.team event next step in
      let notes = its_notes value publics tasks of_team v is.team is.in_runs event next step in
      let of = is_its value publics tasks of_team v is.team is.in_runs event next step in
      each_agent value v event next step (λ i r. ListsItself r.snapshot)
      (lists_itself (length tasks) (agent_of event) of_team.agents of move.message step.agent step.step.after notes
      move.moves
      (old (agent_of event) step.agent step.there))
      (λ i r there off. old i r there))

  module _ (w : World) (at : IsReached team w) where
    is : IsKnownWorld publics tasks w
    is = known team is_team publics of_team w at

    pub sound_view : Sound (length tasks) (view publics w)
    sound_view = to_view publics tasks of_team w (team_numbers publics tasks of_team w is.team) is.in_runs.sound

    pub of_there : (i : ℕ) (r : AgentRecord) → agent_at w i ≡ Some r → IsOf (length tasks) i
    of_there i r there = is_of_there publics tasks of_team w (team_numbers publics tasks of_team w is.team) i r there

    pub is_agent : (i : ℕ) → IsOf (length tasks) i → IsAgent w i
    is_agent i of = is_agent_of publics tasks of_team w (team_numbers publics tasks of_team w is.team) i of

    pub is_first : IsOf (length tasks) 1
    is_first = record { from_1 = omega arith; at_most = of_team.some }

    pub another_at : (i j : ℕ) (r : AgentRecord) → agent_at w j ≡ Some r → IsOf (length tasks) i → i ≢ j → is_another r.task i ≡ true
    another_at i j r there of off =
        let m = member_of tasks of_team.numbered w is.team j r there in
        let many = m.agents in
        let high = of.at_most in
        another r.task i of.from_1 (omega arith) (λ same. off (same ∙ m.me))

    pub ends : EndsSoFar publics tasks w
    ends = ends_so_far team is_team publics of_team at.schedule w at.ran

    -- where nothing is under way there are no messages
    pub no_messages : (i j : ℕ) → under_way w i j ≡ [] → messages publics w i j ≡ []
    no_messages i j none = ap (filter_map (message_of (length w.agents) publics)) none

    no_end : (stage : Stage) → IsAt publics w stage → (i j : ℕ) (r : AgentRecord) → IsAgent w i → agent_at w j ≡ Some r
        → under_way w i j ≡ [] → due stage i j (is_going r.ending) ≡ []
    no_end stage a i j r agent there none =
        sym (a.mail i j r agent there) ∙ ap (filter is_of_end) (no_messages i j none)

    module _ (stuck : IsStuck (length tasks) w) where
      none_to : (i j : ℕ) (r : AgentRecord) → agent_at w j ≡ Some r → is_going r.ending ≡ true → IsOf (length tasks) i → i ≢ j
          → under_way w i j ≡ []
      none_to i j r there going of off =
          nothing_left w i j r there going (another_at i j r there of off) (stuck.take j i (of_there j r there) of off)

      -- the end of a search does not stop short: who goes on is told by one that has ended
      not_told : (teller : ℕ) (m : Message) → HasEnded w teller → (j : ℕ) (r : AgentRecord) → agent_at w j ≡ Some r → is_going r.ending ≡ true
          → (IsAgent w teller → under_way w teller j ≡ [] → one_if_due (teller == teller && is_going r.ending) m ≡ []) → ⊥
      not_told teller m ended j r there going due =
          let of = of_there teller ended.who ended.there in
          let off : teller ≢ j = λ same.
          false≢true (sym ended.ended
          ∙ ap (λ (x : AgentRecord). is_going x.ending) (same_Some ended.who r (sym ended.there ∙ ap (agent_at w) same ∙ there))
          ∙ going) in
          false≢true (sym (other_false (teller == teller) (is_going r.ending)
          (not_due (teller == teller && is_going r.ending) m (due (is_agent teller of) (none_to teller j r there going of off)))
          (eq-eqb teller teller refl)) ∙ going)

      not_without : (kind : EndKind) → IsAt publics w (without_plan kind) → (j : ℕ) (r : AgentRecord) → agent_at w j ≡ Some r
          → is_going r.ending ≡ true → ⊥
      not_without kind a j r there going =
          not_told 1 (Done kind) a.verdict.teller j r there going (λ agent. no_end (without_plan kind) a 1 j r agent there)

      not_over : (teller : ℕ) (plan : List TaskStep) → IsAt publics w (over teller plan) → (j : ℕ) (r : AgentRecord) → agent_at w j ≡ Some r
          → is_going r.ending ≡ true → ⊥
      not_over teller plan a j r there going =
          not_told teller (Length (length plan)) a.verdict.teller j r there going (λ agent. no_end (over teller plan) a teller j r agent there)

      not_picking : (agent number : ℕ) (plan : List TaskStep) → IsAt publics w (picking agent number plan) → ⊥
      not_picking agent number plan a =
          let p = a.verdict.proved in
          let there : agent_at w agent ≡ Some p.picked = sym (ap (agent_at w) a.verdict.agent_is) ∙ p.there in
          let going = (a.agents agent p.picked there).walked.going in
          let none = none_to 1 agent p.picked there going is_first (λ same. a.verdict.other (sym same)) in
          false≢true (sym (not_due (1 == 1 && agent == agent) (Pick number)
          (no_end (picking agent number plan) a 1 agent p.picked (is_agent 1 is_first) there none)) ∙ both_same 1 agent)

      not_walking : (from to sent : ℕ) (earlier later : List TaskStep) → IsAt publics w (walking from to sent earlier later) → ⊥
      not_walking from to sent earlier later a =
          let next = a.verdict.next in
          let entry = path_entry w to next.number earlier next.path in
          let h = has_it w to next.number entry.0 entry.1 in
          let going = (a.agents to h.agent_is h.there).going in
          let of = is_of_agent publics tasks of_team w (team_numbers publics tasks of_team w is.team) from a.verdict.sender in
          let none = none_to from to h.agent_is h.there going of (λ same. a.verdict.apart (sym same)) in
          false≢true (sym (not_due (from == from && to == to) (Trace sent (length later))
          (no_end (walking from to sent earlier later) a from to h.agent_is a.verdict.sender h.there none)) ∙ both_same from to)

      -- while the search goes on, agent 1 may start a snapshot
      module _ (a : IsAt publics w searching) (room : HasNumberLeft w) where
        abbrev first : AgentRecord
        first = a.first

        goes : (j : ℕ) (r : AgentRecord) → agent_at w j ≡ Some r → is_going r.ending ≡ true
        goes j r there = (a.agents j r there).walked.going

        none_between : (i j : ℕ) → IsOf (length tasks) i → IsOf (length tasks) j → i ≢ j → messages publics w i j ≡ []
        none_between i j of_i of_j off =
            let found = agent_there w j (is_agent j of_j) in
            no_messages i j (none_to i j found.0 found.1 (goes j found.0 found.1) of_i off)

        still : IsStill (length tasks) (view publics w)
        still = record {
          markers = λ i j of_i of_j off. ap (filter_map marker_of) (none_between i j of_i of_j off);
          reports = λ i of off. ap (filter_map report_of) (none_between i 1 of is_first off);
        }

        first_note : note_at w 1 ≡ first.snapshot
        first_note = note_of w 1 first a.there

        me_is : first.task.me ≡ 1
        me_is = (member_of tasks of_team.numbered w is.team 1 first a.there).me

        notes_me : first.snapshot.me ≡ 1
        notes_me = ap (λ (s : Notes). s.me) (sym first_note) ∙ (sound_view.notes 1 is_first).me

        complete : (n : ℕ) → first.snapshot.number ≡ n → (first.snapshot.number ≡ 0) ⊎ (is_complete first.snapshot ≡ true)
        complete zero number = inl number
        complete (suc n) number =
            let some : 0 < first.snapshot.number = omega arith in
            let some_noted : 0 < (note_at w 1).number = subst (λ (s : Notes). 0 < s.number) (sym first_note) some in
            let itself : has (note_at w 1).reported 1 ≡ true =
            ap (λ (s : Notes). has s.reported 1) first_note
            ∙ ap (has first.snapshot.reported) (sym notes_me)
            ∙ (list_themselves w at 1 first a.there).listed some in
            inr (ap is_complete (sym first_note)
            ∙ complete_if_still (length tasks) of_team.agents (view publics w) sound_view some_noted still is_first itself)

        pub not_searching : ⊥
        not_searching =
            let going = goes 1 first a.there in
            let done = nothing_to_expand w 1 first a.there going (stuck.expand 1 is_first) in
            let free = idle first.snapshot notes_me (complete first.snapshot.number refl) in
            let start = first_may_start first me_is done free a.verdict (room first a.there) in
            false≢true (sym (and_on (agent_may w Start) stuck.start)
            ∙ (may_at w Start first a.there ∙ and_from (is_going first.ending) (may_start first) going start))

      by_stage : (stage : Stage) → IsAt publics w stage → HasNumberLeft w → (j : ℕ) (r : AgentRecord) → agent_at w j ≡ Some r
          → is_going r.ending ≡ true → ⊥
      by_stage searching a room j r there going = not_searching a room
      by_stage (without_plan kind) a room j r there going = not_without kind a j r there going
      by_stage (picking agent number plan) a room j r there going = not_picking agent number plan a
      by_stage (walking from to sent earlier later) a room j r there going = not_walking from to sent earlier later a
      by_stage (over teller plan) a room j r there going = not_over teller plan a j r there going

    -- A team that is not over is not stuck, as long as agent 1 has a number left for a snapshot.
    pub not_stuck : is_over w ≡ false → HasNumberLeft w → IsStuck (length tasks) w → ⊥
    not_stuck on room stuck =
        let goes = one_goes w.agents on in
        by_stage stuck ends.stage ends.is room (suc goes.place) goes.who goes.there goes.going
