-- With each round the end of a decided search comes nearer.
use Rattle.mp_world.proofs.Basics.{◌≡◌, ◌≢◌, ℕ, suc, ◌+◌, ◌*◌, ◌≤◌, ◌^◌, Bool, true, false, ◌&&◌, List, [], ◌∷◌, length, Option, Some, refl, sym, ap, subst, ◌∙◌, arith, ◌⊎◌, inl, inr, ◌==◌, Ok, filter, and_from, cases_eq, eq-eqb, false≢true, same_Some}
use Rattle.std.proofs.lemmas.Bool.{true_from_ne_false}
use Rattle.mp_messages.specs.declared.message.Message.TheVariants.{State}
use Rattle.mp_world.specs.AgentWords.{Event, Take, Message, Marker, Report, Pick, Trace, Length, Done, AgentRecord, given_verdict, is_going, Step, took_message, is_deciding}
use Rattle.mp_world.specs.SearchWords.{Numbers}
use Rattle.mp_world.specs.Events.{is_legal}
use Rattle.mp_world.specs.RoundRobin.{Round, is_over}
use Rattle.mp_world.specs.Steps.{IsStepOf}
use Rattle.mp_world.specs.Team.{IsTeam, Team}
use Rattle.mp_world.specs.World.{World, agent_at}
use Rattle.mp_world.proofs.Agents.{agent_there}
use Rattle.mp_team_snapshots.specs.Snapshots.{one_if_due}
use Rattle.mp_team_snapshots.specs.Team.{IsTeamOf}
use Rattle.mp_team_snapshots.proofs.Protocol.{IsOf}
use Rattle.mp_team_snapshots.proofs.Worlds.{is_of_agent, team_numbers}
use Rattle.mp_team_states.proofs.Messages.{path_over}
use Rattle.mp_team_states.proofs.ReachedEntries.{has_it}
use Rattle.mp_team_states.proofs.StepsSound.{records_sound}
use Rattle.mp_world.proofs.LocalCases.{message_holds}
use Rattle.mp_team_verdicts.specs.Ending.{HasEnded, IsAt, Stage, due, end_messages, is_of_end}
use Rattle.mp_team_verdicts.specs.Ending.Stage.{over, picking, searching, walking, without_plan}
use Rattle.mp_team_verdicts.proofs.Frames.{IsKnownWorld, ended_stays}
use Rattle.mp_team_verdicts.proofs.InRuns.{EndsSoFar}
use Rattle.mp_team_verdicts.proofs.Short.{path_entry}
use Rattle.mp_team_verdicts.proofs.TakenEnds.{ended_kind}
use Rattle.mp_team_verdicts.proofs.TakingEnds.{due_holds}
use Rattle.mp_team_verdicts.proofs.Calm.{Reached}
use Rattle.mp_team_verdicts.proofs.Hops.{few_messages}
use Rattle.mp_team_verdicts.proofs.Nearing.{IsAsked, IsNear, IsPickedOut, asked_on, near_next, picked_on}
use Rattle.mp_team_verdicts.proofs.Nearing.IsNear.{asked, chosen, one_ended}
use Rattle.mp_team_verdicts.proofs.Points.{round_runs}
use Rattle.mp_team_verdicts.proofs.ReachedWorlds.{all_pass, known, onward}
use Rattle.mp_team_verdicts.proofs.Stuck.{another_at, both_same, ends, is_agent, is_first, no_messages, nothing_left, of_there, one_goes}
use Rattle.mp_team_verdicts.proofs.Turning.{round_turns}
use Rattle.mp_team_verdicts.proofs.Waiting.{TakesEnd, left_of, left_or_taken, still_waits}

no_item : {X : Type 0} (x : X) (xs : List X) → [] ≡ x ∷ xs → ⊥
no_item x xs is = let impossible : ⊥ = cc in impossible

-- a message by which the agent that takes it ends
abbrev IsLast : Message → Type 0
IsLast (State s) = ⊥
IsLast (Marker number) = ⊥
IsLast (Report found) = ⊥
IsLast (Pick number) = ⊥
IsLast (Trace sent back) = ⊥
IsLast (Length plan) = Unit {0}
IsLast (Done kind) = Unit {0}

ends_by : (value : Numbers → Numbers → Option ℕ) (r : AgentRecord) (from : ℕ) (m : Message) (s : Step) → IsLast m
    → took_message value r from m ≡ Ok s → is_going s.after.ending ≡ false
ends_by value r from m s last took =
    message_holds value r from (λ m s. IsLast m → is_going s.after.ending ≡ false) (record {
      state = λ m given right last. absurd last;
      on = λ number goes last. absurd last;
      begins = λ number begins last. absurd last;
      report = λ found good last. absurd last;
      pick = λ number good last. absurd last;
      trace = λ sent back entry there good last. absurd last;
      length = λ plan good last. refl;
      done = λ kind first last. ended_kind kind;
    }) m s took last

module _ (team : Team) (is_team : IsTeam team) (publics : ℕ) (of_team : IsTeamOf publics team.tasks) where
  open team use {tasks, value}

  abbrev n : ℕ
  n = length tasks

  abbrev At : World → Type 0
  At = Reached team is_team publics of_team

  abbrev Near : World → ℕ → Type 0
  Near = IsNear n publics

  is_known : (w : World) → At w → IsKnownWorld publics tasks w
  is_known = known team is_team publics of_team

  ends_of : (w : World) → At w → EndsSoFar publics tasks w
  ends_of w at = ends team is_team publics of_team w at

  one : (w : World) → At w → IsOf n 1
  one w at = is_first team is_team publics of_team w at

  stays_ended : (v next : World) (event : Event) → At v → At next → IsStepOf value v event next → (i : ℕ) → HasEnded v i → HasEnded next i
  stays_ended v next event at at_next step i ended = ended_stays value publics tasks of_team v (is_known v at).team event next step i ended

  -- an agent that goes on takes what waits
  module _ (v : World) (at : At v) (from to : ℕ) (of_from : IsOf n from) (of_to : IsOf n to) (apart : from ≢ to) (m : Message)
      (waits : end_messages publics v from to ≡ m ∷ []) (illegal : is_legal v (Take to from) ≡ false) where
    taker : (r : AgentRecord) × (agent_at v to ≡ Some r)
    taker = agent_there v to (is_agent team is_team publics of_team v at to of_to)

    pub takes_it : (r : AgentRecord) → agent_at v to ≡ Some r → is_going r.ending ≡ true → ⊥
    takes_it r there going =
        let none = nothing_left v from to r there going
        (another_at team is_team publics of_team v at from to r there of_from apart) illegal in
        no_item m []
        (sym (ap (filter is_of_end) (no_messages team is_team publics of_team v at from to none)) ∙ waits)

    -- it goes on, where what waits is no last message
    module _ (not_last : IsLast m → ⊥) where
      goes_on : (stage : Stage) → IsAt publics v stage → due stage from to (is_going taker.0.ending) ≡ m ∷ [] → is_going taker.0.ending ≡ true
      goes_on stage a is =
          due_holds from to (is_going taker.0.ending) [] (λ stage m. (IsLast m → ⊥) → IsAt publics v stage → is_going taker.0.ending ≡ true) (record {
            done = λ kind first none not_last a. absurd (not_last tt);
            pick = λ agent number plan first is none not_last a. (a.agents to taker.0 taker.1).walked.going;
            trace = λ sender receiver sent earlier later first is none not_last a. (a.agents to taker.0 taker.1).going;
            length = λ teller plan first none not_last a. absurd (not_last tt);
          }) stage m is not_last a

      pub never_left : ⊥
      never_left =
          let e = ends_of v at in
          takes_it taker.0 taker.1
          (goes_on e.stage e.is
          (sym (e.is.mail from to taker.0 (is_agent team is_team publics of_team v at from of_from) taker.1) ∙ waits))

  -- ---- all end where one has ended

  -- an agent goes on, and a last message waits for it
  record IsToEnd (v : World) (teller j : ℕ) : Type 0 where
    message : Message
    last : IsLast message
    waits : end_messages publics v teller j ≡ message ∷ []
    who : AgentRecord
    there : agent_at v j ≡ Some who
    going : is_going who.ending ≡ true

  to_end_on : (v next : World) (event : Event) → At v → At next → IsStepOf value v event next → (teller j : ℕ) → IsOf n teller → IsOf n j
      → IsToEnd v teller j → IsToEnd next teller j ⊎ HasEnded next j
  to_end_on v next event at at_next step teller j of_teller of_j to_end =
      by (is_going later.0.ending) refl (left_or_taken team is_team publics of_team v next event at at_next step teller j of_teller of_j)
    where
      later : (r : AgentRecord) × (agent_at next j ≡ Some r)
      later = agent_there next j (is_agent team is_team publics of_team next at_next j of_j)

      by : (g : Bool) → is_going later.0.ending ≡ g
          → (left_of team is_team publics of_team v next event at at_next step teller j ≡ end_messages publics v teller j)
          ⊎ TakesEnd team is_team publics of_team v next event at at_next step teller j
          → IsToEnd next teller j ⊎ HasEnded next j
      by false test what = inr (record { who = later.0; there = later.1; ended = test })
      by true test (inl kept) = inl (record {
        message = to_end.message;
        last = to_end.last;
        waits =
            still_waits team is_team publics of_team v next event at at_next step teller j of_teller of_j
            to_end.message to_end.waits kept;
        who = later.0;
        there = later.1;
        going = test;
      })
      by true test (inr takes) =
          let both = sym to_end.waits ∙ takes.first in
          let same : to_end.message ≡ takes.message = cc in
          inr (record {
            who = step.step.after;
            there = ap (agent_at next) takes.agent_is ∙ step.after;
            ended = ends_by (value step.agent.task) step.agent teller takes.message step.step (subst IsLast same to_end.last) takes.took;
          })

  module _ (w next : World) (events : List Event) (at : At w) (round : Round value n w events next) (at_next : At next) where
    -- an agent for which a last message waits, if it goes on, has ended after the round
    one_ends : (teller j : ℕ) → IsOf n teller → IsOf n j → teller ≢ j → IsToEnd w teller j ⊎ HasEnded w j → HasEnded next j
    one_ends teller j of_teller of_j apart now =
        round_turns team is_team publics of_team (λ v. IsToEnd v teller j) (λ v. HasEnded v j)
        (λ v later event at_v at_later step to_end. to_end_on v later event at_v at_later step teller j of_teller of_j to_end)
        (λ v later event at_v at_later step ended. stays_ended v later event at_v at_later step j ended)
        teller j of_teller of_j apart
        (λ v at_v to_end illegal.
        takes_it v at_v teller j of_teller of_j apart to_end.message to_end.waits illegal to_end.who to_end.there to_end.going)
        w next events at round now

    -- the one that has ended stays so
    itself_ends : (i : ℕ) → HasEnded w i → HasEnded next i
    itself_ends i ended =
        (onward team is_team publics of_team (λ event. true) (λ v. HasEnded v i)
        (λ v event later at_v at_later step pass old. stays_ended v later event at_v at_later step i old)
        events w next at ended (all_pass events) (round_runs value n w next events round)).1

    all_ended : ((j : ℕ) → IsOf n j → HasEnded next j) → is_over next ≡ true
    all_ended each =
        true_from_ne_false (is_over next) (λ test.
        let goes = one_goes next.agents test in
        let e = each (suc goes.place) (of_there team is_team publics of_team next at_next (suc goes.place) goes.who goes.there) in
        false≢true (sym e.ended
        ∙ ap (λ (r : AgentRecord). is_going r.ending) (same_Some e.who goes.who (sym e.there ∙ goes.there)) ∙ goes.going))

    -- one agent has told all that go on
    all_from : (teller : ℕ) (m : Message) → IsLast m → HasEnded w teller
        → ((j : ℕ) (r : AgentRecord) → agent_at w j ≡ Some r → is_going r.ending ≡ true → end_messages publics w teller j ≡ m ∷ [])
        → is_over next ≡ true
    all_from teller m last ended tells = all_ended (λ j of_j. each j of_j (cases_eq teller j))
      where
        of_teller : IsOf n teller
        of_teller = of_there team is_team publics of_team w at teller ended.who ended.there

        now : (j : ℕ) (r : AgentRecord) → agent_at w j ≡ Some r → (g : Bool) → is_going r.ending ≡ g → IsToEnd w teller j ⊎ HasEnded w j
        now j r there true going = inl (record {
          message = m;
          last = last;
          waits = tells j r there going;
          who = r;
          there = there;
          going = going;
        })
        now j r there false test = inr (record { who = r; there = there; ended = test })

        each : (j : ℕ) → IsOf n j → (teller ≡ j) ⊎ (teller ≡ j → ⊥) → HasEnded next j
        each j of_j (inl same) = subst (λ (k : ℕ). HasEnded next k) same (itself_ends teller ended)
        each j of_j (inr other) =
            let x = agent_there w j (is_agent team is_team publics of_team w at j of_j) in
            one_ends teller j of_teller of_j other (now j x.0 x.1 (is_going x.0.ending) refl)

    -- once one has ended, all have after the round
    over_after : (i : ℕ) → HasEnded w i → is_over next ≡ true
    over_after i ended = by e.stage e.is
      where
        e : EndsSoFar publics tasks w
        e = ends_of w at

        not_all : ((r : AgentRecord) → agent_at w i ≡ Some r → is_going r.ending ≡ true) → ⊥
        not_all going = false≢true (sym ended.ended ∙ going ended.who ended.there)

        told_of : (teller : ℕ) (g : Bool) (m : Message) → g ≡ true → one_if_due (teller == teller && g) m ≡ m ∷ []
        told_of teller g m going =
            ap (λ (t : Bool). one_if_due t m) (and_from (teller == teller) g (eq-eqb teller teller refl) going)

        by : (stage : Stage) → IsAt publics w stage → is_over next ≡ true
        by searching a = absurd (not_all (λ r there. (a.agents i r there).walked.going))
        by (picking agent number plan) a = absurd (not_all (λ r there. (a.agents i r there).walked.going))
        by (walking from to sent earlier later) a = absurd (not_all (λ r there. (a.agents i r there).going))
        by (without_plan kind) a =
            all_from 1 (Done kind) tt a.verdict.teller
            (λ j r there going.
            a.mail 1 j r (is_agent team is_team publics of_team w at 1 (one w at)) there
            ∙ told_of 1 (is_going r.ending) (Done kind) going)
        by (over teller plan) a =
            let t = a.verdict.teller in
            all_from teller (Length (length plan)) tt t
            (λ j r there going.
            a.mail teller j r
            (is_agent team is_team publics of_team w at teller
            (of_there team is_team publics of_team w at teller t.who t.there)) there
            ∙ told_of teller (is_going r.ending) (Length (length plan)) going)

    nearer : {Still : Type 0} (v : World) (rounds most : ℕ) → most ≤ suc rounds → Still ⊎ ((k : ℕ) → most ≤ suc k → Near v k) → Still ⊎ Near v rounds
    nearer v rounds most enough (inl still) = inl still
    nearer v rounds most enough (inr near) = inr (near rounds enough)

    -- all have ended after the round, or the end is nearer by a round
    pub near_round : (rounds : ℕ) → Near w (suc rounds) → (is_over next ≡ true) ⊎ Near next rounds
    near_round rounds (one_ended agent ended some) = inl (over_after agent ended)
    near_round rounds (asked from to messages asks enough) =
        inr (round_turns team is_team publics of_team (λ v. IsAsked n publics v from to messages) (λ v. Near v rounds)
        (λ v later event at_v at_later step is.
        nearer later rounds (messages + 2) enough (asked_on team is_team publics of_team v later event at_v at_later step from to messages is))
        (λ v later event at_v at_later step near. near_next team is_team publics of_team v later event at_v at_later step rounds near)
        from to asks.of_from asks.of_to asks.apart
        (λ v at_v is illegal.
        never_left v at_v from to is.of_from is.of_to is.apart (Trace is.sent is.back) is.waits illegal (λ last. last))
        w next events at round (inl asks))
    near_round rounds (chosen to pick enough) =
        inr (round_turns team is_team publics of_team (λ v. IsPickedOut n publics v to) (λ v. Near v rounds)
        (λ v later event at_v at_later step is.
        nearer later rounds (17 * 2 ^ 46 + 2) enough (picked_on team is_team publics of_team v later event at_v at_later step to is))
        (λ v later event at_v at_later step near. near_next team is_team publics of_team v later event at_v at_later step rounds near)
        1 to (one w at) pick.of_to pick.apart
        (λ v at_v is illegal.
        never_left v at_v 1 to (one v at_v) is.of_to is.apart (Pick is.number) is.waits illegal (λ last. last))
        w next events at round (inl pick))

  -- ---- a search that is decided

  pub near_start : (w : World) → At w → (first : AgentRecord) → agent_at w 1 ≡ Some first → is_deciding (given_verdict first) ≡ true
      → Near w (17 * 2 ^ 46 + 2)
  near_start w at first there decides = by e.stage e.is
    where
      e : EndsSoFar publics tasks w
      e = ends_of w at

      by : (stage : Stage) → IsAt publics w stage → Near w (17 * 2 ^ 46 + 2)
      by searching a =
          absurd (false≢true (sym a.verdict
          ∙ ap (λ (r : AgentRecord). is_deciding (given_verdict r)) (same_Some a.first first (sym a.there ∙ there)) ∙ decides))
      by (without_plan kind) a = one_ended 1 a.verdict.teller (omega arith)
      by (over teller plan) a = one_ended teller a.verdict.teller (omega arith)
      by (picking agent number plan) a =
          let p = a.verdict.proved in
          let here : agent_at w agent ≡ Some p.picked = sym (ap (agent_at w) a.verdict.agent_is) ∙ p.there in
          chosen agent
          (record {
            of_to = of_there team is_team publics of_team w at agent p.picked here;
            apart = λ same. a.verdict.other (sym same);
            number = number;
            waits =
                a.mail 1 agent p.picked (is_agent team is_team publics of_team w at 1 (one w at)) here
                ∙ ap (λ (t : Bool). one_if_due t (Pick number)) (both_same 1 agent);
          }) (omega arith)
      by (walking from to sent earlier later) a =
          let next = a.verdict.next in
          let k = is_known w at in
          let entry = path_entry w to next.number earlier next.path in
          let h = has_it w to next.number entry.0 entry.1 in
          let way = path_over w (records_sound tasks is_team.tasks w k.team k.so_far.sound) to next.number earlier next.path in
          let few = few_messages team is_team publics of_team w at to next.number way.0 way.1 in
          asked from to way.0
          (record {
            of_from = is_of_agent publics tasks of_team w (team_numbers publics tasks of_team w k.team) from a.verdict.sender;
            of_to = of_there team is_team publics of_team w at to h.agent_is h.there;
            apart = λ same. a.verdict.apart (sym same);
            sent = sent;
            back = length later;
            waits =
                a.mail from to h.agent_is a.verdict.sender h.there
                ∙ ap (λ (t : Bool). one_if_due t (Trace sent (length later))) (both_same from to);
            entry = next.number;
            given = next.given;
            over = way.1;
          }) (omega arith)
