-- The end of a search comes nearer: a message of it is taken, and what the agent does by it.
use Rattle.mp_world.proofs.Basics.{◌≡◌, ◌≢◌, ℕ, suc, ◌+◌, ◌*◌, ◌≤◌, ◌^◌, Bool, true, List, [], ◌∷◌, ◌++◌, length, Option, Some, None, refl, sym, ap, subst, ◌∙◌, arith, ◌⊎◌, inl, inr, IsSomeAnd, Ok, Err, if◌then◌else◌, option_map_or, eq-eqb, same_Some}
use Rattle.mp_trail.specs.declared.steps.Walked.TheVariants.{Root as AtRoot}
use Rattle.mp_world.specs.AgentWords.{TaskStep, Event, Message, Pick, Trace, Walked, Hop, walk, StrangePick, StrangeTrace, AgentRecord, is_going, Step, to_one, without_messages, is_strange_pick, is_strange_trace, took_message, traced, arrived, walked, walked_from_goal}
use Rattle.mp_world.specs.SearchWords.{sent_entry, SearchRecord}
use Rattle.mp_world.specs.Events.{agent_of}
use Rattle.mp_world.specs.Steps.{IsStepOf}
use Rattle.mp_world.specs.Team.{IsTeam, Team}
use Rattle.mp_world.specs.World.{World, agent_at}
use Rattle.mp_world.proofs.LocalCases.{good_step}
use Rattle.mp_team_snapshots.specs.Snapshots.{one_if_due}
use Rattle.mp_team_snapshots.specs.Team.{IsTeamOf}
use Rattle.mp_team_snapshots.proofs.Protocol.{IsOf}
use Rattle.mp_team_snapshots.proofs.Worlds.{team_numbers}
use Rattle.mp_team_states.specs.Paths.{IsOver, IsPath, IsSentAt}
use Rattle.mp_team_states.proofs.Messages.{path_over}
use Rattle.mp_team_states.proofs.StepsSound.{records_sound}
use Rattle.mp_team_states.proofs.WorldsGrow.{step_grows}
use Rattle.mp_team_verdicts.specs.Ending.{HasEnded, IsAt, due, end_messages}
use Rattle.mp_team_verdicts.specs.Ending.Stage.{picking}
use Rattle.mp_team_verdicts.proofs.EndMessages.{ends_to, one_end}
use Rattle.mp_team_verdicts.proofs.Frames.{IsKnownWorld, ended_stays}
use Rattle.mp_team_verdicts.proofs.InRuns.{EndsSoFar}
use Rattle.mp_team_verdicts.proofs.Heard.{EndsElsewhere, walk_elsewhere}
use Rattle.mp_team_states.proofs.ReachedEntries.{sent_at_stays}
use Rattle.mp_team_verdicts.proofs.EndSteps.{walked_keeps}
use Rattle.mp_team_verdicts.proofs.TakenEnds.{sent_is}
use Rattle.mp_team_verdicts.proofs.TakingEnds.{due_holds}
use Rattle.mp_team_verdicts.proofs.Calm.{Reached}
use Rattle.mp_team_verdicts.proofs.Hops.{few_messages, hop_over, over_stays}
use Rattle.mp_team_verdicts.proofs.ReachedWorlds.{known}
use Rattle.mp_team_verdicts.proofs.Stuck.{ends, is_agent, is_first, of_there}
use Rattle.mp_team_verdicts.proofs.Waiting.{TakesEnd, alone, ends_after, few_ends, left_of, left_or_taken, still_waits}

-- an agent is asked by another one to go on with a walk at an entry that it sent, which was reached over so many messages
pub record IsAsked (agents publics : ℕ) (w : World) (from to messages : ℕ) : Type 0 where
  pub of_from : IsOf agents from
  pub of_to : IsOf agents to
  pub apart : from ≢ to
  pub sent : ℕ
  pub back : ℕ
  pub waits : end_messages publics w from to ≡ Trace sent back ∷ []
  pub entry : ℕ
  pub given : IsSentAt w to sent entry
  pub over : IsOver w to entry messages

-- agent 1 has picked an agent, which has not taken that yet
pub record IsPickedOut (agents publics : ℕ) (w : World) (to : ℕ) : Type 0 where
  pub of_to : IsOf agents to
  pub apart : 1 ≢ to
  pub number : ℕ
  pub waits : end_messages publics w 1 to ≡ Pick number ∷ []

-- The end of the search takes at most so many rounds more: an agent has ended, or one is asked or picked.
pub data IsNear (agents publics : ℕ) (w : World) (rounds : ℕ) : Type 0 where
  one_ended : (agent : ℕ) → HasEnded w agent → 1 ≤ rounds → IsNear agents publics w rounds
  asked :
      (from to messages : ℕ) → IsAsked agents publics w from to messages → messages + 2 ≤ rounds
      → IsNear agents publics w rounds
  chosen : (to : ℕ) → IsPickedOut agents publics w to → 17 * 2 ^ 46 + 2 ≤ rounds → IsNear agents publics w rounds

-- who sent is an agent
sent_by : (w : World) (agent sent number : ℕ) → IsSentAt w agent sent number → (r : AgentRecord) × (agent_at w agent ≡ Some r)
sent_by w agent sent number is = by (agent_at w agent) refl is
  where
    by : (o : Option AgentRecord) → agent_at w agent ≡ o → IsSomeAnd o (λ r. sent_entry sent r.search.kept ≡ Some number)
        → (r : AgentRecord) × (agent_at w agent ≡ Some r)
    by None there is = absurd is
    by (Some r) there is = (r, there)

module _ (team : Team) (is_team : IsTeam team) (publics : ℕ) (of_team : IsTeamOf publics team.tasks) where
  open team use {tasks, value}

  abbrev n : ℕ
  n = length tasks

  abbrev At : World → Type 0
  At = Reached team is_team publics of_team

  abbrev Near : World → ℕ → Type 0
  Near = IsNear n publics

  is_known : (w : World) → At w → IsKnownWorld publics tasks w
  is_known = known team is_team publics of_team

  -- ---- an agent walks back

  module _ (w next : World) (event : Event) (at : At w) (at_next : At next) (step : IsStepOf value w event next) where
    abbrev b : ℕ
    b = agent_of event

    of_b : IsOf n b
    of_b = of_there team is_team publics of_team next at_next b step.step.after step.after

    module _ (r : AgentRecord) (entry back messages rounds : ℕ) (is : walked r entry back ≡ step.step) (far : IsOver next b entry messages)
        (enough : messages + 1 ≤ rounds) where
      search : step.step.after.search ≡ r.search
      search = ap (λ (s : Step). s.after.search) (sym is) ∙ (walked_keeps r entry back).search

      away : EndsElsewhere b (walk r.search.kept entry back).end
      away =
          let k = is_known next at_next in
          walk_elsewhere b step.step.after (k.hears b step.step.after step.after) ((team_numbers publics tasks of_team next k.team).me b step.step.after step.after)
          r.search.kept (ap (λ (x : SearchRecord). x.kept) search) entry back

      -- another agent is asked
      hop_nears : (sender sent count : ℕ) → (walk r.search.kept entry back).end ≡ Hop sender sent count
          → step.step.out ≡ to_one sender (Trace sent count) → sender ≢ b → Near next rounds
      hop_nears sender sent count ends_at out_is elsewhere =
          let later = hop_over next b step.step.after step.after entry back messages sender sent count far
          (ap (λ (x : SearchRecord). (walk x.kept entry back).end) search ∙ ends_at) in
          let one = later.one in
          let who = sent_by next sender sent later.there later.given in
          let of_sender = of_there team is_team publics of_team next at_next sender who.0 who.1 in
          let sent_to : ends_to sender step.step.out ≡ Trace sent count ∷ [] =
          ap (ends_to sender) out_is ∙ one_end sender (Trace sent count) refl sender
          ∙ ap (λ (t : Bool). one_if_due t (Trace sent count)) (eq-eqb sender sender refl) in
          let rest = left_of team is_team publics of_team w next event at at_next step b sender in
          asked b sender later.fewer
          (record {
            of_from = of_b;
            of_to = of_sender;
            apart = λ same. elsewhere (sym same);
            sent = sent;
            back = count;
            waits =
                alone (end_messages publics next b sender) rest [] (Trace sent count)
                (few_ends team is_team publics of_team next at_next b sender of_b of_sender)
                (ends_after team is_team publics of_team w next event at at_next step b sender of_b of_sender
                ∙ (λ k. rest ++ (if eq-eqb b b refl k then sent_to k else [])));
            entry = later.there;
            given = later.given;
            over = later.over;
          }) (omega arith)

      pub walk_nears : Near next rounds
      unfolding walked
      walk_nears = by (walk r.search.kept entry back).end refl is away
        where
          by : (end : Walked) → (walk r.search.kept entry back).end ≡ end
              → arrived (record r { trail = r.trail ++ (walk r.search.kept entry back).noted }) end ≡ step.step
              → EndsElsewhere b end → Near next rounds
          by (AtRoot long) ends_at now elsewhere =
              one_ended b (record {
                who = step.step.after;
                there = step.after;
                ended = ap (λ (s : Step). is_going s.after.ending) (sym now);
              }) (omega arith)
          by (Hop sender sent count) ends_at now elsewhere = hop_nears sender sent count ends_at (ap (λ (s : Step). s.out) (sym now)) elsewhere

    -- ---- an agent takes what it is asked

    asked_nears : (from to messages rounds : ℕ) → IsAsked n publics w from to messages → messages + 2 ≤ suc rounds
        → TakesEnd team is_team publics of_team w next event at at_next step from to → Near next rounds
    asked_nears from to messages rounds asks enough takes =
        let r = step.agent in
        let both = sym asks.waits ∙ takes.first in
        let same : Trace asks.sent asks.back ≡ takes.message = cc in
        let there : agent_at w to ≡ Some r = ap (agent_at w) takes.agent_is ∙ step.there in
        let took : took_message (value r.task) r from (Trace asks.sent asks.back) ≡ Ok step.step =
        subst (λ (m : Message). took_message (value r.task) r from m ≡ Ok step.step) (sym same) takes.took in
        let entry = sent_is w to asks.sent asks.entry r there asks.given in
        let now : traced r asks.back asks.entry ≡ Ok step.step =
        ap (λ (o : Option ℕ). option_map_or (traced r asks.back) o (Err StrangeTrace)) (sym entry) ∙ took in
        let good = good_step (is_strange_trace r asks.entry asks.back) StrangeTrace (walked r asks.entry asks.back) step.step now in
        let far : IsOver next b asks.entry messages =
        subst (λ (k : ℕ). IsOver next k asks.entry messages) takes.agent_is
        (over_stays w next (step_grows value w next event step) to asks.entry messages asks.over) in
        walk_nears r asks.entry asks.back messages rounds good.1 far (omega arith)

    -- the agent that is picked begins at the goal entry that it noted
    picked_nears : (to rounds : ℕ) → IsPickedOut n publics w to → 17 * 2 ^ 46 + 2 ≤ suc rounds
        → TakesEnd team is_team publics of_team w next event at at_next step 1 to → Near next rounds
    picked_nears to rounds pick enough takes =
        due_holds 1 to (is_going r.ending) [] (λ stage m. m ≡ Pick pick.number → IsAt publics w stage → Near next rounds) (record {
          done = λ kind one none same a. absurd (let impossible : ⊥ = cc in impossible);
          pick = λ agent number plan one is_to none same a. walks agent number plan is_to a;
          trace = λ from receiver sent earlier later one is_to none same a. absurd (let impossible : ⊥ = cc in impossible);
          length = λ teller plan one none same a. absurd (let impossible : ⊥ = cc in impossible);
        }) e.stage (Pick pick.number) due_now refl e.is
      where
        e : EndsSoFar publics tasks w
        e = ends team is_team publics of_team w at

        r : AgentRecord
        r = step.agent

        there : agent_at w to ≡ Some r
        there = ap (agent_at w) takes.agent_is ∙ step.there

        took : took_message (value r.task) r 1 (Pick pick.number) ≡ Ok step.step
        took =
            let both = sym pick.waits ∙ takes.first in
            let same : Pick pick.number ≡ takes.message = cc in
            subst (λ (m : Message). took_message (value r.task) r 1 m ≡ Ok step.step) (sym same) takes.took

        due_now : due e.stage 1 to (is_going r.ending) ≡ Pick pick.number ∷ []
        due_now = sym (e.is.mail 1 to r (is_agent team is_team publics of_team w at 1 one) there) ∙ pick.waits
          where
            one : IsOf n 1
            one = is_first team is_team publics of_team w at

        walks : (agent number : ℕ) (plan : List TaskStep) → agent ≡ to → IsAt publics w (picking agent number plan) → Near next rounds
        walks agent number plan is_to a =
            let p = a.verdict.proved in
            let agent_is : p.agent ≡ to = a.verdict.agent_is ∙ is_to in
            let who : p.picked ≡ r = same_Some p.picked r (sym p.there ∙ ap (agent_at w) agent_is ∙ there) in
            let goal : r.goal ≡ Some p.number = ap (λ (x : AgentRecord). x.goal) (sym who) ∙ p.goal.noted in
            let after : AgentRecord = record r { picked = true } in
            let good = good_step (is_strange_pick r 1 pick.number) StrangePick (walked_from_goal after) step.step took in
            let walks : walked after p.number 0 ≡ step.step =
            ap (λ (o : Option ℕ). option_map_or (λ entry. walked after entry 0) o (without_messages after)) (sym goal) ∙ good.1 in
            let k = is_known w at in
            let path : IsPath w to p.number plan = subst (λ (i : ℕ). IsPath w i p.number plan) agent_is p.path in
            let way = path_over w (records_sound tasks is_team.tasks w k.team k.so_far.sound) to p.number plan path in
            let few = few_messages team is_team publics of_team w at to p.number way.0 way.1 in
            let far : IsOver next b p.number way.0 =
            subst (λ (i : ℕ). IsOver next i p.number way.0) takes.agent_is
            (over_stays w next (step_grows value w next event step) to p.number way.0 way.1) in
            walk_nears after p.number 0 way.0 rounds walks far (omega arith)

    -- ---- what an event keeps

    -- who is asked is asked still, or the end has come nearer
    pub asked_on : (from to messages : ℕ) → IsAsked n publics w from to messages
        → IsAsked n publics next from to messages ⊎ ((rounds : ℕ) → messages + 2 ≤ suc rounds → Near next rounds)
    asked_on from to messages asks =
        by (left_or_taken team is_team publics of_team w next event at at_next step from to asks.of_from asks.of_to)
      where
        by : (left_of team is_team publics of_team w next event at at_next step from to ≡ end_messages publics w from to)
            ⊎ TakesEnd team is_team publics of_team w next event at at_next step from to
            → IsAsked n publics next from to messages ⊎ ((rounds : ℕ) → messages + 2 ≤ suc rounds → Near next rounds)
        by (inl kept) = inl (record {
          of_from = asks.of_from;
          of_to = asks.of_to;
          apart = asks.apart;
          sent = asks.sent;
          back = asks.back;
          waits =
              still_waits team is_team publics of_team w next event at at_next step from to asks.of_from asks.of_to
              (Trace asks.sent asks.back) asks.waits kept;
          entry = asks.entry;
          given = sent_at_stays w next (step_grows value w next event step) to asks.sent asks.entry asks.given;
          over = over_stays w next (step_grows value w next event step) to asks.entry messages asks.over;
        })
        by (inr takes) = inr (λ rounds enough. asked_nears from to messages rounds asks enough takes)

    pub picked_on : (to : ℕ) → IsPickedOut n publics w to
        → IsPickedOut n publics next to ⊎ ((rounds : ℕ) → 17 * 2 ^ 46 + 2 ≤ suc rounds → Near next rounds)
    picked_on to pick =
        by (left_or_taken team is_team publics of_team w next event at at_next step 1 to one pick.of_to)
      where
        one : IsOf n 1
        one = is_first team is_team publics of_team w at

        by : (left_of team is_team publics of_team w next event at at_next step 1 to ≡ end_messages publics w 1 to)
            ⊎ TakesEnd team is_team publics of_team w next event at at_next step 1 to
            → IsPickedOut n publics next to ⊎ ((rounds : ℕ) → 17 * 2 ^ 46 + 2 ≤ suc rounds → Near next rounds)
        by (inl kept) = inl (record {
          of_to = pick.of_to;
          apart = pick.apart;
          number = pick.number;
          waits =
              still_waits team is_team publics of_team w next event at at_next step 1 to one pick.of_to
              (Pick pick.number) pick.waits kept;
        })
        by (inr takes) = inr (λ rounds enough. picked_nears to rounds pick enough takes)

    -- the end does not get further away
    pub near_next : (rounds : ℕ) → Near w rounds → Near next rounds
    near_next rounds (one_ended agent ended some) =
        one_ended agent (ended_stays value publics tasks of_team w (is_known w at).team event next step agent ended) some
    near_next rounds (asked from to messages asks some) =
        elim (asked_on from to messages asks) [
          | inl still ↦ asked from to messages still some
          | inr nearer ↦ nearer rounds (omega arith)
        ]
    near_next rounds (chosen to pick some) =
        elim (picked_on to pick) [
          | inl still ↦ chosen to still some
          | inr nearer ↦ nearer rounds (omega arith)
        ]
