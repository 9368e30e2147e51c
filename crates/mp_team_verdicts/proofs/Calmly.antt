-- Events after which the end of the search has come as far as before.
use Rattle.mp_world.proofs.Basics.{◌≡◌, ℕ, Bool, true, false, List, [], ◌++◌, length, Some, All, refl, sym, ap, subst, ◌∙◌, append-nil, ◌⊎◌, inl, inr, ◌==◌, filter, if◌then◌else◌, All-weaker, same_Some}
use Rattle.mp_world.specs.AgentWords.{AgentTask, TaskStep, Event, Message, share, AgentRecord, given_verdict, is_going, Outgoing, Step, ending_of, is_deciding}
use Rattle.mp_world.specs.Events.{agent_of}
use Rattle.mp_world.specs.Steps.{IsStepOf}
use Rattle.mp_world.specs.Team.{AreTeamTasks}
use Rattle.mp_world.specs.Values.{Values}
use Rattle.mp_world.specs.World.{World, agent_at}
use Rattle.mp_team_snapshots.specs.Team.{HasRoom, IsTeamOf}
use Rattle.mp_team_snapshots.proofs.Changes.{left}
use Rattle.mp_team_snapshots.proofs.Protocol.{IsOf}
use Rattle.mp_team_snapshots.proofs.Worlds.{is_agent_of, team_numbers}
use Rattle.mp_team_verdicts.specs.Ending.{AgentAt, HasNoPart, HasShare, HasWalked, IsAt, IsProved, Stage, VerdictAt, due, end_messages, is_of_end, notes, end_by}
use Rattle.mp_team_verdicts.specs.Ending.Stage.{over, picking, searching, walking, without_plan}
use Rattle.mp_team_verdicts.proofs.EndMessages.{IsNoEnd, none_to}
use Rattle.mp_team_verdicts.proofs.Fitting.{HasEndRoom, ends_next, no_end_has_room}
use Rattle.mp_team_states.proofs.EachAgent.{each_agent}
use Rattle.mp_team_verdicts.proofs.Frames.{IsKnownWorld, agent_stays, ended_stays, first_next, leads_stays, of_agent_next, of_next, proved_stays}
use Rattle.mp_team_verdicts.proofs.EndSteps.{IsCalm}
use Rattle.mp_team_verdicts.proofs.WalkOn.{ComesTo, team_fits}

-- ---- an agent that has no more part than before

walked_calm : (later : List TaskStep) (r : AgentRecord) (s : Step) → IsCalm r s → HasWalked later r → HasWalked later s.after
walked_calm later r s calm old = record {
  trail = calm.trail ∙ old.trail ∙ ap (λ (t : AgentTask). notes t.me later) (sym calm.task);
  going = ap is_going calm.ending ∙ old.going;
}

no_part_calm : (r : AgentRecord) (s : Step) → IsCalm r s → HasNoPart r → HasNoPart s.after
no_part_calm r s calm old = record { walked = walked_calm [] r s calm old.walked; picked = calm.picked ∙ old.picked }

pub agent_calm : (stage : Stage) (r : AgentRecord) (s : Step) → IsCalm r s → AgentAt stage r → AgentAt stage s.after
agent_calm searching r s calm old = no_part_calm r s calm old
agent_calm (without_plan kind) r s calm old = record { trail = calm.trail ∙ old.trail; picked = calm.picked ∙ old.picked; ending = by old.ending }
  where
    by : (is_going r.ending ≡ true) ⊎ (r.ending ≡ ending_of kind) → (is_going s.after.ending ≡ true) ⊎ (s.after.ending ≡ ending_of kind)
    by (inl going) = inl (ap is_going calm.ending ∙ going)
    by (inr ended) = inr (calm.ending ∙ ended)
agent_calm (picking agent number plan) r s calm old = no_part_calm r s calm old
agent_calm (walking sender receiver sent earlier later) r s calm old = walked_calm later r s calm old
agent_calm (over by_agent plan) r s calm old = record {
  trail = calm.trail ∙ old.trail ∙ ap (λ (t : AgentTask). notes t.me plan) (sym calm.task);
  ending = by old.ending;
}
  where
    by : (is_going r.ending ≡ true) ⊎ HasShare plan r → (is_going s.after.ending ≡ true) ⊎ HasShare plan s.after
    by (inl going) = inl (ap is_going calm.ending ∙ going)
    by (inr has) = inr (record {
      ending = calm.ending ∙ has.ending;
      share = calm.share ∙ has.share ∙ (λ k. share (length plan) (sym calm.trail k));
    })

-- agent 1's verdict is as it was, and so is the number of its snapshot
pub record IsSameVerdict (first later : AgentRecord) : Type 0 where
  pub verdict : given_verdict later ≡ given_verdict first
  pub number : later.snapshot.number ≡ first.snapshot.number

module _ (value : Values) (publics : ℕ) (tasks : List AgentTask) (are : AreTeamTasks tasks)
    (team : IsTeamOf publics tasks) (w next : World) (known : IsKnownWorld publics tasks w) (known_next : IsKnownWorld publics tasks next) (event : Event)
    (step : IsStepOf value w event next) (room : All (λ x. HasRoom x.message) step.step.out) where
  -- agent 1 after the event, where the event's agent keeps its verdict
  pub first_same : (agent_of event ≡ 1 → IsSameVerdict step.agent step.step.after) → (first : AgentRecord) → agent_at w 1 ≡ Some first
      → (later : AgentRecord) × (agent_at next 1 ≡ Some later) × IsSameVerdict first later
  first_same keeps first there = by (first_next value publics tasks team w known.team event next step first there)
    where
      by : (later : AgentRecord) × (agent_at next 1 ≡ Some later) × (((1 ≡ agent_of event) × (later ≡ step.step.after)) ⊎ ((1 ≡ agent_of event → ⊥) × (later ≡ first)))
          → (later : AgentRecord) × (agent_at next 1 ≡ Some later) × IsSameVerdict first later
      by (later, at, inl (here, is)) =
          let one : step.agent ≡ first = same_Some step.agent first (sym step.there ∙ sym (ap (agent_at w) here) ∙ there) in
          (later, at, subst (λ (x : AgentRecord). IsSameVerdict x later) one (subst (λ (x : AgentRecord). IsSameVerdict step.agent x) (sym is) (keeps (sym here))))
      by (later, at, inr (other, is)) = (later, at, record { verdict = ap given_verdict is; number = ap (λ (x : AgentRecord). x.snapshot.number) is })

  module _ (keeps : agent_of event ≡ 1 → IsSameVerdict step.agent step.step.after) (stage : Stage) (old : IsAt publics w stage)
      (goal : is_deciding (given_verdict old.first) ≡ true → step.step.after.goal ≡ step.agent.goal) where
    pub first_now : (later : AgentRecord) × (agent_at next 1 ≡ Some later) × IsSameVerdict old.first later
    first_now = first_same keeps old.first old.there

    proved_now : (plan : List TaskStep) → (p : IsProved w old.first plan) → (now : IsProved next first_now.0 plan) × (now.agent ≡ p.agent)
    proved_now plan p =
        proved_stays value publics tasks team w known.team event next step old.first first_now.0 plan first_now.2.verdict
        (goal (ap is_deciding p.verdict)) p

    pub verdict_now : (s : Stage) → VerdictAt w old.first s → VerdictAt next first_now.0 s
    verdict_now searching v = ap is_deciding first_now.2.verdict ∙ v
    verdict_now (without_plan kind) v = record { verdict = ap end_by first_now.2.verdict ∙ v.verdict; teller = ended_stays value publics tasks team w known.team event next step 1 v.teller }
    verdict_now (picking agent number plan) v =
        let p = proved_now plan v.proved in
        record { proved = p.0; agent_is = p.1 ∙ v.agent_is; other = v.other; number_is = v.number_is ∙ sym first_now.2.number }
    verdict_now (walking sender receiver sent earlier later) v = record {
      proved = (proved_now (earlier ++ later) v.proved).0;
      sender = agent_stays value publics tasks team w known.team event next step sender v.sender;
      apart = v.apart;
      next = leads_stays value publics tasks team w known.team event next step receiver sent earlier v.next;
    }
    verdict_now (over by_agent plan) v =
        record { proved = (proved_now plan v.proved).0; teller = ended_stays value publics tasks team w known.team event next step by_agent v.teller }

    module _ (calm : IsCalm step.agent step.step) (left_same : (i j : ℕ) → IsOf (length tasks) i → IsOf (length tasks) j
        → filter is_of_end (left value publics tasks team w known.team event next step i j) ≡ end_messages publics w i j) where
      -- the receiver goes on if it did
      was : (j : ℕ) (y : AgentRecord) → agent_at next j ≡ Some y → (x : AgentRecord) × (agent_at w j ≡ Some x) × (is_going y.ending ≡ is_going x.ending)
      was =
          each_agent value w event next step (λ j y. (x : AgentRecord) × (agent_at w j ≡ Some x) × (is_going y.ending ≡ is_going x.ending))
          (step.agent, step.there, ap is_going calm.ending)
          (λ j y there other. (y, there, refl))

      pub calm_comes : ComesTo publics tasks step.step.out next
      calm_comes =
          let fits = team_fits value publics tasks are team w next known known_next event step room
          (All-weaker IsNoEnd (λ (y : Outgoing). HasEndRoom y.message) (λ y other. no_end_has_room y.message other) step.step.out calm.out) in
          record {
            stage = stage;
            is = record {
              first = first_now.0;
              there = first_now.1;
              verdict = verdict_now stage old.verdict;
              agents =
                  each_agent value w event next step (λ i y. AgentAt stage y)
                  (agent_calm stage step.agent step.step calm (old.agents (agent_of event) step.agent step.there))
                  (λ i y there other. old.agents i y there);
              mail = λ i j y agent there.
                  let of_i = of_agent_next value publics tasks team w known.team event next step i agent in
                  let of_j = of_next value publics tasks team w known.team event next step j y there in
                  let before = was j y there in
                  ends_next value publics tasks team w known.team event next step fits i j of_i of_j
                  ∙ (λ k. left_same i j of_i of_j k ++ (if i == agent_of event then none_to step.step.out calm.out j k else []))
                  ∙ ap (λ ms. end_messages publics w i j ++ ms) (nothing (i == agent_of event))
                  ∙ append-nil (end_messages publics w i j)
                  ∙ old.mail i j before.0 (is_agent_of publics tasks team w (team_numbers publics tasks team w known.team) i of_i) before.1
                  ∙ ap (due stage i j) (sym before.2);
            };
            fits = fits;
          }
        where
          none : List Message
          none = []

          nothing : (b : Bool) → (if b then none else none) ≡ none
          nothing true = refl
          nothing false = refl
