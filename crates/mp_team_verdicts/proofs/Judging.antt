-- Agent 1 gives its verdict: the search goes on, it ends without a plan, or a proved plan is walked back.
use Rattle.mp_world.proofs.Basics.{◌≡◌, ℕ, ◌<◌, ◌^◌, Bool, true, false, ◌&&◌, List, [], ◌∷◌, ◌++◌, length, Option, Some, None, All, refl, sym, ap, subst, ◌∙◌, append-nil, inl, inr, IfSome, ◌==◌, filter, if◌then◌else◌, option_map_or, eqb-false, eqb-true, All-weaker}
use Rattle.mp_world.proofs.Basics.{same_Some}
use Rattle.mp_messages.specs.declared.message.EndKind.TheVariants as kinds
use Rattle.mp_snapshot.specs.declared.verdict.Verdict.TheVariants as verdicts
use Rattle.mp_machine.specs.declared.event.Ending.{Ending}
use Rattle.mp_machine.specs.declared.event.Ending.TheVariants as endings
use Rattle.mp_machine.specs.Snapshots.{by_verdict}
use Rattle.mp_world.specs.AgentWords.{AgentTask, TaskStep, Event, EndKind, Message, Done, Pick, Verdict, verdict, AgentRecord, given_verdict, is_going, Outgoing, Step, after_sending, others, to_each, to_one, without_messages, judged, ending_of, is_deciding, walked}
use Rattle.mp_world.specs.AgentWords.{walked_from_goal}
use Rattle.mp_world.specs.Events.{agent_of}
use Rattle.mp_world.specs.Steps.{IsStepOf}
use Rattle.mp_world.specs.Team.{AreTeamTasks}
use Rattle.mp_world.specs.Values.{Values}
use Rattle.mp_world.specs.World.{World, agent_at}
use Rattle.mp_world.proofs.Agents.{member_of}
use Rattle.mp_team_snapshots.specs.Snapshots.{one_if_due}
use Rattle.mp_team_snapshots.specs.Team.{HasRoom, IsTeamOf}
use Rattle.mp_team_snapshots.proofs.Changes.{left}
use Rattle.mp_team_snapshots.proofs.Consequences.{verdict_is_rule}
use Rattle.mp_team_snapshots.proofs.Protocol.{IsOf}
use Rattle.mp_team_states.specs.Paths.{IsPath}
use Rattle.mp_team_states.proofs.ReachedEntries.{entry_in}
use Rattle.mp_team_verdicts.specs.Ending.{EndsWithout, HasGoal, HasNoPart, IsProved, is_of_end, notes, end_by}
use Rattle.mp_team_verdicts.specs.Ending.Stage.{picking, searching, without_plan}
use Rattle.mp_team_verdicts.proofs.EndMessages.{HasNoEnds, IsNoEnd, none_to, one_end}
use Rattle.mp_team_verdicts.proofs.Fitting.{HasEndRoom, ends_next, no_end_has_room}
use Rattle.mp_team_states.proofs.EachAgent.{each_agent}
use Rattle.mp_team_verdicts.proofs.Frames.{IsKnownWorld, NotesItsGoal, me_before, of_agent_next, of_next}
use Rattle.mp_team_verdicts.proofs.NotesOfPlans.{notes_none}
use Rattle.mp_team_verdicts.proofs.Proving.{verdict_found}
use Rattle.mp_team_verdicts.proofs.EndSteps.{IsJudged, judged_keeps}
use Rattle.mp_team_verdicts.proofs.WalkOn.{ComesTo, all_told, one_told, team_fits, walk_comes}

-- the plan that is proved
pub record HasPlan (w : World) (first : AgentRecord) (agent : ℕ) : Type 0 where
  pub plan : List TaskStep
  pub proved : IsProved w first plan
  pub agent_is : proved.agent ≡ agent

-- a verdict that proves a plan has one
pub plan_there : (publics : ℕ) (tasks : List AgentTask) → IsTeamOf publics tasks → (w : World) → IsKnownWorld publics tasks w
    → ((i : ℕ) (r : AgentRecord) → agent_at w i ≡ Some r → NotesItsGoal r)
    → (first : AgentRecord) (agent cost : ℕ) → agent_at w 1 ≡ Some first → given_verdict first ≡ Some (verdicts.Proved agent cost) → HasPlan w first agent
plan_there publics tasks team w known goals first agent cost there given =
    let rule = verdict_is_rule publics tasks team w known.team known.in_runs.sound first (verdicts.Proved agent cost) there given in
    let found = verdict_found w.agents agent cost rule in
    let at : agent_at w agent ≡ Some found.who = ap (agent_at w) found.is ∙ found.there in
    let goal : (number : ℕ) × HasGoal found.who number cost =
    subst (λ (o : Option ℕ). IfSome o (λ cost. (number : ℕ) × HasGoal found.who number cost)) found.goal (goals agent found.who at) in
    let entry = goal.1.entry in
    let x = known.so_far.reached agent goal.0 entry (entry_in w agent goal.0 found.who entry at goal.1.at) in
    record {
      plan = x.steps;
      proved = record {
        agent = agent;
        cost = cost;
        verdict = given;
        picked = found.who;
        there = at;
        number = goal.0;
        goal = goal.1;
        path = x.path;
      };
      agent_is = refl;
    }

module _ (value : Values) (publics : ℕ) (tasks : List AgentTask) (are : AreTeamTasks tasks)
    (team : IsTeamOf publics tasks) (w next : World) (known : IsKnownWorld publics tasks w) (known_next : IsKnownWorld publics tasks next) (event : Event)
    (step : IsStepOf value w event next) (room : All (λ x. HasRoom x.message) step.step.out)
    (goals_next : (i : ℕ) (r : AgentRecord) → agent_at next i ≡ Some r → NotesItsGoal r)
    (judges : IsJudged step.agent step.step) (agents : (i : ℕ) (r : AgentRecord) → agent_at w i ≡ Some r → HasNoPart r)
    (none : (i j : ℕ) → IsOf (length tasks) i → IsOf (length tasks) j → filter is_of_end (left value publics tasks team w known.team event next step i j) ≡ []) where
  b_is : agent_of event ≡ 1
  b_is = sym (me_before value publics tasks team w known.team event next step (agent_of event) step.agent step.there) ∙ judges.me

  me_is : judges.before.task.me ≡ 1
  me_is = ap (λ (t : AgentTask). t.me) judges.task ∙ judges.me

  one_there : agent_at next 1 ≡ Some step.step.after
  one_there = subst (λ (i : ℕ). agent_at next i ≡ Some step.step.after) b_is step.after

  idle : HasNoPart step.agent
  idle = agents (agent_of event) step.agent step.there

  -- the agent itself, before its verdict
  idle_before : HasNoPart judges.before
  idle_before = record {
    walked = record {
      trail = judges.trail ∙ idle.walked.trail ∙ ap (λ (t : AgentTask). notes t.me []) (sym judges.task);
      going = ap is_going judges.ending ∙ idle.walked.going;
    };
    picked = judges.picked ∙ idle.picked;
  }

  first_room : All (λ y. HasEndRoom y.message) judges.first
  first_room = All-weaker IsNoEnd (λ (y : Outgoing). HasEndRoom y.message) (λ y other. no_end_has_room y.message other) judges.first judges.silent

  -- the verdict leaves the snapshot as it is
  verdict_after : given_verdict step.step.after ≡ given_verdict judges.before
  verdict_after =
      let keeps = judged_keeps judges.before in
      ap (λ (s : Step). given_verdict s.after) (sym judges.is) ∙ (λ k. if (keeps.task k).me == 1 then verdict (keeps.snapshot k) else None)

  -- the search goes on
  goes_on : after_sending judges.first (without_messages judges.before) ≡ step.step → is_deciding (given_verdict judges.before) ≡ false
      → ComesTo publics tasks step.step.out next
  goes_on is undecided =
      let out_is : step.step.out ≡ judges.first = ap (λ (s : Step). s.out) (sym is) ∙ append-nil judges.first in
      let after : step.step.after ≡ judges.before = ap (λ (s : Step). s.after) (sym is) in
      let silent : HasNoEnds step.step.out = subst HasNoEnds (sym out_is) judges.silent in
      let fits = team_fits value publics tasks are team w next known known_next event step room (subst (λ (out : List Outgoing). All (λ y. HasEndRoom y.message) out) (sym out_is) first_room) in
      record {
        stage = searching;
        is = record {
          first = step.step.after;
          there = one_there;
          verdict = ap is_deciding verdict_after ∙ undecided;
          agents = each_agent value w event next step (λ i y. HasNoPart y) (subst HasNoPart (sym after) idle_before) (λ i y there other. agents i y there);
          mail = λ i j y agent there.
              let of_i = of_agent_next value publics tasks team w known.team event next step i agent in
              let of_j = of_next value publics tasks team w known.team event next step j y there in
              ends_next value publics tasks team w known.team event next step fits i j of_i of_j
              ∙ (λ k. none i j of_i of_j k ++ (if i == agent_of event then none_to step.step.out silent j k else []))
              ∙ nothing (i == agent_of event);
        };
        fits = fits;
      }
    where
      no_messages : List Message
      no_messages = []

      nothing : (b : Bool) → no_messages ++ (if b then no_messages else no_messages) ≡ no_messages
      nothing true = refl
      nothing false = refl

  -- the search ends without a plan
  ends_without : (kind : EndKind) (ended : Ending) → ended ≡ ending_of kind → is_going ended ≡ false
      → after_sending judges.first (record { out = to_each (others judges.before.task.me judges.before.task.agents) (Done kind); after = record judges.before { ending = ended } }) ≡ step.step
      → end_by (given_verdict judges.before) ≡ Some kind → ComesTo publics tasks step.step.out next
  ends_without kind ended ended_is stopped is decided =
      let after : step.step.after ≡ record judges.before { ending = ended } = ap (λ (s : Step). s.after) (sym is) in
      let agents_is = ap (λ (t : AgentTask). t.agents) judges.task ∙ (member_of tasks team.numbered w known.team (agent_of event) step.agent step.there).agents in
      let over_now = ap (λ (y : AgentRecord). is_going y.ending) after ∙ stopped in
      all_told value publics tasks are team w next known known_next event step room judges.first judges.silent none step.step.after one_there
      (without_plan kind) (Done kind) tt
      (record { verdict = ap end_by verdict_after ∙ decided; teller = record { who = step.step.after; there = one_there; ended = over_now } })
      (subst (EndsWithout kind) (sym after)
      (record { trail = idle_before.walked.trail ∙ notes_none judges.before.task.me; picked = idle_before.picked; ending = inr ended_is }))
      (λ i y there other. record {
        trail = (agents i y there).walked.trail ∙ notes_none y.task.me;
        picked = (agents i y there).picked;
        ending = inl (agents i y there).walked.going;
      })
      judges.before.task (me_is ∙ sym b_is) agents_is refl (ap (λ (s : Step). s.out) (sym is)) over_now
      (λ i y there other. (agents i y there).walked.going) (λ i j g k. one_if_due (i == b_is k && g) (Done kind))

  -- another agent is picked
  picks : (agent cost : ℕ) → given_verdict judges.before ≡ Some (verdicts.Proved agent cost) → (agent == judges.before.task.me) ≡ false
      → after_sending judges.first (record { out = to_one agent (Pick judges.before.snapshot.number); after = judges.before }) ≡ step.step → ComesTo publics tasks step.step.out next
  picks agent cost given other is =
      let number = judges.before.snapshot.number in
      let after : step.step.after ≡ judges.before = ap (λ (s : Step). s.after) (sym is) in
      let small : number < 2 ^ 60 = subst (λ (r : AgentRecord). r.snapshot.number < 2 ^ 60) after (known_next.in_runs.room 1 step.step.after one_there).number in
      let has = plan_there publics tasks team next known_next goals_next step.step.after agent cost one_there (verdict_after ∙ given) in
      one_told value publics tasks are team w next known known_next event step room judges.first judges.silent none step.step.after one_there
      (picking agent number has.plan) (Pick number) small
      (record {
        proved = has.proved;
        agent_is = has.agent_is;
        other = λ same. eqb-false agent judges.before.task.me other (same ∙ sym me_is);
        number_is = ap (λ (r : AgentRecord). r.snapshot.number) (sym after);
      })
      (subst HasNoPart (sym after) idle_before) (λ i y there other. agents i y there)
      (agent ∷ []) (λ j. agent == j) (ap (λ (s : Step). s.out) (sym is)) (λ j is_j. one_end agent (Pick number) refl j)
      (λ i j y there k. one_if_due (i == b_is k && agent == j) (Pick number))

  -- agent 1 walks back itself
  walks : (agent cost : ℕ) → given_verdict judges.before ≡ Some (verdicts.Proved agent cost) → (agent == judges.before.task.me) ≡ true
      → after_sending judges.first (walked_from_goal judges.before) ≡ step.step → ComesTo publics tasks step.step.out next
  walks agent cost given same is =
      let has = plan_there publics tasks team next known_next goals_next step.step.after agent cost one_there (verdict_after ∙ given) in
      let p = has.proved in
      let agent_is : p.agent ≡ agent_of event = has.agent_is ∙ eqb-true agent judges.before.task.me same ∙ me_is ∙ sym b_is in
      let who : p.picked ≡ step.step.after = same_Some p.picked step.step.after (sym p.there ∙ ap (agent_at next) agent_is ∙ step.after) in
      let keeps = judged_keeps judges.before in
      let goal : judges.before.goal ≡ Some p.number =
      sym keeps.goal ∙ ap (λ (s : Step). s.after.goal) judges.is ∙ ap (λ (r : AgentRecord). r.goal) (sym who) ∙ p.goal.noted in
      let starts : after_sending judges.first (walked judges.before p.number 0) ≡ step.step =
      ap (λ (o : Option ℕ). after_sending judges.first (option_map_or (λ entry. walked judges.before entry 0) o (without_messages judges.before))) (sym goal) ∙ is in
      walk_comes value publics tasks are team w next known known_next event step room judges.before p.number has.plan [] judges.first judges.silent
      starts judges.task (idle_before.walked.trail ∙ notes_none judges.before.task.me ∙ sym (notes_none (agent_of event))) idle_before.walked.going
      (λ i x there other. (agents i x there).walked) none step.step.after one_there
      (subst (IsProved next step.step.after) (sym (append-nil has.plan)) p)
      (subst (λ (a : ℕ). IsPath next a p.number has.plan) agent_is p.path)

  pub judged_comes : ComesTo publics tasks step.step.out next
  unfolding judged
  judged_comes = by (given_verdict judges.before) refl judges.is
    where
      by : (o : Option Verdict) → given_verdict judges.before ≡ o
          → after_sending judges.first (option_map_or (by_verdict judges.before) o (without_messages judges.before)) ≡ step.step → ComesTo publics tasks step.step.out next
      by None given is = goes_on is (ap is_deciding given)
      by (Some verdicts.Continue) given is = goes_on is (ap is_deciding given)
      by (Some verdicts.NoPlan) given is = ends_without kinds.NoPlan endings.NoPlan refl refl is (ap end_by given)
      by (Some (verdicts.Spent agent)) given is = ends_without kinds.Spent endings.Spent refl refl is (ap end_by given)
      by (Some (verdicts.Proved agent cost)) given is = to (agent == judges.before.task.me) refl is
        where
          to : (test : Bool) → (agent == judges.before.task.me) ≡ test
              → after_sending judges.first (if test then walked_from_goal judges.before else (record { out = to_one agent (Pick judges.before.snapshot.number); after = judges.before })) ≡ step.step
              → ComesTo publics tasks step.step.out next
          to true test is = walks agent cost given test is
          to false test is = picks agent cost given test is
