-- What becomes of the end of the search where an agent takes a pick, a trace, a length or an end without a plan.
use Rattle.mp_world.proofs.Basics.{◌≡◌, ℕ, Bool, true, false, ◌&&◌, List, [], length, Option, Some, All, refl, sym, ap, subst, ◌∙◌, append-nil, inr, IsSomeAnd, Ok, Err, ◌==◌, filter, not, option_map_or, eq-eqb, same_Some}
use Rattle.mp_messages.specs.declared.message.EndKind.TheVariants as kinds
use Rattle.mp_world.specs.AgentWords.{AgentTask, TaskStep, Take, EndKind, Message, Pick, Trace, Length, Done, message_of, StrangeDone, StrangeLength, StrangePick, StrangeTrace, AgentRecord, is_going, Step, without_messages, ending_of, is_strange_length}
use Rattle.mp_world.specs.AgentWords.{is_strange_pick, is_strange_trace, took_message, traced, solved, walked, walked_from_goal}
use Rattle.mp_world.specs.SearchWords.{sent_entry}
use Rattle.mp_world.specs.Events.{taken}
use Rattle.mp_world.specs.Steps.{IsStepOf}
use Rattle.mp_world.specs.Team.{AreTeamTasks}
use Rattle.mp_world.specs.Values.{Values}
use Rattle.mp_world.specs.World.{World, agent_at}
use Rattle.mp_world.proofs.LocalCases.{good_step}
use Rattle.mp_team_snapshots.specs.Snapshots.{one_if_due}
use Rattle.mp_team_snapshots.specs.Team.{HasRoom, IsTeamOf}
use Rattle.mp_team_snapshots.proofs.Changes.{left}
use Rattle.mp_team_states.specs.Paths.{IsPath, IsSentAt}
use Rattle.mp_team_verdicts.specs.Ending.{AgentAt, IsAt, IsProved, Stage, due, is_of_end}
use Rattle.mp_team_verdicts.specs.Ending.Stage.{over, picking, walking, without_plan}
use Rattle.mp_team_verdicts.proofs.Calmly.{IsSameVerdict, first_now, verdict_now}
use Rattle.mp_team_states.proofs.EachAgent.{each_agent}
use Rattle.mp_team_verdicts.proofs.Frames.{IsKnownWorld}
use Rattle.mp_team_verdicts.proofs.TakingEnds.{due_holds, due_is, fits_all, mail_now, none_left, walks_on}
use Rattle.mp_team_verdicts.proofs.WalkOn.{ComesTo}

-- the entry of a sent number
pub sent_is : (w : World) (b sent number : ℕ) (r : AgentRecord) → agent_at w b ≡ Some r → IsSentAt w b sent number → sent_entry sent r.search.kept ≡ Some number
sent_is w b sent number r there is = subst (λ (o : Option AgentRecord). IsSomeAnd o (λ r. sent_entry sent r.search.kept ≡ Some number)) there is

pub ended_kind : (kind : EndKind) → is_going (ending_of kind) ≡ false
ended_kind kinds.NoPlan = refl
ended_kind kinds.Spent = refl

module _ (value : Values) (publics : ℕ) (tasks : List AgentTask) (are : AreTeamTasks tasks)
    (team : IsTeamOf publics tasks) (w next : World) (known : IsKnownWorld publics tasks w) (known_next : IsKnownWorld publics tasks next) (b a : ℕ)
    (step : IsStepOf value w (Take b a) next) (room : All (λ x. HasRoom x.message) step.step.out) where
  abbrev Comes : Type 0
  Comes = ComesTo publics tasks step.step.out next

  abbrev rest : ℕ → ℕ → List Message
  rest i j = filter is_of_end (left value publics tasks team w known.team (Take b a) next step i j)

  abbrev Reads : Message → Type 0
  Reads m = message_of step.agent.task.agents step.agent.task.publics (taken w (Take b a)) ≡ Some m

  -- at a stage, the agent that takes a message leads the end on
  abbrev Leads : Stage → Message → Type 0
  Leads stage m = IsAt publics w stage → Reads m → took_message (value step.agent.task) step.agent a m ≡ Ok step.step → Comes

  picks : (agent number : ℕ) (plan : List TaskStep) → a ≡ 1 → agent ≡ b → rest a b ≡ [] → Leads (picking agent number plan) (Pick number)
  picks agent number plan a_is b_is none old read took =
      let stage = picking agent number plan in
      let r = step.agent in
      let after : AgentRecord = record r { picked = true } in
      let p = old.verdict.proved in
      let agent_is : p.agent ≡ b = old.verdict.agent_is ∙ b_is in
      let who : p.picked ≡ r = same_Some p.picked r (sym p.there ∙ ap (agent_at w) agent_is ∙ step.there) in
      let goal : r.goal ≡ Some p.number = ap (λ (x : AgentRecord). x.goal) (sym who) ∙ p.goal.noted in
      let good = good_step (is_strange_pick r a number) StrangePick (walked_from_goal after) step.step took in
      let is : walked after p.number 0 ≡ step.step =
      ap (λ (o : Option ℕ). option_map_or (λ entry. walked after entry 0) o (without_messages after)) (sym goal) ∙ good.1 in
      walks_on value publics tasks are team w next known known_next b a step room stage old after refl refl refl refl refl p.number plan [] is
      (λ i x there. (old.agents i x there).walked)
      (none_left value publics tasks are team w next known known_next b a step room stage old (Pick number) read refl (Pick number)
      (λ i j g k. one_if_due (i == sym a_is k && b_is k == j) (Pick number)) none)
      (subst (IsProved w old.first) (sym (append-nil plan)) p)
      (subst (λ (k : ℕ). IsPath w k p.number plan) agent_is p.path)

  traces : (sender receiver sent : ℕ) (earlier later : List TaskStep) → a ≡ sender → receiver ≡ b → rest a b ≡ []
      → Leads (walking sender receiver sent earlier later) (Trace sent (length later))
  traces sender receiver sent earlier later a_is b_is none old read took =
      let stage = walking sender receiver sent earlier later in
      let m = Trace sent (length later) in
      let r = step.agent in
      let leads = old.verdict.next in
      let given = subst (λ (k : ℕ). IsSentAt w k sent leads.number) b_is leads.given in
      let entry = sent_is w b sent leads.number r step.there given in
      let now : traced r (length later) leads.number ≡ Ok step.step =
      ap (λ (o : Option ℕ). option_map_or (traced r (length later)) o (Err StrangeTrace)) (sym entry) ∙ took in
      let good = good_step (is_strange_trace r leads.number (length later)) StrangeTrace (walked r leads.number (length later)) step.step now in
      walks_on value publics tasks are team w next known known_next b a step room stage old r refl refl refl refl refl leads.number earlier later
      good.1 (λ i x there. old.agents i x there)
      (none_left value publics tasks are team w next known known_next b a step room stage old m read refl m
      (λ i j g k. one_if_due (i == sym a_is k && b_is k == j) m) none)
      old.verdict.proved (subst (λ (k : ℕ). IsPath w k leads.number earlier) b_is leads.path)

  -- the agent is told of the end, and the others go on as before
  end_taken : (stage : Stage) (m : Message) (teller : ℕ) → ((i j : ℕ) (g : Bool) → due stage i j g ≡ one_if_due (i == teller && g) m) → is_of_end m ≡ true
      → a ≡ teller → rest a b ≡ [] → (old : IsAt publics w stage) → Reads m → (after : AgentRecord) → without_messages after ≡ step.step
      → IsSameVerdict step.agent after → after.goal ≡ step.agent.goal → is_going after.ending ≡ false → AgentAt stage after → Comes
  end_taken stage m teller all is_end a_is none old read after is keeps goal ended mine =
      let same : after ≡ step.step.after = ap (λ (s : Step). s.after) is in
      let silent : [] ≡ step.step.out = ap (λ (s : Step). s.out) is in
      let over_now : is_going step.step.after.ending ≡ false = subst (λ (x : AgentRecord). is_going x.ending ≡ false) same ended in
      let kept = subst (IsSameVerdict step.agent) same keeps in
      let goal_now = subst (λ (x : AgentRecord). x.goal ≡ step.agent.goal) same goal in
      let one = first_now value publics tasks are team w next known known_next (Take b a) step room (λ e. kept) stage old (λ decided. goal_now) in
      record {
        stage = stage;
        is = record {
          first = one.0;
          there = one.1;
          verdict =
              verdict_now value publics tasks are team w next known known_next (Take b a) step room (λ e. kept) stage old
              (λ decided. goal_now) stage old.verdict;
          agents =
              each_agent value w (Take b a) next step (λ i y. AgentAt stage y) (subst (AgentAt stage) same mine)
              (λ i y there other. old.agents i y there);
          mail =
              mail_now value publics tasks are team w next known known_next b a step room stage old m read is_end m teller all
              (eq-eqb a teller a_is) none (sym silent) over_now;
        };
        fits =
            fits_all value publics tasks are team w next known known_next b a step room stage old m read is_end m teller all
            (eq-eqb a teller a_is) none (sym silent) over_now;
      }

  pub end_comes : (stage : Stage) (m : Message) → is_of_end m ≡ true → Leads stage m
  end_comes stage m is_end old read took =
      due_holds a b true (rest a b) Leads (record {
        done = λ kind first none old read took.
            let after : AgentRecord = record step.agent { ending = ending_of kind } in
            let good = good_step (not (a == 1)) StrangeDone (without_messages after) step.step took in
            let mine = old.agents b step.agent step.there in
            end_taken (without_plan kind) (Done kind) 1 (λ i j g. refl) refl first none old read after good.1 (record { verdict = refl; number = refl }) refl
            (ended_kind kind) (record { trail = mine.trail; picked = mine.picked; ending = inr refl });
        pick = picks;
        trace = traces;
        length = λ teller plan first none old read took.
            let after = solved step.agent (length plan) in
            let good = good_step (is_strange_length step.agent (length plan)) StrangeLength (without_messages after) step.step took in
            end_taken (over teller plan) (Length (length plan)) teller (λ i j g. refl) refl first none old read after good.1
            (record { verdict = refl; number = refl }) refl refl
            (record { trail = (old.agents b step.agent step.there).trail; ending = inr (record { ending = refl; share = refl }) });
      }) stage m (due_is value publics tasks are team w next known known_next b a step room stage old m read is_end) old read took
