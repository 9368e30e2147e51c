-- An agent walks the plan back: the walk goes on over a trace, or it is over.
use Rattle.mp_world.proofs.Basics.{◌≡◌, ◌≢◌, ℕ, ◌+◌, ◌≤◌, ◌<◌, ◌^◌, Bool, true, false, ◌&&◌, List, [], ◌∷◌, ◌++◌, length, Some, All, refl, sym, ap, subst, ◌∙◌, append_assoc, arith, inl, inr, ◌==◌, filter, if◌then◌else◌, not, eq-eqb, eqb-true, false_from_ne_true}
use Rattle.mp_world.proofs.Basics.{length-append, All-contains, All-weaker}
use Rattle.mp_trail.specs.declared.steps.Walked.TheVariants.{Root}
use Rattle.mp_trail.specs.Walk.{Walk}
use Rattle.mp_machine.specs.declared.event.Ending.TheVariants.{Solved}
use Rattle.mp_world.specs.AgentWords.{AgentTask, TaskStep, Event, Message, Trace, Length, Noted, Walked, Hop, share, walk, AgentRecord, is_going, Outgoing, Step, after_sending, others, to_each, to_one, to_others, arrived, solved, walked}
use Rattle.mp_world.specs.SearchWords.{SearchRecord}
use Rattle.mp_world.specs.Events.{agent_of}
use Rattle.mp_world.specs.Steps.{IsStepOf}
use Rattle.mp_world.specs.Team.{AreTeamTasks}
use Rattle.mp_world.specs.Values.{Values}
use Rattle.mp_world.specs.World.{World, agent_at}
use Rattle.mp_world.proofs.Agents.{member_of}
use Rattle.mp_world.proofs.LocalCases.{both_such, each_such}
use Rattle.mp_world.proofs.Mail.{agent_of_team}
use Rattle.mp_team_snapshots.specs.Snapshots.{one_if_due}
use Rattle.mp_team_snapshots.specs.Team.{HasRoom, IsTeamOf}
use Rattle.mp_team_snapshots.proofs.Changes.{left}
use Rattle.mp_team_snapshots.proofs.Protocol.{IsOf}
use Rattle.mp_team_snapshots.proofs.Worlds.{team_numbers}
use Rattle.mp_team_states.specs.Paths.{IsPath, IsSentAt}
use Rattle.mp_team_states.specs.Walks.{WalksAlong}
use Rattle.mp_team_states.proofs.RoomCounts.{few_expansions}
use Rattle.mp_team_states.proofs.StepsSound.{records_sound}
use Rattle.mp_team_states.proofs.WalkingPaths.{walk_along}
use Rattle.mp_team_verdicts.specs.Ending.{AgentAt, EndsWith, HasWalked, IsAt, IsProved, Stage, VerdictAt, due, end_messages, is_of_end, notes}
use Rattle.mp_team_verdicts.specs.Ending.Stage.{over, walking}
use Rattle.mp_team_verdicts.proofs.EndMessages.{HasNoEnds, IsNoEnd, due_both, ends_behind, ends_to, one_end, others_end}
use Rattle.mp_team_verdicts.proofs.Fitting.{AllFit, HasEndRoom, ends_next, no_end_has_room, step_fits}
use Rattle.mp_team_states.proofs.EachAgent.{each_agent}
use Rattle.mp_team_verdicts.proofs.Frames.{IsKnownWorld, me_before, of_agent_next, of_next}
use Rattle.mp_team_verdicts.proofs.Heard.{EndsElsewhere, walk_elsewhere}
use Rattle.mp_team_verdicts.proofs.NotesOfPlans.{notes_other, notes_own}
use Rattle.mp_team_verdicts.proofs.OneEntry.{sent_small}
use Rattle.mp_team_verdicts.proofs.EndSteps.{walked_keeps}

-- after a step: where the end has come, and that what went out has room
pub record ComesTo (publics : ℕ) (tasks : List AgentTask) (out : List Outgoing) (next : World) : Type 0 where
  pub stage : Stage
  pub is : IsAt publics next stage
  pub fits : AllFit (length tasks) publics out

module _ (value : Values) (publics : ℕ) (tasks : List AgentTask) (are : AreTeamTasks tasks)
    (team : IsTeamOf publics tasks) (w next : World) (known : IsKnownWorld publics tasks w) (known_next : IsKnownWorld publics tasks next) (event : Event)
    (step : IsStepOf value w event next) (room : All (λ x. HasRoom x.message) step.step.out) where
  abbrev b : ℕ
  b = agent_of event

  -- the messages of the team fit
  pub team_fits : All (λ x. HasEndRoom x.message) step.step.out → AllFit (length tasks) publics step.step.out
  team_fits end =
      let of = member_of tasks team.numbered w known.team b step.agent step.there in
      let alike = All-contains (λ t. t.publics ≡ publics) tasks step.agent.task team.alike of.task in
      let agents = of.agents in
      subst (λ (n : ℕ). AllFit n publics step.step.out) agents
      (subst (λ (n : ℕ). AllFit step.agent.task.agents n step.step.out) alike
      (step_fits tasks are w known.team known.so_far.sound value next event step room end))

  -- a step after which messages of the end have gone out alone, where none was left
  pub ends_are : AllFit (length tasks) publics step.step.out
      → ((i j : ℕ) → IsOf (length tasks) i → IsOf (length tasks) j → filter is_of_end (left value publics tasks team w known.team event next step i j) ≡ [])
      → (m : Message) (q : ℕ → Bool) → ((j : ℕ) → IsOf (length tasks) j → ends_to j step.step.out ≡ one_if_due (q j) m)
      → (i j : ℕ) → IsOf (length tasks) i → IsOf (length tasks) j → end_messages publics next i j ≡ one_if_due (i == b && q j) m
  ends_are fits none m q sent i j is_i is_j =
      ends_next value publics tasks team w known.team event next step fits i j is_i is_j
      ∙ (λ k. none i j is_i is_j k ++ (if i == b then sent j is_j k else []))
      ∙ due_both (i == b) (q j) m

  -- Messages that are none of the end go out, and then one of the end, which is all that is due at the stage that is come to.
  module _ (first : List Outgoing) (silent : HasNoEnds first)
      (none : (i j : ℕ) → IsOf (length tasks) i → IsOf (length tasks) j → filter is_of_end (left value publics tasks team w known.team event next step i j) ≡ [])
      (one : AgentRecord) (one_there : agent_at next 1 ≡ Some one) (stage : Stage) (m : Message) (small : HasEndRoom m)
      (verdict : VerdictAt next one stage) (mine : AgentAt stage step.step.after)
      (rest : (i : ℕ) (y : AgentRecord) → agent_at w i ≡ Some y → i ≢ b → AgentAt stage y) where
    pub one_told : (to : List ℕ) (q : ℕ → Bool) → step.step.out ≡ first ++ to_each to m
        → ((j : ℕ) → IsOf (length tasks) j → ends_to j (to_each to m) ≡ one_if_due (q j) m)
        → ((i j : ℕ) (y : AgentRecord) → agent_at next j ≡ Some y → one_if_due (i == b && q j) m ≡ due stage i j (is_going y.ending))
        → ComesTo publics tasks step.step.out next
    one_told to q out_is sent is_due =
        let fits = team_fits (subst (λ (out : List Outgoing). All (λ y. HasEndRoom y.message) out) (sym out_is)
        (both_such HasEndRoom first (to_each to m)
        (All-weaker IsNoEnd (λ (y : Outgoing). HasEndRoom y.message) (λ y other. no_end_has_room y.message other) first silent)
        (each_such HasEndRoom m small to))) in
        record {
          stage = stage;
          is = record {
            first = one;
            there = one_there;
            verdict = verdict;
            agents = each_agent value w event next step (λ i y. AgentAt stage y) mine rest;
            mail = λ i j y agent there.
                ends_are fits none m q (λ j is_j. ap (ends_to j) out_is ∙ ends_behind j first (to_each to m) silent ∙ sent j is_j) i j
                (of_agent_next value publics tasks team w known.team event next step i agent)
                (of_next value publics tasks team w known.team event next step j y there)
                ∙ is_due i j y there;
          };
          fits = fits;
        }

    -- all others are told, and the agent has ended
    pub all_told : (t : AgentTask) → t.me ≡ b → t.agents ≡ length tasks → is_of_end m ≡ true → step.step.out ≡ first ++ to_others t m
        → is_going step.step.after.ending ≡ false → ((i : ℕ) (y : AgentRecord) → agent_at w i ≡ Some y → i ≢ b → is_going y.ending ≡ true)
        → ((i j : ℕ) (g : Bool) → one_if_due (i == b && g) m ≡ due stage i j g) → ComesTo publics tasks step.step.out next
    all_told t me agents is_end out_is ended going is_due =
        one_told (others t.me t.agents) (λ j. not (j == t.me)) out_is
        (λ j is_j. others_end m t.me t.agents j is_end is_j.from_1 (subst (λ (k : ℕ). j ≤ k) (sym agents) is_j.at_most))
        (λ i j y there. ap (λ (g : Bool). one_if_due (i == b && g) m) (going_is j y there) ∙ is_due i j (is_going y.ending))
      where
        going_is : (j : ℕ) (y : AgentRecord) → agent_at next j ≡ Some y → not (j == t.me) ≡ is_going y.ending
        going_is =
            each_agent value w event next step (λ j y. not (j == t.me) ≡ is_going y.ending) (ap not (eq-eqb b t.me (sym me)) ∙ sym ended)
            (λ j y there other. ap not (false_from_ne_true (j == t.me) (λ same. other (eqb-true j t.me same ∙ me))) ∙ sym (going j y there other))

  module _ (r : AgentRecord) (entry : ℕ) (earlier later : List TaskStep) (first : List Outgoing) (silent : HasNoEnds first)
      (is : after_sending first (walked r entry (length later)) ≡ step.step)
      (me : r.task ≡ step.agent.task) (trail : r.trail ≡ notes b later) (going : is_going r.ending ≡ true)
      (others_walked : (i : ℕ) (x : AgentRecord) → agent_at w i ≡ Some x → i ≢ b → HasWalked later x)
      (none : (i j : ℕ) → IsOf (length tasks) i → IsOf (length tasks) j → filter is_of_end (left value publics tasks team w known.team event next step i j) ≡ [])
      (one : AgentRecord) (one_there : agent_at next 1 ≡ Some one) (proved : IsProved next one (earlier ++ later)) (path : IsPath next b entry earlier) where
    me_is : r.task.me ≡ b
    me_is = ap (λ (t : AgentTask). t.me) me ∙ me_before value publics tasks team w known.team event next step b step.agent step.there

    agents_is : r.task.agents ≡ length tasks
    agents_is = ap (λ (t : AgentTask). t.agents) me ∙ (member_of tasks team.numbered w known.team b step.agent step.there).agents

    short : length (earlier ++ later) < 2 ^ 60
    short =
        let few = known_next.so_far.short proved.agent proved.number (earlier ++ later) proved.path in
        let most = few_expansions tasks are next known_next.team known_next.so_far.sound in
        omega arith

    -- the walk of the agent, as it is after the step
    wk : Walk
    wk = walk r.search.kept entry (length later)

    along : WalksAlong next b (length later) earlier wk
    unfolding wk
    along =
        let keeps = walked_keeps r entry (length later) in
        let search : step.step.after.search ≡ r.search = ap (λ (s : Step). s.after.search) (sym is) ∙ keeps.search in
        subst (λ (x : SearchRecord). WalksAlong next b (length later) earlier (walk x.kept entry (length later))) search
        (walk_along next (records_sound tasks are next known_next.team known_next.so_far.sound) b step.step.after step.after entry (length later) earlier path)

    module _ (noted : List Noted) (end : Walked) (x : WalksAlong next b (length later) earlier (record { noted = noted; end = end }))
        (now : after_sending first (arrived (record r { trail = r.trail ++ noted }) end) ≡ step.step) where
      -- the own steps that are walked
      own_later : List TaskStep
      own_later = x.own ++ later

      trail_after : r.trail ++ noted ≡ notes b own_later
      unfolding own_later
      trail_after = (λ k. trail k ++ x.noted k) ∙ sym (notes_own b x.own later x.agents)

      trail_other : (i : ℕ) (y : AgentRecord) → agent_at w i ≡ Some y → i ≢ b → y.trail ≡ notes y.task.me own_later
      unfolding own_later
      trail_other i y there other =
          let mine = me_before value publics tasks team w known.team event next step i y there in
          (others_walked i y there other).trail ∙ sym (notes_other b y.task.me x.own later x.agents (λ same. other (sym mine ∙ same)))

      out_is : step.step.out ≡ first ++ (arrived (record r { trail = r.trail ++ noted }) end).out
      out_is = ap (λ (s : Step). s.out) (sym now)

      after_is : step.step.after ≡ (arrived (record r { trail = r.trail ++ noted }) end).after
      after_is = ap (λ (s : Step). s.after) (sym now)

    -- at the initial state
    at_root : (noted : List Noted) (n : ℕ) (x : WalksAlong next b (length later) earlier (record { noted = noted; end = Root n }))
        → after_sending first (arrived (record r { trail = r.trail ++ noted }) (Root n)) ≡ step.step → ComesTo publics tasks step.step.out next
    unfolding own_later
    at_root noted n x now =
        let whole : earlier ≡ x.own = x.parts ∙ ap (λ (xs : List TaskStep). xs ++ x.own) x.end.0 in
        let count = x.end.1 in
        let own_long = ap length whole in
        let all_long = length-append earlier later in
        let long : n ≡ length (earlier ++ later) = omega arith in
        by (earlier ++ later) (ap (λ (xs : List TaskStep). xs ++ later) (sym whole)) long proved short
      where
        last : AgentRecord
        last = solved (record r { trail = r.trail ++ noted }) n

        after : step.step.after ≡ last
        after = after_is noted (Root n) x now

        by : (plan : List TaskStep) → x.own ++ later ≡ plan → n ≡ length plan → IsProved next one plan → length plan < 2 ^ 60
            → ComesTo publics tasks step.step.out next
        by plan same long proved_plan small =
            let ended = ap (λ (y : AgentRecord). is_going y.ending) after in
            all_told first silent none one one_there (over b plan) (Length (length plan)) small
            (record { proved = proved_plan; teller = record { who = step.step.after; there = step.after; ended = ended } })
            (subst (EndsWith plan) (sym after)
            (record {
              trail = trail_after noted (Root n) x now ∙ ap (notes b) same ∙ ap (λ (i : ℕ). notes i plan) (sym me_is);
              ending = inr (record { ending = ap (λ (k : ℕ). Solved k) long; share = ap (λ (k : ℕ). share k (r.trail ++ noted)) long });
            }))
            (λ i y there other. record {
              trail = trail_other noted (Root n) x now i y there other ∙ ap (notes y.task.me) same;
              ending = inl (others_walked i y there other).going;
            })
            r.task me_is agents_is refl (out_is noted (Root n) x now ∙ (λ k. first ++ to_others r.task (Length (long k)))) ended
            (λ i y there other. (others_walked i y there other).going) (λ i j g. refl)

    -- at a state that another agent sent
    at_hop : (noted : List Noted) (sender sent n : ℕ) (x : WalksAlong next b (length later) earlier (record { noted = noted; end = Hop sender sent n }))
        → after_sending first (arrived (record r { trail = r.trail ++ noted }) (Hop sender sent n)) ≡ step.step → sender ≢ b → ComesTo publics tasks step.step.out next
    unfolding own_later
    at_hop noted sender sent n x now elsewhere = by x.end.0 x.end.1 x.end.2 x.end.3
      where
        last : AgentRecord
        last = record r { trail = r.trail ++ noted }

        after : step.step.after ≡ last
        after = after_is noted (Hop sender sent n) x now

        by : (number : ℕ) → IsSentAt next sender sent number → IsPath next sender number x.earlier → n ≡ length later + length x.own → ComesTo publics tasks step.step.out next
        by number given path_there count =
            let own_long = length-append x.own later in
            let long : n ≡ length (x.own ++ later) = omega arith in
            let parts = ap length x.parts in
            let parts_long = length-append x.earlier x.own in
            let all_long = length-append earlier later in
            let most = short in
            let small = sent_small tasks are next known_next.team known_next.so_far.sound known_next.so_far.reached b step.step.after step.after sender sent number given in
            let few = small.1 in
            let small_sent : sent < 2 ^ 60 = omega arith in
            let small_later : length (x.own ++ later) < 2 ^ 60 = omega arith in
            let m = Trace sent (length (x.own ++ later)) in
            one_told first silent none one one_there (walking b sender sent x.earlier (x.own ++ later)) m (small_sent, small_later)
            (record {
              proved = subst (IsProved next one) (ap (λ (xs : List TaskStep). xs ++ later) x.parts ∙ append_assoc x.earlier x.own later) proved;
              sender = agent_of_team next b step.step.after step.after;
              apart = elsewhere;
              next = record { number = number; given = given; path = path_there };
            })
            (subst (HasWalked (x.own ++ later)) (sym after)
            (record {
              trail = trail_after noted (Hop sender sent n) x now ∙ ap (λ (i : ℕ). notes i (x.own ++ later)) (sym me_is);
              going = going;
            }))
            (λ i y there other. record {
              trail = trail_other noted (Hop sender sent n) x now i y there other;
              going = (others_walked i y there other).going;
            })
            (sender ∷ []) (λ j. sender == j) (out_is noted (Hop sender sent n) x now ∙ (λ k. first ++ to_one sender (Trace sent (long k))))
            (λ j is_j. one_end sender m refl j) (λ i j y there. refl)

    pub walk_comes : ComesTo publics tasks step.step.out next
    unfolding walked wk
    walk_comes = by (walk r.search.kept entry (length later)).noted (walk r.search.kept entry (length later)).end along is away
      where
        kept : step.step.after.search.kept ≡ r.search.kept
        kept = ap (λ (s : Step). s.after.search.kept) (sym is) ∙ ap (λ (x : SearchRecord). x.kept) (walked_keeps r entry (length later)).search

        away : EndsElsewhere b (walk r.search.kept entry (length later)).end
        away =
            walk_elsewhere b step.step.after (known_next.hears b step.step.after step.after)
            ((team_numbers publics tasks team next known_next.team).me b step.step.after step.after) r.search.kept kept entry (length later)

        by : (noted : List Noted) (end : Walked) → WalksAlong next b (length later) earlier (record { noted = noted; end = end })
            → after_sending first (arrived (record r { trail = r.trail ++ noted }) end) ≡ step.step → EndsElsewhere b end → ComesTo publics tasks step.step.out next
        by noted (Root n) x now away = at_root noted n x now
        by noted (Hop sender sent n) x now away = at_hop noted sender sent n x now away
