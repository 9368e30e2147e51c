-- The shares of all agents together are the plan, and the plan solves at the verdict's cost.
use Rattle.mp_world.proofs.Basics.{◌≡◌, ℕ, zero, suc, ◌+◌, ◌-◌, ◌⊎◌, Bool, true, false, List, [], ◌∷◌, ◌++◌, length, map, Option, Some, All, refl, sym, ap, subst, ◌∙◌, arith, inl, inr, IsSomeAnd, IsTrue, ◌==◌, filter, if◌then◌else◌, not, enumerate_from}
use Rattle.mp_world.proofs.Basics.{option_map_or, false≢true, map-append, All-nil, All-push, AllPass-from_list_all, get_or_from_slice_get, none-some, same_Some, slice_get_within}
use Rattle.std.proofs.Common.{reverse}
use Rattle.std.proofs.lemmas.List.{reverse-append}
use Rattle.mp_search.proofs.KeyedStates.{all_get}
use Rattle.mp_trail.specs.declared.steps.Timed.{Timed}
use Rattle.mp_trail.specs.Share.{timed}
use Rattle.mp_world.specs.AgentWords.{state_after, AgentTask, JointState, TaskStep, goals_hold, joint_start, task_cost, team_system, Event, Proved, Noted, share, AgentRecord, given_verdict, is_going, is_deciding, is_proved}
use Rattle.mp_world.specs.SearchWords.{Entry, AgentState}
use Rattle.mp_world.specs.declared.answer.Answer.TheVariants as answers
use Rattle.mp_world.specs.Answers.{answer_by}
use Rattle.mp_world.specs.Events.{run}
use Rattle.mp_world.specs.Joint.{joint}
use Rattle.mp_world.specs.RoundRobin.{is_over}
use Rattle.mp_world.specs.Team.{AreTeamTasks, IsTeam, Team}
use Rattle.mp_world.specs.World.{IsAgent, IsTeamWorld, World, agent_at}
use Rattle.mp_world.proofs.Agents.{agree_numbered, member_of}
use Rattle.mp_world.proofs.Mail.{agent_of_team}
use Rattle.mp_world.proofs.Runs.{run_of_team}
use Rattle.mp_team_snapshots.proofs.Agreeing.{are_of_team}
use Rattle.mp_team_states.specs.Paths.{IsPath}
use Rattle.mp_team_states.specs.Paths.IsPath.{at_root, by_action, by_message}
use Rattle.mp_team_states.specs.Sound.{IsStateOf}
use Rattle.mp_team_states.proofs.ReachedEntries.{entry_in, has_it, one_path}
use Rattle.mp_team_states.proofs.StepsSound.{agent_sound}
use Rattle.mp_team_verdicts.specs.Ending.{EndsWith, HasShare, IsAt, IsProved, Stage, notes}
use Rattle.mp_team_verdicts.specs.Ending.Stage.{over, picking, searching, walking, without_plan}
use Rattle.mp_team_verdicts.specs.Shares.{IsOutcome, as_timed, is_own, own_steps}
use Rattle.mp_team_verdicts.proofs.Few.{HoldsSoFar, holds_so_far}
use Rattle.mp_team_verdicts.proofs.Flags.{HaveFlags, flags_in_runs}
use Rattle.mp_team_verdicts.proofs.GoalStates.{all_hold}
use Rattle.mp_team_verdicts.proofs.InRuns.{ends_so_far}
use Rattle.mp_team_verdicts.proofs.Proving.{end_unproved}

-- ---- what an agent noted of a whole plan, with times

own_from : ℕ → ℕ → List TaskStep → List Timed
own_from agent first plan = map as_timed (filter (is_own agent) (enumerate_from first plan))

share_from : (agent before n : ℕ) (plan : List TaskStep) → n ≡ before + length plan → share n (notes agent plan) ≡ own_from agent (before + 1) plan
unfolding notes own_from
share_from agent before n [] long = refl
share_from agent before n (step ∷ later) long =
    by (step.agent == agent) refl (share_from agent (before + 1) n later (omega arith))
  where
    noted : Noted
    noted = record { action = step.action; back = length later }

    -- the step in front
    more : (extra : List Noted) → share n (notes agent later ++ extra) ≡ share n extra ++ share n (notes agent later)
    more extra = ap reverse (map-append (timed n) (notes agent later) extra) ∙ reverse-append (map (timed n) (notes agent later)) (map (timed n) extra)

    time : n - length later ≡ before + 1
    time = omega arith

    by : (b : Bool) → (step.agent == agent) ≡ b → share n (notes agent later) ≡ own_from agent (before + 1 + 1) later
        → share n (notes agent later ++ (if step.agent == agent then record { action = step.action; back = length later } ∷ [] else []))
        ≡ own_from agent (before + 1) (step ∷ later)
    by true test rest =
        rw test
        (more (noted ∷ []) ∙ (λ j. record { time = time j; action = step.action } ∷ rest j))
    by false test rest = rw test (more [] ∙ rest)

pub share_of_notes : (agent : ℕ) (plan : List TaskStep) → share (length plan) (notes agent plan) ≡ own_steps agent plan
unfolding own_from
share_of_notes agent plan =
    share_from agent 0 (length plan) plan (omega arith)
    ∙ ap (λ (k : ℕ). map as_timed (filter (is_own agent) (enumerate_from k plan))) (let e : 0 + 1 ≡ 1 = omega arith in e)

-- ---- each step is one of an agent

path_agents : (w : World) (agent number : ℕ) (steps : List TaskStep) → IsPath w agent number steps → All (λ step. IsAgent w step.agent) steps
path_agents w agent number steps (at_root _ _ e is root) = All-nil (λ (step : TaskStep). IsAgent w step.agent)
path_agents w agent number steps (by_action _ _ e action parent before is own path) =
    let h = has_it w agent number e is in
    All-push (λ (step : TaskStep). IsAgent w step.agent) before (record { agent = agent; action = action }) (path_agents w agent parent before path)
    (agent_of_team w agent h.agent_is h.there)
path_agents w agent number steps (by_message _ _ e sender sent there _ is from given path) = path_agents w sender there steps path

-- ---- a search that is over

-- an agent of a world that is over has ended
ended_in : (w : World) → is_over w ≡ true → (i : ℕ) (r : AgentRecord) → agent_at w i ≡ Some r → is_going r.ending ≡ false
ended_in w over_is zero r there = absurd (none-some r there)
ended_in w over_is (suc k) r there =
    let inside = slice_get_within w.agents k r there in
    let all = AllPass-from_list_all (λ (r : AgentRecord). not (is_going r.ending)) w.agents over_is k r inside in
    flipped (is_going r.ending) (ap (λ (x : AgentRecord). not (is_going x.ending)) (sym (get_or_from_slice_get w.agents k r r there)) ∙ all)
  where
    flipped : (b : Bool) → not b ≡ true → b ≡ false
    flipped true h = sym h
    flipped false h = refl

module _ (publics : ℕ) (tasks : List AgentTask) (are : AreTeamTasks tasks) (w : World) (team : IsTeamWorld tasks w)
    (so_far : HoldsSoFar tasks w) (flags : HaveFlags w) (finished : is_over w ≡ true) (first : AgentRecord) (first_there : agent_at w 1 ≡ Some first)
    (agent cost : ℕ) (given : given_verdict first ≡ Some (Proved agent cost)) where
  same_first : (x : AgentRecord) → agent_at w 1 ≡ Some x → first ≡ x
  same_first x there = same_Some first x (sym first_there ∙ there)

  me_is : (i : ℕ) (r : AgentRecord) → agent_at w i ≡ Some r → r.task.me ≡ i
  me_is i r there = (member_of tasks (agree_numbered tasks are.agree) w team i r there).me

  module _ (plan : List TaskStep) (p : IsProved w first plan) (each : (i : ℕ) (r : AgentRecord) → agent_at w i ≡ Some r → EndsWith plan r) where
    has_share : (i : ℕ) (r : AgentRecord) → agent_at w i ≡ Some r → HasShare plan r
    has_share i r there = by (each i r there).ending
      where
        by : (is_going r.ending ≡ true) ⊎ HasShare plan r → HasShare plan r
        by (inl going) = absurd (false≢true (sym (ended_in w finished i r there) ∙ going))
        by (inr has) = has

    outcome : IsOutcome tasks w cost
    outcome =
        let e = p.goal.entry in
        let has = entry_in w p.agent p.number p.picked e p.there p.goal.at in
        let x = so_far.reached p.agent p.number e has in
        let same : x.steps ≡ plan = one_path w p.agent p.number x.steps plan x.path p.path in
        let states = (agent_sound tasks are w team so_far.sound p.agent p.picked p.there).states in
        let known : IsStateOf w p.picked.task e.key =
        all_get (λ (e : Entry AgentState). IsStateOf w p.picked.task e.key) p.picked.search.kept.entries p.number e states p.goal.at in
        let goal = sym (flags p.agent p.picked p.there p.number e p.goal.at) ∙ p.goal.is_goal in
        let hold = all_hold tasks are w team p.agent p.picked p.there e.key known goal in
        let leads : state_after (team_system tasks) (joint_start tasks) plan ≡ Some (joint w p.agent e.key) =
        ap (state_after (team_system tasks) (joint_start tasks)) (sym same) ∙ x.leads in
        let costs : cost ≡ p.cost = let one = sym given ∙ p.verdict in cc in
        record {
          plan = plan;
          shares = record {
            ended = λ i r there. (has_share i r there).ending;
            own = λ i r there.
                (has_share i r there).share
                ∙ ap (share (length plan)) ((each i r there).trail ∙ ap (λ (k : ℕ). notes k plan) (me_is i r there))
                ∙ share_of_notes i plan;
            agents = path_agents w p.agent p.number plan p.path;
          };
          solves = subst (λ (o : Option JointState). IsSomeAnd o (λ last. IsTrue (goals_hold tasks last))) (sym leads) hold;
          cost_is = ap (task_cost tasks) (sym same) ∙ x.cost ∙ p.goal.cost_is ∙ sym costs;
          answer =
              (λ k. if finished k then option_map_or (λ r. answer_by r.ending (given_verdict r)) (first_there k) answers.Nothing else answers.Nothing)
              ∙ (λ k. answer_by ((has_share 1 first first_there).ending k) (given k));
        }

  -- the stage of a search that is over, with a plan that is proved
  by_stage : (stage : Stage) → IsAt publics w stage → IsOutcome tasks w cost
  by_stage searching old =
      absurd (false≢true (sym old.verdict ∙ ap (λ (x : AgentRecord). is_deciding (given_verdict x)) (sym (same_first old.first old.there)) ∙ ap is_deciding given))
  by_stage (without_plan kind) old =
      absurd (false≢true (sym (end_unproved (given_verdict old.first) kind old.verdict.verdict) ∙ ap (λ (x : AgentRecord). is_proved (given_verdict x)) (sym (same_first old.first old.there)) ∙ ap is_proved given))
  by_stage (picking picked number plan) old =
      absurd (false≢true (sym (ended_in w finished 1 first first_there) ∙ (old.agents 1 first first_there).walked.going))
  by_stage (walking from to sent earlier later) old =
      absurd (false≢true (sym (ended_in w finished 1 first first_there) ∙ (old.agents 1 first first_there).going))
  by_stage (over teller plan) old =
      outcome plan (subst (λ (x : AgentRecord). IsProved w x plan) (sym (same_first old.first old.there)) old.verdict.proved) old.agents

pub shares_in_runs : (team : Team) → IsTeam team → (schedule : List Event) (w : World) → run team schedule ≡ Some w → is_over w ≡ true
    → (first : AgentRecord) (agent cost : ℕ) → agent_at w 1 ≡ Some first → given_verdict first ≡ Some (Proved agent cost) → IsOutcome team.tasks w cost
shares_in_runs team is_team schedule w ran finished first agent cost there given =
    let of_world = run_of_team team schedule w ran in
    let member = (member_of team.tasks (agree_numbered team.tasks is_team.tasks.agree) w of_world 1 first there).task in
    let of_team = are_of_team team.tasks first.task is_team.tasks member in
    let publics = first.task.publics in
    let ends = ends_so_far team is_team publics of_team schedule w ran in
    by_stage publics team.tasks is_team.tasks w of_world (holds_so_far team is_team schedule w ran)
    (flags_in_runs team is_team schedule w ran) finished first there agent cost given ends.stage ends.is
