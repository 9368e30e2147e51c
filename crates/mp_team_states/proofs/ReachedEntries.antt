-- Each entry is reached by its path, in every world that a legal schedule leads to.
use Rattle.mp_world.proofs.Basics.{◌≡◌, ℕ, zero, suc, ◌+◌, ◌<◌, ◌⊎◌, List, [], ◌∷◌, ◌++◌, Option, Some, None, refl, sym, ap, subst, ◌∙◌, arith, inl, inr, IsSomeAnd, option_and_then, slice_get, sum_by, option_map_or, cases_eq, same_Some}
use Rattle.std.proofs.lemmas.List.Sums.{sum_by-append}
use Rattle.mp_runs.proofs.Runs.{run-more}
use Rattle.mp_task.specs.Plan.{step_cost}
use Rattle.mp_search.proofs.KeyedStates.{all_get}
use Rattle.mp_world.specs.AgentWords.{Act, AgentTask, JointState, TaskStep, act_of, after_step, joint_start, task_of, Event, State, AgentRecord}
use Rattle.mp_world.specs.SearchWords.{Entry, Origin, Root, Own, From, Record, AgentState, successor, state_of}
use Rattle.mp_world.specs.Team.{AreTeamTasks}
use Rattle.mp_world.specs.Values.{Values}
use Rattle.mp_world.specs.World.{IsTeamWorld, World, agent_at}
use Rattle.mp_world.specs.Events.{agent_of}
use Rattle.mp_world.specs.Joint.{joint, joint_told}
use Rattle.mp_world.specs.Steps.{IsStepOf}
use Rattle.mp_world.proofs.Agents.{agent_there, agree_numbered, member_of}
use Rattle.mp_team_states.specs.Further.{HaveGrown, HaveSoundRecords}
use Rattle.mp_team_states.specs.Growing.{IsAlike}
use Rattle.mp_team_states.specs.Paths.{AreReached, IsEntryAt, IsPath, IsReached, IsSentAt, IsToldRightly}
use Rattle.mp_team_states.specs.Paths.IsPath.{at_root, by_action, by_message}
use Rattle.mp_team_states.specs.Sent.{IsSentIn}
use Rattle.mp_team_states.specs.Sound.{AreStatesSound, IsSentState, IsSoundAgent, IsSoundState, IsStateOf}
use Rattle.mp_team_states.proofs.GoodStates.{receiver_knows, tells_of_entry}
use Rattle.mp_team_states.proofs.Growth.{stays_at}
use Rattle.mp_team_states.proofs.JointSteps.{action_leads}
use Rattle.mp_team_states.proofs.NewEntries.{Comes, IsHeardIn, IsLedIn, entry_comes}
use Rattle.mp_team_states.proofs.StepsSound.{agent_of_task, agent_sound, limits_of, records_sound, states_stay_sound, task_at}
use Rattle.mp_team_states.proofs.WorldsGrow.{joint_same, step_grows}

-- ---- what an agent has

-- an agent has it, said of its record
pub entry_in : (w : World) (agent number : ℕ) (r : AgentRecord) (e : Entry AgentState) → agent_at w agent ≡ Some r → slice_get r.search.kept.entries number ≡ Some e → IsEntryAt w agent number e
entry_in w agent number r e there at = subst (λ (o : Option AgentRecord). IsSomeAnd o (λ r. slice_get r.search.kept.entries number ≡ Some e)) (sym there) at

pub record HasIt (w : World) (agent number : ℕ) (e : Entry AgentState) : Type 0 where
  pub agent_is : AgentRecord
  pub there : agent_at w agent ≡ Some agent_is
  pub at : slice_get agent_is.search.kept.entries number ≡ Some e

pub has_it : (w : World) (agent number : ℕ) (e : Entry AgentState) → IsEntryAt w agent number e → HasIt w agent number e
has_it w agent number e is = by (agent_at w agent) refl is
  where
    by : (o : Option AgentRecord) → agent_at w agent ≡ o → IsSomeAnd o (λ r. slice_get r.search.kept.entries number ≡ Some e) → HasIt w agent number e
    by None there is = absurd is
    by (Some r) there is = record { agent_is = r; there = there; at = is }

-- ---- paths stay

module _ (w next : World) (grown : HaveGrown w next) where
  pub entry_stays : (agent number : ℕ) (e : Entry AgentState) → IsEntryAt w agent number e → (later : Entry AgentState) × IsEntryAt next agent number later × IsAlike e later
  entry_stays agent number e is =
      let h = has_it w agent number e is in
      let r = grown agent h.agent_is h.there in
      let later = r.2.kept.entries number e h.at in
      (later.0, entry_in next agent number r.0 later.0 r.1 later.1, later.2)

  -- a sent number stays that of its entry
  pub sent_at_stays : (agent sent number : ℕ) → IsSentAt w agent sent number → IsSentAt next agent sent number
  sent_at_stays agent sent number is = by (agent_at w agent) refl is
    where
      by : (o : Option AgentRecord) → agent_at w agent ≡ o → IsSomeAnd o (λ r. slice_get r.search.kept.sent sent ≡ Some number) → IsSentAt next agent sent number
      by None there is = absurd is
      by (Some r) there is =
          let later = grown agent r there in
          subst (λ (o : Option AgentRecord). IsSomeAnd o (λ r. slice_get r.search.kept.sent sent ≡ Some number)) (sym later.1)
          (ap (λ (ns : List ℕ). slice_get ns sent) later.2.kept.sent.is ∙ stays_at r.search.kept.sent later.2.kept.sent.more sent number is)

  pub path_stays : (agent number : ℕ) (steps : List TaskStep) → IsPath w agent number steps → IsPath next agent number steps
  path_stays agent number steps (at_root _ _ e is root) =
      let later = entry_stays agent number e is in
      at_root agent number later.0 later.1 (later.2.origin ∙ root)
  path_stays agent number steps (by_action _ _ e action parent before is own path) =
      let later = entry_stays agent number e is in
      by_action agent number later.0 action parent before later.1 (later.2.origin ∙ own) (path_stays agent parent before path)
  path_stays agent number steps (by_message _ _ e sender sent there _ is from given path) =
      let later = entry_stays agent number e is in
      by_message agent number later.0 sender sent there steps later.1 (later.2.origin ∙ from) (sent_at_stays sender sent there given)
      (path_stays sender there steps path)

-- ---- an event

cost_more : (f : TaskStep → ℕ) (xs : List TaskStep) (x : TaskStep) → sum_by f (xs ++ x ∷ []) ≡ sum_by f xs + f x
cost_more f xs x = sum_by-append f xs (x ∷ []) ∙ ap (λ (n : ℕ). sum_by f xs + n) (let e : 0 + f x ≡ f x = omega arith in e)

-- a state that was sent is told of rightly
pub told_rightly : (tasks : List AgentTask) (are : AreTeamTasks tasks) (w : World) (team : IsTeamWorld tasks w) (sound : AreStatesSound tasks w)
    → AreReached tasks w → (sender : ℕ) (u : AgentTask) (m : State) → task_of tasks sender ≡ Some u → IsSoundState w u m → IsToldRightly tasks w sender m
told_rightly tasks are w team sound reached sender u m at sound_state =
    let found = agent_there w sender (agent_of_task tasks are w team sender u at) in
    by found.0 found.1
  where
    told : (r : AgentRecord) → agent_at w sender ≡ Some r → (sent : IsSentIn r.task r.search.kept m) → IsReached tasks w sender sent.number sent.entry
        → (joint w sender sent.entry.key ≡ joint_told w m) × (m.g ≡ sent.entry.g) × (m.h ≡ sent.entry.h) → IsToldRightly tasks w sender m
    told r there sent x tells = record {
      number = sent.number;
      steps = x.steps;
      given = subst (λ (o : Option AgentRecord). IsSomeAnd o (λ r. slice_get r.search.kept.sent m.sent ≡ Some sent.number)) (sym there) sent.sent;
      path = x.path;
      leads = x.leads ∙ ap (λ (s : JointState). Some s) tells.0;
      cost = x.cost ∙ sym tells.1;
    }

    by : (r : AgentRecord) → agent_at w sender ≡ Some r → IsToldRightly tasks w sender m
    by r there =
        let same : u ≡ r.task = same_Some u r.task (sym at ∙ task_at tasks are w team sender r there) in
        let me = (member_of tasks (agree_numbered tasks are.agree) w team sender r there).me in
        let state : IsSentState w r.task m = subst (λ (u : AgentTask). IsSentState w u m) same sound_state.sent in
        let sent : IsSentIn r.task r.search.kept m =
        subst (λ (o : Option AgentRecord). IsSomeAnd o (λ x. IsSentIn r.task x.search.kept m)) (ap (agent_at w) me ∙ there) state
        in
        told r there sent (reached sender sent.number sent.entry (entry_in w sender sent.number r sent.entry there sent.there))
        (tells_of_entry tasks are w team sound sender r m sent.number sent.entry there state sent.sent sent.there)

module _ (tasks : List AgentTask) (are : AreTeamTasks tasks) (w : World) (team : IsTeamWorld tasks w) (sound : AreStatesSound tasks w)
    (reached : AreReached tasks w) (value : Values) (next : World) (event : Event) (is : IsStepOf value w event next) where
  grown : HaveGrown w next
  grown = step_grows value w next event is

  records : HaveSoundRecords w
  records = records_sound tasks are w team sound

  same_joint : (agent : ℕ) (r : AgentRecord) (s : AgentState) → agent_at w agent ≡ Some r → IsStateOf w r.task s → joint next agent s ≡ joint w agent s
  same_joint agent r s there known =
      let me = (member_of tasks (agree_numbered tasks are.agree) w team agent r there).me in
      (λ j. joint next (sym me j) s) ∙ joint_same w next records grown r.task s known ∙ (λ j. joint w (me j) s)

  -- an entry that was there
  old_reached : (agent number : ℕ) (r : AgentRecord) (old e : Entry AgentState) → agent_at w agent ≡ Some r → slice_get r.search.kept.entries number ≡ Some old → IsAlike old e
      → IsReached tasks next agent number e
  old_reached agent number r old e there at alike =
      let x = reached agent number old (entry_in w agent number r old there at) in
      let states = (agent_sound tasks are w team sound agent r there).states in
      let known : IsStateOf w r.task old.key = all_get (λ (e : Entry AgentState). IsStateOf w r.task e.key) r.search.kept.entries number old states at in
      record {
        steps = x.steps;
        path = path_stays w next grown agent number x.steps x.path;
        leads = x.leads ∙ ap (λ (s : JointState). Some s) (sym (same_joint agent r old.key there known)) ∙ ap (λ (k : AgentState). Some (joint next agent k)) (sym alike.key);
        cost = x.cost ∙ sym alike.g;
      }

  -- the agent of the event
  t : AgentTask
  t = is.agent.task

  last : Record AgentState
  last = is.step.after.search.kept

  me_is : t.me ≡ agent_of event
  unfolding t
  me_is = (member_of tasks (agree_numbered tasks are.agree) w team (agent_of event) is.agent is.there).me

  last_known : (n : ℕ) (e : Entry AgentState) → slice_get last.entries n ≡ Some e → IsStateOf next t e.key
  unfolding t last
  last_known n e at =
      let after = (states_stay_sound tasks are w team sound value next event is).agents (agent_of event) t (task_at tasks are w team (agent_of event) is.agent is.there) in
      let agent : IsSoundAgent next t is.step.after = subst (λ (o : Option AgentRecord). IsSomeAnd o (IsSoundAgent next t)) is.after after in
      all_get (λ (e : Entry AgentState). IsStateOf next t e.key) last.entries n e agent.states at

  led_reached : (n : ℕ) (e : Entry AgentState) → slice_get last.entries n ≡ Some e → (led : IsLedIn (value t) is.agent is.step.after.search n e) → IsReached tasks next (agent_of event) led.parent led.from
      → IsReached tasks next (agent_of event) n e
  unfolding t last
  led_reached n e at led x =
      let a = agent_of event in
      let step : TaskStep = record { agent = a; action = led.action } in
      let task : task_of tasks a ≡ Some t = task_at tasks are w team a is.agent is.there in
      let leads : after_step tasks (joint next a led.from.key) step ≡ Some (joint next a (successor led.act led.from.key)) =
      subst
      (λ (a : ℕ). after_step tasks (joint next a led.from.key) (record { agent = a; action = led.action }) ≡ Some (joint next a (successor led.act led.from.key)))
      me_is
      (action_leads next t (limits_of tasks are w team a is.agent is.there) led.from.key (last_known led.parent led.from led.there) tasks led.action led.act
      (ap (task_of tasks) me_is ∙ task) led.own led.may)
      in
      let act : act_of tasks step ≡ Some led.act = ap (λ (o : Option AgentTask). option_and_then (λ t. slice_get t.acts led.action) o) task ∙ led.own in
      let price : step_cost tasks step ≡ led.act.cost = ap (λ (o : Option Act). option_map_or (λ act. act.cost) o 0) act in
      record {
        steps = x.steps ++ step ∷ [];
        path = by_action a n e led.action led.parent x.steps (entry_in next a n is.step.after e is.after at) led.origin x.path;
        leads =
            run-more (after_step tasks) (joint_start tasks) x.steps step
            ∙ ap (λ (o : Option JointState). option_and_then (λ s. after_step tasks s step) o) x.leads
            ∙ leads ∙ ap (λ (k : AgentState). Some (joint next a k)) (sym led.key);
        cost = cost_more (step_cost tasks) x.steps step ∙ (λ j. x.cost j + price j) ∙ sym led.g_is;
      }

  heard_reached : (n : ℕ) (e : Entry AgentState) → slice_get last.entries n ≡ Some e → IsHeardIn (value t) tasks w is.agent e → IsReached tasks next (agent_of event) n e
  unfolding t last
  heard_reached n e at heard =
      let a = agent_of event in
      let m = heard.message in
      let x = told_rightly tasks are w team sound reached heard.sender heard.task m heard.at heard.state in
      let knows = receiver_knows tasks are w team sound heard.sender a heard.task is.agent heard.at is.there m heard.state in
      let same : joint_told w m ≡ joint next a e.key =
      joint_told_is a m (state_of is.agent.task is.agent.search.kept m) e.key knows.0 knows.1 heard.key
      in
      record {
        steps = x.steps;
        path =
            by_message a n e heard.sender m.sent x.number x.steps (entry_in next a n is.step.after e is.after at) heard.origin
            (sent_at_stays w next grown heard.sender m.sent x.number x.given) (path_stays w next grown heard.sender x.number x.steps x.path);
        leads = x.leads ∙ ap (λ (s : JointState). Some s) same;
        cost = x.cost ∙ sym heard.g_is;
      }
    where
      joint_told_is : (a : ℕ) (m : State) (s k : AgentState) → IsStateOf w is.agent.task s → joint w (agent_of event) s ≡ joint_told w m → k ≡ s → joint_told w m ≡ joint next (agent_of event) k
      joint_told_is a m s k known same key =
          sym same ∙ sym (same_joint (agent_of event) is.agent s is.there known) ∙ ap (λ (k : AgentState). joint next (agent_of event) k) (sym key)

  -- all entries below a number
  below : (k n : ℕ) (e : Entry AgentState) → n < k → slice_get last.entries n ≡ Some e → IsReached tasks next (agent_of event) n e
  unfolding t last
  below zero n e less at = absurd (omega arith)
  below (suc k) n e less at =
      by (λ n e less at. below k n e less at) (entry_comes tasks are w team sound value next event is n e at)
    where
      by : ((n : ℕ) (e : Entry AgentState) → n < k → slice_get is.step.after.search.kept.entries n ≡ Some e → IsReached tasks next (agent_of event) n e)
          → Comes (value is.agent.task) tasks w is.agent is.step n e → IsReached tasks next (agent_of event) n e
      by earlier (inl old) = old_reached (agent_of event) n is.agent old.old e is.there old.there old.alike
      by earlier (inr (inl led)) = led_reached n e at led (earlier led.parent led.from (let before = led.earlier in omega arith) led.there)
      by earlier (inr (inr heard)) = heard_reached n e at heard

  pub event_reaches : AreReached tasks next
  unfolding last
  event_reaches agent number e has = by (cases_eq agent (agent_of event))
    where
      h : HasIt next agent number e
      h = has_it next agent number e has

      by : (agent ≡ agent_of event) ⊎ (agent ≡ agent_of event → ⊥) → IsReached tasks next agent number e
      by (inl same) =
          let one : h.agent_is ≡ is.step.after = same_Some h.agent_is is.step.after (sym h.there ∙ ap (agent_at next) same ∙ is.after) in
          subst (λ (a : ℕ). IsReached tasks next a number e) (sym same)
          (below (suc number) number e (omega arith) (subst (λ (r : AgentRecord). slice_get r.search.kept.entries number ≡ Some e) one h.at))
      by (inr other) =
          old_reached agent number h.agent_is e e (sym (is.others agent other) ∙ h.there) h.at (record { key = refl; g = refl; h = refl; origin = refl; goal = refl })

-- ---- one path

module _ (w : World) where
  same_entry : (agent number : ℕ) (e f : Entry AgentState) → IsEntryAt w agent number e → IsEntryAt w agent number f → e ≡ f
  same_entry agent number e f a b = by (agent_at w agent) a b
    where
      by : (o : Option AgentRecord) → IsSomeAnd o (λ r. slice_get r.search.kept.entries number ≡ Some e) → IsSomeAnd o (λ r. slice_get r.search.kept.entries number ≡ Some f) → e ≡ f
      by None a b = absurd a
      by (Some r) a b = same_Some e f (sym a ∙ b)

  pub same_sent : (agent sent m n : ℕ) → IsSentAt w agent sent m → IsSentAt w agent sent n → m ≡ n
  same_sent agent sent m n a b = by (agent_at w agent) a b
    where
      by : (o : Option AgentRecord) → IsSomeAnd o (λ r. slice_get r.search.kept.sent sent ≡ Some m) → IsSomeAnd o (λ r. slice_get r.search.kept.sent sent ≡ Some n) → m ≡ n
      by None a b = absurd a
      by (Some r) a b = same_Some m n (sym a ∙ b)

  pub origins : (agent number : ℕ) (e f : Entry AgentState) (o p : Origin) → IsEntryAt w agent number e → IsEntryAt w agent number f → e.origin ≡ o → f.origin ≡ p → o ≡ p
  origins agent number e f o p a b e_is f_is = sym e_is ∙ ap (λ (x : Entry AgentState). x.origin) (same_entry agent number e f a b) ∙ f_is

  pub one_path : (agent number : ℕ) (steps others : List TaskStep) → IsPath w agent number steps → IsPath w agent number others → steps ≡ others
  one_path agent number steps others (at_root _ _ e a root) (at_root _ _ f b root_too) = refl
  one_path agent number steps others (at_root _ _ e a root) (by_action _ _ f action parent before b own path) =
      absurd (let same = origins agent number e f Root (Own action parent) a b root own in let impossible : ⊥ = cc in impossible)
  one_path agent number steps others (at_root _ _ e a root) (by_message _ _ f sender sent there _ b from given path) =
      absurd (let same = origins agent number e f Root (From sender sent) a b root from in let impossible : ⊥ = cc in impossible)
  one_path agent number steps others (by_action _ _ e action parent before a own path) (at_root _ _ f b root) =
      absurd (let same = origins agent number e f (Own action parent) Root a b own root in let impossible : ⊥ = cc in impossible)
  one_path agent number steps others (by_action _ _ e action parent before a own path) (by_action _ _ f action_too parent_too before_too b own_too path_too) =
      let same = origins agent number e f (Own action parent) (Own action_too parent_too) a b own own_too in
      let acts : action ≡ action_too = cc in
      let parents : parent ≡ parent_too = cc in
      let rest = one_path agent parent before before_too path (subst (λ (p : ℕ). IsPath w agent p before_too) (sym parents) path_too) in
      λ j. rest j ++ record { agent = agent; action = acts j } ∷ []
  one_path agent number steps others (by_action _ _ e action parent before a own path) (by_message _ _ f sender sent there _ b from given later) =
      absurd (let same = origins agent number e f (Own action parent) (From sender sent) a b own from in let impossible : ⊥ = cc in impossible)
  one_path agent number steps others (by_message _ _ e sender sent there _ a from given path) (at_root _ _ f b root) =
      absurd (let same = origins agent number e f (From sender sent) Root a b from root in let impossible : ⊥ = cc in impossible)
  one_path agent number steps others (by_message _ _ e sender sent there _ a from given path) (by_action _ _ f action parent before b own later) =
      absurd (let same = origins agent number e f (From sender sent) (Own action parent) a b from own in let impossible : ⊥ = cc in impossible)
  one_path agent number steps others (by_message _ _ e sender sent there _ a from given path) (by_message _ _ f sender_too sent_too there_too _ b from_too given_too path_too) =
      let same = origins agent number e f (From sender sent) (From sender_too sent_too) a b from from_too in
      let senders : sender ≡ sender_too = cc in
      let numbers : sent ≡ sent_too = cc in
      let now : IsSentAt w sender sent there_too = subst (λ (n : ℕ). IsSentAt w sender n there_too) (sym numbers) (subst (λ (s : ℕ). IsSentAt w s sent_too there_too) (sym senders) given_too) in
      let place = same_sent sender sent there there_too given now in
      one_path sender there steps others path
      (subst (λ (n : ℕ). IsPath w sender n others) (sym place) (subst (λ (s : ℕ). IsPath w s there_too others) (sym senders) path_too))
