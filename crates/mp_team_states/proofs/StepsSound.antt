-- What is so of the states that agents keep and send stays so at each event.
use Rattle.mp_world.proofs.Basics.{◌≡◌, ◌≢◌, ℕ, zero, suc, ◌<◌, ◌⊎◌, Bool, true, false, List, [], ◌∷◌, length, map, Option, Some, None, All, refl, sym, ap, subst, ◌∙◌, arith, inl, inr, Contains, IsSomeAnd, Ok, drop, not, option_map, slice_get, ◌==◌}
use Rattle.mp_world.proofs.Basics.{if◌then◌else◌, filter, and_parts, cases_eq, eqb-true, All-contains, All-filter, All-map, All-weaker, Contains-append_cases, Contains-get_or, none-some, same_Some, slice_get-map, slice_get_within}
use Rattle.mp_list.proofs.Members.{contains_tail, no_member}
use Rattle.mp_messages.specs.declared.message.Message.TheVariants as kinds
use Rattle.mp_search.proofs.Spelled.{kind, same_kind, spelled_is_message}
use Rattle.mp_machine.specs.declared.event.Local.TheVariants as locals
use Rattle.mp_world.specs.AgentWords.{AgentTask, IsWithinLimits, task_of, Event, Expand, Take, Start, Message, State, message_of, Fits, IfState, spelling, Local, Out, AgentRecord, is_going, local, may}
use Rattle.mp_world.specs.AgentWords.{Outgoing, Step, in_bytes}
use Rattle.mp_world.specs.SearchWords.{Numbers, IsStateFor, may_expand}
use Rattle.mp_world.specs.Team.{AreTeamTasks}
use Rattle.mp_world.specs.Values.{Values}
use Rattle.mp_world.specs.World.{IsAgent, IsTeamWorld, World, agent_at, under_way}
use Rattle.mp_world.specs.Events.{agent_of, local_of, taken, without_taken}
use Rattle.mp_world.specs.Steps.{IsStepOf, sent_between, sent_to}
use Rattle.mp_world.proofs.Agents.{agent_there, agree_numbered, member_of, sender_of}
use Rattle.mp_world.proofs.Mail.{agent_of_team, under_way-other, under_way-same}
use Rattle.mp_world.proofs.Stepping.{team_lists, team_size}
use Rattle.mp_team_states.specs.Further.{HaveGrown, HaveSoundRecords}
use Rattle.mp_team_states.specs.Sent.{IsSentIn}
use Rattle.mp_team_states.specs.Sound.{AreStatesSound, AreTold, IsSoundAgent, IsSoundMessage, IsSoundState, IsStateOf}
use Rattle.mp_team_states.proofs.LocalStates.{GoesOut, IsSoundStep, expansion_sound, quiet_sound, receipt_sound}
use Rattle.mp_team_states.proofs.Quiet.{IsOther}
use Rattle.mp_team_states.proofs.Received.{sent_told}
use Rattle.mp_team_states.proofs.WorldsGrow.{search_holds, sent_state_stays, state_or_other, state_stays, step_grows}

-- ---- what is read of bytes that spell no state

not_a_state : (m : Message) → IsOther m → kind m ≡ 1 → ⊥
not_a_state (kinds.State x) other is = other
not_a_state (kinds.Marker n) other is = omega arith
not_a_state (kinds.Report f) other is = omega arith
not_a_state (kinds.Pick n) other is = omega arith
not_a_state (kinds.Trace sent back) other is = omega arith
not_a_state (kinds.Length n) other is = omega arith
not_a_state (kinds.Done e) other is = omega arith

is_other : (m : Message) → (kind m ≡ 1 → ⊥) → IsOther m
is_other (kinds.State x) none = none refl
is_other (kinds.Marker n) none = tt
is_other (kinds.Report f) none = tt
is_other (kinds.Pick n) none = tt
is_other (kinds.Trace sent back) none = tt
is_other (kinds.Length n) none = tt
is_other (kinds.Done e) none = tt

pub other_stays : (agents publics : ℕ) (m read : Message) → IsOther m → message_of agents publics (spelling m) ≡ Some read → IsOther read
other_stays agents publics m read other is = is_other read (λ one. not_a_state m other (same_kind agents publics m read is ∙ one))

-- ---- a step of an agent

-- bytes spell a message, and where that is a state, it fits a team and its tags were told
pub record IsKnown (w : World) (t : AgentTask) (bytes : List ℕ) : Type 0 where
  pub message : Message
  pub is : bytes ≡ spelling message
  pub state : IfState (λ m. IsStateFor t m × AreTold w m.tags) message

-- what is read of them
pub read_state : (t : AgentTask) (limits : IsWithinLimits t) (m : State) (bytes : List ℕ) → bytes ≡ spelling (kinds.State m) → IsStateFor t m
    → message_of t.agents t.publics bytes ≡ Some (kinds.State m)
read_state t limits m bytes is fits =
    spelled_is_message t.agents t.publics (kinds.State m) bytes (let size = limits.publics in omega arith) (record { fits = fits; is = is })

-- a state that is read is the message that was spelled
pub spelled_state : (t : AgentTask) → IsWithinLimits t → (Fitting : State → Type 0) → ((x : State) → Fitting x → IsStateFor t x)
    → (bytes : List ℕ) (sent : Message) → bytes ≡ spelling sent → IfState Fitting sent
    → (m : State) → message_of t.agents t.publics bytes ≡ Some (kinds.State m) → (sent ≡ kinds.State m) × Fitting m
spelled_state t limits Fitting fits bytes sent is state m reads = by (state_or_other sent)
  where
    by : ((x : State) × (sent ≡ kinds.State x)) ⊎ IsOther sent → (sent ≡ kinds.State m) × Fitting m
    by (inl found) =
        let x = found.0 in
        let known : Fitting x = subst (IfState Fitting) found.1 state in
        let again = read_state t limits x bytes (is ∙ ap spelling found.1) (fits x known) in
        let same : kinds.State x ≡ kinds.State m = same_Some (kinds.State x) (kinds.State m) (sym again ∙ reads) in
        (found.1 ∙ same, subst (IfState Fitting) same known)
    by (inr other) =
        absurd (other_stays t.agents t.publics sent (kinds.State m) other (ap (message_of t.agents t.publics) (sym is) ∙ reads))

module _ (w : World) (r : AgentRecord) (limits : IsWithinLimits r.task) (sound : IsSoundAgent w r.task r) (there : agent_at w r.task.me ≡ Some r)
    (value : Numbers → Numbers → Option ℕ) (s : Step) where
  pub local_sound : (event : Local) (bytes : List ℕ) → may r event ≡ true
      → ((from : ℕ) → event ≡ locals.Take from → IsKnown w r.task bytes)
      → local value r event bytes ≡ Ok s → IsSoundStep w r.task s
  local_sound event bytes allowed known is =
      search_holds value r event bytes (IsSoundStep w r.task) (record {
        expands = λ at.
            let may : may r locals.Expand ≡ true = subst (λ (e : Local). may r e ≡ true) at allowed in
            expansion_sound w r limits sound value (and_parts (is_going r.ending) (may_expand r.limit r.search) may).1;
        receives = λ from m at reads.
            let k = known from at in
            let parts =
            (spelled_state r.task limits (λ (x : State). IsStateFor r.task x × AreTold w x.tags) (λ x both. both.0)
            bytes k.message k.is k.state m reads).1
            in
            receipt_sound w r limits sound value there from m parts.0 parts.1;
        quiet = λ s quiet. quiet_sound w r.task r s sound quiet;
      }) s is

-- ---- what stays

if_state : (P R : State → Type 0) → ((x : State) → P x → R x) → (m : Message) → IfState P m → IfState R m
if_state P R each (kinds.State x) h = each x h
if_state P R each (kinds.Marker n) h = tt
if_state P R each (kinds.Report f) h = tt
if_state P R each (kinds.Pick n) h = tt
if_state P R each (kinds.Trace sent back) h = tt
if_state P R each (kinds.Length n) h = tt
if_state P R each (kinds.Done e) h = tt

module _ (w next : World) (records : HaveSoundRecords w) (grown : HaveGrown w next) where
  agent_stays : (t : AgentTask) (r : AgentRecord) → IsSoundAgent w t r → IsSoundAgent next t r
  agent_stays t r sound = record {
    task = sound.task;
    limit = sound.limit;
    within = sound.within;
    sent = sound.sent;
    kept = sound.kept;
    fits = sound.fits;
    states =
        All-weaker (λ e. IsStateOf w t e.key) (λ e. IsStateOf next t e.key) (λ e is. state_stays w next records grown t e.key is)
        r.search.kept.entries sound.states;
  }

  message_stays : (t : AgentTask) (bytes : List ℕ) → IsSoundMessage w t bytes → IsSoundMessage next t bytes
  message_stays t bytes sound = record {
    message = sound.message;
    is = sound.is;
    state =
        if_state (IsSoundState w t) (IsSoundState next t)
        (λ m is. record { fits = is.fits; sent = sent_state_stays w next records grown t m is.sent }) sound.message sound.state;
  }

some_and : {X : Type 0} (P R : X → Type 0) (o : Option X) → ((x : X) → P x → R x) → IsSomeAnd o P → IsSomeAnd o R
some_and P R None each h = h
some_and P R (Some x) each h = each x h

-- ---- an event

pub not_none : (xs : List (List ℕ)) → not (length xs == 0) ≡ true → 0 < length xs
not_none xs test = eqb_positive (length xs) test
  where
    eqb_positive : (n : ℕ) → not (n == 0) ≡ true → 0 < n
    eqb_positive zero test = absurd (let impossible : ⊥ = cc in impossible)
    eqb_positive (suc n) test = omega arith

drop_one : (xs : List (List ℕ)) (x : List ℕ) → Contains (drop 1 xs) x → Contains xs x
drop_one [] x here = here
drop_one (y ∷ xs) x here = contains_tail y xs x here

module _ (tasks : List AgentTask) (are : AreTeamTasks tasks) (w : World) (team : IsTeamWorld tasks w) where
  pub task_at : (agent : ℕ) (r : AgentRecord) → agent_at w agent ≡ Some r → task_of tasks agent ≡ Some r.task
  task_at zero r there = absurd (none-some r there)
  task_at (suc k) r there =
      ap (λ (ts : List AgentTask). slice_get ts k) (sym team.team) ∙ slice_get-map (λ (x : AgentRecord). x.task) w.agents k
      ∙ ap (option_map (λ (x : AgentRecord). x.task)) there

  pub agent_of_task : (agent : ℕ) (t : AgentTask) → task_of tasks agent ≡ Some t → IsAgent w agent
  agent_of_task zero t at = absurd (none-some t at)
  agent_of_task (suc k) t at =
      let inside = slice_get_within tasks k t at in
      let size = team_size tasks w team in
      record { from_1 = omega arith; at_most = omega arith }

  pub limits_of : (agent : ℕ) (r : AgentRecord) → agent_at w agent ≡ Some r → IsWithinLimits r.task
  limits_of agent r there = All-contains IsWithinLimits tasks r.task are.within (member_of tasks (agree_numbered tasks are.agree) w team agent r there).task

  pub at_me : (agent : ℕ) (r : AgentRecord) → agent_at w agent ≡ Some r → agent_at w r.task.me ≡ Some r
  at_me agent r there = ap (agent_at w) (member_of tasks (agree_numbered tasks are.agree) w team agent r there).me ∙ there

  module _ (sound : AreStatesSound tasks w) where
    pub agent_sound : (agent : ℕ) (r : AgentRecord) → agent_at w agent ≡ Some r → IsSoundAgent w r.task r
    agent_sound agent r there =
        subst (λ (o : Option AgentRecord). IsSomeAnd o (IsSoundAgent w r.task)) there (sound.agents agent r.task (task_at agent r there))

    pub records_sound : HaveSoundRecords w
    records_sound agent r there = (agent_sound agent r there).kept

    -- a sent state's tags were told, and it fits each task of the team
    pub state_heard : (from : ℕ) (u t : AgentTask) (m : State) → task_of tasks from ≡ Some u → Contains tasks t → IsSoundState w u m
        → IsStateFor t m × AreTold w m.tags
    state_heard from u t m at here state =
        let found = agent_there w from (agent_of_task from u at) in
        let r = found.0 in
        let same : r.task ≡ u = same_Some r.task u (sym (task_at from r found.1) ∙ at) in
        let of = member_of tasks (agree_numbered tasks are.agree) w team from r found.1 in
        let in_team : Contains tasks u = subst (λ (t : AgentTask). Contains tasks t) same of.task in
        let mine : agent_at w u.me ≡ Some r = subst (λ (t : AgentTask). agent_at w t.me ≡ Some r) same (at_me from r found.1) in
        let known : IsSoundAgent w u r = subst (λ (t : AgentTask). IsSoundAgent w t r) same (agent_sound from r found.1) in
        let sent : IsSentIn u r.search.kept m = subst (λ (o : Option AgentRecord). IsSomeAnd o (λ r. IsSentIn u r.search.kept m)) mine state.sent in
        let agents : u.agents ≡ t.agents = (All-contains (λ t. t.agents ≡ length tasks) tasks u (agree_numbered tasks are.agree).team in_team) ∙ sym (All-contains (λ t. t.agents ≡ length tasks) tasks t (agree_numbered tasks are.agree).team here) in
        let publics : u.publics ≡ t.publics = (are.agree.alike u t in_team here).publics in (
          subst (λ (n : ℕ). Fits n t.publics (kinds.State m)) agents (subst (λ (n : ℕ). Fits u.agents n (kinds.State m)) publics state.fits),
          sent_told w u (All-contains IsWithinLimits tasks u are.within in_team) r mine known m sent,
        )

    pub bytes_known : (from to : ℕ) (u : AgentTask) (r : AgentRecord) (bytes : List ℕ) → task_of tasks from ≡ Some u → agent_at w to ≡ Some r
        → Contains (under_way w from to) bytes → IsKnown w r.task bytes
    bytes_known from to u r bytes at there here =
        let m = sound.mail from to u r.task bytes at (task_at to r there) here in
        let in_team = (member_of tasks (agree_numbered tasks are.agree) w team to r there).task in
        record {
          message = m.message;
          is = m.is;
          state = if_state (IsSoundState w u) (λ m. IsStateFor r.task m × AreTold w m.tags) (λ x state. state_heard from u r.task x at in_team state) m.message m.state;
        }

    module _ (value : Values) (next : World) where
      pub step_sound : (event : Event) (is : IsStepOf value w event next) → IsSoundStep w is.agent.task is.step
      step_sound event is =
          local_sound w is.agent (limits_of (agent_of event) is.agent is.there)
          (agent_sound (agent_of event) is.agent is.there) (at_me (agent_of event) is.agent is.there)
          (value is.agent.task) is.step (local_of event) (taken w event) is.may (known event is) is.local
        where
          known : (event : Event) (is : IsStepOf value w event next) (from : ℕ) → local_of event ≡ locals.Take from
              → IsKnown w is.agent.task (taken w event)
          known (Expand agent) is from e = absurd (let impossible : ⊥ = cc in impossible)
          known Start is from e = absurd (let impossible : ⊥ = cc in impossible)
          known (Take by a) is from e =
              let sender = sender_of tasks (agree_numbered tasks are.agree) w team by a is.agent is.there is.may in
              let found = agent_there w a sender.0 in
              bytes_known a by found.0.task is.agent (taken w (Take by a)) (task_at a found.0 found.1) is.there
              (Contains-get_or (under_way w a by) 0 [] (not_none (under_way w a by) is.message))

      -- what is left of the messages from one agent to another: all, or all but the one that is taken
      pub left_is : (event : Event) → IsStepOf value w event next → (from to : ℕ) → IsAgent w from → IsAgent w to
          → (under_way (without_taken w event) from to ≡ under_way w from to)
          ⊎ ((event ≡ Take to from) × (under_way (without_taken w event) from to ≡ drop 1 (under_way w from to)))
      left_is (Expand agent) is from to sender receiver = inl refl
      left_is Start is from to sender receiver = inl refl
      left_is (Take by of) is from to sender receiver = both (cases_eq from of) (cases_eq to by)
        where
          left : List (List ℕ)
          left = drop 1 (under_way w of by)

          from_there : IsAgent w of
          from_there = (sender_of tasks (agree_numbered tasks are.agree) w team by of is.agent is.there is.may).0

          other : (from ≢ of) ⊎ (to ≢ by) → under_way (without_taken w (Take by of)) from to ≡ under_way w from to
          other = under_way-other w (team_lists tasks w team) of by from to left from_there (agent_of_team w by is.agent is.there) sender receiver

          both : (from ≡ of) ⊎ (from ≡ of → ⊥) → (to ≡ by) ⊎ (to ≡ by → ⊥)
              → (under_way (without_taken w (Take by of)) from to ≡ under_way w from to)
              ⊎ ((Take by of ≡ Take to from) × (under_way (without_taken w (Take by of)) from to ≡ drop 1 (under_way w from to)))
          both (inr apart) any = inl (other (inl apart))
          both (inl same) (inr apart) = inl (other (inr apart))
          both (inl same) (inl same_to) = inr (
            λ j. Take (sym same_to j) (sym same j),
            (λ j. under_way (without_taken w (Take by of)) (same j) (same_to j))
                ∙ under_way-same w (team_lists tasks w team) of by left from_there (agent_of_team w by is.agent is.there)
                ∙ (λ j. drop 1 (under_way w (sym same j) (sym same_to j))),
          )

      -- no more messages are under way when one is taken
      was_there : (event : Event) → IsStepOf value w event next → (from to : ℕ) → IsAgent w from → IsAgent w to → (bytes : List ℕ)
          → Contains (under_way (without_taken w event) from to) bytes → Contains (under_way w from to) bytes
      was_there event is from to sender receiver bytes here =
          elim (left_is event is from to sender receiver) [
            | inl same ↦ subst (λ (ms : List (List ℕ)). Contains ms bytes) same here
            | inr taken ↦ drop_one (under_way w from to) bytes (subst (λ (ms : List (List ℕ)). Contains ms bytes) taken.1 here)
          ]

      module _ (event : Event) (is : IsStepOf value w event next) where
        grown : HaveGrown w next
        grown = step_grows value w next event is

        after_sound : IsSoundStep w is.agent.task is.step
        after_sound = step_sound event is

        agents_sound : (agent : ℕ) (t : AgentTask) → task_of tasks agent ≡ Some t → IsSomeAnd (agent_at next agent) (IsSoundAgent next t)
        agents_sound agent t at = by (cases_eq agent (agent_of event))
          where
            by : (agent ≡ agent_of event) ⊎ (agent ≡ agent_of event → ⊥) → IsSomeAnd (agent_at next agent) (IsSoundAgent next t)
            by (inl same) =
                let task : is.agent.task ≡ t = same_Some is.agent.task t (sym (task_at (agent_of event) is.agent is.there) ∙ ap (task_of tasks) (sym same) ∙ at) in
                subst (λ (o : Option AgentRecord). IsSomeAnd o (IsSoundAgent next t)) (sym (ap (agent_at next) same ∙ is.after))
                (agent_stays w next records_sound grown t is.step.after (subst (λ (u : AgentTask). IsSoundAgent w u is.step.after) task after_sound.agent))
            by (inr other) =
                subst (λ (o : Option AgentRecord). IsSomeAnd o (IsSoundAgent next t)) (sym (is.others agent other))
                (some_and (IsSoundAgent w t) (IsSoundAgent next t) (agent_at w agent) (agent_stays w next records_sound grown t) (sound.agents agent t at))

        -- what goes out
        new_sound : All (λ (x : Out). IsSoundMessage next is.agent.task x.bytes) (map in_bytes is.step.out)
        new_sound =
            let t = is.agent.task in
            let of = member_of tasks (agree_numbered tasks are.agree) w team (agent_of event) is.agent is.there in
            let mine : agent_at next t.me ≡ Some is.step.after = ap (agent_at next) of.me ∙ is.after in
            All-map (λ (x : Out). IsSoundMessage next t x.bytes) in_bytes is.step.out
            (All-weaker (GoesOut t is.step.after.search.kept) (λ (x : Outgoing). IsSoundMessage next t (spelling x.message))
            (λ x goes. record {
              message = x.message;
              is = refl;
              state =
                  if_state (λ m. IsStateFor t m × IsSentIn t is.step.after.search.kept m) (IsSoundState next t)
                  (λ m parts. record {
                    fits = parts.0;
                    sent = subst (λ (o : Option AgentRecord). IsSomeAnd o (λ r. IsSentIn t r.search.kept m)) (sym mine) parts.1;
                  }) x.message goes;
            })
            is.step.out after_sound.out)

        sent_sound : (from to : ℕ) (t : AgentTask) (bytes : List ℕ) → task_of tasks from ≡ Some t → Contains (sent_between event is.step from to) bytes → IsSoundMessage next t bytes
        sent_sound from to t bytes at here = by (from == agent_of event) refl here
          where
            by : (b : Bool) → (from == agent_of event) ≡ b → Contains (if b then sent_to to (map in_bytes is.step.out) else []) bytes → IsSoundMessage next t bytes
            by false test here = absurd (no_member bytes here)
            by true test here =
                let same = eqb-true from (agent_of event) test in
                let task : is.agent.task ≡ t = same_Some is.agent.task t (sym (task_at (agent_of event) is.agent is.there) ∙ ap (task_of tasks) (sym same) ∙ at) in
                subst (λ (u : AgentTask). IsSoundMessage next u bytes) task
                (All-contains (IsSoundMessage next is.agent.task) (sent_to to (map in_bytes is.step.out)) bytes
                (All-map (IsSoundMessage next is.agent.task) (λ (x : Out). x.bytes) (filter (λ x. x.to == to) (map in_bytes is.step.out))
                (All-filter (λ (x : Out). x.to == to) (λ (x : Out). IsSoundMessage next is.agent.task x.bytes) (map in_bytes is.step.out) new_sound))
                here)

        pub states_stay_sound : AreStatesSound tasks next
        states_stay_sound = record {
          agents = agents_sound;
          mail = λ from to t u bytes at to_at here.
              let sender = agent_of_task from t at in
              let receiver = agent_of_task to u to_at in
              by from to t u bytes at to_at sender receiver
              (Contains-append_cases (under_way (without_taken w event) from to) (sent_between event is.step from to) bytes
              (subst (λ (ms : List (List ℕ)). Contains ms bytes) (is.mail from to sender receiver) here));
        }
          where
            by : (from to : ℕ) (t u : AgentTask) (bytes : List ℕ) → task_of tasks from ≡ Some t → task_of tasks to ≡ Some u → IsAgent w from → IsAgent w to
                → Contains (under_way (without_taken w event) from to) bytes ⊎ Contains (sent_between event is.step from to) bytes → IsSoundMessage next t bytes
            by from to t u bytes at to_at sender receiver (inl old) =
                message_stays w next records_sound grown t bytes
                (sound.mail from to t u bytes at to_at (was_there event is from to sender receiver bytes old))
            by from to t u bytes at to_at sender receiver (inr new) = sent_sound from to t bytes at new
