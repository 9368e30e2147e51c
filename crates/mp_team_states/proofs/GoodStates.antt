-- What a receiver reads, and which joint states it knows then, in the world of a team.
use Rattle.mp_world.proofs.Basics.{◌≡◌, ℕ, ◌+◌, ◌-◌, Bool, true, cond, List, get_or, Option, Some, refl, sym, ap, subst, ◌∙◌, arith, Contains, IsSomeAnd, Ok, Err, not, slice_get, if◌then◌else◌, enumerate_from, eq-eqb, length-map, length-enumerate_from, same_Some}
use Rattle.std.specs.FinSet as set
use Rattle.mp_task.specs.Plan.{IsJointState}
use Rattle.mp_messages.specs.declared.message.Message.TheVariants as kinds
use Rattle.mp_search.specs.Sending.{message_of_entry}
use Rattle.mp_machine.proofs.TakingLemmas.{took_spelled}
use Rattle.mp_world.specs.AgentWords.{AgentTask, private_of, task_of, State, message_of, spelling, UnknownToken, WrongByte, AgentRecord, without_messages, took, unless_bad, with_state}
use Rattle.mp_world.specs.SearchWords.{Numbers, Entry, AgentState, no_tag, IsStateFor, is_byte_right, is_token_given, state_of}
use Rattle.mp_world.specs.Team.{AreTeamTasks}
use Rattle.mp_world.specs.World.{IsTeamWorld, World, agent_at, under_way}
use Rattle.mp_world.specs.Joint.{joint, joint_told, private_facts, told_by}
use Rattle.mp_world.proofs.Agents.{agree_numbered, member_of}
use Rattle.mp_team_states.specs.Sent.{IsSentIn}
use Rattle.mp_team_states.specs.Sound.{AreStatesSound, AreTold, IsSentState, IsSoundState, IsStateOf}
use Rattle.mp_team_states.proofs.JointStates.{read_place, received_joint, same_from_joint, sent_joint}
use Rattle.mp_team_states.proofs.Received.{byte_right, state_known, token_given}
use Rattle.mp_team_states.proofs.StepsSound.{agent_sound, at_me, limits_of, spelled_state, state_heard, task_at}

module _ (tasks : List AgentTask) (are : AreTeamTasks tasks) (w : World) (team : IsTeamWorld tasks w) where
  me_is : (agent : ℕ) (r : AgentRecord) → agent_at w agent ≡ Some r → r.task.me ≡ agent
  me_is agent r there = (member_of tasks (agree_numbered tasks are.agree) w team agent r there).me

  -- a state that an agent knows as a joint state
  module _ (agent : ℕ) (r : AgentRecord) (there : agent_at w agent ≡ Some r) (s : AgentState) (is : IsStateOf w r.task s) where
    pub known_is_joint : IsJointState tasks (joint w agent s)
    known_is_joint =
        length-map (enumerate_from 1 s.tags) (private_facts w agent s.mine) ∙ length-enumerate_from 1 s.tags ∙ is.number
        ∙ (member_of tasks (agree_numbered tasks are.agree) w team agent r there).agents

    pub own_facts : private_of (joint w agent s) agent ≡ s.mine
    own_facts =
        let of = member_of tasks (agree_numbered tasks are.agree) w team agent r there in
        let fit = limits_of tasks are w team agent r there in
        let low = fit.from_1 in
        let high = fit.in_team in
        let number = is.number in
        let mine = of.me in
        let me : 1 + (agent - 1) ≡ agent = omega arith in
        read_place (private_facts w agent s.mine) 1 s.tags (agent - 1) no_tag set.empty (omega arith)
        ∙ ap (λ (b : Bool). cond b s.mine (told_by w (1 + (agent - 1), get_or s.tags (agent - 1) no_tag))) (eq-eqb (1 + (agent - 1)) agent me)

  module _ (sound : AreStatesSound tasks w) where
    pub equal_if_joint : (agent : ℕ) (r : AgentRecord) (a b : AgentState) → agent_at w agent ≡ Some r → IsStateOf w r.task a → IsStateOf w r.task b
        → joint w agent a ≡ joint w agent b → a ≡ b
    equal_if_joint agent r a b there a_is b_is same =
        let me = me_is agent r there in
        same_from_joint w r.task (limits_of tasks are w team agent r there) r (at_me tasks are w team agent r there)
        (agent_sound tasks are w team sound agent r there) a b a_is b_is
        ((λ j. joint w (me j) a) ∙ same ∙ (λ j. joint w (sym me j) b))

    sent_in : (agent : ℕ) (r : AgentRecord) (m : State) → agent_at w agent ≡ Some r → IsSentState w r.task m → IsSentIn r.task r.search.kept m
    sent_in agent r m there sent =
        subst (λ (o : Option AgentRecord). IsSomeAnd o (λ x. IsSentIn r.task x.search.kept m)) (at_me tasks are w team agent r there) sent

    pub tells_of_entry : (agent : ℕ) (r : AgentRecord) (m : State) (n : ℕ) (e : Entry AgentState) → agent_at w agent ≡ Some r → IsSentState w r.task m
        → slice_get r.search.kept.sent m.sent ≡ Some n → slice_get r.search.kept.entries n ≡ Some e
        → (joint w agent e.key ≡ joint_told w m) × (m.g ≡ e.g) × (m.h ≡ e.h)
    unfolding message_of_entry
    tells_of_entry agent r m n e there sent at_sent at =
        let s = sent_in agent r m there sent in
        let number : s.number ≡ n = same_Some s.number n (sym s.sent ∙ at_sent) in
        let one : s.entry ≡ e = same_Some s.entry e (sym s.there ∙ ap (slice_get r.search.kept.entries) number ∙ at) in
        let is : m ≡ message_of_entry r.task r.search.kept m.sent e = subst (λ (e : Entry AgentState). m ≡ message_of_entry r.task r.search.kept m.sent e) one s.is in (
          ap (λ (a : ℕ). joint w a e.key) (sym (me_is agent r there))
              ∙ sent_joint w r.task (limits_of tasks are w team agent r there) r (at_me tasks are w team agent r there)
              (agent_sound tasks are w team sound agent r there) m n e s at_sent at,
          ap (λ (m : State). m.g) is,
          ap (λ (m : State). m.h) is,
        )

    module _ (from to : ℕ) (u : AgentTask) (r : AgentRecord) (at : task_of tasks from ≡ Some u) (there : agent_at w to ≡ Some r) where
      heard : (m : State) → IsSoundState w u m → IsStateFor r.task m × AreTold w m.tags
      heard m state = state_heard tasks are w team sound from u r.task m at (member_of tasks (agree_numbered tasks are.agree) w team to r there).task state

      pub receiver_knows : (m : State) → IsSoundState w u m
          → IsStateOf w r.task (state_of r.task r.search.kept m) × (joint w to (state_of r.task r.search.kept m) ≡ joint_told w m)
      receiver_knows m state =
          let h = heard m state in
          let fit = limits_of tasks are w team to r there in
          let mine = at_me tasks are w team to r there in
          let known = agent_sound tasks are w team sound to r there in (
            state_known w r.task fit r mine known m h.0 h.1,
            ap (λ (a : ℕ). joint w a (state_of r.task r.search.kept m)) (sym (me_is to r there)) ∙ received_joint w r.task fit r mine known m h.0,
          )

      pub what_is_read : (bytes : List ℕ) (m : State) → Contains (under_way w from to) bytes → message_of r.task.agents r.task.publics bytes ≡ Some (kinds.State m)
          → (bytes ≡ spelling (kinds.State m)) × IsSoundState w u m
      what_is_read bytes m here reads =
          let sent = sound.mail from to u r.task bytes at (task_at tasks are w team to r there) here in
          let read =
          spelled_state r.task (limits_of tasks are w team to r there) (IsSoundState w u)
          (λ y state. (heard y state).0) bytes sent.message sent.is sent.state m reads
          in
          (sent.is ∙ ap spelling read.0, read.1)

      pub state_is_taken : (value : Numbers → Numbers → Option ℕ) (m : State) → IsSoundState w u m
          → (is_token_given r.task r.search.kept m ≡ true) × (is_byte_right r.task r.search.kept m ≡ true)
          × (took value r from (spelling (kinds.State m)) ≡ Ok (without_messages (with_state value r from m)))
      state_is_taken value m state =
          let h = heard m state in
          let fit = limits_of tasks are w team to r there in
          let mine = at_me tasks are w team to r there in
          let known = agent_sound tasks are w team sound to r there in
          let given = token_given w r.task fit r mine known m h.0 h.1 in
          let right = byte_right w r.task fit r mine known m h.0 h.1 in
          let small = fit.publics in (
            given,
            right,
            sym (took_spelled value r from (spelling (kinds.State m)) (kinds.State m) (omega arith) (record { fits = h.0; is = refl }))
                ∙ (λ j. if not (given j) then Err UnknownToken else unless_bad (not (right j)) WrongByte (without_messages (with_state value r from m))),
          )
