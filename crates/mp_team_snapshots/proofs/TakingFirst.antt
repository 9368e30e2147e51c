-- The message that an agent takes is the oldest one from its sender; all others are left.
use Rattle.mp_world.proofs.Basics.{◌≡◌, ◌≢◌, ℕ, true, List, [], ◌∷◌, length, drop, Option, Some, None, refl, sym, ap, subst, ◌∙◌, ◌⊎◌, inl, inr, ◌==◌, not, slice_index_or, filter_map, All-contains}
use Rattle.mp_world.specs.AgentWords.{AgentTask, Take, Message, message_of}
use Rattle.mp_world.specs.Events.{taken}
use Rattle.mp_world.specs.Steps.{IsStepOf}
use Rattle.mp_world.specs.Values.{Values}
use Rattle.mp_world.specs.World.{IsAgent, IsTeamWorld, World, under_way}
use Rattle.mp_world.proofs.Agents.{member_of, sender_of}
use Rattle.mp_world.proofs.Mail.{agent_of_team, under_way-other, under_way-same}
use Rattle.mp_world.proofs.Stepping.{team_lists}
use Rattle.mp_team_snapshots.specs.Messages.{marker_of, markers, messages, report_of, reports}
use Rattle.mp_team_snapshots.specs.Team.{IsTeamOf}
use Rattle.mp_team_snapshots.proofs.Changes.{left, messages_before}
use Rattle.mp_team_snapshots.proofs.Protocol.{IsOf, pair}
use Rattle.mp_team_snapshots.proofs.Reading.{read_first}
use Rattle.mp_team_snapshots.proofs.Worlds.{is_agent_of, is_of_agent, team_numbers}

front_there : (xs : List (List ℕ)) → not (length xs == 0) ≡ true → xs ≡ slice_index_or xs 0 [] ∷ drop 1 xs
front_there [] some = absurd cc
front_there (x ∷ xs) some = refl

module _ (value : Values) (publics : ℕ) (tasks : List AgentTask) (team : IsTeamOf publics tasks) (w : World)
    (is : IsTeamWorld tasks w) (b a : ℕ) (next : World) (step : IsStepOf value w (Take b a) next) where
  sender : IsAgent w a × (a ≢ b)
  sender = sender_of tasks team.numbered w is b a step.agent step.there step.may

  pub is_sender : IsOf (length tasks) a
  is_sender = is_of_agent publics tasks team w (team_numbers publics tasks team w is) a sender.0

  pub is_receiver : IsOf (length tasks) b
  is_receiver = is_of_agent publics tasks team w (team_numbers publics tasks team w is) b (agent_of_team w b step.agent step.there)

  pub apart : a ≢ b
  apart = sender.1

  -- the receiver reads messages as those of its team
  team_reads : (bytes : List ℕ) → message_of step.agent.task.agents step.agent.task.publics bytes ≡ message_of (length tasks) publics bytes
  team_reads bytes =
      let of = member_of tasks team.numbered w is b step.agent step.there in
      let alike = All-contains (λ t. t.publics ≡ publics) tasks step.agent.task team.alike of.task in
      let agents = of.agents in
      λ k. message_of (agents k) (alike k) bytes

  agent_there_of : (i : ℕ) → IsOf (length tasks) i → IsAgent w i
  agent_there_of = is_agent_of publics tasks team w (team_numbers publics tasks team w is)

  module _ (m : Message) (read : message_of step.agent.task.agents step.agent.task.publics (taken w (Take b a)) ≡ Some m) where
    pub taken_first : messages publics w a b ≡ m ∷ left value publics tasks team w is (Take b a) next step a b
    taken_first =
        messages_before value publics tasks team w is (Take b a) next step a b
        ∙ ap (filter_map (message_of (length tasks) publics)) (front_there (under_way w a b) step.message)
        ∙ read_first (length tasks) publics (taken w (Take b a)) (drop 1 (under_way w a b)) m (sym (team_reads (taken w (Take b a))) ∙ read)
        ∙ ap (λ ms. m ∷ filter_map (message_of (length tasks) publics) ms)
        (sym (under_way-same w (team_lists tasks w is) a b (drop 1 (under_way w a b)) sender.0 (agent_there_of b is_receiver)))

    pub left_others : (i j : ℕ) → IsOf (length tasks) i → IsOf (length tasks) j → (i ≢ a) ⊎ (j ≢ b)
        → left value publics tasks team w is (Take b a) next step i j ≡ messages publics w i j
    left_others i j is_i is_j other =
        ap (filter_map (message_of (length tasks) publics))
        (under_way-other w (team_lists tasks w is) a b i j (drop 1 (under_way w a b)) sender.0 (agent_there_of b is_receiver) (agent_there_of i is_i) (agent_there_of j is_j) other)
        ∙ sym (messages_before value publics tasks team w is (Take b a) next step i j)

    -- what the message is no part of is left: where it is no marker, all markers
    part_left : {X : Type 0} (part : Message → Option X) → part m ≡ None → (i j : ℕ) → IsOf (length tasks) i → IsOf (length tasks) j
        → filter_map part (left value publics tasks team w is (Take b a) next step i j) ≡ filter_map part (messages publics w i j)
    part_left {X} part plain i j is_i is_j = by (pair i j a b)
      where
        this : filter_map part (left value publics tasks team w is (Take b a) next step a b) ≡ filter_map part (messages publics w a b)
        this = sym (ap (filter_map part) taken_first ∙ rw plain refl)

        by : ((i ≡ a) × (j ≡ b)) ⊎ ((i ≢ a) ⊎ (j ≢ b))
            → filter_map part (left value publics tasks team w is (Take b a) next step i j) ≡ filter_map part (messages publics w i j)
        by (inl same) =
            subst (λ k. filter_map part (left value publics tasks team w is (Take b a) next step k j) ≡ filter_map part (messages publics w k j)) (sym same.0)
            (subst (λ k. filter_map part (left value publics tasks team w is (Take b a) next step a k) ≡ filter_map part (messages publics w a k)) (sym same.1) this)
        by (inr other) = ap (filter_map part) (left_others i j is_i is_j other)

    pub markers_left : marker_of m ≡ None → (i j : ℕ) → IsOf (length tasks) i → IsOf (length tasks) j
        → filter_map marker_of (left value publics tasks team w is (Take b a) next step i j) ≡ markers publics w i j
    markers_left = part_left marker_of

    pub reports_left : report_of m ≡ None → (i j : ℕ) → IsOf (length tasks) i → IsOf (length tasks) j
        → filter_map report_of (left value publics tasks team w is (Take b a) next step i j) ≡ reports publics w i j
    reports_left = part_left report_of
