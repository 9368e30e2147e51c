-- All messages that go out are such as messages have room for, so that each is read as itself where it arrives.
use Rattle.mp_world.proofs.Basics.{◌≡◌, ℕ, ◌<◌, ◌^◌, Bool, true, false, List, [], ◌∷◌, ◌++◌, length, map, drop, get_or, Some, All, refl, sym, ap, subst, ◌∙◌, ◌⊎◌, inl, inr, ◌==◌, filter, if◌then◌else◌, filter_map, All-append, All-filter, All-head, All-map, All-nil}
use Rattle.mp_world.proofs.Basics.{All-tail, All-weaker, filter-append, filter_map-append}
use Rattle.mp_messages.specs.declared.message.Message.TheVariants.{State}
use Rattle.mp_messages.specs.Spelling.{IsSpelling}
use Rattle.mp_search.proofs.Spelled.{fitting_is_message}
use Rattle.mp_world.specs.AgentWords.{AgentTask, Event, Expand, Take, Start, Message, Marker, Report, Pick, Trace, Length, Done, message_of, Fits, spelling, Out, Outgoing, in_bytes}
use Rattle.mp_world.specs.SearchWords.{Record, AgentState}
use Rattle.mp_world.specs.Events.{agent_of, sent_in, without_taken}
use Rattle.mp_world.specs.Steps.{IsStepOf, sent_to}
use Rattle.mp_world.specs.Team.{AreTeamTasks}
use Rattle.mp_world.specs.Values.{Values}
use Rattle.mp_world.specs.World.{IsAgent, IsTeamWorld, World, under_way}
use Rattle.mp_world.proofs.Mail.{under_way-other, under_way-same}
use Rattle.mp_world.proofs.Stepping.{team_lists}
use Rattle.mp_team_snapshots.specs.Messages.{messages}
use Rattle.mp_team_snapshots.specs.Team.{HasRoom, IsTeamOf}
use Rattle.mp_team_snapshots.proofs.Changes.{left, numbers_next}
use Rattle.mp_team_snapshots.proofs.Protocol.{IsOf, pair}
use Rattle.mp_team_snapshots.proofs.Sendings.{messages_to}
use Rattle.mp_team_snapshots.proofs.TakingFirst.{is_receiver, is_sender}
use Rattle.mp_team_snapshots.proofs.Worlds.{is_agent_of, team_numbers}
use Rattle.mp_team_states.specs.Sound.{AreStatesSound}
use Rattle.mp_team_states.proofs.LocalStates.{GoesOut}
use Rattle.mp_team_states.proofs.StepsSound.{step_sound}
use Rattle.mp_team_verdicts.specs.Ending.{end_messages, is_of_end}
use Rattle.mp_team_verdicts.proofs.EndMessages.{ends_to}

-- the numbers of a message of a walk back are such as messages have room for
abbrev pub HasEndRoom : Message → Type 0
HasEndRoom (State s) = Unit {0}
HasEndRoom (Marker number) = Unit {0}
HasEndRoom (Report found) = Unit {0}
HasEndRoom (Pick number) = number < 2 ^ 60
HasEndRoom (Trace sent back) = (sent < 2 ^ 60) × (back < 2 ^ 60)
HasEndRoom (Length plan) = plan < 2 ^ 60
HasEndRoom (Done kind) = Unit {0}

pub no_end_has_room : (m : Message) → is_of_end m ≡ false → HasEndRoom m
no_end_has_room (State s) other = tt
no_end_has_room (Marker number) other = tt
no_end_has_room (Report found) other = tt
no_end_has_room (Pick number) other = absurd (let impossible : ⊥ = cc in impossible)
no_end_has_room (Trace sent back) other = absurd (let impossible : ⊥ = cc in impossible)
no_end_has_room (Length plan) other = absurd (let impossible : ⊥ = cc in impossible)
no_end_has_room (Done kind) other = absurd (let impossible : ⊥ = cc in impossible)

fits_by : (t : AgentTask) (kept : Record AgentState) (x : Outgoing) → GoesOut t kept x → HasRoom x.message → HasEndRoom x.message → Fits t.agents t.publics x.message
fits_by t kept x goes room end = by x.message goes room end
  where
    by : (m : Message) → GoesOut t kept (record { to = x.to; message = m }) → HasRoom m → HasEndRoom m → Fits t.agents t.publics m
    by (State s) goes room end = goes.0
    by (Marker number) goes room end = record { numbers = room; facts = tt; rising = tt; tags = tt }
    by (Report found) goes room end = record { numbers = room; facts = tt; rising = tt; tags = tt }
    by (Pick number) goes room end = record { numbers = end; facts = tt; rising = tt; tags = tt }
    by (Trace sent back) goes room end = record { numbers = end; facts = tt; rising = tt; tags = tt }
    by (Length plan) goes room end = record { numbers = end; facts = tt; rising = tt; tags = tt }
    by (Done kind) goes room end = record { numbers = tt; facts = tt; rising = tt; tags = tt }

-- all messages that go out fit a team of so many agents
abbrev pub AllFit : ℕ → ℕ → List Outgoing → Type 0
AllFit agents publics out = All (λ x. Fits agents publics x.message) out

module _ (tasks : List AgentTask) (are : AreTeamTasks tasks) (w : World) (team : IsTeamWorld tasks w) (sound : AreStatesSound tasks w)
    (value : Values) (next : World) where
  pub step_fits : (event : Event) (is : IsStepOf value w event next) → All (λ x. HasRoom x.message) is.step.out → All (λ x. HasEndRoom x.message) is.step.out
      → AllFit is.agent.task.agents is.agent.task.publics is.step.out
  step_fits event is room end k d inside =
      fits_by is.agent.task is.step.after.search.kept (get_or is.step.out k d) ((step_sound tasks are w team sound value next event is).out k d inside) (room k d inside) (end k d inside)

-- bytes are those of a message that fits
pub record IsRead (agents publics : ℕ) (bytes : List ℕ) : Type 0 where
  pub message : Message
  pub spelled : IsSpelling agents publics message bytes

-- so it is with all that is under way
abbrev pub AreRead : ℕ → ℕ → World → Type 0
AreRead agents publics w = (i j : ℕ) → IsOf agents i → IsOf agents j → All (IsRead agents publics) (under_way w i j)

-- what holds of all messages that go out holds of those that are sent to an agent, as bytes
pub sent_all : (Q : Outgoing → Type 0) (P : List ℕ → Type 0) → ((x : Outgoing) → Q x → P (spelling x.message)) → (to : ℕ) (out : List Outgoing)
    → All Q out → All P (sent_to to (map in_bytes out))
sent_all Q P each to out all =
    All-map P (λ (x : Out). x.bytes) (filter (λ x. x.to == to) (map in_bytes out))
    (All-filter (λ (x : Out). x.to == to) (λ (x : Out). P x.bytes) (map in_bytes out)
    (All-map (λ (x : Out). P x.bytes) in_bytes out (All-weaker Q (λ (x : Outgoing). P (spelling x.message)) each out all)))

-- what is read of them
sent_read : (agents publics : ℕ) → publics < 2 ^ 32 → (to : ℕ) (out : List Outgoing) → AllFit agents publics out
    → filter_map (message_of agents publics) (sent_to to (map in_bytes out)) ≡ messages_to to out
sent_read agents publics small to [] fits = refl
sent_read agents publics small to (x ∷ xs) fits =
    by (x.to == to) refl (sent_read agents publics small to xs (All-tail (λ (y : Outgoing). Fits agents publics y.message) x xs fits))
  where
    read : message_of agents publics (spelling x.message) ≡ Some x.message
    read =
        fitting_is_message agents publics x.message small (All-head (λ (y : Outgoing). Fits agents publics y.message) x xs fits)

    by : (b : Bool) → (x.to == to) ≡ b → filter_map (message_of agents publics) (sent_to to (map in_bytes xs)) ≡ messages_to to xs
        → filter_map (message_of agents publics) (sent_to to (map in_bytes (x ∷ xs))) ≡ messages_to to (x ∷ xs)
    by true test rest = rw (test, read) (ap (λ ms. x.message ∷ ms) rest)
    by false test rest = rw test rest

drop_all : {X : Type 0} (P : X → Type 0) (xs : List X) → All P xs → All P (drop 1 xs)
drop_all P [] all = all
drop_all P (x ∷ xs) all = All-tail P x xs all

module _ (value : Values) (publics : ℕ) (tasks : List AgentTask) (team : IsTeamOf publics tasks) (w : World)
    (is : IsTeamWorld tasks w) (P : List ℕ → Type 0) where
  in_team : (i : ℕ) → IsOf (length tasks) i → IsAgent w i
  in_team = is_agent_of publics tasks team w (team_numbers publics tasks team w is)

  -- what holds of all messages under way from one agent to another holds of those that are left
  all_left : (event : Event) (next : World) → IsStepOf value w event next → (i j : ℕ) → IsOf (length tasks) i → IsOf (length tasks) j
      → All P (under_way w i j) → All P (under_way (without_taken w event) i j)
  all_left (Expand agent) next step i j is_i is_j all = all
  all_left Start next step i j is_i is_j all = all
  all_left (Take b a) next step i j is_i is_j all = by (pair i j a b)
    where
      is_a : IsOf (length tasks) a
      is_a = is_sender value publics tasks team w is b a next step

      is_b : IsOf (length tasks) b
      is_b = is_receiver value publics tasks team w is b a next step

      rest : List (List ℕ)
      rest = drop 1 (under_way w a b)

      by : ((i ≡ a) × (j ≡ b)) ⊎ ((i ≡ a → ⊥) ⊎ (j ≡ b → ⊥)) → All P (under_way (without_taken w (Take b a)) i j)
      by (inl both) =
          let before : All P (under_way w a b) = subst (λ (k : ℕ). All P (under_way w a k)) both.1 (subst (λ (k : ℕ). All P (under_way w k j)) both.0 all) in
          let this : All P (under_way (without_taken w (Take b a)) a b) =
          subst (λ (ms : List (List ℕ)). All P ms) (sym (under_way-same w (team_lists tasks w is) a b rest (in_team a is_a) (in_team b is_b)))
          (drop_all P (under_way w a b) before) in
          subst (λ (k : ℕ). All P (under_way (without_taken w (Take b a)) k j)) (sym both.0)
          (subst (λ (k : ℕ). All P (under_way (without_taken w (Take b a)) a k)) (sym both.1) this)
      by (inr other) =
          subst (λ (ms : List (List ℕ)). All P ms)
          (sym (under_way-other w (team_lists tasks w is) a b i j rest (in_team a is_a) (in_team b is_b) (in_team i is_i) (in_team j is_j) other)) all

  -- and so it goes on where it holds of those that are sent
  pub all_next : (event : Event) (next : World) (step : IsStepOf value w event next) (i j : ℕ) → IsOf (length tasks) i → IsOf (length tasks) j
      → All P (sent_to j (sent_in step.step)) → All P (under_way w i j) → All P (under_way next i j)
  all_next event next step i j is_i is_j sent all =
      subst (λ (ms : List (List ℕ)). All P ms) (sym (step.mail i j (in_team i is_i) (in_team j is_j)))
      (All-append P (under_way (without_taken w event) i j) (if i == agent_of event then sent_to j (sent_in step.step) else [])
      (all_left event next step i j is_i is_j all) (by (i == agent_of event)))
    where
      by : (b : Bool) → All P (if b then sent_to j (sent_in step.step) else [])
      by true = sent
      by false = All-nil P

module _ (value : Values) (publics : ℕ) (tasks : List AgentTask) (team : IsTeamOf publics tasks) (w : World)
    (is : IsTeamWorld tasks w) (event : Event) (next : World) (step : IsStepOf value w event next) (fits : AllFit (length tasks) publics step.step.out) where
  agent_of_number : (i : ℕ) → IsOf (length tasks) i → IsAgent w i
  agent_of_number = is_agent_of publics tasks team w (team_numbers publics tasks team w is)

  messages_next : (i j : ℕ) → IsOf (length tasks) i → IsOf (length tasks) j
      → messages publics next i j ≡ left value publics tasks team w is event next step i j ++ (if i == agent_of event then messages_to j step.step.out else [])
  messages_next i j is_i is_j =
      ap (λ n. filter_map (message_of n publics) (under_way next i j)) (numbers_next value publics tasks team w is event next step).size
      ∙ ap (filter_map (message_of (length tasks) publics)) (step.mail i j (agent_of_number i is_i) (agent_of_number j is_j))
      ∙ filter_map-append (message_of (length tasks) publics) (under_way (without_taken w event) i j) (if i == agent_of event then sent_to j (sent_in step.step) else [])
      ∙ ap (λ xs. left value publics tasks team w is event next step i j ++ xs) (by (i == agent_of event))
    where
      by : (b : Bool) → filter_map (message_of (length tasks) publics) (if b then sent_to j (sent_in step.step) else []) ≡ (if b then messages_to j step.step.out else [])
      by true = sent_read (length tasks) publics team.facts j step.step.out fits
      by false = refl

  -- the messages of the end that are under way are those left and those sent
  pub ends_next : (i j : ℕ) → IsOf (length tasks) i → IsOf (length tasks) j
      → end_messages publics next i j
      ≡ filter is_of_end (left value publics tasks team w is event next step i j) ++ (if i == agent_of event then ends_to j step.step.out else [])
  ends_next i j is_i is_j =
      ap (filter is_of_end) (messages_next i j is_i is_j)
      ∙ filter-append is_of_end (left value publics tasks team w is event next step i j) (if i == agent_of event then messages_to j step.step.out else [])
      ∙ ap (λ xs. filter is_of_end (left value publics tasks team w is event next step i j) ++ xs) (by (i == agent_of event))
    where
      by : (b : Bool) → filter is_of_end (if b then messages_to j step.step.out else []) ≡ (if b then ends_to j step.step.out else [])
      by true = refl
      by false = refl

  pub read_next : AreRead (length tasks) publics w → AreRead (length tasks) publics next
  read_next old i j is_i is_j =
      all_next value publics tasks team w is (IsRead (length tasks) publics) event next step i j is_i is_j
      (sent_all (λ (x : Outgoing). Fits (length tasks) publics x.message) (IsRead (length tasks) publics)
      (λ x fit. record { message = x.message; spelled = record { fits = fit; is = refl } }) j step.step.out fits) (old i j is_i is_j)
