-- The entries that an event leaves in a log: its own one, and behind it the messages that went out.
use Rattle.mp_world.proofs.Basics.{◌≡◌, ℕ, Bool, true, false, ◌&&◌, List, [], ◌∷◌, map, Some, refl, sym, ap, ◌∙◌, ◌==◌, All, if◌then◌else◌, eq-eqb, eqb-false, eqb-true, All-cons, All-head, All-nil, All-tail}
use Rattle.mp_messages.specs.declared.history.Entry.{Entry}
use Rattle.mp_messages.specs.History.{agent_of as owner_of, event_of, received}
use Rattle.mp_world.specs.AgentWords.{Event, Expand, Take, Start, part, schedule, sent, Out}
use Rattle.mp_world.specs.Events.{agent_of}
use Rattle.mp_world.specs.Logs.{entries_of, entry_of, put_by}
use Rattle.mp_world.specs.Steps.{sent_to}
use Rattle.mp_world.proofs.Mail.{sent_from}

-- a test of numbers from both sides
pub eqb-turned : (a b : ℕ) → (a == b) ≡ (b == a)
eqb-turned a b = by (a == b) (b == a) refl refl
  where
    by : (p q : Bool) → (a == b) ≡ p → (b == a) ≡ q → p ≡ q
    by true true is other = refl
    by false false is other = refl
    by true false is other = absurd (eqb-false b a other (sym (eqb-true a b is)))
    by false true is other = absurd (eqb-false a b is (sym (eqb-true b a other)))

-- ---- the messages that went out

put_schedule : (agent : ℕ) (out : List Out) → schedule (map (put_by agent) out) ≡ []
put_schedule agent [] = refl
put_schedule agent (x ∷ xs) = put_schedule agent xs

pub put_received : (from to agent : ℕ) (out : List Out) → received from to (map (put_by agent) out) ≡ []
put_received from to agent [] = refl
put_received from to agent (x ∷ xs) = put_received from to agent xs

pub put_sent : (from to agent : ℕ) (out : List Out) → sent from to (map (put_by agent) out) ≡ sent_from agent from to out
put_sent from to agent out = by (agent == from) refl (from == agent) refl
  where
    for_it : (out : List Out) → (agent == from) ≡ true → sent from to (map (put_by agent) out) ≡ sent_to to out
    for_it [] is = refl
    for_it (x ∷ xs) is = one (x.to == to) refl (for_it xs is)
      where
        one : (b : Bool) → (x.to == to) ≡ b → sent from to (map (put_by agent) xs) ≡ sent_to to xs → sent from to (map (put_by agent) (x ∷ xs)) ≡ sent_to to (x ∷ xs)
        one true here others = rw (is, here) (ap (λ ms. x.bytes ∷ ms) others)
        one false here others = rw (is, here) others

    for_others : (out : List Out) → (agent == from) ≡ false → sent from to (map (put_by agent) out) ≡ []
    for_others [] is = refl
    for_others (x ∷ xs) is = rw is (for_others xs is)

    by : (b : Bool) → (agent == from) ≡ b → (c : Bool) → (from == agent) ≡ c → sent from to (map (put_by agent) out) ≡ (if c then sent_to to out else [])
    by true is true other = for_it out is
    by false is false other = for_others out is
    by true is false other = absurd (eqb-false from agent other (sym (eqb-true agent from is)))
    by false is true other = absurd (eqb-false agent from is (sym (eqb-true from agent other)))

pub put_owners : (agent : ℕ) (out : List Out) → All (λ e. owner_of e ≡ agent) (map (put_by agent) out)
put_owners agent [] = All-nil (λ e. owner_of e ≡ agent)
put_owners agent (x ∷ xs) = All-cons (λ e. owner_of e ≡ agent) (put_by agent x) (map (put_by agent) xs) refl (put_owners agent xs)

-- ---- all entries of an event

pub own_entry : (event : Event) (bytes : List ℕ) → event_of (entry_of event bytes) ≡ Some event
own_entry (Expand agent) bytes = refl
own_entry (Take by from) bytes = refl
own_entry Start bytes = refl

pub own_owner : (event : Event) (bytes : List ℕ) → owner_of (entry_of event bytes) ≡ agent_of event
own_owner (Expand agent) bytes = refl
own_owner (Take by from) bytes = refl
own_owner Start bytes = refl

pub entries_schedule : (event : Event) (bytes : List ℕ) (out : List Out) → schedule (entries_of event bytes out) ≡ event ∷ []
entries_schedule (Expand agent) bytes out = ap (λ es. Expand agent ∷ es) (put_schedule agent out)
entries_schedule (Take by from) bytes out = ap (λ es. Take by from ∷ es) (put_schedule by out)
entries_schedule Start bytes out = ap (λ es. Start ∷ es) (put_schedule 1 out)

pub entries_sent : (from to : ℕ) (event : Event) (bytes : List ℕ) (out : List Out) → sent from to (entries_of event bytes out) ≡ sent_from (agent_of event) from to out
entries_sent from to (Expand agent) bytes out = put_sent from to agent out
entries_sent from to (Take by sender) bytes out = put_sent from to by out
entries_sent from to Start bytes out = put_sent from to 1 out

-- what an event takes from one agent for another
abbrev pub taken_from : ℕ → ℕ → Event → List ℕ → List (List ℕ)
taken_from from to (Expand agent) bytes = []
taken_from from to (Take by sender) bytes = if (sender == from) && (by == to) then bytes ∷ [] else []
taken_from from to Start bytes = []

pub entries_received : (from to : ℕ) (event : Event) (bytes : List ℕ) (out : List Out) → received from to (entries_of event bytes out) ≡ taken_from from to event bytes
entries_received from to (Expand agent) bytes out = put_received from to agent out
entries_received from to (Take by sender) bytes out = one ((sender == from) && (by == to)) refl
  where
    one : (b : Bool) → ((sender == from) && (by == to)) ≡ b → received from to (entries_of (Take by sender) bytes out) ≡ (if b then bytes ∷ [] else [])
    one true is = rw is (ap (λ ms. bytes ∷ ms) (put_received from to by out))
    one false is = rw is (put_received from to by out)
entries_received from to Start bytes out = put_received from to 1 out

pub entries_owners : (event : Event) (bytes : List ℕ) (out : List Out) → All (λ e. owner_of e ≡ agent_of event) (entries_of event bytes out)
entries_owners event bytes out =
    All-cons (λ e. owner_of e ≡ agent_of event) (entry_of event bytes) (map (put_by (agent_of event)) out) (own_owner event bytes) (put_owners (agent_of event) out)

-- ---- parts of a log

-- a part of a list of entries of one agent
pub part_own : (agent : ℕ) (log : List Entry) → All (λ e. owner_of e ≡ agent) log → part log agent ≡ log
part_own agent [] owners = refl
part_own agent (e ∷ es) owners =
    rw (eq-eqb (owner_of e) agent (All-head (λ x. owner_of x ≡ agent) e es owners))
    (ap (λ xs. e ∷ xs) (part_own agent es (All-tail (λ x. owner_of x ≡ agent) e es owners)))

pub part_others : (agent other : ℕ) (log : List Entry) → (agent == other) ≡ false → All (λ e. owner_of e ≡ agent) log → part log other ≡ []
part_others agent other [] apart owners = refl
part_others agent other (e ∷ es) apart owners =
    rw (ap (λ n. n == other) (All-head (λ x. owner_of x ≡ agent) e es owners) ∙ apart)
    (part_others agent other es apart (All-tail (λ x. owner_of x ≡ agent) e es owners))
