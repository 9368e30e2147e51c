-- The messages of the end among those that go out in a step.
use Rattle.mp_world.proofs.Basics.{◌≡◌, ℕ, ◌≤◌, Bool, true, false, ◌&&◌, List, [], ◌∷◌, ◌++◌, refl, ap, ◌∙◌, ◌==◌, All, filter, if◌then◌else◌, not, range_with_len, eq-eqb, eqb-true, All-head, All-tail, filter-append}
use Rattle.mp_world.specs.AgentWords.{Message, Outgoing, others, to_each, to_one}
use Rattle.mp_team_snapshots.specs.Snapshots.{one_if_due}
use Rattle.mp_team_snapshots.proofs.Due.{apart_bools}
use Rattle.mp_team_snapshots.proofs.Sendings.{messages_to, messages_to-append, others_get}
use Rattle.mp_team_verdicts.specs.Ending.{is_of_end}

abbrev pub ends_to : ℕ → List Outgoing → List Message
ends_to to out = filter is_of_end (messages_to to out)

-- no message of the end goes out
abbrev pub IsNotOfEnd : Message → Type 0
IsNotOfEnd m = is_of_end m ≡ false

abbrev pub IsNoEnd : Outgoing → Type 0
IsNoEnd x = IsNotOfEnd x.message

abbrev pub HasNoEnds : List Outgoing → Type 0
HasNoEnds out = All IsNoEnd out

pub none_to : (out : List Outgoing) → HasNoEnds out → (to : ℕ) → ends_to to out ≡ []
none_to [] none to = refl
none_to (x ∷ xs) none to = by (x.to == to) refl (none_to xs (All-tail IsNoEnd x xs none) to)
  where
    by : (b : Bool) → (x.to == to) ≡ b → ends_to to xs ≡ [] → ends_to to (x ∷ xs) ≡ []
    by true test rest = rw (test, All-head IsNoEnd x xs none) rest
    by false test rest = rw test rest

pub ends_to-append : (to : ℕ) (xs ys : List Outgoing) → ends_to to (xs ++ ys) ≡ ends_to to xs ++ ends_to to ys
ends_to-append to xs ys = ap (filter is_of_end) (messages_to-append to xs ys) ∙ filter-append is_of_end (messages_to to xs) (messages_to to ys)

-- what goes out first does not count
pub ends_behind : (to : ℕ) (xs ys : List Outgoing) → HasNoEnds xs → ends_to to (xs ++ ys) ≡ ends_to to ys
ends_behind to xs ys first = ends_to-append to xs ys ∙ ap (λ ms. ms ++ ends_to to ys) (none_to xs first to)

-- ---- a message of the end goes out

pub one_end : (agent : ℕ) (m : Message) → is_of_end m ≡ true → (to : ℕ) → ends_to to (to_one agent m) ≡ one_if_due (agent == to) m
one_end agent m is to = by (agent == to) refl
  where
    by : (b : Bool) → (agent == to) ≡ b → ends_to to (to_one agent m) ≡ one_if_due b m
    by true test = rw (test, is) refl
    by false test = rw test refl

nobody : (m : Message) (j : ℕ) (agents : List ℕ) → filter (λ i. i == j) agents ≡ [] → messages_to j (to_each agents m) ≡ []
nobody m j [] none = refl
nobody m j (agent ∷ agents) none = by (agent == j) refl none (λ none. nobody m j agents none)
  where
    by : (b : Bool) → (agent == j) ≡ b → (if b then agent ∷ filter (λ i. i == j) agents else filter (λ i. i == j) agents) ≡ []
        → (filter (λ i. i == j) agents ≡ [] → messages_to j (to_each agents m) ≡ []) → messages_to j (to_each (agent ∷ agents) m) ≡ []
    by true test none rest = absurd (let impossible : ⊥ = cc in impossible)
    by false test none rest = rw test (rest none)

not_itself : (me : ℕ) (xs : List ℕ) → filter (λ i. i == me) (filter (λ agent. not (agent == me)) xs) ≡ []
not_itself me [] = refl
not_itself me (x ∷ xs) = by (x == me) refl (not_itself me xs)
  where
    by : (b : Bool) → (x == me) ≡ b → filter (λ i. i == me) (filter (λ agent. not (agent == me)) xs) ≡ []
        → filter (λ i. i == me) (filter (λ agent. not (agent == me)) (x ∷ xs)) ≡ []
    by true test rest = rw test rest
    by false test rest = rw (test, test) rest

-- each other agent of the team is sent it once, and the agent itself is not
pub others_end : (m : Message) (me agents j : ℕ) → is_of_end m ≡ true → 1 ≤ j → j ≤ agents
    → ends_to j (to_each (others me agents) m) ≡ one_if_due (not (j == me)) m
others_end m me agents j is low high = by (j == me) refl
  where
    by : (b : Bool) → (j == me) ≡ b → ends_to j (to_each (others me agents) m) ≡ one_if_due (not b) m
    by true test =
        let same = eqb-true j me test in
        ap (filter is_of_end)
        (nobody m j (others me agents) (ap (λ (k : ℕ). filter (λ i. i == k) (others me agents)) same ∙ not_itself me (range_with_len 1 agents)))
    by false test =
        ap (filter is_of_end) (others_get m me agents j low high (λ same. apart_bools (j == me) (eq-eqb j me same) test))
        ∙ rw is refl

-- what is due of one sender and one receiver
pub due_both : (p q : Bool) (m : Message) → (if p then one_if_due q m else []) ≡ one_if_due (p && q) m
due_both true q m = refl
due_both false q m = refl
