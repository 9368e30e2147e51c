-- Markers and reports among the messages that go out in a step.
use Rattle.mp_world.proofs.Basics.{◌≡◌, ◌≢◌, ℕ, zero, suc, ◌+◌, ◌≤◌, ◌<◌, Bool, true, false, List, [], ◌∷◌, ◌++◌, map, Option, None, refl, ap, ◌∙◌, arith, ◌==◌, All, filter, not, filter_map, range_with_len, eqb-false, eqb-true, false_from_ne_true, map-append}
use Rattle.mp_world.proofs.Basics.{All-head, All-tail, All-weaker, filter-append, filter_map-append}
use Rattle.std.proofs.lemmas.Bool.{not_from_false}
use Rattle.mp_world.specs.AgentWords.{Findings, Message, Outgoing, others, to_each}
use Rattle.mp_world.proofs.LocalCases.{each_such, none_such}
use Rattle.mp_team_snapshots.specs.Messages.{marker_of, report_of}
use Rattle.mp_team_snapshots.specs.Team.{HasRoom}

-- the messages for one agent, and the markers and the reports among them
abbrev pub messages_to : ℕ → List Outgoing → List Message
messages_to to out = map (λ x. x.message) (filter (λ x. x.to == to) out)

abbrev pub markers_to : ℕ → List Outgoing → List ℕ
markers_to to out = filter_map marker_of (messages_to to out)

abbrev pub reports_to : ℕ → List Outgoing → List Findings
reports_to to out = filter_map report_of (messages_to to out)

pub messages_to-append : (to : ℕ) (xs ys : List Outgoing) → messages_to to (xs ++ ys) ≡ messages_to to xs ++ messages_to to ys
messages_to-append to xs ys =
    ap (map (λ x. x.message)) (filter-append (λ x. x.to == to) xs ys) ∙ map-append (λ x. x.message) (filter (λ x. x.to == to) xs) (filter (λ x. x.to == to) ys)

pub markers_to-append : (to : ℕ) (xs ys : List Outgoing) → markers_to to (xs ++ ys) ≡ markers_to to xs ++ markers_to to ys
markers_to-append to xs ys = ap (filter_map marker_of) (messages_to-append to xs ys) ∙ filter_map-append marker_of (messages_to to xs) (messages_to to ys)

pub reports_to-append : (to : ℕ) (xs ys : List Outgoing) → reports_to to (xs ++ ys) ≡ reports_to to xs ++ reports_to to ys
reports_to-append to xs ys = ap (filter_map report_of) (messages_to-append to xs ys) ∙ filter_map-append report_of (messages_to to xs) (messages_to to ys)

-- ---- no marker and no report

pub record IsPlain (m : Message) : Type 0 where
  pub marker : marker_of m ≡ None
  pub report : report_of m ≡ None
  pub room : HasRoom m

pub record IsSilent (out : List Outgoing) : Type 0 where
  pub markers : (to : ℕ) → markers_to to out ≡ []
  pub reports : (to : ℕ) → reports_to to out ≡ []
  pub room : All (λ x. HasRoom x.message) out

-- messages none of which has some part
pub none_to : {X : Type 0} (part : Message → Option X) (out : List Outgoing) → All (λ x. part x.message ≡ None) out
    → (to : ℕ) → filter_map part (messages_to to out) ≡ []
none_to part [] none to = refl
none_to part (x ∷ xs) none to =
    by (x.to == to) refl (none_to part xs (All-tail (λ y. part y.message ≡ None) x xs none) to)
  where
    by : (b : Bool) → (x.to == to) ≡ b → filter_map part (messages_to to xs) ≡ []
        → filter_map part (messages_to to (x ∷ xs)) ≡ []
    by true test rest = rw (test, All-head (λ y. part y.message ≡ None) x xs none) rest
    by false test rest = rw test rest

pub silent_of : (out : List Outgoing) → All (λ x. IsPlain x.message) out → IsSilent out
silent_of out plain =
    let each = All-weaker (λ (x : Outgoing). IsPlain x.message) in
    record {
      markers = none_to marker_of out (each (λ x. marker_of x.message ≡ None) (λ x is. is.marker) out plain);
      reports = none_to report_of out (each (λ x. report_of x.message ≡ None) (λ x is. is.report) out plain);
      room = each (λ x. HasRoom x.message) (λ x is. is.room) out plain;
    }

pub nothing_silent : IsSilent []
nothing_silent = silent_of [] (none_such IsPlain)

pub each_silent : (m : Message) → IsPlain m → (agents : List ℕ) → IsSilent (to_each agents m)
each_silent m plain agents = silent_of (to_each agents m) (each_such IsPlain m plain agents)

-- ---- a message to all others

-- the others of a team have each other agent once
none_in_range : (a n j : ℕ) → j < a → filter (λ i. i == j) (range_with_len a n) ≡ []
none_in_range a zero j below = refl
none_in_range a (suc n) j below =
    rw (false_from_ne_true (a == j) (λ is. let same = eqb-true a j is in omega arith))
    (none_in_range (a + 1) n j (omega arith))

one_in_range : (a n j : ℕ) → a ≤ j → j < a + n → filter (λ i. i == j) (range_with_len a n) ≡ j ∷ []
one_in_range a zero j low high = absurd (omega arith)
one_in_range a (suc n) j low high = by (a == j) refl (λ above. one_in_range (a + 1) n j above (omega arith))
  where
    by : (b : Bool) → (a == j) ≡ b → (a + 1 ≤ j → filter (λ i. i == j) (range_with_len (a + 1) n) ≡ j ∷ [])
        → filter (λ i. i == j) (range_with_len a (suc n)) ≡ j ∷ []
    by true test more =
        let same : a ≡ j = eqb-true a j test in
        rw test (ap (λ is. a ∷ is) (none_in_range (a + 1) n j (omega arith)) ∙ ap (λ i. i ∷ []) same)
    by false test more =
        let other : a ≢ j = eqb-false a j test in
        rw test (more (omega arith))

still_there : (p : ℕ → Bool) (j : ℕ) → p j ≡ true → (xs : List ℕ) → filter (λ i. i == j) (filter p xs) ≡ filter (λ i. i == j) xs
still_there p j passes [] = refl
still_there p j passes (x ∷ xs) = by (p x) refl (x == j) refl (still_there p j passes xs)
  where
    by : (b : Bool) → p x ≡ b → (c : Bool) → (x == j) ≡ c → filter (λ i. i == j) (filter p xs) ≡ filter (λ i. i == j) xs
        → filter (λ i. i == j) (filter p (x ∷ xs)) ≡ filter (λ i. i == j) (x ∷ xs)
    by true test true here more = rw (test, here) (ap (λ is. x ∷ is) more)
    by true test false here more = rw (test, here) more
    by false test false here more = rw (test, here) more
    by false test true here more =
        let passes_x : p x ≡ true = ap p (eqb-true x j here) ∙ passes in
        absurd (let impossible : ⊥ = cc in impossible)

pub one_among_others : (me agents j : ℕ) → 1 ≤ j → j ≤ agents → j ≢ me → filter (λ i. i == j) (others me agents) ≡ j ∷ []
one_among_others me agents j low high other =
    still_there (λ agent. not (agent == me)) j (not_from_false (j == me) (false_from_ne_true (j == me) (λ is. other (eqb-true j me is)))) (range_with_len 1 agents)
    ∙ one_in_range 1 agents j low (omega arith)

each_gets : (m : Message) (j : ℕ) (agents : List ℕ) → messages_to j (to_each agents m) ≡ map (λ agent. m) (filter (λ i. i == j) agents)
each_gets m j [] = refl
each_gets m j (agent ∷ agents) = by (agent == j) refl (each_gets m j agents)
  where
    by : (b : Bool) → (agent == j) ≡ b → messages_to j (to_each agents m) ≡ map (λ agent. m) (filter (λ i. i == j) agents)
        → messages_to j (to_each (agent ∷ agents) m) ≡ map (λ agent. m) (filter (λ i. i == j) (agent ∷ agents))
    by true test more = rw test (ap (λ ms. m ∷ ms) more)
    by false test more = rw test more

-- each other agent is sent the message once
pub others_get : (m : Message) (me agents j : ℕ) → 1 ≤ j → j ≤ agents → j ≢ me → messages_to j (to_each (others me agents) m) ≡ m ∷ []
others_get m me agents j low high other =
    each_gets m j (others me agents) ∙ ap (map (λ agent. m)) (one_among_others me agents j low high other)
