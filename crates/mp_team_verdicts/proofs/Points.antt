-- Points of a round: worlds that it goes through.
use Rattle.mp_world.proofs.Basics.{◌≡◌, ◌≢◌, ℕ, zero, suc, ◌+◌, ◌≤◌, ◌<◌, Bool, true, false, ◌||◌, List, [], ◌∷◌, ◌++◌, Some, refl, sym, ap, subst, ◌∙◌, append_assoc, append-nil, arith, ◌⊎◌, inl, inr, ◌==◌, filter, not, range_with_len, and_parts, eqb-false}
use Rattle.mp_world.proofs.Basics.{eqb-true, false≢true}
use Rattle.std.specs.List.{list_any}
use Rattle.std.proofs.lemmas.List.Folds.{list_all-append}
use Rattle.mp_runs.specs.Run.{run as run_of}
use Rattle.mp_runs.proofs.Runs.{run-after, run-first, run-none, run-one}
use Rattle.mp_world.specs.AgentWords.{Event, Expand, Take, Start, others}
use Rattle.mp_world.specs.Events.{after_event, is_legal}
use Rattle.mp_world.specs.RoundRobin.{AsLongAsItMay, ForEach, IfItMay, Nothing, Round, StartsIfFirst, Then, Turn}
use Rattle.mp_world.specs.RoundRobin.AsLongAsItMay.{no_more, once_more}
use Rattle.mp_world.specs.RoundRobin.IfItMay.{not_now, now}
use Rattle.mp_world.specs.RoundRobin.StartsIfFirst.{first, another}
use Rattle.mp_world.specs.Values.{Values}
use Rattle.mp_world.specs.World.{World}
use Rattle.mp_team_snapshots.proofs.Protocol.{IsOf}
use Rattle.mp_team_verdicts.specs.Quiet.{are_quiet, is_quiet}

abbrev pub Part : Type 1
Part = World → List Event → World → Type 0

pub quiet_parts : (before after : List Event) → are_quiet (before ++ after) ≡ true → (are_quiet before ≡ true) × (are_quiet after ≡ true)
quiet_parts before after quiet =
    and_parts (are_quiet before) (are_quiet after) (sym (list_all-append is_quiet before after) ∙ quiet)

-- whether a number is listed
abbrev pub is_listed : ℕ → List ℕ → Bool
is_listed i numbers = list_any (λ x. x == i) numbers

pub in_range : (i from len : ℕ) → from ≤ i → i < from + len → is_listed i (range_with_len from len) ≡ true
in_range i from zero low high = absurd (omega arith)
in_range i from (suc len) low high =
    by (from == i) refl (λ above. in_range i (from + 1) len above (omega arith))
  where
    by : (b : Bool) → (from == i) ≡ b → (from + 1 ≤ i → is_listed i (range_with_len (from + 1) len) ≡ true)
        → (b || is_listed i (range_with_len (from + 1) len)) ≡ true
    by true test more = refl
    by false test more = let off = eqb-false from i test in more (omega (arith, off))

pub in_others : (i me : ℕ) (numbers : List ℕ) → i ≢ me → is_listed i numbers ≡ true → is_listed i (filter (λ agent. not (agent == me)) numbers) ≡ true
in_others i me [] off listed = listed
in_others i me (x ∷ xs) off listed = by (x == me) refl (x == i) refl (in_others i me xs off)
  where
    by : (b : Bool) → (x == me) ≡ b → (c : Bool) → (x == i) ≡ c
        → (is_listed i xs ≡ true → is_listed i (filter (λ agent. not (agent == me)) xs) ≡ true)
        → is_listed i (filter (λ agent. not (agent == me)) (x ∷ xs)) ≡ true
    by true is_me true is_i more = absurd (off (sym (eqb-true x i is_i) ∙ eqb-true x me is_me))
    by true is_me false is_i more = rw is_me (more (ap (λ (c : Bool). c || is_listed i xs) (sym is_i) ∙ listed))
    by false is_me true is_i more = rw (is_me, is_i) refl
    by false is_me false is_i more = rw (is_me, is_i) (more (ap (λ (c : Bool). c || is_listed i xs) (sym is_i) ∙ listed))

module _ (value : Values) where
  -- a part is a run
  abbrev pub IsRunOf : Part → Type 0
  IsRunOf P = (w last : World) (events : List Event) → P w events last → run_of (after_event value) w events ≡ Some last

  nothing_runs : IsRunOf Nothing
  nothing_runs w last events a =
      ap (run_of (after_event value) w) a.none ∙ run-none (after_event value) w ∙ ap Some (sym a.same)

  then_runs : (P Q : Part) → IsRunOf P → IsRunOf Q → IsRunOf (Then P Q)
  then_runs P Q runs_p runs_q w last events a =
      ap (run_of (after_event value) w) a.is
      ∙ run-after (after_event value) w a.middle a.first a.second (runs_p w a.middle a.first a.done)
      ∙ runs_q a.middle last a.second a.then

  pub each_runs : (P : ℕ → Part) → ((agent : ℕ) → IsRunOf (P agent)) → (agents : List ℕ) → IsRunOf (ForEach P agents)
  each_runs P runs [] = nothing_runs
  each_runs P runs (agent ∷ agents) = then_runs (P agent) (ForEach P agents) (runs agent) (each_runs P runs agents)

  pub as_long_runs : (event : Event) → IsRunOf (AsLongAsItMay value event)
  as_long_runs event w last events (no_more _ test) = run-none (after_event value) w
  as_long_runs event w last events (once_more _ next _ later leads rest) =
      run-first (after_event value) w next event later leads ∙ as_long_runs event next last later rest

  if_may_runs : (event : Event) → IsRunOf (IfItMay value event)
  if_may_runs event w last events (not_now _ test) = run-none (after_event value) w
  if_may_runs event w last events (now _ _ leads) = run-one (after_event value) w event ∙ leads

  starts_runs : (agent : ℕ) → IsRunOf (StartsIfFirst value agent)
  starts_runs agent w last events (first is starts) = if_may_runs Start w last events starts
  starts_runs agent w last events (another apart none) = nothing_runs w last events none

  abbrev pub TakesFrom : ℕ → ℕ → Part
  TakesFrom agent from = AsLongAsItMay value (Take agent from)

  abbrev pub Alone : ℕ → Part
  Alone agent = Then (IfItMay value (Expand agent)) (StartsIfFirst value agent)

  pub takes_run : (agents agent : ℕ) → IsRunOf (ForEach (TakesFrom agent) (others agent agents))
  takes_run agents agent = each_runs (TakesFrom agent) (λ from. as_long_runs (Take agent from)) (others agent agents)

  pub alone_runs : (agent : ℕ) → IsRunOf (Alone agent)
  alone_runs agent =
      then_runs (IfItMay value (Expand agent)) (StartsIfFirst value agent) (if_may_runs (Expand agent)) (starts_runs agent)

  pub turn_runs : (agents agent : ℕ) → IsRunOf (Turn value agents agent)
  turn_runs agents agent = then_runs (ForEach (TakesFrom agent) (others agent agents)) (Alone agent) (takes_run agents agent) (alone_runs agent)

  pub round_runs : (agents : ℕ) → IsRunOf (Round value agents)
  round_runs agents = each_runs (Turn value agents) (turn_runs agents) (range_with_len 1 agents)

  -- ---- points

  -- A part goes through a world, of which and of the events from there on something holds.
  pub record GoesThrough (Holds : World → List Event → Type 0) (w : World) (events : List Event) (last : World) : Type 0 where
    pub at : World
    pub before : List Event
    pub after : List Event
    pub is : events ≡ before ++ after
    pub ran : run_of (after_event value) w before ≡ Some at
    pub goes : run_of (after_event value) at after ≡ Some last
    pub holds : Holds at after

  module _ (Holds : World → List Event → Type 0) (wider : (u : World) (es fs : List Event) → Holds u es → Holds u (es ++ fs)) where
    through_first : (P Q : Part) → IsRunOf Q → (w last : World) (events : List Event) (a : Then P Q w events last)
        → GoesThrough Holds w a.first a.middle → GoesThrough Holds w events last
    through_first P Q runs w last events a p = record {
      at = p.at;
      before = p.before;
      after = p.after ++ a.second;
      is = a.is ∙ ap (λ es. es ++ a.second) p.is ∙ append_assoc p.before p.after a.second;
      ran = p.ran;
      goes = run-after (after_event value) p.at a.middle p.after a.second p.goes ∙ runs a.middle last a.second a.then;
      holds = wider p.at p.after a.second p.holds;
    }

    through_second : (P Q : Part) → IsRunOf P → (w last : World) (events : List Event) (a : Then P Q w events last)
        → GoesThrough Holds a.middle a.second last → GoesThrough Holds w events last
    through_second P Q runs w last events a p = record {
      at = p.at;
      before = a.first ++ p.before;
      after = p.after;
      is = a.is ∙ ap (λ es. a.first ++ es) p.is ∙ sym (append_assoc a.first p.before p.after);
      ran = run-after (after_event value) w a.middle a.first p.before (runs w a.middle a.first a.done) ∙ p.ran;
      goes = p.goes;
      holds = p.holds;
    }

    -- a part for each of some agents goes through what the part of one of them goes through
    through_each : (P : ℕ → Part) → ((agent : ℕ) → IsRunOf (P agent)) → (i : ℕ)
        → ((w last : World) (events : List Event) → are_quiet events ≡ true → P i w events last → GoesThrough Holds w events last)
        → (agents : List ℕ) → is_listed i agents ≡ true → (w last : World) (events : List Event) → are_quiet events ≡ true
        → ForEach P agents w events last → GoesThrough Holds w events last
    through_each P runs i point [] listed w last events quiet a = absurd (false≢true listed)
    through_each P runs i point (x ∷ xs) listed w last events quiet a =
        let parts = quiet_parts a.first a.second (sym (ap are_quiet a.is) ∙ quiet) in
        by (x == i) refl parts.0
        (λ listed_more. through_each P runs i point xs listed_more a.middle last a.second parts.1 a.then)
      where
        by : (b : Bool) → (x == i) ≡ b → are_quiet a.first ≡ true
            → (is_listed i xs ≡ true → GoesThrough Holds a.middle a.second last)
            → GoesThrough Holds w events last
        by true test first_quiet more =
            through_first (P x) (ForEach P xs) (each_runs P runs xs) w last events a
            (point w a.middle a.first first_quiet (subst (λ k. P k w a.first a.middle) (eqb-true x i test) a.done))
        by false test first_quiet more =
            through_second (P x) (ForEach P xs) (runs x) w last events a
            (more (ap (λ (b : Bool). b || is_listed i xs) (sym test) ∙ listed))

  -- an event may not happen any more
  pub no_longer : (event : Event) (w last : World) (events : List Event) → AsLongAsItMay value event w events last → is_legal last event ≡ false
  no_longer event w last events (no_more _ test) = test
  no_longer event w last events (once_more _ next _ later leads rest) = no_longer event next last later rest

  -- an event may not happen
  abbrev pub MayNot : Event → World → List Event → Type 0
  MayNot event u after = is_legal u event ≡ false

  -- agent 1 may not start a snapshot, or it does
  abbrev pub TriesToStart : World → List Event → Type 0
  TriesToStart u after = (is_legal u Start ≡ false) ⊎ ((later : List Event) × (after ≡ Start ∷ later))

  may_not_wider : (event : Event) (u : World) (es fs : List Event) → MayNot event u es → MayNot event u (es ++ fs)
  may_not_wider event u es fs h = h

  tries_wider : (u : World) (es fs : List Event) → TriesToStart u es → TriesToStart u (es ++ fs)
  tries_wider u es fs (inl not) = inl not
  tries_wider u es fs (inr does) = inr (does.0 ++ fs, ap (λ gs. gs ++ fs) does.1)

  took_all : (by from : ℕ) (w last : World) (events : List Event) → AsLongAsItMay value (Take by from) w events last
      → GoesThrough (MayNot (Take by from)) w events last
  took_all by from w last events a = record {
    at = last;
    before = events;
    after = [];
    is = sym (append-nil events);
    ran = as_long_runs (Take by from) w last events a;
    goes = run-none (after_event value) last;
    holds = no_longer (Take by from) w last events a;
  }

  -- here, at the start of the part
  at_start : (Holds : World → List Event → Type 0) (w last : World) (events : List Event)
      → run_of (after_event value) w events ≡ Some last → Holds w events → GoesThrough Holds w events last
  at_start Holds w last events goes holds = record {
    at = w;
    before = [];
    after = events;
    is = refl;
    ran = run-none (after_event value) w;
    goes = goes;
    holds = holds;
  }

  did_not_expand : (agent : ℕ) (w last : World) (events : List Event) → are_quiet events ≡ true → IfItMay value (Expand agent) w events last
      → GoesThrough (MayNot (Expand agent)) w events last
  did_not_expand agent w last events quiet (not_now _ test) =
      at_start (MayNot (Expand agent)) w w [] (run-none (after_event value) w) test
  did_not_expand agent w last events quiet (now _ next leads) = absurd (false≢true quiet)

  tried : (w last : World) (events : List Event) → IfItMay value Start w events last → GoesThrough TriesToStart w events last
  tried w last events (not_now _ test) = at_start TriesToStart w w [] (run-none (after_event value) w) (inl test)
  tried w last events (now _ next leads) =
      at_start TriesToStart w next (Start ∷ []) (run-one (after_event value) w Start ∙ leads) (inr ([], refl))

  first_tried : (w last : World) (events : List Event) → StartsIfFirst value 1 w events last → GoesThrough TriesToStart w events last
  first_tried w last events (first is starts) = tried w last events starts
  first_tried w last events (another apart none) = absurd (apart refl)

  -- ---- points of a quiet round

  module _ (agents : ℕ) (w last : World) (events : List Event) (quiet : are_quiet events ≡ true) (round : Round value agents w events last) where
    listed_in : (i : ℕ) → IsOf agents i → is_listed i (range_with_len 1 agents) ≡ true
    listed_in i of =
        let low = of.from_1 in
        let high = of.at_most in
        in_range i 1 agents low (omega arith)

    -- each agent has taken what there was from each other one
    pub took_from : (i j : ℕ) → IsOf agents i → IsOf agents j → i ≢ j → GoesThrough (MayNot (Take j i)) w events last
    took_from i j is_i is_j off =
        through_each (MayNot (Take j i)) (may_not_wider (Take j i)) (Turn value agents) (turn_runs agents) j
        (λ w last events quiet turn.
        through_first (MayNot (Take j i)) (may_not_wider (Take j i)) (ForEach (TakesFrom j) (others j agents)) (Alone j) (alone_runs j) w last events turn
        (through_each (MayNot (Take j i)) (may_not_wider (Take j i)) (TakesFrom j) (λ from. as_long_runs (Take j from)) i
        (λ w last events quiet a. took_all j i w last events a)
        (others j agents) (in_others i j (range_with_len 1 agents) off (listed_in i is_i)) w turn.middle turn.first
        (quiet_parts turn.first turn.second (sym (ap are_quiet turn.is) ∙ quiet)).0 turn.done))
        (range_with_len 1 agents) (listed_in j is_j) w last events quiet round

    -- each agent could not expand
    pub could_not_expand : (j : ℕ) → IsOf agents j → GoesThrough (MayNot (Expand j)) w events last
    could_not_expand j is_j =
        through_each (MayNot (Expand j)) (may_not_wider (Expand j)) (Turn value agents) (turn_runs agents) j
        (λ w last events quiet turn.
        let later = (quiet_parts turn.first turn.second (sym (ap are_quiet turn.is) ∙ quiet)).1 in
        through_second (MayNot (Expand j)) (may_not_wider (Expand j)) (ForEach (TakesFrom j) (others j agents)) (Alone j) (takes_run agents j) w last events turn
        (through_first (MayNot (Expand j)) (may_not_wider (Expand j)) (IfItMay value (Expand j)) (StartsIfFirst value j) (starts_runs j)
        turn.middle last turn.second turn.then
        (did_not_expand j turn.middle turn.then.middle turn.then.first
        (quiet_parts turn.then.first turn.then.second (sym (ap are_quiet turn.then.is) ∙ later)).0 turn.then.done)))
        (range_with_len 1 agents) (listed_in j is_j) w last events quiet round

    -- agent 1 could not start a snapshot, or it did
    pub first_starts : IsOf agents 1 → GoesThrough TriesToStart w events last
    first_starts is_1 =
        through_each TriesToStart tries_wider (Turn value agents) (turn_runs agents) 1
        (λ w last events quiet turn.
        through_second TriesToStart tries_wider (ForEach (TakesFrom 1) (others 1 agents)) (Alone 1) (takes_run agents 1) w last events turn
        (through_second TriesToStart tries_wider (IfItMay value (Expand 1)) (StartsIfFirst value 1) (if_may_runs (Expand 1))
        turn.middle last turn.second turn.then
        (first_tried turn.then.middle last turn.then.second turn.then.then)))
        (range_with_len 1 agents) (listed_in 1 is_1) w last events quiet round
