-- What round robin makes is a run up to a world that is over, and it makes one schedule alone.
use Rattle.mp_world.proofs.Basics.{◌≡◌, ℕ, true, false, List, [], ◌∷◌, ◌++◌, length, Some, None, refl, sym, ap, subst, ◌∙◌, if◌then◌else◌, range_with_len, option_and_then, false≢true, none-some, same_Some}
use Rattle.mp_runs.specs.Run.{run as run_of}
use Rattle.mp_runs.proofs.Runs.{run-after, run-first, run-none, run-one}
use Rattle.mp_world.specs.AgentWords.{Event, Expand, Take, Start, others}
use Rattle.mp_world.specs.Events.{after_event, agent_of, if_good, is_legal, local_step}
use Rattle.mp_world.specs.RoundRobin.{AsLongAsItMay, ForEach, IfItMay, IsRoundRobin, Nothing, Round, Rounds, StartsIfFirst, Then, Turn, is_over}
use Rattle.mp_world.specs.RoundRobin.AsLongAsItMay.{no_more, once_more}
use Rattle.mp_world.specs.RoundRobin.IfItMay.{not_now, now}
use Rattle.mp_world.specs.RoundRobin.Rounds.{over, round}
use Rattle.mp_world.specs.RoundRobin.StartsIfFirst.{first, another}
use Rattle.mp_world.specs.Values.{Values}
use Rattle.mp_world.specs.World.{World, agent_at}

-- a part of a schedule
abbrev pub Part : Type 1
Part = World → List Event → World → Type 0

-- there is one such part at most from each world
abbrev pub IsOne : Part → Type 0
IsOne P = (w last final : World) (events others : List Event) → P w events last → P w others final → (events ≡ others) × (last ≡ final)

nothing_one : IsOne Nothing
nothing_one w last final events others a b = (a.none ∙ sym b.none, a.same ∙ sym b.same)

then_one : (P Q : Part) → IsOne P → IsOne Q → IsOne (Then P Q)
then_one P Q one_p one_q w last final events others a b =
    let p = one_p w a.middle b.middle a.first b.first a.done b.done in
    let q = one_q b.middle last final a.second b.second (subst (λ v. Q v a.second last) p.1 a.then) b.then in
    (a.is ∙ ap (λ es. es ++ a.second) p.0 ∙ ap (λ es. b.first ++ es) q.0 ∙ sym b.is, q.1)

each_one : (P : ℕ → Part) → ((agent : ℕ) → IsOne (P agent)) → (agents : List ℕ) → IsOne (ForEach P agents)
each_one P one [] = nothing_one
each_one P one (agent ∷ agents) = then_one (P agent) (ForEach P agents) (one agent) (each_one P one agents)

module _ (value : Values) where
  -- a part is a run
  abbrev pub IsRun : Part → Type 0
  IsRun P = (w last : World) (events : List Event) → P w events last → run_of (after_event value) w events ≡ Some last

  nothing_runs : IsRun Nothing
  nothing_runs w last events a = ap (run_of (after_event value) w) a.none ∙ run-none (after_event value) w ∙ ap Some (sym a.same)

  then_runs : (P Q : Part) → IsRun P → IsRun Q → IsRun (Then P Q)
  then_runs P Q runs_p runs_q w last events a =
      ap (run_of (after_event value) w) a.is
      ∙ run-after (after_event value) w a.middle a.first a.second (runs_p w a.middle a.first a.done)
      ∙ runs_q a.middle last a.second a.then

  each_runs : (P : ℕ → Part) → ((agent : ℕ) → IsRun (P agent)) → (agents : List ℕ) → IsRun (ForEach P agents)
  each_runs P runs [] = nothing_runs
  each_runs P runs (agent ∷ agents) = then_runs (P agent) (ForEach P agents) (runs agent) (each_runs P runs agents)

  -- ---- one event, once or as long as it may

  -- an event that may not happen leads nowhere
  not_legal : (w next : World) (event : Event) → is_legal w event ≡ false → after_event value w event ≡ Some next → ⊥
  unfolding after_event
  not_legal w next event test leads =
      none-some next (sym (ap (λ b. if b then option_and_then (λ r. if_good w event (local_step value w event r)) (agent_at w (agent_of event)) else None) test) ∙ leads)

  as_long_runs : (event : Event) → IsRun (AsLongAsItMay value event)
  as_long_runs event w last events (no_more _ test) = run-none (after_event value) w
  as_long_runs event w last events (once_more _ next _ later leads rest) =
      run-first (after_event value) w next event later leads ∙ as_long_runs event next last later rest

  as_long_one : (event : Event) → IsOne (AsLongAsItMay value event)
  as_long_one event w last final events others (no_more _ test) (no_more _ test') = (refl, refl)
  as_long_one event w last final events others (no_more _ test) (once_more _ next _ later leads rest) = absurd (not_legal w next event test leads)
  as_long_one event w last final events others (once_more _ next _ later leads rest) (no_more _ test) = absurd (not_legal w next event test leads)
  as_long_one event w last final events others (once_more _ next _ later leads rest) (once_more _ next' _ later' leads' rest') =
      let same : next' ≡ next = same_Some next' next (sym leads' ∙ leads) in
      let more = as_long_one event next last final later later' rest (subst (λ v. AsLongAsItMay value event v later' final) same rest') in
      (ap (λ es. event ∷ es) more.0, more.1)

  if_may_runs : (event : Event) → IsRun (IfItMay value event)
  if_may_runs event w last events (not_now _ test) = run-none (after_event value) w
  if_may_runs event w last events (now _ _ leads) = run-one (after_event value) w event ∙ leads

  if_may_one : (event : Event) → IsOne (IfItMay value event)
  if_may_one event w last final events others (not_now _ test) (not_now _ test') = (refl, refl)
  if_may_one event w last final events others (not_now _ test) (now _ next leads) = absurd (not_legal w next event test leads)
  if_may_one event w last final events others (now _ next leads) (not_now _ test) = absurd (not_legal w next event test leads)
  if_may_one event w last final events others (now _ next leads) (now _ next' leads') = (refl, same_Some last final (sym leads ∙ leads'))

  starts_runs : (agent : ℕ) → IsRun (StartsIfFirst value agent)
  starts_runs agent w last events (first is starts) = if_may_runs Start w last events starts
  starts_runs agent w last events (another apart none) = nothing_runs w last events none

  starts_one : (agent : ℕ) → IsOne (StartsIfFirst value agent)
  starts_one agent w last final events others (first is a) (first is' b) = if_may_one Start w last final events others a b
  starts_one agent w last final events others (first is a) (another apart b) = absurd (apart is)
  starts_one agent w last final events others (another apart a) (first is b) = absurd (apart is)
  starts_one agent w last final events others (another apart a) (another apart' b) = nothing_one w last final events others a b

  -- ---- turns and rounds

  turn_runs : (agents agent : ℕ) → IsRun (Turn value agents agent)
  turn_runs agents agent =
      then_runs (ForEach (λ from. AsLongAsItMay value (Take agent from)) (others agent agents)) (Then (IfItMay value (Expand agent)) (StartsIfFirst value agent))
      (each_runs (λ from. AsLongAsItMay value (Take agent from)) (λ from. as_long_runs (Take agent from)) (others agent agents))
      (then_runs (IfItMay value (Expand agent)) (StartsIfFirst value agent) (if_may_runs (Expand agent)) (starts_runs agent))

  turn_one : (agents agent : ℕ) → IsOne (Turn value agents agent)
  turn_one agents agent =
      then_one (ForEach (λ from. AsLongAsItMay value (Take agent from)) (others agent agents)) (Then (IfItMay value (Expand agent)) (StartsIfFirst value agent))
      (each_one (λ from. AsLongAsItMay value (Take agent from)) (λ from. as_long_one (Take agent from)) (others agent agents))
      (then_one (IfItMay value (Expand agent)) (StartsIfFirst value agent) (if_may_one (Expand agent)) (starts_one agent))

  round_runs : (agents : ℕ) → IsRun (Round value agents)
  round_runs agents = each_runs (Turn value agents) (turn_runs agents) (range_with_len 1 agents)

  round_one : (agents : ℕ) → IsOne (Round value agents)
  round_one agents = each_one (Turn value agents) (turn_one agents) (range_with_len 1 agents)

  rounds_run : (agents : ℕ) → IsRun (Rounds value agents)
  rounds_run agents w last events (over _ is) = run-none (after_event value) w
  rounds_run agents w last events (round _ next _ before later test a rest) =
      run-after (after_event value) w next before later (round_runs agents w next before a) ∙ rounds_run agents next last later rest

  rounds_one : (agents : ℕ) → IsOne (Rounds value agents)
  rounds_one agents w last final events others (over _ is) (over _ is') = (refl, refl)
  rounds_one agents w last final events others (over _ is) (round _ next _ before later test a rest) = absurd (false≢true (sym test ∙ is))
  rounds_one agents w last final events others (round _ next _ before later test a rest) (over _ is) = absurd (false≢true (sym test ∙ is))
  rounds_one agents w last final events others (round _ next _ before later test a rest) (round _ next' _ before' later' test' a' rest') =
      let one = round_one agents w next next' before before' a a' in
      let more = rounds_one agents next' last final later later' (subst (λ v. Rounds value agents v later last) one.1 rest) rest' in
      (ap (λ es. es ++ later) one.0 ∙ ap (λ es. before' ++ es) more.0, more.1)

  rounds_end : (agents : ℕ) (w last : World) (events : List Event) → Rounds value agents w events last → is_over last ≡ true
  rounds_end agents w last events (over _ is) = is
  rounds_end agents w last events (round _ next _ before later test a rest) = rounds_end agents next last later rest

  -- ---- round robin

  pub round_robin_runs : IsRun (IsRoundRobin value)
  round_robin_runs w last events a = rounds_run (length w.agents) w last events a

  pub round_robin_one : IsOne (IsRoundRobin value)
  round_robin_one w last final events others a b = rounds_one (length w.agents) w last final events others a b

  pub round_robin_end : (w last : World) (events : List Event) → IsRoundRobin value w events last → is_over last ≡ true
  round_robin_end w last events a = rounds_end (length w.agents) w last events a
