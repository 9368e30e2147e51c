-- What is so before a round until an agent has taken all messages of another one, and what is so from then on.
use Rattle.mp_world.proofs.Basics.{◌≡◌, ◌≢◌, ℕ, Bool, true, false, ◌||◌, List, [], ◌∷◌, length, refl, sym, ap, subst, ◌∙◌, arith, ◌⊎◌, inl, inr, ◌==◌, range_with_len, eqb-true, false≢true}
use Rattle.mp_world.specs.AgentWords.{Event, Take, others}
use Rattle.mp_world.specs.Events.{is_legal}
use Rattle.mp_world.specs.RoundRobin.{AsLongAsItMay, ForEach, Round, Then, Turn}
use Rattle.mp_world.specs.Steps.{IsStepOf}
use Rattle.mp_world.specs.Team.{IsTeam, Team}
use Rattle.mp_world.specs.World.{World}
use Rattle.mp_team_snapshots.specs.Team.{IsTeamOf}
use Rattle.mp_team_snapshots.proofs.Protocol.{IsOf}
use Rattle.mp_team_verdicts.proofs.Calm.{Goes, Reached, goes_reached, stays_on}
use Rattle.mp_team_verdicts.proofs.Points.{Alone, IsRunOf, Part, TakesFrom, alone_runs, as_long_runs, each_runs, in_others, in_range, is_listed, no_longer, takes_run, turn_runs}

module _ (team : Team) (is_team : IsTeam team) (publics : ℕ) (of_team : IsTeamOf publics team.tasks)
    (Before After : World → Type 0) where
  open team use {tasks, value}

  abbrev n : ℕ
  n = length tasks

  abbrev At : World → Type 0
  At = Reached team is_team publics of_team

  abbrev Leads : World → List Event → World → Type 0
  Leads = Goes team is_team publics of_team

  reach : (events : List Event) (u w : World) → At u → Leads u events w → At w
  reach = goes_reached team is_team publics of_team

  module _
      (goes : (v next : World) (event : Event) → At v → At next → IsStepOf value v event next → Before v → Before next ⊎ After next)
      (stays : (v next : World) (event : Event) → At v → At next → IsStepOf value v event next → After v → After next) where
    carry : (events : List Event) (u w : World) → At u → Leads u events w → Before u ⊎ After u → Before w ⊎ After w
    carry events u w at leads is =
        stays_on team is_team publics of_team (λ v. Before v ⊎ After v)
        (λ v event next at_v at_next step old.
        elim old [
          | inl before ↦ goes v next event at_v at_next step before
          | inr after ↦ inr (stays v next event at_v at_next step after)
        ]) events u w at is leads

    keep : (events : List Event) (u w : World) → At u → Leads u events w → After u → After w
    keep events u w at leads is =
        stays_on team is_team publics of_team After (λ v event next at_v at_next step. stays v next event at_v at_next step) events u w at is leads

    -- a part after which the later is so
    abbrev Turns : Part → Type 0
    Turns P = (w last : World) (events : List Event) → At w → P w events last → Before w ⊎ After w → After last

    first_turns : (P Q : Part) → IsRunOf value P → IsRunOf value Q → Turns P → Turns (Then P Q)
    first_turns P Q runs runs_too turns w last events at a is =
        keep a.second a.middle last (reach a.first w a.middle at (runs w a.middle a.first a.done)) (runs_too a.middle last a.second a.then)
        (turns w a.middle a.first at a.done is)

    second_turns : (P Q : Part) → IsRunOf value P → Turns Q → Turns (Then P Q)
    second_turns P Q runs turns w last events at a is =
        let leads = runs w a.middle a.first a.done in
        turns a.middle last a.second (reach a.first w a.middle at leads) a.then (carry a.first w a.middle at leads is)

    each_turns : (P : ℕ → Part) → ((agent : ℕ) → IsRunOf value (P agent)) → (i : ℕ) → Turns (P i) → (agents : List ℕ) → is_listed i agents ≡ true
        → Turns (ForEach P agents)
    each_turns P runs i turns [] listed w last events at a is = absurd (false≢true listed)
    each_turns P runs i turns (x ∷ xs) listed w last events at a is =
        by (x == i) refl (λ more. each_turns P runs i turns xs more)
      where
        by : (b : Bool) → (x == i) ≡ b → (is_listed i xs ≡ true → Turns (ForEach P xs)) → After last
        by true test more =
            first_turns (P x) (ForEach P xs) (runs x) (each_runs value P runs xs)
            (subst (λ k. Turns (P k)) (sym (eqb-true x i test)) turns) w last events at a is
        by false test more =
            second_turns (P x) (ForEach P xs) (runs x)
            (more (ap (λ (b : Bool). b || is_listed i xs) (sym test) ∙ listed)) w last events at a is

    -- an agent takes all messages of another one, so that the earlier is not so any more
    module _ (from to : ℕ) (of_from : IsOf n from) (of_to : IsOf n to) (apart : from ≢ to)
        (may : (v : World) → At v → Before v → is_legal v (Take to from) ≡ false → ⊥) where
      takes_turns : Turns (AsLongAsItMay value (Take to from))
      takes_turns w last events at a is = by (carry events w last at leads is)
        where
          leads : Leads w events last
          leads = as_long_runs value (Take to from) w last events a

          by : Before last ⊎ After last → After last
          by (inl before) = absurd (may last (reach events w last at leads) before (no_longer value (Take to from) w last events a))
          by (inr after) = after

      listed : (i : ℕ) → IsOf n i → is_listed i (range_with_len 1 n) ≡ true
      listed i of =
          let low = of.from_1 in
          let high = of.at_most in
          in_range i 1 n low (omega arith)

      turn_turns : Turns (Turn value n to)
      turn_turns =
          first_turns (ForEach (TakesFrom value to) (others to n)) (Alone value to) (takes_run value n to) (alone_runs value to)
          (each_turns (TakesFrom value to) (λ k. as_long_runs value (Take to k)) from takes_turns (others to n)
          (in_others from to (range_with_len 1 n) apart (listed from of_from)))

      -- so it is after a round
      pub round_turns : (w last : World) (events : List Event) → At w → Round value n w events last → Before w ⊎ After w → After last
      round_turns = each_turns (Turn value n) (turn_runs value n) to turn_turns (range_with_len 1 n) (listed to of_to)
