-- A round of a team that is not over does something.
use Rattle.mp_world.proofs.Basics.{◌≡◌, ℕ, false, List, [], ◌∷◌, ◌++◌, length, refl, sym, ap, ◌∙◌, inl, inr, same_Some}
use Rattle.mp_runs.specs.Run.{run as run_of}
use Rattle.mp_runs.proofs.Runs.{run-none}
use Rattle.mp_world.specs.AgentWords.{Event, Expand, Take, Start}
use Rattle.mp_world.specs.Events.{after_event, is_legal}
use Rattle.mp_world.specs.RoundRobin.{Round, is_over}
use Rattle.mp_world.specs.Team.{IsTeam, Team}
use Rattle.mp_world.specs.World.{World}
use Rattle.mp_team_snapshots.specs.Team.{IsTeamOf}
use Rattle.mp_team_verdicts.proofs.Points.{GoesThrough, MayNot, TriesToStart, could_not_expand, first_starts, took_from}
use Rattle.mp_team_verdicts.proofs.ReachedWorlds.{IsReached}
use Rattle.mp_team_verdicts.proofs.Stuck.{HasNumberLeft, is_first, not_stuck}

-- a list that is empty in whole is so in its parts
none_first : (before after : List Event) → [] ≡ before ++ after → before ≡ []
none_first [] after is = refl
none_first (e ∷ before) after is = absurd (let impossible : ⊥ = cc in impossible)

none_second : (before after : List Event) → [] ≡ before ++ after → after ≡ []
none_second [] after is = sym is
none_second (e ∷ before) after is = absurd (let impossible : ⊥ = cc in impossible)

no_start : (later : List Event) → [] ≡ Start ∷ later → ⊥
no_start later is = let impossible : ⊥ = cc in impossible

module _ (team : Team) (is_team : IsTeam team) (publics : ℕ) (of_team : IsTeamOf publics team.tasks) (w next : World)
    (at : IsReached team w) (round : Round team.value (length team.tasks) w [] next) where
  open team use {tasks, value}

  -- a round that does nothing goes through no other world
  here : (Holds : World → List Event → Type 0) (p : GoesThrough value Holds w [] next) → p.at ≡ w
  here Holds p =
      sym (same_Some w p.at
      (sym (run-none (after_event value) w) ∙ sym (ap (λ es. run_of (after_event value) w es) (none_first p.before p.after p.is)) ∙ p.ran))

  cannot : (event : Event) → GoesThrough value (MayNot value event) w [] next → is_legal w event ≡ false
  cannot event p = ap (λ u. is_legal u event) (sym (here (MayNot value event) p)) ∙ p.holds

  pub does_something : is_over w ≡ false → HasNumberLeft w → ⊥
  does_something on room =
      let is_1 = is_first team is_team publics of_team w at in
      not_stuck team is_team publics of_team w at on room
      (record {
        take = λ by from is_by is_from off. cannot (Take by from) (took_from value (length tasks) w next [] refl round from by is_from is_by off);
        expand = λ agent is_agent. cannot (Expand agent) (could_not_expand value (length tasks) w next [] refl round agent is_agent);
        start = starts (first_starts value (length tasks) w next [] refl round is_1);
      })
    where
      starts : GoesThrough value (TriesToStart value) w [] next → is_legal w Start ≡ false
      starts p = by p.holds
        where
          by : TriesToStart value p.at p.after → is_legal w Start ≡ false
          by (inl not) = ap (λ u. is_legal u Start) (sym (here (TriesToStart value) p)) ∙ not
          by (inr does) = absurd (no_start does.0 (sym (none_second p.before p.after p.is) ∙ does.1))
