-- The agents of a team and their tasks, and that the agents of an event are of the team.
use Rattle.mp_world.proofs.Basics.{◌≡◌, ◌≢◌, ℕ, zero, suc, ◌<◌, Bool, true, false, ◌&&◌, List, [], ◌∷◌, length, get_or, Some, refl, sym, ap, ◌∙◌, arith, ◌==◌, Contains, nat_le, not, option_map, slice_get, and_parts, eqb-false, leb-true, get_or-map, length-map}
use Rattle.mp_world.proofs.Basics.{All-contains, get_or-range_with_len, get_or_from_slice_get, none-some, slice_get-map, slice_get_within}
use Rattle.mp_task.proofs.Agreeing.{Contains-slice_get}
pub use Rattle.mp_task.proofs.Agreeing.{agree_numbered}
use Rattle.mp_machine.specs.declared.event.Local.TheVariants as locals
use Rattle.mp_world.specs.AgentWords.{AgentTask, AgentRecord, is_going, is_another, may}
use Rattle.mp_world.specs.World.{AreNumbered, IsAgent, IsTeamWorld, World, agent_at}

-- what holds of an agent of a team's world
pub record IsMemberOf (tasks : List AgentTask) (agent : ℕ) (r : AgentRecord) : Type 0 where
  pub me : r.task.me ≡ agent
  pub agents : r.task.agents ≡ length tasks
  pub task : Contains tasks r.task

module _ (tasks : List AgentTask) (numbered : AreNumbered tasks) (w : World) (team : IsTeamWorld tasks w) where
  size : length w.agents ≡ length tasks
  size = sym (length-map w.agents (λ r. r.task)) ∙ ap length team.team

  pub member_of : (agent : ℕ) (r : AgentRecord) → agent_at w agent ≡ Some r → IsMemberOf tasks agent r
  member_of zero r there = absurd (none-some r there)
  member_of (suc k) r there =
      let task : slice_get tasks k ≡ Some r.task = ap (λ ts. slice_get ts k) (sym team.team) ∙ slice_get-map (λ x. x.task) w.agents k ∙ ap (option_map (λ (x : AgentRecord). x.task)) there in
      let inside = slice_get_within tasks k r.task task in
      let in_team = Contains-slice_get tasks k r.task task in
      let mine = get_or-map (λ (t : AgentTask). t.me) tasks k r.task 0 inside ∙ ap (λ t. t.me) (get_or_from_slice_get tasks k r.task r.task task) in
      let range = ap (λ xs. get_or xs k 0) numbered.numbered in
      let place = get_or-range_with_len 1 (length tasks) k 0 inside in
      record {
        me = omega arith;
        agents = All-contains (λ t. t.agents ≡ length tasks) tasks r.task numbered.team in_team;
        task = in_team;
      }

  -- an agent takes messages of other agents of the team
  pub sender_of : (by from : ℕ) (r : AgentRecord) → agent_at w by ≡ Some r → may r (locals.Take from) ≡ true → IsAgent w from × (from ≢ by)
  sender_of by from r there allowed =
      let of = member_of by r there in
      let now = and_parts (is_going r.ending) (is_another r.task from) allowed in
      let other = and_parts (nat_le 1 from && nat_le from r.task.agents) (not (from == r.task.me)) now.1 in
      let range = and_parts (nat_le 1 from) (nat_le from r.task.agents) other.0 in
      let low = leb-true 1 from range.0 in
      let high = leb-true from r.task.agents range.1 in
      let many = of.agents in
      let all = size in
      (record { from_1 = low; at_most = omega arith }, λ same. eqb-false from r.task.me (flipped (from == r.task.me) other.1) (same ∙ sym of.me))
    where
      flipped : (b : Bool) → not b ≡ true → b ≡ false
      flipped true h = sym h
      flipped false h = refl

-- each agent of the team is there
pub agent_there : (w : World) (agent : ℕ) → IsAgent w agent → (r : AgentRecord) × (agent_at w agent ≡ Some r)
agent_there w zero is = let low = is.from_1 in absurd (omega arith)
agent_there w (suc k) is = let high = is.at_most in by w.agents k (omega arith)
  where
    by : (rs : List AgentRecord) (j : ℕ) → j < length rs → (r : AgentRecord) × (slice_get rs j ≡ Some r)
    by [] j inside = absurd (omega arith)
    by (r ∷ rs) zero inside = (r, refl)
    by (r ∷ rs) (suc j) inside = by rs j (omega arith)

-- and each task of the team is that of an agent
pub task_there : (tasks : List AgentTask) → AreNumbered tasks → (w : World) → IsTeamWorld tasks w → (t : AgentTask) → Contains tasks t
    → (r : AgentRecord) × (agent_at w t.me ≡ Some r) × (r.task ≡ t)
task_there tasks numbered w team t (k, inside, here) =
    let all : length w.agents ≡ length tasks = sym (length-map w.agents (λ r. r.task)) ∙ ap length team.team in
    let found = agent_there w (suc k) (record { from_1 = omega arith; at_most = omega arith }) in
    let r = found.0 in
    let task : slice_get tasks k ≡ Some r.task = ap (λ ts. slice_get ts k) (sym team.team) ∙ slice_get-map (λ x. x.task) w.agents k ∙ ap (option_map (λ (x : AgentRecord). x.task)) found.1 in
    let same : r.task ≡ t = sym (get_or_from_slice_get tasks k r.task t task) ∙ here in
    let mine : t.me ≡ suc k = ap (λ u. u.me) (sym same) ∙ (member_of tasks numbered w team (suc k) r found.1).me in
    (r, ap (agent_at w) mine ∙ found.1, same)
