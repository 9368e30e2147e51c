-- The messages after a schedule and after its cut, by records of agents.
use Rattle.mp_world.proofs.Basics.{◌≡◌, ℕ, Bool, true, false, ◌&&◌, List, length, map, Some, refl, sym, ap, ◌∙◌, All-contains}
use Rattle.mp_world.specs.AgentWords.{AgentTask, Marker, spelling, least_of, has, own, AgentRecord, others}
use Rattle.mp_world.specs.World.{IsTeamWorld, World, agent_at, under_way}
use Rattle.mp_world.proofs.Agents.{member_of}
use Rattle.mp_team_snapshots.specs.Team.{IsTeamOf}
use Rattle.mp_team_snapshots.proofs.Protocol.{IsOf}
use Rattle.mp_team_snapshots.proofs.Worlds.{is_of_there, note_at, note_of, team_numbers}
use Rattle.mp_team_snapshots.specs.Cut.{has_recorded}
use Rattle.mp_team_snapshots.specs.CutWorlds.{AreMessagesCut}
use Rattle.mp_team_snapshots.specs.Found.{least_state, messages_in}
use Rattle.mp_team_snapshots.proofs.Both.{IsCut, recorded, taken_in}
use Rattle.mp_team_snapshots.proofs.CutMail.{cut_again}
use Rattle.mp_team_snapshots.proofs.Leasts.{least_again}
use Rattle.mp_team_snapshots.proofs.Readings.{bytes_f, least_bytes}
use Rattle.mp_team_snapshots.proofs.Taken.{both, cutting}

module _ (publics : ℕ) (tasks : List AgentTask) (team : IsTeamOf publics tasks) (w : World)
    (is : IsTeamWorld tasks w) where
  its : (r : AgentRecord) → agent_at w r.task.me ≡ Some r → IsOf (length tasks) r.task.me
  its r there = is_of_there publics tasks team w (team_numbers publics tasks team w is) r.task.me r there

  pub its_publics : (r : AgentRecord) → agent_at w r.task.me ≡ Some r → r.task.publics ≡ publics
  its_publics r there =
      All-contains (λ t. t.publics ≡ publics) tasks r.task team.alike
      (member_of tasks team.numbered w is r.task.me r there).task

  pub its_agents : (r : AgentRecord) → agent_at w r.task.me ≡ Some r → r.task.agents ≡ length tasks
  its_agents r there = (member_of tasks team.numbered w is r.task.me r there).agents

  module _ (k : ℕ) (c : World) (counted : ℕ → ℕ → List (List ℕ))
      (cut : IsCut (cutting (length tasks) publics k) (both w c counted)) where
    by_note : (r : AgentRecord) → agent_at w r.task.me ≡ Some r → (b : Bool) → has_recorded k r ≡ b
        → recorded k (note_at w r.task.me) ≡ b
    by_note r there b test = ap (recorded k) (note_of w r.task.me r there) ∙ test

    pub messages_cut : AreMessagesCut k w c
    messages_cut = record {
      counted = counted;
      none = λ from r there not_r. cut.none from r.task.me (its r there) (by_note r there false not_r);
      mail = λ a b two.
          let e_a = note_of w a.task.me a two.one in
          let e_b = note_of w b.task.me b two.other in
          cut_again (spelling (Marker k)) (recorded k (note_at w a.task.me)) (has_recorded k a)
          (taken_in k (note_at w b.task.me) a.task.me)
          (has_recorded k b && has b.snapshot.marked a.task.me) (counted a.task.me b.task.me)
          (counted a.task.me b.task.me)
          (under_way w a.task.me b.task.me) (under_way w a.task.me b.task.me) (under_way c a.task.me b.task.me)
          (under_way c a.task.me b.task.me)
          (sym (ap (recorded k) e_a)) (sym (ap (λ s. taken_in k s a.task.me) e_b)) refl refl refl
          (cut.mail a.task.me b.task.me (its a two.one) (its b two.other) two.different);
      least = λ r there is_r.
          let e = note_of w r.task.me r there in
          let many = its_agents r there in
          let facts = its_publics r there in
          ap (λ s. (own s).under_way) (sym e)
          ∙ cut.least r.task.me (its r there) (by_note r there true is_r)
          ∙ sym (least_again (λ i. least_of (map (bytes_f (length tasks) publics) (counted i r.task.me)))
          (λ i. least_state (messages_in (length tasks) publics (counted i r.task.me)))
          (λ i. least_bytes (length tasks) publics (counted i r.task.me)) (others r.task.me (length tasks)))
          ∙ sym (λ i. least_of (map (λ from. least_state (messages_in (many i) (facts i) (counted from r.task.me)))
          (others r.task.me (many i))));
    }
