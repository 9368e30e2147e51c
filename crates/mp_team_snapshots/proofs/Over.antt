-- A snapshot on which agent 1 has a verdict is over.
use Rattle.mp_world.proofs.Basics.{◌≡◌, ℕ, suc, ◌-◌, ◌<◌, Bool, true, false, ◌&&◌, List, length, map, take, Some, None, refl, sym, ap, subst, ◌∙◌, arith, ◌==◌, nat_lt, if◌then◌else◌, slice_index_or, and_parts, ltb-true, get_or-map, get_or_default, length-map}
use Rattle.mp_world.proofs.Basics.{same_lists, get_or_from_slice_get, none-some, same_Some}
use Rattle.std.proofs.lemmas.List.{get_or-take, length-take-le}
use Rattle.mp_world.specs.AgentWords.{AgentTask, Findings, Verdict, Notes, is_complete, is_whole, nothing, own, verdict, verdict_of, AgentRecord, given_verdict}
use Rattle.mp_world.specs.World.{World, agent_at}
use Rattle.mp_world.proofs.Agents.{agent_there}
use Rattle.mp_world.proofs.Mail.{one_before}
use Rattle.mp_team_snapshots.specs.Snapshots.{IsSnapshotOver}
use Rattle.mp_team_snapshots.specs.Team.{IsTeamOf}
use Rattle.mp_team_snapshots.proofs.Due.{begun_in}
use Rattle.mp_team_snapshots.proofs.Protocol.{IsOf, Sound, each}
use Rattle.mp_team_snapshots.proofs.Starting.{all_begun, all_here, all_whole, no_marker_left, no_report_left}
use Rattle.mp_team_snapshots.proofs.Worlds.{HasNumbers, is_agent_of, is_of_there, note_at, note_of, view}

-- what is known where there is a verdict
pub record HasVerdict (s : Notes) (v : Verdict) : Type 0 where
  pub some : 0 < s.number
  pub complete : is_complete s ≡ true
  pub is : verdict_of (take s.agents s.found) ≡ v

pub verdict_there : (r : AgentRecord) (v : Verdict) → given_verdict r ≡ Some v → HasVerdict r.snapshot v
verdict_there r v = by (r.task.me == 1)
  where
    given : (b : Bool) → (nat_lt 0 r.snapshot.number && is_complete r.snapshot) ≡ b
        → (if b then Some (verdict_of (take r.snapshot.agents r.snapshot.found)) else None) ≡ Some v → HasVerdict r.snapshot v
    given false test is = absurd (none-some v is)
    given true test is =
        let parts = and_parts (nat_lt 0 r.snapshot.number) (is_complete r.snapshot) test in
        record {
          some = ltb-true 0 r.snapshot.number parts.0;
          complete = parts.1;
          is = same_Some (verdict_of (take r.snapshot.agents r.snapshot.found)) v is;
        }

    by : (b : Bool) → (if b then verdict r.snapshot else None) ≡ Some v → HasVerdict r.snapshot v
    by false is = absurd (none-some v is)
    by true is = given (nat_lt 0 r.snapshot.number && is_complete r.snapshot) refl is

module _ (publics : ℕ) (tasks : List AgentTask) (team : IsTeamOf publics tasks) (w : World) (is : HasNumbers tasks w) (sound : Sound (length tasks) (view publics w))
    (first : AgentRecord) (there : agent_at w 1 ≡ Some first) (given : Verdict) (has : HasVerdict first.snapshot given) where
  first_note : note_at w 1 ≡ first.snapshot
  first_note = note_of w 1 first there

  some : 0 < (note_at w 1).number
  some = subst (λ s. 0 < s.number) (sym first_note) has.some

  complete : is_complete (note_at w 1) ≡ true
  complete = ap is_complete first_note ∙ has.complete

  is_1 : IsOf (length tasks) 1
  is_1 = is_of_there publics tasks team w is 1 first there

  found_each : (i : ℕ) → IsOf (length tasks) i → slice_index_or (note_at w 1).found (i - 1) nothing ≡ own (note_at w i)
  found_each =
      each (length tasks) 1 (λ i. slice_index_or (note_at w 1).found (i - 1) nothing ≡ own (note_at w i))
      (sym (ap (λ m. slice_index_or (note_at w 1).found (m - 1) nothing) (sound.notes 1 is_1).me))
      (λ i is_i off. (sound.reported i is_i off (all_here (length tasks) team.agents (view publics w) sound some complete i is_i)).found)

  many : length first.snapshot.found ≡ 16
  many = ap (λ s. length s.found) (sym first_note) ∙ (sound.notes 1 is_1).found

  found_at : (k : ℕ) (d : Findings) → k < length tasks
      → slice_index_or (take (length tasks) first.snapshot.found) k d ≡ slice_index_or (map (λ r. own r.snapshot) w.agents) k d
  found_at k d inside =
      let small = team.agents in
      let length_found = many in
      let is_i : IsOf (length tasks) (suc k) = record { from_1 = omega arith; at_most = omega arith } in
      let here = agent_there w (suc k) (is_agent_of publics tasks team w is (suc k) is_i) in
      let r = here.0 in
      get_or-take (length tasks) first.snapshot.found k d inside
      ∙ get_or_default first.snapshot.found k d nothing (omega arith)
      ∙ ap (λ s. slice_index_or s.found k nothing) (sym first_note)
      ∙ ap (λ m. slice_index_or (note_at w 1).found m nothing) (sym (one_before k))
      ∙ found_each (suc k) is_i
      ∙ ap own (note_of w (suc k) r here.1)
      ∙ ap (λ x. own x.snapshot) (sym (get_or_from_slice_get w.agents k r r here.1))
      ∙ sym (get_or-map (λ x. own x.snapshot) w.agents k r d (subst (λ n. k < n) (sym is.size) inside))

  found_list : take (length tasks) first.snapshot.found ≡ map (λ r. own r.snapshot) w.agents
  found_list =
      same_lists (take (length tasks) first.snapshot.found) (map (λ r. own r.snapshot) w.agents)
      (taken ∙ sym is.size ∙ sym (length-map w.agents (λ r. own r.snapshot)))
      (λ k d inside. found_at k d (subst (λ n. k < n) taken inside))
    where
      taken : length (take (length tasks) first.snapshot.found) ≡ length tasks
      taken =
          let small = team.agents in
          let length_found = many in
          length-take-le (length tasks) first.snapshot.found (omega arith)

  pub snapshot_over : IsSnapshotOver publics w first
  snapshot_over = record {
    begun = λ r at.
        let e = first_note in
        let e_r = note_of w r.task.me r at in
        sym (λ k. begun_in (e k).number (e_r k).number)
        ∙ all_begun (length tasks) team.agents (view publics w) sound some complete r.task.me (is_of_there publics tasks team w is r.task.me r at);
    whole = λ r at.
        sym (ap is_whole (note_of w r.task.me r at))
        ∙ all_whole (length tasks) team.agents (view publics w) sound some complete r.task.me (is_of_there publics tasks team w is r.task.me r at);
    no_marker = λ a b two.
        no_marker_left (length tasks) team.agents (view publics w) sound some complete a.task.me b.task.me
        (is_of_there publics tasks team w is a.task.me a two.one) (is_of_there publics tasks team w is b.task.me b two.other) two.different;
    no_report = λ r two.
        no_report_left (length tasks) team.agents (view publics w) sound some complete r.task.me (is_of_there publics tasks team w is r.task.me r two.other)
        (λ same. two.different (is.me 1 first there ∙ sym same));
    found = ap (λ n. take n first.snapshot.found) is.size ∙ found_list;
  }

  -- the verdict is that of the rule on what all agents found
  pub verdict_by_rule : verdict_of (map (λ r. own r.snapshot) w.agents) ≡ given
  verdict_by_rule =
      let team_size = ap (λ s. s.agents) (sym first_note) ∙ (sound.notes 1 is_1).agents in
      ap verdict_of (sym found_list ∙ sym (ap (λ n. take n first.snapshot.found) team_size)) ∙ has.is
