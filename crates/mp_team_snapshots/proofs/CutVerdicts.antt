-- The verdict of agent 1 is that of the rule on the world after the cut.
use Rattle.mp_world.proofs.Basics.{◌≡◌, ◌≢◌, ℕ, suc, ◌≤◌, ◌<◌, true, List, length, map, Option, Some, None, refl, sym, ap, subst, ◌∙◌, arith, option_map, slice_get, slice_index_or, and_from, eqb-true, false≢true, le-leb, get_or-map, length-map, same_lists}
use Rattle.mp_world.proofs.Basics.{get_or_from_slice_get, same_Some, slice_get-get_or}
use Rattle.mp_list.specs.First.{leftmost}
use Rattle.mp_list.proofs.FirstLemmas.{found_first}
use Rattle.mp_runs.specs.Run.{run as run_of}
use Rattle.mp_store.specs.Minima.{least_goal}
use Rattle.mp_store.proofs.RankLemmas.{cheaper_strict, those_have}
use Rattle.mp_world.specs.AgentWords.{Event, Findings, Marker, spelling, Verdict, Proved, least_of, has, own, is_cost, verdict_of, AgentRecord, given_verdict, others}
use Rattle.mp_world.specs.SearchWords.{Entry, Numbered, is_cheaper, those, Record, AgentState, bound}
use Rattle.mp_world.specs.Events.{after_event}
use Rattle.mp_world.specs.Team.{Team}
use Rattle.mp_world.specs.World.{IsTeamWorld, World, agent_at, start_world, under_way}
use Rattle.mp_world.proofs.Agents.{agent_there}
use Rattle.mp_world.proofs.Runs.{run_of_team}
use Rattle.mp_team_snapshots.specs.Snapshots.{IsSnapshotOver}
use Rattle.mp_team_snapshots.specs.Team.{IsTeamOf}
use Rattle.mp_team_snapshots.proofs.Consequences.{verdict_is_over, verdict_is_rule}
use Rattle.mp_team_snapshots.proofs.Due.{begun_number}
use Rattle.mp_team_snapshots.proofs.InRuns.{HoldsInRuns, holds_in_runs}
use Rattle.mp_team_snapshots.proofs.Over.{verdict_there}
use Rattle.mp_team_snapshots.proofs.NotePlaces.{whole_has}
use Rattle.mp_team_snapshots.proofs.Protocol.{IsOf}
use Rattle.mp_team_snapshots.proofs.Worlds.{HasNumbers, at_me, is_agent_of, is_of_there, me_of, note_at, note_of}
use Rattle.mp_team_snapshots.proofs.Worlds.{team_numbers}
use Rattle.mp_team_snapshots.specs.Cut.{cut_from, has_recorded}
use Rattle.mp_team_snapshots.specs.CutWorlds.{HasNoted, IsSinceRecording}
use Rattle.mp_team_snapshots.specs.Found.{findings_in, least_state, least_under_way, messages_in, numbered, verdict_in}
use Rattle.mp_team_snapshots.specs.Verdicts.{HasFoundThere, HasProvedGoal, IsVerdictOn}
use Rattle.mp_team_snapshots.proofs.Both.{IsCut, recorded, taken_in}
use Rattle.mp_team_snapshots.proofs.CutMail.{cut_again}
use Rattle.mp_team_snapshots.proofs.CutRuns.{IsBeside, beside}
use Rattle.mp_team_snapshots.proofs.Leasts.{least_others}
use Rattle.mp_team_snapshots.proofs.MessagesCut.{its_publics}
use Rattle.mp_team_snapshots.proofs.Readings.{bytes_f, least_bytes}
use Rattle.mp_team_snapshots.proofs.Taken.{both, cutting}
use Rattle.mp_team_snapshots.proofs.Unnumbered.{IsNamed, found_by, verdict_named, verdict_same}

-- a bound of a cost is that of the least goal entry
pub record HasGoal (cost : ℕ) (r : Record AgentState) : Type 0 where
  pub number : ℕ
  pub least : least_goal r ≡ Some (cost, number)
  pub entry : Entry AgentState
  pub is_entry : slice_get r.entries number ≡ Some entry
  pub goal : entry.goal ≡ true
  pub cost_is : entry.g ≡ cost

pub goal_of_bound : (cost : ℕ) (r : Record AgentState) → is_cost cost (bound r) ≡ true → HasGoal cost r
goal_of_bound cost r is = by (leftmost is_cheaper None (those (λ e. e.goal) r.entries)) refl is
  where
    by : (o : Option (Numbered AgentState)) → leftmost is_cheaper None (those (λ e. e.goal) r.entries) ≡ o
        → is_cost cost (option_map (λ (goal : ℕ × ℕ). goal.0)
        (option_map (λ (x : Numbered AgentState). (x.1.g, x.0)) o)) ≡ true → HasGoal cost r
    by None found no_goal = absurd (false≢true no_goal)
    by (Some x) found same =
        let first = found_first is_cheaper cheaper_strict (those (λ e. e.goal) r.entries) x found in
        let that = those_have (λ e. e.goal) r.entries x first.among in
        let costs : x.1.g ≡ cost = eqb-true x.1.g cost same in
        record {
          number = x.0;
          least = ap (option_map (λ (y : Numbered AgentState). (y.1.g, y.0))) found ∙ ap (λ d. Some (d, x.0)) costs;
          entry = x.1;
          is_entry = slice_get-get_or r.entries x.0 x.1 that.inside ∙ ap Some that.is;
          goal = that.passes;
          cost_is = costs;
        }

module _ (team : Team) (publics : ℕ) (of_team : IsTeamOf publics team.tasks) (schedule : List Event) (w : World)
    (ran : run_of (after_event team.value) (start_world team) schedule ≡ Some w) (first : AgentRecord)
    (there : agent_at w 1 ≡ Some first) (v : Verdict) (given : given_verdict first ≡ Some v) where
  open team use {tasks, value}

  is : IsTeamWorld tasks w
  is = run_of_team team schedule w ran

  holds : HoldsInRuns publics w
  holds = holds_in_runs team publics of_team schedule w ran

  abbrev k : ℕ
  k = first.snapshot.number

  pub some : 1 ≤ first.snapshot.number
  some = let positive = (verdict_there first v given).some in omega arith

  over : IsSnapshotOver publics w first
  over = verdict_is_over publics tasks of_team w is holds.sound first v there given

  pub next_to : IsBeside team publics of_team first.snapshot.number some schedule w
  next_to = beside team publics of_team first.snapshot.number some schedule w ran

  abbrev c : World
  c = next_to.cut

  is_c : IsTeamWorld tasks c
  is_c =
      run_of_team team
      (cut_from value first.snapshot.number (start_world team) schedule) c next_to.cut_ran

  numbers : HasNumbers tasks w
  numbers = team_numbers publics tasks of_team w is

  numbers_c : HasNumbers tasks c
  numbers_c = team_numbers publics tasks of_team c is_c

  upto : (note_at w 1).number ≤ k
  upto = let same = ap (λ s. s.number) (note_of w 1 first there) in omega arith

  counted : ℕ → ℕ → List (List ℕ)
  counted = (next_to.mail upto).0

  mail : IsCut (cutting (length tasks) publics k) (both w c counted)
  unfolding counted
  mail = (next_to.mail upto).1

  -- ---- each agent has recorded, and has taken all markers

  number_is : (r : AgentRecord) → agent_at w r.task.me ≡ Some r → r.snapshot.number ≡ k
  number_is r at = begun_number k r.snapshot.number (over.begun r at)

  is_recorded : (r : AgentRecord) → agent_at w r.task.me ≡ Some r → has_recorded k r ≡ true
  is_recorded r at = let same = number_is r at in le-leb k r.snapshot.number (omega arith)

  note_recorded : (i : ℕ) → IsOf (length tasks) i → recorded k (note_at w i) ≡ true
  note_recorded i of =
      let found = agent_there w i (is_agent_of publics tasks of_team w numbers i of) in
      ap (recorded k) (note_of w i found.0 found.1)
      ∙ is_recorded found.0 (at_me publics tasks of_team w numbers i found.0 found.1)

  note_taken : (i j : ℕ) → IsOf (length tasks) i → IsOf (length tasks) j → taken_in k (note_at w j) i ≡ true
  note_taken i j of_i of_j =
      let found = agent_there w j (is_agent_of publics tasks of_team w numbers j of_j) in
      let r = found.0 in
      let at = at_me publics tasks of_team w numbers j r found.1 in
      let notes = holds.sound.notes r at in
      and_from (recorded k (note_at w j)) (has (note_at w j).marked i) (note_recorded j of_j)
      (ap (λ s. has s.marked i) (note_of w j r found.1)
      ∙ whole_has r.snapshot (length tasks) i
      (notes.agents ∙ numbers.size) notes.marked of_i.from_1 of_i.at_most of_team.agents (over.whole r at))

  -- what is under way after the cut is what was counted
  under_way_is : (i j : ℕ) → IsOf (length tasks) i → IsOf (length tasks) j → i ≢ j → under_way c i j ≡ counted i j
  under_way_is i j of_i of_j off =
      cut_again (spelling (Marker k)) (recorded k (note_at w i)) true (taken_in k (note_at w j) i) true (counted i j)
      (counted i j)
      (under_way w i j) (under_way w i j) (under_way c i j) (under_way c i j) (sym (note_recorded i of_i))
      (sym (note_taken i j of_i of_j)) refl refl refl
      (mail.mail i j of_i of_j off)

  -- ---- what each agent found

  module _ (now : AgentRecord) (at : agent_at w now.task.me ≡ Some now) where
    its : IsOf (length tasks) now.task.me
    its = is_of_there publics tasks of_team w numbers now.task.me now at

    since : (then : AgentRecord) × (agent_at c now.task.me ≡ Some then) × IsSinceRecording k then now
    since = next_to.agents.recorded now.task.me now at (is_recorded now at)

    abbrev then : AgentRecord
    then = since.0

    noted : HasNoted then now
    noted = since.2.last (number_is now at)

    under_way_found : (own now.snapshot).under_way ≡ least_under_way c then
    under_way_found =
        let me = ap (λ t. t.me) since.2.task in
        let facts = sym (its_publics publics tasks of_team w is now at) ∙ ap (λ t. t.publics) since.2.task in
        let size = sym numbers_c.size in
        ap (λ s. (own s).under_way) (sym (note_of w now.task.me now at))
        ∙ mail.least now.task.me its (note_recorded now.task.me its)
        ∙ sym (least_others now.task.me (length tasks)
        (λ i. least_of (map (bytes_f (length tasks) publics) (counted i now.task.me)))
        (λ i. least_state (messages_in (length tasks) publics (under_way c i now.task.me)))
        (λ i low high off.
        least_bytes (length tasks) publics (under_way c i now.task.me)
        ∙ ap (λ ms. least_of (map (bytes_f (length tasks) publics) ms))
        (under_way_is i now.task.me (record { from_1 = low; at_most = high }) its off)))
        ∙ (λ i. least_of (map (λ from. least_state (messages_in (size i) (facts i) (under_way c from (me i))))
        (others (me i) (size i))))

    found_is : own now.snapshot ≡ numbered k (findings_in c then)
    found_is =
        let number : (own now.snapshot).number ≡ k = (holds.sound.notes now at).own_number ∙ number_is now at in
        let under_way_same = under_way_found in
        let alike = noted.found in
        λ i. record {
          number = number i;
          least = alike.least i;
          under_way = under_way_same i;
          goal = alike.goal i;
          spent = alike.spent i;
        }

    pub found_there : HasFoundThere k w c now
    found_there = record {
      then = then;
      there = since.1;
      since = since.2;
      number = number_is now at;
      found = found_is;
    }

  -- ---- the verdict

  found_at : (p : ℕ) (d : Findings) → p < length tasks
      → slice_index_or (map (numbered k) (map (findings_in c) c.agents)) p d
      ≡ slice_index_or (map (λ r. own r.snapshot) w.agents) p d
  found_at p d inside =
      let of : IsOf (length tasks) (suc p) = record { from_1 = omega arith; at_most = omega arith } in
      let here = agent_there w (suc p) (is_agent_of publics tasks of_team w numbers (suc p) of) in
      let now = here.0 in
      let at = at_me publics tasks of_team w numbers (suc p) now here.1 in
      let found = found_there now at in
      let then_at : slice_get c.agents p ≡ Some found.then =
      sym (ap (agent_at c) (me_of publics tasks of_team w numbers (suc p) now here.1)) ∙ found.there in
      get_or-map (numbered k) (map (findings_in c) c.agents) p (findings_in c found.then) d
      (subst (λ n. p < n) (sym (length-map c.agents (findings_in c) ∙ numbers_c.size)) inside)
      ∙ ap (numbered k) (get_or-map (findings_in c) c.agents p found.then (findings_in c found.then)
      (subst (λ n. p < n) (sym numbers_c.size) inside))
      ∙ ap (λ r. numbered k (findings_in c r)) (get_or_from_slice_get c.agents p found.then found.then then_at)
      ∙ sym found.found
      ∙ ap (λ x. own x.snapshot) (sym (get_or_from_slice_get w.agents p now now here.1))
      ∙ sym (get_or-map (λ x. own x.snapshot) w.agents p now d (subst (λ n. p < n) (sym numbers.size) inside))

  all_found : map (numbered k) (map (findings_in c) c.agents) ≡ map (λ r. own r.snapshot) w.agents
  all_found =
      same_lists (map (numbered k) (map (findings_in c) c.agents)) (map (λ r. own r.snapshot) w.agents)
      (many ∙ sym (length-map w.agents (λ r. own r.snapshot) ∙ numbers.size))
      (λ p d inside. found_at p d (subst (λ n. p < n) many inside))
    where
      many : length (map (numbered k) (map (findings_in c) c.agents)) ≡ length tasks
      many =
          length-map (map (findings_in c) c.agents) (numbered k) ∙ length-map c.agents (findings_in c) ∙ numbers_c.size

  rule : verdict_in c ≡ v
  rule =
      sym (verdict_same k (map (findings_in c) c.agents)) ∙ ap verdict_of all_found
      ∙ verdict_is_rule publics tasks of_team w is holds.sound first v there given

  -- ---- a proved plan

  module _ (agent cost : ℕ) (is_proved : v ≡ Proved agent cost) where
    named : IsNamed 1 agent (λ x. is_cost cost x.goal) (map (findings_in c) c.agents)
    named = verdict_named (map (findings_in c) c.agents) agent cost (rule ∙ is_proved)

    found_then : (then : AgentRecord) × (slice_get c.agents named.place ≡ Some then)
        × (findings_in c then ≡ named.found)
    found_then = found_by (findings_in c) c.agents named.place named.found named.there

    named_place : agent ≡ suc named.place
    named_place = let e = named.is in omega arith

    then_there : agent_at c agent ≡ Some found_then.0
    then_there = ap (agent_at c) named_place ∙ found_then.1

    found_now : (now : AgentRecord) × (agent_at w agent ≡ Some now)
    found_now =
        agent_there w agent
        (is_agent_of publics tasks of_team w numbers agent
        (is_of_there publics tasks of_team c numbers_c agent found_then.0 then_there))

    now_there : agent_at w found_now.0.task.me ≡ Some found_now.0
    now_there = at_me publics tasks of_team w numbers agent found_now.0 found_now.1

    now_found : HasFoundThere k w c found_now.0
    now_found = found_there found_now.0 now_there

    then_is : now_found.then ≡ found_then.0
    then_is =
        same_Some now_found.then found_then.0
        (sym now_found.there ∙ ap (agent_at c) (me_of publics tasks of_team w numbers agent found_now.0 found_now.1)
        ∙ then_there)

    since_then : IsSinceRecording k found_then.0 found_now.0
    since_then = subst (λ r. IsSinceRecording k r found_now.0) then_is now_found.since

    goal_then : HasGoal cost found_then.0.search.kept
    goal_then = goal_of_bound cost found_then.0.search.kept (ap (λ f. is_cost cost f.goal) found_then.2 ∙ named.passes)

    proved_goal : HasProvedGoal k w c agent cost
    proved_goal = record {
      now = found_now.0;
      there = found_now.1;
      then = found_then.0;
      there_then = then_there;
      since = since_then;
      number = goal_then.number;
      least = goal_then.least;
      entry = goal_then.entry;
      is_entry = goal_then.is_entry;
      goal = goal_then.goal;
      cost_is = goal_then.cost_is;
      noted = (since_then.last now_found.number).goal;
    }

  pub verdict_on : IsVerdictOn first.snapshot.number w next_to.cut v
  verdict_on = record { found = found_there; rule = rule; proved = proved_goal }
