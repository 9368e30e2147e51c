-- The bounds of a run's last cut pass the audit, where the heuristic knows nothing.
use Rattle.std.proofs.Common.{◌≡◌, ◌≢◌, ℕ, zero, suc, ◌+◌, ◌-◌, ◌<◌, ◌≤◌, ◌^◌, Bool, true, false, cond, List, [], ◌∷◌, length, get_or, map, Option, Some, None, All, refl, sym, ap, subst, ◌∙◌, arith, inl, inr}
use Rattle.std.specs.Prelude.{AllPairs, Contains, filter, nat_le, nat_lt, not, slice_get, ◌&&◌, ◌||◌}
use Rattle.std.specs.List.{list_all}
use Rattle.std.specs.Option.{option_map_or}
use Rattle.std.proofs.lemmas.Bool.{and_from, and_parts, false≢true, leb-false, leb-true, lt-ltb, ltb-false, ltb-true}
use Rattle.std.proofs.lemmas.List.Kept.{AllPairs-filter}
use Rattle.std.proofs.lemmas.Option.{none-some, slice_get-get_or}
use Rattle.mp_list.proofs.Members.{all_at, contains_head, contains_tail, from_flat_map, from_map, to_flat_map, to_map}
use Rattle.mp_task.specs.AgentTask.{AgentTask}
use Rattle.mp_task.specs.Plan.{JointState}
use Rattle.mp_task.proofs.Agreeing.{Contains-slice_get}
use Rattle.mp_messages.specs.declared.history.Event.{Event}
use Rattle.mp_snapshot.specs.declared.verdict.Verdict.TheVariants.{Proved}
use Rattle.mp_store.specs.declared.entry.Entry.{Entry}
use Rattle.mp_store.proofs.RankLemmas.{member_kept}
use Rattle.mp_search.specs.AgentState.{AgentState, same_state}
use Rattle.mp_store.specs.Record.{f as f_of}
use Rattle.mp_search.proofs.KeyedStates.{Decides-state, all_get}
use Rattle.mp_machine.specs.AgentRecord.{AgentRecord, given_verdict}
use Rattle.mp_reach.specs.Explored.{HasEntry, IsAt}
use Rattle.mp_reach.specs.Found.{Entry as Seen}
use Rattle.mp_reach.specs.LeadsOn.{IsAny, IsGoal, IsRoot, Known, LeadsOn}
use Rattle.mp_world.specs.declared.answer.Answer.{Answer}
use Rattle.mp_world.specs.declared.answer.Answer.TheVariants as answers
use Rattle.mp_world.specs.Answers.{answer_by, answer_of, plan_length}
use Rattle.mp_world.specs.Events.{run}
use Rattle.mp_world.specs.IsRun.{IsRun}
use Rattle.mp_world.specs.Joint.{joint}
use Rattle.mp_world.specs.RoundRobin.{is_over}
use Rattle.mp_world.specs.Team.{IsTeam, team_with}
use Rattle.mp_world.specs.World.{World, agent_at}
use Rattle.mp_team_states.proofs.GoodStates.{equal_if_joint}
use Rattle.mp_team_states.proofs.StepsSound.{agent_sound}
use Rattle.mp_team_states.specs.Expansions.{nothing_known}
use Rattle.mp_team_states.specs.TeamFound.{found_of, seen_entry}
use Rattle.mp_team_states.proofs.Found.{entry_found, found_entry}
use Rattle.mp_team_states.proofs.Heuristics.{knows_nothing}
use Rattle.mp_team_states.proofs.Members.{at_place}
use Rattle.mp_team_states.proofs.Runs.{IsInvariantFor, run_invariant}
use Rattle.mp_team_states.proofs.SoundWorlds.{me_is, states_known}
use Rattle.mp_team_snapshots.specs.Found.{findings_in}
use Rattle.mp_team_verdicts.proofs.Cases.{IsNoneBelow, says_proved_cost}
use Rattle.mp_snapshot.specs.VerdictRule.{least_f, least_goal}
use Rattle.mp_snapshot.specs.declared.verdict.Verdict.{Verdict}
use Rattle.mp_snapshot.specs.declared.verdict.Verdict.TheVariants.{NoPlan, Spent, Continue}
use Rattle.mp_audit.specs.declared.certificate.Bound.{Bound}
use Rattle.mp_audit.specs.declared.certificate.Certificate.{Certificate}
use Rattle.mp_audit.specs.Audited.{Audited, bound_of, known_of}
use Rattle.mp_audit.specs.LastCut.{is_cheapest, last_bounds, noted_bounds, noted_entries, said_by, worth}
use Rattle.mp_audit.proofs.BoundLemmas.{bound_of_entry}
use Rattle.mp_audit.proofs.CutLemmas.{goal_costs, led_found, start_found}
use Rattle.mp_audit.proofs.NotedLemmas.{cut, cut_events, noted_then, then_noted, verdict_world}
use Rattle.mp_audit.proofs.PairLemmas.{all_by, from_filter, from_take, pairs_flat_map, pairs_map, pairs_take, pairs_with, to_take, unmapped_pairs}

-- a joint state in the search of an agent
abbrev known : ℕ → JointState → Known
known agent s = record { agent = agent; state = s }

agent_member : (w : World) (agent : ℕ) (r : AgentRecord) → agent_at w agent ≡ Some r → Contains w.agents r
agent_member w zero r there = absurd (none-some r there)
agent_member w (suc k) r there = Contains-slice_get w.agents k r there

-- ---- the cheapest entry of a state

some_fails : {X : Type 0} (p : X → Bool) (xs : List X) → list_all p xs ≡ false → (x : X) × Contains xs x × (p x ≡ false)
some_fails p [] fails = absurd (false≢true (sym fails))
some_fails {X} p (x ∷ xs) fails = by (p x) refl fails (some_fails p xs)
  where
    by : (b : Bool) → p x ≡ b → (b && list_all p xs) ≡ false → (list_all p xs ≡ false → (y : X) × Contains xs y × (p y ≡ false)) → (y : X) × Contains (x ∷ xs) y × (p y ≡ false)
    by true e fails rest = let r = rest fails in (r.0, contains_tail x xs r.0 r.1, r.2)
    by false e fails rest = (x, contains_head x xs, e)

-- another entry of one state costs less
cheaper_parts : (a b : Bool) → (not a || b) ≡ false → (a ≡ true) × (b ≡ false)
cheaper_parts true b fails = (refl, fails)
cheaper_parts false b fails = absurd (false≢true (sym fails))

only_if : (a b : Bool) → (not a || b) ≡ true → a ≡ true → b ≡ true
only_if true b passes is = passes
only_if false b passes is = absurd (false≢true is)

-- an entry of the same state that costs no more than this one, and than any other
record HasCheapest (entries : List (Entry AgentState)) (e : Entry AgentState) : Type 0 where
  entry : Entry AgentState
  there : Contains entries entry
  key : entry.key ≡ e.key
  within : entry.g ≤ e.g
  is : is_cheapest entries entry ≡ true

cheapest_step : (entries : List (Entry AgentState)) (e : Entry AgentState) → Contains entries e
    → ((x : Entry AgentState) → Contains entries x → x.g < e.g → HasCheapest entries x) → HasCheapest entries e
cheapest_step entries e there again = by (is_cheapest entries e) refl
  where
    by : (b : Bool) → is_cheapest entries e ≡ b → HasCheapest entries e
    by true is = record { entry = e; there = there; key = refl; within = omega arith; is = is }
    by false is =
        let found = some_fails (λ x. not (same_state x.key e.key) || nat_le e.g x.g) entries is in
        let parts = cheaper_parts (same_state found.0.key e.key) (nat_le e.g found.0.g) found.2 in
        let less = leb-false e.g found.0.g parts.1 in
        let c = again found.0 found.1 less in
        let below = c.within in
        record { entry = c.entry; there = c.there; key = c.key ∙ (Decides-state found.0.key e.key).0 parts.0; within = omega arith; is = c.is }

has_cheapest : (entries : List (Entry AgentState)) (most : ℕ) (e : Entry AgentState) → Contains entries e → e.g ≤ most → HasCheapest entries e
has_cheapest entries zero e there within = cheapest_step entries e there (λ x x_there less. absurd (omega arith))
has_cheapest entries (suc m) e there within = cheapest_step entries e there (λ x x_there less. has_cheapest entries m x x_there (omega arith))

-- ---- what was noted for a proved cost

module _ (limit : ℕ) (tasks : List AgentTask) (is_team : IsTeam (team_with nothing_known limit tasks))
    (schedule : List Event) (w : World) (ran : run (team_with nothing_known limit tasks) schedule ≡ Some w)
    (first : AgentRecord) (first_there : agent_at w 1 ≡ Some first) (prover cost : ℕ) (given : given_verdict first ≡ Some (Proved prover cost)) where
  abbrev c : World
  c = cut limit tasks is_team schedule w ran first first_there prover cost given

  abbrev events : List Event
  events = cut_events limit tasks is_team schedule w ran first first_there prover cost given

  all : IsInvariantFor nothing_known tasks is_team.tasks IsAny w
  all = run_invariant (team_with nothing_known limit tasks) is_team (knows_nothing IsAny tasks) schedule w ran

  c_ran : run (team_with nothing_known limit tasks) events ≡ Some c
  c_ran = (verdict_world limit tasks is_team schedule w ran first first_there prover cost given).cut.runs

  said : (least_goal (map (findings_in c) c.agents) ≡ Some cost) × IsNoneBelow cost (least_f (map (findings_in c) c.agents))
  said = says_proved_cost (map (findings_in c) c.agents) prover cost (verdict_world limit tasks is_team schedule w ran first first_there prover cost given).verdict_on.rule

  -- the proved cost is that of a goal entry
  cost_fits : cost < 2 ^ 60
  cost_fits =
      let g = (verdict_world limit tasks is_team schedule w ran first first_there prover cost given).verdict_on.proved prover cost refl in
      let at_cut : IsInvariantFor nothing_known tasks is_team.tasks IsAny c = run_invariant (team_with nothing_known limit tasks) is_team (knows_nothing IsAny tasks) events c c_ran in
      let bounded = all_get (λ (e : Entry AgentState). f_of e < 2 ^ 60) g.then.search.kept.entries g.number g.entry (agent_sound tasks is_team.tasks c at_cut.team at_cut.sound prover g.then g.there_then).kept.bounded g.is_entry in
      let is = g.cost_is in
      omega arith

  -- ---- what is listed

  -- a state with its bound is that of a cheapest entry that an agent had noted
  record IsListed (x : Known × ℕ) : Type 0 where
    agent : ℕ
    number : ℕ
    who : AgentRecord
    entry : Entry AgentState
    there : agent_at w agent ≡ Some who
    at : slice_get who.search.kept.entries number ≡ Some entry
    below : number < who.noted
    cheap : entry.g < cost
    cheapest : is_cheapest (noted_entries who) entry ≡ true
    is : worth w cost agent entry ≡ x

  listed_from : (x : Known × ℕ) → Contains (last_bounds w cost) x → IsListed x
  listed_from x found =
      let r = from_flat_map (noted_bounds w cost) w.agents x found in
      let e = from_map (worth w cost r.0.task.me) (filter (λ e. nat_lt e.g cost && is_cheapest (noted_entries r.0) e) (noted_entries r.0)) x r.2 in
      let passes = from_filter (λ e. nat_lt e.g cost && is_cheapest (noted_entries r.0) e) (noted_entries r.0) e.0 e.1 in
      let parts = and_parts (nat_lt e.0.g cost) (is_cheapest (noted_entries r.0) e.0) passes.1 in
      let n = from_take r.0.noted r.0.search.kept.entries e.0 passes.0 in
      let k = at_place w.agents r.0 r.1 in
      let me = me_is tasks is_team.tasks w all.team (suc k.0) r.0 k.1 in
      record {
        agent = suc k.0;
        number = n.0;
        who = r.0;
        entry = e.0;
        there = k.1;
        at = n.2;
        below = n.1;
        cheap = ltb-true e.0.g cost parts.0;
        cheapest = parts.1;
        is = ap (λ (a : ℕ). worth w cost a e.0) (sym me) ∙ e.2;
      }

  is_listed : (agent : ℕ) (r : AgentRecord) (e : Entry AgentState) → agent_at w agent ≡ Some r → Contains (noted_entries r) e → e.g < cost → is_cheapest (noted_entries r) e ≡ true
      → Contains (last_bounds w cost) (worth w cost agent e)
  is_listed agent r e there noted cheap cheapest =
      let me = me_is tasks is_team.tasks w all.team agent r there in
      let test = and_from (nat_lt e.g cost) (is_cheapest (noted_entries r) e) (lt-ltb e.g cost cheap) cheapest in
      let kept = member_kept (λ e. nat_lt e.g cost && is_cheapest (noted_entries r) e) (noted_entries r) e noted test in
      subst (λ (a : ℕ). Contains (last_bounds w cost) (worth w cost a e)) me
      (to_flat_map (noted_bounds w cost) w.agents r (worth w cost r.task.me e) (agent_member w agent r there)
      (to_map (worth w cost r.task.me) (filter (λ e. nat_lt e.g cost && is_cheapest (noted_entries r) e) (noted_entries r)) e kept))

  -- ---- no state is listed twice

  abbrev Differ : Known × ℕ → Known × ℕ → Type 0
  Differ x y = x.0 ≢ y.0

  abbrev Falls : Entry AgentState → Entry AgentState → Type 0
  Falls e later = same_state e.key later.key ≡ true → later.g < e.g

  module _ (agent : ℕ) (r : AgentRecord) (there : agent_at w agent ≡ Some r) where
    abbrev test : Entry AgentState → Bool
    test e = nat_lt e.g cost && is_cheapest (noted_entries r) e

    abbrev kept : List (Entry AgentState)
    kept = filter test (noted_entries r)

    abbrev of : Entry AgentState → Known
    of e = record { agent = r.task.me; state = joint w r.task.me e.key }

    at_number : (a : Entry AgentState) → Contains kept a → (n : ℕ) × (slice_get r.search.kept.entries n ≡ Some a)
    at_number a a_there =
        let n = from_take r.noted r.search.kept.entries a (from_filter test (noted_entries r) a a_there).0 in
        (n.0, n.2)

    apart : (a b : Entry AgentState) → Contains kept a → Contains kept b → Falls a b → of a ≢ of b
    apart a b a_there b_there falls same =
        let me = me_is tasks is_team.tasks w all.team agent r there in
        let m = at_number a a_there in
        let n = at_number b b_there in
        let whole : joint w agent a.key ≡ joint w agent b.key = (λ j. joint w (sym me j) a.key) ∙ ap (λ (k : Known). k.state) same ∙ (λ j. joint w (me j) b.key) in
        let key : a.key ≡ b.key =
        equal_if_joint tasks is_team.tasks w all.team all.sound agent r a.key b.key there
        (states_known tasks is_team.tasks w all.team all.sound agent m.0 r a there m.1)
        (states_known tasks is_team.tasks w all.team all.sound agent n.0 r b there n.1) whole
        in
        let less = falls ((Decides-state a.key b.key).1 key) in
        let of_a = from_filter test (noted_entries r) a a_there in
        let of_b = from_filter test (noted_entries r) b b_there in
        let cheapest = (and_parts (nat_lt a.g cost) (is_cheapest (noted_entries r) a) of_a.1).1 in
        let passes = all_at (λ x. not (same_state x.key a.key) || nat_le a.g x.g) (noted_entries r) b cheapest of_b.0 in
        let at_most = leb-true a.g b.g (only_if (same_state b.key a.key) (nat_le a.g b.g) passes ((Decides-state b.key a.key).1 (sym key))) in
        omega arith

    of_one_agent : AllPairs Differ (noted_bounds w cost r)
    of_one_agent =
        pairs_map Differ (worth w cost r.task.me) kept
        (pairs_with Falls (λ a b. of a ≢ of b) kept apart
        (AllPairs-filter Falls test (noted_entries r) (pairs_take Falls r.noted r.search.kept.entries (agent_sound tasks is_team.tasks w all.team all.sound agent r there).kept.falling)))

  -- each agent has its own number
  of_two_agents : AllPairs (λ r s. (x y : Known × ℕ) → Contains (noted_bounds w cost r) x → Contains (noted_bounds w cost s) y → Differ x y) w.agents
  of_two_agents i j d before within x y x_there y_there same =
      let i_me = me_at i d (omega arith) in
      let j_me = me_at j d within in
      let i_is = agent_is (get_or w.agents i d) x x_there in
      let j_is = agent_is (get_or w.agents j d) y y_there in
      let number = ap (λ (k : Known). k.agent) same in
      omega arith
    where
      me_at : (i : ℕ) (d : AgentRecord) → i < length w.agents → (get_or w.agents i d).task.me ≡ suc i
      me_at i d inside = me_is tasks is_team.tasks w all.team (suc i) (get_or w.agents i d) (slice_get-get_or w.agents i d inside)

      agent_is : (r : AgentRecord) (x : Known × ℕ) → Contains (noted_bounds w cost r) x → x.0.agent ≡ r.task.me
      agent_is r x there =
          let e = from_map (worth w cost r.task.me) (filter (λ e. nat_lt e.g cost && is_cheapest (noted_entries r) e) (noted_entries r)) x there in
          ap (λ (y : Known × ℕ). y.0.agent) (sym e.2)

  listed_once : AllPairs Differ (last_bounds w cost)
  listed_once =
      pairs_flat_map Differ (noted_bounds w cost) w.agents
      (λ r there. let k = at_place w.agents r there in of_one_agent (suc k.0) r k.1)
      of_two_agents

  -- ---- a certificate that says so

  module _ (certificate : Certificate) (bounds_are : map said_by certificate.bounds ≡ last_bounds w cost) (cost_is : certificate.cost ≡ cost) where
    abbrev bounds : List Bound
    bounds = certificate.bounds

    once : AllPairs (λ a b. known_of a ≢ known_of b) certificate.bounds
    once = unmapped_pairs Differ said_by certificate.bounds (subst (AllPairs Differ) (sym bounds_are) listed_once)

    of_bound : (b : Bound) → Contains certificate.bounds b → IsListed (said_by b)
    of_bound b here = listed_from (said_by b) (subst (λ (xs : List (Known × ℕ)). Contains xs (said_by b)) bounds_are (to_map said_by certificate.bounds b here))

    -- a noted entry's state has a bound
    at_least : (agent n : ℕ) (r : AgentRecord) (e : Entry AgentState) → agent_at w agent ≡ Some r → slice_get r.search.kept.entries n ≡ Some e → n < r.noted
        → cost ≤ bound_of certificate.bounds (known agent (joint w agent e.key)) + e.g
    at_least agent n r e there at below = by (nat_lt cheapest.entry.g cost) refl
      where
        cheapest : HasCheapest (noted_entries r) e
        cheapest = has_cheapest (noted_entries r) e.g e (to_take r.noted r.search.kept.entries n e below at) (omega arith)

        by : (b : Bool) → nat_lt cheapest.entry.g cost ≡ b → cost ≤ bound_of certificate.bounds (known agent (joint w agent e.key)) + e.g
        by true less =
            let listed = is_listed agent r cheapest.entry there cheapest.there (ltb-true cheapest.entry.g cost less) cheapest.is in
            let found = from_map said_by certificate.bounds (worth w cost agent cheapest.entry) (subst (λ (xs : List (Known × ℕ)). Contains xs (worth w cost agent cheapest.entry)) (sym bounds_are) listed) in
            let b = found.0 in
            let of : known_of b ≡ known agent (joint w agent e.key) = ap (λ (x : Known × ℕ). x.0) found.2 ∙ ap (λ (s : AgentState). known agent (joint w agent s)) cheapest.key in
            let is : bound_of certificate.bounds (known agent (joint w agent e.key)) ≡ b.bound = ap (bound_of certificate.bounds) (sym of) ∙ bound_of_entry certificate.bounds b once found.1 in
            let much : b.bound ≡ cost - cheapest.entry.g = ap (λ (x : Known × ℕ). x.1) found.2 in
            let within = cheapest.within in
            omega arith
        by false much =
            let enough = ltb-false cheapest.entry.g cost much in
            let within = cheapest.within in
            omega arith

    -- what has an entry after the cut has a bound
    covers : (k : Known) (g : ℕ) → HasEntry (found_of c) k g → cost ≤ bound_of certificate.bounds k + g
    covers k g has =
        let x = found_entry c has.index has.entry has.there in
        let t = then_noted limit tasks is_team schedule w ran first first_there prover cost given has.index.0 has.index.1 x.agent_is x.entry x.there x.at in
        let n = t.2 in
        let enough = at_least has.index.0 has.index.1 t.0 t.1 n.there n.at n.below in
        let of : known has.index.0 (joint w has.index.0 t.1.key) ≡ k =
        ap (known has.index.0) n.joint_is ∙ ap (λ (e : Seen Known). e.state) (sym x.is) ∙ has.of in
        let is : bound_of certificate.bounds (known has.index.0 (joint w has.index.0 t.1.key)) ≡ bound_of certificate.bounds k = ap (bound_of certificate.bounds) of in
        let price : t.1.g ≡ has.entry.cost = n.price ∙ ap (λ (e : Seen Known). e.cost) (sym x.is) in
        let within = has.within in
        omega arith

    starts : (k : Known) → IsRoot tasks k → certificate.cost ≤ bound_of certificate.bounds k
    starts k root =
        elim (start_found limit tasks is_team events c c_ran cost said.0 said.1 k root) [
          | inl nothing ↦ let is = cost_is in omega arith
          | inr has ↦ let is = cost_is in let enough = covers k 0 has in omega arith
        ]

    -- the entry of a bound, after the cut
    record HasSeen (b : Bound) : Type 0 where
      index : ℕ × ℕ
      seen : Seen Known
      there : IsAt (found_of c) index seen
      of : seen.state ≡ known_of b
      cheap : seen.cost < cost
      bound : b.bound ≡ cost - seen.cost

    has_seen : (b : Bound) → Contains certificate.bounds b → HasSeen b
    has_seen b here =
        let x = of_bound b here in
        let t = noted_then limit tasks is_team schedule w ran first first_there prover cost given x.agent x.number x.who x.entry x.there x.at x.below in
        let n = t.2 in
        let price = n.price in
        let cheap = x.cheap in
        let much : cost - x.entry.g ≡ b.bound = ap (λ (y : Known × ℕ). y.1) x.is in
        record {
          index = (x.agent, x.number);
          seen = seen_entry c x.agent t.1;
          there = entry_found c x.agent x.number t.0 t.1 n.then_there n.then_at;
          of = ap (known x.agent) (sym n.joint_is) ∙ ap (λ (y : Known × ℕ). y.0) x.is;
          cheap = omega arith;
          bound = sym much ∙ ap (λ (g : ℕ). cost - g) price;
        }

    pub bounds_fit : (certificate.cost ≤ 2 ^ 60) × All (λ b. (1 ≤ b.bound) × (b.bound ≤ 2 ^ 60)) certificate.bounds
    bounds_fit =
        let is = cost_is in
        let few = cost_fits in
        (omega arith, all_by (λ b. (1 ≤ b.bound) × (b.bound ≤ 2 ^ 60)) certificate.bounds (λ b here. fits b (of_bound b here)))
      where
        fits : (b : Bound) → IsListed (said_by b) → (1 ≤ b.bound) × (b.bound ≤ 2 ^ 60)
        fits b x =
            let few = cost_fits in
            let cheap = x.cheap in
            let much : cost - x.entry.g ≡ b.bound = ap (λ (y : Known × ℕ). y.1) x.is in
            (omega arith, omega arith)

    pub passes_audit : Audited tasks certificate
    passes_audit = record {
      once = once;
      starts = starts;
      goals = λ b here goal.
          let s = has_seen b here in
          let much = goal_costs limit tasks is_team events c c_ran cost said.0 said.1 s.index s.seen s.there (subst (IsGoal tasks) (sym s.of) goal) in
          let cheap = s.cheap in
          omega arith;
      steps = λ b price k here leads.
          let s = has_seen b here in
          let cheap = s.cheap in
          let bound = s.bound in
          elim (led_found limit tasks is_team events c c_ran cost said.0 said.1 s.index s.seen s.there s.cheap price k (subst (λ (u : Known). LeadsOn tasks u price k) (sym s.of) leads)) [
            | inl much ↦ omega arith
            | inr has ↦ let enough = covers k (s.seen.cost + price) has in omega arith
          ];
    }

-- ---- from what a team answers

-- agent 1 has proved a cost
record HasProved (w : World) (cost : ℕ) : Type 0 where
  first : AgentRecord
  there : agent_at w 1 ≡ Some first
  prover : ℕ
  given : given_verdict first ≡ Some (Proved prover cost)

module _ (w : World) (cost steps : ℕ) where
  by_verdict : (first : AgentRecord) → agent_at w 1 ≡ Some first → (o : Option Verdict) → given_verdict first ≡ o → answer_by first.ending o ≡ answers.Solved cost steps → HasProved w cost
  by_verdict first there None given is = absurd (let impossible : ⊥ = cc in impossible)
  by_verdict first there (Some NoPlan) given is = absurd (let impossible : ⊥ = cc in impossible)
  by_verdict first there (Some (Spent agent)) given is = absurd (let impossible : ⊥ = cc in impossible)
  by_verdict first there (Some Continue) given is = absurd (let impossible : ⊥ = cc in impossible)
  by_verdict first there (Some (Proved agent price)) given is =
      let same : price ≡ cost = cost_of_same (answers.Solved price (plan_length first.ending)) (answers.Solved cost steps) is in
      record { first = first; there = there; prover = agent; given = given ∙ ap (λ (p : ℕ). Some (Proved agent p)) same }
    where
      cost_of : Answer → ℕ
      cost_of answers.Nothing = 0
      cost_of (answers.Solved price length) = price
      cost_of answers.Unsolvable = 0
      cost_of answers.Undecided = 0

      cost_of_same : (a b : Answer) → a ≡ b → cost_of a ≡ cost_of b
      cost_of_same a b same = ap cost_of same

  by_first : (o : Option AgentRecord) → agent_at w 1 ≡ o → option_map_or (λ r. answer_by r.ending (given_verdict r)) o answers.Nothing ≡ answers.Solved cost steps → HasProved w cost
  by_first None there is = absurd (let impossible : ⊥ = cc in impossible)
  by_first (Some first) there is = by_verdict first there (given_verdict first) refl is

  has_proved : answer_of w ≡ answers.Solved cost steps → HasProved w cost
  has_proved is = by (is_over w) is
    where
      by : (b : Bool) → cond b (option_map_or (λ r. answer_by r.ending (given_verdict r)) (agent_at w 1) answers.Nothing) answers.Nothing ≡ answers.Solved cost steps → HasProved w cost
      by true is = by_first (agent_at w 1) refl is
      by false is = absurd (let impossible : ⊥ = cc in impossible)

module _ (limit : ℕ) (tasks : List AgentTask) (schedule : List Event) (w : World) (cost steps : ℕ) (certificate : Certificate)
    (it : IsRun (team_with nothing_known limit tasks) schedule w)
    (answer : answer_of w ≡ answers.Solved cost steps) (cost_is : certificate.cost ≡ cost) (bounds_are : map said_by certificate.bounds ≡ last_bounds w cost) where
  pub last_cut_passes : Audited tasks certificate
  last_cut_passes =
      let p = has_proved w cost steps answer in
      passes_audit limit tasks it.is_team schedule w it.leads p.first p.there p.prover cost p.given certificate bounds_are cost_is

  pub last_cut_fits : (certificate.cost ≤ 2 ^ 60) × All (λ b. (1 ≤ b.bound) × (b.bound ≤ 2 ^ 60)) certificate.bounds
  last_cut_fits =
      let p = has_proved w cost steps answer in
      bounds_fit limit tasks it.is_team schedule w it.leads p.first p.there p.prover cost p.given certificate bounds_are cost_is
