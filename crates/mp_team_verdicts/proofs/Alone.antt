-- An agent that is alone, with a heuristic that knows nothing, expands each state once at most, so that it is spent only where it may
-- expand fewer entries than there are states.
use Rattle.mp_world.proofs.Basics.{◌≡◌, ℕ, ◌+◌, ◌-◌, ◌<◌, ◌≤◌, ◌^◌, ◌⊎◌, Bool, true, false, List, [], ◌∷◌, ◌++◌, length, map, Option, Some, refl, sym, ap, subst, ◌∙◌, arith, inl, inr, Contains, ◌==◌, if◌then◌else◌, slice_get, slice_index_or, option_map_or, cases_lt}
use Rattle.mp_world.proofs.Basics.{eqb-true, false≢true, length-map, get_or_from_slice_get, none-some, same_Some, slice_get_within}
use Rattle.mp_list.proofs.Members.{contains_cases, no_member, from_map}
use Rattle.mp_search.proofs.KeyedStates.{Decides-state}
use Rattle.mp_world.specs.AgentWords.{AgentTask, Event, Expand, Take, Start, Spent, AgentRecord, given_verdict}
use Rattle.mp_world.specs.SearchWords.{Entry, Expanded, Open, IsSound, is_open, AgentState, no_tag, same_state}
use Rattle.mp_world.specs.Events.{run}
use Rattle.mp_world.specs.Steps.{IsStepOf}
use Rattle.mp_world.specs.Team.{AreTeamTasks, IsTeam, team_with}
use Rattle.mp_world.specs.World.{IsTeamWorld, World, agent_at}
use Rattle.mp_world.proofs.Agents.{agree_numbered, member_of}
use Rattle.mp_world.proofs.Mail.{agent_of_team}
use Rattle.mp_world.proofs.Runs.{run_has_history, run_of_team}
use Rattle.mp_world.proofs.Stepping.{team_size}
use Rattle.mp_team_states.specs.Paths.{IsEntryAt}
use Rattle.mp_team_states.specs.Sound.{AreStatesSound}
use Rattle.mp_team_states.proofs.ReachedEntries.{has_it}
use Rattle.mp_team_states.proofs.StartSound.{start_states_sound}
use Rattle.mp_team_states.proofs.StepsSound.{agent_sound, states_stay_sound}
use Rattle.mp_team_states.specs.Expansions.{IsExpandedAt, nothing_known}
use Rattle.mp_team_states.proofs.Continuing.{WasExpanded}
use Rattle.mp_team_states.proofs.Heuristics.{heuristic_of}
use Rattle.mp_team_states.proofs.Once.{HaveRising, rising_in_runs}
use Rattle.mp_team_states.proofs.SoundWorlds.{IsHeuristic, later_cheaper, states_known}
use Rattle.mp_team_states.proofs.StillExpanded.{stays_expanded}
use Rattle.mp_team_states.proofs.Worth.{expands_one}
use Rattle.mp_team_verdicts.specs.Right.{IsUndecided}
use Rattle.mp_team_verdicts.proofs.Counts.{count_by, count_more, counted_in_runs, is_by}
use Rattle.mp_team_verdicts.proofs.FewStates.{AreApart, IsAloneState, few_apart, map_apart, same_states, state_number, state_number_below}
use Rattle.mp_team_verdicts.proofs.Verdicts.{verdict_right}

-- ---- as many entries are expanded as an agent's events say

pub record HasExpandedAll (w : World) (agent count : ℕ) : Type 0 where
  pub numbers : List ℕ
  pub apart : AreApart numbers
  pub many : length numbers ≡ count
  pub each : (n : ℕ) → Contains numbers n → IsExpandedAt w agent n

-- an entry that is open is not expanded
open_not_expanded : (w : World) (agent n : ℕ) (e : Entry AgentState) → IsEntryAt w agent n e → e.mark ≡ Open → IsExpandedAt w agent n → ⊥
open_not_expanded w agent n e has open_ x =
    let a = has_it w agent n e has in
    let b = has_it w agent n x.entry x.there in
    let same : b.agent_is ≡ a.agent_is = same_Some b.agent_is a.agent_is (sym b.there ∙ a.there) in
    let one : e ≡ x.entry = same_Some e x.entry (sym a.at ∙ ap (λ (r : AgentRecord). slice_get r.search.kept.entries n) (sym same) ∙ b.at) in
    let marks : Open ≡ Expanded = sym open_ ∙ ap (λ (y : Entry AgentState). y.mark) one ∙ x.is in
    let impossible : ⊥ = cc in
    impossible

-- there is one task alone
only_task : (x t : AgentTask) → Contains (x ∷ []) t → t ≡ x
only_task x t here =
    elim (contains_cases x [] t here) [
      | inl same ↦ sym same
      | inr none ↦ absurd (no_member t none)
    ]

one_task : (ts : List AgentTask) → length ts ≡ 1 → (t u : AgentTask) → Contains ts t → Contains ts u → t ≡ u
one_task [] one t u t_here u_here = absurd (no_member t t_here)
one_task (x ∷ []) one t u t_here u_here = only_task x t t_here ∙ sym (only_task x u u_here)
one_task (x ∷ y ∷ more) one t u t_here u_here = absurd (omega arith)

module _ (tasks : List AgentTask) (are : AreTeamTasks tasks) where
  abbrev HoldsAfter : List Event → World → Type 0
  HoldsAfter past w = AreStatesSound tasks w × ((agent : ℕ) → HasExpandedAll w agent (count_by agent past))

  module _ (past : List Event) (w : World) (team : IsTeamWorld tasks w) (old : HoldsAfter past w) (event : Event) (next : World) (is : IsStepOf nothing_known w event next) where
    -- no more than before
    no_more : (agent : ℕ) → is_by agent event ≡ 0 → HasExpandedAll next agent (count_by agent (past ++ event ∷ []))
    no_more agent none =
        let was = old.1 agent in
        let more = count_more agent past event in
        let many = was.many in
        record {
          numbers = was.numbers;
          apart = was.apart;
          many = omega arith;
          each = λ n here. stays_expanded nothing_known w next event is agent n (was.each n here);
        }

  one_more : (past : List Event) (w : World) (team : IsTeamWorld tasks w) (old : HoldsAfter past w) (event : Event) (next : World) (is : IsStepOf nothing_known w event next)
      → (agent : ℕ) → HasExpandedAll next agent (count_by agent (past ++ event ∷ []))
  one_more past w team old (Take by from) next is agent = no_more past w team old (Take by from) next is agent refl
  one_more past w team old Start next is agent = no_more past w team old Start next is agent refl
  one_more past w team old (Expand other) next is agent = by (other == agent) refl
    where
      here : other ≡ agent → is_by agent (Expand other) ≡ 1 → HasExpandedAll next agent (count_by agent (past ++ Expand other ∷ []))
      here same one =
          let was = old.1 agent in
          let x = expands_one tasks are w team old.0 nothing_known next other is in
          let more = count_more agent past (Expand other) in
          let many = was.many in
          record {
            numbers = x.number ∷ was.numbers;
            apart = (
              λ y there same_y.
                  open_not_expanded w agent x.number x.entry (subst (λ (a : ℕ). IsEntryAt w a x.number x.entry) same x.there) x.is_open
                  (subst (IsExpandedAt w agent) (sym same_y) (was.each y there)),
              was.apart,
            );
            many = omega arith;
            each = λ n there.
                elim (contains_cases x.number was.numbers n there) [
                  | inl first ↦ subst (IsExpandedAt next agent) first (subst (λ (a : ℕ). IsExpandedAt next a x.number) same x.is)
                  | inr later ↦ stays_expanded nothing_known w next (Expand other) is agent n (was.each n later)
                ];
          }

      by : (b : Bool) → (other == agent) ≡ b → HasExpandedAll next agent (count_by agent (past ++ Expand other ∷ []))
      by true test = here (eqb-true other agent test) (ap (λ (b : Bool). if b then 1 else 0) test)
      by false test = no_more past w team old (Expand other) next is agent (ap (λ (b : Bool). if b then 1 else 0) test)

  module _ (limit : ℕ) (is_team : IsTeam (team_with nothing_known limit tasks)) where
    all_expanded : (schedule : List Event) (w : World) → run (team_with nothing_known limit tasks) schedule ≡ Some w → HoldsAfter schedule w
    all_expanded =
        run_has_history (team_with nothing_known limit tasks) HoldsAfter (
          start_states_sound (team_with nothing_known limit tasks) is_team,
          λ agent. record { numbers = []; apart = tt; many = refl; each = λ n here. absurd (no_member n here) },
        )
        (λ past w event next team old is.
        (states_stay_sound tasks are w team old.0 nothing_known next event is, λ agent. one_more past w team old event next is agent))

    -- ---- where one agent is alone

    module _ (alone : length tasks ≡ 1) where
      -- ---- one world

      module _ (schedule : List Event) (w : World) (ran : run (team_with nothing_known limit tasks) schedule ≡ Some w) (agent : ℕ) (r : AgentRecord) (there : agent_at w agent ≡ Some r)
          (n : ℕ) (e : Entry AgentState) (at : slice_get r.search.kept.entries n ≡ Some e) (open_ : e.mark ≡ Open) where
        team : IsTeamWorld tasks w
        team = run_of_team (team_with nothing_known limit tasks) schedule w ran

        rising : HaveRising tasks w
        rising = rising_in_runs tasks are alone limit is_team schedule w ran

        sound : IsSound same_state r.search.kept
        sound = (agent_sound tasks are w team rising.0 agent r there).kept

        all : HasExpandedAll w agent (count_by agent schedule)
        all = (all_expanded schedule w ran).1 agent

        abbrev publics : ℕ
        publics = r.task.publics

        abbrev privates : ℕ
        privates = r.task.privates

        -- the number of the state of an entry
        abbrev number_at : ℕ → ℕ
        number_at m = option_map_or (λ (x : Entry AgentState). state_number publics privates x.key) (slice_get r.search.kept.entries m) 0

        number_is : (m : ℕ) (x : Entry AgentState) → slice_get r.search.kept.entries m ≡ Some x → number_at m ≡ state_number publics privates x.key
        number_is m x at_m = ap (λ (o : Option (Entry AgentState)). option_map_or (λ (x : Entry AgentState). state_number publics privates x.key) o 0) at_m

        was : (m : ℕ) → IsExpandedAt w agent m → WasExpanded r.search.kept m
        was m x =
            let h = has_it w agent m x.entry x.there in
            let one : h.agent_is ≡ r = same_Some h.agent_is r (sym h.there ∙ there) in
            record { entry = x.entry; at = ap (λ (r : AgentRecord). slice_get r.search.kept.entries m) (sym one) ∙ h.at; is = x.is }

        alone_state : (m : ℕ) (x : Entry AgentState) → slice_get r.search.kept.entries m ≡ Some x → IsAloneState publics privates x.key
        alone_state m x at_m =
            let known = states_known tasks are w team rising.0 agent m r x there at_m in
            let of = member_of tasks (agree_numbered tasks are.agree) w team agent r there in
            let is = agent_of_team w agent r there in
            let low = is.from_1 in
            let high = is.at_most in
            let size = team_size tasks w team in
            let me = of.me in
            let agents = of.agents in
            let number = known.number in
            let first : r.task.me - 1 ≡ 0 = omega arith in
            record {
              publics_below = known.publics;
              mine_below = known.mine;
              one = omega arith;
              own = subst (λ (i : ℕ). slice_index_or x.key.tags i no_tag ≡ no_tag) first known.own;
            }

        same_keys : (m k : ℕ) (x y : Entry AgentState) → slice_get r.search.kept.entries m ≡ Some x → slice_get r.search.kept.entries k ≡ Some y
            → number_at m ≡ number_at k → x.key ≡ y.key
        same_keys m k x y at_m at_k same =
            same_states publics privates x.key y.key (alone_state m x at_m) (alone_state k y at_k) (sym (number_is m x at_m) ∙ same ∙ number_is k y at_k)

        -- no state that is expanded is that of the open entry
        open_apart : (m : ℕ) → WasExpanded r.search.kept m → number_at n ≡ number_at m → ⊥
        open_apart m o same = by (cases_lt m n) (cases_lt n m)
          where
            key : e.key ≡ o.entry.key
            key = same_keys n m e o.entry at o.at same

            -- the later one of the state
            later : n < m → ⊥
            later before =
                let is_e = get_or_from_slice_get r.search.kept.entries n e e at in
                let is_o = get_or_from_slice_get r.search.kept.entries m o.entry e o.at in
                let closed = sound.last_open n m e before (slice_get_within r.search.kept.entries m o.entry o.at)
                ((λ k. same_state (is_e k).key (is_o k).key) ∙ (Decides-state e.key o.entry.key).1 key) in
                false≢true (sym closed ∙ ap (λ (x : Entry AgentState). is_open x.mark) is_e ∙ ap is_open open_)

            by : (m < n) ⊎ (n ≤ m) → (n < m) ⊎ (m ≤ n) → ⊥
            by (inl before) any =
                let less = later_cheaper r.search.kept sound m n o.entry e before o.at at (sym key) in
                let most = (rising.1 agent r there).before m n o e at open_ in
                omega arith
            by (inr past) (inl before) = later before
            by (inr past) (inr upto) =
                let one : n ≡ m = omega arith in
                let entry : e ≡ o.entry = same_Some e o.entry (sym at ∙ ap (slice_get r.search.kept.entries) one ∙ o.at) in
                let marks : Open ≡ Expanded = sym open_ ∙ ap (λ (y : Entry AgentState). y.mark) entry ∙ o.is in
                let impossible : ⊥ = cc in
                impossible

        abbrev numbers : List ℕ
        numbers = map number_at all.numbers

        below : (m : ℕ) (x : Entry AgentState) → slice_get r.search.kept.entries m ≡ Some x → number_at m < 2 ^ (publics + privates)
        below m x at_m = subst (λ (c : ℕ). c < 2 ^ (publics + privates)) (sym (number_is m x at_m)) (state_number_below publics privates x.key)

        pub few_expanded : r.search.expansions < 2 ^ (publics + privates)
        few_expanded =
            let most_apart =
            few_apart (number_at n ∷ numbers) (2 ^ (publics + privates)) (
              λ y here same.
                  let m = from_map number_at all.numbers y here in
                  open_apart m.0 (was m.0 (all.each m.0 m.1)) (same ∙ sym m.2),
              map_apart number_at all.numbers all.apart
                  (λ x y x_here y_here same.
                  let a = was x (all.each x x_here) in
                  let b = was y (all.each y y_here) in
                  (rising.1 agent r there).once x y a b (same_keys x y a.entry b.entry a.at b.at same)),
            )
            (λ y here.
            elim (contains_cases (number_at n) numbers y here) [
              | inl first ↦ subst (λ (c : ℕ). c < 2 ^ (publics + privates)) first (below n e at)
              | inr later ↦
                  let m = from_map number_at all.numbers y later in
                  let a = was m.0 (all.each m.0 m.1) in
                  subst (λ (c : ℕ). c < 2 ^ (publics + privates)) m.2 (below m.0 a.entry a.at)
            ])
            in
            let long = length-map all.numbers number_at in
            let many = all.many in
            let count = (counted_in_runs (team_with nothing_known limit tasks) is_team schedule w ran agent r there).count in
            omega arith

      -- ---- a verdict

      nothing_heuristic : IsHeuristic nothing_known tasks
      nothing_heuristic =
          heuristic_of nothing_known (λ t publics privates within. omega arith) (λ t publics privates within none plan solves. none-some 0 (sym none))
          (λ t publics privates within plan solves. omega arith) tasks are

      pub few_if_spent : (schedule : List Event) (w : World) → run (team_with nothing_known limit tasks) schedule ≡ Some w → (first : AgentRecord) (agent : ℕ) → agent_at w 1 ≡ Some first
          → given_verdict first ≡ Some (Spent agent) → limit < 2 ^ (first.task.publics + first.task.privates)
      few_if_spent schedule w ran first agent there given =
          let of = member_of tasks (agree_numbered tasks are.agree) w (run_of_team (team_with nothing_known limit tasks) schedule w ran) 1 first there in
          let u : IsUndecided (team_with nothing_known limit tasks) schedule w first.snapshot.number agent =
          verdict_right (team_with nothing_known limit tasks) is_team nothing_heuristic first.task of.task schedule w ran first there (Spent agent) given in
          let c = u.cut.world in
          let r = u.at_limit.spent.who in
          let own = u.at_limit.own in
          let h = has_it c agent own.number own.entry own.there in
          let one : h.agent_is ≡ r = same_Some h.agent_is r (sym h.there ∙ u.at_limit.spent.there) in
          let at : slice_get r.search.kept.entries own.number ≡ Some own.entry = ap (λ (r : AgentRecord). slice_get r.search.kept.entries own.number) (sym one) ∙ h.at in
          let few = few_expanded _ c u.cut.runs agent r u.at_limit.spent.there own.number own.entry at own.is_open in
          let count = u.at_limit.spent.expanded in
          let task : r.task ≡ first.task =
          one_task tasks alone r.task first.task
          (member_of tasks (agree_numbered tasks are.agree) c (run_of_team (team_with nothing_known limit tasks) _ c u.cut.runs) agent r u.at_limit.spent.there).task of.task in
          subst (λ (t : AgentTask). limit < 2 ^ (t.publics + t.privates)) task (subst (λ (k : ℕ). k < 2 ^ (r.task.publics + r.task.privates)) count few)
