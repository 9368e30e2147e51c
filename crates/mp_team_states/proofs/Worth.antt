-- Which entry is expanded, and that it is worth it.
use Rattle.mp_world.proofs.Basics.{◌≡◌, ℕ, ◌<◌, ◌≤◌, ◌⊎◌, Bool, true, cond, eqb, List, get_or, Option, Some, None, refl, sym, ap, subst, ◌∙◌, arith, inl, inr, Contains, Ok, nat_lt, not, option_map, slice_get, and_parts, cases_lt, false≢true, lt-ltb, ltb-true}
use Rattle.mp_world.proofs.Basics.{get_or_from_slice_get, same_Some, slice_get-get_or, slice_get_within}
use Rattle.std.specs.Ordering.{is_lt, nat_cmp, ordering_then}
use Rattle.std.specs.Cmp.{nat_cmp_total, on_total, then_total}
use Rattle.std.specs.declared.cmp.Ordering.TheVariants.{Less, Equal, Greater}
use Rattle.std.proofs.lemmas.Bool.{cases_order}
use Rattle.mp_list.specs.First.{IsStrictOrder, leftmost}
use Rattle.mp_list.proofs.FirstLemmas.{found_first, nothing_found}
use Rattle.mp_list.proofs.Members.{no_member}
use Rattle.mp_list.proofs.Orders.{strict_from_total}
use Rattle.mp_store.specs.Minima.{nearer_cmp}
use Rattle.mp_store.proofs.RankLemmas.{cheaper_less, cheaper_strict, those_have, those_hold}
use Rattle.mp_search.proofs.KeyedStates.{Decides-state}
use Rattle.mp_world.specs.AgentWords.{AgentTask, Expand, AgentRecord, is_going, with_search, Step}
use Rattle.mp_world.specs.SearchWords.{Entry, Mark, Open, Expanded, Replaced, IsSound, Numbered, first_open, is_cheaper, is_nearer, least_open, those, Record, f, is_open, Sending, AgentState, same_state, expanded, SearchRecord, bound, is_below_bound, is_open_below}
use Rattle.mp_world.specs.SearchWords.{is_spent, may_expand}
use Rattle.mp_world.specs.Steps.{IsStepOf}
use Rattle.mp_world.specs.Team.{AreTeamTasks}
use Rattle.mp_world.specs.Values.{Values}
use Rattle.mp_world.specs.World.{IsTeamWorld, World}
use Rattle.mp_team_states.specs.Paths.{IsEntryAt}
use Rattle.mp_team_states.specs.Sound.{AreStatesSound}
use Rattle.mp_team_states.proofs.GoodStates.{equal_if_joint}
use Rattle.mp_team_states.proofs.ReachedEntries.{entry_in, has_it}
use Rattle.mp_team_states.proofs.StepsSound.{agent_sound}
use Rattle.mp_team_states.specs.Expansions.{ExpandsOne, IsExpandedAt}
use Rattle.mp_team_states.proofs.Expanded.{one_expanded}
use Rattle.mp_team_states.proofs.Continuing.{WasExpanded}
use Rattle.mp_team_states.proofs.SoundWorlds.{later_cheaper, states_known}

pub nearer_strict : IsStrictOrder (is_nearer {K = AgentState})
nearer_strict = strict_from_total nearer_cmp (then_total (on_total (λ x. f x.1) nat_cmp_total) (then_total (on_total (λ x. x.1.h) nat_cmp_total) (on_total (λ x. x.0) nat_cmp_total)))

pub nearer_less : (x y : Numbered AgentState) → f x.1 < f y.1 → is_nearer x y ≡ true
nearer_less x y less =
    ap (λ b. is_lt (ordering_then (cond b Less (cond (eqb (f x.1) (f y.1)) Equal Greater)) (ordering_then (nat_cmp x.1.h y.1.h) (nat_cmp x.0 y.0)))) (lt-ltb (f x.1) (f y.1) less)

pub open_mark : (m : Mark) → is_open m ≡ true → m ≡ Open
open_mark Open is = refl
open_mark Expanded is = absurd (false≢true is)
open_mark Replaced is = absurd (false≢true is)

-- the least open entry, which costs less than each goal entry
pub record IsWorth (r : Record AgentState) : Type 0 where
  pub number : ℕ
  pub entry : Entry AgentState
  pub first : least_open r ≡ Some number
  pub at : slice_get r.entries number ≡ Some entry
  pub is_open : entry.mark ≡ Open
  pub least : (m : ℕ) (e : Entry AgentState) → slice_get r.entries m ≡ Some e → e.mark ≡ Open → f entry ≤ f e
  pub below : (m : ℕ) (e : Entry AgentState) → slice_get r.entries m ≡ Some e → e.goal ≡ true → f entry < e.g

module _ (r : Record AgentState) where
  pub there_at : (p : Entry AgentState → Bool) (m : ℕ) (e : Entry AgentState) → slice_get r.entries m ≡ Some e → p e ≡ true → Contains (those p r.entries) (m, e)
  there_at p m e at passes =
      let it : get_or r.entries m e ≡ e = get_or_from_slice_get r.entries m e e at in
      subst (λ (x : Entry AgentState). Contains (those p r.entries) (m, x)) it
      (those_hold p r.entries m e (slice_get_within r.entries m e at) (ap p it ∙ passes))

  -- the bound is at most the cost of each goal entry
  pub bound_least : (m : ℕ) (e : Entry AgentState) → slice_get r.entries m ≡ Some e → e.goal ≡ true → (b : ℕ) × (bound r ≡ Some b) × (b ≤ e.g)
  bound_least m e at goal = by (leftmost is_cheaper None (those (λ e. e.goal) r.entries)) refl
    where
      there : Contains (those (λ e. e.goal) r.entries) (m, e)
      there = there_at (λ e. e.goal) m e at goal

      by : (o : Option (Numbered AgentState)) → leftmost is_cheaper None (those (λ e. e.goal) r.entries) ≡ o → (b : ℕ) × (bound r ≡ Some b) × (b ≤ e.g)
      by None is = absurd (no_member (m, e) (subst (λ xs. Contains xs (m, e)) (nothing_found is_cheaper (those (λ e. e.goal) r.entries) is) there))
      by (Some x) is =
          let first = found_first is_cheaper cheaper_strict (those (λ e. e.goal) r.entries) x is in
          let least : x.1.g ≤ e.g =
          elim (cases_lt e.g x.1.g) [
            | inl less ↦ absurd (false≢true (sym (first.least (m, e) there) ∙ cheaper_less (m, e) x less))
            | inr more ↦ more
          ] in
          (x.1.g, ap (λ (o : Option (Numbered AgentState)). option_map (λ (goal : ℕ × ℕ). goal.0) (option_map (λ x. (x.1.g, x.0)) o)) is, least)

  pub worth : is_open_below r ≡ true → IsWorth r
  worth below = by (first_open r.entries) refl
    where
      by : (o : Option (Numbered AgentState)) → first_open r.entries ≡ o → IsWorth r
      by None is = absurd (false≢true (sym (ap (λ (o : Option (Numbered AgentState)). is_below_bound (option_map (λ x. f x.1) o) (bound r)) is) ∙ below))
      by (Some x) is =
          let first = found_first is_nearer nearer_strict (those (λ e. is_open e.mark) r.entries) x is in
          let that = those_have (λ e. is_open e.mark) r.entries x first.among in
          record {
            number = x.0;
            entry = x.1;
            first = ap (option_map (λ x. x.0)) is;
            at = slice_get-get_or r.entries x.0 x.1 that.inside ∙ ap Some that.is;
            is_open = open_mark x.1.mark that.passes;
            least = λ m e at open_.
                elim (cases_lt (f e) (f x.1)) [
                  | inl less ↦ absurd (false≢true (sym (first.least (m, e) (there_at (λ e. is_open e.mark) m e at (ap is_open open_))) ∙ nearer_less (m, e) x less))
                  | inr more ↦ more
                ];
            below = λ m e at goal.
                let b = bound_least m e at goal in
                let test : nat_lt (f x.1) b.0 ≡ true =
                sym (λ j. is_below_bound (option_map (λ x. f x.1) (is j)) (b.1 j)) ∙ below
                in
                let less = ltb-true (f x.1) b.0 test in
                let most = b.2 in
                omega arith;
          }

-- what an expanded entry of the open one's state costs is more
pub falls : (r : Record AgentState) (sound : IsSound same_state r) (n m : ℕ) (e o : Entry AgentState) → slice_get r.entries n ≡ Some e → e.mark ≡ Open → slice_get r.entries m ≡ Some o → o.mark ≡ Expanded
    → o.key ≡ e.key → e.g < o.g
falls r sound n m e o at open_ o_at shut key =
    elim (cases_order m n) [
      | inl same ↦
          let one : o ≡ e = same_Some o e (sym o_at ∙ ap (slice_get r.entries) same ∙ at) in
          let mark = ap (λ (x : Entry AgentState). x.mark) one in
          absurd (let impossible : ⊥ = cc in impossible)
      | inr (inl before) ↦ later_cheaper r sound m n o e before o_at at key
      | inr (inr behind) ↦
          let is_e : get_or r.entries n e ≡ e = get_or_from_slice_get r.entries n e e at in
          let is_o : get_or r.entries m e ≡ o = get_or_from_slice_get r.entries m o e o_at in
          let closed = sound.last_open n m e behind (slice_get_within r.entries m o o_at) ((λ k. same_state (is_e k).key (is_o k).key) ∙ (Decides-state e.key o.key).1 (sym key)) in
          absurd (false≢true (sym closed ∙ ap (λ (x : Entry AgentState). is_open x.mark) is_e ∙ ap is_open open_))
    ]

module _ (tasks : List AgentTask) (are : AreTeamTasks tasks) (w : World) (team : IsTeamWorld tasks w) (sound : AreStatesSound tasks w)
    (value : Values) (next : World) (agent : ℕ) (is : IsStepOf value w (Expand agent) next) where
  r : AgentRecord
  r = is.agent

  d : List Sending × SearchRecord
  unfolding r
  d = expanded r.task (value r.task) r.search

  after_is : d.1.kept ≡ is.step.after.search.kept
  unfolding d r
  after_is =
      let same : with_search r d ≡ is.step = let done : Ok (with_search r d) ≡ Ok is.step = is.local in cc in
      ap (λ (s : Step). s.after.search.kept) same

  worth_it : IsWorth r.search.kept
  unfolding r
  worth_it =
      let may = and_parts (is_going is.agent.ending) (may_expand is.agent.limit is.agent.search) is.may in
      worth is.agent.search.kept (and_parts (not (is_spent is.agent.limit is.agent.search)) (is_open_below is.agent.search.kept) may.1).1

  one : WasExpanded d.1.kept worth_it.number × ((m : ℕ) → WasExpanded d.1.kept m → (m ≡ worth_it.number) ⊎ WasExpanded r.search.kept m)
  unfolding d r
  one = one_expanded r.task (value r.task) r.search worth_it.number worth_it.entry worth_it.first worth_it.at

  in_record : (m : ℕ) (e : Entry AgentState) → IsEntryAt w agent m e → slice_get r.search.kept.entries m ≡ Some e
  unfolding r
  in_record m e has =
      let h = has_it w agent m e has in
      let same : h.agent_is ≡ is.agent = same_Some h.agent_is is.agent (sym h.there ∙ is.there) in
      subst (λ (r : AgentRecord). slice_get r.search.kept.entries m ≡ Some e) same h.at

  was_expanded : (m : ℕ) → WasExpanded r.search.kept m → IsExpandedAt w agent m
  unfolding r
  was_expanded m was = record { entry = was.entry; there = entry_in w agent m is.agent was.entry is.there was.at; is = was.is }

  pub expands_one : ExpandsOne w agent next
  unfolding r d
  expands_one = record {
    number = worth_it.number;
    entry = worth_it.entry;
    there = entry_in w agent worth_it.number is.agent worth_it.entry is.there worth_it.at;
    is_open = worth_it.is_open;
    least = λ m e has open_. worth_it.least m e (in_record m e has) open_;
    below = λ m e has goal. worth_it.below m e (in_record m e has) goal;
    falling = λ m before same.
        let at = in_record m before.entry before.there in
        falls r.search.kept (agent_sound tasks are w team sound agent r is.there).kept worth_it.number m worth_it.entry before.entry worth_it.at worth_it.is_open at before.is
        (equal_if_joint tasks are w team sound agent r before.entry.key worth_it.entry.key is.there
        (states_known tasks are w team sound agent m r before.entry is.there at)
        (states_known tasks are w team sound agent worth_it.number r worth_it.entry is.there worth_it.at) same);
    is = later (subst (λ (x : Record AgentState). WasExpanded x worth_it.number) after_is one.0);
    only = λ m after. which m (one.1 m (subst (λ (x : Record AgentState). WasExpanded x m) (sym after_is) (back m after)));
  }
    where
      later : {m : ℕ} → WasExpanded is.step.after.search.kept m → IsExpandedAt next agent m
      later {m} was = record { entry = was.entry; there = entry_in next agent m is.step.after was.entry is.after was.at; is = was.is }

      back : (m : ℕ) → IsExpandedAt next agent m → WasExpanded is.step.after.search.kept m
      back m after =
          let h = has_it next agent m after.entry after.there in
          let same : h.agent_is ≡ is.step.after = same_Some h.agent_is is.step.after (sym h.there ∙ is.after) in
          record { entry = after.entry; at = subst (λ (r : AgentRecord). slice_get r.search.kept.entries m ≡ Some after.entry) same h.at; is = after.is }

      which : (m : ℕ) → (m ≡ worth_it.number) ⊎ WasExpanded r.search.kept m → (m ≡ worth_it.number) ⊎ IsExpandedAt w agent m
      which m (inl same) = inl same
      which m (inr was) = inr (was_expanded m was)
