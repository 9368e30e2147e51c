-- What an agent finds of its search fits a message.
use Rattle.std.proofs.Common.{◌≡◌, ℕ, ◌<◌, ◌^◌, Bool, true, false, cond, length, Option, Some, None, All, refl, subst, arith}
use Rattle.std.specs.Prelude.{IfSome, nat_lt, option_map}
use Rattle.std.proofs.lemmas.Bool.{ltb-true}
use Rattle.std.specs.Cmp.{nat_cmp_total, on_total, then_total}
use Rattle.mp_list.specs.First.{IsStrictOrder, leftmost}
use Rattle.mp_list.proofs.Orders.{strict_from_total}
use Rattle.mp_list.proofs.FirstLemmas.{found_first}
use Rattle.mp_messages.specs.Spelling.{AreFindings}
use Rattle.mp_store.specs.declared.entry.Entry.{Entry}
use Rattle.mp_store.specs.Minima.{Numbered, first_open, is_cheaper, is_nearer, nearer_cmp, least_f, least_goal, those}
use Rattle.mp_store.specs.Record.{Record, f, is_open}
use Rattle.mp_store.proofs.RankLemmas.{IsThat, cheaper_strict, those_have}
use Rattle.mp_search.specs.AgentState.{AgentState}
use Rattle.mp_search.specs.Search.{SearchRecord, bound}
use Rattle.mp_snapshot.specs.Rules.{noted}
use Rattle.mp_machine.specs.MemberFields.{EntryFits}
use Rattle.mp_machine.specs.Snapshots.{found_by, goal_entry, if_walkable}

nearer_strict : IsStrictOrder (is_nearer {K = AgentState})
nearer_strict = strict_from_total nearer_cmp (then_total (on_total (λ x. f x.1) nat_cmp_total) (then_total (on_total (λ x. x.1.h) nat_cmp_total) (on_total (λ x. x.0) nat_cmp_total)))

module _ (r : Record AgentState) (fits : All EntryFits r.entries) where
  that_fits : (test : Entry AgentState → Bool) (x : Numbered AgentState) → IsThat test r.entries x → EntryFits x.1
  that_fits test x that = subst EntryFits that.is (fits x.0 x.1 that.inside)

  pub f_small : IfSome (least_f r) (λ n. n < 2 ^ 60)
  f_small = by (first_open r.entries) refl
    where
      by : (o : Option (Numbered AgentState)) → first_open r.entries ≡ o → IfSome (option_map (λ x. f x.1) o) (λ n. n < 2 ^ 60)
      by None found = tt
      by (Some x) found =
          let first = found_first is_nearer nearer_strict (those (λ e. is_open e.mark) r.entries) x found in
          let fit = that_fits (λ e. is_open e.mark) x (those_have (λ e. is_open e.mark) r.entries x first.among) in
          fit.f

  -- a goal entry that was found is one of the entries, and its cost is small
  pub record IsGoal (x : ℕ × ℕ) : Type 0 where
    pub small : x.0 < 2 ^ 60
    pub inside : x.1 < length r.entries

  pub goal_found : IfSome (least_goal r) IsGoal
  goal_found = by (leftmost is_cheaper None (those (λ e. e.goal) r.entries)) refl
    where
      by : (o : Option (Numbered AgentState)) → leftmost is_cheaper None (those (λ e. e.goal) r.entries) ≡ o
          → IfSome (option_map (λ x. (x.1.g, x.0)) o) IsGoal
      by None found = tt
      by (Some x) found =
          let first = found_first is_cheaper cheaper_strict (those (λ e. e.goal) r.entries) x found in
          let that = those_have (λ e. e.goal) r.entries x first.among in
          let fit = that_fits (λ e. e.goal) x that in
          let small = fit.f in
          record { small = omega arith; inside = that.inside }

  pub bound_small : IfSome (bound r) (λ n. n < 2 ^ 60)
  bound_small = by (least_goal r) goal_found
    where
      by : (o : Option (ℕ × ℕ)) → IfSome o IsGoal → IfSome (option_map (λ goal. goal.0) o) (λ n. n < 2 ^ 60)
      by None h = tt
      by (Some x) h = h.small

  pub goal_inside : IfSome (goal_entry r) (λ n. (n < length r.entries) × (n < 2 ^ 60))
  goal_inside = by (least_goal r) goal_found
    where
      by : (o : Option (ℕ × ℕ)) → IfSome o IsGoal → IfSome (if_walkable o) (λ n. (n < length r.entries) × (n < 2 ^ 60))
      by None h = tt
      by (Some x) h = elim (nat_lt x.1 (2 ^ 60)) as (λ b. nat_lt x.1 (2 ^ 60) ≡ b → IfSome (cond b (Some x.1) None) (λ n. (n < length r.entries) × (n < 2 ^ 60))) [
        | true ↦ λ is. (h.inside, ltb-true x.1 (2 ^ 60) is)
        | false ↦ λ is. tt
      ] refl

pub findings_fit : (limit number : ℕ) (s : SearchRecord) → All EntryFits s.kept.entries → number < 2 ^ 60 → AreFindings (noted number (found_by limit s))
findings_fit limit number s fits small =
    record { number = small; least = f_small s.kept fits; under_way = tt; goal = bound_small s.kept fits }
