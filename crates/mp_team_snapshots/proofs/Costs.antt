-- The costs of all entries stay such as messages have room for, and so is what an agent finds of them.
use Rattle.mp_world.proofs.Basics.{◌≡◌, ℕ, ◌+◌, ◌<◌, ◌^◌, Bool, List, [], Option, Some, None, All, refl, subst, arith, IfSome, option_map, All-nil}
use Rattle.std.specs.Cmp.{nat_cmp_total, on_total, then_total}
use Rattle.mp_list.specs.First.{IsStrictOrder, leftmost}
use Rattle.mp_list.proofs.Orders.{strict_from_total}
use Rattle.mp_list.proofs.FirstLemmas.{found_first}
use Rattle.mp_store.specs.Minima.{least_f, nearer_cmp}
use Rattle.mp_store.proofs.RankLemmas.{IsThat, cheaper_strict, those_have}
use Rattle.mp_machine.specs.Snapshots.{found_by}
use Rattle.mp_world.specs.AgentWords.{AgentTask, State, AreFindings, noted}
use Rattle.mp_world.specs.SearchWords.{Numbers, Entry, Numbered, first_open, is_cheaper, is_nearer, those, Record, empty, f, is_open, AgentState, Sending, expanded, start_record, received, SearchRecord, bound}
use Rattle.mp_team_states.proofs.Changes.{Changes, changes_have}
use Rattle.mp_team_states.proofs.Expanding.{IsFirst, IsReceived, Led, expanded_changes, received_changes, start_changes}

-- an entry's cost and estimate together
abbrev pub IsSmall : Entry AgentState → Type 0
IsSmall e = e.g + e.h < 2 ^ 60

abbrev pub AreSmall : Record AgentState → Type 0
AreSmall r = All IsSmall r.entries

-- ---- what is found

nearer_strict : IsStrictOrder (is_nearer {K = AgentState})
nearer_strict = strict_from_total nearer_cmp (then_total (on_total (λ x. f x.1) nat_cmp_total) (then_total (on_total (λ x. x.1.h) nat_cmp_total) (on_total (λ x. x.0) nat_cmp_total)))

module _ (r : Record AgentState) (small : AreSmall r) where
  that_small : (test : Entry AgentState → Bool) (x : Numbered AgentState) → IsThat test r.entries x → IsSmall x.1
  that_small test x that = subst IsSmall that.is (small x.0 x.1 that.inside)

  f_small : IfSome (least_f r) (λ n. n < 2 ^ 60)
  f_small = by (first_open r.entries) refl
    where
      by : (o : Option (Numbered AgentState)) → first_open r.entries ≡ o → IfSome (option_map (λ x. f x.1) o) (λ n. n < 2 ^ 60)
      by None found = tt
      by (Some x) found =
          let first = found_first is_nearer nearer_strict (those (λ e. is_open e.mark) r.entries) x found in
          that_small (λ e. is_open e.mark) x (those_have (λ e. is_open e.mark) r.entries x first.among)

  bound_small : IfSome (bound r) (λ n. n < 2 ^ 60)
  bound_small = by (leftmost is_cheaper None (those (λ e. e.goal) r.entries)) refl
    where
      by : (o : Option (Numbered AgentState)) → leftmost is_cheaper None (those (λ e. e.goal) r.entries) ≡ o
          → IfSome (option_map (λ (goal : ℕ × ℕ). goal.0) (option_map (λ (x : Numbered AgentState). (x.1.g, x.0)) o)) (λ n. n < 2 ^ 60)
      by None found = tt
      by (Some x) found =
          let first = found_first is_cheaper cheaper_strict (those (λ e. e.goal) r.entries) x found in
          let low = that_small (λ e. e.goal) x (those_have (λ e. e.goal) r.entries x first.among) in
          omega arith

pub found_small : (limit number : ℕ) (s : SearchRecord) → AreSmall s.kept → number < 2 ^ 60 → AreFindings (noted number (found_by limit s))
found_small limit number s small low =
    record { number = low; least = f_small s.kept small; under_way = tt; goal = bound_small s.kept small }

-- ---- all changes

module _ (t : AgentTask) (value : Numbers → Numbers → Option ℕ) where
  stay_small : (Comes : Record AgentState → Entry AgentState → Type 0) (r s : Record AgentState) (out : List Sending)
      → Changes Comes t r out s → AreSmall r → AreSmall s
  stay_small Comes = changes_have Comes t IsSmall (λ e mark low. low) (λ r new low comes all. low)

  pub expanded_small : (r : SearchRecord) → AreSmall r.kept → AreSmall (expanded t value r).1.kept
  expanded_small r =
      let d = expanded t value r in stay_small (Led t value r.kept) r.kept d.1.kept d.0 (expanded_changes t value r)

  pub received_small : (from : ℕ) (m : State) (r : Record AgentState) → AreSmall r → AreSmall (received t value from m r).1
  received_small from m r =
      stay_small (IsReceived t value from m r) r (received t value from m r).1 [] (received_changes t value from m r)

  pub start_small : AreSmall (start_record t value).kept
  start_small = stay_small (IsFirst t value) empty (start_record t value).kept [] (start_changes t value) (All-nil IsSmall)
