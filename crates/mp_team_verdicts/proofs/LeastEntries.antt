-- What a record says of its least open entry and of its least goal entry.
use Rattle.mp_world.proofs.Basics.{◌≡◌, ℕ, ◌≤◌, true, Option, Some, None, refl, sym, ap, subst, ◌∙◌, inl, inr, Contains, option_map, slice_get, cases_lt, false≢true, none-some, same_Some, slice_get-get_or}
use Rattle.mp_list.proofs.FirstLemmas.{found_first, nothing_found}
use Rattle.mp_list.proofs.Members.{no_member}
use Rattle.mp_store.specs.Minima.{least_f}
use Rattle.mp_store.proofs.RankLemmas.{those_have}
use Rattle.mp_world.specs.SearchWords.{Entry, Open, Numbered, first_open, is_nearer, those, Record, f, is_open, AgentState, bound}
use Rattle.mp_team_states.proofs.Worth.{bound_least, nearer_less, nearer_strict, open_mark, there_at}
use Rattle.mp_team_verdicts.proofs.Least.{IsAtMost, some_at_most}

-- an open entry of a sum of cost and estimate
pub record HasOpenAt (r : Record AgentState) (least : ℕ) : Type 0 where
  pub number : ℕ
  pub entry : Entry AgentState
  pub at : slice_get r.entries number ≡ Some entry
  pub is_open : entry.mark ≡ Open
  pub f_is : f entry ≡ least

module _ (r : Record AgentState) where
  -- the bound is at most the cost of each goal entry
  pub bound_at_most : (m : ℕ) (e : Entry AgentState) → slice_get r.entries m ≡ Some e → e.goal ≡ true → IsAtMost e.g (bound r)
  bound_at_most m e at goal =
      let b = bound_least r m e at goal in
      some_at_most e.g b.0 (bound r) (sym b.1) b.2

  -- the least sum of cost and estimate is at most that of each open entry
  pub least_f_at_most : (m : ℕ) (e : Entry AgentState) → slice_get r.entries m ≡ Some e → e.mark ≡ Open → IsAtMost (f e) (least_f r)
  least_f_at_most m e at open_ = by (first_open r.entries) refl
    where
      there : Contains (those (λ e. is_open e.mark) r.entries) (m, e)
      there = there_at r (λ e. is_open e.mark) m e at (ap is_open open_)

      by : (o : Option (Numbered AgentState)) → first_open r.entries ≡ o → IsAtMost (f e) (least_f r)
      by None is = absurd (no_member (m, e) (subst (λ xs. Contains xs (m, e)) (nothing_found is_nearer (those (λ e. is_open e.mark) r.entries) is) there))
      by (Some x) is =
          let first = found_first is_nearer nearer_strict (those (λ e. is_open e.mark) r.entries) x is in
          let least : f x.1 ≤ f e =
          elim (cases_lt (f e) (f x.1)) [
            | inl less ↦ absurd (false≢true (sym (first.least (m, e) there) ∙ nearer_less (m, e) x less))
            | inr more ↦ more
          ] in
          some_at_most (f e) (f x.1) (least_f r) (sym (ap (option_map (λ (x : Numbered AgentState). f x.1)) is)) least

  -- and it is that of one
  pub least_f_there : (least : ℕ) → least_f r ≡ Some least → HasOpenAt r least
  least_f_there least said = by (first_open r.entries) refl said
    where
      by : (o : Option (Numbered AgentState)) → first_open r.entries ≡ o → option_map (λ (x : Numbered AgentState). f x.1) o ≡ Some least → HasOpenAt r least
      by None is none = absurd (none-some least none)
      by (Some x) is same =
          let first = found_first is_nearer nearer_strict (those (λ e. is_open e.mark) r.entries) x is in
          let that = those_have (λ e. is_open e.mark) r.entries x first.among in
          record {
            number = x.0;
            entry = x.1;
            at = slice_get-get_or r.entries x.0 x.1 that.inside ∙ ap Some that.is;
            is_open = open_mark x.1.mark that.passes;
            f_is = same_Some (f x.1) least same;
          }
