-- Rounds come to an end: what it costs from a state comes to be within a limit in a round because that from another state
-- did so in the round before, within what the action leaves of the limit, and these states are different ones.
use Rattle.std.proofs.Common.{◌≡◌, ℕ, zero, suc, ◌+◌, ◌-◌, ◌<◌, ◌≤◌, Bool, true, false, cond, Option, Some, None, option_map, List, [], ◌∷◌, length, Contains, refl, sym, ap, ◌∙◌, subst, arith}
use Rattle.std.proofs.lemmas.Bool.{false≢true, both_ways}
use Rattle.std.proofs.lemmas.List.Sums.{count_by-le-length}
use Rattle.std.specs.List.{count_by}
use Rattle.std.specs.Option.{option_and_then}
use Rattle.mp_estimates.specs.Estimates.{AtMost, lesser}
use Rattle.mp_estimates.specs.Laws.Order.{AtMost-refl, AtMost-trans, AtMost-antisym, lesser_left, lesser_right, lesser_both, plus-mono, within, within-AtMost, AtMost-within, within-more, within-plus, not_within-plus, within-lesser, not_within-AtMost}
use Rattle.mp_runs.specs.System.{System}
use Rattle.mp_estimates.specs.Laws.Counts.{count-mono, counted_at}
use Rattle.mp_pdb.specs.Distance.{cost_by, least_by, next_costs, after_rounds, AreClosed}

module _ {S A : Type 0} (system : System S A) where
  -- lower costs afterwards are lower costs before

  pub cost_by-mono : (v w : S → Option ℕ) (s : S) (a : A) → ((t : S) → system.after s a ≡ Some t → AtMost (v t) (w t)) → AtMost (cost_by system v s a) (cost_by system w s a)
  cost_by-mono v w s a h = by (system.after s a) h
    where
      by : (o : Option S) → ((t : S) → o ≡ Some t → AtMost (v t) (w t)) → AtMost (option_and_then (λ t. option_map (λ c. system.cost a + c) (v t)) o) (option_and_then (λ t. option_map (λ c. system.cost a + c) (w t)) o)
      by None k = tt
      by (Some t) k = plus-mono (system.cost a) (v t) (w t) (k t refl)

  pub least_below : (v : S → Option ℕ) (s : S) (actions : List A) (a : A) → Contains actions a → AtMost (least_by system v s actions) (cost_by system v s a)
  least_below v s [] a here = absurd (omega (arith, here.1))
  least_below v s (b ∷ actions) a (zero, lt, e) =
      subst (λ x. AtMost (least_by system v s (b ∷ actions)) (cost_by system v s x)) e (lesser_left (cost_by system v s b) (least_by system v s actions))
  least_below v s (b ∷ actions) a (suc k, lt, e) =
      AtMost-trans (least_by system v s (b ∷ actions)) (least_by system v s actions) (cost_by system v s a)
      (lesser_right (cost_by system v s b) (least_by system v s actions))
      (least_below v s actions a (k, (let h : k < length actions = omega arith in h), e))

  least-mono : (v w : S → Option ℕ) (s : S) (actions : List A) → ((t : S) → AtMost (v t) (w t)) → AtMost (least_by system v s actions) (least_by system w s actions)
  least-mono v w s [] h = tt
  least-mono v w s (a ∷ actions) h =
      lesser_both (lesser (cost_by system v s a) (least_by system v s actions)) (cost_by system w s a) (least_by system w s actions)
      (AtMost-trans (lesser (cost_by system v s a) (least_by system v s actions)) (cost_by system v s a) (cost_by system w s a) (lesser_left _ _) (cost_by-mono v w s a (λ t _. h t)))
      (AtMost-trans (lesser (cost_by system v s a) (least_by system v s actions)) (least_by system v s actions) (least_by system w s actions) (lesser_right (cost_by system v s a) _) (least-mono v w s actions h))

  -- what comes to be within a limit by some actions does so by one of them
  record Differs (v w : S → Option ℕ) (t : ℕ) (s : S) (actions : List A) : Type 0 where
    action : A
    among : Contains actions action
    now : within t (cost_by system v s action) ≡ true
    before : within t (cost_by system w s action) ≡ false

  least_differs : (v w : S → Option ℕ) (t : ℕ) (s : S) (actions : List A) → within t (least_by system v s actions) ≡ true → within t (least_by system w s actions) ≡ false → Differs v w t s actions
  least_differs v w t s [] h k = absurd (false≢true h)
  least_differs v w t s (a ∷ actions) h k = by (within t (cost_by system v s a)) refl (least_differs v w t s actions)
    where
      later : Differs v w t s actions → Differs v w t s (a ∷ actions)
      later d = record {
        action = d.action;
        among = (suc d.among.0, (let lt = d.among.1 in let le : suc d.among.0 < length (a ∷ actions) = omega arith in le), d.among.2);
        now = d.now;
        before = d.before;
      }

      by : (b : Bool) → within t (cost_by system v s a) ≡ b → (within t (least_by system v s actions) ≡ true → within t (least_by system w s actions) ≡ false → Differs v w t s actions) → Differs v w t s (a ∷ actions)
      by true e rest = record {
        action = a;
        among = (0, (let le : 0 < length (a ∷ actions) = omega arith in le), refl);
        now = e;
        before = not_within-AtMost t (lesser (cost_by system w s a) (least_by system w s actions)) (cost_by system w s a) (lesser_left _ _) k;
      }
      by false e rest =
          later (rest (within-lesser t (cost_by system v s a) (least_by system v s actions) h e)
          (not_within-AtMost t (lesser (cost_by system w s a) (least_by system w s actions)) (least_by system w s actions) (lesser_right (cost_by system w s a) _) k))

module _ {S A : Type 0} (system : System S A) (actions : List A) where
  pub first_round : (s : S) → after_rounds system actions 0 s ≡ None
  unfolding after_rounds
  first_round s = refl

  pub next_round : (k : ℕ) (s : S) → after_rounds system actions (suc k) s ≡ next_costs system actions (after_rounds system actions k) s
  unfolding after_rounds
  next_round k s = refl

  next-mono : (v w : S → Option ℕ) (s : S) → ((t : S) → AtMost (v t) (w t)) → AtMost (next_costs system actions v s) (next_costs system actions w s)
  next-mono v w s h = by (system.is_goal s)
    where
      by : (b : Bool) → AtMost (cond b (Some 0) (least_by system v s actions)) (cond b (Some 0) (least_by system w s actions))
      by true = AtMost-refl (Some 0)
      by false = least-mono system v w s actions h

  -- costs fall from round to round
  pub rounds_fall : (k : ℕ) (s : S) → AtMost (after_rounds system actions (suc k) s) (after_rounds system actions k s)
  unfolding after_rounds
  rounds_fall zero s = tt
  rounds_fall (suc k) s = next-mono (after_rounds system actions (suc k)) (after_rounds system actions k) s (rounds_fall k)

  module _ (states : List S) (closed : AreClosed system actions states) where
    counted : ℕ → ℕ → ℕ
    counted k t = count_by (λ s. within t (after_rounds system actions k s)) states

    counted_is : (k t : ℕ) → counted k t ≡ count_by (λ s. within t (after_rounds system actions k s)) states
    unfolding counted
    counted_is k t = refl

    stays : (k t : ℕ) (s : S) → within t (after_rounds system actions k s) ≡ true → within t (after_rounds system actions (suc k) s) ≡ true
    stays k t s e = within-AtMost t _ _ (rounds_fall k s) e

    one_more : (k t : ℕ) (s : S) → Contains states s → within t (after_rounds system actions (suc k) s) ≡ true → within t (after_rounds system actions k s) ≡ false → counted k t + 1 ≤ counted (suc k) t
    unfolding counted
    one_more k t s here now before =
        counted_at (λ u. within t (after_rounds system actions (suc k) u)) (λ u. within t (after_rounds system actions k u)) states s (stays k t) here now before

    wider : (k t u : ℕ) → u ≤ t → counted k u ≤ counted k t
    unfolding counted
    wider k t u le = count-mono (λ s. within t (after_rounds system actions k s)) (λ s. within u (after_rounds system actions k s)) states (λ s e. within-more u t _ le e)

    Counts : ℕ → Type 0
    Counts k =
        (u : ℕ) (r : S)
        → Contains states r
        → within u (after_rounds system actions (suc k) r) ≡ true
        → within u (after_rounds system actions k r) ≡ false
        → suc k ≤ counted (suc k) u

    -- where what it costs from a state comes to be within a limit in a round, it is within it from more states than there
    -- were rounds before
    falls_count : (k t : ℕ) (s : S) → Contains states s → within t (after_rounds system actions (suc k) s) ≡ true → within t (after_rounds system actions k s) ≡ false → suc k ≤ counted (suc k) t
    unfolding Counts
    falls_count zero t s here now before = let more = one_more zero t s here now before in omega arith
    falls_count (suc k) t s here now before =
        let more = one_more (suc k) t s here now before in
        let many = by (system.is_goal s) (sym (ap (within t) (next_round (suc k) s)) ∙ now) (sym (ap (within t) (next_round k s)) ∙ before) (falls_count k) in
        omega arith
      where
        through : (a : A) → Contains actions a → Counts k → (o : Option S) → system.after s a ≡ o → within t (option_and_then (λ r. option_map (λ c. system.cost a + c) (after_rounds system actions (suc k) r)) o) ≡ true → within t (option_and_then (λ r. option_map (λ c. system.cost a + c) (after_rounds system actions k r)) o) ≡ false → suc k ≤ counted (suc k) t
        through a among counts None e now before = absurd (false≢true now)
        through a among counts (Some r) e now before =
            let left = within-plus (system.cost a) t _ now in
            let many = counts (t - system.cost a) r (closed s r a here among e) left.1 (not_within-plus (system.cost a) t _ left.0 before) in
            let more = wider (suc k) t (t - system.cost a) (omega arith) in
            omega arith

        by : (b : Bool) → within t (cond b (Some 0) (least_by system (after_rounds system actions (suc k)) s actions)) ≡ true → within t (cond b (Some 0) (least_by system (after_rounds system actions k) s actions)) ≡ false → Counts k → suc k ≤ counted (suc k) t
        by true now before counts = absurd (both_ways (within t (Some 0)) before now)
        by false now before counts =
            let d = least_differs system (after_rounds system actions (suc k)) (after_rounds system actions k) t s actions now before in
            through d.action d.among counts (system.after s d.action) refl d.now d.before

    -- nothing changes from a round for each state on
    pub no_fall : (k : ℕ) (s : S) → k ≡ length states → Contains states s → AtMost (after_rounds system actions k s) (after_rounds system actions (suc k) s)
    no_fall k s all here = AtMost-within _ _ (λ t e. by t e (within t (after_rounds system actions k s)) refl)
      where
        by : (t : ℕ) → within t (after_rounds system actions (suc k) s) ≡ true → (b : Bool) → within t (after_rounds system actions k s) ≡ b → within t (after_rounds system actions k s) ≡ true
        by t e true is = is
        by t e false is = absurd (
            let many = falls_count k t s here e is in
            let same = counted_is (suc k) t in
            let most = count_by-le-length (λ u. within t (after_rounds system actions (suc k) u)) states in
            omega arith
            )

    -- so that costs satisfy the equations
    pub settled : (s : S) → Contains states s → after_rounds system actions (length states) s ≡ next_costs system actions (after_rounds system actions (length states)) s
    settled s here =
        AtMost-antisym (after_rounds system actions (length states) s) (after_rounds system actions (suc (length states)) s) (no_fall (length states) s refl here) (rounds_fall (length states) s)
        ∙ next_round (length states) s
