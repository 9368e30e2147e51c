-- How great costs are after rounds, where no action costs more than a limit.
use Rattle.std.proofs.Common.{◌≡◌, ℕ, zero, suc, ◌+◌, ◌*◌, ◌≤◌, Bool, true, false, cond, Option, Some, None, option_map, List, [], ◌∷◌, sym, subst, zero-le, arith}
use Rattle.std.specs.Option.{IfSome, option_and_then}
use Rattle.mp_estimates.specs.Estimates.{lesser}
use Rattle.mp_runs.specs.System.{System}
use Rattle.mp_pdb.specs.Distance.{cost_by, least_by, next_costs, after_rounds}
use Rattle.mp_pdb.specs.Laws.Rounds.{first_round, next_round}

abbrev pub Below : ℕ → Option ℕ → Type 0
Below c a = IfSome a (λ h. h ≤ c)

lesser-Below : (c : ℕ) (a b : Option ℕ) → Below c a → Below c b → Below c (lesser a b)
lesser-Below c None b h k = k
lesser-Below c (Some m) None h k = h
lesser-Below c (Some m) (Some n) h k = omega arith

module _ {S A : Type 0} (system : System S A) (actions : List A) (e : ℕ) (fits : (a : A) → system.cost a ≤ e) where
  cost-Below : (c : ℕ) (v : S → Option ℕ) (s : S) (a : A) → ((t : S) → Below c (v t)) → Below (e + c) (cost_by system v s a)
  cost-Below c v s a h = by (system.after s a)
    where
      plus : (o : Option ℕ) → Below c o → Below (e + c) (option_map (λ d. system.cost a + d) o)
      plus None k = tt
      plus (Some d) k = let le = fits a in omega arith

      by : (o : Option S) → Below (e + c) (option_and_then (λ t. option_map (λ d. system.cost a + d) (v t)) o)
      by None = tt
      by (Some t) = plus (v t) (h t)

  least-Below : (c : ℕ) (v : S → Option ℕ) (s : S) (left : List A) → ((t : S) → Below c (v t)) → Below (e + c) (least_by system v s left)
  least-Below c v s [] h = tt
  least-Below c v s (a ∷ left) h =
      lesser-Below (e + c) (cost_by system v s a) (least_by system v s left) (cost-Below c v s a h) (least-Below c v s left h)

  pub rounds-Below : (k : ℕ) (s : S) → Below (k * e) (after_rounds system actions k s)
  rounds-Below zero s = subst (Below (0 * e)) (sym (first_round system actions s)) tt
  rounds-Below (suc k) s =
      let more : e + k * e ≡ suc k * e = omega arith in
      subst (Below (suc k * e)) (sym (next_round system actions k s))
      (subst (λ c. Below c (next_costs system actions (after_rounds system actions k) s)) more (by (system.is_goal s) (least-Below (k * e) (after_rounds system actions k) s actions (rounds-Below k))))
    where
      by : (b : Bool) → Below (e + k * e) (least_by system (after_rounds system actions k) s actions) → Below (e + k * e) (cond b (Some 0) (least_by system (after_rounds system actions k) s actions))
      by true h = zero-le
      by false h = h
