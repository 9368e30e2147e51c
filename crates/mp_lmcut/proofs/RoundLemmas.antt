-- Rounds: the cut by the numbers that were found, and what is left after a round.
use Rattle.std.proofs.Common.{◌≡◌, ℕ, zero, suc, ◌+◌, ◌≤◌, Bool, true, false, cond, eqb, Option, Some, None, option_map, List, [], length, All, refl, sym, ap, ◌∙◌, arith}
use Rattle.std.proofs.lemmas.Bool.{eqb-true, false≢true, ltb-true}
use Rattle.std.proofs.lemmas.List.{nil_from_length}
use Rattle.std.proofs.lemmas.List.Elements.{All-filter, All-map}
use Rattle.std.specs.Option.{unwrap_or}
use Rattle.mp_sets.specs.Numbers.{Numbers}
use Rattle.mp_task.specs.Strips.{Operator}
use Rattle.mp_relaxed.specs.Relaxed.{RelaxedProblem, state_of}
use Rattle.mp_estimates.specs.Lowering.{value_at}
use Rattle.mp_relaxed.specs.Values.{fact_values, greatest}
use Rattle.mp_lmcut.specs.Cut.{cheaper_where, cut_cost, cuts, in_cut, is_positive, lmcut_of, lowered}
use Rattle.mp_lmcut.specs.Sides.{least_where}
use Rattle.mp_lmcut.specs.Laws.Costs.{least_small}

module _ (r : RelaxedProblem) (s : Numbers) (numbers : List ℕ) (values : (x : ℕ) → value_at numbers x ≡ fact_values r.operators s x) where
  abbrev inside : Operator → Bool
  inside = in_cut (value_at numbers) r.operators r.goals s

  pub cost_is : unwrap_or (least_where inside r.operators) 0 ≡ cut_cost (fact_values r.operators s) r.operators r.goals s
  unfolding cut_cost
  cost_is =
      λ i. unwrap_or (least_where (in_cut (λ x. values x i) r.operators r.goals s) r.operators) 0

  pub lowered_is : (c : ℕ) → c ≡ cut_cost (fact_values r.operators s) r.operators r.goals s → cheaper_where inside c r.operators ≡ lowered (fact_values r.operators s) r.operators r.goals s
  unfolding lowered
  lowered_is c e =
      λ i. cheaper_where (in_cut (λ x. values x i) r.operators r.goals s) (e i) r.operators

-- the value of goals that cost something
pub left_paid : (a : Option ℕ) → is_positive a ≡ true → a ≡ Some (unwrap_or a 0)
left_paid None e = absurd (false≢true e)
left_paid (Some n) e = refl

pub left_some : (a : Option ℕ) → is_positive a ≡ true → 1 ≤ unwrap_or a 0
left_some None e = absurd (false≢true e)
left_some (Some n) e = let lt = ltb-true 0 n e in omega arith

pub cost_small : (such : Operator → Bool) (os : List Operator) (e : ℕ) → All (λ o. o.cost ≤ e) os → unwrap_or (least_where such os) 0 ≤ e
cost_small such os e fits = least_small _ e (All-map (λ n. n ≤ e) (λ o. o.cost) _ (All-filter such (λ o. o.cost ≤ e) os fits))

-- cuts

pub no_cuts : (os : List Operator) (goals : List ℕ) (s : Numbers) → cuts 0 os goals s ≡ 0
unfolding cuts
no_cuts os goals s = refl

pub cuts_end : (os : List Operator) (goals : List ℕ) (s : Numbers) → is_positive (greatest (fact_values os s) goals) ≡ false → (rounds : ℕ) → cuts (suc rounds) os goals s ≡ 0
unfolding cuts
cuts_end os goals s e rounds =
    λ i. cond (e i) (cut_cost (fact_values os s) os goals s + cuts rounds (lowered (fact_values os s) os goals s) goals s) 0

pub cuts_go_on : (os : List Operator) (goals : List ℕ) (s : Numbers) → is_positive (greatest (fact_values os s) goals) ≡ true → (rounds : ℕ) → cuts (suc rounds) os goals s ≡ cut_cost (fact_values os s) os goals s + cuts rounds (lowered (fact_values os s) os goals s) goals s
unfolding cuts
cuts_go_on os goals s e rounds =
    λ i. cond (e i) (cut_cost (fact_values os s) os goals s + cuts rounds (lowered (fact_values os s) os goals s) goals s) 0

pub cuts_more : (r next : RelaxedProblem) (p q : Numbers) (cost : ℕ) → is_positive (greatest (fact_values r.operators (state_of r p q)) r.goals) ≡ true → cost ≡ cut_cost (fact_values r.operators (state_of r p q)) r.operators r.goals (state_of r p q) → next ≡ record r { operators = lowered (fact_values r.operators (state_of r p q)) r.operators r.goals (state_of r p q) } → (rounds : ℕ) → cuts (suc rounds) r.operators r.goals (state_of r p q) ≡ cost + cuts rounds next.operators next.goals (state_of next p q)
cuts_more r next p q cost positive is after rounds =
    cuts_go_on r.operators r.goals (state_of r p q) positive rounds
    ∙ ap (λ n. n + cuts rounds (lowered (fact_values r.operators (state_of r p q)) r.operators r.goals (state_of r p q)) r.goals (state_of r p q)) (sym is)
    ∙ ap (λ (m : RelaxedProblem). cost + cuts rounds m.operators m.goals (state_of m p q)) (sym after)

-- the heuristic

no_cost : (n : ℕ) (os : List Operator) (s : Numbers) → cuts n os [] s ≡ 0
no_cost zero os s = no_cuts os [] s
no_cost (suc n) os s = cuts_end os [] s refl n

pub no_goals : (os : List Operator) (goals : List ℕ) (s : Numbers) → eqb (length goals) 0 ≡ true → Some 0 ≡ lmcut_of os goals s
no_goals os goals s e =
    ap (λ n. Some n) (sym (no_cost (length os) os s))
    ∙ ap (λ gs. lmcut_of os gs s) (sym (nil_from_length goals (eqb-true (length goals) 0 e)))

same_found : (total : ℕ) (a : Option ℕ) (n : ℕ) → a ≡ Some n → Some total ≡ option_map (λ _. total) a
same_found total a n e = ap (option_map (λ _. total)) (sym e)

pub none_found : (r : RelaxedProblem) (p q : Numbers) → greatest (fact_values r.operators (state_of r p q)) r.goals ≡ None → None ≡ lmcut_of r.operators r.goals (state_of r p q)
none_found r p q e = ap (option_map (λ _. cuts (length r.operators) r.operators r.goals (state_of r p q))) (sym e)
