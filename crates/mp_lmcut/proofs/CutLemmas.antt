-- The costs of a cut: the least of them, and operators that get cheaper one after another.
use Rattle.std.proofs.Common.{◌≡◌, ◌≢◌, ℕ, zero, suc, ◌+◌, ◌-◌, ◌<◌, ◌≤◌, Bool, true, false, cond, eqb, ◌||◌, min, Option, Some, None, List, [], ◌∷◌, length, get_or, take, drop, All, refl, sym, ap, ◌∙◌, arith}
use Rattle.std.proofs.lemmas.Bool.{eq-eqb, ne_eqb, or_right}
use Rattle.std.proofs.lemmas.List.{drop_more}
use Rattle.std.proofs.lemmas.List.Elements.{All-cons, All-head, All-nil, All-tail}
use Rattle.std.proofs.lemmas.List.Folds.{list_any_more}
use Rattle.std.specs.List.{list_any}
use Rattle.std.specs.Option.{unwrap_or}
use Rattle.mp_task.specs.Strips.{Operator}
use Rattle.mp_estimates.specs.Estimates.{AtMost, lesser}
use Rattle.mp_estimates.specs.Laws.Order.{AtMost-trans, lesser_both, lesser_left, lesser_right}
use Rattle.mp_relaxed.specs.Relaxed.{RelaxedProblem, operator_at, with_cheaper}
use Rattle.mp_lmcut.specs.Cut.{cheaper_where, least}
use Rattle.mp_lmcut.specs.Sides.{lowered_at}

-- the least cost

lesser-assoc : (a b c : Option ℕ) → lesser (lesser a b) c ≡ lesser a (lesser b c)
lesser-assoc None b c = refl
lesser-assoc (Some m) None c = refl
lesser-assoc (Some m) (Some n) None = refl
lesser-assoc (Some m) (Some n) (Some k) = let e : min (min m n) k ≡ min m (min n k) = omega arith in ap Some e

pub lesser-none : (a : Option ℕ) → lesser a None ≡ a
lesser-none None = refl
lesser-none (Some m) = refl

pub least_more : (costs : List ℕ) (i d : ℕ) (known : Option ℕ) → i < length costs → lesser (lesser known (Some (get_or costs i d))) (least (drop (i + 1) costs)) ≡ lesser known (least (drop i costs))
least_more costs i d known lt =
    lesser-assoc known (Some (get_or costs i d)) (least (drop (i + 1) costs))
    ∙ ap (λ l. lesser known (least l)) (sym (drop_more costs i d lt))

-- it is at most each, and at least what each is at least

pub least_low : (costs : List ℕ) → All (λ c. AtMost (least costs) (Some c)) costs
least_low [] = All-nil (λ c. AtMost None (Some c))
least_low (d ∷ costs) =
    All-cons (λ c. AtMost (lesser (Some d) (least costs)) (Some c)) d costs (lesser_left (Some d) (least costs))
    (λ k e lt. AtMost-trans (lesser (Some d) (least costs)) (least costs) (Some (get_or costs k e)) (lesser_right (Some d) (least costs)) (least_low costs k e lt))

pub least_high : (c : Option ℕ) (costs : List ℕ) → All (λ n. AtMost c (Some n)) costs → AtMost c (least costs)
least_high c [] h = tt
least_high c (d ∷ costs) h =
    lesser_both c (Some d) (least costs) (All-head (λ n. AtMost c (Some n)) d costs h) (least_high c costs (All-tail (λ n. AtMost c (Some n)) d costs h))

or_none : (a : Option ℕ) (c : ℕ) → AtMost a (Some c) → unwrap_or a 0 ≤ c
or_none None c h = absurd h
or_none (Some n) c h = h

pub least_enough : (costs : List ℕ) → All (λ c. unwrap_or (least costs) 0 ≤ c) costs
least_enough costs = λ k d lt. or_none (least costs) (get_or costs k d) (least_low costs k d lt)

-- operators of which some are cheaper

pub length-lowered_at : (chosen : ℕ → Bool) (by : ℕ) (os : List Operator) → length (lowered_at chosen by os) ≡ length os
length-lowered_at chosen by [] = refl
length-lowered_at chosen by (o ∷ os) = ap suc (length-lowered_at (λ k. chosen (suc k)) by os)

pub cost_lowered : (chosen : ℕ → Bool) (by : ℕ) (os : List Operator) (k : ℕ) → (operator_at os k).cost - by ≤ (operator_at (lowered_at chosen by os) k).cost
cost_lowered chosen by [] k = omega arith
cost_lowered chosen by (o ∷ os) zero = at (chosen 0)
  where
    at : (b : Bool) → o.cost - by ≤ cond b (o.cost - by) o.cost
    at true = omega arith
    at false = omega arith
cost_lowered chosen by (o ∷ os) (suc k) = cost_lowered (λ j. chosen (suc j)) by os k

pub lowered_none : (by : ℕ) (os : List Operator) → lowered_at (λ _. false) by os ≡ os
lowered_none by [] = refl
lowered_none by (o ∷ os) = ap (λ l. o ∷ l) (lowered_none by os)

-- one more of them gets its new cost, whether it had it already or not
pub lowered_one : (chosen later : ℕ → Bool) (by : ℕ) (os : List Operator) (k : ℕ) → k < length os → by ≤ (operator_at os k).cost → later k ≡ true → ((j : ℕ) → j ≢ k → later j ≡ chosen j) → with_cheaper k ((operator_at (lowered_at chosen by os) k).cost - ((operator_at os k).cost - by)) (lowered_at chosen by os) ≡ lowered_at later by os
lowered_one chosen later by [] k lt le one others = absurd (omega (arith, lt))
lowered_one chosen later by (o ∷ os) zero lt le one others = λ i.
    record o { cost = (here (chosen 0) ∙ ap (λ b. cond b (o.cost - by) o.cost) (sym one)) i }
    ∷ lowered_at (λ j. sym (others (suc j) (λ e. absurd (omega (arith, e)))) i) by os
  where
    here : (b : Bool) → cond b (o.cost - by) o.cost - (cond b (o.cost - by) o.cost - (o.cost - by)) ≡ o.cost - by
    here true = omega arith
    here false = omega (arith, le)
lowered_one chosen later by (o ∷ os) (suc k) lt le one others = λ i.
    record o { cost = cond (sym (others 0 (λ e. absurd (omega (arith, e)))) i) (o.cost - by) o.cost }
    ∷ lowered_one (λ j. chosen (suc j)) (λ j. later (suc j)) by os k (omega (arith, lt)) le one (λ j ne. others (suc j) (λ e. ne (let same : j ≡ k = omega (arith, e) in same))) i

-- those whose numbers pass a test are those that pass another one
pub lowered_same : (chosen : ℕ → Bool) (such : Operator → Bool) (by : ℕ) (os : List Operator) → ((k : ℕ) → k < length os → chosen k ≡ such (operator_at os k)) → lowered_at chosen by os ≡ cheaper_where such by os
lowered_same chosen such by [] same = refl
lowered_same chosen such by (o ∷ os) same = λ i.
    record o { cost = cond (same 0 (omega arith) i) (o.cost - by) o.cost }
    ∷ lowered_same (λ k. chosen (suc k)) such by os (λ k lt. same (suc k) (omega (arith, lt))) i

-- the next one of a list of them
pub lowered_next : (r now later : RelaxedProblem) (cut : List ℕ) (by i cost : ℕ) → i < length cut → get_or cut i 0 < length r.operators → by ≤ (operator_at r.operators (get_or cut i 0)).cost → cost ≡ (operator_at r.operators (get_or cut i 0)).cost - by → now ≡ record r { operators = lowered_at (λ k. list_any (λ j. eqb j k) (take i cut)) by r.operators } → later ≡ record now { operators = with_cheaper (get_or cut i 0) ((operator_at now.operators (get_or cut i 0)).cost - cost) now.operators } → later ≡ record r { operators = lowered_at (λ k. list_any (λ j. eqb j k) (take (i + 1) cut)) by r.operators }
lowered_next r now later cut by i cost lt within enough paid is after =
    let k : ℕ = get_or cut i 0 in
    after
    ∙ ap (λ (m : RelaxedProblem). record m { operators = with_cheaper k ((operator_at m.operators k).cost - cost) m.operators }) is
    ∙ ap (λ n. record r { operators = with_cheaper k ((operator_at (lowered_at (λ j. list_any (λ q. eqb q j) (take i cut)) by r.operators) k).cost - n) (lowered_at (λ j. list_any (λ q. eqb q j) (take i cut)) by r.operators) }) paid
    ∙ ap (λ os. record r { operators = os })
    (lowered_one (λ j. list_any (λ q. eqb q j) (take i cut)) (λ j. list_any (λ q. eqb q j) (take (i + 1) cut)) by r.operators k within enough
    (list_any_more (λ q. eqb q k) cut i 0 lt ∙ or_right (list_any (λ q. eqb q k) (take i cut)) (eqb k k) (eq-eqb k k refl))
    (λ j ne. list_any_more (λ q. eqb q j) cut i 0 lt ∙ ap (λ b. list_any (λ q. eqb q j) (take i cut) || b) (ne_eqb k j (λ e. ne (sym e))) ∙ or_false (list_any (λ q. eqb q j) (take i cut))))
  where
    or_false : (b : Bool) → (b || false) ≡ b
    or_false true = refl
    or_false false = refl
