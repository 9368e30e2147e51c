-- Operators from their preconditions, adds and costs.
use Rattle.std.proofs.Common.{◌≡◌, ℕ, zero, suc, ◌<◌, List, [], ◌∷◌, length, get_or, map, All, refl, sym, ap, ◌∙◌, subst, arith}
use Rattle.std.proofs.Math.ListN.{set as set_at}
use Rattle.std.proofs.lemmas.List.Elements.{All-cons, All-head, All-nil, All-tail}
use Rattle.mp_task.specs.Strips.{Operator}
use Rattle.mp_relaxed.specs.Relaxed.{AreAllFree, HasAdders, HasFree, HasUsers, without_deletes, operator_at, priced, zipped}
use Rattle.mp_relaxed.specs.Users.{AreUsers, AreFree, times}

pub length-zipped : (pres adds : List (List ℕ)) (costs : List ℕ) → length adds ≡ length pres → length costs ≡ length pres → length (zipped pres adds costs) ≡ length pres
length-zipped [] adds costs a c = refl
length-zipped (p ∷ pres) [] costs a c = absurd (omega arith)
length-zipped (p ∷ pres) (q ∷ adds) [] a c = absurd (omega arith)
length-zipped (p ∷ pres) (q ∷ adds) (d ∷ costs) a c = let h = length-zipped pres adds costs (omega arith) (omega arith) in omega arith

pub zipped_at : (pres adds : List (List ℕ)) (costs : List ℕ) (k : ℕ) → length adds ≡ length pres → length costs ≡ length pres → k < length pres → operator_at (zipped pres adds costs) k ≡ record { pre = get_or pres k []; add = get_or adds k []; del = []; cost = get_or costs k 0 }
zipped_at [] adds costs k a c h = absurd (omega arith)
zipped_at (p ∷ pres) [] costs k a c h = absurd (omega arith)
zipped_at (p ∷ pres) (q ∷ adds) [] k a c h = absurd (omega arith)
zipped_at (p ∷ pres) (q ∷ adds) (d ∷ costs) zero a c h = refl
zipped_at (p ∷ pres) (q ∷ adds) (d ∷ costs) (suc k) a c h = zipped_at pres adds costs k (omega arith) (omega arith) (omega arith)

pub zipped_is : (os : List Operator) → zipped (map (λ o. o.pre) os) (map (λ o. o.add) os) (map (λ o. o.cost) os) ≡ map without_deletes os
zipped_is [] = refl
zipped_is (o ∷ os) = λ i. without_deletes o ∷ zipped_is os i

pub zipped_counts : (pres adds : List (List ℕ)) (costs : List ℕ) → length adds ≡ length pres → length costs ≡ length pres → (k : ℕ) → get_or (map length pres) k 0 ≡ length (operator_at (zipped pres adds costs) k).pre
zipped_counts [] adds costs a c k = refl
zipped_counts (p ∷ pres) [] costs a c k = absurd (omega arith)
zipped_counts (p ∷ pres) (q ∷ adds) [] a c k = absurd (omega arith)
zipped_counts (p ∷ pres) (q ∷ adds) (d ∷ costs) a c zero = refl
zipped_counts (p ∷ pres) (q ∷ adds) (d ∷ costs) a c (suc k) = zipped_counts pres adds costs (omega arith) (omega arith) k

pub zipped_costs : (pres adds : List (List ℕ)) (costs : List ℕ) → length adds ≡ length pres → length costs ≡ length pres → map (λ o. o.cost) (zipped pres adds costs) ≡ costs
zipped_costs [] adds [] a c = refl
zipped_costs [] adds (d ∷ costs) a c = absurd (omega arith)
zipped_costs (p ∷ pres) [] costs a c = absurd (omega arith)
zipped_costs (p ∷ pres) (q ∷ adds) [] a c = absurd (omega arith)
zipped_costs (p ∷ pres) (q ∷ adds) (d ∷ costs) a c =
    ap (λ l. d ∷ l) (zipped_costs pres adds costs (omega arith) (omega arith))

pub zipped_all : (P : ℕ → Type 0) (pres adds : List (List ℕ)) (costs : List ℕ) → All P costs → All (λ o. P o.cost) (zipped pres adds costs)
zipped_all P [] adds costs h = All-nil (λ o. P o.cost)
zipped_all P (p ∷ pres) [] costs h = All-nil (λ o. P o.cost)
zipped_all P (p ∷ pres) (q ∷ adds) [] h = All-nil (λ o. P o.cost)
zipped_all P (p ∷ pres) (q ∷ adds) (d ∷ costs) h =
    All-cons (λ o. P o.cost) (record { pre = p; add = q; del = []; cost = d }) (zipped pres adds costs) (All-head P d costs h) (zipped_all P pres adds costs (All-tail P d costs h))

-- at other costs
pub zipped_priced : (pres adds : List (List ℕ)) (costs new : List ℕ) → length adds ≡ length pres → length costs ≡ length pres → length new ≡ length pres → zipped pres adds new ≡ priced new (zipped pres adds costs)
zipped_priced [] adds costs [] a c n = refl
zipped_priced [] adds costs (e ∷ new) a c n = absurd (omega arith)
zipped_priced (p ∷ pres) [] costs new a c n = absurd (omega arith)
zipped_priced (p ∷ pres) (q ∷ adds) [] new a c n = absurd (omega arith)
zipped_priced (p ∷ pres) (q ∷ adds) (d ∷ costs) [] a c n = absurd (omega arith)
zipped_priced (p ∷ pres) (q ∷ adds) (d ∷ costs) (e ∷ new) a c n =
    ap (λ l. record { pre = p; add = q; del = []; cost = e } ∷ l) (zipped_priced pres adds costs new (omega arith) (omega arith) (omega arith))

-- with another cost at one place
pub zipped_set : (pres adds : List (List ℕ)) (costs : List ℕ) (k cost : ℕ) → length adds ≡ length pres → length costs ≡ length pres → k < length pres → zipped pres adds (set_at costs k cost) ≡ set_at (zipped pres adds costs) k (record (operator_at (zipped pres adds costs) k) { cost = cost })
zipped_set [] adds costs k cost a c h = absurd (omega arith)
zipped_set (p ∷ pres) [] costs k cost a c h = absurd (omega arith)
zipped_set (p ∷ pres) (q ∷ adds) [] k cost a c h = absurd (omega arith)
zipped_set (p ∷ pres) (q ∷ adds) (d ∷ costs) zero cost a c h = refl
zipped_set (p ∷ pres) (q ∷ adds) (d ∷ costs) (suc k) cost a c h =
    ap (λ l. record { pre = p; add = q; del = []; cost = d } ∷ l) (zipped_set pres adds costs k cost (omega arith) (omega arith) (omega arith))

module _ (pres adds : List (List ℕ)) (costs : List ℕ) (a : length adds ≡ length pres) (c : length costs ≡ length pres) where
  pub zipped_users : (size x : ℕ) (users : List (List ℕ)) → AreUsers size pres users → HasUsers (zipped pres adds costs) x (get_or users x [])
  zipped_users size x users right = λ k within.
      let inside : k < length pres = omega (arith, length-zipped pres adds costs a c) in
      let same = ap (λ (o : Operator). times x o.pre) (zipped_at pres adds costs k a c inside) in
      same ∙ right.all k x inside

  pub zipped_adders : (size x : ℕ) (users : List (List ℕ)) → AreUsers size adds users → HasAdders (zipped pres adds costs) x (get_or users x [])
  zipped_adders size x users right = λ k within.
      let inside : k < length pres = omega (arith, length-zipped pres adds costs a c) in
      let same = ap (λ (o : Operator). times x o.add) (zipped_at pres adds costs k a c inside) in
      same ∙ right.all k x (omega arith)

  pub zipped_free : (free : List ℕ) → AreFree pres free → HasFree (zipped pres adds costs) free
  zipped_free free right = λ k within none.
      let inside : k < length pres = omega (arith, length-zipped pres adds costs a c) in
      right.all k inside (sym (ap (λ (o : Operator). o.pre) (zipped_at pres adds costs k a c inside)) ∙ none)

  pub zipped_all_free : (free : List ℕ) → AreFree pres free → AreAllFree (zipped pres adds costs) free
  zipped_all_free free right = λ i d lt.
      ap (λ (o : Operator). o.pre) (zipped_at pres adds costs (get_or free i d) a c (right.rows_alone i d lt)) ∙ right.empty_alone i d lt

  pub zipped_below : (xs : List ℕ) → All (λ k. k < length pres) xs → All (λ k. k < length (zipped pres adds costs)) xs
  zipped_below xs h = subst (λ n. All (λ k. k < n) xs) (sym (length-zipped pres adds costs a c)) h

  -- of some operators
  pub zipped_pres : (ks : List ℕ) → All (λ k. k < length pres) ks → map (λ k. get_or pres k []) ks ≡ map (λ k. (operator_at (zipped pres adds costs) k).pre) ks
  zipped_pres [] h = refl
  zipped_pres (k ∷ ks) h =
      (λ i. (sym (zipped_at pres adds costs k a c (All-head (λ j. j < length pres) k ks h)) i).pre ∷ zipped_pres ks (All-tail (λ j. j < length pres) k ks h) i)

  pub zipped_adds : (ks : List ℕ) → All (λ k. k < length pres) ks → map (λ k. get_or adds k []) ks ≡ map (λ k. (operator_at (zipped pres adds costs) k).add) ks
  zipped_adds [] h = refl
  zipped_adds (k ∷ ks) h =
      (λ i. (sym (zipped_at pres adds costs k a c (All-head (λ j. j < length pres) k ks h)) i).add ∷ zipped_adds ks (All-tail (λ j. j < length pres) k ks h) i)

pub rows_all : (P : List ℕ → Type 0) (rows : List (List ℕ)) (ks : List ℕ) → All P rows → All (λ k. k < length rows) ks → All P (map (λ k. get_or rows k []) ks)
rows_all P rows [] all inside = All-nil P
rows_all P rows (k ∷ ks) all inside =
    All-cons P (get_or rows k []) (map (λ j. get_or rows j []) ks) (all k [] (All-head (λ j. j < length rows) k ks inside)) (rows_all P rows ks all (All-tail (λ j. j < length rows) k ks inside))
