-- The projected state against the two sets that it is made of.
use Rattle.std.proofs.Common.{◌≡◌, ℕ, suc, ◌+◌, ◌-◌, ◌<◌, ◌≤◌, Bool, true, false, cond, not, ◌&&◌, ◌||◌, ltb, eqb, List, [], ◌∷◌, map, All, refl, sym, ap, ◌∙◌, ⊎_elim, arith}
use Rattle.std.proofs.Math.Bool.{or-false}
use Rattle.std.proofs.lemmas.Bool.{lt-ltb, le-ltb, ne_eqb, cases_lt}
use Rattle.std.proofs.lemmas.Bool.Decides.{nat_tests}
use Rattle.std.proofs.lemmas.List.Folds.{list_all-append, list_any-append, list_all-map, list_any_none}
use Rattle.std.specs.List.{list_all, list_any}
use Rattle.std.specs.FinSet as set
use Rattle.mp_sets.specs.Numbers.{Numbers, holds, after}
use Rattle.mp_sets.proofs.SetLemmas.{contains-numbers_below, contains_at, same_numbers}
use Rattle.mp_sets.proofs.NumbersLemmas.{contains-after, All_at}
use Rattle.mp_task.specs.AgentTask.{AgentTask}
use Rattle.mp_task.specs.Projected.{facts_of, projected_state}

list_all-same : (p q : ℕ → Bool) (xs : List ℕ) → All (λ x. p x ≡ q x) xs → list_all p xs ≡ list_all q xs
list_all-same p q [] same = refl
list_all-same p q (x ∷ xs) same = λ i. same 0 x (omega arith) i && list_all-same p q xs (λ k d h. same (suc k) d (omega arith)) i

list_any-same : (p q : ℕ → Bool) (xs : List ℕ) → ((x : ℕ) → p x ≡ q x) → list_any p xs ≡ list_any q xs
list_any-same p q [] same = refl
list_any-same p q (x ∷ xs) same = λ i. same x i || list_any-same p q xs same i

list_any-map : (p : ℕ → Bool) (h : ℕ → ℕ) (xs : List ℕ) → list_any p (map h xs) ≡ list_any (λ x. p (h x)) xs
list_any-map p h [] = refl
list_any-map p h (x ∷ xs) = ap (λ b. p (h x) || b) (list_any-map p h xs)

module _ (t : AgentTask) (p q : Numbers) where
  abbrev state : Numbers
  state = projected_state t p q

  pub contains_public : (x : ℕ) → x < t.publics → set.contains (projected_state t p q) x ≡ set.contains p x
  contains_public x h =
      contains_at (t.publics + t.privates) _ x (omega arith) ∙ ap (λ b. cond b (set.contains p x) (set.contains q (x - t.publics))) (lt-ltb x t.publics h)

  pub contains_private : (k : ℕ) → k < t.privates → set.contains (projected_state t p q) (t.publics + k) ≡ set.contains q k
  contains_private k h =
      let back : (t.publics + k) - t.publics ≡ k = omega arith in
      contains_at (t.publics + t.privates) _ (t.publics + k) (omega arith)
      ∙ ap (λ b. cond b (set.contains p (t.publics + k)) (set.contains q ((t.publics + k) - t.publics))) (le-ltb (t.publics + k) t.publics (omega arith))
      ∙ ap (set.contains q) back

  pub contains_above : (x : ℕ) → t.publics ≤ x → set.contains (projected_state t p q) x ≡ (ltb x (t.publics + t.privates) && set.contains q (x - t.publics))
  contains_above x h =
      contains-numbers_below (t.publics + t.privates) _ x
      ∙ ap (λ b. ltb x (t.publics + t.privates) && cond b (set.contains p x) (set.contains q (x - t.publics))) (le-ltb x t.publics h)

  -- facts are true in it where the public ones are in the one set and the private ones in the other
  pub holds-projected_state : (xs ys : List ℕ) → All (λ x. x < t.publics) xs → All (λ k. k < t.privates) ys → holds (projected_state t p q) (facts_of t.publics xs ys) ≡ (holds p xs && holds q ys)
  holds-projected_state xs ys below within =
      list_all-append (set.contains (projected_state t p q)) xs (map (λ k. t.publics + k) ys)
      ∙ (λ i.
      list_all-same (set.contains (projected_state t p q)) (set.contains p) xs (λ k d h. contains_public _ (below k d h)) i
      && (list_all-map (set.contains (projected_state t p q)) (λ k. t.publics + k) ys
      ∙ list_all-same (λ k. set.contains (projected_state t p q) (t.publics + k)) (set.contains q) ys (λ k d h. contains_private _ (within k d h))) i)

-- which facts a list of public and private facts has
public_among : (publics x : ℕ) (xs ys : List ℕ) → x < publics → list_any (λ y. eqb y x) (facts_of publics xs ys) ≡ list_any (λ y. eqb y x) xs
public_among publics x xs ys h =
    list_any-append (λ y. eqb y x) xs (map (λ k. publics + k) ys)
    ∙ ap (λ b. list_any (λ y. eqb y x) xs || b)
    (list_any-map (λ y. eqb y x) (λ k. publics + k) ys ∙ list_any_none (λ k. eqb (publics + k) x) ys (λ k d lt. ne_eqb _ x (λ e. omega arith)))
    ∙ or-false (list_any (λ y. eqb y x) xs)

private_among : (publics x : ℕ) (xs ys : List ℕ) → publics ≤ x → All (λ y. y < publics) xs → list_any (λ y. eqb y x) (facts_of publics xs ys) ≡ list_any (λ k. eqb k (x - publics)) ys
private_among publics x xs ys h below =
    list_any-append (λ y. eqb y x) xs (map (λ k. publics + k) ys)
    ∙ ap (λ b. b || list_any (λ y. eqb y x) (map (λ k. publics + k) ys)) (list_any_none (λ y. eqb y x) xs (λ k d lt. ne_eqb _ x (λ e. let small = below k d lt in omega arith)))
    ∙ list_any-map (λ y. eqb y x) (λ k. publics + k) ys
    ∙ list_any-same (λ k. eqb (publics + k) x) (λ k. eqb k (x - publics)) ys (λ k. shifted publics k x h)
  where
    shifted : (publics k x : ℕ) → publics ≤ x → eqb (publics + k) x ≡ eqb k (x - publics)
    shifted publics k x h = grind (arith, nat_tests)

-- an action on both sets is the action on the projected state
pub projected_state-after : (t : AgentTask) (p q : Numbers) (dp ap_ dq aq : List ℕ) → All (λ x. x < t.publics) dp → All (λ x. x < t.publics) ap_ → All (λ k. k < t.privates) aq → projected_state t (after p dp ap_) (after q dq aq) ≡ after (projected_state t p q) (facts_of t.publics dp dq) (facts_of t.publics ap_ aq)
projected_state-after t p q dp ap_ dq aq dels adds own =
    same_numbers _ _ (λ x. ⊎_elim (low x) (high x) (cases_lt x t.publics))
  where
    low : (x : ℕ) → x < t.publics → set.contains (projected_state t (after p dp ap_) (after q dq aq)) x ≡ set.contains (after (projected_state t p q) (facts_of t.publics dp dq) (facts_of t.publics ap_ aq)) x
    low x h =
        contains_public t _ _ x h ∙ contains-after p dp ap_ x
        ∙ sym (contains-after _ _ _ x
        ∙ (λ i. (contains_public t p q x h i && not (public_among t.publics x dp dq h i)) || public_among t.publics x ap_ aq h i))

    high : (x : ℕ) → t.publics ≤ x → set.contains (projected_state t (after p dp ap_) (after q dq aq)) x ≡ set.contains (after (projected_state t p q) (facts_of t.publics dp dq) (facts_of t.publics ap_ aq)) x
    high x h =
        contains_above t _ _ x h ∙ ap (λ b. ltb x (t.publics + t.privates) && b) (contains-after q dq aq (x - t.publics))
        ∙ inner (ltb x (t.publics + t.privates)) (set.contains q (x - t.publics)) (list_any (λ k. eqb k (x - t.publics)) dq) (list_any (λ k. eqb k (x - t.publics)) aq)
        (λ here. let small = All_at (λ k. k < t.privates) aq (x - t.publics) own here in lt-ltb x (t.publics + t.privates) (omega arith))
        ∙ sym (contains-after _ _ _ x
        ∙ (λ i. (contains_above t p q x h i && not (private_among t.publics x dp dq h dels i)) || private_among t.publics x ap_ aq h adds i))
      where
        inner : (n c d a : Bool) → (a ≡ true → n ≡ true) → (n && ((c && not d) || a)) ≡ (((n && c) && not d) || a)
        inner true c d a h = refl
        inner false c d true h = h refl
        inner false c d false h = refl
