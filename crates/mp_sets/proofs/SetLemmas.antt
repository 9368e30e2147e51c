-- Which numbers are members of `numbers_below`, and what sets made by it are equal to.
use Rattle.std.proofs.Common.{◌≡◌, ℕ, zero, suc, ◌+◌, ◌<◌, Bool, true, false, cond, not, ◌&&◌, ◌||◌, ltb, eqb, List, [], ◌∷◌, ◌++◌, refl, sym, ap, ◌∙◌, subst, arith}
use Rattle.std.proofs.lemmas.Bool.{lt-ltb, and_parts, and_from, false_from_ne_true}
use Rattle.std.proofs.lemmas.Bool.Decides.{nat_tests}
use Rattle.std.specs.Ordering.{nat_cmp}
use Rattle.std.specs.Bool.{Decides}
use Rattle.std.specs.Cmp.{nat_cmp_total, unsigned_tied, both_ways}
use Rattle.std.specs.FinSet as set
use Rattle.mp_sets.specs.Numbers.{Numbers, AllBelow, same, numbers_below}

-- one step of the recursion where the number passes, and where it does not
added : (q n : ℕ) (t : ℕ → Bool) → t n ≡ true → (eqb q n || (ltb q n && t q)) ≡ (ltb q (n + 1) && t q)
added q n t e = grind (arith, nat_tests)

next : (q n : ℕ) (t : ℕ → Bool) → (ltb q (n + 1) && t q) ≡ (ltb q (suc n) && t q)
next q n t = let e : n + 1 ≡ suc n = omega arith in ap (λ m. ltb q m && t q) e

skipped : (q n : ℕ) (t : ℕ → Bool) → t n ≡ false → (ltb q n && t q) ≡ (ltb q (n + 1) && t q)
skipped q n t e = grind (arith, nat_tests)

pub none_below : (q : ℕ) (t : ℕ → Bool) → false ≡ (ltb q 0 && t q)
none_below q t = grind (arith, nat_tests)

pub contains-insert_nat : (s : Numbers) (k q : ℕ) → set.contains (set.insert s k) q ≡ (eqb q k || set.contains s q)
contains-insert_nat s k q = set.contains-insert nat_cmp_total s k q ∙ ap (λ b. b || set.contains s q) (unsigned_tied q k)

pub contains-remove_nat : (s : Numbers) (k q : ℕ) → set.contains (set.remove s k) q ≡ (not (eqb q k) && set.contains s q)
contains-remove_nat s k q = set.contains-remove nat_cmp_total s k q ∙ ap (λ b. not b && set.contains s q) (unsigned_tied q k)

pub contains-numbers_below : (n : ℕ) (t : ℕ → Bool) (q : ℕ) → set.contains (numbers_below n t) q ≡ (ltb q n && t q)
unfolding numbers_below
contains-numbers_below zero t q = set.contains-empty nat_cmp q ∙ none_below q t
contains-numbers_below (suc n) t q =
    elim (t n) as (λ b. t n ≡ b → set.contains (cond b (set.insert (numbers_below n t) n) (numbers_below n t)) q ≡ (ltb q (suc n) && t q)) [
      | true ↦ λ e. contains-insert_nat _ n q ∙ ap (λ b. eqb q n || b) (contains-numbers_below n t q) ∙ added q n t e ∙ next q n t
      | false ↦ λ e. contains-numbers_below n t q ∙ skipped q n t e ∙ next q n t
    ] refl

-- two sets with the same members are one
pub same_numbers : (s t : Numbers) → ((q : ℕ) → set.contains s q ≡ set.contains t q) → s ≡ t
same_numbers s t same = set.same_set nat_cmp_total set.nat_cmp-IsAntisymmetric s t same

and_false : (b : Bool) → (b && false) ≡ false
and_false true = refl
and_false false = refl

-- two tests that agree below the size
pub numbers_below-same : (n : ℕ) (t u : ℕ → Bool) → ((k : ℕ) → k < n → t k ≡ u k) → numbers_below n t ≡ numbers_below n u
numbers_below-same n t u same =
    same_numbers _ _ (λ q. contains-numbers_below n t q ∙ both_tests q n (t q) (u q) (same q) ∙ sym (contains-numbers_below n u q))
  where
    both_tests : (q n : ℕ) (a b : Bool) → (q < n → a ≡ b) → (ltb q n && a) ≡ (ltb q n && b)
    both_tests q n a b e = grind (arith, nat_tests)

pub below_size : (n : ℕ) (t : ℕ → Bool) → AllBelow n (numbers_below n t)
below_size n t q h = first_test q n (t q) (sym (contains-numbers_below n t q) ∙ h)
  where
    first_test : (q n : ℕ) (b : Bool) → (ltb q n && b) ≡ true → q < n
    first_test q n b e = grind (arith, nat_tests)

pub contains_at : (n : ℕ) (t : ℕ → Bool) (q : ℕ) → q < n → set.contains (numbers_below n t) q ≡ t q
contains_at n t q h = contains-numbers_below n t q ∙ ap (λ b. b && t q) (lt-ltb q n h)

-- a test that passes one number more, one that passes one less, and one that passes none
pub numbers_below-insert : (n x : ℕ) (t u : ℕ → Bool) → x < n → ((q : ℕ) → u q ≡ (eqb q x || t q)) → numbers_below n u ≡ set.insert (numbers_below n t) x
numbers_below-insert n x t u h more = same_numbers _ _ (λ q.
    contains-numbers_below n u q ∙ ap (λ b. ltb q n && b) (more q) ∙ written q (t q) ∙ sym (contains-insert_nat _ x q ∙ ap (λ b. eqb q x || b) (contains-numbers_below n t q)))
  where
    written : (q : ℕ) (b : Bool) → (ltb q n && (eqb q x || b)) ≡ (eqb q x || (ltb q n && b))
    written q b = grind (arith, nat_tests)

pub numbers_below-remove : (n x : ℕ) (t u : ℕ → Bool) → ((q : ℕ) → u q ≡ (not (eqb q x) && t q)) → numbers_below n u ≡ set.remove (numbers_below n t) x
numbers_below-remove n x t u less = same_numbers _ _ (λ q.
    contains-numbers_below n u q ∙ ap (λ b. ltb q n && b) (less q) ∙ written q (t q) ∙ sym (contains-remove_nat _ x q ∙ ap (λ b. not (eqb q x) && b) (contains-numbers_below n t q)))
  where
    written : (q : ℕ) (b : Bool) → (ltb q n && (not (eqb q x) && b)) ≡ (not (eqb q x) && (ltb q n && b))
    written q b = grind (arith, nat_tests)

pub numbers_below-none : (n : ℕ) (t : ℕ → Bool) → ((q : ℕ) → t q ≡ false) → numbers_below n t ≡ set.empty
numbers_below-none n t none = same_numbers _ _ (λ q. contains-numbers_below n t q ∙ ap (λ b. ltb q n && b) (none q) ∙ and_false (ltb q n) ∙ sym (set.contains-empty nat_cmp q))

-- a number more to take out, or to put in
pub difference-push : (s : Numbers) (ks : List ℕ) (k : ℕ) → set.remove (set.difference s (set.from_list ks)) k ≡ set.difference s (set.from_list (ks ++ k ∷ []))
difference-push s ks k = same_numbers _ _ (λ q.
    contains-remove_nat _ k q ∙ ap (λ b. not (eqb q k) && b) (set.contains-difference nat_cmp_total s _ q)
    ∙ both (set.contains s q) (eqb q k) (set.contains (set.from_list ks) q)
    ∙ sym (set.contains-difference nat_cmp_total s _ q ∙ ap (λ b. set.contains s q && not b) (ap (λ t. set.contains t q) (set.from_list_push nat_cmp_total set.nat_cmp-IsAntisymmetric ks k) ∙ contains-insert_nat _ k q)))
  where
    both : (a b c : Bool) → (not b && (a && not c)) ≡ (a && not (b || c))
    both true true c = refl
    both true false c = refl
    both false true c = refl
    both false false c = refl

pub union-push : (s : Numbers) (ks : List ℕ) (k : ℕ) → set.insert (set.union s (set.from_list ks)) k ≡ set.union s (set.from_list (ks ++ k ∷ []))
union-push s ks k = same_numbers _ _ (λ q.
    contains-insert_nat _ k q ∙ ap (λ b. eqb q k || b) (set.contains-union nat_cmp_total s _ q)
    ∙ both (set.contains s q) (eqb q k) (set.contains (set.from_list ks) q)
    ∙ sym (set.contains-union nat_cmp_total s _ q ∙ ap (λ b. set.contains s q || b) (ap (λ t. set.contains t q) (set.from_list_push nat_cmp_total set.nat_cmp-IsAntisymmetric ks k) ∙ contains-insert_nat _ k q)))
  where
    both : (a b c : Bool) → (b || (a || c)) ≡ (a || (b || c))
    both true true c = refl
    both true false c = refl
    both false true c = refl
    both false false c = refl

pub difference-none : (s : Numbers) → s ≡ set.difference s (set.from_list [])
difference-none s = same_numbers _ _ (λ q. sym (set.contains-difference nat_cmp_total s _ q ∙ ap (λ b. set.contains s q && not b) (set.contains-empty nat_cmp q) ∙ and_true (set.contains s q)))
  where
    and_true : (b : Bool) → (b && true) ≡ b
    and_true true = refl
    and_true false = refl

pub union-none : (s : Numbers) → s ≡ set.union s (set.from_list [])
union-none s = same_numbers _ _ (λ q. sym (set.contains-union nat_cmp_total s _ q ∙ ap (λ b. set.contains s q || b) (set.contains-empty nat_cmp q) ∙ or_false (set.contains s q)))
  where
    or_false : (b : Bool) → (b || false) ≡ b
    or_false true = refl
    or_false false = refl

-- two sets are one exactly where each has the members of the other
pub same_itself : (s : Numbers) → same s s ≡ true
same_itself s =
    let all : set.is_subset s s ≡ true = set.contains-is_subset nat_cmp_total s s (λ q here. here) in
    and_from (set.is_subset s s) (set.is_subset s s) all all

pub same_is : (s t : Numbers) → same s t ≡ true → s ≡ t
same_is s t both =
    let parts = and_parts (set.is_subset s t) (set.is_subset t s) both in
    same_numbers s t (λ q. both_ways (set.contains s q) (set.contains t q) (set.is_subset-contains nat_cmp_total s t parts.0 q) (set.is_subset-contains nat_cmp_total t s parts.1 q))

pub same_not : (s t : Numbers) → (s ≡ t → ⊥) → same s t ≡ false
same_not s t other = false_from_ne_true (same s t) (λ e. other (same_is s t e))

pub Decides-same : (s t : Numbers) → Decides (same s t) (s ≡ t)
Decides-same s t = (same_is s t, λ e. subst (λ u. same s u ≡ true) e (same_itself s))
