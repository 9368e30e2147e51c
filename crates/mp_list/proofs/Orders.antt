-- Strict orders from comparisons: of what a key is compared by, and of lists of numbers.
use Rattle.std.proofs.Common.{◌≡◌, ℕ, Bool, true, false, List, Ordering, Less, Equal, Greater, refl, sym, ap, ◌∙◌}
use Rattle.std.specs.Ordering.{is_lt, is_eq, nat_cmp, ordering_reverse}
use Rattle.std.specs.Cmp.{IsTotalOrder}
use Rattle.std.specs.Cmp.Lexicographic.{slice_cmp}
use Rattle.std.proofs.lemmas.Cmp.{nat_list_cmp_total}
use Rattle.std.proofs.lemmas.Slice.Eq.{bytes_eq-Decides}
use Rattle.std.proofs.lemmas.Map.Text.{is_eq-slice_cmp}
use Rattle.mp_list.specs.First.{IsStrictOrder, IsTotal}

-- what comes before by a comparison
abbrev pub is_less : {X : Type 0} → (X → X → Ordering) → X → X → Bool
is_less cmp a b = is_lt (cmp a b)

turned : {X : Type 0} (cmp : X → X → Ordering) → IsTotalOrder cmp → (a b : X) (o : Ordering) → cmp a b ≡ o → cmp b a ≡ ordering_reverse o
turned cmp total a b o e = total.antisymm b a ∙ ap ordering_reverse e

itself_by : {X : Type 0} (cmp : X → X → Ordering) (a : X) (o : Ordering) → cmp a a ≡ o → o ≡ ordering_reverse o → is_less cmp a a ≡ false
itself_by cmp a Less e same = cc
itself_by cmp a Equal e same = ap is_lt e
itself_by cmp a Greater e same = ap is_lt e

turns_by : {X : Type 0} (cmp : X → X → Ordering) → IsTotalOrder cmp → (a b : X) (o : Ordering)
    → cmp a b ≡ o → is_lt o ≡ true → is_less cmp b a ≡ false
turns_by cmp total a b Less e less = ap is_lt (turned cmp total a b Less e)
turns_by cmp total a b Equal e less = cc
turns_by cmp total a b Greater e less = cc

passes_by : {X : Type 0} (cmp : X → X → Ordering) → IsTotalOrder cmp → (a b c : X) (o p : Ordering)
    → cmp a b ≡ o → cmp b c ≡ p → is_lt o ≡ false → is_lt p ≡ false → is_less cmp a c ≡ false
passes_by cmp total a b c Less p e f not_less not_less' = cc
passes_by cmp total a b c Equal p e f not_less not_less' = ap is_lt (total.congr a b c e ∙ f) ∙ not_less'
passes_by cmp total a b c Greater Less e f not_less not_less' = cc
passes_by cmp total a b c Greater Equal e f not_less not_less' =
    ap is_lt (turned cmp total c a Less (sym (total.congr b c a f) ∙ turned cmp total a b Greater e))
passes_by cmp total a b c Greater Greater e f not_less not_less' =
    ap is_lt (turned cmp total c a Less (total.trans c b a (turned cmp total b c Greater f) (turned cmp total a b Greater e)))

-- a total comparison gives a strict order
pub strict_from_total : {X : Type 0} (cmp : X → X → Ordering) → IsTotalOrder cmp → IsStrictOrder (is_less cmp)
strict_from_total {X} cmp total =
    record {
      itself = λ (a : X). itself_by cmp a (cmp a a) refl (total.antisymm a a);
      turns = λ (a b : X) (less : is_less cmp a b ≡ true). turns_by cmp total a b (cmp a b) refl less;
      passes = λ (a b c : X) (p : is_less cmp a b ≡ false) (q : is_less cmp b c ≡ false).
          passes_by cmp total a b c (cmp a b) (cmp b c) refl refl p q;
    }

level_by : {X : Type 0} (cmp : X → X → Ordering) → IsTotalOrder cmp → ((a b : X) → cmp a b ≡ Equal → a ≡ b) → (a b : X) (o : Ordering)
    → cmp a b ≡ o → is_lt o ≡ false → is_less cmp b a ≡ false → a ≡ b
level_by cmp total exact a b Less e not_less not_less' = cc
level_by cmp total exact a b Equal e not_less not_less' = exact a b e
level_by cmp total exact a b Greater e not_less not_less' =
    let less = sym (ap is_lt (turned cmp total a b Greater e)) ∙ not_less' in cc

-- and one that is total, where it tells all values apart
pub total_from_exact : {X : Type 0} (cmp : X → X → Ordering) → IsTotalOrder cmp → ((a b : X) → cmp a b ≡ Equal → a ≡ b) → IsTotal (is_less cmp)
total_from_exact cmp total exact a b p q = level_by cmp total exact a b (cmp a b) refl p q

-- values in the order of their keys
pub strict_on : {X Y : Type 0} (key_of : Y → X) (before : X → X → Bool) → IsStrictOrder before → IsStrictOrder (λ (a b : Y). before (key_of a) (key_of b))
strict_on {X} {Y} key_of before order =
    record {
      itself = λ (a : Y). order.itself (key_of a);
      turns = λ (a b : Y). order.turns (key_of a) (key_of b);
      passes = λ (a b c : Y). order.passes (key_of a) (key_of b) (key_of c);
    }

pub total_on : {X Y : Type 0} (key_of : Y → X) (before : X → X → Bool) → IsTotal before → ((a b : Y) → key_of a ≡ key_of b → a ≡ b)
    → IsTotal (λ (a b : Y). before (key_of a) (key_of b))
total_on key_of before total apart a b p q = apart a b (total (key_of a) (key_of b) p q)

-- lists of numbers, by the first number in which they differ
pub numbers_strict : IsStrictOrder (is_less (slice_cmp nat_cmp))
numbers_strict = strict_from_total (slice_cmp nat_cmp) nat_list_cmp_total

pub numbers_total : IsTotal (is_less (slice_cmp nat_cmp))
numbers_total =
    total_from_exact (slice_cmp nat_cmp) nat_list_cmp_total
    (λ (a b : List ℕ) (e : slice_cmp nat_cmp a b ≡ Equal). (bytes_eq-Decides a b).0 (sym (is_eq-slice_cmp a b) ∙ ap is_eq e))
