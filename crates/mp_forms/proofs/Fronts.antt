-- Lists of numbers whose fronts have one length compare by these first.
use Rattle.mp_forms.proofs.Basics.{◌≡◌, ℕ, List, [], ◌∷◌, ◌++◌, length, refl, sym, ap, ◌∙◌, arith}
use Rattle.std.proofs.Common.{Ordering, Less, Equal, Greater}
use Rattle.std.specs.Cmp.Lexicographic.{slice_cmp}
use Rattle.std.specs.Ordering.{nat_cmp, ordering_then}

then_then : (a b c : Ordering) → ordering_then (ordering_then a b) c ≡ ordering_then a (ordering_then b c)
then_then Less b c = refl
then_then Equal b c = refl
then_then Greater b c = refl

pub by_fronts : (xs ys p q : List ℕ) → length xs ≡ length ys
    → slice_cmp nat_cmp (xs ++ p) (ys ++ q) ≡ ordering_then (slice_cmp nat_cmp xs ys) (slice_cmp nat_cmp p q)
by_fronts [] [] p q e = refl
by_fronts [] (y ∷ ys) p q e = absurd (omega (arith, e))
by_fronts (x ∷ xs) [] p q e = absurd (omega (arith, e))
by_fronts (x ∷ xs) (y ∷ ys) p q e =
    let shorter : length xs ≡ length ys = omega (arith, e) in
    ap (ordering_then (nat_cmp x y)) (by_fronts xs ys p q shorter) ∙ sym (then_then (nat_cmp x y) (slice_cmp nat_cmp xs ys) (slice_cmp nat_cmp p q))
