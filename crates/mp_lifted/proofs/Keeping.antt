-- Facts that are kept, one by one, and which of them are kept.
use Rattle.mp_lifted.proofs.Basics.{◌≡◌, ◌==◌, ℕ, Bool, true, false, cond, ◌&&◌, ◌||◌, not, List, [], ◌∷◌, refl, sym, ap, subst, ◌∙◌, Bor, list_any, same_tests, GroundAtom, LiftedFactor, same_atom, is_among, fact_of, is_held}
use Rattle.mp_lifted.proofs.Basics.{has_kind, is_true_at_start}
use Rattle.std.proofs.Common.{filter, nat_eq, if◌then◌else◌}
use Rattle.std.specs.Cmp.Lexicographic.{pointwise}
use Rattle.std.proofs.lemmas.Bool.Decides.{Decides-eqb}
use Rattle.std.proofs.lemmas.Slice.Eq.{slice_eq-Decides}
use Rattle.mp_list.proofs.Bools.{or_false}
use Rattle.mp_lifted.specs.Start.{is_private}
use Rattle.std.proofs.lemmas.Bool.{and_from, and_parts}

-- ---- tests

added_test : (t before : Bool) → cond t true before ≡ (before || t)
added_test true true = refl
added_test true false = refl
added_test false true = refl
added_test false false = refl

-- ---- atoms that are the same

pub equal : (a b : GroundAtom) → same_atom a b ≡ true → a ≡ b
equal a b h = λ i. record {
  symbol = (Decides-eqb a.symbol b.symbol).0 (and_parts _ _ h).0 i;
  args = (slice_eq-Decides Decides-eqb a.args b.args _ refl).0 (and_parts _ _ h).1 i;
}

pub itself : (a : GroundAtom) → same_atom a a ≡ true
itself a = and_from _ _ ((Decides-eqb a.symbol a.symbol).1 refl) ((slice_eq-Decides Decides-eqb a.args a.args _ refl).1 refl)

pub swapped : (a b : GroundAtom) → same_atom a b ≡ same_atom b a
swapped a b =
    same_tests _ _ (λ h. subst (λ x. same_atom b x ≡ true) (sym (equal a b h)) (itself b))
    (λ h. subst (λ x. same_atom a x ≡ true) (sym (equal b a h)) (itself a))

-- ---- one key more

pub more_held : (keys more : List (ℕ × Bor (List ℕ))) (key : ℕ × Bor (List ℕ))
    → ((q : ℕ × Bor (List ℕ)) → list_any (λ k. q.0 == k.0 && pointwise nat_eq q.1.now k.1.now) more
    ≡ cond (key.0 == q.0 && pointwise nat_eq key.1.now q.1.now) true (list_any (λ k. q.0 == k.0 && pointwise nat_eq q.1.now k.1.now) keys))
    → (a : GroundAtom) → is_held more a ≡ (is_held keys a || same_atom a (fact_of key))
more_held keys more key changed a =
    changed (a.symbol, record { ref_ptr = (0, 0); now = a.args })
    ∙ ap (λ t. cond t true (is_held keys a)) (swapped (fact_of key) a)
    ∙ added_test (same_atom a (fact_of key)) (is_held keys a)

-- ---- the facts of a kind

pub one_of_kind : (kind before same : Bool) → kind ≡ true → (before || same) ≡ (before || (kind && same))
one_of_kind true before same h = refl
one_of_kind false before same h = cc

-- ---- what is true at the start

and_false : (t : Bool) → (t && false) ≡ false
and_false true = refl
and_false false = refl

among_next : (a x : GroundAtom) (xs : List GroundAtom) (t : Bool) → is_among a (cond t (x ∷ xs) xs) ≡ ((t && same_atom a x) || is_among a xs)
among_next a x xs true = refl
among_next a x xs false = refl

joined : (test_x test_a same rest : Bool) → (same ≡ true → test_x ≡ test_a) → ((test_x && same) || (test_a && rest)) ≡ (test_a && (same || rest))
joined true true same rest h = refl
joined false false same rest h = refl
joined true false true rest h = h refl
joined true false false rest h = refl
joined false true true rest h = absurd (let e = h refl in cc)
joined false true false rest h = refl

chosen : (private none : Bool) (a : GroundAtom) (init known : List GroundAtom) → none ≡ false
    → ((none || (private && is_among a init)) || (not private && is_among a known)) ≡ is_among a (if private then init else known)
chosen true none a init known e = or_false (none || is_among a init) ∙ ap (λ t. t || is_among a init) e
chosen false none a init known e = ap (λ t. (t || false) || is_among a known) e

-- a fact is among those that pass a test where it passes and is among all
pub among_passing : (test : GroundAtom → Bool) (a : GroundAtom) (xs : List GroundAtom) → is_among a (filter test xs) ≡ (test a && is_among a xs)
among_passing test a [] = sym (and_false (test a))
among_passing test a (x ∷ xs) =
    among_next a x (filter test xs) (test x)
    ∙ ap (λ t. (test x && same_atom a x) || t) (among_passing test a xs)
    ∙ joined (test x) (test a) (same_atom a x) (is_among a xs) (λ h. ap test (sym (equal a x h)))

pub at_start : (factor : LiftedFactor) (none first both : GroundAtom → Bool)
    → ((a : GroundAtom) → none a ≡ false)
    → ((a : GroundAtom) → first a ≡ (none a || is_among a (filter (has_kind factor true) factor.init)))
    → ((a : GroundAtom) → both a ≡ (first a || is_among a (filter (has_kind factor false) factor.known)))
    → (a : GroundAtom) → both a ≡ is_true_at_start factor a
at_start factor none first both n f b a =
    b a
    ∙ ap (λ t. t || is_among a (filter (has_kind factor false) factor.known)) (f a)
    ∙ ap (λ t. (none a || t) || is_among a (filter (has_kind factor false) factor.known))
    (among_passing (has_kind factor true) a factor.init)
    ∙ ap (λ t. (none a || (is_private factor a && is_among a factor.init)) || t)
    (among_passing (has_kind factor false) a factor.known)
    ∙ chosen (is_private factor a) (none a) a factor.init factor.known (n a)
