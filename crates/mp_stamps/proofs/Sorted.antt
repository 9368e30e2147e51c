-- A list in the order of stamps is known by what it has of each stamp.
use Rattle.std.proofs.Common.{◌≡◌, ℕ, ◌<◌, ◌≤◌, inl, inr, ⊎_elim, eqb, eq-eqb, ne_eqb, Bool, true, false, List, [], ◌∷◌, get_or, refl, sym, ap, subst, ◌∙◌, arith}
use Rattle.std.specs.Prelude.{All}
use Rattle.std.specs.List.{AllPairs, filter}
use Rattle.std.proofs.lemmas.Bool.{cases_lt}
use Rattle.std.proofs.lemmas.List.Elements.{All-cons, All-weaker}
use Rattle.std.proofs.lemmas.List.Kept.{AllPairs-cons}
use native.Mathlib.Decide.{ℕ_discrete}
use mathlib.Core.Logic.{dite}
use Rattle.mp_messages.specs.History.{agent_of}
use Rattle.mp_stamps.specs.Merged.{IsInOrder}
use Rattle.mp_stamps.specs.Sorting.{has_stamp}
use Rattle.mp_stamps.specs.declared.stamped.Stamped.{Stamped}
use Rattle.mp_stamps.proofs.Filters.{filter_none, of_kept, pairs_head, pairs_tail}

abbrev pub NotLater : Stamped → Stamped → Type 0
NotLater a b = a.stamp ≤ b.stamp

abbrev pub From : ℕ → Stamped → Type 0
From n s = n ≤ s.stamp

-- ---- lists in order that have the same of each stamp are one

no_earlier : (t : ℕ) (xs : List Stamped) (n : ℕ) → t < n → All (From n) xs → filter (has_stamp t) xs ≡ []
no_earlier t xs n low all = filter_none (has_stamp t) xs (All-weaker (From n) (λ (s : Stamped). has_stamp t s ≡ false) (λ s from. ne_eqb s.stamp t (λ e. omega arith)) xs all)

head_here : (s : Stamped) (ss : List Stamped) → filter (has_stamp s.stamp) (s ∷ ss) ≡ s ∷ filter (has_stamp s.stamp) ss
head_here s ss = let e : eqb s.stamp s.stamp ≡ true = eq-eqb s.stamp s.stamp refl in rw e refl

from_first : (s : Stamped) (ss : List Stamped) → AllPairs NotLater (s ∷ ss) → All (From s.stamp) (s ∷ ss)
from_first s ss r = All-cons (From s.stamp) s ss (omega arith) (pairs_head NotLater s ss r)

at_same : (t : ℕ) (x : Stamped) (xs ys : List Stamped) (b : Bool) → eqb x.stamp t ≡ b
    → filter (has_stamp t) (x ∷ xs) ≡ filter (has_stamp t) (x ∷ ys) → filter (has_stamp t) xs ≡ filter (has_stamp t) ys
at_same t x xs ys true e same = let kept : x ∷ filter (has_stamp t) xs ≡ x ∷ filter (has_stamp t) ys = rw e at same in cc
at_same t x xs ys false e same = rw e at same

pub same_sorted : (xs ys : List Stamped) → AllPairs NotLater xs → AllPairs NotLater ys
    → ((t : ℕ) → filter (has_stamp t) xs ≡ filter (has_stamp t) ys) → xs ≡ ys
same_sorted [] [] rx ry same = refl
same_sorted [] (y ∷ ys) rx ry same = absurd (let e : [] ≡ y ∷ filter (has_stamp y.stamp) ys = same y.stamp ∙ head_here y ys in cc)
same_sorted (x ∷ xs) [] rx ry same = absurd (let e : x ∷ filter (has_stamp x.stamp) xs ≡ [] = sym (head_here x xs) ∙ same x.stamp in cc)
same_sorted (x ∷ xs) (y ∷ ys) rx ry same = dite (ℕ_discrete y.stamp x.stamp)
    (λ equal.
    let e : x ∷ filter (has_stamp x.stamp) xs ≡ y ∷ filter (has_stamp y.stamp) ys =
    sym (head_here x xs) ∙ (same x.stamp ∙ (ap (λ t. filter (has_stamp t) (y ∷ ys)) (sym equal) ∙ head_here y ys)) in
    let first : x ≡ y = cc in
    let rest : xs ≡ ys = same_sorted xs ys (pairs_tail NotLater x xs rx) (pairs_tail NotLater y ys ry)
    (λ t. at_same t x xs ys (eqb x.stamp t) refl (same t ∙ ap (λ z. filter (has_stamp t) (z ∷ ys)) (sym first))) in
    λ i. first i ∷ rest i)
    (λ not. ⊎_elim
    (λ low. absurd (let e : [] ≡ y ∷ filter (has_stamp y.stamp) ys =
    sym (no_earlier y.stamp (x ∷ xs) x.stamp low (from_first x xs rx)) ∙ (same y.stamp ∙ head_here y ys) in cc))
    (λ high. absurd (let e : x ∷ filter (has_stamp x.stamp) xs ≡ [] =
    sym (head_here x xs) ∙ (same x.stamp ∙ no_earlier x.stamp (y ∷ ys) y.stamp (omega arith) (from_first y ys ry)) in cc))
    (cases_lt y.stamp x.stamp))

-- ---- stamps first, then agents

abbrev pub NotAfter : Stamped → Stamped → Type 0
NotAfter a b = agent_of a.entry ≤ agent_of b.entry

tail_of : (t : ℕ) (x : Stamped) (xs : List Stamped) (b : Bool) → eqb x.stamp t ≡ b
    → AllPairs NotAfter (filter (has_stamp t) (x ∷ xs)) → AllPairs NotAfter (filter (has_stamp t) xs)
tail_of t x xs true e r = let kept : AllPairs NotAfter (x ∷ filter (has_stamp t) xs) = subst (AllPairs NotAfter) (here e) r in
    pairs_tail NotAfter x (filter (has_stamp t) xs) kept
  where
    here : eqb x.stamp t ≡ true → filter (has_stamp t) (x ∷ xs) ≡ x ∷ filter (has_stamp t) xs
    here f = rw f refl
tail_of t x xs false e r = subst (AllPairs NotAfter) (gone e) r
  where
    gone : eqb x.stamp t ≡ false → filter (has_stamp t) (x ∷ xs) ≡ filter (has_stamp t) xs
    gone f = rw f refl

pub in_order : (xs : List Stamped) → AllPairs NotLater xs → ((t : ℕ) → AllPairs NotAfter (filter (has_stamp t) xs)) → AllPairs IsInOrder xs
in_order [] r ties_are = λ i j d low within. absurd (omega arith)
in_order (x ∷ xs) r ties_are = AllPairs-cons IsInOrder x xs head
    (in_order xs (pairs_tail NotLater x xs r) (λ t. tail_of t x xs (eqb x.stamp t) refl (ties_are t)))
  where
    same_agents : All (λ (s : Stamped). has_stamp x.stamp s ≡ true → NotAfter x s) xs
    same_agents = of_kept (NotAfter x) (has_stamp x.stamp) xs
        (pairs_head NotAfter x (filter (has_stamp x.stamp) xs) (subst (AllPairs NotAfter) (head_here x xs) (ties_are x.stamp)))

    head : All (IsInOrder x) xs
    head k d within = let later : x.stamp ≤ (get_or xs k d).stamp = pairs_head NotLater x xs r k d within in
        dite (ℕ_discrete (get_or xs k d).stamp x.stamp)
        (λ equal. inr (sym equal, same_agents k d within (eq-eqb (get_or xs k d).stamp x.stamp equal)))
        (λ not. inl (omega arith))
