-- Lists of facts in a set of different ones.
use Rattle.std.proofs.Common.{◌≡◌, ℕ, zero, suc, Bool, true, false, ◌||◌, List, [], ◌∷◌, ◌++◌, length, refl, sym, ap, ◌∙◌, eqb}
use Rattle.std.specs.Prelude.{IfSome, slice_get}
use Rattle.std.specs.List.{list_any}
use Rattle.std.specs.Cmp.Lexicographic.{pointwise}
use Rattle.std.proofs.lemmas.Bool.{or_left}
use Rattle.std.proofs.lemmas.Bool.Decides.{Decides-eqb}
use Rattle.std.proofs.lemmas.Slice.Eq.{slice_eq-Decides}
use Rattle.indexmap.proofs.CallerLemmas.{Contains-list_any}
use Rattle.mp_list.proofs.Members.{any_from}

-- lists of numbers that pass the test of equality are equal
pub same_lists : (xs ys : List ℕ) → pointwise eqb xs ys ≡ true → xs ≡ ys
same_lists xs ys = (slice_eq-Decides Decides-eqb xs ys (pointwise eqb xs ys) refl).0

-- a list that is there already tells no more
pub known_list : (test : List ℕ → Bool) (lists : List (List ℕ)) (list : List ℕ) → list_any (pointwise eqb list) lists ≡ true
    → list_any test lists ≡ (list_any test lists || test list)
known_list test lists list there = by (test list) refl
  where
    by : (b : Bool) → test list ≡ b → list_any test lists ≡ (list_any test lists || test list)
    by true e =
        let any : list_any test lists ≡ true = any_from test lists list (Contains-list_any (pointwise eqb) same_lists lists list there) e in
        any ∙ sym (or_left (list_any test lists) (test list) any)
    by false e = same (list_any test lists) ∙ ap (λ (b : Bool). list_any test lists || b) (sym e)
      where
        same : (b : Bool) → b ≡ (b || false)
        same true = refl
        same false = refl

-- and what is true of each index stays so when a list grows
pub each_push : {X : Type 0} (P : ℕ → X → Type 0) (xs : List X) (x : X) → ((k : ℕ) → IfSome (slice_get xs k) (P k)) → P (length xs) x
    → (k : ℕ) → IfSome (slice_get (xs ++ x ∷ []) k) (P k)
each_push P [] x old new zero = new
each_push P [] x old new (suc k) = tt
each_push P (y ∷ ys) x old new zero = old 0
each_push P (y ∷ ys) x old new (suc k) = each_push (λ n. P (suc n)) ys x (λ m. old (suc m)) new k
