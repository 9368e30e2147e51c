-- Readings one after another.
use Rattle.std.proofs.Common.{◌≡◌, ◌<◌, ◌⊎◌, inl, inr, ℕ, zero, suc, List, [], ◌∷◌, length, Some, Result, Ok, Err, refl, sym, ap, ◌∙◌, subst, arith}
use Rattle.std.specs.Prelude.{slice_get}
use Rattle.std.proofs.lemmas.Option.{same_Some, slice_get_within}
use Rattle.mp_files.specs.Reading.{AreRead, Each, Gives, IsRefused, Reading, Then}
use Rattle.mp_files.specs.declared.refusal.Refusal.{Refusal}
use Rattle.mp_files.proofs.Each.{item_within}

-- a reading leads to one thing alone
abbrev pub IsOne : {X : Type 0} → Reading X → Type 0
IsOne {X} reading = (v w : Result X Refusal) → reading v → reading w → v ≡ w

abbrev pub led : {X : Type 0} → X → Result X Refusal
led x = Ok x

abbrev pub refused : {X : Type 0} → Refusal → Result X Refusal
refused r = Err r

pub same_ok : {X : Type 0} → (x y : X) → led x ≡ led y → x ≡ y
same_ok x y e = cc

pub ok_err : {X : Type 0} → (x : X) (r : Refusal) → led x ≡ refused r → ⊥
ok_err x r e = absurd (cc)

pub as_err : {X : Type 0} → (v w : Result X Refusal) (r s : Refusal) → v ≡ w → v ≡ refused r → w ≡ refused s → r ≡ s
as_err v w r s e p q = cc

pub one_then : {X Y : Type 0} → (first : Reading X) (next : X → Reading Y) → IsOne first → ((x : X) → IsOne (next x)) → IsOne (Then first next)
one_then first next one ones (Ok y) (Ok z) (a, p, h) (b, q, k) =
    let same = same_ok a b (one (Ok a) (Ok b) p q) in
    ones a (Ok y) (Ok z) h (subst (λ x. next x (Ok z)) (sym same) k)
one_then first next one ones (Ok y) (Err s) (a, p, h) (inl k) = absurd (ok_err a s (one (Ok a) (Err s) p k))
one_then first next one ones (Ok y) (Err s) (a, p, h) (inr (b, q, k)) =
    let same = same_ok a b (one (Ok a) (Ok b) p q) in
    ones a (Ok y) (Err s) h (subst (λ x. next x (Err s)) (sym same) k)
one_then first next one ones (Err r) (Ok z) (inl h) (b, q, k) = absurd (ok_err b r (one (Ok b) (Err r) q h))
one_then first next one ones (Err r) (Ok z) (inr (a, p, h)) (b, q, k) =
    let same = same_ok a b (one (Ok a) (Ok b) p q) in
    ones a (Err r) (Ok z) h (subst (λ x. next x (Ok z)) (sym same) k)
one_then first next one ones (Err r) (Err s) (inl h) (inl k) = ap refused (as_err (refused r) (refused s) r s (one (Err r) (Err s) h k) refl refl)
one_then first next one ones (Err r) (Err s) (inl h) (inr (b, q, k)) = absurd (ok_err b r (one (Ok b) (Err r) q h))
one_then first next one ones (Err r) (Err s) (inr (a, p, h)) (inl k) = absurd (ok_err a s (one (Ok a) (Err s) p k))
one_then first next one ones (Err r) (Err s) (inr (a, p, h)) (inr (b, q, k)) =
    let same = same_ok a b (one (Ok a) (Ok b) p q) in
    ones a (Err r) (Err s) h (subst (λ x. next x (Err s)) (sym same) k)

pub one_given : {X : Type 0} → (x : X) → IsOne (Gives x)
one_given x (Ok y) (Ok z) h k = ap led (h ∙ sym k)
one_given x (Ok y) (Err s) h k = absurd k
one_given x (Err r) w h k = absurd h

-- the values of all items but the first
behind_first : {X Y : Type 0} (read : ℕ → X → Reading Y) (x : X) (xs : List X) (y : Y) (ys : List Y) → AreRead read (x ∷ xs) (y ∷ ys) → AreRead (λ k. read (suc k)) xs ys
behind_first read x xs y ys h = record { each = λ k a b at here. h.each (suc k) a b at here }

same_first : {Y : Type 0} → (y z : Y) (ys zs : List Y) → y ≡ z → ys ≡ zs → y ∷ ys ≡ z ∷ zs
same_first y z ys zs e f = cc

-- where each item leads to one thing alone, all lead to one list of values alone
one_list : {X Y : Type 0} (read : ℕ → X → Reading Y) → ((k : ℕ) (x : X) → IsOne (read k x)) → (xs : List X) (ys zs : List Y) → length ys ≡ length xs → length zs ≡ length xs → AreRead read xs ys → AreRead read xs zs → ys ≡ zs
one_list read one [] [] [] m n h k = refl
one_list read one [] [] (z ∷ zs) m n h k = absurd (omega (arith, n))
one_list read one [] (y ∷ ys) zs m n h k = absurd (omega (arith, m))
one_list read one (x ∷ xs) [] zs m n h k = absurd (omega (arith, m))
one_list read one (x ∷ xs) (y ∷ ys) [] m n h k = absurd (omega (arith, n))
one_list read one (x ∷ xs) (y ∷ ys) (z ∷ zs) m n h k =
    same_first y z ys zs
    (same_ok y z (one zero x (Ok y) (Ok z) (h.each zero x y refl refl) (k.each zero x z refl refl)))
    (one_list (λ i. read (suc i)) (λ i. one (suc i)) xs ys zs (omega (arith, m)) (omega (arith, n)) (behind_first read x xs y ys h) (behind_first read x xs z zs k))

module _ {X Y : Type 0} (read : ℕ → X → Reading Y) (one : (k : ℕ) (x : X) → IsOne (read k x)) (items : List X) where
  -- not all items lead to a value where one is refused
  not_refused : (values : List Y) (r : Refusal) → length values ≡ length items → AreRead read items values → IsRefused {X = X} {Y = Y} read items r → ⊥
  not_refused values r size h k =
      let less = slice_get_within items k.place k.item k.at in
      let value = item_within values k.place (omega (arith, size, less)) in
      ok_err value.0 r (one k.place k.item (Ok value.0) (Err r) (h.each k.place k.item value.0 k.at value.1) k.refused)

  not_earlier : (r s : Refusal) (h : IsRefused {X = X} {Y = Y} read items r) (k : IsRefused {X = X} {Y = Y} read items s) → h.place < k.place → ⊥
  not_earlier r s h k less =
      let value = k.earlier h.place h.item less h.at in
      ok_err value.0 r (one h.place h.item (Ok value.0) (Err r) value.1 h.refused)

  same_item : (r s : Refusal) (h : IsRefused {X = X} {Y = Y} read items r) (k : IsRefused {X = X} {Y = Y} read items s) → h.place ≡ k.place → r ≡ s
  same_item r s h k e =
      let there : slice_get items h.place ≡ Some k.item = subst (λ i. slice_get items i ≡ Some k.item) (sym e) k.at in
      let same : h.item ≡ k.item = same_Some h.item k.item (sym h.at ∙ there) in
      let also : read h.place h.item (Err s) = subst (λ x. read h.place x (Err s)) (sym same) (subst (λ i. read i k.item (Err s)) (sym e) k.refused) in
      as_err {X = Y} (Err r) (Err s) r s (one h.place h.item (Err r) (Err s) h.refused also) refl refl

  in_order : (m n : ℕ) → (m < n) ⊎ ((n < m) ⊎ (m ≡ n))
  in_order zero zero = inr (inr refl)
  in_order zero (suc n) = inl (omega arith)
  in_order (suc m) zero = inr (inl (omega arith))
  in_order (suc m) (suc n) =
      elim (in_order m n) [
        | inl l ↦ inl (omega (arith, l))
        | inr w ↦ elim w [
          | inl l ↦ inr (inl (omega (arith, l)))
          | inr e ↦ inr (inr (ap suc e))
        ]
      ]

  one_refused : (r s : Refusal) (h : IsRefused {X = X} {Y = Y} read items r) (k : IsRefused {X = X} {Y = Y} read items s) → r ≡ s
  one_refused r s h k =
      elim (in_order h.place k.place) [
        | inl l ↦ absurd (not_earlier r s h k l)
        | inr w ↦ elim w [
          | inl l ↦ absurd (not_earlier s r k h l)
          | inr e ↦ same_item r s h k e
        ]
      ]

  -- where each item leads to one thing alone, so do all
  pub one_each : IsOne (Each {X = X} {Y = Y} read items)
  one_each (Ok ys) (Ok zs) h k = ap led (one_list read one items ys zs h.0 k.0 h.1 k.1)
  one_each (Ok ys) (Err s) h k = absurd (not_refused ys s h.0 h.1 k)
  one_each (Err r) (Ok zs) h k = absurd (not_refused zs r k.0 k.1 h)
  one_each (Err r) (Err s) h k = ap refused (one_refused r s h k)
