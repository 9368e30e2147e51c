-- Members of ranges, of filtered and of joined lists, and the items of a list by their places.
use Rattle.std.proofs.Common.{◌≡◌, ℕ, zero, suc, ◌+◌, ◌<◌, ◌≤◌, Bool, true, false, cond, List, [], ◌∷◌, ◌++◌, map, length, Some, refl, sym, ap, subst, ◌∙◌, arith, inl, inr, Contains}
use Rattle.std.specs.List.{range_with_len, flat_map, find, filter, slice_get}
use Rattle.std.proofs.lemmas.Bool.{cases_eq, false≢true}
use Rattle.std.proofs.lemmas.List.Elements.{Contains-append_cases, Contains-append_left, Contains-append_right}
use Rattle.std.proofs.lemmas.Option.{none-some, same_Some}
use Rattle.mp_list.proofs.Members.{contains_head, contains_tail, contains_cases, no_member}

-- ---- ranges

pub in_range : (a n t : ℕ) → Contains (range_with_len a n) t → (a ≤ t) × (t < a + n)
in_range a zero t c = absurd (no_member t c)
in_range a (suc n) t c =
    elim (contains_cases a (range_with_len (a + 1) n) t c) [
      | inl here ↦ (omega (arith, here), omega (arith, here))
      | inr there ↦
          let r = in_range (a + 1) n t there in
          let low = r.0 in
          let high = r.1 in
          (omega (arith, low), omega (arith, high))
    ]

pub range_has : (a n t : ℕ) → a ≤ t → t < a + n → Contains (range_with_len a n) t
range_has a zero t low high = absurd (omega (arith, low, high))
range_has a (suc n) t low high =
    elim (cases_eq t a) [
      | inl same ↦ subst (Contains (a ∷ range_with_len (a + 1) n)) (sym same) (contains_head a (range_with_len (a + 1) n))
      | inr other ↦
          contains_tail a (range_with_len (a + 1) n) t
          (range_has (a + 1) n t (omega (arith, low, other)) (omega (arith, high)))
    ]

-- ---- filtered lists

module _ {X : Type 0} (p : X → Bool) where
  pub in_filter : (xs : List X) (x : X) → Contains (filter p xs) x → Contains xs x × (p x ≡ true)
  in_filter [] x c = absurd (no_member x c)
  in_filter (y ∷ ys) x c = by (p y) refl c (in_filter ys x)
    where
      by : (b : Bool) → p y ≡ b → Contains (cond b (y ∷ filter p ys) (filter p ys)) x → (Contains (filter p ys) x → Contains ys x × (p x ≡ true)) → Contains (y ∷ ys) x × (p x ≡ true)
      by true is c rest =
          elim (contains_cases y (filter p ys) x c) [
            | inl here ↦ (subst (Contains (y ∷ ys)) here (contains_head y ys), sym (ap p here) ∙ is)
            | inr there ↦ let r = rest there in (contains_tail y ys x r.0, r.1)
          ]
      by false is c rest = let r = rest c in (contains_tail y ys x r.0, r.1)

  pub filter_has : (xs : List X) (x : X) → Contains xs x → p x ≡ true → Contains (filter p xs) x
  filter_has [] x c h = absurd (no_member x c)
  filter_has (y ∷ ys) x c h =
      elim (contains_cases y ys x c) [
        | inl here ↦
            subst (λ b. Contains (cond b (y ∷ filter p ys) (filter p ys)) x) (sym (ap p here ∙ h))
            (subst (Contains (y ∷ filter p ys)) here (contains_head y (filter p ys)))
        | inr there ↦ more (p y) (filter_has ys x there h)
      ]
    where
      more : (b : Bool) → Contains (filter p ys) x → Contains (cond b (y ∷ filter p ys) (filter p ys)) x
      more true found = contains_tail y (filter p ys) x found
      more false found = found

  pub filter_none : (xs : List X) → ((x : X) → Contains xs x → p x ≡ false) → filter p xs ≡ []
  filter_none [] all = refl
  filter_none (y ∷ ys) all =
      ap (λ b. cond b (y ∷ filter p ys) (filter p ys)) (all y (contains_head y ys))
      ∙ filter_none ys (λ x c. all x (contains_tail y ys x c))

  pub filter_whole : (xs : List X) → ((x : X) → Contains xs x → p x ≡ true) → filter p xs ≡ xs
  filter_whole [] all = refl
  filter_whole (y ∷ ys) all =
      ap (λ b. cond b (y ∷ filter p ys) (filter p ys)) (all y (contains_head y ys))
      ∙ ap (λ zs. y ∷ zs) (filter_whole ys (λ x c. all x (contains_tail y ys x c)))

  -- ---- the first that passes

  pub found : (xs : List X) (x : X) → find p xs ≡ Some x → Contains xs x × (p x ≡ true)
  found [] x e = absurd (none-some x e)
  found (y ∷ ys) x e = by (p y) refl e (found ys x)
    where
      by : (b : Bool) → p y ≡ b → cond b (Some y) (find p ys) ≡ Some x → (find p ys ≡ Some x → Contains ys x × (p x ≡ true)) → Contains (y ∷ ys) x × (p x ≡ true)
      by true is e rest = let same = same_Some y x e in (subst (Contains (y ∷ ys)) same (contains_head y ys), sym (ap p same) ∙ is)
      by false is e rest = let r = rest e in (contains_tail y ys x r.0, r.1)

  pub finds : (xs : List X) (x : X) → Contains xs x → p x ≡ true → (y : X) × (find p xs ≡ Some y)
  finds [] x c h = absurd (no_member x c)
  finds (y ∷ ys) x c h = by (p y) refl (λ there. finds ys x there h)
    where
      by : (b : Bool) → p y ≡ b → (Contains ys x → (z : X) × (find p ys ≡ Some z)) → (z : X) × (cond b (Some y) (find p ys) ≡ Some z)
      by true is rest = (y, refl)
      by false is rest =
          elim (contains_cases y ys x c) [
            | inl here ↦ absurd (false≢true (sym is ∙ ap p here ∙ h))
            | inr there ↦ rest there
          ]

-- ---- items by their places

module _ {X : Type 0} where
  pub item_in : (xs : List X) (k : ℕ) (x : X) → slice_get xs k ≡ Some x → Contains xs x
  item_in [] k x e = absurd (none-some x e)
  item_in (y ∷ ys) zero x e = subst (Contains (y ∷ ys)) (same_Some y x e) (contains_head y ys)
  item_in (y ∷ ys) (suc k) x e = contains_tail y ys x (item_in ys k x e)

  pub item_there : (xs : List X) (k : ℕ) → k < length xs → (x : X) × (slice_get xs k ≡ Some x)
  item_there [] k lt = absurd (omega (arith, lt))
  item_there (y ∷ ys) zero lt = (y, refl)
  item_there (y ∷ ys) (suc k) lt = item_there ys k (omega (arith, lt))

  pub item_left : (xs ys : List X) (k : ℕ) → k < length xs → slice_get (xs ++ ys) k ≡ slice_get xs k
  item_left [] ys k lt = absurd (omega (arith, lt))
  item_left (x ∷ xs) ys zero lt = refl
  item_left (x ∷ xs) ys (suc k) lt = item_left xs ys k (omega (arith, lt))

  pub item_end : (xs : List X) (y : X) (k : ℕ) → length xs ≡ k → slice_get (xs ++ y ∷ []) k ≡ Some y
  item_end [] y zero e = refl
  item_end [] y (suc k) e = absurd (omega (arith, e))
  item_end (x ∷ xs) y zero e = absurd (omega (arith, e))
  item_end (x ∷ xs) y (suc k) e = item_end xs y k (omega (arith, e))

  -- a member of lists that are joined is one of a list among them
  pub record IsInOne (lists : List (List X)) (x : X) : Type 0 where
    pub place : ℕ
    pub list : List X
    pub at : slice_get lists place ≡ Some list
    pub has : Contains list x

  pub in_joined : (lists : List (List X)) (x : X) → Contains (flat_map (λ l. l) lists) x → IsInOne lists x
  in_joined [] x c = absurd (no_member x c)
  in_joined (l ∷ ls) x c =
      elim (Contains-append_cases l (flat_map (λ l. l) ls) x c) [
        | inl first ↦ record { place = 0; list = l; at = refl; has = first }
        | inr later ↦ let r = in_joined ls x later in record { place = suc r.place; list = r.list; at = r.at; has = r.has }
      ]

  pub joined_has : (lists : List (List X)) (k : ℕ) (l : List X) (x : X) → slice_get lists k ≡ Some l → Contains l x → Contains (flat_map (λ l. l) lists) x
  joined_has [] k l x e c = absurd (none-some l e)
  joined_has (m ∷ ms) zero l x e c =
      Contains-append_left m (flat_map (λ l. l) ms) x (subst (λ ys. Contains ys x) (sym (same_Some m l e)) c)
  joined_has (m ∷ ms) (suc k) l x e c = Contains-append_right m (flat_map (λ l. l) ms) x (joined_has ms k l x e c)

-- what a function gives of the numbers from a on, by its place
pub made_at : {X : Type 0} (f : ℕ → X) (a n k : ℕ) (x : X) → slice_get (map f (range_with_len a n)) k ≡ Some x → (k < n) × (x ≡ f (a + k))
made_at f a zero k x e = absurd (none-some x e)
made_at f a (suc n) zero x e = (omega arith, sym (same_Some (f a) x e) ∙ ap f (omega arith))
made_at f a (suc n) (suc k) x e =
    let r = made_at f (a + 1) n k x e in
    let lt = r.0 in
    (omega (arith, lt), r.1 ∙ ap f (omega arith))

pub makes_at : {X : Type 0} (f : ℕ → X) (a n k : ℕ) → k < n → slice_get (map f (range_with_len a n)) k ≡ Some (f (a + k))
makes_at f a zero k lt = absurd (omega (arith, lt))
makes_at f a (suc n) zero lt = ap (λ m. Some (f m)) (omega arith)
makes_at f a (suc n) (suc k) lt = makes_at f (a + 1) n k (omega (arith, lt)) ∙ ap (λ m. Some (f m)) (omega arith)
