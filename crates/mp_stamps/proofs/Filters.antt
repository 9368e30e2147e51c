-- Lists of any kind: filters, pairs, splits.
use Rattle.std.proofs.Common.{◌≡◌, ℕ, zero, suc, ◌+◌, ◌-◌, ◌<◌, ◌≤◌, Bool, true, false, List, [], ◌∷◌, ◌++◌, map, length, get_or, take, refl, sym, ap, ◌∙◌, arith}
use Rattle.std.specs.Prelude.{All, slice_set}
use Rattle.std.specs.List.{AllPairs, filter}
use Rattle.std.proofs.lemmas.List.{get_or-append_right, length-map, length-take-le, map-append, set-append_right, take_more}
use Rattle.std.proofs.lemmas.List.Elements.{All-append, All-cons, All-head, All-nil, All-tail}
use Rattle.std.proofs.lemmas.List.Kept.{AllPairs-cons}

module _ {X : Type 0} where
  both_filters : (p q : X → Bool) (x : X) (a b : Bool) → p x ≡ a → q x ≡ b → (xs : List X) → filter p (filter q xs) ≡ filter q (filter p xs)
      → filter p (filter q (x ∷ xs)) ≡ filter q (filter p (x ∷ xs))
  both_filters p q x true true e f xs rest = rw (f, e) (rw f (ap (λ l. x ∷ l) rest))
  both_filters p q x true false e f xs rest = rw (f, e) (rw f rest)
  both_filters p q x false true e f xs rest = rw (f, e) rest
  both_filters p q x false false e f xs rest = rw (f, e) rest

  -- two filters, one after the other, in either order
  pub filter_comm : (p q : X → Bool) (xs : List X) → filter p (filter q xs) ≡ filter q (filter p xs)
  filter_comm p q [] = refl
  filter_comm p q (x ∷ xs) = both_filters p q x (p x) (q x) refl refl xs (filter_comm p q xs)

  one_all : (p : X → Bool) (x : X) (xs : List X) → p x ≡ true → filter p xs ≡ xs → filter p (x ∷ xs) ≡ x ∷ xs
  one_all p x xs e rest = rw e (ap (λ l. x ∷ l) rest)

  pub filter_all : (p : X → Bool) (xs : List X) → All (λ x. p x ≡ true) xs → filter p xs ≡ xs
  filter_all p [] all = refl
  filter_all p (x ∷ xs) all = one_all p x xs (All-head (λ y. p y ≡ true) x xs all) (filter_all p xs (All-tail (λ y. p y ≡ true) x xs all))

  one_none : (p : X → Bool) (x : X) (xs : List X) → p x ≡ false → filter p xs ≡ [] → filter p (x ∷ xs) ≡ []
  one_none p x xs e rest = rw e rest

  pub filter_none : (p : X → Bool) (xs : List X) → All (λ x. p x ≡ false) xs → filter p xs ≡ []
  filter_none p [] all = refl
  filter_none p (x ∷ xs) all = one_none p x xs (All-head (λ y. p y ≡ false) x xs all) (filter_none p xs (All-tail (λ y. p y ≡ false) x xs all))

  one_kept : (P : X → Type 0) (p : X → Bool) (x : X) (xs : List X) (b : Bool) → p x ≡ b → All P (filter p (x ∷ xs)) → (p x ≡ true → P x) × All P (filter p xs)
  one_kept P p x xs true e all = let kept : All P (x ∷ filter p xs) = rw e at all in
      ((λ is. All-head P x (filter p xs) kept), All-tail P x (filter p xs) kept)
  one_kept P p x xs false e all = let kept : All P (filter p xs) = rw e at all in ((λ is. absurd (cc (e, is))), kept)

  -- what holds of what passes
  pub of_kept : (P : X → Type 0) (p : X → Bool) (xs : List X) → All P (filter p xs) → All (λ x. p x ≡ true → P x) xs
  of_kept P p [] all = All-nil (λ x. p x ≡ true → P x)
  of_kept P p (x ∷ xs) all = let one = one_kept P p x xs (p x) refl all in
      All-cons (λ y. p y ≡ true → P y) x xs one.0 (of_kept P p xs one.1)

  -- the two parts of a list of which something holds everywhere
  pub all_front : (P : X → Type 0) (xs ys : List X) → All P (xs ++ ys) → All P xs
  all_front P [] ys all = All-nil P
  all_front P (x ∷ xs) ys all = All-cons P x xs (All-head P x (xs ++ ys) all) (all_front P xs ys (All-tail P x (xs ++ ys) all))

  pub all_back : (P : X → Type 0) (xs ys : List X) → All P (xs ++ ys) → All P ys
  all_back P [] ys all = all
  all_back P (x ∷ xs) ys all = all_back P xs ys (All-tail P x (xs ++ ys) all)

  -- the item behind some others
  pub at_seam : (xs : List X) (y : X) (ys : List X) (n : ℕ) (d : X) → length xs ≡ n → get_or (xs ++ y ∷ ys) n d ≡ y
  at_seam xs y ys n d e = get_or-append_right xs (y ∷ ys) n n d e (omega arith) ∙ ap (λ (k : ℕ). get_or (y ∷ ys) k d) (none_left n)
    where
      none_left : (a : ℕ) → a - a ≡ 0
      none_left a = omega arith

  pub set_seam : (xs : List X) (y : X) (ys : List X) (n : ℕ) (z : X) → length xs ≡ n → slice_set (xs ++ y ∷ ys) n z ≡ xs ++ z ∷ ys
  set_seam xs y ys n z e = set-append_right xs (y ∷ ys) n n z e (omega arith) ∙ ap (λ (k : ℕ). xs ++ slice_set (y ∷ ys) k z) (none_left n)
    where
      none_left : (a : ℕ) → a - a ≡ 0
      none_left a = omega arith

  pub pairs_nil : (R : X → X → Type 0) → AllPairs R []
  pairs_nil R i j d low within = absurd (omega arith)

  pub pairs_head : (R : X → X → Type 0) (x : X) (xs : List X) → AllPairs R (x ∷ xs) → All (R x) xs
  pairs_head R x xs r k d within = r zero (suc k) d (omega arith) (omega arith)

  pub pairs_tail : (R : X → X → Type 0) (x : X) (xs : List X) → AllPairs R (x ∷ xs) → AllPairs R xs
  pairs_tail R x xs r i j d low within = r (suc i) (suc j) d (omega arith) (omega arith)

  pub pairs_front : (R : X → X → Type 0) (xs ys : List X) → AllPairs R (xs ++ ys) → AllPairs R xs
  pairs_front R [] ys r = pairs_nil R
  pairs_front R (x ∷ xs) ys r = AllPairs-cons R x xs (all_front (R x) xs ys (pairs_head R x (xs ++ ys) r)) (pairs_front R xs ys (pairs_tail R x (xs ++ ys) r))

  -- pairs of two lists in a row
  pub pairs_append : (R : X → X → Type 0) (xs ys : List X) → AllPairs R xs → AllPairs R ys → All (λ x. All (R x) ys) xs → AllPairs R (xs ++ ys)
  pairs_append R [] ys first second across = second
  pairs_append R (x ∷ xs) ys first second across = AllPairs-cons R x (xs ++ ys)
      (All-append (R x) xs ys (pairs_head R x xs first) (All-head (λ y. All (R y) ys) x xs across))
      (pairs_append R xs ys (pairs_tail R x xs first) second (All-tail (λ y. All (R y) ys) x xs across))

  -- what comes behind an item
  pub pairs_behind : (R : X → X → Type 0) (xs : List X) (x : X) (ys : List X) → AllPairs R (xs ++ x ∷ ys) → All (R x) ys
  pairs_behind R [] x ys r = pairs_head R x ys r
  pairs_behind R (z ∷ zs) x ys r = pairs_behind R zs x ys (pairs_tail R z (zs ++ x ∷ ys) r)

module _ {X Y : Type 0} (f : X → Y) where
  pub at_map : (xs : List X) (i : ℕ) (d : Y) (e : X) → i < length xs → get_or (map f xs) i d ≡ f (get_or xs i e)
  at_map [] i d e low = absurd (omega arith)
  at_map (x ∷ xs) zero d e low = refl
  at_map (x ∷ xs) (suc i) d e low = at_map xs i d e (omega arith)

  pub map_more : (xs : List X) (i : ℕ) (d : X) → i < length xs → map f (take (i + 1) xs) ≡ map f (take i xs) ++ f (get_or xs i d) ∷ []
  map_more xs i d low = ap (map f) (take_more xs i d low) ∙ map-append f (take i xs) (get_or xs i d ∷ [])

  pub length_map_take : (xs : List X) (i : ℕ) → i ≤ length xs → length (map f (take i xs)) ≡ i
  length_map_take xs i low = length-map (take i xs) f ∙ length-take-le i xs low

  one_mapped : (p : Y → Bool) (x : X) (xs : List X) (b : Bool) → p (f x) ≡ b → filter p (map f xs) ≡ map f (filter (λ y. p (f y)) xs)
      → filter p (map f (x ∷ xs)) ≡ map f (filter (λ y. p (f y)) (x ∷ xs))
  one_mapped p x xs true e rest = rw e (ap (λ l. f x ∷ l) rest)
  one_mapped p x xs false e rest = rw e rest

  pub filter_mapped : (p : Y → Bool) (xs : List X) → filter p (map f xs) ≡ map f (filter (λ y. p (f y)) xs)
  filter_mapped p [] = refl
  filter_mapped p (x ∷ xs) = one_mapped p x xs (p (f x)) refl (filter_mapped p xs)

  -- a mapped list that is split
  pub record IsSplit (xs : List X) (front back : List Y) (y : Y) : Type 0 where
    pub before : List X
    pub item : X
    pub after : List X
    pub is : xs ≡ before ++ item ∷ after
    pub front_is : front ≡ map f before
    pub item_is : y ≡ f item

  pub split_map : (xs : List X) (front back : List Y) (y : Y) → map f xs ≡ front ++ y ∷ back → IsSplit xs front back y
  split_map [] [] back y e = absurd cc
  split_map [] (z ∷ zs) back y e = absurd cc
  split_map (x ∷ xs) [] back y e =
      let same : f x ≡ y = cc in record { before = []; item = x; after = xs; is = refl; front_is = refl; item_is = sym same }
  split_map (x ∷ xs) (z ∷ zs) back y e =
      let first : f x ≡ z = cc in
      let others : map f xs ≡ zs ++ y ∷ back = cc in
      let rest = split_map xs zs back y others in
      record {
        before = x ∷ rest.before;
        item = rest.item;
        after = rest.after;
        is = ap (λ l. x ∷ l) rest.is;
        front_is = λ i. sym first i ∷ rest.front_is i;
        item_is = rest.item_is;
      }
