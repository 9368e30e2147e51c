-- Readings of items, one after another: one value more, and a refusal.
use Rattle.std.proofs.Common.{◌≡◌, ◌<◌, ◌⊎◌, ⊎_elim, inl, inr, ℕ, zero, suc, arith, List, [], ◌∷◌, ◌++◌, drop, length, length-append, map, option_map, Some, Result, Ok, Err, IfErr, IsErrAnd, refl, sym, subst, ap, ◌∙◌}
use Rattle.std.specs.Prelude.{slice_get}
use Rattle.std.proofs.lemmas.List.{length-map, map-append}
use Rattle.std.proofs.lemmas.Option.{none-some, same_Some, slice_get-map}
use Rattle.mp_files.specs.Reading.{AreRead, Each, IsRefused, Reading, Refuses}
use Rattle.mp_files.specs.declared.refusal.Refusal.{Refusal}
use Rattle.mp_files.specs.declared.refusal.Refusal.TheVariants as why

-- what stands in a list with one item more stands before it or is that item
pub one_more : {X : Type 0} (xs : List X) (y : X) (k : ℕ) (x : X) → slice_get (xs ++ y ∷ []) k ≡ Some x → (slice_get xs k ≡ Some x) ⊎ ((k ≡ length xs) × (y ≡ x))
one_more [] y zero x h = inr (refl, same_Some y x h)
one_more [] y (suc k) x h = absurd (none-some x h)
one_more (z ∷ xs) y zero x h = inl h
one_more (z ∷ xs) y (suc k) x h = ⊎_elim inl (λ p. inr (ap suc p.0, p.1)) (one_more xs y k x h)

-- an item within a list
pub item_within : {X : Type 0} (xs : List X) (k : ℕ) → k < length xs → (x : X) × (slice_get xs k ≡ Some x)
item_within [] k l = absurd (omega arith)
item_within (x ∷ xs) zero l = (x, refl)
item_within (x ∷ xs) (suc k) l = item_within xs k (omega arith)

-- an item under a map
pub mapped : {X Y : Type 0} (f : X → Y) (xs : List X) (k : ℕ) (x : X) → slice_get xs k ≡ Some x → slice_get (map f xs) k ≡ Some (f x)
mapped f xs k x e = slice_get-map f xs k ∙ ap (option_map f) e

-- what stands under a map is that of an item
pub unmapped : {X Y : Type 0} (f : X → Y) (xs : List X) (k : ℕ) (y : Y) → slice_get (map f xs) k ≡ Some y → (x : X) × (slice_get xs k ≡ Some x) × (f x ≡ y)
unmapped f [] k y e = absurd (none-some y e)
unmapped f (x ∷ xs) zero y e = (x, refl, same_Some (f x) y e)
unmapped f (x ∷ xs) (suc k) y e = unmapped f xs k y e

-- of items that are left behind the first n, the first one and the others
pub item_left : {X : Type 0} (xs : List X) (n : ℕ) (x : X) (others : List X) → x ∷ others ≡ drop n xs → slice_get xs n ≡ Some x
item_left [] zero x others e = absurd (cc)
item_left [] (suc n) x others e = absurd (cc)
item_left (y ∷ xs) zero x others e = let same : x ≡ y = cc in ap Some (sym same)
item_left (y ∷ xs) (suc n) x others e = item_left xs n x others e

pub others_left : {X : Type 0} (xs : List X) (n : ℕ) (x : X) (others : List X) → x ∷ others ≡ drop n xs → others ≡ drop (suc n) xs
others_left [] zero x others e = absurd (cc)
others_left [] (suc n) x others e = absurd (cc)
others_left (y ∷ xs) zero x others e = let same : others ≡ xs = cc in same
others_left (y ∷ xs) (suc n) x others e = others_left xs n x others e

module _ {X Y : Type 0} (read : ℕ → X → Reading Y) (items : List X) (values : List Y) (so_far : AreRead read items values) where
  more_case : (x : X) (y : Y) → slice_get items (length values) ≡ Some x → read (length values) x (Ok y)
      → (place : ℕ) (v : X) (w : Y) → slice_get items place ≡ Some v
      → (slice_get values place ≡ Some w) ⊎ ((place ≡ length values) × (y ≡ w)) → read place v (Ok w)
  more_case x y at h place v w there (inl before) = so_far.each place v w there before
  more_case x y at h place v w there (inr (last, same)) =
      let e : x ≡ v = same_Some x v (sym at ∙ subst (λ k. slice_get items k ≡ Some v) last there) in
      subst (λ p. read p v (Ok w)) (sym last) (subst (λ z. read (length values) v (Ok z)) same (subst (λ z. read (length values) z (Ok y)) e h))

  -- one value more
  pub read_more : (x : X) (y : Y) → slice_get items (length values) ≡ Some x → read (length values) x (Ok y) → AreRead read items (values ++ y ∷ [])
  read_more x y at h = record {
    each = λ place v w there here. more_case x y at h place v w there (one_more values y place w here);
  }

  read_before : (before : ℕ) (v : X) → before < length values → slice_get items before ≡ Some v → (w : Y) × read before v (Ok w)
  read_before before v less there =
      let w = item_within values before less in
      (w.0, so_far.each before v w.0 there w.1)

  -- the next item is refused
  refused_next : (x : X) (r : Refusal) → slice_get items (length values) ≡ Some x → read (length values) x (Err r) → IsRefused {X = X} {Y = Y} read items r
  refused_next x r at h = record {
    place = length values;
    item = x;
    at = at;
    refused = h;
    earlier = read_before;
  }

  pub refused_here : (x : X) (r : Refusal) → slice_get items (length values) ≡ Some x → Refuses (read (length values) x) r → Refuses (Each read items) r
  refused_here x (why.Read f) at h = refused_next x (why.Read f) at h
  refused_here x (why.TooLarge f) at h = refused_next x (why.TooLarge f) at h
  refused_here x (why.Fault f kind place) at h = refused_next x (why.Fault f kind place) at h
  refused_here x why.OutOfMemory at h = tt

-- one value more, where the items are mapped
pub one_step : {A X Y : Type 0} (f : A → X) (read : ℕ → X → Reading Y) (items : List A) (values new : List Y) (place : ℕ) (a : A) (y : Y) → place ≡ length values → slice_get items place ≡ Some a → AreRead read (map f items) values → read place (f a) (Ok y) → new ≡ values ++ y ∷ [] → AreRead read (map f items) new
one_step f read items values new place a y size at so_far h same =
    subst (AreRead read (map f items)) (sym same)
    (read_more read (map f items) values so_far (f a) y
    (subst (λ n. slice_get (map f items) n ≡ Some (f a)) size (mapped f items place a at))
    (subst (λ n. read n (f a) (Ok y)) size h))

pub one_refusal : {A X Y : Type 0} (f : A → X) (read : ℕ → X → Reading Y) (items : List A) (values : List Y) (place : ℕ) (a : A) (r : Refusal) → place ≡ length values → slice_get items place ≡ Some a → AreRead read (map f items) values → Refuses (read place (f a)) r → Refuses (Each read (map f items)) r
one_refusal f read items values place a r size at so_far h =
    refused_here read (map f items) values so_far (f a) r
    (subst (λ n. slice_get (map f items) n ≡ Some (f a)) size (mapped f items place a at))
    (subst (λ n. Refuses (read n (f a)) r) size h)

-- a list with one item more, mapped, and its length
pub mapped_more : {X Y : Type 0} (f : X → Y) (xs new : List X) (x : X) → new ≡ xs ++ x ∷ [] → map f new ≡ map f xs ++ f x ∷ []
mapped_more f xs new x same = ap (map f) same ∙ map-append f xs (x ∷ [])

pub grown : {X : Type 0} (xs new : List X) (x : X) → new ≡ xs ++ x ∷ [] → length new ≡ suc (length xs)
grown xs new x same = let size = ap length same ∙ length-append xs (x ∷ []) in omega (arith, size)

-- a refusal that is handed on
pub handed_on : {A E : Type 0} (r : Result A E) (e : E) (P : E → Type 0) → IsErrAnd r (λ x. x ≡ e) → P e → IfErr r P
handed_on (Ok a) e P handed p = tt
handed_on (Err x) e P handed p = subst P (sym handed) p

-- ---- readings of what stands under a map

module _ {X Y Z : Type 0} (read : ℕ → Y → Reading Z) (f : X → Y) (xs : List X) (values : List Z) where
  pub each_mapped : Each (λ k x. read k (f x)) xs (Ok values) → Each read (map f xs) (Ok values)
  each_mapped (size, h) = (
    size ∙ sym (length-map xs f),
    record {
      each = λ k y z there here.
          let x = unmapped f xs k y there in
          subst (λ w. read k w (Ok z)) x.2 (h.each k x.0 z x.1 here);
    },
  )

  pub each_unmapped : Each read (map f xs) (Ok values) → Each (λ k x. read k (f x)) xs (Ok values)
  each_unmapped (size, h) = (
    size ∙ length-map xs f,
    record { each = λ k x z there here. h.each k (f x) z (mapped f xs k x there) here },
  )
