-- Lists of entries whose entries are replaced one by one: what a test finds, and which is the first.
use Rattle.std.proofs.Common.{◌≡◌, ℕ, zero, suc, ◌+◌, ◌<◌, Bool, true, false, cond, ◌||◌, List, [], ◌∷◌, ◌++◌, length, map, filter, Option, Some, None, All, refl, ap, ◌∙◌, arith}
use Rattle.std.specs.Prelude.{filter_map, slice_get, option_map}
use Rattle.std.specs.List.{list_any, enumerate_from, cons_option}
use Rattle.std.proofs.lemmas.List.Elements.{All-head, All-tail, filter-append}
use Rattle.mp_list.specs.First.{earlier, leftmost}
use Rattle.mp_store.specs.declared.entry.Entry.{Entry}
use Rattle.mp_store.specs.Minima.{Numbered, those}

-- the first of replaced items is what replaces the first
pub leftmost-map : {X Y : Type 0} (φ : X → Y) (before : X → X → Bool) (before' : Y → Y → Bool) → ((a b : X) → before' (φ a) (φ b) ≡ before a b)
    → (known : Option X) (xs : List X) → leftmost before' (option_map φ known) (map φ xs) ≡ option_map φ (leftmost before known xs)
leftmost-map φ before before' alike known [] = refl
leftmost-map {X} {Y} φ before before' alike None (x ∷ xs) = leftmost-map φ before before' alike (Some x) xs
leftmost-map {X} {Y} φ before before' alike (Some k) (x ∷ xs) =
    ap (λ (y : Y). leftmost before' (Some y) (map φ xs)) (by (before x k) refl)
    ∙ leftmost-map φ before before' alike (Some (earlier before (Some k) x)) xs
  where
    chosen : (b : Bool) → cond b (φ x) (φ k) ≡ φ (cond b x k)
    chosen true = refl
    chosen false = refl

    by : (b : Bool) → before x k ≡ b → earlier before' (Some (φ k)) (φ x) ≡ φ (earlier before (Some k) x)
    by b e = ap (λ (t : Bool). cond t (φ x) (φ k)) (alike x k) ∙ chosen (before x k)

module _ {A B : Type 0} (φ : A → B) (R : A → Type 0) where
  -- a test that does not tell replaced items from the old ones
  pub any-map : (p : A → Bool) (q : B → Bool) → ((x : A) → R x → q (φ x) ≡ p x) → (xs : List A) → All R xs → list_any q (map φ xs) ≡ list_any p xs
  any-map p q alike [] all = refl
  any-map p q alike (x ∷ xs) all =
      λ j. alike x (All-head R x xs all) j || any-map p q alike xs (All-tail R x xs all) j

  -- replaced one way or another
  pub map-agree : (ψ : A → B) → ((x : A) → R x → φ x ≡ ψ x) → (xs : List A) → All R xs → map φ xs ≡ map ψ xs
  map-agree ψ alike [] all = refl
  map-agree ψ alike (x ∷ xs) all = λ j. alike x (All-head R x xs all) j ∷ map-agree ψ alike xs (All-tail R x xs all) j

pub map-map : {A B C : Type 0} (ψ : B → C) (φ : A → B) (xs : List A) → map ψ (map φ xs) ≡ map (λ x. ψ (φ x)) xs
map-map ψ φ [] = refl
map-map ψ φ (x ∷ xs) = ap (λ ys. ψ (φ x) ∷ ys) (map-map ψ φ xs)

-- the entries of some numbers
pub sent-map : {A B : Type 0} (φ : A → B) (xs : List A) (ns : List ℕ) → filter_map (slice_get (map φ xs)) ns ≡ map φ (filter_map (slice_get xs) ns)
sent-map φ xs [] = refl
sent-map {A} {B} φ xs (n ∷ ns) =
    (λ j. cons_option (got xs n j) (sent-map φ xs ns j)) ∙ by (slice_get xs n)
  where
    got : (xs : List A) (n : ℕ) → slice_get (map φ xs) n ≡ option_map φ (slice_get xs n)
    got [] n = refl
    got (x ∷ xs) zero = refl
    got (x ∷ xs) (suc n) = got xs n

    by : (o : Option A) → cons_option (option_map φ o) (map φ (filter_map (slice_get xs) ns)) ≡ map φ (cons_option o (filter_map (slice_get xs) ns))
    by None = refl
    by (Some x) = refl

got-append : {A : Type 0} (xs ys : List A) (n : ℕ) → n < length xs → slice_get (xs ++ ys) n ≡ slice_get xs n
got-append [] ys n inside = absurd (omega arith)
got-append (x ∷ xs) ys zero inside = refl
got-append (x ∷ xs) ys (suc n) inside = got-append xs ys n (omega arith)

-- more entries behind change none of them
pub sent-append : {A : Type 0} (xs ys : List A) (ns : List ℕ) → All (λ n. n < length xs) ns → filter_map (slice_get (xs ++ ys)) ns ≡ filter_map (slice_get xs) ns
sent-append xs ys [] below = refl
sent-append {A} xs ys (n ∷ ns) below =
    λ j. cons_option (got-append xs ys n (All-head (λ m. m < length xs) n ns below) j) (sent-append xs ys ns (All-tail (λ m. m < length xs) n ns below) j)

-- ---- entries with their numbers

module _ {A B : Type 0} (φ : Entry A → Entry B) where
  abbrev pub renumbered : Numbered A → Numbered B
  renumbered x = (x.0, φ x.1)

  filter-map : (R : Entry A → Type 0) (p : Entry A → Bool) (q : Entry B → Bool) → ((e : Entry A) → R e → q (φ e) ≡ p e) → (n : ℕ) (es : List (Entry A)) → All R es
      → filter (λ x. q x.1) (enumerate_from n (map φ es)) ≡ map renumbered (filter (λ x. p x.1) (enumerate_from n es))
  filter-map R p q alike n [] all = refl
  filter-map R p q alike n (e ∷ es) all =
      let rest = filter-map R p q alike (n + 1) es (All-tail R e es all) in
      (λ j. cond (alike e (All-head R e es all) j) ((n, φ e) ∷ rest j) (rest j))
      ∙ by (p e) (n, e) (filter (λ x. p x.1) (enumerate_from (n + 1) es))
    where
      by : (b : Bool) (x : Numbered A) (xs : List (Numbered A)) → cond b (renumbered x ∷ map renumbered xs) (map renumbered xs) ≡ map renumbered (cond b (x ∷ xs) xs)
      by true x xs = refl
      by false x xs = refl

  pub those-map : (R : Entry A → Type 0) (p : Entry A → Bool) (q : Entry B → Bool) → ((e : Entry A) → R e → q (φ e) ≡ p e) → (es : List (Entry A)) → All R es
      → those q (map φ es) ≡ map renumbered (those p es)
  those-map R p q alike es all = filter-map R p q alike 0 es all

-- one entry more
enumerate-append : {X : Type 0} (n : ℕ) (xs ys : List X) → enumerate_from n (xs ++ ys) ≡ enumerate_from n xs ++ enumerate_from (n + length xs) ys
enumerate-append {X} n [] ys = ap (λ m. enumerate_from m ys) (let e : n ≡ n + 0 = omega arith in e)
enumerate-append {X} n (x ∷ xs) ys =
    ap (λ zs. (n, x) ∷ zs)
    (enumerate-append (n + 1) xs ys ∙ ap (λ m. enumerate_from (n + 1) xs ++ enumerate_from m ys) (let e : n + 1 + length xs ≡ n + suc (length xs) = omega arith in e))

pub those-push : {K : Type 0} (p : Entry K → Bool) (es : List (Entry K)) (e : Entry K) → those p (es ++ e ∷ []) ≡ those p es ++ cond (p e) ((length es, e) ∷ []) []
those-push {K} p es e =
    ap (filter (λ (x : Numbered K). p x.1)) (enumerate-append 0 es (e ∷ []))
    ∙ filter-append (λ (x : Numbered K). p x.1) (enumerate_from 0 es) ((0 + length es, e) ∷ [])
    ∙ ap (λ (m : ℕ). those p es ++ cond (p e) ((m, e) ∷ []) []) (let same : 0 + length es ≡ length es = omega arith in same)
