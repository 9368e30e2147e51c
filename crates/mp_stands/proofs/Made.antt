-- Lists that are made item by item, of items that there are.
use Rattle.std.proofs.Common.{arith, ◌≡◌, ℕ, zero, suc, ◌<◌, List, [], ◌∷◌, map, length, get_or, Ordering, Less, Equal, refl, sym, ap, ◌∙◌, subst, inl, inr}
use Rattle.std.specs.List.{AllByRecursion}
use Rattle.std.specs.List.Sorted.{IsStrictlySortedBy}
use Rattle.std.specs.Ordering.{is_lt}
use Rattle.std.specs.Prelude.{Contains}
use Rattle.std.proofs.lemmas.Bool.{false≢true}
use Rattle.mp_list.proofs.Members.{contains_head, contains_tail, contains_cases, no_member, to_map}
use Rattle.mp_stands.proofs.Once.{AreOnce}

pub record HasList {X : Type 0} (n : ℕ) (P : ℕ → X → Type 0) : Type 0 where
  pub list : List X
  pub long : length list ≡ n
  pub each : (k : ℕ) (d : X) → k < n → P k (get_or list k d)

each_of : {X : Type 0} (P : ℕ → X → Type 0) (n : ℕ) (x : X) (xs : List X) → P 0 x → ((k : ℕ) (d : X) → k < n → P (suc k) (get_or xs k d))
    → (k : ℕ) (d : X) → k < suc n → P k (get_or (x ∷ xs) k d)
each_of P n x xs first rest zero d less = first
each_of P n x xs first rest (suc k) d less = rest k d (omega (arith, less))

-- one item at each place
pub has_list : {X : Type 0} (n : ℕ) (P : ℕ → X → Type 0) → ((k : ℕ) → k < n → (x : X) × P k x) → HasList n P
has_list zero P each = record { list = []; long = refl; each = λ k d less. absurd (omega (arith, less)) }
has_list (suc n) P each =
    let first = each 0 (omega arith) in
    let rest = has_list n (λ k. P (suc k)) (λ k less. each (suc k) (omega (arith, less))) in
    record { list = first.0 ∷ rest.list; long = ap suc rest.long; each = each_of P n first.0 rest.list first.1 rest.each }

pub record HasSources {X Y : Type 0} (f : Y → X) (Q : Y → Type 0) (xs : List X) : Type 0 where
  pub sources : List Y
  pub are : map f sources ≡ xs
  pub each : (y : Y) → Contains sources y → Q y

-- one source for each item
pub has_sources : {X Y : Type 0} (f : Y → X) (Q : Y → Type 0) (xs : List X) → ((x : X) → Contains xs x → (y : Y) × Q y × (f y ≡ x)) → HasSources f Q xs
has_sources f Q [] each = record { sources = []; are = refl; each = λ y found. absurd (no_member y found) }
has_sources f Q (x ∷ xs) each =
    let first = each x (contains_head x xs) in
    let rest = has_sources f Q xs (λ z found. each z (contains_tail x xs z found)) in
    record {
      sources = first.0 ∷ rest.sources;
      are = λ i. first.2 i ∷ rest.are i;
      each = λ y found.
          elim (contains_cases first.0 rest.sources y found) [
            | inl here ↦ subst Q here first.1
            | inr there ↦ rest.each y there
          ];
    }

-- ---- lists that rise

abbrev pub itself : {X : Type 0} → X → X
itself x = x

apart : {X : Type 0} (order : X → X → Ordering) (x : X) (ys : List X) → AllByRecursion (λ y. order x y ≡ Less) ys → ((y : X) → order y y ≡ Equal)
    → (y : X) → Contains ys y → x ≡ y → ⊥
apart order x [] h tied y found same = no_member y found
apart order x (z ∷ zs) h tied y found same =
    elim (contains_cases z zs y found) [
      | inl here ↦
          let less : order x y ≡ Less = ap (order x) (sym here) ∙ h.0 in
          false≢true (ap is_lt (sym (tied x) ∙ ap (order x) same ∙ less))
      | inr there ↦ apart order x zs h.1 tied y there same
    ]

-- what rises has no item twice
pub rising_once : {X : Type 0} (order : X → X → Ordering) (xs : List X) → ((y : X) → order y y ≡ Equal) → IsStrictlySortedBy order xs → AreOnce itself xs
unfolding IsStrictlySortedBy
rising_once order [] tied h = tt
rising_once order (x ∷ xs) tied h = (apart order x xs h.0 tied, rising_once order xs tied h.1)

-- where what becomes of the items is different, so are they
pub once_from_map : {X Y : Type 0} (f : X → Y) (xs : List X) → AreOnce itself (map f xs) → AreOnce itself xs
once_from_map f [] h = tt
once_from_map f (x ∷ xs) h = (λ y found same. h.0 (f y) (to_map f xs y found) (ap f same), once_from_map f xs h.1)
