-- There are only so many states of an agent that is alone.
use Rattle.mp_world.proofs.Basics.{◌≡◌, ◌≢◌, ℕ, zero, suc, ◌+◌, ◌-◌, ◌<◌, ◌≤◌, ◌^◌, Bool, true, false, cond, ◌&&◌, eqb, List, [], ◌∷◌, length, map, refl, sym, ap, subst, ◌∙◌, arith, inl, inr, Contains, if◌then◌else◌, nat_lt, slice_index_or, cases_lt, eqb-true}
use Rattle.mp_world.proofs.Basics.{false_from_ne_true, lt-ltb, ne_eqb}
use Rattle.std.specs.FinSet as set
use Rattle.std.specs.List.{AllByRecursion, IsDistinct}
use Rattle.std.specs.Int.{bit_at}
use Rattle.std.proofs.Math.Nat.{two-pow-succ}
use Rattle.std.proofs.lemmas.Bool.{le-ltb}
use Rattle.std.proofs.lemmas.Map.Steps.{length-le_from_distinct_below}
use Rattle.std.proofs.lemmas.Nat.{pow_pos}
use Rattle.mp_list.proofs.Members.{contains_head, contains_tail, some_member, from_map}
use Rattle.mp_sets.specs.Compared.{binary_below}
use Rattle.mp_sets.proofs.ComparedLemmas.{bit_at-binary_below, one_if}
use Rattle.mp_sets.proofs.SetLemmas.{same_numbers}
use Rattle.mp_world.specs.SearchWords.{Tag, AllBelow, Numbers, AgentState, no_tag}

-- ---- numbers of which no two are equal

abbrev pub AreApart : List ℕ → Type 0
AreApart [] = Unit {0}
AreApart (x ∷ xs) = ((y : ℕ) → Contains xs y → x ≢ y) × AreApart xs

apart_distinct : (xs : List ℕ) → AreApart xs → IsDistinct eqb xs
unfolding IsDistinct
apart_distinct [] apart = tt
apart_distinct (x ∷ xs) (off, rest) = (each xs off, apart_distinct xs rest)
  where
    each : (ys : List ℕ) → ((y : ℕ) → Contains ys y → x ≢ y) → AllByRecursion (λ y. eqb x y ≡ false) ys
    each [] off = tt
    each (y ∷ ys) off = (ne_eqb x y (off y (contains_head y ys)), each ys (λ z here. off z (contains_tail y ys z here)))

pub few_apart : (xs : List ℕ) (n : ℕ) → AreApart xs → ((y : ℕ) → Contains xs y → y < n) → length xs ≤ n
few_apart xs n apart below =
    length-le_from_distinct_below xs n (apart_distinct xs apart)
    (λ q there.
    let found = some_member (eqb q) xs there in
    below q (subst (Contains xs) (sym (eqb-true q found.0 found.2)) found.1))

pub map_apart : (f : ℕ → ℕ) (xs : List ℕ) → AreApart xs → ((x y : ℕ) → Contains xs x → Contains xs y → f x ≡ f y → x ≡ y) → AreApart (map f xs)
map_apart f [] apart one = tt
map_apart f (x ∷ xs) (off, rest) one = (
  λ z here same.
      let y = from_map f xs z here in
      off y.0 y.1 (one x y.0 (contains_head x xs) (contains_tail x xs y.0 y.1) (same ∙ sym y.2)),
  map_apart f xs rest (λ a b a_here b_here. one a b (contains_tail x xs a a_here) (contains_tail x xs b b_here)),
)

-- ---- a state as a number

-- a bit for each public fact, and then one for each private one
pub is_fact : ℕ → AgentState → ℕ → Bool
is_fact publics s k = if nat_lt k publics then set.contains s.publics k else set.contains s.mine (k - publics)

pub state_number : ℕ → ℕ → AgentState → ℕ
state_number publics privates s = binary_below (publics + privates) (is_fact publics s)

below_power : (n : ℕ) (t : ℕ → Bool) → binary_below n t < 2 ^ n
unfolding binary_below
below_power zero t = omega arith
below_power (suc n) t =
    let rest = below_power n t in
    let double : 2 ^ suc n ≡ 2 ^ n + 2 ^ n = two-pow-succ n in
    elim (t n) as (λ b. cond b (2 ^ n) 0 + binary_below n t < 2 ^ suc n) [ true ↦ omega arith | false ↦ omega (arith, pow_pos n) ]

pub state_number_below : (publics privates : ℕ) (s : AgentState) → state_number publics privates s < 2 ^ (publics + privates)
unfolding state_number
state_number_below publics privates s = below_power (publics + privates) (is_fact publics s)

bits_same : (a b : Bool) → one_if a ≡ one_if b → a ≡ b
bits_same true true same = refl
bits_same false false same = refl
bits_same true false same = absurd (omega arith)
bits_same false true same = absurd (omega arith)

tests_same : (n : ℕ) (t u : ℕ → Bool) → binary_below n t ≡ binary_below n u → (k : ℕ) → k < n → t k ≡ u k
tests_same n t u same k inside =
    let low = lt-ltb k n inside in
    bits_same (t k) (u k)
    (sym (ap (λ (b : Bool). one_if (b && t k)) low) ∙ sym (bit_at-binary_below n t k) ∙ ap (λ (m : ℕ). bit_at m k) same ∙ bit_at-binary_below n u k
    ∙ ap (λ (b : Bool). one_if (b && u k)) low)

-- what is not below a size is no member
not_past : (size : ℕ) (s : Numbers) → AllBelow size s → (x : ℕ) → size ≤ x → set.contains s x ≡ false
not_past size s below x past = false_from_ne_true (set.contains s x) (λ here. let less = below x here in omega arith)

-- sets below a size that have the same members below it
same_below : (size : ℕ) (s t : Numbers) → AllBelow size s → AllBelow size t → ((x : ℕ) → x < size → set.contains s x ≡ set.contains t x) → s ≡ t
same_below size s t below_s below_t same =
    same_numbers s t
    (λ x.
    elim (cases_lt x size) [
      | inl low ↦ same x low
      | inr past ↦ not_past size s below_s x past ∙ sym (not_past size t below_t x past)
    ])

one_tag : (tags : List Tag) → length tags ≡ 1 → slice_index_or tags 0 no_tag ≡ no_tag → tags ≡ no_tag ∷ []
one_tag [] one is = absurd (omega arith)
one_tag (x ∷ []) one is = ap (λ (y : Tag). y ∷ []) is
one_tag (x ∷ y ∷ more) one is = absurd (omega arith)

-- a state of an agent that is alone
pub record IsAloneState (publics privates : ℕ) (s : AgentState) : Type 0 where
  pub publics_below : AllBelow publics s.publics
  pub mine_below : AllBelow privates s.mine
  pub one : length s.tags ≡ 1
  pub own : slice_index_or s.tags 0 no_tag ≡ no_tag

pub same_states : (publics privates : ℕ) (a b : AgentState) → IsAloneState publics privates a → IsAloneState publics privates b
    → state_number publics privates a ≡ state_number publics privates b → a ≡ b
unfolding state_number is_fact
same_states publics privates a b is_a is_b same =
    let facts = tests_same (publics + privates) (is_fact publics a) (is_fact publics b) same in
    let publics_same : a.publics ≡ b.publics =
    same_below publics a.publics b.publics is_a.publics_below is_b.publics_below
    (λ x low.
    let test = lt-ltb x publics low in
    sym (ap (λ (c : Bool). if c then set.contains a.publics x else set.contains a.mine (x - publics)) test)
    ∙ facts x (omega arith)
    ∙ ap (λ (c : Bool). if c then set.contains b.publics x else set.contains b.mine (x - publics)) test)
    in
    let mine_same : a.mine ≡ b.mine =
    same_below privates a.mine b.mine is_a.mine_below is_b.mine_below
    (λ x low.
    let k = publics + x in
    let test = le-ltb k publics (omega arith) in
    let back : k - publics ≡ x = omega arith in
    ap (set.contains a.mine) (sym back)
    ∙ sym (ap (λ (c : Bool). if c then set.contains a.publics k else set.contains a.mine (k - publics)) test)
    ∙ facts k (omega arith)
    ∙ ap (λ (c : Bool). if c then set.contains b.publics k else set.contains b.mine (k - publics)) test
    ∙ ap (set.contains b.mine) back)
    in
    let tags_same : a.tags ≡ b.tags = one_tag a.tags is_a.one is_a.own ∙ sym (one_tag b.tags is_b.one is_b.own) in
    λ j. record { publics = publics_same j; mine = mine_same j; tags = tags_same j }
