-- Sets are equal exactly where their sizes and members are, and compare equal exactly there.
use Rattle.std.proofs.Common.{◌≡◌, ℕ, zero, suc, ◌+◌, ◌-◌, ◌*◌, ◌/◌, ◌%◌, ◌^◌, ◌<◌, ◌≤◌, Bool, true, false, cond, ◌&&◌, ◌||◌, eqb, ltb, List, [], ◌∷◌, get_or, refl, sym, ap, ◌∙◌, inl, inr, subst, arith, eq-eqb, ne_eqb, eqb-true, Ordering, Less, Equal, Greater}
use Rattle.std.proofs.Math.Nat.{two-pow-succ}
use Rattle.std.proofs.lemmas.Bool.{cases_eq, cases_lt, and_parts, and_from, false≢true, lt-ltb, le-ltb}
use Rattle.std.proofs.lemmas.Bool.Decides.{nat_tests}
use Rattle.std.proofs.lemmas.Nat.{pow_pos}
use Rattle.std.proofs.lemmas.Nat.Bits.{bit_at-lt, bit_at_above, bit_at_cat_low, bit_at_cat_high, bit_at-zero, same_from_bits}
use Rattle.std.specs.Bool.{Decides}
use Rattle.std.specs.List.{list_any}
use Rattle.std.specs.Cmp.{nat_cmp_total, IsTotalOrder, on_total, then_total, unsigned_tied, tied_itself, Equal-is}
use Rattle.std.specs.Int.{bit_at}
use Rattle.std.specs.Simd.Lanes.{number_l, digits_l}
use Rattle.std.specs.Ordering.{eq_by_cmp, is_eq, nat_cmp, ordering_then}
use Rattle.std.specs.FinSet as set
use Rattle.mp_sets.specs.Numbers.{Numbers, SizedSet, same}
use Rattle.mp_sets.specs.Words.{has_bit, words_for, ArePacked}
use Rattle.mp_sets.proofs.DigitLemmas.{bit_at-number_l, digits_l-number_l}
use Rattle.mp_sets.proofs.WordLemmas.{sized, contains-packed}
use Rattle.mp_sets.specs.Compared.{past_all, binary_below, binary, sized_eq, sized_cmp}
use Rattle.mp_sets.proofs.SetLemmas.{same_numbers}

abbrev pub one_if : Bool → ℕ
one_if b = cond b 1 0

-- the bits of such a sum are what the test passes
binary_below-lt : (n : ℕ) (t : ℕ → Bool) → binary_below n t < 2 ^ n
unfolding binary_below
binary_below-lt zero t = omega arith
binary_below-lt (suc n) t =
    let rest = binary_below-lt n t in
    let double : 2 ^ suc n ≡ 2 ^ n + 2 ^ n = two-pow-succ n in
    elim (t n) as (λ b. cond b (2 ^ n) 0 + binary_below n t < 2 ^ suc n) [ true ↦ omega arith | false ↦ omega (arith, pow_pos n) ]

one_more : (n : ℕ) (b : Bool) → cond b (2 ^ n) 0 ≡ one_if b * 2 ^ n
one_more n true = omega arith
one_more n false = omega arith

bit_of_one : (b : Bool) (i : ℕ) → bit_at (one_if b) i ≡ one_if (eqb i 0 && b)
bit_of_one true zero = refl
bit_of_one true (suc i) = bit_at_above 1 (suc i) (suc i) (omega (arith, two-pow-succ i, pow_pos i)) (omega arith) ∙ sym (ap (λ b. one_if (b && true)) (ne_eqb (suc i) 0 (λ e. omega arith)))
bit_of_one false i = bit_at-zero i ∙ and_false (eqb i 0)
  where
    and_false : (b : Bool) → 0 ≡ one_if (b && false)
    and_false true = refl
    and_false false = refl

pub bit_at-binary_below : (n : ℕ) (t : ℕ → Bool) (k : ℕ) → bit_at (binary_below n t) k ≡ one_if (ltb k n && t k)
unfolding binary_below
bit_at-binary_below zero t k = bit_at-zero k ∙ none k (t k)
  where
    none : (k : ℕ) (b : Bool) → 0 ≡ one_if (ltb k 0 && b)
    none k b = grind (arith, nat_tests)
bit_at-binary_below (suc n) t k =
    ap (λ m. bit_at (m + binary_below n t) k) (one_more n (t n))
    ∙ (elim (cases_lt k n) [
      | inl low ↦ bit_at_cat_low (one_if (t n)) n (binary_below n t) k low ∙ bit_at-binary_below n t k ∙ wider k n (t k) low
      | inr high ↦ bit_at_cat_high (one_if (t n)) n (binary_below n t) k (binary_below-lt n t) high ∙ bit_of_one (t n) (k - n) ∙ last k n t high
    ])
  where
    wider : (k n : ℕ) (b : Bool) → k < n → one_if (ltb k n && b) ≡ one_if (ltb k (suc n) && b)
    wider k n b h = ap (λ c. one_if (c && b)) (lt-ltb k n h ∙ sym (lt-ltb k (suc n) (omega arith)))

    last : (k n : ℕ) (t : ℕ → Bool) → n ≤ k → one_if (eqb (k - n) 0 && t n) ≡ one_if (ltb k (suc n) && t k)
    last k n t h =
        elim (cases_eq k n) [
          | inl is ↦
              ap (λ c. one_if (c && t n)) (eq-eqb (k - n) 0 (omega arith) ∙ sym (lt-ltb k (suc n) (omega arith)))
              ∙ ap (λ m. one_if (ltb k (suc n) && t m)) (sym is)
          | inr other ↦
              ap (λ c. one_if (c && t n)) (ne_eqb (k - n) 0 (λ e. other (omega arith)))
              ∙ sym (ap (λ c. one_if (c && t k)) (le-ltb k (suc n) (omega arith)))
        ]

-- what is in a list is below its end
below_end : (xs : List ℕ) (q : ℕ) → list_any (eq_by_cmp nat_cmp q) xs ≡ true → q < past_all xs
below_end [] q here = absurd (false≢true here)
below_end (x ∷ xs) q here =
    elim (cases_eq q x) [
      | inl same ↦ omega arith
      | inr other ↦
          let later : list_any (eq_by_cmp nat_cmp q) xs ≡ true = sym (ap (λ b. b || list_any (eq_by_cmp nat_cmp q) xs) (unsigned_tied q x ∙ ne_eqb q x other)) ∙ here in
          omega (arith, below_end xs q later)
    ]

-- bit k of a set's number says whether k is a member
pub bit_at-binary : (s : Numbers) (k : ℕ) → bit_at (binary s) k ≡ one_if (set.contains s k)
unfolding binary
bit_at-binary s k =
    let n : ℕ = past_all (set.items s) in
    bit_at-binary_below n (set.contains s) k ∙ ap (λ b. one_if b) (within k n (set.contains s k) (λ here. below_end (set.items s) k (sym (set.contains-items s k) ∙ here)))
  where
    within : (k n : ℕ) (b : Bool) → (b ≡ true → k < n) → (ltb k n && b) ≡ b
    within k n b h = grind (arith, nat_tests)

one_bit : (a b : Bool) → one_if a ≡ one_if b → a ≡ b
one_bit true true e = refl
one_bit true false e = absurd (omega arith)
one_bit false true e = absurd (omega arith)
one_bit false false e = refl

pub same_binary : (s t : Numbers) → binary s ≡ binary t → s ≡ t
same_binary s t e =
    same_numbers s t (λ q. one_bit _ _ (sym (bit_at-binary s q) ∙ ap (λ n. bit_at n q) e ∙ bit_at-binary t q))

-- the number of a set that is given by its bits
pub binary_from_bits : (s : Numbers) (n : ℕ) → ((k : ℕ) → bit_at n k ≡ one_if (set.contains s k)) → n ≡ binary s
binary_from_bits s n bits = same_from_bits n (binary s) (λ k. bits k ∙ sym (bit_at-binary s k))

-- sets are equal exactly where they are one
pub sized_eq_is : (s t : SizedSet) → sized_eq s t ≡ true → s ≡ t
sized_eq_is s t both =
    let parts = and_parts (eqb s.size t.size) (eqb (binary s.members) (binary t.members)) both in
    let sizes = eqb-true s.size t.size parts.0 in
    let members = same_binary s.members t.members (eqb-true _ _ parts.1) in
    λ i. record { size = sizes i; members = members i }

sized_eq_itself : (s : SizedSet) → sized_eq s s ≡ true
sized_eq_itself s = and_from (eqb s.size s.size) (eqb (binary s.members) (binary s.members)) (eq-eqb s.size s.size refl) (eq-eqb (binary s.members) (binary s.members) refl)

pub Decides-sized_eq : (s t : SizedSet) → Decides (sized_eq s t) (s ≡ t)
Decides-sized_eq s t = (sized_eq_is s t, λ e. subst (λ u. sized_eq s u ≡ true) e (sized_eq_itself s))

-- sets tie exactly where they are one
pub Decides-sized_cmp : (s t : SizedSet) → Decides (eq_by_cmp sized_cmp s t) (s ≡ t)
Decides-sized_cmp s t =
    let total : IsTotalOrder sized_cmp = then_total (on_total (λ s. s.size) nat_cmp_total) (on_total (λ s. binary s.members) nat_cmp_total) in
    (λ e. sized_eq_is s t (sym (tie s t) ∙ e), λ e. subst (λ u. eq_by_cmp sized_cmp s u ≡ true) e ((Equal-is (sized_cmp s s)).1 (tied_itself total s)))
  where
    both : (p q : Ordering) → is_eq (ordering_then p q) ≡ (is_eq p && is_eq q)
    both Less q = refl
    both Equal q = refl
    both Greater q = refl

    tie : (s t : SizedSet) → eq_by_cmp sized_cmp s t ≡ sized_eq s t
    tie s t = both (nat_cmp s.size t.size) _ ∙ (λ i. unsigned_tied s.size t.size i && unsigned_tied (binary s.members) (binary t.members) i)

-- the digits in base 2 ^ 64 of a set's number are its words
as_bit : (w i : ℕ) → bit_at w i ≡ one_if (eqb (bit_at w i) 1)
as_bit w i =
    elim (cases_eq (bit_at w i) 1) [
      | inl one ↦ one ∙ sym (ap one_if (eq-eqb (bit_at w i) 1 one))
      | inr other ↦ let zero : bit_at w i ≡ 0 = omega (arith, bit_at-lt w i) in zero ∙ sym (ap one_if (ne_eqb (bit_at w i) 1 other))
    ]

pub number_l-packed : (n : ℕ) (words : List ℕ) → ArePacked n words → ((k : ℕ) → get_or words k 0 < 2 ^ 64) → number_l (2 ^ 64) words ≡ binary (sized n words).members
unfolding has_bit
number_l-packed n words packed fit =
    binary_from_bits (sized n words).members _ (λ q. bit_at-number_l words q fit ∙ as_bit (get_or words (q / 64) 0) (q % 64) ∙ sym (ap one_if (contains-packed n words packed q)))

pub digits_l-packed : (n : ℕ) (words : List ℕ) → ArePacked n words → ((k : ℕ) → get_or words k 0 < 2 ^ 64) → words ≡ digits_l (2 ^ 64) (words_for n) (binary (sized n words).members)
digits_l-packed n words packed fit =
    sym (digits_l-number_l words fit) ∙ (λ i. digits_l (2 ^ 64) (packed.long i) (number_l-packed n words packed fit i))
