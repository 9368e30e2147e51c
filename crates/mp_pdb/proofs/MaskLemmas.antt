-- Bits of masks, and sets of facts of a pattern as masks.
use Rattle.std.proofs.Common.{◌≡◌, ℕ, zero, suc, ◌+◌, ◌-◌, ◌*◌, ◌%◌, ◌^◌, ◌<◌, ◌≤◌, min, max, Bool, true, false, cond, not, ◌&&◌, ◌||◌, ltb, eqb, List, [], ◌∷◌, ◌++◌, length, map, take, drop, get_or, ◌⊎◌, refl, sym, ap, ◌∙◌, subst, inl, inr, ⊎_elim, arith, w16}
use Rattle.std.proofs.Math.ListN.{set as set_at}
use Rattle.std.proofs.lemmas.Bool.{false≢true, and_from, or_cases, or_left, or_right, eqb-true, eq-eqb, ne_eqb, lt-ltb, le-ltb, cases_lt, cases_eq, false_from_ne_true, not_from_true, not_from_false, and_right, true_from_ne_false}
use Rattle.std.proofs.lemmas.List.{length-append, append_assoc, map-append, take_more, take_all, take-append-le, take-append-drop, get_or_append_left, get_or-append_right, get_or-set_same, get_or-set_other, length-set, get_or_default}
use Rattle.std.proofs.lemmas.List.Folds.{list_any-append, list_any_at, Any-from_list_any}
use Rattle.std.proofs.Math.Bool.{and-true, or-false}
use Rattle.std.proofs.lemmas.Nat.{and_le_r, pow_pos}
use Rattle.std.proofs.lemmas.Nat.Bits.{bit_at_and, bit_at_or, bit_at_not, bit_at-zero, bit_at-lt, bit_at_set_same, bit_at_set_other, bit_at_above, bit_at_ones, same_from_bits}
use Rattle.std.specs.Cmp.{both_ways}
use Rattle.std.specs.List.{list_any}
use Rattle.std.specs.Prelude.{bit_and, bit_or}
use Rattle.std.specs.Int.{bit_at, bit_not}
use Rattle.mp_pdb.specs.Masks.{bit, ShowsFirst, Shows, ArePlaces}
use Rattle.mp_pdb.specs.Pattern.{is_in}

-- bits

min_bits : (x y : ℕ) → x < 2 → y < 2 → eqb (min x y) 1 ≡ (eqb x 1 && eqb y 1)
min_bits zero zero h k = refl
min_bits zero (suc zero) h k = refl
min_bits (suc zero) zero h k = refl
min_bits (suc zero) (suc zero) h k = refl
min_bits (suc (suc x)) y h k = absurd (omega arith)
min_bits zero (suc (suc y)) h k = absurd (omega arith)
min_bits (suc zero) (suc (suc y)) h k = absurd (omega arith)

max_bits : (x y : ℕ) → x < 2 → y < 2 → eqb (max x y) 1 ≡ (eqb x 1 || eqb y 1)
max_bits zero zero h k = refl
max_bits zero (suc zero) h k = refl
max_bits (suc zero) zero h k = refl
max_bits (suc zero) (suc zero) h k = refl
max_bits (suc (suc x)) y h k = absurd (omega arith)
max_bits zero (suc (suc y)) h k = absurd (omega arith)
max_bits (suc zero) (suc (suc y)) h k = absurd (omega arith)

not_bit : (x : ℕ) → x < 2 → eqb (1 - x) 1 ≡ not (eqb x 1)
not_bit zero h = refl
not_bit (suc zero) h = refl
not_bit (suc (suc x)) h = absurd (omega arith)

pub bit-and : (a b i : ℕ) → bit (bit_and a b) i ≡ (bit a i && bit b i)
bit-and a b i = ap (λ n. eqb n 1) (bit_at_and a b i) ∙ min_bits (bit_at a i) (bit_at b i) (bit_at-lt a i) (bit_at-lt b i)

pub bit-or : (a b i : ℕ) → bit (bit_or a b) i ≡ (bit a i || bit b i)
bit-or a b i = ap (λ n. eqb n 1) (bit_at_or a b i) ∙ max_bits (bit_at a i) (bit_at b i) (bit_at-lt a i) (bit_at-lt b i)

pub bit-not : (n i : ℕ) → n < 2 ^ 16 → i < 16 → bit (bit_not w16 n) i ≡ not (bit n i)
bit-not n i fits small = ap (λ m. eqb m 1) (bit_at_not w16 n i fits small) ∙ not_bit (bit_at n i) (bit_at-lt n i)

pub bit-zero : (i : ℕ) → bit 0 i ≡ false
bit-zero i = ap (λ n. eqb n 1) (bit_at-zero i)

pub bit-above : (n k i : ℕ) → n < 2 ^ k → k ≤ i → bit n i ≡ false
bit-above n k i fits past = ap (λ m. eqb m 1) (bit_at_above n k i fits past)

same_tests : (a b : ℕ) → a < 2 → b < 2 → eqb a 1 ≡ eqb b 1 → a ≡ b
same_tests zero zero h k e = refl
same_tests zero (suc zero) h k e = absurd (false≢true e)
same_tests (suc zero) zero h k e = absurd (false≢true (sym e))
same_tests (suc zero) (suc zero) h k e = refl
same_tests (suc (suc a)) b h k e = absurd (omega arith)
same_tests zero (suc (suc b)) h k e = absurd (omega arith)
same_tests (suc zero) (suc (suc b)) h k e = absurd (omega arith)

pub same_bits : (a b : ℕ) → ((i : ℕ) → bit a i ≡ bit b i) → a ≡ b
same_bits a b same = same_from_bits a b (λ i. same_tests (bit_at a i) (bit_at b i) (bit_at-lt a i) (bit_at-lt b i) (same i))

pub and_twice : (a b : ℕ) → bit_and (bit_and a b) b ≡ bit_and a b
and_twice a b = same_bits (bit_and (bit_and a b) b) (bit_and a b) (λ i. bit-and (bit_and a b) b i ∙ ap (λ y. y && bit b i) (bit-and a b i) ∙ by (bit a i) (bit b i) ∙ sym (bit-and a b i))
  where
    by : (x y : Bool) → ((x && y) && y) ≡ (x && y)
    by true true = refl
    by true false = refl
    by false y = refl

-- a number without bits from one place on is below its power
pub below_power : (m k : ℕ) → ((i : ℕ) → k ≤ i → bit m i ≡ false) → m < 2 ^ k
below_power m k clear =
    let same : m ≡ bit_and m (2 ^ k - 1) = same_bits m (bit_and m (2 ^ k - 1)) (λ i. by i (cases_lt i k) ∙ sym (bit-and m (2 ^ k - 1) i)) in
    let less = and_le_r m (2 ^ k - 1) in
    let some = pow_pos k in
    omega arith
  where
    by : (i : ℕ) → (i < k) ⊎ (k ≤ i) → bit m i ≡ (bit m i && bit (2 ^ k - 1) i)
    by i (inl h) = sym (ap (λ n. bit m i && eqb n 1) (bit_at_ones k i h) ∙ and-true (bit m i))
    by i (inr h) = clear i h ∙ sym (ap (λ b. b && bit (2 ^ k - 1) i) (clear i h))

-- one more place

abbrev pub FirstBits : ℕ → (ℕ → Bool) → ℕ → Type 0
FirstBits n f m = (i : ℕ) → bit m i ≡ (ltb i n && f i)

narrow : (i n : ℕ) (f g : ℕ → Bool) → (i ≡ n → ⊥) → (i < n → g i ≡ f i) → (ltb i n && f i) ≡ (ltb i (n + 1) && g i)
narrow i n f g other same = ⊎_elim
    (λ h. (λ j. lt-ltb i n h j && f i) ∙ sym (same h) ∙ sym (λ j. lt-ltb i (n + 1) (omega arith) j && g i))
    (λ h. (λ j. le-ltb i n h j && f i) ∙ sym (λ j. le-ltb i (n + 1) (omega arith) j && g i))
    (cases_lt i n)

pub set_more : (n : ℕ) (f g : ℕ → Bool) (m : ℕ) → n < 16 → ((i : ℕ) → i < n → g i ≡ f i) → g n ≡ true → FirstBits n f m → FirstBits (n + 1) g (bit_or m (1 * 2 ^ n % 2 ^ 16))
set_more n f g m fits same passes first i = ⊎_elim
    (λ e.
    ap (bit (bit_or m (1 * 2 ^ n % 2 ^ 16))) e ∙ ap (λ k. eqb k 1) (bit_at_set_same w16 m n fits)
    ∙ sym (ap (λ k. ltb k (n + 1) && g k) e ∙ and_from (ltb n (n + 1)) (g n) (lt-ltb n (n + 1) (omega arith)) passes))
    (λ other.
    ap (λ k. eqb k 1) (bit_at_set_other w16 m n fits i other) ∙ first i ∙ narrow i n f g other (same i))
    (cases_eq i n)

pub skip_more : (n : ℕ) (f g : ℕ → Bool) (m : ℕ) → ((i : ℕ) → i < n → g i ≡ f i) → g n ≡ false → FirstBits n f m → FirstBits (n + 1) g m
skip_more n f g m same fails first i = ⊎_elim
    (λ e.
    first i ∙ (λ j. le-ltb i n (omega arith) j && f i) ∙ sym (ap (λ k. ltb k (n + 1) && g k) e ∙ and_right (ltb n (n + 1)) (g n) fails))
    (λ other. first i ∙ narrow i n f g other (same i))
    (cases_eq i n)

-- sets of facts

pub shows_same : (pattern : List ℕ) (f g : ℕ → Bool) (m : ℕ) → ((x : ℕ) → f x ≡ g x) → Shows pattern f m → Shows pattern g m
shows_same pattern f g m same shows = record {
  bits = λ i. shows.bits i ∙ ap (λ b. ltb i (length pattern) && b) (same (get_or pattern i 0));
}

pub shows_or : (pattern : List ℕ) (f g : ℕ → Bool) (a b : ℕ) → Shows pattern f a → Shows pattern g b → Shows pattern (λ x. f x || g x) (bit_or a b)
shows_or pattern f g a b left right = record {
  bits = λ i.
      bit-or a b i ∙ (λ j. left.bits i j || right.bits i j)
      ∙ both (ltb i (length pattern)) (f (get_or pattern i 0)) (g (get_or pattern i 0));
}
  where
    both : (l x y : Bool) → ((l && x) || (l && y)) ≡ (l && (x || y))
    both true x y = refl
    both false x y = refl

pub shows_below : (pattern : List ℕ) (f : ℕ → Bool) (m : ℕ) → Shows pattern f m → m < 2 ^ length pattern
shows_below pattern f m shows =
    below_power m (length pattern) (λ i past. shows.bits i ∙ ap (λ l. l && f (get_or pattern i 0)) (le-ltb i (length pattern) past))

-- a mask of facts that pass a test is 0 exactly where none does
pub shows_any : (pattern : List ℕ) (f : ℕ → Bool) (m : ℕ) → Shows pattern f m → not (eqb m 0) ≡ list_any f pattern
shows_any pattern f m shows = both_ways (not (eqb m 0)) (list_any f pattern) one some
  where
    none : list_any f pattern ≡ false → m ≡ 0
    none e = same_bits m 0 (λ i. shows.bits i ∙ by i (cases_lt i (length pattern)) ∙ sym (bit-zero i))
      where
        by : (i : ℕ) → (i < length pattern) ⊎ (length pattern ≤ i) → (ltb i (length pattern) && f (get_or pattern i 0)) ≡ false
        by i (inl h) =
            and_right (ltb i (length pattern)) (f (get_or pattern i 0))
            (false_from_ne_true (f (get_or pattern i 0)) (λ here. false≢true (sym e ∙ list_any_at f pattern i 0 h here)))
        by i (inr h) = ap (λ l. l && f (get_or pattern i 0)) (le-ltb i (length pattern) h)

    one : not (eqb m 0) ≡ true → list_any f pattern ≡ true
    one e = true_from_ne_false (list_any f pattern) (λ out. false≢true (sym (not_from_true (eqb m 0) (eq-eqb m 0 (none out))) ∙ e))

    some : list_any f pattern ≡ true → not (eqb m 0) ≡ true
    some e =
        let at = Any-from_list_any f pattern e in
        let here : f (get_or pattern at.0 0) ≡ true = ap f (get_or_default pattern at.0 0 at.1 at.2 ∙ at.3) ∙ at.4 in
        not_from_false (eqb m 0) (ne_eqb m 0 (λ zeroed.
        false≢true (sym (ap (λ n. bit n at.0) zeroed ∙ bit-zero at.0) ∙ shows.bits at.0 ∙ and_from (ltb at.0 (length pattern)) (f (get_or pattern at.0 0)) (lt-ltb at.0 (length pattern) at.2) here)))

-- one more place of a pattern
pub place_more : (pattern : List ℕ) (test : ℕ → Bool) (n mask : ℕ) (b : Bool) → n < 16 → b ≡ test (get_or pattern n 0) → ShowsFirst n pattern test mask → ShowsFirst (n + 1) pattern test (cond b (bit_or mask (1 * 2 ^ n % 2 ^ 16)) mask)
place_more pattern test n mask true fits is shows = record {
  bits = set_more n (λ i. test (get_or pattern i 0)) (λ i. test (get_or pattern i 0)) mask fits (λ i lt. refl) (sym is) shows.bits;
}
place_more pattern test n mask false fits is shows = record {
  bits = skip_more n (λ i. test (get_or pattern i 0)) (λ i. test (get_or pattern i 0)) mask (λ i lt. refl) (sym is) shows.bits;
}

-- lists that have a fact in common

some_of : (p : ℕ → Bool) (y : ℕ) (xs : List ℕ) → is_in xs y ≡ true → p y ≡ true → list_any p xs ≡ true
some_of p y [] here passes = absurd (false≢true here)
some_of p y (x ∷ xs) here passes = ⊎_elim
    (λ e. or_left (p x) (list_any p xs) (ap p (eqb-true x y e) ∙ passes))
    (λ later. or_right (p x) (list_any p xs) (some_of p y xs later passes))
    (or_cases (eqb x y) (is_in xs y) here)

list_any-mono : (p q : ℕ → Bool) (xs : List ℕ) → ((x : ℕ) → p x ≡ true → q x ≡ true) → list_any p xs ≡ true → list_any q xs ≡ true
list_any-mono p q [] h e = e
list_any-mono p q (x ∷ xs) h e = ⊎_elim
    (λ here. or_left (q x) (list_any q xs) (h x here))
    (λ later. or_right (q x) (list_any q xs) (list_any-mono p q xs h later))
    (or_cases (p x) (list_any p xs) e)

meet : (xs ys : List ℕ) → list_any (is_in xs) ys ≡ true → list_any (is_in ys) xs ≡ true
meet xs [] e = absurd (false≢true e)
meet xs (y ∷ ys) e = ⊎_elim
    (λ here. some_of (is_in (y ∷ ys)) y xs here (or_left (eqb y y) (is_in ys y) (eq-eqb y y refl)))
    (λ later. list_any-mono (is_in ys) (is_in (y ∷ ys)) xs (λ x h. or_right (eqb y x) (is_in ys x) h) (meet xs ys later))
    (or_cases (is_in xs y) (list_any (is_in xs) ys) e)

pub meet_both : (xs ys : List ℕ) → list_any (is_in xs) ys ≡ list_any (is_in ys) xs
meet_both xs ys = both_ways _ _ (meet xs ys) (meet ys xs)

-- places of facts

pub eqb-comm : (x y : ℕ) → eqb x y ≡ eqb y x
eqb-comm x y = both_ways (eqb x y) (eqb y x) (λ e. eq-eqb y x (sym (eqb-true x y e))) (λ e. eq-eqb x y (sym (eqb-true y x e)))

pub is_in_turned : (x : ℕ) (xs : List ℕ) → list_any (λ y. eqb x y) xs ≡ is_in xs x
is_in_turned x [] = refl
is_in_turned x (y ∷ ys) = λ i. eqb-comm x y i || is_in_turned x ys i

pub no_places : (places : List ℕ) → length places < 4294967296 → ((x : ℕ) → get_or places x 0 ≡ 0) → ArePlaces [] places
no_places places small none = record {
  few = omega arith;
  small = small;
  below = λ i lt. absurd (omega arith);
  shown = λ x lt. record { bits = λ i. ap (λ m. bit m i) (none x) ∙ bit-zero i ∙ sym (ap (λ l. l && eqb x 0) (le-ltb i 0 (omega arith))) };
}

module _ (facts places : List ℕ) (fact word : ℕ) (are : ArePlaces facts places) (within : fact < length places) (room : length facts < 12) (read : word ≡ get_or places fact 0) where
  long : length (facts ++ fact ∷ []) ≡ length facts + 1
  long = let more = length-append facts (fact ∷ []) in omega arith

  kept_at : (i : ℕ) → i < length facts → get_or (facts ++ fact ∷ []) i 0 ≡ get_or facts i 0
  kept_at i h = get_or_append_left facts (fact ∷ []) 0 i h

  last_at : get_or (facts ++ fact ∷ []) (length facts) 0 ≡ fact
  last_at =
      let none : length facts - length facts ≡ 0 = omega arith in
      get_or-append_right facts (fact ∷ []) (length facts) (length facts) 0 refl (omega arith) ∙ ap (λ k. get_or (fact ∷ []) k 0) none

  pub more_places : ArePlaces (facts ++ fact ∷ []) (set_at places fact (bit_or word (1 * 2 ^ length facts % 2 ^ 16)))
  more_places = record {
    few = omega (arith, long);
    small = omega (arith, are.small, length-set places fact (bit_or word (1 * 2 ^ length facts % 2 ^ 16)));
    below = λ i lt. ⊎_elim
        (λ h. let same = kept_at i h in let low = are.below i h in let as_many = length-set places fact (bit_or word (1 * 2 ^ length facts % 2 ^ 16)) in omega arith)
        (λ h. let at : i ≡ length facts = omega (arith, long) in let same = ap (λ k. get_or (facts ++ fact ∷ []) k 0) at ∙ last_at in let as_many = length-set places fact (bit_or word (1 * 2 ^ length facts % 2 ^ 16)) in omega arith)
        (cases_lt i (length facts));
    shown = λ x lt. record {
      bits = subst (λ n. FirstBits n (λ i. eqb x (get_or (facts ++ fact ∷ []) i 0)) (get_or (set_at places fact (bit_or word (1 * 2 ^ length facts % 2 ^ 16))) x 0)) (sym long) (by x (omega (arith, length-set places fact (bit_or word (1 * 2 ^ length facts % 2 ^ 16)))) (cases_eq x fact));
    };
  }
    where
      same : (x i : ℕ) → i < length facts → eqb x (get_or (facts ++ fact ∷ []) i 0) ≡ eqb x (get_or facts i 0)
      same x i h = ap (eqb x) (kept_at i h)

      by : (x : ℕ) → x < length places → (x ≡ fact) ⊎ (x ≡ fact → ⊥) → FirstBits (length facts + 1) (λ i. eqb x (get_or (facts ++ fact ∷ []) i 0)) (get_or (set_at places fact (bit_or word (1 * 2 ^ length facts % 2 ^ 16))) x 0)
      by x lt (inl e) =
          subst (FirstBits (length facts + 1) (λ i. eqb x (get_or (facts ++ fact ∷ []) i 0)))
          (sym (ap (λ k. get_or (set_at places fact (bit_or word (1 * 2 ^ length facts % 2 ^ 16))) k 0) e ∙ get_or-set_same places fact (bit_or word (1 * 2 ^ length facts % 2 ^ 16)) 0 within))
          (set_more (length facts) (λ i. eqb x (get_or facts i 0)) (λ i. eqb x (get_or (facts ++ fact ∷ []) i 0)) word (omega arith) (same x) (eq-eqb x (get_or (facts ++ fact ∷ []) (length facts) 0) (e ∙ sym last_at))
          (subst (FirstBits (length facts) (λ i. eqb x (get_or facts i 0))) (ap (λ k. get_or places k 0) e ∙ sym read) (are.shown x lt).bits))
      by x lt (inr other) =
          subst (FirstBits (length facts + 1) (λ i. eqb x (get_or (facts ++ fact ∷ []) i 0)))
          (sym (get_or-set_other places fact x (bit_or word (1 * 2 ^ length facts % 2 ^ 16)) 0 other))
          (skip_more (length facts) (λ i. eqb x (get_or facts i 0)) (λ i. eqb x (get_or (facts ++ fact ∷ []) i 0)) (get_or places x 0) (same x) (ne_eqb x (get_or (facts ++ fact ∷ []) (length facts) 0) (λ e. other (e ∙ last_at))) (are.shown x lt).bits)

-- one more fact of a list, above an offset

pub map_more : (f : ℕ → ℕ) (xs : List ℕ) (i : ℕ) → i < length xs → map f (take (i + 1) xs) ≡ map f (take i xs) ++ f (get_or xs i 0) ∷ []
map_more f xs i within = ap (map f) (take_more xs i 0 within) ∙ map-append f (take i xs) (get_or xs i 0 ∷ [])

pub is_in_more : (f : ℕ → ℕ) (xs : List ℕ) (i x : ℕ) → i < length xs → (is_in (map f (take i xs)) x || eqb (f (get_or xs i 0)) x) ≡ is_in (map f (take (i + 1) xs)) x
is_in_more f xs i x within =
    sym (ap (λ l. is_in l x) (map_more f xs i within) ∙ list_any-append (λ y. eqb y x) (map f (take i xs)) (f (get_or xs i 0) ∷ [])
    ∙ ap (λ b. is_in (map f (take i xs)) x || b) (or-false (eqb (f (get_or xs i 0)) x)))

pub map_zero : (xs : List ℕ) → map (λ k. 0 + k) xs ≡ xs
map_zero [] = refl
map_zero (x ∷ xs) = let e : 0 + x ≡ x = omega arith in λ i. e i ∷ map_zero xs i

pub is_in_both : (publics x : ℕ) (xs ys : List ℕ) → (is_in (map (λ k. 0 + k) xs) x || is_in (map (λ k. publics + k) ys) x) ≡ is_in (xs ++ map (λ k. publics + k) ys) x
is_in_both publics x xs ys =
    ap (λ l. is_in l x || is_in (map (λ k. publics + k) ys) x) (map_zero xs)
    ∙ sym (list_any-append (λ y. eqb y x) xs (map (λ k. publics + k) ys))

-- as many facts as there is room for

pub first_full : (f : ℕ → ℕ) (before xs : List ℕ) (i : ℕ) → length (before ++ map f (take i xs)) ≡ 12 → before ++ map f (take i xs) ≡ take 12 (before ++ map f xs)
first_full f before xs i full =
    sym (ap (λ l. take 12 (before ++ map f l)) (sym (take-append-drop i xs))
    ∙ ap (λ l. take 12 (before ++ l)) (map-append f (take i xs) (drop i xs))
    ∙ ap (take 12) (sym (append_assoc before (map f (take i xs)) (map f (drop i xs))))
    ∙ take-append-le 12 (before ++ map f (take i xs)) (map f (drop i xs)) (omega arith)
    ∙ take_all 12 (before ++ map f (take i xs)) (omega arith))

pub first_all : (f : ℕ → ℕ) (before xs : List ℕ) (i : ℕ) → length xs ≤ i → length (before ++ map f (take i xs)) ≤ 12 → before ++ map f (take i xs) ≡ take 12 (before ++ map f xs)
first_all f before xs i end few =
    sym (take_all 12 (before ++ map f (take i xs)) few) ∙ ap (λ l. take 12 (before ++ map f l)) (take_all i xs end)

pub more_facts : (f : ℕ → ℕ) (before xs now : List ℕ) (i : ℕ) → i < length xs → now ≡ before ++ map f (take i xs) → now ++ f (get_or xs i 0) ∷ [] ≡ before ++ map f (take (i + 1) xs)
more_facts f before xs now i within is =
    ap (λ l. l ++ f (get_or xs i 0) ∷ []) is ∙ append_assoc before (map f (take i xs)) (f (get_or xs i 0) ∷ []) ∙ ap (λ l. before ++ l) (sym (map_more f xs i within))
