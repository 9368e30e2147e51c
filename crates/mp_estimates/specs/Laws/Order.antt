-- The order of costs.
use Rattle.std.proofs.Common.{◌≡◌, ℕ, ◌+◌, ◌-◌, ◌≤◌, Bool, true, false, leb, Option, Some, None, option_map, refl, arith}
use Rattle.std.proofs.lemmas.Bool.{false≢true, both_ways, leb-true, leb-false, le-leb, lt-leb}
use Rattle.mp_estimates.specs.Estimates.{AtMost, lesser, greater}

pub AtMost-refl : (a : Option ℕ) → AtMost a a
AtMost-refl None = tt
AtMost-refl (Some m) = omega arith

pub AtMost-trans : (a b c : Option ℕ) → AtMost a b → AtMost b c → AtMost a c
AtMost-trans a b None h k = tt
AtMost-trans a None (Some n) h k = absurd k
AtMost-trans None (Some m) (Some n) h k = absurd h
AtMost-trans (Some l) (Some m) (Some n) h k = omega arith

pub AtMost-antisym : (a b : Option ℕ) → AtMost a b → AtMost b a → a ≡ b
AtMost-antisym None None h k = refl
AtMost-antisym None (Some n) h k = absurd h
AtMost-antisym (Some m) None h k = absurd k
AtMost-antisym (Some m) (Some n) h k = let e : m ≡ n = omega arith in λ i. Some (e i)

pub zero_AtMost : (a : Option ℕ) → AtMost (Some 0) a
zero_AtMost None = tt
zero_AtMost (Some n) = omega arith

pub lesser_left : (a b : Option ℕ) → AtMost (lesser a b) a
lesser_left None b = tt
lesser_left (Some m) None = omega arith
lesser_left (Some m) (Some n) = omega arith

pub lesser_right : (a b : Option ℕ) → AtMost (lesser a b) b
lesser_right None b = AtMost-refl b
lesser_right (Some m) None = tt
lesser_right (Some m) (Some n) = omega arith

pub lesser_both : (c a b : Option ℕ) → AtMost c a → AtMost c b → AtMost c (lesser a b)
lesser_both c None b h k = k
lesser_both c (Some m) None h k = h
lesser_both None (Some m) (Some n) h k = absurd h
lesser_both (Some l) (Some m) (Some n) h k = omega arith

pub greater_left : (a b : Option ℕ) → AtMost a (greater a b)
greater_left None b = tt
greater_left (Some m) None = tt
greater_left (Some m) (Some n) = omega arith

pub greater_right : (a b : Option ℕ) → AtMost b (greater a b)
greater_right None b = tt
greater_right (Some m) None = tt
greater_right (Some m) (Some n) = omega arith

pub greater_both : (c a b : Option ℕ) → AtMost a c → AtMost b c → AtMost (greater a b) c
greater_both None a b h k = tt
greater_both (Some l) None b h k = absurd h
greater_both (Some l) (Some m) None h k = absurd k
greater_both (Some l) (Some m) (Some n) h k = omega arith

pub plus-mono : (c : ℕ) (a b : Option ℕ) → AtMost a b → AtMost (option_map (λ h. c + h) a) (option_map (λ h. c + h) b)
plus-mono c a None h = tt
plus-mono c None (Some n) h = absurd h
plus-mono c (Some m) (Some n) h = omega arith

-- whether a cost is a number of at most t
abbrev pub within : ℕ → Option ℕ → Bool
within t None = false
within t (Some m) = leb m t

pub within-AtMost : (t : ℕ) (a b : Option ℕ) → AtMost a b → within t b ≡ true → within t a ≡ true
within-AtMost t a None h k = absurd (cc)
within-AtMost t None (Some n) h k = absurd h
within-AtMost t (Some m) (Some n) h k = let le = leb-true n t k in le-leb m t (omega arith)

pub AtMost-within : (a b : Option ℕ) → ((t : ℕ) → within t b ≡ true → within t a ≡ true) → AtMost a b
AtMost-within a None h = tt
AtMost-within None (Some n) h = absurd (let e : false ≡ true = h n (le-leb n n (omega arith)) in cc)
AtMost-within (Some m) (Some n) h = leb-true m n (h n (le-leb n n (omega arith)))

pub within-more : (t u : ℕ) (a : Option ℕ) → t ≤ u → within t a ≡ true → within u a ≡ true
within-more t u None le k = k
within-more t u (Some m) le k = let h = leb-true m t k in le-leb m u (omega arith)

-- what is left of a limit after a cost
pub within-plus : (c t : ℕ) (a : Option ℕ) → within t (option_map (λ h. c + h) a) ≡ true → (c ≤ t) × (within (t - c) a ≡ true)
within-plus c t None e = absurd (false≢true e)
within-plus c t (Some m) e = let le = leb-true (c + m) t e in (omega arith, le-leb m (t - c) (omega arith))

pub not_within-plus : (c t : ℕ) (a : Option ℕ) → c ≤ t → within t (option_map (λ h. c + h) a) ≡ false → within (t - c) a ≡ false
not_within-plus c t None le e = refl
not_within-plus c t (Some m) le e = let gt = leb-false (c + m) t e in lt-leb m (t - c) (omega arith)

pub within-lesser : (t : ℕ) (a b : Option ℕ) → within t (lesser a b) ≡ true → within t a ≡ false → within t b ≡ true
within-lesser t None b h k = h
within-lesser t (Some m) None h k = absurd (both_ways (within t (Some m)) k h)
within-lesser t (Some m) (Some n) h k =
    let le = leb-true _ t h in
    let gt = leb-false m t k in
    le-leb n t (omega arith)

pub not_within-AtMost : (t : ℕ) (a b : Option ℕ) → AtMost a b → within t a ≡ false → within t b ≡ false
not_within-AtMost t a b h k = by (within t b) refl
  where
    by : (x : Bool) → within t b ≡ x → within t b ≡ false
    by false e = e
    by true e = absurd (both_ways (within t a) k (within-AtMost t a b h e))

pub within-greater : (t : ℕ) (a b : Option ℕ) → within t (greater a b) ≡ false → within t a ≡ true → within t b ≡ false
within-greater t None b h k = absurd (both_ways (within t None) h k)
within-greater t (Some m) None h k = refl
within-greater t (Some m) (Some n) h k =
    let le = leb-true m t k in
    let gt = leb-false _ t h in
    lt-leb n t (omega arith)
