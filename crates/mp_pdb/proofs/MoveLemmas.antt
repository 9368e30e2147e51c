-- Moves of masks, bit by bit.
use Rattle.std.proofs.Common.{◌≡◌, ℕ, ◌^◌, ◌<◌, ◌≤◌, Bool, true, false, not, ◌&&◌, ◌||◌, ◌⊎◌, refl, sym, ap, ◌∙◌, inl, inr, arith, w16}
use Rattle.std.proofs.lemmas.Bool.{false≢true, cases_lt, eqb-true, eq-eqb}
use Rattle.std.proofs.Math.Nat.{pow-le-pow_right}
use Rattle.std.proofs.lemmas.Nat.{and_le_l, and_le_r, or_lt}
use Rattle.std.specs.Prelude.{bit_and, bit_or}
use Rattle.std.specs.Int.{bit_not}
use Rattle.mp_pdb.specs.declared.moves.Move.{Move}
use Rattle.mp_pdb.specs.Masks.{bit}
use Rattle.mp_pdb.specs.Moves.{has_all, after_move}
use Rattle.mp_pdb.specs.Table.{MoveFits, IsSize}
use Rattle.mp_pdb.proofs.MaskLemmas.{bit-and, bit-or, bit-not, bit-above, same_bits}

-- what is left of a number without the bits of another
pub bit-without : (a b i : ℕ) → a < 2 ^ 16 → b < 2 ^ 16 → bit (bit_and a (bit_not w16 b)) i ≡ (bit a i && not (bit b i))
bit-without a b i fits small = bit-and a (bit_not w16 b) i ∙ by (cases_lt i 16)
  where
    by : (i < 16) ⊎ (16 ≤ i) → (bit a i && bit (bit_not w16 b) i) ≡ (bit a i && not (bit b i))
    by (inl h) = ap (λ y. bit a i && y) (bit-not b i small h)
    by (inr h) =
        let none : bit a i ≡ false = bit-above a 16 i fits h in
        ap (λ y. y && bit (bit_not w16 b) i) none ∙ sym (ap (λ y. y && not (bit b i)) none)

pub bit-after : (move : Move) (mask i : ℕ) → mask < 2 ^ 16 → move.del < 2 ^ 16 → bit (after_move move mask) i ≡ ((bit mask i && not (bit move.del i)) || bit move.add i)
bit-after move mask i fits small = bit-or (bit_and mask (bit_not w16 move.del)) move.add i ∙ ap (λ y. y || bit move.add i) (bit-without mask move.del i fits small)

-- where a number has all bits of another, so it is bit by bit
pub has_bits : (mask part : ℕ) → has_all mask part ≡ true → (i : ℕ) → (bit mask i && bit part i) ≡ bit part i
has_bits mask part all i = sym (bit-and mask part i) ∙ ap (λ n. bit n i) (eqb-true (bit_and mask part) part all)

pub has_from_bits : (mask part : ℕ) → ((i : ℕ) → (bit mask i && bit part i) ≡ bit part i) → has_all mask part ≡ true
has_from_bits mask part each = eq-eqb (bit_and mask part) part (same_bits (bit_and mask part) part (λ i. bit-and mask part i ∙ each i))

-- sizes

pub small_size : (size : ℕ) → IsSize size → size ≤ 4096
small_size size is =
    let power : 2 ^ is.facts ≤ 4096 = pow-le-pow_right {n = 2} (omega arith) is.few in
    let same = is.is in
    omega arith

pub or_within : (size a b : ℕ) → IsSize size → a < size → b < size → bit_or a b < size
or_within size a b is h k =
    let same = is.is in
    let less : bit_or a b < 2 ^ is.facts = or_lt is.facts a b (omega arith) (omega arith) in
    omega arith

pub from_within : (size : ℕ) (move : Move) (to part : ℕ) → IsSize size → MoveFits size move → to < size → bit_and part (bit_and (bit_or move.add move.del) (bit_not w16 move.pre)) ≡ part → bit_or (bit_or (bit_and to (bit_not w16 (bit_or move.add move.del))) move.pre) part < size
from_within size move to part is fits within is_part =
    let left = and_le_l to (bit_not w16 (bit_or move.add move.del)) in
    let one = and_le_r part (bit_and (bit_or move.add move.del) (bit_not w16 move.pre)) in
    let two = and_le_l (bit_or move.add move.del) (bit_not w16 move.pre) in
    let three = or_within size move.add move.del is fits.add fits.del in
    or_within size (bit_or (bit_and to (bit_not w16 (bit_or move.add move.del))) move.pre) part is
    (or_within size (bit_and to (bit_not w16 (bit_or move.add move.del))) move.pre is (omega arith) fits.pre)
    (omega arith)

-- one bit

arrived : (m p a d : Bool) → (m && p) ≡ p → ((((m && not d) || a) && (p || (a || d))) ≡ ((p && not d) || a))
arrived true true true true e = refl
arrived true true true false e = refl
arrived true true false true e = refl
arrived true true false false e = refl
arrived true false true true e = refl
arrived true false true false e = refl
arrived true false false true e = refl
arrived true false false false e = refl
arrived false true a d e = absurd (false≢true e)
arrived false false true true e = refl
arrived false false true false e = refl
arrived false false false true e = refl
arrived false false false false e = refl

put_together : (m p a d : Bool) → (m && p) ≡ p → ((((((m && not d) || a) && not (a || d)) || p) || (m && ((a || d) && not p))) ≡ m)
put_together true true true true e = refl
put_together true true true false e = refl
put_together true true false true e = refl
put_together true true false false e = refl
put_together true false true true e = refl
put_together true false true false e = refl
put_together true false false true e = refl
put_together true false false false e = refl
put_together false true a d e = absurd (false≢true e)
put_together false false true true e = refl
put_together false false true false e = refl
put_together false false false true e = refl
put_together false false false false e = refl

has_needs : (t p a d q : Bool) → ((((t && not (a || d)) || p) || q) && p) ≡ p
has_needs t p a d true = by p (t && not (a || d))
  where
    by : (p x : Bool) → (((x || p) || true) && p) ≡ p
    by true true = refl
    by true false = refl
    by false true = refl
    by false false = refl
has_needs t p a d false = by p (t && not (a || d))
  where
    by : (p x : Bool) → (((x || p) || false) && p) ≡ p
    by true true = refl
    by true false = refl
    by false true = refl
    by false false = refl

leads_back : (t p a d q : Bool) → (t && (p || (a || d))) ≡ ((p && not d) || a) → (q && ((a || d) && not p)) ≡ q → ((((((t && not (a || d)) || p) || q) && not d) || a) ≡ t)
leads_back true p true d q e f = by (((true && not (true || d)) || p) || q) d
  where
    by : (x d : Bool) → ((x && not d) || true) ≡ true
    by true true = refl
    by true false = refl
    by false true = refl
    by false false = refl
leads_back false true true d q e f = absurd (false≢true (e ∙ by (not d)))
  where
    by : (x : Bool) → ((true && x) || true) ≡ true
    by true = refl
    by false = refl
leads_back false false true d q e f = absurd (false≢true e)
leads_back true true false true q e f = absurd (false≢true (sym e))
leads_back true false false true q e f = absurd (false≢true (sym e))
leads_back false true false true true e f = refl
leads_back false true false true false e f = refl
leads_back false false false true true e f = refl
leads_back false false false true false e f = refl
leads_back true true false false q e f = by q
  where
    by : (q : Bool) → ((true || q) && true || false) ≡ true
    by true = refl
    by false = refl
leads_back true false false false q e f = by q
  where
    by : (q : Bool) → ((((true || false) || q) && true) || false) ≡ true
    by true = refl
    by false = refl
leads_back false true false false q e f = absurd (false≢true e)
leads_back false false false false true e f = absurd (false≢true f)
leads_back false false false false false e f = refl

-- what a move needs and changes, and the states before and after it

module _ (move : Move) (to : ℕ) (need_fits : move.pre < 2 ^ 16) (add_fits : move.add < 2 ^ 16) (del_fits : move.del < 2 ^ 16) (to_fits : to < 2 ^ 16) where
  changed_fits : bit_or move.add move.del < 2 ^ 16
  changed_fits = or_lt 16 move.add move.del add_fits del_fits

  -- a move that leads from some set to this one leads here as from what it needs alone, as far as its facts go
  pub must_arrive : (mask : ℕ) → mask < 2 ^ 16 → has_all mask move.pre ≡ true → after_move move mask ≡ to → bit_and to (bit_or move.pre (bit_or move.add move.del)) ≡ after_move move move.pre
  must_arrive mask fits ready leads =
      same_bits _ _ (λ i.
      bit-and to (bit_or move.pre (bit_or move.add move.del)) i
      ∙ (λ j. (ap (λ n. bit n i) (sym leads) ∙ bit-after move mask i fits del_fits) j && (bit-or move.pre (bit_or move.add move.del) i ∙ ap (λ y. bit move.pre i || y) (bit-or move.add move.del i)) j)
      ∙ arrived (bit mask i) (bit move.pre i) (bit move.add i) (bit move.del i) (has_bits mask move.pre ready i)
      ∙ sym (bit-after move move.pre i need_fits del_fits))

  fixed_bit : (i : ℕ) → bit (bit_or (bit_and to (bit_not w16 (bit_or move.add move.del))) move.pre) i ≡ ((bit to i && not (bit move.add i || bit move.del i)) || bit move.pre i)
  fixed_bit i =
      bit-or (bit_and to (bit_not w16 (bit_or move.add move.del))) move.pre i
      ∙ ap (λ y. y || bit move.pre i) (bit-without to (bit_or move.add move.del) i to_fits changed_fits ∙ ap (λ y. bit to i && not y) (bit-or move.add move.del i))

  free_bit : (i : ℕ) → bit (bit_and (bit_or move.add move.del) (bit_not w16 move.pre)) i ≡ ((bit move.add i || bit move.del i) && not (bit move.pre i))
  free_bit i = bit-without (bit_or move.add move.del) move.pre i changed_fits need_fits ∙ ap (λ y. y && not (bit move.pre i)) (bit-or move.add move.del i)

  -- each set from which it leads to this one is made of what is fixed and of its part of what is free
  pub made_of : (mask : ℕ) → mask < 2 ^ 16 → has_all mask move.pre ≡ true → after_move move mask ≡ to → bit_or (bit_or (bit_and to (bit_not w16 (bit_or move.add move.del))) move.pre) (bit_and mask (bit_and (bit_or move.add move.del) (bit_not w16 move.pre))) ≡ mask
  made_of mask fits ready leads =
      same_bits _ _ (λ i.
      bit-or (bit_or (bit_and to (bit_not w16 (bit_or move.add move.del))) move.pre) (bit_and mask (bit_and (bit_or move.add move.del) (bit_not w16 move.pre))) i
      ∙ (λ j. fixed_bit i j || (bit-and mask (bit_and (bit_or move.add move.del) (bit_not w16 move.pre)) i ∙ ap (λ y. bit mask i && y) (free_bit i)) j)
      ∙ ap (λ y. ((y && not (bit move.add i || bit move.del i)) || bit move.pre i) || (bit mask i && ((bit move.add i || bit move.del i) && not (bit move.pre i))))
      (ap (λ n. bit n i) (sym leads) ∙ bit-after move mask i fits del_fits)
      ∙ put_together (bit mask i) (bit move.pre i) (bit move.add i) (bit move.del i) (has_bits mask move.pre ready i))

  module _ (part : ℕ) (is_part : bit_and part (bit_and (bit_or move.add move.del) (bit_not w16 move.pre)) ≡ part) where
    from_bit : (i : ℕ) → bit (bit_or (bit_or (bit_and to (bit_not w16 (bit_or move.add move.del))) move.pre) part) i ≡ (((bit to i && not (bit move.add i || bit move.del i)) || bit move.pre i) || bit part i)
    from_bit i = bit-or (bit_or (bit_and to (bit_not w16 (bit_or move.add move.del))) move.pre) part i ∙ ap (λ y. y || bit part i) (fixed_bit i)

    -- it may be done there
    pub is_ready : has_all (bit_or (bit_or (bit_and to (bit_not w16 (bit_or move.add move.del))) move.pre) part) move.pre ≡ true
    is_ready = has_from_bits _ move.pre (λ i. ap (λ y. y && bit move.pre i) (from_bit i) ∙ has_needs (bit to i) (bit move.pre i) (bit move.add i) (bit move.del i) (bit part i))

    -- and leads to this set, where it arrives
    pub does_lead : bit_or (bit_or (bit_and to (bit_not w16 (bit_or move.add move.del))) move.pre) part < 2 ^ 16 → bit_and to (bit_or move.pre (bit_or move.add move.del)) ≡ after_move move move.pre → after_move move (bit_or (bit_or (bit_and to (bit_not w16 (bit_or move.add move.del))) move.pre) part) ≡ to
    does_lead fits arrives =
        same_bits _ _ (λ i.
        bit-after move (bit_or (bit_or (bit_and to (bit_not w16 (bit_or move.add move.del))) move.pre) part) i fits del_fits
        ∙ ap (λ y. (y && not (bit move.del i)) || bit move.add i) (from_bit i)
        ∙ leads_back (bit to i) (bit move.pre i) (bit move.add i) (bit move.del i) (bit part i)
        (sym (bit-and to (bit_or move.pre (bit_or move.add move.del)) i ∙ ap (λ y. bit to i && y) (bit-or move.pre (bit_or move.add move.del) i ∙ ap (λ y. bit move.pre i || y) (bit-or move.add move.del i)))
        ∙ ap (λ n. bit n i) arrives ∙ bit-after move move.pre i need_fits del_fits)
        (sym (bit-and part (bit_and (bit_or move.add move.del) (bit_not w16 move.pre)) i ∙ ap (λ y. bit part i && y) (free_bit i)) ∙ ap (λ n. bit n i) is_part))
