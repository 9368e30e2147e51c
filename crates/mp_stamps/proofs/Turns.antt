-- What a turn takes of a list that rises, and which turn comes next.
use Rattle.std.proofs.Common.{◌≡◌, ℕ, ◌+◌, ◌<◌, ◌≤◌, Bool, true, false, List, [], ◌∷◌, ◌++◌, length, get_or, refl, sym, ap, subst, ◌∙◌, arith, append_assoc, Some, None}
use Rattle.std.specs.Prelude.{All, Option, nat_lt, min}
use Rattle.std.proofs.lemmas.Bool.{le-ltb, ltb-false, ltb-true}
use Rattle.std.proofs.lemmas.List.{length-append}
use Rattle.std.proofs.lemmas.List.Elements.{All-append, All-cons, All-head, All-nil, All-push, All-tail, All-weaker}
use Rattle.mp_stamps.specs.Lists.{Rises}
use Rattle.mp_stamps.specs.Turns.{Begins, BeginsAfter, BeginsFrom, IsTurn, IsTurnOf, left_behind, up_to}
use Rattle.mp_stamps.specs.declared.merging.Turn.{Turn}
use Rattle.mp_stamps.specs.declared.stamped.Stamped.{Stamped}
use Rattle.mp_stamps.proofs.Filters.{pairs_head, pairs_tail}
use Rattle.mp_stamps.proofs.Parts.{flat}
use Rattle.mp_stamps.proofs.Sorted.{From}

abbrev pub UpTo : ℕ → Stamped → Type 0
UpTo n s = s.stamp ≤ n

abbrev pub Later : ℕ → Stamped → Type 0
Later n s = n < s.stamp

abbrev pub Earlier : Stamped → Stamped → Type 0
Earlier a b = a.stamp < b.stamp

-- ---- the entries up to a stamp, and the others

module _ (last : ℕ) where
  pub ended : (s : Stamped) (ss : List Stamped) → nat_lt last s.stamp ≡ true → up_to last (s ∷ ss) ≡ []
  ended s ss e = rw e refl

  pub taken : (s : Stamped) (ss : List Stamped) → nat_lt last s.stamp ≡ false → up_to last (s ∷ ss) ≡ s ∷ up_to last ss
  taken s ss e = rw e refl

  pub kept : (s : Stamped) (ss : List Stamped) → nat_lt last s.stamp ≡ true → left_behind last (s ∷ ss) ≡ s ∷ ss
  kept s ss e = rw e refl

  pub passed : (s : Stamped) (ss : List Stamped) → nat_lt last s.stamp ≡ false → left_behind last (s ∷ ss) ≡ left_behind last ss
  passed s ss e = rw e refl

  one_split : (s : Stamped) (ss : List Stamped) (b : Bool) → nat_lt last s.stamp ≡ b → up_to last ss ++ left_behind last ss ≡ ss
      → up_to last (s ∷ ss) ++ left_behind last (s ∷ ss) ≡ s ∷ ss
  one_split s ss true e rest = rw e refl
  one_split s ss false e rest = rw e (ap (λ l. s ∷ l) rest)

  pub split : (xs : List Stamped) → up_to last xs ++ left_behind last xs ≡ xs
  split [] = refl
  split (s ∷ ss) = one_split s ss (nat_lt last s.stamp) refl (split ss)

  one_low : (s : Stamped) (ss : List Stamped) (b : Bool) → nat_lt last s.stamp ≡ b → All (UpTo last) (up_to last ss) → All (UpTo last) (up_to last (s ∷ ss))
  one_low s ss true e rest = subst (All (UpTo last)) (sym (ended s ss e)) (All-nil (UpTo last))
  one_low s ss false e rest = subst (All (UpTo last)) (sym (taken s ss e)) (All-cons (UpTo last) s (up_to last ss) (ltb-false last s.stamp e) rest)

  pub taken_low : (xs : List Stamped) → All (UpTo last) (up_to last xs)
  taken_low [] = All-nil (UpTo last)
  taken_low (s ∷ ss) = one_low s ss (nat_lt last s.stamp) refl (taken_low ss)

  pub all_later : (s : Stamped) (ss : List Stamped) → last < s.stamp → Rises (s ∷ ss) → All (Later last) (s ∷ ss)
  all_later s ss high rises = All-cons (Later last) s ss high
      (All-weaker (Earlier s) (Later last) (λ (t : Stamped) h. omega arith) ss (pairs_head Earlier s ss rises))

  one_high : (s : Stamped) (ss : List Stamped) (b : Bool) → nat_lt last s.stamp ≡ b → Rises (s ∷ ss) → All (Later last) (left_behind last ss) → All (Later last) (left_behind last (s ∷ ss))
  one_high s ss true e rises rest = subst (All (Later last)) (sym (kept s ss e)) (all_later s ss (ltb-true last s.stamp e) rises)
  one_high s ss false e rises rest = subst (All (Later last)) (sym (passed s ss e)) rest

  pub left_high : (xs : List Stamped) → Rises xs → All (Later last) (left_behind last xs)
  left_high [] rises = All-nil (Later last)
  left_high (s ∷ ss) rises = one_high s ss (nat_lt last s.stamp) refl rises (left_high ss (pairs_tail Earlier s ss rises))

  one_rises : (s : Stamped) (ss : List Stamped) (b : Bool) → nat_lt last s.stamp ≡ b → Rises (s ∷ ss) → Rises (left_behind last ss) → Rises (left_behind last (s ∷ ss))
  one_rises s ss true e rises rest = subst Rises (sym (kept s ss e)) rises
  one_rises s ss false e rises rest = subst Rises (sym (passed s ss e)) rest

  pub left_rises : (xs : List Stamped) → Rises xs → Rises (left_behind last xs)
  left_rises [] rises = rises
  left_rises (s ∷ ss) rises = one_rises s ss (nat_lt last s.stamp) refl rises (left_rises ss (pairs_tail Earlier s ss rises))

  -- whoever begins up to the stamp gives an entry
  pub gives_one : (stamp : ℕ) (xs : List Stamped) → Begins stamp xs → stamp ≤ last → 0 < length (up_to last xs)
  gives_one stamp [] begins low = absurd begins
  gives_one stamp (s ∷ ss) begins low =
      let same : s.stamp ≡ stamp = begins in
      subst (λ (l : List Stamped). 0 < length l) (sym (taken s ss (le-ltb last s.stamp (omega arith)))) (omega arith)

  pub fewer : (stamp : ℕ) (xs : List Stamped) → Begins stamp xs → stamp ≤ last → length (left_behind last xs) < length xs
  fewer stamp xs begins low =
      let some = gives_one stamp xs begins low in
      let both : length (up_to last xs) + length (left_behind last xs) ≡ length xs = sym (length-append (up_to last xs) (left_behind last xs)) ∙ ap length (split xs) in
      omega arith

-- ---- where lists begin

pub later_flat : (n : ℕ) (lists : List (List Stamped)) → All (BeginsAfter n) lists → All Rises lists → All (Later n) (flat lists)
later_flat n [] begin rise = All-nil (Later n)
later_flat n (list ∷ lists) begin rise = All-append (Later n) list (flat lists)
    (of_list list (All-head (BeginsAfter n) list lists begin) (All-head Rises list lists rise))
    (later_flat n lists (All-tail (BeginsAfter n) list lists begin) (All-tail Rises list lists rise))
  where
    of_list : (xs : List Stamped) → BeginsAfter n xs → Rises xs → All (Later n) xs
    of_list [] begins rises = All-nil (Later n)
    of_list (s ∷ ss) begins rises = all_later n s ss begins rises

pub from_flat : (n : ℕ) (lists : List (List Stamped)) → All (BeginsFrom n) lists → All Rises lists → All (From n) (flat lists)
from_flat n [] begin rise = All-nil (From n)
from_flat n (list ∷ lists) begin rise = All-append (From n) list (flat lists)
    (of_list list (All-head (BeginsFrom n) list lists begin) (All-head Rises list lists rise))
    (from_flat n lists (All-tail (BeginsFrom n) list lists begin) (All-tail Rises list lists rise))
  where
    of_list : (xs : List Stamped) → BeginsFrom n xs → Rises xs → All (From n) xs
    of_list [] begins rises = All-nil (From n)
    of_list (s ∷ ss) begins rises = let low : n ≤ s.stamp = begins in All-cons (From n) s ss low
        (All-weaker (Earlier s) (From n) (λ (t : Stamped) h. omega arith) ss (pairs_head Earlier s ss rises))

-- ---- the turn among one list more

after_less : (m n : ℕ) → m ≤ n → (xs : List Stamped) → BeginsAfter n xs → BeginsAfter m xs
after_less m n le [] begins = tt
after_less m n le (s ∷ ss) begins = let high : n < s.stamp = begins in omega arith

from_less : (m n : ℕ) → m ≤ n → (xs : List Stamped) → BeginsFrom n xs → BeginsFrom m xs
from_less m n le [] begins = tt
from_less m n le (s ∷ ss) begins = let high : n ≤ s.stamp = begins in omega arith

after_from : (m n : ℕ) → m < n → (xs : List Stamped) → BeginsFrom n xs → BeginsAfter m xs
after_from m n lt [] begins = tt
after_from m n lt (s ∷ ss) begins = let high : n ≤ s.stamp = begins in omega arith

after_begins : (m n : ℕ) → m < n → (xs : List Stamped) → Begins n xs → BeginsAfter m xs
after_begins m n lt [] begins = absurd begins
after_begins m n lt (s ∷ ss) begins = let same : s.stamp ≡ n = begins in omega arith

from_begins : (m n : ℕ) → m ≤ n → (xs : List Stamped) → Begins n xs → BeginsFrom m xs
from_begins m n le [] begins = absurd begins
from_begins m n le (s ∷ ss) begins = let same : s.stamp ≡ n = begins in omega arith

-- an empty list has no turn
pub turn_stays : (lists : List (List Stamped)) (turn : Option Turn) → IsTurn lists turn → IsTurn (lists ++ [] ∷ []) turn
turn_stays lists None is = All-push (λ (list : List Stamped). list ≡ []) lists [] is refl
turn_stays lists (Some turn) is = record {
  before = is.before;
  own = is.own;
  behind = is.behind ++ [] ∷ [];
  is = ap (λ (l : List (List Stamped)). l ++ [] ∷ []) is.is ∙ append_assoc is.before (is.own ∷ is.behind) ([] ∷ []);
  place = is.place;
  begins = is.begins;
  in_time = is.in_time;
  after = is.after;
  from = All-push (BeginsFrom turn.last) is.behind [] is.from tt;
}

pub first_turn : (lists : List (List Stamped)) (list : List Stamped) (turn : Turn) → All (λ (l : List Stamped). l ≡ []) lists
    → length lists ≡ turn.at → Begins turn.stamp list → turn.stamp ≤ turn.last → IsTurnOf (lists ++ list ∷ []) turn
first_turn lists list turn none place begins low = record {
  before = lists;
  own = list;
  behind = [];
  is = refl;
  place = place;
  begins = begins;
  in_time = low;
  after = All-weaker (λ (l : List Stamped). l ≡ []) (BeginsAfter turn.last) (λ l e. subst (BeginsAfter turn.last) (sym e) tt) lists none;
  from = All-nil (BeginsFrom turn.last);
}

-- a list that begins earlier has the turn, up to where the other begins
pub earlier_turn : (lists : List (List Stamped)) (list : List Stamped) (old turn : Turn) → IsTurnOf lists old → length lists ≡ turn.at
    → Begins turn.stamp list → turn.stamp < old.stamp → turn.last + 1 ≡ old.stamp → IsTurnOf (lists ++ list ∷ []) turn
earlier_turn lists list old turn is place begins low last = record {
  before = lists;
  own = list;
  behind = [];
  is = refl;
  place = place;
  begins = begins;
  in_time = omega arith;
  after = subst (All (BeginsAfter turn.last)) (sym is.is) (All-append (BeginsAfter turn.last) is.before (is.own ∷ is.behind)
      (All-weaker (BeginsAfter old.last) (BeginsAfter turn.last) (after_less turn.last old.last (let t = is.in_time in omega arith)) is.before is.after)
      (All-cons (BeginsAfter turn.last) is.own is.behind (after_begins turn.last old.stamp (omega arith) is.own is.begins)
      (All-weaker (BeginsFrom old.last) (BeginsAfter turn.last) (after_from turn.last old.last (let t = is.in_time in omega arith)) is.behind is.from)));
  from = All-nil (BeginsFrom turn.last);
}

-- a list that begins later bounds the turn
pub bounded_turn : (lists : List (List Stamped)) (list : List Stamped) (old : Turn) (stamp : ℕ) → IsTurnOf lists old
    → Begins stamp list → old.stamp ≤ stamp → IsTurnOf (lists ++ list ∷ []) (record old { last = min old.last stamp })
bounded_turn lists list old stamp is begins low = record {
  before = is.before;
  own = is.own;
  behind = is.behind ++ list ∷ [];
  is = ap (λ (l : List (List Stamped)). l ++ list ∷ []) is.is ∙ append_assoc is.before (is.own ∷ is.behind) (list ∷ []);
  place = is.place;
  begins = is.begins;
  in_time = let t = is.in_time in omega arith;
  after = All-weaker (BeginsAfter old.last) (BeginsAfter (min old.last stamp)) (after_less (min old.last stamp) old.last (omega arith)) is.before is.after;
  from = All-push (BeginsFrom (min old.last stamp)) is.behind list
      (All-weaker (BeginsFrom old.last) (BeginsFrom (min old.last stamp)) (from_less (min old.last stamp) old.last (omega arith)) is.behind is.from)
      (from_begins (min old.last stamp) stamp (omega arith) list begins);
}

-- ---- the first entry of a list

pub begins_at : (xs : List Stamped) (s : Stamped) → 1 ≤ length xs → s ≡ get_or xs 0 s → Begins s.stamp xs
begins_at [] s long is = absurd (omega arith)
begins_at (x ∷ xs) s long is = ap (λ (y : Stamped). y.stamp) (sym is)
