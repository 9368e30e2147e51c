-- What is done at a source, one act after another.
use Rattle.std.proofs.Common.{◌≡◌, ℕ, ◌+◌, ◌≤◌, List, [], ◌∷◌, ◌++◌, map, Option, Some, None, refl, sym, ap, subst, ◌∙◌, arith, inl, append_assoc}
use Rattle.std.proofs.lemmas.List.{append-nil}
use Rattle.std.proofs.lemmas.List.Sums.{sum_by_push}
use Rattle.std.specs.Prelude.{⊤}
use Rattle.std.specs.List.{sum}
use Rattle.mp_outside.specs.Acts.{Act, AreReadInTurn, AreReads, AreSomeButLast, FileAsked, Does, IsReadOnce, Takes, TakesUpTo}
use Rattle.mp_outside.specs.Acts.Act.{took}

-- ---- acts of a source that may tell them

-- nothing was done
pub did_nothing : (Such : List Act → Type 0) (old new : Option (List Act)) → new ≡ old → Such [] → Does Such old new
did_nothing Such old new same such = subst (λ o. Does Such old o) (sym same) (by old)
  where
    by : (o : Option (List Act)) → Does Such o o
    by None = refl
    by (Some xs) = ([], sym (append-nil xs), such)

-- what was done first, and what was done then
pub did_more : (Such Then Both : List Act → Type 0) (a b c : Option (List Act)) → ((xs ys : List Act) → Such xs → Then ys → Both (xs ++ ys)) → Does Such a b → Does Then b c → Does Both a c
did_more Such Then Both None b c both first then = subst (λ (o : Option (List Act)). Does Then o c) first then
did_more Such Then Both (Some old) None c both first then = subst (λ (o : Option (List Act)). Does Both (Some old) o) (sym then) tt
did_more Such Then Both (Some old) (Some mid) None both first then = tt
did_more Such Then Both (Some old) (Some mid) (Some new) both first then = (
  first.0 ++ then.0,
  then.1 ∙ ap (λ xs. xs ++ then.0) first.1 ∙ append_assoc old first.0 then.0,
  both first.0 then.0 first.2 then.2,
)

-- what is such is also so
pub did_so : (Such So : List Act → Type 0) (a b : Option (List Act)) → ((xs : List Act) → Such xs → So xs) → Does Such a b → Does So a b
did_so Such So None b weaker h = h
did_so Such So (Some old) None weaker h = tt
did_so Such So (Some old) (Some new) weaker h = (h.0, h.1, weaker h.0 h.2)

-- ---- reads of one file

-- each of these is at least 1
abbrev pub AreSome : List ℕ → Type 0
AreSome [] = ⊤
AreSome (n ∷ ns) = (1 ≤ n) × AreSome ns

-- reads took so many bytes together, each at least one
pub record HaveTaken (done : ℕ) (acts : List Act) : Type 0 where
  pub counts : List ℕ
  pub acts_are : acts ≡ map took counts
  pub sum_is : sum counts ≡ done
  pub some : AreSome counts

pub none_taken : HaveTaken 0 []
none_taken = record { counts = []; acts_are = refl; sum_is = refl; some = tt }

map_push : (xs : List ℕ) (n : ℕ) → map took xs ++ took n ∷ [] ≡ map took (xs ++ n ∷ [])
map_push [] n = refl
map_push (x ∷ xs) n = ap (λ acts. took x ∷ acts) (map_push xs n)

all_push : (xs : List ℕ) (n : ℕ) → AreSome xs → 1 ≤ n → AreSome (xs ++ n ∷ [])
all_push [] n all here = (here, tt)
all_push (x ∷ xs) n all here = (all.0, all_push xs n all.1 here)

some_last : (xs : List ℕ) → AreSome xs → AreSomeButLast xs
some_last [] all = tt
some_last (x ∷ []) all = tt
some_last (x ∷ y ∷ xs) all = (all.0, some_last (y ∷ xs) all.1)

some_push : (xs : List ℕ) (n : ℕ) → AreSome xs → AreSomeButLast (xs ++ n ∷ [])
some_push [] n all = tt
some_push (x ∷ []) n all = (all.0, tt)
some_push (x ∷ y ∷ xs) n all = (all.0, some_push (y ∷ xs) n all.1)

pushed : (done n : ℕ) (xs ys : List Act) (h : HaveTaken done xs) → Takes n ys → xs ++ ys ≡ map took (h.counts ++ n ∷ [])
pushed done n xs ys h is = ap (λ acts. xs ++ acts) is ∙ ap (λ acts. acts ++ took n ∷ []) h.acts_are ∙ map_push h.counts n

sum_pushed : (xs : List ℕ) (n : ℕ) → sum (xs ++ n ∷ []) ≡ sum xs + n
sum_pushed xs n = sum_by_push (λ x. x) xs n

-- one more read that takes something
pub taken_more : (done n : ℕ) (xs ys : List Act) → 1 ≤ n → HaveTaken done xs → Takes n ys → HaveTaken (done + n) (xs ++ ys)
taken_more done n xs ys some h is = record {
  counts = h.counts ++ n ∷ [];
  acts_are = pushed done n xs ys h is;
  sum_is = sum_pushed h.counts n ∙ ap (λ s. s + n) h.sum_is;
  some = all_push h.counts n h.some some;
}

-- reads up to here
pub taken_all : (done most : ℕ) (xs : List Act) → done ≤ most → HaveTaken done xs → AreReads most xs
taken_all done most xs few h = record {
  counts = h.counts;
  acts_are = h.acts_are;
  at_most = let s = h.sum_is in omega arith;
  some = some_last h.counts h.some;
}

-- and a last one
pub taken_last : (done room most : ℕ) (xs ys : List Act) → done + room ≤ most → HaveTaken done xs → TakesUpTo room ys → AreReads most (xs ++ ys)
taken_last done room most xs ys few h last = record {
  counts = h.counts ++ last.0 ∷ [];
  acts_are = pushed done last.0 xs ys h last.2;
  at_most = let s = h.sum_is in let t = sum_pushed h.counts last.0 in let u = last.1 in omega arith;
  some = some_push h.counts last.0 h.some;
}

-- ---- the same of a source

-- no read yet
pub none_yet : (start : Option (List Act)) (done : ℕ) → done ≡ 0 → Does (HaveTaken done) start start
none_yet start done none = did_nothing (HaveTaken done) start start refl (subst (λ n. HaveTaken n []) (sym none) none_taken)

-- one read more
pub one_more : (start old new : Option (List Act)) (before count done : ℕ) → Does (HaveTaken before) start old → Does (Takes count) old new → 1 ≤ count → before + count ≡ done
    → Does (HaveTaken done) start new
one_more start old new before count done h k some all =
    did_more (HaveTaken before) (Takes count) (HaveTaken done) start old new
    (λ xs ys a b. subst (λ n. HaveTaken n (xs ++ ys)) all (taken_more before count xs ys some a b)) h k

-- a last read
pub last_one : (start old new : Option (List Act)) (before room most : ℕ) → Does (HaveTaken before) start old → Does (TakesUpTo room) old new → before + room ≤ most
    → Does (AreReads most) start new
last_one start old new before room most h k few =
    did_more (HaveTaken before) (TakesUpTo room) (AreReads most) start old new (λ xs ys a b. taken_last before room most xs ys few a b) h k

pub last_count : (start old new : Option (List Act)) (before count most : ℕ) → Does (HaveTaken before) start old → Does (Takes count) old new → before + count ≤ most
    → Does (AreReads most) start new
last_count start old new before count most h k few =
    last_one start old new before count most h (did_so (Takes count) (TakesUpTo count) old new (λ xs a. (count, omega arith, a)) k) few

-- no read more
pub no_more : (start now : Option (List Act)) (done most : ℕ) → Does (HaveTaken done) start now → done ≤ most → Does (AreReads most) start now
no_more start now done most h few = did_so (HaveTaken done) (AreReads most) start now (λ xs a. taken_all done most xs few a) h

-- ---- files one after another

pub none_read : (files : List FileAsked) → AreReadInTurn files []
none_read [] = refl
none_read (file ∷ files) = ([], [], refl, inl refl, none_read files)

pub read_on : (files more : List FileAsked) (xs ys : List Act) → AreReadInTurn files xs → AreReadInTurn more ys → AreReadInTurn (files ++ more) (xs ++ ys)
read_on [] more xs ys h k = subst (λ acts. AreReadInTurn more (acts ++ ys)) (sym h) k
read_on (file ∷ files) more xs ys h k = (
  h.0,
  h.1 ++ ys,
  ap (λ acts. acts ++ ys) h.2 ∙ append_assoc h.0 h.1 ys,
  h.3,
  read_on files more h.1 ys h.4 k,
)

-- one file alone
pub read_alone : (file : FileAsked) (xs : List Act) → IsReadOnce file xs → AreReadInTurn (file ∷ []) xs
read_alone file xs once = (xs, [], sym (append-nil xs), once, refl)

-- and none of those behind them
pub read_first : (files more : List FileAsked) (xs : List Act) → AreReadInTurn files xs → AreReadInTurn (files ++ more) xs
read_first files more xs reads = subst (AreReadInTurn (files ++ more)) (append-nil xs) (read_on files more xs [] reads (none_read more))
