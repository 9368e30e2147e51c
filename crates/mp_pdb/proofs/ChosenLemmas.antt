-- The sets of facts of a pattern that masks stand for.
use Rattle.std.proofs.Common.{◌≡◌, ℕ, zero, suc, ◌^◌, ◌<◌, ◌≤◌, Bool, true, false, cond, not, ◌&&◌, ◌||◌, eqb, ltb, List, [], ◌∷◌, length, filter, get_or, ◌⊎◌, inl, inr, refl, sym, ap, ◌∙◌, ⊎_elim, arith}
use Rattle.std.proofs.lemmas.Bool.{false≢true, and_parts, and_from, or_left, or_right, or_cases, eqb-true, eq-eqb, lt-ltb, le-ltb, cases_lt, and_right}
use Rattle.std.proofs.lemmas.List.{get_or_default}
use Rattle.std.proofs.lemmas.List.Folds.{Any-from_list_any, list_any_at}
use Rattle.std.specs.FinSet as set
use Rattle.mp_sets.specs.Numbers.{Numbers, holds, after}
use Rattle.mp_sets.proofs.NumbersLemmas.{contains-after, holds-member, holds_from_members, list_any-filter}
use Rattle.mp_sets.proofs.SetLemmas.{same_numbers}
use Rattle.mp_pdb.specs.declared.moves.Move.{Move}
use Rattle.mp_pdb.specs.Masks.{bit, Shows}
use Rattle.mp_pdb.specs.Moves.{has_all, after_move}
use Rattle.mp_pdb.specs.Pattern.{is_in, of_pattern, abstract_state}
use Rattle.mp_pdb.specs.Laws.States.{IsOf, contains-abstract_state}
use Rattle.mp_pdb.proofs.MoveLemmas.{bit-after, has_bits, has_from_bits}

-- the facts at places that pass a test
marked : List ℕ → (ℕ → Bool) → List ℕ
marked [] b = []
marked (x ∷ xs) b = cond (b 0) (x ∷ marked xs (λ i. b (suc i))) (marked xs (λ i. b (suc i)))

is_in-marked_cons : (y x : ℕ) (ys : List ℕ) (b : Bool) → is_in (cond b (y ∷ ys) ys) x ≡ ((b && eqb y x) || is_in ys x)
is_in-marked_cons y x ys true = refl
is_in-marked_cons y x ys false = refl

marked_within : (xs : List ℕ) (b : ℕ → Bool) (x : ℕ) → is_in (marked xs b) x ≡ true → is_in xs x ≡ true
unfolding marked
marked_within [] b x e = e
marked_within (y ∷ ys) b x e = ⊎_elim
    (λ here. or_left (eqb y x) (is_in ys x) (and_parts (b 0) (eqb y x) here).1)
    (λ later. or_right (eqb y x) (is_in ys x) (marked_within ys (λ i. b (suc i)) x later))
    (or_cases (b 0 && eqb y x) (is_in (marked ys (λ i. b (suc i))) x) (sym (is_in-marked_cons y x (marked ys (λ i. b (suc i))) (b 0)) ∙ e))

marked_at : (xs : List ℕ) (b : ℕ → Bool) (i : ℕ) → i < length xs → b i ≡ true → is_in (marked xs b) (get_or xs i 0) ≡ true
unfolding marked
marked_at [] b i lt e = absurd (omega arith)
marked_at (y ∷ ys) b zero lt e = is_in-marked_cons y y (marked ys (λ j. b (suc j))) (b 0) ∙ or_left (b 0 && eqb y y) _ (and_from (b 0) (eqb y y) e (eq-eqb y y refl))
marked_at (y ∷ ys) b (suc i) lt e =
    is_in-marked_cons y (get_or ys i 0) (marked ys (λ j. b (suc j))) (b 0)
    ∙ or_right (b 0 && eqb y (get_or ys i 0)) _ (marked_at ys (λ j. b (suc j)) i (omega arith) e)

marked_filter : (xs : List ℕ) (b f : ℕ → Bool) → ((i : ℕ) → i < length xs → b i ≡ f (get_or xs i 0)) → marked xs b ≡ filter f xs
unfolding marked
marked_filter [] b f same = refl
marked_filter (y ∷ ys) b f same =
    let rest = marked_filter ys (λ i. b (suc i)) f (λ i lt. same (suc i) (omega arith)) in
    λ j. cond (same 0 (omega arith) j) (y ∷ rest j) (rest j)

one_place : (b r d a s : Bool) → ((((b && not d) || a) && true) || ((r && not d) || (a && s))) ≡ ((((b && true) || r) && not d) || (a && (true || s)))
one_place true true true true true = refl
one_place true true true true false = refl
one_place true true true false true = refl
one_place true true true false false = refl
one_place true true false true true = refl
one_place true true false true false = refl
one_place true true false false true = refl
one_place true true false false false = refl
one_place true false true true true = refl
one_place true false true true false = refl
one_place true false true false true = refl
one_place true false true false false = refl
one_place true false false true true = refl
one_place true false false true false = refl
one_place true false false false true = refl
one_place true false false false false = refl
one_place false true true true true = refl
one_place false true true true false = refl
one_place false true true false true = refl
one_place false true true false false = refl
one_place false true false true true = refl
one_place false true false true false = refl
one_place false true false false true = refl
one_place false true false false false = refl
one_place false false true true true = refl
one_place false false true true false = refl
one_place false false true false true = refl
one_place false false true false false = refl
one_place false false false true true = refl
one_place false false false true false = refl
one_place false false false false true = refl
one_place false false false false false = refl

other_place : (x b r d t : Bool) → ((x && false) || ((r && not d) || t)) ≡ ((((b && false) || r) && not d) || t)
other_place true true r d t = refl
other_place true false r d t = refl
other_place false true r d t = refl
other_place false false r d t = refl

place : (e b r d a s dy ay : Bool) → (e ≡ true → dy ≡ d) → (e ≡ true → ay ≡ a) → ((((b && not dy) || ay) && e) || ((r && not d) || (a && s))) ≡ ((((b && e) || r) && not d) || (a && (e || s)))
place true b r d a s dy ay f g = (λ i. (((b && not (f refl i)) || g refl i) && true) || ((r && not d) || (a && s))) ∙ one_place b r d a s
place false b r d a s dy ay f g = other_place ((b && not dy) || ay) b r d (a && s)

marked_after : (xs : List ℕ) (b c d a : ℕ → Bool) (x : ℕ) → ((i : ℕ) → i < length xs → c i ≡ ((b i && not (d (get_or xs i 0))) || a (get_or xs i 0))) → is_in (marked xs c) x ≡ ((is_in (marked xs b) x && not (d x)) || (a x && is_in xs x))
unfolding marked
marked_after [] b c d a x same = nothing (a x)
  where
    nothing : (y : Bool) → false ≡ (y && false)
    nothing true = refl
    nothing false = refl
marked_after (y ∷ ys) b c d a x same =
    is_in-marked_cons y x (marked ys (λ i. c (suc i))) (c 0)
    ∙ (λ j. (same 0 (omega arith) j && eqb y x) || marked_after ys (λ i. b (suc i)) (λ i. c (suc i)) d a x (λ i lt. same (suc i) (omega arith)) j)
    ∙ place (eqb y x) (b 0) (is_in (marked ys (λ i. b (suc i))) x) (d x) (a x) (is_in ys x) (d y) (a y) (λ e. ap d (eqb-true y x e)) (λ e. ap a (eqb-true y x e))
    ∙ sym (ap (λ z. (z && not (d x)) || (a x && (eqb y x || is_in ys x))) (is_in-marked_cons y x (marked ys (λ i. b (suc i))) (b 0)))

-- the set of facts that a mask stands for

pub set_of : List ℕ → ℕ → Numbers
set_of pattern mask = set.from_list (marked pattern (bit mask))

contains-set_of : (pattern : List ℕ) (mask x : ℕ) → set.contains (set_of pattern mask) x ≡ is_in (marked pattern (bit mask)) x
unfolding set_of
contains-set_of pattern mask x = set.contains-from_list_nat (marked pattern (bit mask)) x

pub set_is_of : (pattern : List ℕ) (mask : ℕ) → IsOf pattern (set_of pattern mask)
set_is_of pattern mask x e = marked_within pattern (bit mask) x (sym (contains-set_of pattern mask x) ∙ e)

shown_at : (pattern : List ℕ) (f : ℕ → Bool) (mask i : ℕ) → Shows pattern f mask → i < length pattern → bit mask i ≡ f (get_or pattern i 0)
shown_at pattern f mask i shows lt = shows.bits i ∙ ap (λ l. l && f (get_or pattern i 0)) (lt-ltb i (length pattern) lt)

hidden_past : (pattern : List ℕ) (f : ℕ → Bool) (mask i : ℕ) → Shows pattern f mask → length pattern ≤ i → bit mask i ≡ false
hidden_past pattern f mask i shows past = shows.bits i ∙ ap (λ l. l && f (get_or pattern i 0)) (le-ltb i (length pattern) past)

-- it is the abstract state of a state whose facts the mask has
pub set_of_shown : (pattern : List ℕ) (s : Numbers) (mask : ℕ) → Shows pattern (set.contains s) mask → set_of pattern mask ≡ abstract_state pattern s
unfolding set_of
set_of_shown pattern s mask shows = ap set.from_list (marked_filter pattern (bit mask) (set.contains s) (λ i lt. shown_at pattern (set.contains s) mask i shows lt))

-- what a mask has all of holds in its set
pub set_holds : (pattern : List ℕ) (xs : List ℕ) (mask part : ℕ) → Shows pattern (is_in xs) part → has_all mask part ≡ true → holds (set_of pattern mask) (of_pattern pattern xs) ≡ true
set_holds pattern xs mask part shows all =
    holds_from_members (set_of pattern mask) (of_pattern pattern xs) (λ q here.
    let parts = and_parts (is_in xs q) (is_in pattern q) (sym (list_any-filter (is_in pattern) q xs) ∙ here) in
    let at = Any-from_list_any (λ y. eqb y q) pattern parts.1 in
    let there : get_or pattern at.0 0 ≡ q = get_or_default pattern at.0 0 at.1 at.2 ∙ at.3 ∙ eqb-true at.1 q at.4 in
    let one : bit part at.0 ≡ true = shown_at pattern (is_in xs) part at.0 shows at.2 ∙ ap (is_in xs) there ∙ parts.0 in
    let both : bit mask at.0 ≡ true = (and_parts (bit mask at.0) (bit part at.0) (has_bits mask part all at.0 ∙ one)).0 in
    contains-set_of pattern mask q ∙ ap (is_in (marked pattern (bit mask))) (sym there) ∙ marked_at pattern (bit mask) at.0 at.2 both)

-- to do a move and to take its set change places
pub set_of-after : (pattern del add : List ℕ) (move : Move) (mask : ℕ) → mask < 2 ^ 16 → move.del < 2 ^ 16 → Shows pattern (is_in del) move.del → Shows pattern (is_in add) move.add → set_of pattern (after_move move mask) ≡ after (set_of pattern mask) (of_pattern pattern del) (of_pattern pattern add)
set_of-after pattern del add move mask fits small dels adds =
    same_numbers _ _ (λ x.
    contains-set_of pattern (after_move move mask) x
    ∙ marked_after pattern (bit mask) (bit (after_move move mask)) (is_in del) (is_in add) x
    (λ i lt. bit-after move mask i fits small ∙ (λ j. (bit mask i && not (shown_at pattern (is_in del) move.del i dels lt j)) || shown_at pattern (is_in add) move.add i adds lt j))
    ∙ within (is_in (marked pattern (bit mask)) x) (is_in del x) (is_in pattern x) (is_in add x) (marked_within pattern (bit mask) x)
    ∙ sym (contains-after (set_of pattern mask) (of_pattern pattern del) (of_pattern pattern add) x
    ∙ (λ j. (contains-set_of pattern mask x j && not (list_any-filter (is_in pattern) x del j)) || list_any-filter (is_in pattern) x add j)))
  where
    within : (m d p a : Bool) → (m ≡ true → p ≡ true) → ((m && not d) || (a && p)) ≡ ((m && not (d && p)) || (a && p))
    within false d p a h = refl
    within true d true a h = by d
      where
        by : (d : Bool) → ((true && not d) || (a && true)) ≡ ((true && not (d && true)) || (a && true))
        by true = refl
        by false = refl
    within true d false a h = absurd (false≢true (h refl))

-- a mask with the facts of a state has all of a part exactly where that holds

pub has_shown : (pattern xs : List ℕ) (s : Numbers) (mask part : ℕ) → Shows pattern (set.contains s) mask → Shows pattern (is_in xs) part → holds s (of_pattern pattern xs) ≡ true → has_all mask part ≡ true
has_shown pattern xs s mask part shows parts all = has_from_bits mask part (λ i. by i (cases_lt i (length pattern)))
  where
    both : (m p : Bool) → (p ≡ true → m ≡ true) → (m && p) ≡ p
    both true p h = refl
    both false true h = h refl
    both false false h = refl

    by : (i : ℕ) → (i < length pattern) ⊎ (length pattern ≤ i) → (bit mask i && bit part i) ≡ bit part i
    by i (inl lt) =
        both (bit mask i) (bit part i) (λ e.
        shown_at pattern (set.contains s) mask i shows lt
        ∙ holds-member s (of_pattern pattern xs) (get_or pattern i 0) all
        (list_any-filter (is_in pattern) (get_or pattern i 0) xs
        ∙ and_from (is_in xs (get_or pattern i 0)) (is_in pattern (get_or pattern i 0)) (sym (shown_at pattern (is_in xs) part i parts lt) ∙ e)
        (list_any_at (λ y. eqb y (get_or pattern i 0)) pattern i 0 lt (eq-eqb (get_or pattern i 0) (get_or pattern i 0) refl))))
    by i (inr past) =
        let none = hidden_past pattern (is_in xs) part i parts past in
        and_right (bit mask i) (bit part i) none ∙ sym none

-- a mask with the facts of a state leads to one with the facts of the state after it

place_in : (pattern : List ℕ) (i : ℕ) → i < length pattern → is_in pattern (get_or pattern i 0) ≡ true
place_in pattern i lt = list_any_at (λ y. eqb y (get_or pattern i 0)) pattern i 0 lt (eq-eqb (get_or pattern i 0) (get_or pattern i 0) refl)

contains_next : (pattern del add : List ℕ) (s : Numbers) (i : ℕ) → i < length pattern → set.contains (after s (of_pattern pattern del) (of_pattern pattern add)) (get_or pattern i 0) ≡ ((set.contains s (get_or pattern i 0) && not (is_in del (get_or pattern i 0))) || is_in add (get_or pattern i 0))
contains_next pattern del add s i lt =
    let x : ℕ = get_or pattern i 0 in
    contains-after s (of_pattern pattern del) (of_pattern pattern add) x
    ∙ (λ j. (set.contains s x && not ((list_any-filter (is_in pattern) x del ∙ and_true (is_in del x) (is_in pattern x) (place_in pattern i lt)) j)) || (list_any-filter (is_in pattern) x add ∙ and_true (is_in add x) (is_in pattern x) (place_in pattern i lt)) j)
  where
    and_true : (x y : Bool) → y ≡ true → (x && y) ≡ x
    and_true true y e = e
    and_true false y e = refl

pub shows-after : (pattern del add : List ℕ) (s : Numbers) (move : Move) (mask : ℕ) → mask < 2 ^ 16 → move.del < 2 ^ 16 → Shows pattern (is_in del) move.del → Shows pattern (is_in add) move.add → Shows pattern (set.contains s) mask → Shows pattern (set.contains (after s (of_pattern pattern del) (of_pattern pattern add))) (after_move move mask)
shows-after pattern del add s move mask fits small dels adds shows = record {
  bits = λ i. bit-after move mask i fits small ∙ by i (cases_lt i (length pattern));
}
  where
    by : (i : ℕ) → (i < length pattern) ⊎ (length pattern ≤ i) → ((bit mask i && not (bit move.del i)) || bit move.add i) ≡ (ltb i (length pattern) && set.contains (after s (of_pattern pattern del) (of_pattern pattern add)) (get_or pattern i 0))
    by i (inl lt) =
        (λ j. (shown_at pattern (set.contains s) mask i shows lt j && not (shown_at pattern (is_in del) move.del i dels lt j)) || shown_at pattern (is_in add) move.add i adds lt j)
        ∙ sym (ap (λ l. l && set.contains (after s (of_pattern pattern del) (of_pattern pattern add)) (get_or pattern i 0)) (lt-ltb i (length pattern) lt) ∙ contains_next pattern del add s i lt)
    by i (inr past) =
        (λ j. (hidden_past pattern (set.contains s) mask i shows past j && not (bit move.del i)) || hidden_past pattern (is_in add) move.add i adds past j)
        ∙ sym (ap (λ l. l && set.contains (after s (of_pattern pattern del) (of_pattern pattern add)) (get_or pattern i 0)) (le-ltb i (length pattern) past))

-- where a move changes nothing, it is the same mask
pub shows-idle : (pattern pre del add : List ℕ) (s : Numbers) (move : Move) (mask : ℕ) → Shows pattern (is_in pre) move.pre → Shows pattern (is_in del) move.del → Shows pattern (is_in add) move.add → has_all move.pre move.add ≡ true → has_all move.add move.del ≡ true → has_all mask move.pre ≡ true → Shows pattern (set.contains s) mask → Shows pattern (set.contains (after s (of_pattern pattern del) (of_pattern pattern add))) mask
shows-idle pattern pre del add s move mask pres dels adds needed added ready shows = record { bits = λ i. by i (cases_lt i (length pattern)) }
  where
    still : (m p a d : Bool) → (p && a) ≡ a → (a && d) ≡ d → (m && p) ≡ p → m ≡ ((m && not d) || a)
    still m p true true e f g = by m p e g
      where
        by : (m p : Bool) → (p && true) ≡ true → (m && p) ≡ p → m ≡ ((m && false) || true)
        by true p e g = refl
        by false true e g = absurd (false≢true g)
        by false false e g = absurd (false≢true e)
    still m p true false e f g = by m p e g
      where
        by : (m p : Bool) → (p && true) ≡ true → (m && p) ≡ p → m ≡ ((m && true) || true)
        by true p e g = refl
        by false true e g = absurd (false≢true g)
        by false false e g = absurd (false≢true e)
    still m p false true e f g = absurd (false≢true f)
    still true p false false e f g = refl
    still false p false false e f g = refl

    by : (i : ℕ) → (i < length pattern) ⊎ (length pattern ≤ i) → bit mask i ≡ (ltb i (length pattern) && set.contains (after s (of_pattern pattern del) (of_pattern pattern add)) (get_or pattern i 0))
    by i (inl lt) =
        still (bit mask i) (bit move.pre i) (bit move.add i) (bit move.del i) (has_bits move.pre move.add needed i) (has_bits move.add move.del added i) (has_bits mask move.pre ready i)
        ∙ (λ j. (shown_at pattern (set.contains s) mask i shows lt j && not (shown_at pattern (is_in del) move.del i dels lt j)) || shown_at pattern (is_in add) move.add i adds lt j)
        ∙ sym (ap (λ l. l && set.contains (after s (of_pattern pattern del) (of_pattern pattern add)) (get_or pattern i 0)) (lt-ltb i (length pattern) lt) ∙ contains_next pattern del add s i lt)
    by i (inr past) =
        hidden_past pattern (set.contains s) mask i shows past
        ∙ sym (ap (λ l. l && set.contains (after s (of_pattern pattern del) (of_pattern pattern add)) (get_or pattern i 0)) (le-ltb i (length pattern) past))

-- and a mask with the facts of a state has those of its abstract state
pub shows_abstract : (pattern : List ℕ) (s : Numbers) (mask : ℕ) → Shows pattern (set.contains s) mask → Shows pattern (set.contains (abstract_state pattern s)) mask
shows_abstract pattern s mask shows = record {
  bits = λ i. shows.bits i ∙ by i (cases_lt i (length pattern));
}
  where
    by : (i : ℕ) → (i < length pattern) ⊎ (length pattern ≤ i) → (ltb i (length pattern) && set.contains s (get_or pattern i 0)) ≡ (ltb i (length pattern) && set.contains (abstract_state pattern s) (get_or pattern i 0))
    by i (inl lt) =
        ap (λ y. ltb i (length pattern) && y)
        (sym (contains-abstract_state pattern s (get_or pattern i 0) ∙ ap (λ y. y && set.contains s (get_or pattern i 0)) (place_in pattern i lt)))
    by i (inr past) =
        (λ j. le-ltb i (length pattern) past j && set.contains s (get_or pattern i 0))
        ∙ sym (λ j. le-ltb i (length pattern) past j && set.contains (abstract_state pattern s) (get_or pattern i 0))
