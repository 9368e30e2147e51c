-- Abstract states: what they have, how many there are, and where operators lead from them.
use Rattle.std.proofs.Common.{◌≡◌, ℕ, zero, suc, ◌*◌, ◌^◌, ◌<◌, Bool, true, false, not, ◌&&◌, ◌||◌, eqb, List, [], ◌∷◌, length, map, filter, get_or, Contains, nat_cmp, refl, sym, ap, ◌∙◌, subst, ⊎_elim, arith}
use Rattle.std.proofs.Math.Nat.{pow-succ'}
use Rattle.std.proofs.lemmas.Bool.{false≢true, and_from, and_parts, or_cases, or_left, or_right, eqb-true, eq-eqb, not_from_true, both_ways, cases_Bool}
use Rattle.std.proofs.lemmas.List.{length-append, length-map, get_or-map}
use Rattle.std.proofs.lemmas.List.Elements.{Contains-get_or, Contains-append_left, Contains-append_right, Contains-append_cases}
use Rattle.std.specs.FinSet as set
use Rattle.mp_sets.specs.Numbers.{Numbers, holds, after}
use Rattle.mp_sets.proofs.NumbersLemmas.{contains-after, holds-member, holds_from_members, list_any-filter}
use Rattle.mp_sets.proofs.SetLemmas.{same_numbers, contains-insert_nat, contains-remove_nat}
use Rattle.mp_pdb.specs.Pattern.{is_in, of_pattern, abstract_state, abstract_states}

-- all facts of a state are of a pattern
abbrev pub IsOf : List ℕ → Numbers → Type 0
IsOf pattern s = (x : ℕ) → set.contains s x ≡ true → is_in pattern x ≡ true

contains_mapped : (xs : List Numbers) (y : ℕ) (s : Numbers) → Contains xs s → Contains (map (λ u. set.insert u y) xs) (set.insert s y)
contains_mapped xs y s (k, lt, e) = (
  k,
  (let h : k < length (map (λ u. set.insert u y) xs) = omega (arith, length-map xs (λ u. set.insert u y)) in h),
  get_or-map (λ u. set.insert u y) xs k s (set.insert s y) lt ∙ ap (λ u. set.insert u y) e,
)

mapped_from : (xs : List Numbers) (y : ℕ) (s : Numbers) → Contains (map (λ u. set.insert u y) xs) s → (u : Numbers) × Contains xs u × (set.insert u y ≡ s)
mapped_from xs y s (k, lt, e) =
    let within : k < length xs = omega (arith, length-map xs (λ u. set.insert u y)) in
    (get_or xs k s, Contains-get_or xs k s within, sym (get_or-map (λ u. set.insert u y) xs k s s within) ∙ e)

-- an abstract state has facts of the pattern alone

pub state_is_of : (pattern : List ℕ) (s : Numbers) → Contains (abstract_states pattern) s → IsOf pattern s
unfolding abstract_states
state_is_of [] s (zero, lt, e) = λ x here. absurd (false≢true (sym (set.contains-empty nat_cmp x) ∙ ap (λ u. set.contains u x) e ∙ here))
state_is_of [] s (suc k, lt, e) = absurd (omega arith)
state_is_of (y ∷ ys) s among = λ x here. ⊎_elim
    (λ low. or_right (eqb y x) (is_in ys x) (state_is_of ys s low x here))
    (λ high. by x here (mapped_from (abstract_states ys) y s high) (state_is_of ys))
    (Contains-append_cases (abstract_states ys) (map (λ u. set.insert u y) (abstract_states ys)) s among)
  where
    by : (x : ℕ) → set.contains s x ≡ true → (u : Numbers) × Contains (abstract_states ys) u × (set.insert u y ≡ s) → ((u : Numbers) → Contains (abstract_states ys) u → IsOf ys u) → (eqb y x || is_in ys x) ≡ true
    by x here (u, among_u, same) rest = ⊎_elim
        (λ e. or_left (eqb y x) (is_in ys x) (eq-eqb y x (sym (eqb-true x y e))))
        (λ e. or_right (eqb y x) (is_in ys x) (rest u among_u x e))
        (or_cases (eqb x y) (set.contains u x) (sym (contains-insert_nat u y x) ∙ ap (λ v. set.contains v x) same ∙ here))

-- and each set of them is one

put_back : (s : Numbers) (y : ℕ) → set.contains s y ≡ true → set.insert (set.remove s y) y ≡ s
put_back s y here =
    same_numbers _ _ (λ q.
    contains-insert_nat (set.remove s y) y q ∙ ap (λ b. eqb q y || b) (contains-remove_nat s y q) ∙ by q (eqb q y) refl)
  where
    by : (q : ℕ) (b : Bool) → eqb q y ≡ b → (b || (not b && set.contains s q)) ≡ set.contains s q
    by q true e = sym (ap (set.contains s) (eqb-true q y e) ∙ here)
    by q false e = refl

pub is_state : (pattern : List ℕ) (s : Numbers) → IsOf pattern s → Contains (abstract_states pattern) s
unfolding abstract_states
is_state [] s alone =
    (0, (let one : List Numbers = set.empty ∷ [] in let lt : 0 < length one = omega arith in lt), same_numbers set.empty s (λ q. set.contains-empty nat_cmp q ∙ sym (none q (set.contains s q) refl)))
  where
    none : (q : ℕ) (b : Bool) → set.contains s q ≡ b → set.contains s q ≡ false
    none q true e = absurd (false≢true (alone q e))
    none q false e = e
is_state (y ∷ ys) s alone = ⊎_elim
    (λ here.
    Contains-append_right (abstract_states ys) (map (λ u. set.insert u y) (abstract_states ys)) s
    (subst (Contains (map (λ u. set.insert u y) (abstract_states ys))) (put_back s y here)
    (contains_mapped (abstract_states ys) y (set.remove s y) (is_state ys (set.remove s y) without))))
    (λ out.
    Contains-append_left (abstract_states ys) (map (λ u. set.insert u y) (abstract_states ys)) s (is_state ys s (lacking out)))
    (cases_Bool (set.contains s y))
  where
    without : (x : ℕ) → set.contains (set.remove s y) x ≡ true → is_in ys x ≡ true
    without x e =
        let parts = and_parts (not (eqb x y)) (set.contains s x) (sym (contains-remove_nat s y x) ∙ e) in
        ⊎_elim
        (λ same. absurd (both_ways (not (eqb x y)) (not_from_true (eqb x y) (eq-eqb x y (sym (eqb-true y x same)))) parts.0))
        (λ later. later)
        (or_cases (eqb y x) (is_in ys x) (alone x parts.1))

    lacking : set.contains s y ≡ false → (x : ℕ) → set.contains s x ≡ true → is_in ys x ≡ true
    lacking out x e = ⊎_elim
        (λ same. absurd (both_ways (set.contains s y) out (ap (set.contains s) (eqb-true y x same) ∙ e)))
        (λ later. later)
        (or_cases (eqb y x) (is_in ys x) (alone x e))

pub length-abstract_states : (pattern : List ℕ) → length (abstract_states pattern) ≡ 2 ^ length pattern
unfolding abstract_states
length-abstract_states [] = refl
length-abstract_states (x ∷ xs) =
    let rest = length-abstract_states xs in
    let both = length-append (abstract_states xs) (map (λ s. set.insert s x) (abstract_states xs)) in
    let mapped : length (map (λ s. set.insert s x) (abstract_states xs)) ≡ length (abstract_states xs) = length-map (abstract_states xs) (λ s. set.insert s x) in
    let power : 2 ^ suc (length xs) ≡ 2 * 2 ^ length xs = pow-succ' 2 (length xs) in
    omega arith

-- what is true in the abstract state of a state

pub contains-abstract_state : (pattern : List ℕ) (s : Numbers) (x : ℕ) → set.contains (abstract_state pattern s) x ≡ (is_in pattern x && set.contains s x)
contains-abstract_state pattern s x = set.contains-from_list_nat (filter (set.contains s) pattern) x ∙ list_any-filter (set.contains s) x pattern

pub abstract_state_is_of : (pattern : List ℕ) (s : Numbers) → IsOf pattern (abstract_state pattern s)
abstract_state_is_of pattern s x e = (and_parts (is_in pattern x) (set.contains s x) (sym (contains-abstract_state pattern s x) ∙ e)).0

-- an operator leads from facts of a pattern to facts of it, where it adds no others
pub after_is_of : (pattern : List ℕ) (s : Numbers) (del add : List ℕ) → IsOf pattern s → IsOf pattern (after s (of_pattern pattern del) (of_pattern pattern add))
after_is_of pattern s del add alone x e = ⊎_elim
    (λ old. alone x (and_parts (set.contains s x) (not (is_in (of_pattern pattern del) x)) old).0)
    (λ new. (and_parts (is_in add x) (is_in pattern x) (sym (list_any-filter (is_in pattern) x add) ∙ new)).1)
    (or_cases (set.contains s x && not (is_in (of_pattern pattern del) x)) (is_in (of_pattern pattern add) x) (sym (contains-after s (of_pattern pattern del) (of_pattern pattern add) x) ∙ e))

-- to take the abstract state and to do an operator change places
pub abstract_state-after : (pattern : List ℕ) (s : Numbers) (del add : List ℕ) → after (abstract_state pattern s) (of_pattern pattern del) (of_pattern pattern add) ≡ abstract_state pattern (after s del add)
abstract_state-after pattern s del add =
    same_numbers _ _ (λ x.
    contains-after (abstract_state pattern s) (of_pattern pattern del) (of_pattern pattern add) x
    ∙ (λ i. (contains-abstract_state pattern s x i && not (list_any-filter (is_in pattern) x del i)) || list_any-filter (is_in pattern) x add i)
    ∙ both (is_in pattern x) (set.contains s x) (is_in del x) (is_in add x)
    ∙ sym (contains-abstract_state pattern (after s del add) x ∙ ap (λ b. is_in pattern x && b) (contains-after s del add x)))
  where
    both : (p c d a : Bool) → (((p && c) && not (d && p)) || (a && p)) ≡ (p && ((c && not d) || a))
    both true true true true = refl
    both true true true false = refl
    both true true false true = refl
    both true true false false = refl
    both true false d true = refl
    both true false true false = refl
    both true false false false = refl
    both false c true true = refl
    both false c true false = refl
    both false c false true = refl
    both false c false false = refl

-- what holds in a state holds, as far as it is of the pattern, in its abstract state
pub holds-abstract_state : (pattern : List ℕ) (s : Numbers) (xs : List ℕ) → holds s xs ≡ true → holds (abstract_state pattern s) (of_pattern pattern xs) ≡ true
holds-abstract_state pattern s xs all =
    holds_from_members (abstract_state pattern s) (of_pattern pattern xs) (λ q here.
    let parts = and_parts (is_in xs q) (is_in pattern q) (sym (list_any-filter (is_in pattern) q xs) ∙ here) in
    contains-abstract_state pattern s q ∙ and_from (is_in pattern q) (set.contains s q) parts.1 (holds-member s xs q all parts.0))
