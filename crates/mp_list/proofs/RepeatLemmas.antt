-- Items that repeat earlier ones, as a loop over the items finds them.
use Rattle.std.proofs.Common.{◌≡◌, ℕ, zero, suc, ◌+◌, ◌<◌, ◌≤◌, Bool, true, false, List, [], ◌∷◌, ◌++◌, map, length, get_or, take, drop, Option, refl, sym, ap, ◌∙◌, drop-cons, subst, arith, inl, inr}
use Rattle.std.specs.Prelude.{Contains}
use Rattle.std.proofs.Math.ListN.{drop_of_length-le}
use Rattle.std.proofs.lemmas.List.{take_more, map-append, append-nil, append_assoc}
use Rattle.std.proofs.lemmas.List.Elements.{Contains-append_cases, Contains-append_left, Contains-append_right}
use Rattle.mp_list.specs.First.{leftmost}
use Rattle.mp_list.specs.Repeats.{is_among_keys, if_repeated, repeats_behind, RepeatsAt}
use Rattle.mp_list.proofs.FirstLemmas.{leftmost_append}
use Rattle.mp_list.proofs.Members.{contains_head, contains_one, no_member}

-- the items of one list and then of another: those of the second may repeat those of the first too
pub repeats_append : {K X : Type 0} (same : K → K → Bool) (key_of : X → K) (keys : List K) (xs ys : List X)
    → repeats_behind same key_of keys (xs ++ ys) ≡ repeats_behind same key_of keys xs ++ repeats_behind same key_of (keys ++ map key_of xs) ys
unfolding repeats_behind
repeats_append same key_of keys [] ys = ap (λ (ks : List _). repeats_behind same key_of ks ys) (sym (append-nil keys))
repeats_append same key_of keys (x ∷ xs) ys =
    let one : List _ = if_repeated (is_among_keys same keys (key_of x)) x in
    ap (λ (zs : List _). one ++ zs) (repeats_append same key_of (keys ++ key_of x ∷ []) xs ys)
    ∙ sym (append_assoc one (repeats_behind same key_of (keys ++ key_of x ∷ []) xs)
    (repeats_behind same key_of (keys ++ key_of x ∷ [] ++ map key_of xs) ys))
    ∙ ap (λ (ks : List _). one ++ repeats_behind same key_of (keys ++ key_of x ∷ []) xs ++ repeats_behind same key_of ks ys)
    (append_assoc keys (key_of x ∷ []) (map key_of xs))

-- the keys of the items so far, with that of the next one
keys_more : {K X : Type 0} (key_of : X → K) (xs : List X) (i : ℕ) (x : X) → i < length xs → x ≡ get_or xs i x
    → map key_of (take (i + 1) xs) ≡ map key_of (take i xs) ++ key_of x ∷ []
keys_more key_of xs i x lt is =
    ap (map key_of) (take_more xs i x lt ∙ ap (λ (y : _). take i xs ++ y ∷ []) (sym is)) ∙ map-append key_of (take i xs) (x ∷ [])

-- the next item repeats exactly where its key is among the keys before it
pub next_repeats : {K X : Type 0} (same : K → K → Bool) (key_of : X → K) (xs : List X) (i : ℕ) (x : X)
    → i < length xs → x ≡ get_or xs i x
    → repeats_behind same key_of (map key_of (take i xs)) (drop i xs)
    ≡ if_repeated (is_among_keys same (map key_of (take i xs)) (key_of x)) x
    ++ repeats_behind same key_of (map key_of (take (i + 1) xs)) (drop (i + 1) xs)
unfolding repeats_behind
next_repeats same key_of xs i x lt is =
    let next : suc i ≡ i + 1 = omega arith in
    let one : List _ = if_repeated (is_among_keys same (map key_of (take i xs)) (key_of x)) x in
    let split : repeats_behind same key_of (map key_of (take i xs)) (drop i xs)
    ≡ one ++ repeats_behind same key_of (map key_of (take i xs) ++ key_of x ∷ []) (drop (suc i) xs) =
    rw (drop-cons xs i x lt, ← is) refl in
    split
    ∙ ap (λ (ks : List _). one ++ repeats_behind same key_of ks (drop (suc i) xs)) (sym (keys_more key_of xs i x lt is))
    ∙ ap (λ (n : ℕ). one ++ repeats_behind same key_of (map key_of (take (i + 1) xs)) (drop n xs)) next

-- behind the last item there is none
pub none_behind : {K X : Type 0} (same : K → K → Bool) (key_of : X → K) (keys : List K) (xs : List X) (i : ℕ)
    → length xs ≤ i → repeats_behind same key_of keys (drop i xs) ≡ []
unfolding repeats_behind
none_behind {K} {X} same key_of keys xs i le =
    let all_read : drop i xs ≡ [] = drop_of_length-le xs le in
    ap (λ (ys : List X). repeats_behind same key_of keys ys) all_read

-- the first fault of a list whose repeats are faults: one item is looked at, and what follows
pub repeats_on : {K X F : Type 0} (before : F → F → Bool) (fault_of : X → F) (same : K → K → Bool) (key_of : X → K)
    → (o o' whole : Option F) (xs : List X) (i : ℕ) (x : X)
    → i < length xs → x ≡ get_or xs i x
    → o' ≡ leftmost before o (map fault_of (if_repeated (is_among_keys same (map key_of (take i xs)) (key_of x)) x))
    → leftmost before o (map fault_of (repeats_behind same key_of (map key_of (take i xs)) (drop i xs))) ≡ whole
    → leftmost before o' (map fault_of (repeats_behind same key_of (map key_of (take (i + 1) xs)) (drop (i + 1) xs))) ≡ whole
repeats_on {K} {X} {F} before fault_of same key_of o o' whole xs i x lt is found so_far =
    let one : List X = if_repeated (is_among_keys same (map key_of (take i xs)) (key_of x)) x in
    let later : List X = repeats_behind same key_of (map key_of (take (i + 1) xs)) (drop (i + 1) xs) in
    ap (λ (p : Option F). leftmost before p (map fault_of later)) found
    ∙ sym (leftmost_append before o (map fault_of one) (map fault_of later))
    ∙ ap (leftmost before o) (sym (ap (map fault_of) (next_repeats same key_of xs i x lt is) ∙ map-append fault_of one later))
    ∙ so_far

-- all items are looked at
pub repeats_end : {K X F : Type 0} (before : F → F → Bool) (fault_of : X → F) (same : K → K → Bool) (key_of : X → K)
    → (o whole : Option F) (keys : List K) (xs : List X) (i : ℕ) → length xs ≤ i
    → leftmost before o (map fault_of (repeats_behind same key_of keys (drop i xs))) ≡ whole → o ≡ whole
repeats_end {K} {X} before fault_of same key_of o whole keys xs i le so_far =
    sym (ap (λ (ys : List X). leftmost before o (map fault_of ys)) (none_behind same key_of keys xs i le)) ∙ so_far

kept_if : {X : Type 0} (b : Bool) (x y : X) → Contains (if_repeated b x) y → (b ≡ true) × (y ≡ x)
kept_if true x y among = (refl, contains_one x y among)
kept_if false x y among = absurd (no_member y among)

in_if : {X : Type 0} (b : Bool) (x : X) → b ≡ true → Contains (if_repeated b x) x
in_if true x e = contains_head x []
in_if false x e = absurd (cc)

-- an item is among the repeats exactly where it stands at a place before which its key stands
pub place_of_repeat : {K X : Type 0} (same : K → K → Bool) (key_of : X → K) (keys : List K) (xs : List X) (y : X)
    → Contains (repeats_behind same key_of keys xs) y → (i : ℕ) × RepeatsAt same key_of keys xs i y
unfolding repeats_behind
place_of_repeat same key_of keys [] y among = absurd (no_member y among)
place_of_repeat {K} {X} same key_of keys (x ∷ xs) y among =
    elim (Contains-append_cases (if_repeated (is_among_keys same keys (key_of x)) x) (repeats_behind same key_of (keys ++ key_of x ∷ []) xs) y among) [
      | inl here ↦
          let kept = kept_if (is_among_keys same keys (key_of x)) x y here in (
            0,
            record {
              inside = omega arith;
              is = kept.1;
              known = ap (λ (ks : List K). is_among_keys same ks (key_of y)) (append-nil keys)
                  ∙ ap (λ (z : X). is_among_keys same keys (key_of z)) kept.1 ∙ kept.0;
            },
          )
      | inr there ↦
          let found = place_of_repeat same key_of (keys ++ key_of x ∷ []) xs y there in
          let stands = found.1 in (
            suc found.0,
            record {
              inside = omega (arith, stands.inside);
              is = stands.is;
              known = ap (λ (ks : List K). is_among_keys same ks (key_of y)) (sym (append_assoc keys (key_of x ∷ []) (map key_of (take found.0 xs)))) ∙ stands.known;
            },
          )
    ]

pub repeat_of_place : {K X : Type 0} (same : K → K → Bool) (key_of : X → K) (keys : List K) (xs : List X) (y : X) (i : ℕ)
    → RepeatsAt same key_of keys xs i y → Contains (repeats_behind same key_of keys xs) y
unfolding repeats_behind
repeat_of_place same key_of keys [] y i stands = let lt = stands.inside in absurd (omega (arith, lt))
repeat_of_place {K} {X} same key_of keys (x ∷ xs) y zero stands =
    let here : is_among_keys same keys (key_of x) ≡ true =
    ap (λ (z : X). is_among_keys same keys (key_of z)) (sym stands.is)
    ∙ ap (λ (ks : List K). is_among_keys same ks (key_of y)) (sym (append-nil keys)) ∙ stands.known in
    Contains-append_left (if_repeated (is_among_keys same keys (key_of x)) x) (repeats_behind same key_of (keys ++ key_of x ∷ []) xs) y
    (subst (λ (z : X). Contains (if_repeated (is_among_keys same keys (key_of x)) x) z) (sym stands.is) (in_if (is_among_keys same keys (key_of x)) x here))
repeat_of_place {K} {X} same key_of keys (x ∷ xs) y (suc i) stands =
    let lt = stands.inside in
    Contains-append_right (if_repeated (is_among_keys same keys (key_of x)) x) (repeats_behind same key_of (keys ++ key_of x ∷ []) xs) y
    (repeat_of_place same key_of (keys ++ key_of x ∷ []) xs y i (record {
      inside = omega (arith, lt);
      is = stands.is;
      known = ap (λ (ks : List K). is_among_keys same ks (key_of y)) (append_assoc keys (key_of x ∷ []) (map key_of (take i xs))) ∙ stands.known;
    }))
