-- No entry repeats an earlier one exactly where no two are of one agent and one joint state.
use Rattle.std.proofs.Common.{◌≡◌, ◌≢◌, ℕ, zero, suc, ◌+◌, ◌<◌, ◌≤◌, Bool, true, false, List, [], ◌∷◌, ◌++◌, length, map, get_or, take, refl, sym, ap, ◌∙◌, true≢false, inl, inr, arith}
use Rattle.std.proofs.lemmas.Bool.{false_from_ne_true}
use Rattle.std.proofs.lemmas.List.{append-nil, append_assoc}
use Rattle.std.specs.List.{AllPairs, Contains, enumerate_from}
use Rattle.mp_list.specs.Repeats.{is_among_keys, if_repeated, repeats_behind}
use Rattle.mp_list.proofs.Members.{any_from, some_member, contains_head, contains_tail, contains_cases, no_member}
use Rattle.mp_reach.specs.LeadsOn.{Known}
use Rattle.mp_audit.specs.declared.certificate.Bound.{Bound}
use Rattle.mp_audit.specs.declared.verdict.AuditVerdict.TheVariants.{Double}
use Rattle.mp_audit.specs.Audited.{known_of, same_known}
use Rattle.mp_audit.specs.Failures.{doubles}
use Rattle.mp_audit.proofs.EmptyLemmas.{parts_empty, both_empty, map_empty}
use Rattle.mp_audit.proofs.KnownLemmas.{known_is, known_itself}

-- the key of a numbered entry
abbrev pub key : ℕ × Bound → Known
key numbered = known_of numbered.1

-- a state before an entry in the list is among the first ones
pub earlier_known : (bs : List Bound) (i j : ℕ) (d : Bound) → i < j → j < length bs → Contains (map known_of (take j bs)) (known_of (get_or bs i d))
earlier_known [] i j d lt within = absurd (omega arith)
earlier_known (b ∷ bs) i zero d lt within = absurd (omega arith)
earlier_known (b ∷ bs) zero (suc j) d lt within = contains_head (known_of b) (map known_of (take j bs))
earlier_known (b ∷ bs) (suc i) (suc j) d lt within =
    contains_tail (known_of b) (map known_of (take j bs)) (known_of (get_or bs i d)) (earlier_known bs i j d (omega arith) (omega arith))

-- and what is among these stands before it
pub stands_before : (bs : List Bound) (j : ℕ) (d : Bound) (k : Known) → j ≤ length bs → Contains (map known_of (take j bs)) k → (i : ℕ) × (i < j) × (known_of (get_or bs i d) ≡ k)
stands_before [] zero d k within here = absurd (no_member k here)
stands_before [] (suc j) d k within here = absurd (omega arith)
stands_before (b ∷ bs) zero d k within here = absurd (no_member k here)
stands_before (b ∷ bs) (suc j) d k within here =
    elim (contains_cases (known_of b) (map known_of (take j bs)) k here) [
      | inl is ↦ (0, omega arith, is)
      | inr later ↦ let found = stands_before bs j d k (omega arith) later in (suc found.0, (let lt = found.1 in omega arith), found.2)
    ]

-- each entry's state is new behind those of the entries before it, and these keys
abbrev pub AreNew : List Known → List Bound → Type 0
AreNew keys bs = (j : ℕ) (d : Bound) → j < length bs → is_among_keys same_known (keys ++ map known_of (take j bs)) (known_of (get_or bs j d)) ≡ false

new_from_none : (keys : List Known) (n : ℕ) (bs : List Bound) → repeats_behind same_known key keys (enumerate_from n bs) ≡ [] → AreNew keys bs
unfolding repeats_behind
new_from_none keys n [] none j d within = absurd (omega arith)
new_from_none keys n (b ∷ bs) none zero d within =
    let parts = parts_empty (if_repeated {X = ℕ × Bound} (is_among_keys same_known keys (known_of b)) (n, b)) _ none in
    ap (λ (ks : List Known). is_among_keys same_known ks (known_of b)) (append-nil keys) ∙ not_repeated (is_among_keys same_known keys (known_of b)) parts.0
  where
    not_repeated : (t : Bool) → if_repeated {X = ℕ × Bound} t (n, b) ≡ [] → t ≡ false
    not_repeated true e = absurd (cc)
    not_repeated false e = refl
new_from_none keys n (b ∷ bs) none (suc j) d within =
    let parts = parts_empty (if_repeated {X = ℕ × Bound} (is_among_keys same_known keys (known_of b)) (n, b)) _ none in
    sym (ap (λ (ks : List Known). is_among_keys same_known ks (known_of (get_or bs j d))) (append_assoc keys (known_of b ∷ []) (map known_of (take j bs))))
    ∙ new_from_none (keys ++ known_of b ∷ []) (n + 1) bs parts.1 j d (omega arith)

none_from_new : (keys : List Known) (n : ℕ) (bs : List Bound) → AreNew keys bs → repeats_behind same_known key keys (enumerate_from n bs) ≡ []
unfolding repeats_behind
none_from_new keys n [] new = refl
none_from_new keys n (b ∷ bs) new =
    let first : is_among_keys same_known keys (known_of b) ≡ false =
    sym (ap (λ (ks : List Known). is_among_keys same_known ks (known_of b)) (append-nil keys)) ∙ new 0 b (omega arith) in
    both_empty (if_repeated {X = ℕ × Bound} (is_among_keys same_known keys (known_of b)) (n, b)) _
    (ap (λ (t : Bool). if_repeated {X = ℕ × Bound} t (n, b)) first)
    (none_from_new (keys ++ known_of b ∷ []) (n + 1) bs (λ j d within.
    ap (λ (ks : List Known). is_among_keys same_known ks (known_of (get_or bs j d))) (append_assoc keys (known_of b ∷ []) (map known_of (take j bs)))
    ∙ new (suc j) d (omega arith)))

pub once_from_none : (bounds : List Bound) → doubles bounds ≡ [] → AllPairs (λ a b. known_of a ≢ known_of b) bounds
once_from_none bounds none i j d before within same =
    let key_j = known_of (get_or bounds j d) in
    let new = new_from_none [] 1 bounds (map_empty _ _ none) j d within in
    true≢false (sym (any_from (λ (k : Known). same_known k key_j) (map known_of (take j bounds)) (known_of (get_or bounds i d)) (earlier_known bounds i j d before within)
    (ap (λ (k : Known). same_known k key_j) same ∙ known_itself key_j)) ∙ new)

pub none_from_once : (bounds : List Bound) → AllPairs (λ a b. known_of a ≢ known_of b) bounds → doubles bounds ≡ []
none_from_once bounds once =
    ap (map (λ (numbered : ℕ × Bound). Double numbered.0)) (none_from_new [] 1 bounds (λ j d within.
    false_from_ne_true _ (λ among.
    let found = some_member (λ (k : Known). same_known k (known_of (get_or bounds j d))) (map known_of (take j bounds)) among in
    let place = stands_before bounds j d found.0 (omega arith) found.1 in
    once place.0 j d place.1 within (place.2 ∙ known_is found.0 (known_of (get_or bounds j d)) found.2))))
