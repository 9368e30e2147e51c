-- A state that is read is the state that is spelled, and what is spelled is read again.
use Rattle.std.proofs.Common.{◌≡◌, ℕ, zero, suc, ◌+◌, ◌^◌, ◌<◌, ◌≤◌, true, false, cond, ltb, leb, ◌||◌, List, [], ◌∷◌, ◌++◌, length, All, Some, None, refl, sym, ap, subst, ◌∙◌, append_assoc, arith}
use Rattle.std.specs.Int.{w32}
use Rattle.std.specs.List.{flat_map, AllByRecursion}
use Rattle.std.specs.List.Sorted.{IsStrictlyIncreasing}
use Rattle.std.proofs.lemmas.Bool.{lt-ltb, ltb-true}
use Rattle.std.proofs.lemmas.Bool.Decides.{nat_tests}
use Rattle.std.proofs.lemmas.List.Elements.{All-from_recursion}
use Rattle.std.proofs.lemmas.Option.{cond_some}
use Rattle.mp_sets.specs.declared.tag.Tag.{Tag}
use Rattle.mp_messages.specs.declared.message.State.{State}
use Rattle.mp_messages.specs.Spelling.{number, short_number, tag, counted, state, limit, AreStateNumbers}
use Rattle.mp_messages.specs.Reading.{◌>>=◌, digits_at, number_at, tag_at, tags_at, fact_at, facts_at, counted_at, costs_at, state_at}
use Rattle.mp_messages.proofs.Taking.{IsBytes, bind_some, unless_some, some_is, Takes, Takes-then, Takes-none}
use Rattle.mp_messages.proofs.Fields.{short_number_takes, short_number_again, number_takes, number_again, tag_takes, tag_again}
use Rattle.mp_sets.proofs.RisingLemmas.{RisesFrom, RisesFrom-made, RisesFrom-rises, RisesFrom-below, rising_short}

-- ---- tags

tags_take : (n : ℕ) (bytes : List ℕ) (x : List Tag × List ℕ) → IsBytes bytes → tags_at n bytes ≡ Some x → Takes bytes (flat_map tag x.0) x.1 × (length x.0 ≡ n) × AllByRecursion (λ t. t.token < limit) x.0
unfolding tags_at
tags_take zero bytes x fits e =
    subst (λ (y : List Tag × List ℕ). Takes bytes (flat_map tag y.0) y.1 × (length y.0 ≡ 0) × AllByRecursion (λ t. t.token < limit) y.0) (some_is ([], bytes) x e) (Takes-none bytes fits, refl, tt)
tags_take (suc n) bytes x fits e =
    let a = bind_some (tag_at bytes) (λ first. tags_at n first.1 >>= λ others. Some (first.0 ∷ others.0, others.1)) x e in
    let b = bind_some (tags_at n a.0.1) (λ others. Some (a.0.0 ∷ others.0, others.1)) x a.2 in
    let first = tag_takes bytes a.0 fits a.1 in
    let second = tags_take n a.0.1 b.0 first.0.rest_fits b.1 in
    let both = Takes-then bytes (tag a.0.0) a.0.1 (flat_map tag b.0.0) b.0.1 first.0 second.0 in
    let made : List Tag × List ℕ = (a.0.0 ∷ b.0.0, b.0.1) in
    subst (λ (y : List Tag × List ℕ). Takes bytes (flat_map tag y.0) y.1 × (length y.0 ≡ suc n) × AllByRecursion (λ t. t.token < limit) y.0) {x = made} (some_is made x b.2) (both, ap suc second.1, (first.1, second.2))

tags_again : (ts : List Tag) (rest : List ℕ) → All (λ t. t.token < limit) ts → tags_at (length ts) (flat_map tag ts ++ rest) ≡ Some (ts, rest)
unfolding tags_at
tags_again [] rest fits = refl
tags_again (t ∷ ts) rest fits =
    let regrouped : flat_map tag (t ∷ ts) ++ rest ≡ tag t ++ (flat_map tag ts ++ rest) = append_assoc (tag t) (flat_map tag ts) rest in
    ap (tags_at (suc (length ts))) regrouped ∙ rw (tag_again t (flat_map tag ts ++ rest) (fits 0 t (omega arith)), tags_again ts rest (λ k d h. fits (suc k) d (omega arith))) refl

-- ---- facts

fact_takes : (publics least : ℕ) (bytes : List ℕ) (x : ℕ × List ℕ) → IsBytes bytes → fact_at publics least bytes ≡ Some x → Takes bytes (short_number x.0) x.1 × (least ≤ x.0) × (x.0 < publics)
unfolding fact_at
fact_takes publics least bytes x fits e =
    let b = bind_some (digits_at w32 bytes) (λ n. cond (ltb n.0 least || leb publics n.0) None (Some n)) x e in
    let g = unless_some (ltb b.0.0 least || leb publics b.0.0) b.0 x b.2 in
    let t = short_number_takes bytes b.0 fits b.1 in
    let range = within b.0.0 g.0 in
    subst (λ (y : ℕ × List ℕ). Takes bytes (short_number y.0) y.1 × (least ≤ y.0) × (y.0 < publics)) g.1 (t.0, range.0, range.1)
  where
    within : (n : ℕ) → (ltb n least || leb publics n) ≡ false → (least ≤ n) × (n < publics)
    within n e = (grind (arith, nat_tests), grind (arith, nat_tests))

fact_again : (publics least n : ℕ) (rest : List ℕ) → publics ≤ 2 ^ 32 → least ≤ n → n < publics → fact_at publics least (short_number n ++ rest) ≡ Some (n, rest)
unfolding fact_at
fact_again publics least n rest small from below =
    let passes : (ltb n least || leb publics n) ≡ false = grind (arith, nat_tests) in
    rw (short_number_again n rest (omega arith), passes) refl

facts_take : (publics n least : ℕ) (bytes : List ℕ) (x : List ℕ × List ℕ) → IsBytes bytes → facts_at publics n least bytes ≡ Some x → Takes bytes (flat_map short_number x.0) x.1 × (length x.0 ≡ n) × RisesFrom publics least x.0
unfolding facts_at
facts_take publics zero least bytes x fits e =
    subst (λ (y : List ℕ × List ℕ). Takes bytes (flat_map short_number y.0) y.1 × (length y.0 ≡ 0) × RisesFrom publics least y.0) (some_is ([], bytes) x e) (Takes-none bytes fits, refl, tt)
facts_take publics (suc n) least bytes x fits e =
    let a = bind_some (fact_at publics least bytes) (λ first. facts_at publics n (first.0 + 1) first.1 >>= λ others. Some (first.0 ∷ others.0, others.1)) x e in
    let b = bind_some (facts_at publics n (a.0.0 + 1) a.0.1) (λ others. Some (a.0.0 ∷ others.0, others.1)) x a.2 in
    let first = fact_takes publics least bytes a.0 fits a.1 in
    let second = facts_take publics n (a.0.0 + 1) a.0.1 b.0 first.0.rest_fits b.1 in
    let both = Takes-then bytes (short_number a.0.0) a.0.1 (flat_map short_number b.0.0) b.0.1 first.0 second.0 in
    let made : List ℕ × List ℕ = (a.0.0 ∷ b.0.0, b.0.1) in
    subst (λ (y : List ℕ × List ℕ). Takes bytes (flat_map short_number y.0) y.1 × (length y.0 ≡ suc n) × RisesFrom publics least y.0) {x = made} (some_is made x b.2) (both, ap suc second.1, (first.1, first.2, second.2))

facts_again : (publics least : ℕ) (xs rest : List ℕ) → publics ≤ 2 ^ 32 → RisesFrom publics least xs → facts_at publics (length xs) least (flat_map short_number xs ++ rest) ≡ Some (xs, rest)
unfolding facts_at
facts_again publics least [] rest small rises = refl
facts_again publics least (x ∷ xs) rest small rises =
    let regrouped : flat_map short_number (x ∷ xs) ++ rest ≡ short_number x ++ (flat_map short_number xs ++ rest) = append_assoc (short_number x) (flat_map short_number xs) rest in
    ap (facts_at publics (suc (length xs)) least) regrouped ∙ rw (fact_again publics least x (flat_map short_number xs ++ rest) small rises.0 rises.1, facts_again publics (x + 1) xs rest small rises.2) refl

counted_takes : (publics : ℕ) (bytes : List ℕ) (x : List ℕ × List ℕ) → IsBytes bytes → counted_at publics bytes ≡ Some x → Takes bytes (counted x.0) x.1 × RisesFrom publics 0 x.0
unfolding counted_at counted
counted_takes publics bytes x fits e =
    let a = bind_some (digits_at w32 bytes) (λ n. facts_at publics n.0 0 n.1) x e in
    let first = short_number_takes bytes a.0 fits a.1 in
    let second = facts_take publics a.0.0 0 a.0.1 x first.0.rest_fits a.2 in
    let both = Takes-then bytes (short_number a.0.0) a.0.1 (flat_map short_number x.0) x.1 first.0 second.0 in
    (subst (λ (k : ℕ). Takes bytes (short_number k ++ flat_map short_number x.0) x.1) (sym second.1) both, second.2)

counted_again : (publics : ℕ) (xs rest : List ℕ) → publics < 2 ^ 32 → IsStrictlyIncreasing xs → All (λ x. x < publics) xs → counted_at publics (counted xs ++ rest) ≡ Some (xs, rest)
unfolding counted_at counted
counted_again publics xs rest small rises below =
    let short = rising_short xs publics rises below in
    let from : RisesFrom publics 0 xs = RisesFrom-made publics 0 xs (λ h. omega arith) rises below in
    let regrouped : counted xs ++ rest ≡ short_number (length xs) ++ (flat_map short_number xs ++ rest) = append_assoc (short_number (length xs)) (flat_map short_number xs) rest in
    ap (counted_at publics) regrouped ∙ rw (short_number_again (length xs) (flat_map short_number xs ++ rest) (omega arith), facts_again publics 0 xs rest (omega arith) from) refl

-- ---- a whole state

costs_take : (bytes : List ℕ) (x : (ℕ × ℕ × ℕ) × List ℕ) → IsBytes bytes → costs_at bytes ≡ Some x → Takes bytes (number x.0.0 ++ (number x.0.1 ++ number x.0.2)) x.1 × (x.0.0 < limit) × (x.0.1 + x.0.2 < limit)
unfolding costs_at
costs_take bytes x fits e =
    let a = bind_some (number_at bytes) (λ sent. number_at sent.1 >>= λ g. number_at g.1 >>= λ h. cond (ltb (g.0 + h.0) limit) (Some ((sent.0, g.0, h.0), h.1)) None) x e in
    let b = bind_some (number_at a.0.1) (λ g. number_at g.1 >>= λ h. cond (ltb (g.0 + h.0) limit) (Some ((a.0.0, g.0, h.0), h.1)) None) x a.2 in
    let c = bind_some (number_at b.0.1) (λ h. cond (ltb (b.0.0 + h.0) limit) (Some ((a.0.0, b.0.0, h.0), h.1)) None) x b.2 in
    let made : (ℕ × ℕ × ℕ) × List ℕ = ((a.0.0, b.0.0, c.0.0), c.0.1) in
    let g = cond_some (ltb (b.0.0 + c.0.0) limit) made x c.2 in
    let t0 = number_takes bytes a.0 fits a.1 in
    let t1 = number_takes a.0.1 b.0 t0.0.rest_fits b.1 in
    let t2 = number_takes b.0.1 c.0 t1.0.rest_fits c.1 in
    let e12 = Takes-then a.0.1 (number b.0.0) b.0.1 (number c.0.0) c.0.1 t1.0 t2.0 in
    let e02 = Takes-then bytes (number a.0.0) a.0.1 (number b.0.0 ++ number c.0.0) c.0.1 t0.0 e12 in
    subst (λ (y : (ℕ × ℕ × ℕ) × List ℕ). Takes bytes (number y.0.0 ++ (number y.0.1 ++ number y.0.2)) y.1 × (y.0.0 < limit) × (y.0.1 + y.0.2 < limit)) {x = made} g.1 (e02, t0.1, ltb-true (b.0.0 + c.0.0) limit g.0)

costs_again : (sent g h : ℕ) (rest : List ℕ) → sent < limit → g + h < limit → costs_at (number sent ++ (number g ++ (number h ++ rest))) ≡ Some ((sent, g, h), rest)
unfolding costs_at
costs_again sent g h rest s f =
    let small : ltb (g + h) limit ≡ true = lt-ltb _ _ f in
    rw (number_again sent (number g ++ (number h ++ rest)) s, number_again g (number h ++ rest) (omega arith), number_again h rest (omega arith), small) refl

pub state_takes : (agents publics : ℕ) (bytes : List ℕ) (x : State × List ℕ) → IsBytes bytes → state_at agents publics bytes ≡ Some x → Takes bytes (state x.0) x.1 × AreStateNumbers x.0 × All (λ y. y < publics) x.0.facts × IsStrictlyIncreasing x.0.facts × (length x.0.tags ≡ agents)
unfolding state_at state
state_takes agents publics bytes x fits e =
    let a = bind_some (costs_at bytes) (λ costs. counted_at publics costs.1 >>= λ facts. tags_at agents facts.1 >>= λ tags. Some (record { sent = costs.0.0; g = costs.0.1; h = costs.0.2; facts = facts.0; tags = tags.0 }, tags.1)) x e in
    let b = bind_some (counted_at publics a.0.1) (λ facts. tags_at agents facts.1 >>= λ tags. Some (record { sent = a.0.0.0; g = a.0.0.1; h = a.0.0.2; facts = facts.0; tags = tags.0 }, tags.1)) x a.2 in
    let c = bind_some (tags_at agents b.0.1) (λ tags. Some (record { sent = a.0.0.0; g = a.0.0.1; h = a.0.0.2; facts = b.0.0; tags = tags.0 }, tags.1)) x b.2 in
    let made : State × List ℕ = (record { sent = a.0.0.0; g = a.0.0.1; h = a.0.0.2; facts = b.0.0; tags = c.0.0 }, c.0.1) in
    let t0 = costs_take bytes a.0 fits a.1 in
    let t1 = counted_takes publics a.0.1 b.0 t0.0.rest_fits b.1 in
    let t2 = tags_take agents b.0.1 c.0 t1.0.rest_fits c.1 in
    let e12 = Takes-then a.0.1 (counted b.0.0) b.0.1 (flat_map tag c.0.0) c.0.1 t1.0 t2.0 in
    let e02 = Takes-then bytes (number a.0.0.0 ++ (number a.0.0.1 ++ number a.0.0.2)) a.0.1 (counted b.0.0 ++ flat_map tag c.0.0) c.0.1 t0.0 e12 in
    let left : List ℕ = (number a.0.0.0 ++ (number a.0.0.1 ++ number a.0.0.2)) ++ (counted b.0.0 ++ flat_map tag c.0.0) in
    let regrouped : left ≡ state made.0 = simp append_assoc in
    let whole : Takes bytes (state made.0) made.1 = subst (λ (w : List ℕ). Takes bytes w c.0.1) {x = left} {y = state made.0} regrouped e02 in
    let tokens : All (λ t. t.token < limit) c.0.0 = All-from_recursion (λ t. t.token < limit) c.0.0 t2.2 in
    subst (λ (y : State × List ℕ). Takes bytes (state y.0) y.1 × AreStateNumbers y.0 × All (λ z. z < publics) y.0.facts × IsStrictlyIncreasing y.0.facts × (length y.0.tags ≡ agents)) {x = made} (some_is made x c.2) (whole, record { sent = t0.1; f = t0.2; tokens = tokens }, RisesFrom-below publics 0 b.0.0 t1.1, RisesFrom-rises publics 0 b.0.0 t1.1, t2.1)

pub state_again : (publics : ℕ) (s : State) (rest : List ℕ) → publics < 2 ^ 32 → AreStateNumbers s → All (λ y. y < publics) s.facts → IsStrictlyIncreasing s.facts → state_at (length s.tags) publics (state s ++ rest) ≡ Some (s, rest)
unfolding state_at state
state_again publics s rest small numbers below rises =
    let regrouped : state s ++ rest ≡ number s.sent ++ (number s.g ++ (number s.h ++ (counted s.facts ++ (flat_map tag s.tags ++ rest)))) = simp append_assoc in
    ap (state_at (length s.tags) publics) regrouped ∙ rw (costs_again s.sent s.g s.h (counted s.facts ++ (flat_map tag s.tags ++ rest)) numbers.sent numbers.f, counted_again publics s.facts (flat_map tag s.tags ++ rest) small rises below, tags_again s.tags rest numbers.tokens) refl
