use Rattle.std.proofs.Common.{◌≡◌, ℕ, ◌<◌, length, get_or, refl, sym, ap, subst, ◌∙◌, arith}
use Rattle.std.specs.FinSet as set
use Rattle.std.proofs.lemmas.Bool.{false≢true}
use Rattle.mp_tokens.specs.Order.{place}
use Rattle.mp_tokens.specs.SetRows.{sets_of, AreSetRows}
use Rattle.mp_tokens.specs.Table.{TokenTable}
use Rattle.mp_tokens.proofs.Growing.{sets_long}
use Rattle.mp_tokens.proofs.Orders.{missing_set, set_found}
use Rattle.mp_tokens.proofs.Places.{place_of_it, place_of_none}
use Rattle.mp_tokens.proofs.tokens.Tokens.index_of.Goals as goal

pub find_set-requires : goal.find_set-requires
find_set-requires c =
    let s = c.self.inside in
    let size : c.args.set.now.size ≡ s.size = c.requires ∙ sym (ap (λ (t : TokenTable). t.size) c.self.view_is) in
    subst (λ (n : ℕ). AreSetRows n s.sets) (sym size) c.self.invariant.rows

pub returns-clause-index : goal.returns-clause-index
returns-clause-index c =
    let s = c.self.inside in
    let size : c.args.set.now.size ≡ s.size = c.requires ∙ sym (ap (λ (t : TokenTable). t.size) c.self.view_is) in
    let m = sets_of s.size s.sets in
    let found = c.in-Some.ensures.found in
    let inside : c.in-Some.index < length m = omega (arith, found.0, sets_long s.size s.sets) in
    let there : get_or m c.in-Some.index set.empty ≡ c.args.set.now.members = subst (λ (n : ℕ). get_or (sets_of n s.sets) c.in-Some.index set.empty ≡ c.args.set.now.members) size found.1 in
    sym (place_of_it m c.args.set.now.members c.in-Some.index c.self.invariant.different inside there)
    ∙ ap (λ (t : TokenTable). place t.sets c.args.set.now.members) c.self.view_is

pub returns-clause-there : goal.returns-clause-there
returns-clause-there c =
    let s = c.self.inside in
    let size : c.args.set.now.size ≡ s.size = c.requires ∙ sym (ap (λ (t : TokenTable). t.size) c.self.view_is) in
    let m = sets_of s.size s.sets in
    let found = c.in-Some.ensures.found in
    let inside : c.in-Some.index < length m = omega (arith, found.0, sets_long s.size s.sets) in
    let there : get_or m c.in-Some.index set.empty ≡ c.args.set.now.members = subst (λ (n : ℕ). get_or (sets_of n s.sets) c.in-Some.index set.empty ≡ c.args.set.now.members) size found.1 in
    subst (λ (t : TokenTable). (c.in-Some.index < length t.sets) × (get_or t.sets c.in-Some.index set.empty ≡ c.args.set.now.members)) c.self.view_is (inside, there)

pub returns-clause-found : goal.returns-clause-found
returns-clause-found c =
    let there = returns-clause-there c in
    (λ e. set_found c.args.self.now.sets c.args.set.now.members c.in-Some.index there.0 there.1, λ h. refl)

pub returns-in_default-clause-found : goal.returns-in_default-clause-found
returns-in_default-clause-found c =
    let s = c.self.inside in
    let size : c.args.set.now.size ≡ s.size = c.requires ∙ sym (ap (λ (t : TokenTable). t.size) c.self.view_is) in
    let m = sets_of s.size s.sets in
    let none : (n : ℕ) → n < length m → get_or m n set.empty ≡ c.args.set.now.members → ⊥ =
    λ n h same. c.in_default.ensures.none n (omega (arith, h, sets_long s.size s.sets))
    (subst (λ (k : ℕ). get_or (sets_of k s.sets) n set.empty ≡ c.args.set.now.members) (sym size) same) in
    let past : place c.args.self.now.sets c.args.set.now.members ≡ length c.args.self.now.sets =
    subst (λ (t : TokenTable). place t.sets c.args.set.now.members ≡ length t.sets) c.self.view_is (place_of_none m c.args.set.now.members none) in
    (λ e. absurd (false≢true e), λ h. absurd (missing_set c.args.self.now.sets c.args.set.now.members past h))
