use Rattle.std.proofs.Common.{◌≡◌, ℕ, ◌<◌, List, [], ◌∷◌, ◌++◌, length, get_or, rules, sym, ap, subst, ◌∙◌, arith}
use Rattle.std.specs.FinSet as set
use Rattle.mp_sets.specs.Numbers.{Numbers}
use Rattle.mp_tokens.specs.Order.{place, with_set}
use Rattle.mp_tokens.specs.SetRows.{sets_of, AreSetRows}
use Rattle.mp_tokens.specs.Table.{TokenTable}
use Rattle.mp_tokens.specs.TokenFields.{sets_at}
use Rattle.mp_tokens.proofs.Growing.{known_sets, sets_different, sets_long}
use Rattle.mp_tokens.proofs.Orders.{at_its_place}
use Rattle.mp_tokens.proofs.Places.{place_of_it, place_of_none, place_of_new, sets_at_more, with_new, with_old}
use Rattle.mp_tokens.proofs.tokens.Tokens.intern_copy.Goals as goal

pub find_set-requires : goal.find_set-requires
find_set-requires c =
    let s = c.self.inside in
    let size : c.args.set.now.size ≡ s.size = c.requires ∙ sym (ap (λ (t : TokenTable). t.size) c.self.view_is) in
    subst (λ (n : ℕ). AreSetRows n s.sets) (sym size) c.self.invariant.rows

-- a set that was met
pub returns-in-Some-clause-sets : goal.returns-in-Some-clause-sets
returns-in-Some-clause-sets c =
    let s = c.self.inside in
    let size : c.args.set.now.size ≡ s.size = c.requires ∙ sym (ap (λ (t : TokenTable). t.size) c.self.view_is) in
    let m = sets_of s.size s.sets in
    let found = c.in-Some.ensures.found in
    let inside : c.in-Some.index < length m = omega (arith, found.0, sets_long s.size s.sets) in
    let there : get_or m c.in-Some.index set.empty ≡ c.args.set.now.members = subst (λ (n : ℕ). get_or (sets_of n s.sets) c.in-Some.index set.empty ≡ c.args.set.now.members) size found.1 in
    let placed = place_of_it m c.args.set.now.members c.in-Some.index c.self.invariant.different inside there in
    let old : place c.args.self.now.sets c.args.set.now.members < length c.args.self.now.sets =
    subst (λ (t : TokenTable). place t.sets c.args.set.now.members < length t.sets) c.self.view_is (omega (arith, placed, inside)) in
    sym (ap (λ (xs : List Numbers). record { size = c.args.self.now.size; sets = xs; used = c.args.self.now.used }) (with_old c.args.self.now.sets c.args.set.now.members old))

pub returns-in-Some-clause-index : goal.returns-in-Some-clause-index
returns-in-Some-clause-index c =
    let s = c.self.inside in
    let size : c.args.set.now.size ≡ s.size = c.requires ∙ sym (ap (λ (t : TokenTable). t.size) c.self.view_is) in
    let m = sets_of s.size s.sets in
    let found = c.in-Some.ensures.found in
    let inside : c.in-Some.index < length m = omega (arith, found.0, sets_long s.size s.sets) in
    let there : get_or m c.in-Some.index set.empty ≡ c.args.set.now.members = subst (λ (n : ℕ). get_or (sets_of n s.sets) c.in-Some.index set.empty ≡ c.args.set.now.members) size found.1 in
    sym (place_of_it m c.args.set.now.members c.in-Some.index c.self.invariant.different inside there)
    ∙ ap (λ (t : TokenTable). place t.sets c.args.set.now.members) c.self.view_is

pub returns-in-Some-clause-there : goal.returns-in-Some-clause-there
returns-in-Some-clause-there c =
    let s = c.self.inside in
    let size : c.args.set.now.size ≡ s.size = c.requires ∙ sym (ap (λ (t : TokenTable). t.size) c.self.view_is) in
    let m = sets_of s.size s.sets in
    let found = c.in-Some.ensures.found in
    let inside : c.in-Some.index < length m = omega (arith, found.0, sets_long s.size s.sets) in
    let there : get_or m c.in-Some.index set.empty ≡ c.args.set.now.members = subst (λ (n : ℕ). get_or (sets_of n s.sets) c.in-Some.index set.empty ≡ c.args.set.now.members) size found.1 in
    subst (λ (t : TokenTable). (c.in-Some.index < length t.sets) × (get_or t.sets c.in-Some.index set.empty ≡ c.args.set.now.members)) c.self.view_is (inside, there)

-- a new set
pub add_set-requires-clause-new : goal.add_set-requires-clause-new
add_set-requires-clause-new c = c.in-None.ensures.none

pub invariant_of-self-in-None : goal.invariant_of-self-in-None
invariant_of-self-in-None c =
    let s = c.self.inside in
    let size : c.args.set.now.size ≡ s.size = c.requires ∙ sym (ap (λ (t : TokenTable). t.size) c.self.view_is) in
    let rows = subst (λ (n : ℕ). AreSetRows n c.add_set.new.rows) size c.add_set.ensures.rows in
    record {
      rows = rows;
      different = sets_different s.size c.add_set.new.rows rows;
      known = λ k d h. (let old = c.self.invariant.known k d h in let more = c.add_set.ensures.longer in omega (arith, old, more));
    }

pub returns-in_ok-add_set-in-None-clause-sets : goal.returns-in_ok-add_set-in-None-clause-sets
returns-in_ok-add_set-in-None-clause-sets c =
    let s = c.self.inside in
    let size : c.args.set.now.size ≡ s.size = c.requires ∙ sym (ap (λ (t : TokenTable). t.size) c.self.view_is) in
    let m = sets_of s.size s.sets in
    let x = c.args.set.now.members in
    let none : (n : ℕ) → n < length m → get_or m n set.empty ≡ x → ⊥ =
    λ n h same. c.in-None.ensures.none n (omega (arith, h, sets_long s.size s.sets))
    (subst (λ (k : ℕ). get_or (sets_of k s.sets) n set.empty ≡ x) (sym size) same) in
    let past : place m x ≡ length m = place_of_none m x none in
    let grown : sets_of s.size c.add_set.new.rows ≡ m ++ x ∷ [] = subst (λ (k : ℕ). sets_of k c.add_set.new.rows ≡ sets_of k s.sets ++ x ∷ []) size c.in_ok-add_set-in-None.ensures.added in
    let with_it : m ++ x ∷ [] ≡ with_set m x = sym (with_new m x past) in
    let used : sets_at (m ++ x ∷ []) s.order.keys ≡ sets_at m s.order.keys = sets_at_more m x s.order.keys (known_sets s.size s.sets s.order.keys c.self.invariant.known) in
    (λ j. record { size = s.size; sets = (grown ∙ with_it) j; used = (ap (λ (xs : List Numbers). sets_at xs s.order.keys) grown ∙ used) j })
    ∙ ap (λ (t : TokenTable). record { size = t.size; sets = with_set t.sets x; used = t.used }) c.self.view_is

pub returns-in_ok-add_set-in-None-clause-index : goal.returns-in_ok-add_set-in-None-clause-index
returns-in_ok-add_set-in-None-clause-index c =
    let s = c.self.inside in
    let size : c.args.set.now.size ≡ s.size = c.requires ∙ sym (ap (λ (t : TokenTable). t.size) c.self.view_is) in
    let m = sets_of s.size s.sets in
    let x = c.args.set.now.members in
    let none : (n : ℕ) → n < length m → get_or m n set.empty ≡ x → ⊥ =
    λ n h same. c.in-None.ensures.none n (omega (arith, h, sets_long s.size s.sets))
    (subst (λ (k : ℕ). get_or (sets_of k s.sets) n set.empty ≡ x) (sym size) same) in
    let past : place m x ≡ length m = place_of_none m x none in
    let grown : sets_of s.size c.add_set.new.rows ≡ m ++ x ∷ [] = subst (λ (k : ℕ). sets_of k c.add_set.new.rows ≡ sets_of k s.sets ++ x ∷ []) size c.in_ok-add_set-in-None.ensures.added in
    let len : c.len-index.result ≡ length s.sets = search rules in
    len ∙ sym (sets_long s.size s.sets) ∙ sym (place_of_new m x past) ∙ ap (λ (xs : List Numbers). place xs x) (sym grown)

pub returns-in_ok-add_set-in-None-clause-there : goal.returns-in_ok-add_set-in-None-clause-there
returns-in_ok-add_set-in-None-clause-there c =
    let s = c.self.inside in
    let size : c.args.set.now.size ≡ s.size = c.requires ∙ sym (ap (λ (t : TokenTable). t.size) c.self.view_is) in
    at_its_place c.args.self.now.sets (sets_of s.size c.add_set.new.rows) c.args.set.now.members c.len-index.result
    (ap (λ (t : TokenTable). t.sets) (returns-in_ok-add_set-in-None-clause-sets c)) (returns-in_ok-add_set-in-None-clause-index c)
