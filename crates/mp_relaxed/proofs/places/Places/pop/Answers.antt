use Rattle.std.proofs.Common.{◌∷◌, ◌<◌, ℕ, length, subst, sym, ◌∙◌, arith}
use Rattle.std.proofs.Math.ListN.{set as set_at}
use Rattle.std.specs.List.Sorted.{IsPermutation}
use Rattle.mp_relaxed.specs.Places.{AreEmptyWithin, placed}
use Rattle.mp_estimates.specs.Lowering.{key}
use Rattle.mp_relaxed.specs.Search.{AreFrom}
use Rattle.mp_relaxed.proofs.PlaceLemmas.{empty_all, empty_joined, placed_least, placed_none, placed_popped}
use Rattle.mp_relaxed.proofs.places.Places.pop.Goals as goal

pub returns-then-least-self-clause-none : goal.returns-then-least-self-clause-none
returns-then-least-self-clause-none c =
    let rows = c.self.inside.rows.items in
    let n = c.next_row-least.result in
    let passed = subst (AreEmptyWithin c.self.inside.least n) c.as_slice.ensures.value c.next_row-least.ensures.passed in
    let few = c.self.invariant.few in
    let last = c.self.inside.end in
    let below : AreEmptyWithin 0 last rows = subst (λ (k : ℕ). AreEmptyWithin 0 k rows) (omega arith) (empty_joined rows c.self.inside.least n c.self.invariant.below passed) in
    let none = placed_none 0 rows (empty_all rows 1024 (omega arith) (empty_joined rows last 1024 below c.self.invariant.above)) in
    (sym c.self.view_is ∙ none, none)

pub returns-clause-entry : goal.returns-clause-entry
returns-clause-entry c =
    let rows = c.self.inside.rows.items in
    let n = c.next_row-least.result in
    let long = c.as_slice.ensures.len in
    let whole = c.self.invariant.within in
    let le = c.next_row-least.ensures.within in
    let less : n < length rows = omega (arith, c.if-least-self.false) in
    subst (λ l. IsPermutation l (key n c.in_ok-fact.fact ∷ placed 0 (set_at rows n c.pop.new.self))) c.self.view_is
    (placed_popped n rows _ c.pop.new.self c.in_ok-fact.fact less c.index_mut.ensures.value c.in_ok-fact.ensures.items)

pub returns-clause-least : goal.returns-clause-least
returns-clause-least c =
    let rows = c.self.inside.rows.items in
    let n = c.next_row-least.result in
    let passed = subst (AreEmptyWithin c.self.inside.least n) c.as_slice.ensures.value c.next_row-least.ensures.passed in
    subst (AreFrom n) c.self.view_is (placed_least n rows (empty_joined rows c.self.inside.least n c.self.invariant.below passed))
