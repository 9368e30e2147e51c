use Rattle.std.proofs.Common.{◌+◌, length, ap, arith}
use Rattle.mp_audit.specs.Flat.{FlatParts}
use Rattle.mp_audit.proofs.FlatBoundLemmas.{length_entries}
use Rattle.mp_audit.proofs.flat_bounds.FlatBounds.len.Goals as goal

pub returns : goal.returns
returns c =
    let inside = c.self.inside in
    let count = inside.searchers.ok.0 in
    let entries = length_entries (inside.agents + 1) inside.searchers.items inside.bounds.items inside.lists c.self.invariant.as_many in
    let same = ap (λ (p : FlatParts). length p.entries) c.self.view_is in
    omega (arith, c.len.ensures, count, entries, same)
