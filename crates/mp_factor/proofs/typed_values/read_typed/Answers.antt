use Rattle.mp_factor.proofs.Basics.{nodes_in, ◌∙◌}
use Rattle.mp_factor.proofs.TypedLemmas.{typed_begins, typed_ends, some_left, none_left}
use Rattle.mp_factor.proofs.typed_values.read_typed.Goals as goal

pub loop-alloc-init : goal.loop-alloc-init
loop-alloc-init g c =
    rw c.in_ok-with_capacity.ensures (typed_begins (g.L.Listing.listing c.args.listing.now) c.args.whole (nodes_in c.args.trees.now))

pub loop-alloc-preserved : goal.loop-alloc-preserved
loop-alloc-preserved g c = c.in_ok-progress.ensures.kept ∙ c.loop-alloc.invariant

pub loop-alloc-smaller : goal.loop-alloc-smaller
loop-alloc-smaller g c =
    c.in_ok-progress.ensures.fewer (some_left c.loop-alloc.progress.rest.now _ c.is_empty.ensures c.loop-alloc-test.true)

pub returns : goal.returns
returns g c =
    typed_ends (g.L.Listing.listing c.args.listing.now) c.args.whole c.loop-alloc.progress.so_far _ (nodes_in c.loop-alloc.progress.rest.now)
    (none_left c.loop-alloc.progress.rest.now _ c.is_empty.ensures c.loop-alloc-test.false) c.loop-alloc.invariant
