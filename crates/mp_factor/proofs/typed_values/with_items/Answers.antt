use Rattle.mp_factor.proofs.Basics.{sym, ◌∙◌, node_of, said}
use Rattle.mp_factor.proofs.FoundLemmas.{lists, goes_on, ends, found_said}
use Rattle.mp_factor.proofs.typed_values.with_items.Goals as goal

pub loop-tree-preserved : goal.loop-tree-preserved
loop-tree-preserved g c =
    goes_on node_of (λ n. said (λ make. make c.args.item_type.now) ((g.L.Listing.listing c.args.listing.now).item n)) _ _ lists c.loop-tree.items _ _ _ c.args.trees.now
    c.loop-tree.tree-index c.tree-item.result c.loop-tree-test.true c.tree-item.is
    (c.in_ok-read_item.ensures ∙ sym (found_said (λ make. make c.args.item_type.now) ((g.L.Listing.listing c.args.listing.now).item (node_of c.tree-item.result))))
    c.in_ok-items.ensures c.loop-tree.invariant

pub returns : goal.returns
returns g c =
    ends node_of (λ n. said (λ make. make c.args.item_type.now) ((g.L.Listing.listing c.args.listing.now).item n)) _ _ lists c.loop-tree.items _ c.args.trees.now
    c.loop-tree.tree-index c.loop-tree-test.false c.loop-tree.invariant
