use Rattle.mp_factor.proofs.Basics.{sym, node_of}
use Rattle.mp_factor.proofs.Steps.{first_and_others, no_nodes}
use Rattle.mp_factor.proofs.TypedLemmas.{missing_from, type_from}
use Rattle.mp_factor.proofs.typed_values.type_first_of.Goals as goal

pub returns-in-empty-clause-first : goal.returns-in-empty-clause-first
returns-in-empty-clause-first g c =
    rw (c.shape_fault.ensures, no_nodes c.args.trees.now c.in-empty.len_below) (missing_from (g.L.Listing.listing c.args.listing.now) c.args.whole)

pub returns-in_ok-read_type-in-len1-up-clause-first : goal.returns-in_ok-read_type-in-len1-up-clause-first
returns-in_ok-read_type-in-len1-up-clause-first g c =
    let is = first_and_others c.args.trees.now c.tree-item.result c.in-len1-up.len_at_least c.tree-item.is in
    rw (c.in_ok-read_type-in-len1-up.ensures, is) (sym (type_from (g.L.Listing.listing c.args.listing.now) c.args.whole (node_of c.tree-item.result) _))
