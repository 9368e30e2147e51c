use Rattle.mp_factor.proofs.Basics.{sym, subst, ◌∙◌, node_of, AreBehindItems}
use Rattle.mp_factor.proofs.Steps.{first_and_others, no_nodes}
use Rattle.mp_factor.proofs.TypedLemmas.{end_from, none_from, dash_from}
use Rattle.mp_factor.proofs.typed_values.type_behind.Goals as goal

pub returns-in-empty-clause-first : goal.returns-in-empty-clause-first
returns-in-empty-clause-first g c ended =
    rw (c.untyped.ensures, no_nodes c.args.trees.now c.in-empty.len_below) (end_from (g.L.Listing.listing c.args.listing.now) c.args.whole)

pub returns-in_ok-item_type-in-len1-up-clause-first : goal.returns-in_ok-item_type-in-len1-up-clause-first
returns-in_ok-item_type-in-len1-up-clause-first g c ended =
    let is = first_and_others c.args.trees.now c.dash-item.result c.in-len1-up.len_at_least c.dash-item.is in
    let dash = sym c.is_type_sign.ensures ∙ c.if-is_type_sign.true in
    c.in_ok-item_type-in-len1-up.ensures.first
    ∙ rw is (sym (dash_from (g.L.Listing.listing c.args.listing.now) c.args.whole (node_of c.dash-item.result) _ dash))

pub returns-else-is_type_sign-clause-first : goal.returns-else-is_type_sign-clause-first
returns-else-is_type_sign-clause-first g c ended =
    let l = g.L.Listing.listing c.args.listing.now in
    let is = first_and_others c.args.trees.now c.dash-item.result c.in-len1-up.len_at_least c.dash-item.is in
    let no_dash = sym c.is_type_sign.ensures ∙ c.if-is_type_sign.false in
    rw (c.untyped-else-is_type_sign.ensures, is) (none_from l c.args.whole (node_of c.dash-item.result) _ no_dash (subst (AreBehindItems l) is ended))
