use Rattle.mp_factor.proofs.Basics.{◌∷◌, ◌++◌, [], sym, ap, ◌∙◌, node_of, nodes_in, each, found_in, both_found, more_found}
use Rattle.mp_factor.proofs.FoundLemmas.{lists, one_more, found_each, found_said}
use Rattle.mp_factor.proofs.TypedLemmas.{each_typed, of_type}
use Rattle.mp_factor.proofs.typed_values.with_group_of.Goals as goal

pub returns : goal.returns
returns g c =
    let l = g.L.Listing.listing c.args.listing.now in
    let t = c.args.item_type.now in
    let n = node_of c.args.group.first.now in
    let ns = nodes_in c.args.group.others.now in
    c.in_ok-all.ensures
    ∙ ap (λ r. more_found r (found_in (each (of_type l.item t) ns)))
    (c.in_ok-items.ensures ∙ ap (λ x. both_found (λ xs x. xs ++ x ∷ []) c.args.so_far x) (c.in_ok-first.ensures ∙ sym (found_said (λ make. make t) (l.item n))))
    ∙ one_more _ _ lists c.args.so_far (found_in (of_type l.item t n)) (found_in (each (of_type l.item t) ns))
    ∙ ap (λ r. more_found c.args.so_far r) (sym (found_each (of_type l.item t) n ns) ∙ each_typed l.item t (n ∷ ns))
