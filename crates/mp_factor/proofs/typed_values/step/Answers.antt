use Rattle.mp_factor.proofs.Basics.{false, ◌∷◌, drop, List, sym, ap, subst, ◌∙◌, Node, node_of, nodes_in, each, found_in, both_found, more_found, items_found, AreBehindItems, typed_from}
use Rattle.mp_factor.proofs.Steps.{first_and_others, behind}
use Rattle.mp_factor.proofs.TypedLemmas.{items_with, block_from, block_more, group_first, behind_group, group_more}
use Rattle.mp_factor.proofs.typed_values.step.Goals as goal

-- a block
pub returns-then-is_block-clause-kept : goal.returns-then-is_block-clause-kept
returns-then-is_block-clause-kept g c =
    let l = g.L.Listing.listing c.args.listing.now in
    let whole = c.args.whole in
    let trees = c.args.progress.rest.now in
    let n = node_of c.first-item.result in
    let rest = nodes_in (behind 1 trees) in
    let block = sym c.is_block.ensures ∙ c.if-is_block.true in
    ap (λ r. more_found r (items_found (found_in (typed_from l whole false rest))))
    (c.in_ok-so_far-in-len1-up.ensures ∙ ap (λ b. more_found c.args.progress.so_far b) c.in_ok-read_block-in-len1-up.ensures)
    ∙ block_more l.untyped c.args.progress.so_far (found_in (l.block n)) (found_in (typed_from l whole false rest))
    ∙ ap (λ r. more_found c.args.progress.so_far (items_found r))
    (sym (block_from l whole n rest block)
    ∙ ap (λ (ns : List Node). found_in (typed_from l whole false ns)) (sym (first_and_others trees c.first-item.result c.in-len1-up.len_at_least c.first-item.is)))

-- items and their type
pub returns-in_ok-so_far-in-len1-up-2-clause-kept : goal.returns-in_ok-so_far-in-len1-up-2-clause-kept
returns-in_ok-so_far-in-len1-up-2-clause-kept g c =
    let l = g.L.Listing.listing c.args.listing.now in
    let whole = c.args.whole in
    let trees = c.args.progress.rest.now in
    let so_far = c.args.progress.so_far in
    let n = node_of c.first-item.result in
    let others = nodes_in (behind 1 trees) in
    let no_block = sym c.is_block.ensures ∙ c.if-is_block.false in
    let items = found_in (each l.item (n ∷ nodes_in c.split.result.0.now)) in
    let rest = found_in (typed_from l whole false (nodes_in c.in_ok-item_type-in-len1-up.rest.now)) in
    let ended : AreBehindItems l (nodes_in c.split.result.1.now) =
    subst (AreBehindItems l) (sym (c.split.ensures.back ∙ ap (λ k. drop k others) c.group_len.ensures.size)) (behind_group l others) in
    ap (λ r. more_found r (items_found rest)) c.in_ok-so_far-in-len1-up-2.ensures
    ∙ group_more so_far items c.in_ok-item_type-in-len1-up.item_type rest
    ∙ ap (λ r. more_found so_far (items_found (both_found items_with items r))) (c.in_ok-item_type-in-len1-up.ensures.first ended)
    ∙ ap (λ r. more_found so_far (items_found r))
    (rw (c.split.ensures.front, c.split.ensures.back) (sym (group_first l whole n others c.group_len.result no_block c.group_len.ensures.size))
    ∙ ap (λ (ns : List Node). found_in (typed_from l whole false ns)) (sym (first_and_others trees c.first-item.result c.in-len1-up.len_at_least c.first-item.is)))
