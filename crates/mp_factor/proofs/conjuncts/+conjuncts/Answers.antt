use Rattle.mp_factor.proofs.Basics.{◌++◌, List, map, sym, ap, ◌∙◌, append-nil, Node, node_of}
use Rattle.mp_factor.proofs.ConjunctLemmas.{of_nothing, of_and, of_other, of_word}
use Rattle.mp_factor.proofs.conjuncts.+conjuncts.Goals as goal

pub add_conjuncts-returns-in-Word : goal.add_conjuncts-returns-in-Word
add_conjuncts-returns-in-Word t c = rw (of_word c.args.tree.now _ _ c.in-Word.is) c.add_tree.ensures

pub add_conjuncts-returns-in-empty : goal.add_conjuncts-returns-in-empty
add_conjuncts-returns-in-empty t c =
    let before = map (λ t. node_of t.now) c.args.out.now.items in
    sym (append-nil before) ∙ ap (λ (ns : List Node). before ++ ns)
    (sym (of_nothing c.args.tree.now c.in-List.list.items c.in-List.field-1 c.as_slice.result.now record { is = c.in-List.is; members = c.as_slice.ensures.value } c.in-empty.len_below))

pub add_conjuncts-returns-then-is_keyword : goal.add_conjuncts-returns-then-is_keyword
add_conjuncts-returns-then-is_keyword t c =
    rw (of_and c.args.tree.now c.in-List.list.items c.in-List.field-1 c.as_slice.result.now record { is = c.in-List.is; members = c.as_slice.ensures.value }
    c.head-item.result c.in-len1-up.len_at_least c.head-item.is (sym c.is_keyword.ensures ∙ c.if-is_keyword.true)) c.add_all_conjuncts.ensures

pub add_conjuncts-returns-else-is_keyword : goal.add_conjuncts-returns-else-is_keyword
add_conjuncts-returns-else-is_keyword t c =
    rw (of_other c.args.tree.now c.in-List.list.items c.in-List.field-1 c.as_slice.result.now record { is = c.in-List.is; members = c.as_slice.ensures.value }
    c.head-item.result c.in-len1-up.len_at_least c.head-item.is (sym c.is_keyword.ensures ∙ c.if-is_keyword.false)) c.add_tree-else-is_keyword.ensures
