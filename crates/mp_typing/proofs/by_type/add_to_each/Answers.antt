use Rattle.mp_typing.proofs.Basics.{◌≡◌, ◌<◌, List, get_or, length, subst, Word, items_of}
use Rattle.mp_typing.proofs.ByTypeLemmas.{word_more}
use Rattle.mp_typing.proofs.by_type.add_to_each.Goals as goal

pub loop-word-preserved : goal.loop-word-preserved
loop-word-preserved g c = λ name.
    let l = c.loop-word in
    let words = c.args.types.now in
    let w = c.word-item.result in
    let lt = subst (λ (ws : List Word). l.word-index < length ws) c.as_slice-word-items.ensures c.loop-word-test.true in
    let is = subst (λ (ws : List Word). w ≡ get_or ws l.word-index w) c.as_slice-word-items.ensures c.word-item.is in
    word_more c.args.item.now c.in_ok-copy.field-0 words l.word-index w name (items_of c.args.items.now.entries name) (items_of l.items.entries name)
    (items_of c.add_item.new.items.entries name) c.in_ok-copy.ensures lt is (l.invariant name) (c.in_ok-add_item.ensures name)
