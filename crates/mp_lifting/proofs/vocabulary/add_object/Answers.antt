use Rattle.mp_lifting.proofs.Basics.{sym, ◌∙◌}
use Rattle.mp_lifting.proofs.DeclaredNames.{named_new, named_old}
use Rattle.mp_lifting.proofs.vocabulary.add_object.Goals as goal

pub returns-then-contains : goal.returns-then-contains
returns-then-contains c = λ declared so_far.
    named_old declared c.args.object.now c.args.table.now so_far (sym c.contains.ensures ∙ c.if-contains.true)

pub returns : goal.returns
returns c = λ declared so_far.
    named_new declared c.args.object.now c.args.table.now c.push.new.self so_far (sym c.contains.ensures ∙ c.if-contains.false)
    c.in_ok-push.ensures.added
