use Rattle.mp_typing.proofs.Basics.{◌≡◌, ◌<◌, ◌++◌, ◌∙◌, ℕ, List, get_or, length, ap, subst, Typed, listed_by}
use Rattle.mp_typing.proofs.ByTypeLemmas.{declared_more}
use Rattle.mp_typing.proofs.hierarchy.lower_of.Goals as goal

pub loop-declared-preserved : goal.loop-declared-preserved
loop-declared-preserved c = λ name.
    let l = c.loop-declared in
    let types = c.args.types.now in
    let t = c.declared-item.result in
    let lt = subst (λ (ts : List Typed). l.declared-index < length ts) c.as_slice-declared-items.ensures c.loop-declared-test.true in
    let is = subst (λ (ts : List Typed). t ≡ get_or ts l.declared-index t) c.as_slice-declared-items.ensures c.declared-item.is in
    c.in_ok-add_to_each.ensures name
    ∙ ap (λ (ns : List (List ℕ)). ns ++ listed_by t.word.name t.types name) (l.invariant name)
    ∙ declared_more types l.declared-index t name lt is
