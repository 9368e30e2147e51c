use Rattle.mp_split.proofs.Basics.{arith, [], ◌∷◌, ◌++◌, length, ap, ◌∙◌, into_iter_items, Act, ActFits, act_at}
use Rattle.std.proofs.lemmas.List.Elements.{All-rest}
use Rattle.mp_split.proofs.Taking.{one_taken}
use Rattle.mp_split.proofs.task.renumbered.Goals as goal

pub loop-act-preserved : goal.loop-act-preserved
loop-act-preserved c =
    let l = c.loop-act in
    let numbers = c.args.numbers.now in
    let before = into_iter_items l.act-iterator in
    let rest = into_iter_items c.next.new.self in
    let act = c.in-Some.act in
    let step = c.in-Some.ensures.steps in
    record {
      count = let a = l.invariant.count in let b = step.1 in let d = ap length step.0 in omega arith;
      made = one_taken (act_at numbers) l.made c.push.new.self _ before rest act step.0
          (c.in_ok-push.ensures.ok ∙ ap (λ (x : Act). l.made ++ x ∷ []) c.in_ok-act_of.ensures) l.invariant.made;
      fits = All-rest (ActFits (length numbers) c.args.privates) act rest before step.0 l.invariant.fits;
    }
