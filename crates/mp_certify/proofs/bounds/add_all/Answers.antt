use Rattle.std.proofs.Common.{List, [], ◌∷◌, ◌++◌, length, sym, ap, ◌∙◌, append_assoc, arith}
use Rattle.std.specs.Vec.Iter.{into_iter_items}
use Rattle.mp_audit.specs.declared.certificate.Bound.{Bound}
use Rattle.mp_certify.proofs.bounds.add_all.Goals as goal

pub loop-bound-preserved : goal.loop-bound-preserved
loop-bound-preserved c =
    let l = c.loop-bound in
    let rest = into_iter_items c.next.new.self in
    let step = c.in-Some.ensures.steps in
    record {
      count = let a = l.invariant.count in let b = step.1 in let d = ap length step.0 in omega arith;
      made =
          ap (λ (bs : List Bound). bs ++ rest) c.in_ok-push.ensures.ok
          ∙ append_assoc l.bounds (c.in-Some.bound ∷ []) rest
          ∙ ap (λ (bs : List Bound). l.bounds ++ bs) (sym step.0)
          ∙ l.invariant.made;
    }
