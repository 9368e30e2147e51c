use Rattle.std.proofs.Common.{◌≡◌, ◌+◌, [], ◌∷◌, ◌++◌, None, length, drop, get_or, ap, sym, ◌∙◌, arith}
use Rattle.std.proofs.lemmas.List.{append_assoc, drop-set-lt, drop_more, length-set}
use Rattle.mp_team.specs.Machines.{machines_in}
use Rattle.mp_team.proofs.Ended.{machines_step}
use Rattle.mp_team.proofs.ending.machines_of.Goals as goal

pub loop-at-preserved : goal.loop-at-preserved
loop-at-preserved g c =
    let l = c.loop-at in
    let at = l.at in
    let low = c.loop-at-test.true in
    let many = l.invariant.many in
    let taken = c.take-node.ensures in
    let x = get_or l.nodes at None in
    let rest = drop (at + 1) l.nodes in
    let left : drop (at + 1) c.take-node.new.self ≡ rest = ap (drop (at + 1)) taken.left ∙ drop-set-lt (at + 1) l.nodes at None (omega arith) in
    let pushed : c.push.new.machines.items ≡ l.machines.items ++ machines_in (x ∷ []) =
    c.in_ok-push.ensures ∙ ap (λ y. l.machines.items ++ machines_in (y ∷ [])) taken.node in
    let more : machines_in (drop at l.nodes) ≡ machines_in (x ∷ []) ++ machines_in rest =
    ap machines_in (drop_more l.nodes at None (omega arith)) ∙ machines_step x rest in
    record {
      many = ap length taken.left ∙ (length-set l.nodes at None ∙ many);
      made = (λ i. pushed i ++ machines_in (left i))
          ∙ (append_assoc l.machines.items (machines_in (x ∷ [])) (machines_in rest)
          ∙ (ap (λ ys. l.machines.items ++ ys) (sym more) ∙ l.invariant.made));
    }
