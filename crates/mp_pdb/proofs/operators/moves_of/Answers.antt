use Rattle.std.proofs.Common.{◌≡◌, ◌+◌, ◌<◌, ◌++◌, ◌∷◌, List, [], append_assoc, get_or, length, map, take, ap, sym, subst, ◌∙◌, arith}
use Rattle.mp_task.specs.AgentTask.{AgentTask}
use Rattle.mp_task.specs.declared.act.Act.{Act}
use Rattle.mp_task.specs.declared.act.Far.{Far}
use Rattle.mp_task.specs.Projected.{far_operator, own_operator}
use Rattle.mp_pdb.specs.Moves.{AreMoves}
use Rattle.mp_pdb.proofs.OperatorLemmas.{mapped_more}
use Rattle.mp_pdb.proofs.operators.moves_of.Goals as goal

pub loop-act-preserved : goal.loop-act-preserved
loop-act-preserved c =
    let u = c.task.inside in
    let pattern = c.args.pattern.now.facts in
    let i = c.loop-act.act-index in
    let a = c.act-item.result in
    let long = ap length c.as_slice-act-items.ensures in
    let within : i < length u.acts = omega (arith, c.loop-act-test.true) in
    let item : a ≡ get_or u.acts i a = c.act-item.is ∙ ap (λ (l : List Act). get_or l i a) c.as_slice-act-items.ensures in
    subst (λ (t : AgentTask). AreMoves pattern (map (own_operator t.publics) (take (i + 1) t.acts)) c.note.new.moves.items) c.task.view_is
    (subst (λ os. AreMoves pattern os c.note.new.moves.items)
    (ap (λ x. map (own_operator u.publics) (take i u.acts) ++ own_operator u.publics x ∷ []) item ∙ sym (mapped_more (own_operator u.publics) u.acts i a within))
    (c.in_ok-note.ensures pattern (map (own_operator u.publics) (take i u.acts)) (own_operator u.publics a)
    (subst (λ (t : AgentTask). AreMoves pattern (map (own_operator t.publics) (take i t.acts)) c.loop-act.moves.items) (sym c.task.view_is) c.loop-act.invariant)
    c.own_move-found.ensures))

pub loop-part-preserved : goal.loop-part-preserved
loop-part-preserved c =
    let u = c.task.inside in
    let pattern = c.args.pattern.now.facts in
    let i = c.loop-part.part-index in
    let p = c.part-item.result in
    let new = c.note-in-loop-part.new.moves.items in
    let own = map (own_operator u.publics) u.acts in
    let long = ap length c.as_slice-part-items.ensures in
    let within : i < length u.far = omega (arith, c.loop-part-test.true) in
    let item : p ≡ get_or u.far i p = c.part-item.is ∙ ap (λ (l : List Far). get_or l i p) c.as_slice-part-items.ensures in
    subst (λ (t : AgentTask). AreMoves pattern (map (own_operator t.publics) t.acts ++ map far_operator (take (i + 1) t.far)) new) c.task.view_is
    (subst (λ os. AreMoves pattern os new)
    (append_assoc own (map far_operator (take i u.far)) (far_operator p ∷ [])
    ∙ ap (λ l. own ++ l) (ap (λ x. map far_operator (take i u.far) ++ far_operator x ∷ []) item ∙ sym (mapped_more far_operator u.far i p within)))
    (c.in_ok-note-2.ensures pattern (own ++ map far_operator (take i u.far)) (far_operator p)
    (subst (λ (t : AgentTask). AreMoves pattern (map (own_operator t.publics) t.acts ++ map far_operator (take i t.far)) c.loop-part.moves.items) (sym c.task.view_is) c.loop-part.invariant)
    c.far_move-found.ensures))
