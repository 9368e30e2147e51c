use Rattle.std.proofs.Common.{◌≡◌, ℕ, ◌+◌, suc, None, length, get_or, set, ap, sym, ◌∙◌, arith}
use Rattle.std.proofs.lemmas.List.{get_or-set_other, length-set}
use Rattle.mp_team.specs.Joined.{either_node}
use Rattle.mp_team.proofs.Changing.{at_end, either_first, first_length, not_yet, one_more}
use Rattle.mp_team.proofs.joining.take_over.Goals as goal

pub take_place-requires-clause-own : goal.take_place-requires-clause-own
take_place-requires-clause-own g c =
    let l = c.loop-at in
    let low = c.loop-at-test.true in
    let count = c.len-count.ensures in
    let same = ap length l.invariant.nodes ∙ first_length l.at c.args.nodes.now c.args.others in
    omega arith

pub loop-at-preserved : goal.loop-at-preserved
loop-at-preserved g c =
    let l = c.loop-at in
    let at = l.at in
    let ns = c.args.nodes.now in
    let ms = c.args.others in
    let low = c.loop-at-test.true in
    let count = c.len-count.ensures in
    let many = c.requires in
    let step = c.take_place.ensures in
    let up : suc at ≡ at + 1 = omega arith in
    let own : get_or l.nodes at None ≡ get_or ns at None = ap (λ xs. get_or xs at None) l.invariant.nodes ∙ not_yet at ns ms in
    let other : get_or l.others at None ≡ get_or ms at None = l.invariant.left at (omega arith) in
    record {
      nodes = step.own
          ∙ ((λ i. set (l.invariant.nodes i) at (either_node (own i) (other i)))
          ∙ (sym (one_more at ns ms (omega arith) (omega arith)) ∙ ap (λ (k : ℕ). either_first k ns ms) up));
      many = ap length step.other ∙ (length-set l.others at None ∙ l.invariant.many);
      left = λ k past. ap (λ xs. get_or xs k None) step.other
          ∙ (get_or-set_other l.others at k None None (λ e. omega arith) ∙ l.invariant.left k (omega arith));
    }

pub returns : goal.returns
returns g c =
    let l = c.loop-at in
    let ns = c.args.nodes.now in
    let ms = c.args.others in
    let past = c.loop-at-test.false in
    let end = l.auto.at-end in
    let count = c.len-count.ensures in
    let here : l.at ≡ length ns = omega arith in
    l.invariant.nodes ∙ (ap (λ (k : ℕ). either_first k ns ms) here ∙ at_end ns ms c.requires)
