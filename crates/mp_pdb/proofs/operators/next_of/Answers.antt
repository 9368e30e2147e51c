use Rattle.std.proofs.Common.{◌≡◌, ◌+◌, ◌<◌, None, List, get_or, length, take, ap, sym, subst, ◌∙◌, arith}
use Rattle.std.proofs.lemmas.List.{take_all}
use Rattle.std.specs.List.{flat_map}
use Rattle.std.specs.Option.{IfSome}
use Rattle.mp_estimates.specs.Estimates.{lesser}
use Rattle.mp_task.specs.AgentTask.{AgentTask}
use Rattle.mp_task.specs.declared.act.Act.{Act}
use Rattle.mp_task.specs.declared.act.Far.{Far}
use Rattle.mp_task.specs.Limits.{IsWithinLimits}
use Rattle.mp_task.specs.Projected.{far_operator, own_operator, projected}
use Rattle.mp_pdb.specs.Pattern.{least, missing, missing_of}
use Rattle.mp_pdb.proofs.GrowthLemmas.{least_more, missing_is, next_such}
use Rattle.mp_pdb.proofs.OperatorLemmas.{pres_fit}
use Rattle.mp_pdb.proofs.operators.next_of.Goals as goal

pub loop-act-preserved : goal.loop-act-preserved
loop-act-preserved c =
    let u = c.task.inside in
    let pattern = c.args.pattern.now.facts in
    let i = c.loop-act.act-index in
    let a = c.act-item.result in
    let long = ap length c.as_slice-act-items.ensures in
    let within : i < length u.acts = omega (arith, c.loop-act-test.true) in
    let item : a ≡ get_or u.acts i a = c.act-item.is ∙ ap (λ (l : List Act). get_or l i a) c.as_slice-act-items.ensures in
    c.lowest_of_own-lowest.ensures
    ∙ ap (λ x. lesser c.loop-act.lowest (least (missing_of pattern (own_operator u.publics x)))) item
    ∙ least_more (λ (x : Act). missing_of pattern (own_operator u.publics x)) u.acts i a None c.loop-act.lowest within
    (c.loop-act.invariant ∙ sym (ap (λ (t : AgentTask). lesser None (least (flat_map (λ (x : Act). missing_of pattern (own_operator t.publics x)) (take i t.acts)))) c.task.view_is))
    ∙ ap (λ (t : AgentTask). lesser None (least (flat_map (λ (x : Act). missing_of pattern (own_operator t.publics x)) (take (i + 1) t.acts)))) c.task.view_is

pub loop-part-preserved : goal.loop-part-preserved
loop-part-preserved c =
    let u = c.task.inside in
    let pattern = c.args.pattern.now.facts in
    let i = c.loop-part.part-index in
    let p = c.part-item.result in
    let own = least (flat_map (λ (x : Act). missing_of pattern (own_operator c.args.task.now.publics x)) c.args.task.now.acts) in
    let long = ap length c.as_slice-part-items.ensures in
    let within : i < length u.far = omega (arith, c.loop-part-test.true) in
    let item : p ≡ get_or u.far i p = c.part-item.is ∙ ap (λ (l : List Far). get_or l i p) c.as_slice-part-items.ensures in
    c.lowest_of_far-lowest.ensures
    ∙ ap (λ x. lesser c.loop-part.lowest (least (missing_of pattern (far_operator x)))) item
    ∙ least_more (λ (x : Far). missing_of pattern (far_operator x)) u.far i p own c.loop-part.lowest within
    (c.loop-part.invariant ∙ sym (ap (λ (t : AgentTask). lesser own (least (flat_map (λ (x : Far). missing_of pattern (far_operator x)) (take i t.far)))) c.task.view_is))
    ∙ ap (λ (t : AgentTask). lesser own (least (flat_map (λ (x : Far). missing_of pattern (far_operator x)) (take (i + 1) t.far)))) c.task.view_is

pub returns-clause-least : goal.returns-clause-least
returns-clause-least c =
    let t = c.args.task.now in
    let pattern = c.args.pattern.now.facts in
    let own = least (flat_map (λ (x : Act). missing_of pattern (own_operator t.publics x)) t.acts) in
    let long = ap length (c.as_slice-part-items.ensures ∙ ap (λ (u : AgentTask). u.far) c.task.view_is) in
    c.loop-part.invariant
    ∙ ap (λ l. lesser own (least (flat_map (λ (x : Far). missing_of pattern (far_operator x)) l))) (take_all c.loop-part.part-index t.far (omega (arith, c.loop-part-test.false)))
    ∙ missing_is t pattern

pub returns-clause-below : goal.returns-clause-below
returns-clause-below c =
    let t = c.args.task.now in
    let pattern = c.args.pattern.now.facts in
    let fits = subst IsWithinLimits c.task.view_is c.task.invariant in
    let own = least (flat_map (λ (x : Act). missing_of pattern (own_operator t.publics x)) t.acts) in
    let long = ap length (c.as_slice-part-items.ensures ∙ ap (λ (u : AgentTask). u.far) c.task.view_is) in
    let is : c.loop-part.lowest ≡ least (missing (projected t).operators pattern) =
    c.loop-part.invariant
    ∙ ap (λ l. lesser own (least (flat_map (λ (x : Far). missing_of pattern (far_operator x)) l))) (take_all c.loop-part.part-index t.far (omega (arith, c.loop-part-test.false)))
    ∙ missing_is t pattern in
    subst (λ o. IfSome o (λ x. x < c.args.pattern.now.size)) (sym is)
    (subst (λ n. IfSome (least (missing (projected t).operators pattern)) (λ x. x < n)) (sym c.requires)
    (next_such (λ x. x < t.publics + t.privates) pattern (projected t).operators (pres_fit t fits)))
