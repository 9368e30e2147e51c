use Rattle.std.proofs.Common.{◌≡◌, ◌<◌, List, length, Some, sym, ap, ◌∙◌, arith}
use Rattle.std.specs.Prelude.{slice_get}
use Rattle.std.proofs.lemmas.Option.{slice_get-get_or}
use Rattle.mp_task.specs.declared.act.Act.{Act}
use Rattle.mp_task.specs.AgentTask.{AgentTask}
use Rattle.mp_applicable.proofs.ListingLemmas.{one_listed, all_listed}
use Rattle.mp_applicable.proofs.building.lists_of.Goals as goal

pub loop-number-preserved : goal.loop-number-preserved
loop-number-preserved c =
    let items = c.as_slice-act-items.result.now in
    let items_are : items ≡ c.args.task.now.acts = c.as_slice-act-items.ensures ∙ ap (λ (x : AgentTask). x.acts) c.task.view_is in
    let inside : c.loop-number.number < length items = omega arith in
    one_listed c.args.task.now c.loop-number.number c.act-item.result c.loop-number.lists c.list_next.new.lists
    (ap (λ (xs : List Act). slice_get xs c.loop-number.number) (sym items_are)
    ∙ slice_get-get_or items c.loop-number.number c.act-item.result inside
    ∙ ap (λ (a : Act). Some a) (sym c.act-item.is))
    c.loop-number.invariant c.in_ok-list_next.ensures

pub returns : goal.returns
returns c =
    let all : length c.as_slice-act-items.result.now ≡ length c.args.task.now.acts = ap length (c.as_slice-act-items.ensures ∙ ap (λ (x : AgentTask). x.acts) c.task.view_is) in
    all_listed c.args.task.now c.loop-number.number c.loop-number.lists (omega arith) c.loop-number.invariant
