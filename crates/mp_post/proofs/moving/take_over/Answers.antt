use Rattle.std.proofs.Common.{[], length, get_or, false, refl, arith, ap, ◌∙◌}
use Rattle.std.proofs.lemmas.List.{length-set}
use lib.ListN.{length-map}
use Rattle.mp_post_rule.specs.Views.{list_in}
use Rattle.mp_post.specs.Moves.{chosen, either_mark}
use Rattle.mp_post.proofs.Merging.{both_step, ends_with}
use Rattle.mp_post.proofs.moving.take_over.Goals as goal

pub loop-place-preserved : goal.loop-place-preserved
loop-place-preserved c =
    let l = c.loop-place in
    let low = c.loop-place-test.true in
    let place = l.place in
    let step = c.take_place.ensures in
    let mark = c.is_held-other_held.result in
    record {
      lists = ap length step.lists ∙ (length-set l.lists place (chosen (get_or l.held.items place false) mark (get_or l.lists place []) (get_or l.others place [])) ∙ l.invariant.lists);
      held = ap length step.held ∙ (length-set l.held.items place (either_mark (get_or l.held.items place false) mark) ∙ l.invariant.held);
      others = step.many ∙ l.invariant.others;
      left = λ k past. step.others k (omega arith) ∙ l.invariant.left k (omega arith);
      moved = λ v w mine theirs.
          both_step place v w c.args.lists.now c.args.held.now.items c.args.others.now c.args.others_held.now mine theirs
          l.lists l.held.items l.others c.take_place.new.lists c.take_place.new.held.items mark
          c.requires.many.2 low (l.invariant.left place (omega arith)) c.is_held-other_held.ensures
          step.lists step.held (l.invariant.moved v w mine theirs);
    }

pub loop-place-init : goal.loop-place-init
loop-place-init c = record {
  lists = refl;
  held = refl;
  others = refl;
  left = λ k past. refl;
  moved = λ v w mine theirs. (mine.0, mine.1);
}

pub take_place-requires-clause-lists : goal.take_place-requires-clause-lists
take_place-requires-clause-lists c =
    let l = c.loop-place in
    let low = c.loop-place-test.true in
    let lists = l.invariant.lists in
    let held = l.invariant.held in
    let many = c.requires.many.0 in
    let theirs = c.requires.many.2 in
    (omega arith, omega arith)

pub take_place-requires-clause-others : goal.take_place-requires-clause-others
take_place-requires-clause-others c =
    let l = c.loop-place in
    let low = c.loop-place-test.true in
    let others = l.invariant.others in
    let many = c.requires.many.1 in
    let theirs = c.requires.many.2 in
    omega arith

pub returns : goal.returns
returns c =
    let l = c.loop-place in
    let past = c.loop-place-test.false in
    let end = l.auto.place-end in
    let others = c.requires.many.1 in
    let theirs_many = c.requires.many.2 in
    λ v w mine theirs.
    let a = ap length mine.0 ∙ length-map v.parties list_in in
    let b = ap length theirs.0 ∙ length-map w.parties list_in in
    ends_with l.place v w l.lists l.held.items (omega arith) (omega arith) (l.invariant.moved v w mine theirs)
