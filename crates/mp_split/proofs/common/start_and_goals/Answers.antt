use Rattle.mp_split.proofs.Basics.{◌++◌, ◌∷◌, ◌+◌, ◌∙◌, ℕ, [], List, Text, ap, cond, is_listed, is_true, numbers_where}
use Rattle.mp_typing.proofs.Placing.{all_placed}
use Rattle.mp_split.proofs.Numbering.{one_place}
use Rattle.mp_split.proofs.common.start_and_goals.Goals as goal

pub loop-text-preserved : goal.loop-text-preserved
loop-text-preserved c =
    let table : List Text = c.args.table.now in
    let text : Text = c.text-item.result in
    let l = c.loop-text in
    let is_start = is_true c.args.init.now in
    let is_goal = λ (text : Text). is_listed text c.args.goals.now in
    let start = c.in_ok-add_place.ensures.added ∙ ap (λ b. l.start ++ cond b (l.place ∷ []) []) c.is_true_text.ensures in
    let wanted = c.in_ok-add_place-2.ensures.added ∙ ap (λ b. l.wanted ++ cond b (l.place ∷ []) []) c.contains.ensures in
    record {
      counted = ap (λ (n : ℕ). n + 1) l.invariant.counted;
      above = (c.add_place.ensures.above, c.add_place-in-loop-text.ensures.above);
      start = one_place is_start l.start c.add_place.new.places (numbers_where 0 is_start table) l.place l.text-index table text
          c.loop-text-test.true c.text-item.is start l.invariant.start;
      wanted = one_place is_goal l.wanted c.add_place-in-loop-text.new.places (numbers_where 0 is_goal table) l.place l.text-index table text
          c.loop-text-test.true c.text-item.is wanted l.invariant.wanted;
    }

pub returns : goal.returns
returns c =
    let table : List Text = c.args.table.now in
    let l = c.loop-text in
    let is_start = is_true c.args.init.now in
    let is_goal = λ (text : Text). is_listed text c.args.goals.now in
    record {
      start = all_placed is_start l.start (numbers_where 0 is_start table) l.place l.text-index table c.loop-text-test.false l.invariant.start;
      goals = all_placed is_goal l.wanted (numbers_where 0 is_goal table) l.place l.text-index table c.loop-text-test.false l.invariant.wanted;
    }
