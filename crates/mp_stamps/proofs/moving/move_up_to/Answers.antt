use Rattle.std.proofs.Common.{◌++◌, List, sym, ap, ◌∙◌}
use Rattle.std.proofs.lemmas.List.{append-nil}
use Rattle.mp_stamps.specs.Lists.{entries}
use Rattle.mp_stamps.specs.declared.stamped.Stamped.{Stamped}
use Rattle.mp_stamps.proofs.Moves.{none_moved, one_moved}
use Rattle.mp_stamps.proofs.moving.move_up_to.Goals as goal

pub entries-smaller : goal.entries-smaller
entries-smaller c = (one_moved c.args.last c.entries.rest c.move_first.new.self c.entries.log c.move_first.new.log
    (sym c.begins_up_to.ensures ∙ c.entries-test.true) c.in_ok-move_first.ensures).fewer

pub entries-preserved : goal.entries-preserved
entries-preserved c =
    let moved = one_moved c.args.last c.entries.rest c.move_first.new.self c.entries.log c.move_first.new.log
    (sym c.begins_up_to.ensures ∙ c.entries-test.true) c.in_ok-move_first.ensures in
    record { log = moved.log ∙ c.entries.invariant.log; rest = moved.rest ∙ c.entries.invariant.rest }

pub returns-clause-log : goal.returns-clause-log
returns-clause-log c =
    let none = none_moved c.args.last c.entries.rest (sym c.begins_up_to.ensures ∙ c.entries-test.false) in
    sym (append-nil c.entries.log) ∙ (ap (λ (l : List Stamped). c.entries.log ++ entries l) (sym none.0) ∙ c.entries.invariant.log)

pub returns-clause-rest : goal.returns-clause-rest
returns-clause-rest c =
    (none_moved c.args.last c.entries.rest (sym c.begins_up_to.ensures ∙ c.entries-test.false)).1 ∙ c.entries.invariant.rest
