use Rattle.std.proofs.Common.{refl}
use Rattle.mp_checker.specs.declared.facts.Facts.{Facts}
use Rattle.mp_checker.proofs.MarkLemmas.{changed}
use Rattle.mp_checker.proofs.changes.mark_changes.Goals as goal

pub returns-clause-changed : goal.returns-clause-changed
returns-clause-changed c = λ cleared set d a.
    let new : Facts = record { known = c.args.facts.now.known; marks = c.set_marks-2.new.marks } in
    changed c.args.facts.now new c.set_marks.new.marks.items cleared set c.args.dels.now c.args.adds.now refl d a
    c.in_ok-set_marks.ensures c.in_ok-set_marks-2.ensures
