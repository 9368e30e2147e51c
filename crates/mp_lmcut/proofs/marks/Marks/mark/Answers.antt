use Rattle.mp_lmcut.proofs.MarkLemmas.{mark_grows, mark_here}
use Rattle.mp_lmcut.proofs.marks.Marks.mark.Goals as goal

pub returns-clause-grown : goal.returns-clause-grown
returns-clause-grown c =
    mark_grows c.args.self.now c.args.x c.requires c.add.new.self c.in_ok-add.ensures.known c.in_ok-add.ensures.new

pub returns-clause-here : goal.returns-clause-here
returns-clause-here c =
    mark_here c.args.self.now c.args.x c.requires c.add.new.self c.in_ok-add.ensures.known c.in_ok-add.ensures.new
