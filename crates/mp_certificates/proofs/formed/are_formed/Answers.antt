use Rattle.std.proofs.Common.{All, subst}
use Rattle.std.proofs.lemmas.List.{take_all}
use Rattle.std.proofs.lemmas.List.Elements.{All-more}
use Rattle.mp_certificates.specs.Accepted.{IsFormed}
use Rattle.mp_certificates.proofs.formed.are_formed.Goals as goal

pub loop-entry-preserved : goal.loop-entry-preserved
loop-entry-preserved c =
    All-more IsFormed c.args.entries.now c.loop-entry.entry-index c.entry-item.result c.loop-entry-test.true c.loop-entry.invariant (subst IsFormed c.entry-item.is c.is_formed.ensures)

pub returns : goal.returns
returns c = subst (All IsFormed) (take_all c.loop-entry.entry-index c.args.entries.now c.loop-entry-test.false) c.loop-entry.invariant
