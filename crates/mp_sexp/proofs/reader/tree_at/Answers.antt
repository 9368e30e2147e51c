use Rattle.std.proofs.Common.{sym, ◌∙◌}
use Rattle.std.proofs.lemmas.Bool.{eqb-true}
use Rattle.mp_sexp.specs.Reading.{state_of}
use Rattle.mp_sexp.proofs.Runs.{run_ends}
use Rattle.mp_sexp.proofs.reader.tree_at.Goals as goal

pub returns : goal.returns
returns c =
    let none = eqb-true _ 0 (sym c.is_empty.ensures ∙ c.loop-rest-test.false) in
    rw (run_ends (state_of c.loop-rest.lists) c.loop-rest.place c.loop-rest.rest.now c.args.text.now none c.loop-rest.invariant.goes_on) c.only_tree.ensures
