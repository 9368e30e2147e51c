use Rattle.std.proofs.Common.{◌≡◌, length, sym, ◌∙◌, arith}
use Rattle.std.proofs.lemmas.Bool.{eqb-true, eqb-false}
use Rattle.mp_sexp.specs.Node.{nodes_in}
use Rattle.mp_sexp.specs.Reading.{levels_in}
use Rattle.mp_sexp.proofs.Runs.{outside_fails, some_levels, word_goes_on}
use Rattle.mp_sexp.proofs.reader.after_word.Goals as goal

pub returns-then-is_empty-clause-err : goal.returns-then-is_empty-clause-err
returns-then-is_empty-clause-err c =
    let lists = c.args.lists.now in
    let none : length lists.around.items ≡ 0 = omega (arith, eqb-true _ 0 (sym c.is_empty.ensures ∙ c.if-is_empty.true), lists.around.ok) in
    rw (c.refuse_misplaced.ensures, c.as_slice.ensures.value) (outside_fails (nodes_in lists.members.items) lists.around.items c.args.place c.args.text.now none c.requires.some)

pub returns-clause-ok : goal.returns-clause-ok
returns-clause-ok c =
    let lists = c.args.lists.now in
    let some : length lists.around.items ≡ 0 → ⊥ = λ e. eqb-false _ 0 (sym c.is_empty.ensures ∙ c.if-is_empty.false) (omega (arith, e, lists.around.ok)) in
    let on = word_goes_on (nodes_in lists.members.items) (levels_in lists.around.items) c.args.place c.args.text.now (some_levels lists.around.items some) c.requires.some in
    rw (c.place_further_on.ensures, c.split_at.ensures.back, c.in_ok-add_word.ensures.members, c.in_ok-add_word.ensures.around, c.split_at.ensures.front, c.word_len-len.ensures.value) on
