use Rattle.std.proofs.Common.{sym, ◌∙◌}
use Rattle.std.proofs.lemmas.Result.{err_from_is_err_and}
use Rattle.mp_sexp.specs.Node.{nodes_in}
use Rattle.mp_sexp.specs.Reading.{levels_in}
use Rattle.mp_sexp.proofs.Runs.{space_read, comment_read, open_read, close_read, open_refused, close_refused, foreign_refused}
use Rattle.mp_sexp.proofs.reader.after_first.Goals as goal
use Rattle.mp_sexp.proofs.reader.after_first.Goals.{in-Space, in-Open+in_ok-open-in-Open, in-Close+in_ok-close-in-Close}

pub returns-in-Comment-clause-ok : goal.returns-in-Comment-clause-ok
returns-in-Comment-clause-ok c =
    let lists = c.args.lists.now in
    rw (c.after_comment.ensures.place, c.after_comment.ensures.rest, c.place_behind.ensures)
    (comment_read (nodes_in lists.members.items) (levels_in lists.around.items) c.args.place c.args.text.now c.requires.some (sym c.kind_of_byte.ensures ∙ c.in-Comment.is))

pub returns-in_err-open-in-Open-clause-err : goal.returns-in_err-open-in-Open-clause-err
returns-in_err-open-in-Open-clause-err c =
    let lists = c.args.lists.now in
    let p = err_from_is_err_and c.from_residual.result c.from_residual.ensures.1 in
    rw (p.1, p.2) (open_refused c.in_err-open-in-Open.field-0.0 (nodes_in lists.members.items) (levels_in lists.around.items) c.args.place c.args.text.now c.requires.some (sym c.kind_of_byte.ensures ∙ c.in-Open.is) c.in_err-open-in-Open.ensures.err)

pub returns-in_err-close-in-Close-clause-err : goal.returns-in_err-close-in-Close-clause-err
returns-in_err-close-in-Close-clause-err c =
    let lists = c.args.lists.now in
    let p = err_from_is_err_and c.from_residual-in_err-close-in-Close.result c.from_residual-in_err-close-in-Close.ensures.1 in
    rw (p.1, p.2) (close_refused c.in_err-close-in-Close.field-0.0 (nodes_in lists.members.items) (levels_in lists.around.items) c.args.place c.args.text.now c.requires.some (sym c.kind_of_byte.ensures ∙ c.in-Close.is) c.in_err-close-in-Close.ensures.err)

pub returns-in-Foreign-clause-err : goal.returns-in-Foreign-clause-err
returns-in-Foreign-clause-err c =
    let lists = c.args.lists.now in
    foreign_refused (nodes_in lists.members.items) (levels_in lists.around.items) c.args.place c.args.text.now c.requires.some (sym c.kind_of_byte.ensures ∙ c.in-Foreign.is)

pub returns-after-kind_of_byte-clause-ok : goal.returns-after-kind_of_byte-clause-ok
returns-after-kind_of_byte-clause-ok c =
    let lists = c.args.lists.now in
    let members = nodes_in lists.members.items in
    let around = levels_in lists.around.items in
    let at = c.args.place in
    let text = c.args.text.now in
    let some = c.requires.some in
    let kind = sym c.kind_of_byte.ensures in
    elim c.match-kind_of_byte.branch [
      | in-Space w ↦ rw (w.lists-is, c.place_behind-in-len1-up.ensures) (space_read members around at text some (kind ∙ w.in-Space.is))
      | in-Open+in_ok-open-in-Open w ↦ rw (w.lists-is, c.place_behind-in-len1-up.ensures) (open_read members around _ at text some (kind ∙ w.in-Open.is) w.in_ok-open-in-Open.ensures.ok)
      | in-Close+in_ok-close-in-Close w ↦ rw (w.lists-is, c.place_behind-in-len1-up.ensures) (close_read members around _ at text some (kind ∙ w.in-Close.is) w.in_ok-close-in-Close.ensures.ok)
    ]
