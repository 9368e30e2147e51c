use Rattle.std.proofs.Common.{◌≡◌, sym, ap, subst, ◌∙◌}
use Rattle.mp_sets.specs.Numbers.{SizedSet, numbers_below}
use Rattle.mp_sets.specs.Words.{has_bit}
use Rattle.mp_tokens.specs.SetRows.{sets_of, AreSetRows, IsSetRow}
use Rattle.mp_tokens.proofs.Growing.{new_row, rows_pushed, sets_pushed}
use Rattle.mp_tokens.proofs.sets.add_set.Goals as goal

pub push-requires : goal.push-requires
push-requires c =
    let row : IsSetRow c.args.set.now.size c.words.result.now = record { packed = c.words.ensures.packed; fits = c.words.ensures.fits } in
    let is : numbers_below c.args.set.now.size (has_bit c.words.result.now) ≡ c.args.set.now.members = ap (λ (s : SizedSet). s.members) c.words.ensures.set in
    new_row c.args.set.now c.words.result.now row is c.args.rows.now c.requires.new

pub returns-in_err-push-clause-rows : goal.returns-in_err-push-clause-rows
returns-in_err-push-clause-rows c = subst (AreSetRows c.args.set.now.size) (sym c.in_err-push.ensures.err) c.requires.rows

pub returns-clause-rows : goal.returns-clause-rows
returns-clause-rows c =
    let row : IsSetRow c.args.set.now.size c.words.result.now = record { packed = c.words.ensures.packed; fits = c.words.ensures.fits } in
    let is : numbers_below c.args.set.now.size (has_bit c.words.result.now) ≡ c.args.set.now.members = ap (λ (s : SizedSet). s.members) c.words.ensures.set in
    subst (AreSetRows c.args.set.now.size) (sym c.in_ok-push.ensures.pushed)
    (rows_pushed c.args.set.now c.words.result.now row is c.args.rows.now c.requires.rows (new_row c.args.set.now c.words.result.now row is c.args.rows.now c.requires.new))

pub returns-clause-added : goal.returns-clause-added
returns-clause-added c =
    let row : IsSetRow c.args.set.now.size c.words.result.now = record { packed = c.words.ensures.packed; fits = c.words.ensures.fits } in
    let is : numbers_below c.args.set.now.size (has_bit c.words.result.now) ≡ c.args.set.now.members = ap (λ (s : SizedSet). s.members) c.words.ensures.set in
    ap (sets_of c.args.set.now.size) c.in_ok-push.ensures.pushed ∙ sets_pushed c.args.set.now c.words.result.now row is c.args.rows.now
