use Rattle.std.proofs.Common.{◌≡◌, ap}
use Rattle.mp_sets.specs.Numbers.{SizedSet, numbers_below}
use Rattle.mp_sets.specs.Words.{has_bit}
use Rattle.mp_tokens.specs.SetRows.{IsSetRow}
use Rattle.mp_tokens.proofs.Growing.{found_if, missing_if}
use Rattle.mp_tokens.proofs.sets.find_set.Goals as goal

pub returns-clause-found : goal.returns-clause-found
returns-clause-found c =
    let row : IsSetRow c.args.set.now.size c.words.result.now = record { packed = c.words.ensures.packed; fits = c.words.ensures.fits } in
    let is : numbers_below c.args.set.now.size (has_bit c.words.result.now) ≡ c.args.set.now.members = ap (λ (s : SizedSet). s.members) c.words.ensures.set in
    found_if c.args.set.now c.words.result.now row is c.args.rows.now c.find.result c.find.ensures.found

pub returns-clause-none : goal.returns-clause-none
returns-clause-none c =
    let row : IsSetRow c.args.set.now.size c.words.result.now = record { packed = c.words.ensures.packed; fits = c.words.ensures.fits } in
    let is : numbers_below c.args.set.now.size (has_bit c.words.result.now) ≡ c.args.set.now.members = ap (λ (s : SizedSet). s.members) c.words.ensures.set in
    missing_if c.args.set.now c.words.result.now row is c.args.rows.now c.find.result c.requires c.find.ensures.none
