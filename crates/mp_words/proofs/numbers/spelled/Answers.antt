use Rattle.std.proofs.Common.{rules, ◌≡◌, true, false, ◌∙◌, ap, sym, ◌+◌, ◌*◌, get_or, drop}
use Rattle.std.proofs.lemmas.List.{drop_all}
use Rattle.mp_words.specs.Numbers.{is_digit, number_from}
use Rattle.mp_words.proofs.WordLemmas.{drop_at}
use Rattle.mp_words.proofs.NumberLemmas.{digit_more, more_fits, no_digit, no_more}
use Rattle.mp_words.proofs.numbers.spelled.Goals as goal

pub returns-then-not-is_digit : goal.returns-then-not-is_digit
returns-then-not-is_digit c =
    let other : is_digit (get_or c.args.digits.now c.loop-digit.digit-index 0) ≡ false = search rules in
    sym (c.loop-digit.invariant.0
    ∙ ap (number_from c.loop-digit.number) (drop_at c.args.digits.now _ 0 c.loop-digit-test.true)
    ∙ no_digit c.loop-digit.number _ _ other)

pub loop-digit-preserved : goal.loop-digit-preserved
loop-digit-preserved c =
    let one : is_digit (get_or c.args.digits.now c.loop-digit.digit-index 0) ≡ true = search rules in (
      c.loop-digit.invariant.0
          ∙ ap (number_from c.loop-digit.number) (drop_at c.args.digits.now _ 0 c.loop-digit-test.true)
          ∙ digit_more c.loop-digit.number _ _ one
          ∙ ap (λ d. number_from (c.loop-digit.number * 10 + d) (drop (c.loop-digit.digit-index + 1) c.args.digits.now)) (sym c.from.ensures),
      rw (c.from.ensures) (more_fits c.loop-digit.number _ c.loop-digit.digit-index one c.loop-digit.invariant.1),
    )

pub returns : goal.returns
returns c = sym (c.loop-digit.invariant.0 ∙ ap (number_from c.loop-digit.number) (drop_all _ c.args.digits.now c.loop-digit-test.false) ∙ no_more c.loop-digit.number)
