use Rattle.std.proofs.Common.{◌*◌, ◌/◌, inl, inr, arith}
use Rattle.std.proofs.lemmas.Bool.{cases_lt}
use Rattle.mp_sets.proofs.WordLemmas.{has_bit-past}
use Rattle.mp_sets.proofs.FirstBitLemmas.{clear_word, clear_rest, first_in_rest, first_in_word}
use Rattle.mp_sets.proofs.words.first_from.Goals as goal

pub returns-then-first-words-clause-none : goal.returns-then-first-words-clause-none
returns-then-first-words-clause-none c = λ x above. has_bit-past c.args.words.now x (omega (arith, c.if-first-words.true))

pub returns-then-rest-ne0-clause-some : goal.returns-then-rest-ne0-clause-some
returns-then-rest-ne0-clause-some c =
    first_in_rest c.args.words.now c.args.from (c.type_inv.words (c.args.from / 64)).fits c.if-rest-ne0.true

pub loop-at-init : goal.loop-at-init
loop-at-init c = clear_rest c.args.words.now c.args.from c.if-rest-ne0.false

pub returns-then-words-at-ne0-clause-some : goal.returns-then-words-at-ne0-clause-some
returns-then-words-at-ne0-clause-some c =
    first_in_word c.args.words.now c.args.from c.loop-at.at (omega (arith, c.loop-at.auto.at)) c.loop-at.invariant (c.type_inv.words c.loop-at.at).fits c.if-words-at-ne0.true

pub loop-at-preserved : goal.loop-at-preserved
loop-at-preserved c = λ y above below. elim (cases_lt y (64 * c.loop-at.at)) [
  | inl before ↦ c.loop-at.invariant y above before
  | inr here ↦ clear_word c.args.words.now c.loop-at.at c.if-words-at-ne0.false y (omega arith)
]

pub returns-clause-none : goal.returns-clause-none
returns-clause-none c = λ x above. elim (cases_lt x (64 * c.loop-at.at)) [
  | inl before ↦ c.loop-at.invariant x above before
  | inr past ↦ has_bit-past c.args.words.now x (omega (arith, c.loop-at-test.false))
]
