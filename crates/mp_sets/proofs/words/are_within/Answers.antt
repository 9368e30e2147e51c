use Rattle.std.proofs.Common.{◌*◌, ◌∙◌, inl, inr, sym, refl, arith}
use Rattle.std.proofs.lemmas.Bool.{cases_lt, true≢false}
use Rattle.mp_sets.proofs.WordLemmas.{word_within, within_word, has_bit-past}
use Rattle.mp_sets.proofs.words.are_within.Goals as goal

pub returns-then-words-at-ne0 : goal.returns-then-words-at-ne0
returns-then-words-at-ne0 c = (
  λ no. absurd (true≢false (sym no)),
  λ within. absurd (c.if-words-at-ne0.true (within_word c.args.words.now c.args.others.now c.loop-at.at (c.type_inv.words c.loop-at.at).fits (c.type_inv.others c.loop-at.at).fits (λ q _. within q))),
)

pub loop-at-preserved : goal.loop-at-preserved
loop-at-preserved c = λ x h here. elim (cases_lt x (64 * c.loop-at.at)) [
  | inl before ↦ c.loop-at.invariant x before here
  | inr after ↦ word_within c.args.words.now c.args.others.now c.loop-at.at (c.type_inv.others c.loop-at.at).fits c.if-words-at-ne0.false x (omega arith) here
]

pub returns : goal.returns
returns c = (
  λ _ x here. elim (cases_lt x (64 * c.loop-at.at)) [
    | inl before ↦ c.loop-at.invariant x before here
    | inr after ↦ absurd (true≢false (sym here ∙ has_bit-past c.args.words.now x (omega (arith, c.loop-at-test.false))))
  ],
  λ _. refl,
)
