use Rattle.std.proofs.Common.{◌*◌, ◌∙◌, inl, inr, sym, refl, arith}
use Rattle.std.proofs.lemmas.Bool.{cases_lt, true≢false}
use Rattle.mp_sets.proofs.WordLemmas.{same_word_bits, same_word, has_bit-past}
use Rattle.mp_sets.proofs.words.are_equal.Goals as goal

pub returns-then-words-at : goal.returns-then-words-at
returns-then-words-at c = (
  λ no. absurd (true≢false (sym no)),
  λ same. absurd (c.if-words-at.true (same_word c.args.words.now c.args.others.now c.loop-at.at (c.type_inv.words c.loop-at.at).fits (c.type_inv.others c.loop-at.at).fits (λ q _. same q))),
)

pub loop-at-preserved : goal.loop-at-preserved
loop-at-preserved c = λ x h. elim (cases_lt x (64 * c.loop-at.at)) [
  | inl before ↦ c.loop-at.invariant x before
  | inr after ↦ same_word_bits c.args.words.now c.args.others.now c.loop-at.at c.if-words-at.false x (omega arith)
]

pub returns : goal.returns
returns c = (
  λ _ x. elim (cases_lt x (64 * c.loop-at.at)) [
    | inl before ↦ c.loop-at.invariant x before
    | inr after ↦
        has_bit-past c.args.words.now x (omega (arith, c.loop-at-test.false))
        ∙ sym (has_bit-past c.args.others.now x (omega (arith, c.loop-at-test.false, c.requires)))
  ],
  λ _. refl,
)
