use Rattle.std.proofs.Common.{arith, refl, ◌∙◌}
use mathlib.Core.Option.{none}
use Rattle.atomic_table.specs.Table.{step}
use Rattle.mp_post_rule.proofs.Laid.{received_laid, receives_laid, value_laid}
use Rattle.mp_post_rule.proofs.posts.sign_receipt.Goals as goal

pub fetch_add-requires : goal.fetch_add-requires
fetch_add-requires c =
    let low = c.count_word.ensures.1 in let high = c.requires.post in let words = c.requires.posts.words in let may = c.requires.may in let first = c.number.ensures.range.0 in let is = c.number.ensures.number in (
      c.lay.ensures.same.0 ∙ c.requires.table,
      omega arith,
      rw c.count_word.ensures.0 (receives_laid c.args.post _ c.args.seat.now.me c.lay.new.seat.me c.lay.ensures.laid
          c.args.posts.now.shared.key c.args.posts.now.shared.key c.args.posts.now.shared.table_id.slots c.args.by c.lay.new.seat.id
          may.0 refl low high (omega arith) c.requires.by may.1 may.2 refl),
    )

pub returns-clause-view : goal.returns-clause-view
returns-clause-view c = received_laid c.args.post _ c.args.seat.now.me c.lay.new.seat.me c.lay.ensures.laid c.args.by (step 0 0 0 0 none) 0 c.fetch_add.new.seat.me refl c.fetch_add.ensures.2

pub returns-clause-value : goal.returns-clause-value
returns-clause-value c = value_laid c.args.post _ c.args.seat.now.me c.lay.new.seat.me c.lay.ensures.laid c.args.kept c.fetch_add.new.seat.me refl c.fetch_add.ensures.2.1
