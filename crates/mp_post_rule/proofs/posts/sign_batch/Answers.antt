use Rattle.std.proofs.Common.{arith, refl, ◌∙◌}
use mathlib.Core.Option.{none}
use Rattle.atomic_table.specs.Table.{step}
use Rattle.mp_post_rule.proofs.Laid.{signed_laid, signs_laid, value_laid}
use Rattle.mp_post_rule.proofs.posts.sign_batch.Goals as goal

pub fetch_add-requires : goal.fetch_add-requires
fetch_add-requires c =
    let low = c.count_word.ensures.1 in let high = c.requires.post in let words = c.requires.posts.words in (
      c.lay.ensures.same.0 ∙ c.requires.table,
      omega arith,
      rw c.count_word.ensures.0 (signs_laid c.args.by _ c.args.seat.now.me c.lay.new.seat.me c.lay.ensures.laid
          c.args.posts.now.shared.key c.args.posts.now.shared.key c.args.posts.now.shared.table_id.slots c.lay.new.seat.id c.args.puts
          c.requires.turn.0 c.args.batch.now refl low high c.requires.turn.1 c.requires.may c.requires.puts refl c.of.ensures),
    )

pub returns-clause-view : goal.returns-clause-view
returns-clause-view c = signed_laid c.args.by _ c.args.seat.now.me c.lay.new.seat.me c.lay.ensures.laid c.args.batch.now (step 0 0 0 0 none) 0 c.fetch_add.new.seat.me refl c.of.ensures c.fetch_add.ensures.2

pub returns-clause-value : goal.returns-clause-value
returns-clause-value c = value_laid c.args.by _ c.args.seat.now.me c.lay.new.seat.me c.lay.ensures.laid c.args.kept c.fetch_add.new.seat.me refl c.fetch_add.ensures.2.1
