use Rattle.std.proofs.Common.{◌<◌, [], length, get_or, sym, ap, subst, ◌∙◌, arith}
use Rattle.std.specs.FinSet as set
use Rattle.mp_sets.specs.Numbers.{numbers_below}
use Rattle.mp_sets.specs.Words.{has_bit, ArePacked}
use Rattle.mp_tokens.specs.Table.{TokenTable}
use Rattle.mp_tokens.proofs.Growing.{set_is, sets_long}
use Rattle.mp_tokens.proofs.tokens.Tokens.set.Goals as goal

pub row-requires : goal.row-requires
row-requires c =
    let s = c.self.inside in
    let inside = subst (λ (t : TokenTable). c.args.index < length t.sets) (sym c.self.view_is) c.requires in
    omega (arith, inside, sets_long s.size s.sets)

pub new-requires : goal.new-requires
new-requires c =
    let s = c.self.inside in
    let there = subst (λ (t : TokenTable). c.args.index < length t.sets) (sym c.self.view_is) c.requires in
    let inside : c.args.index < length s.sets = omega (arith, there, sets_long s.size s.sets) in
    subst (ArePacked s.size) (sym c.row.ensures) (c.self.invariant.rows.rows_are c.args.index [] inside).packed

pub returns : goal.returns
returns c =
    let s = c.self.inside in
    let there = subst (λ (t : TokenTable). c.args.index < length t.sets) (sym c.self.view_is) c.requires in
    let inside : c.args.index < length s.sets = omega (arith, there, sets_long s.size s.sets) in
    c.new.ensures
    ∙ (λ j. record { size = s.size; members = numbers_below s.size (has_bit (c.row.ensures j)) })
    ∙ ap (λ m. record { size = s.size; members = m }) (sym (set_is s.size s.sets c.args.index inside))
    ∙ ap (λ (t : TokenTable). record { size = t.size; members = get_or t.sets c.args.index set.empty }) c.self.view_is
