use Rattle.std.proofs.Common.{◌≡◌, ◌/◌, ap, ◌∙◌, get_or, arith}
use Rattle.std.proofs.lemmas.List.{get_or_read}
use Rattle.std.specs.FinSet as set
use Rattle.mp_sets.proofs.SetLemmas.{numbers_below-insert}
use Rattle.mp_sets.proofs.WordLemmas.{ArePacked-with_bit, has_bit-with_bit}
use Rattle.mp_sets.proofs.bits.Bits.insert.Goals as goal

pub invariant_of-self : goal.invariant_of-self
invariant_of-self c =
    let same_size = ap (λ s. s.size) c.self.view_is in
    let words = c.self.inside.words.items in
    ArePacked-with_bit c.self.inside.size words c.args.x c.self.invariant (omega (arith, same_size)) _
    (get_or_read words (c.args.x / 64) _ (omega (arith, c.self.invariant.long, same_size)) c.index_mut.ensures.value 0)

pub returns : goal.returns
returns c =
    let same_size = ap (λ s. s.size) c.self.view_is in
    let words = c.self.inside.words.items in
    let read : c.index_mut.result.now ≡ get_or words (c.args.x / 64) 0 =
    get_or_read words (c.args.x / 64) _ (omega (arith, c.self.invariant.long, same_size)) c.index_mut.ensures.value 0 in
    ap (λ m. record { size = c.self.inside.size; members = m })
    (numbers_below-insert c.self.inside.size c.args.x _ _ (omega (arith, same_size)) (has_bit-with_bit words c.args.x (omega (arith, c.self.invariant.long, same_size)) _ read))
    ∙ ap (λ s. record { size = s.size; members = set.insert s.members c.args.x }) c.self.view_is
