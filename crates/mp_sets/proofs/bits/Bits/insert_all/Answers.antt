use Rattle.std.proofs.Common.{get_or, take, sym, ap, ◌∙◌, arith}
use Rattle.std.proofs.lemmas.List.{take_more}
use Rattle.std.specs.FinSet as set
use Rattle.mp_sets.proofs.SetLemmas.{union-none, union-push}
use Rattle.mp_sets.proofs.bits.Bits.insert_all.Goals as goal

pub loop-x-init : goal.loop-x-init
loop-x-init c = ap (λ m. record { size = c.args.self.now.size; members = m }) (union-none c.args.self.now.members)

pub loop-x-preserved : goal.loop-x-preserved
loop-x-preserved c =
    let s = c.args.self.now in
    let xs = c.as_slice-x-items.result.now in
    let i = c.loop-x.x-index in
    c.insert.ensures
    ∙ ap (λ t. record { size = t.size; members = set.insert t.members (get_or xs i 0) }) c.loop-x.invariant
    ∙ ap (λ m. record { size = s.size; members = m })
    (union-push s.members (take i xs) (get_or xs i 0) ∙ ap (λ ys. set.union s.members (set.from_list ys)) (sym (take_more xs i 0 (omega arith))))
