use Rattle.std.proofs.Common.{◌∷◌, ◌∙◌, subst, arith}
use Rattle.std.proofs.Math.ListN.{set as set_at}
use Rattle.std.specs.List.Sorted.{IsPermutation}
use Rattle.mp_relaxed.specs.Places.{placed}
use Rattle.mp_estimates.specs.Lowering.{key}
use Rattle.mp_relaxed.proofs.PlaceLemmas.{placed_pushed}
use Rattle.mp_relaxed.proofs.places.Places.push.Goals as goal

pub returns : goal.returns
returns c =
    let rows = c.make_row.new.rows.items in
    subst (λ l. IsPermutation (key c.args.number c.args.fact ∷ l) (placed 0 (set_at rows c.args.number c.push.new.self))) (c.make_row.ensures.same ∙ c.self.view_is)
    (placed_pushed c.args.number rows _ c.push.new.self c.args.fact (omega (arith, c.in_ok-make_row.ensures.some)) c.index_mut.ensures.value c.in_ok-push.ensures.items)
