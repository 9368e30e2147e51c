use Rattle.std.proofs.Common.{◌+◌, ◌<◌, length, ◌∙◌, arith, vec_len}
use Rattle.std.proofs.lemmas.List.Elements.{All-more, Contains-get_or}
use Rattle.mp_pdb.specs.declared.moves.Move.{Move}
use Rattle.mp_pdb.specs.Table.{AreReached}
use Rattle.mp_estimates.proofs.LoweringLemmas.{fallen_trans}
use Rattle.mp_pdb.proofs.TableLemmas.{low_by_move}
use Rattle.mp_pdb.proofs.table.relax_all.Goals as goal

pub loop-found-preserved : goal.loop-found-preserved
loop-found-preserved c =
    let moves = c.args.moves.now in
    let i = c.loop-found.found-index in
    let within : i < length moves = omega arith in
    let size = vec_len c.args.numbers.now in
    let long = c.loop-found.invariant.len in
    let cost = c.by_move.ensures in
    record {
      len = c.relax.ensures.len ∙ c.loop-found.invariant.len;
      fallen = fallen_trans _ _ _ _ _ _ c.loop-found.invariant.fallen c.in_ok-relax.ensures.fallen;
      reached =
          All-more (λ (m : Move). AreReached size c.relax.new.numbers.items m c.args.to (m.cost + c.args.number)) moves i _ within
          (λ k d lt mask inside ready leads.
          let old = c.loop-found.invariant.reached k d lt mask inside ready leads in
          let fell = c.in_ok-relax.ensures.fallen.lower mask in
          omega arith)
          (λ mask inside ready leads. let low = c.in_ok-relax.ensures.reached mask (omega arith) ready leads in omega arith);
      below = λ values low below start.
          c.in_ok-relax.ensures.below values
          (λ mask inside ready leads. low_by_move size moves values _ mask c.args.to c.args.number c.by_move.result low (Contains-get_or moves i _ within) (omega arith) ready leads below cost)
          (c.loop-found.invariant.below values low below start);
    }
