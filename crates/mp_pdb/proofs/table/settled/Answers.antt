use Rattle.std.proofs.Common.{[], subst, sym, ◌∙◌, arith}
use Rattle.std.proofs.lemmas.List.Elements.{All-contains}
use Rattle.mp_pdb.specs.declared.moves.Move.{Move}
use Rattle.mp_pdb.specs.Table.{AreLow, IsServed}
use Rattle.mp_estimates.proofs.LoweringLemmas.{all_below}
use Rattle.mp_pdb.proofs.table.settled.Goals as goal

pub returns : goal.returns
returns c =
    let size = c.in_ok-numbers.ensures.len in
    let same = c.begin.ensures.len in
    let sizes = c.begin.ensures.len ∙ c.in_ok-numbers.ensures.len in
    record {
      long = sym c.settle.new.numbers.ok.0 ∙ c.settle.ensures.len ∙ sizes;
      goals = λ mask lt ready.
          let zero = c.in_ok-begin.ensures.goals mask (omega arith) ready in
          let low = c.in_ok-settle.ensures.lower mask in
          omega arith;
      served = λ mask move among lt ready.
          All-contains (λ (m : Move). IsServed c.settle.new.numbers.items [] m mask) c.args.moves.now move (c.in_ok-settle.ensures.served mask (omega arith)) among ready (λ waits. absurd (omega (arith, waits.1)));
      below = λ values zeros low.
          c.in_ok-settle.ensures.below values
          (subst (λ n. AreLow n c.args.moves.now values) (sym sizes) low)
          (c.in_ok-begin.ensures.below values (λ mask lt ready. zeros mask (omega arith) ready) (all_below values c.in_ok-numbers.numbers.items c.in_ok-numbers.ensures.none));
    }
