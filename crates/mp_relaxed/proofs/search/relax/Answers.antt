use Rattle.std.proofs.Common.{◌≡◌, ◌+◌, ◌<◌, ◌≤◌, true, eqb, length, get_or, take, All, ap, refl, subst, ◌∙◌, arith}
use Rattle.std.proofs.lemmas.Bool.{eq-eqb}
use Rattle.std.proofs.lemmas.List.{take_all}
use Rattle.std.proofs.lemmas.List.Elements.{All-more}
use Rattle.std.proofs.lemmas.List.Folds.{list_any_at}
use Rattle.std.specs.List.{list_any}
use Rattle.mp_estimates.specs.Lowering.{number_at}
use Rattle.mp_estimates.proofs.LoweringLemmas.{fallen_trans}
use Rattle.mp_relaxed.proofs.SearchLemmas.{stayed_trans, relax_served, low_cost}
use Rattle.mp_relaxed.proofs.search.relax.Goals as goal

pub loop-x-preserved : goal.loop-x-preserved
loop-x-preserved c =
    let os = c.args.problem.now.operators in
    let items = c.add-x-items.result.now in
    let i = c.loop-x.x-index in
    let within : i < length items = omega arith in
    let own = c.cost-own.ensures in
    let adding = subst (λ l. list_any (λ y. eqb y (get_or items i 0)) l ≡ true) c.add-x-items.ensures.value (list_any_at (λ y. eqb y (get_or items i 0)) items i 0 within (eq-eqb (get_or items i 0) (get_or items i 0) refl)) in
    record {
      len = c.lower.ensures.len ∙ c.loop-x.invariant.len;
      fallen = fallen_trans _ _ _ _ _ _ c.loop-x.invariant.fallen c.in_ok-lower.ensures.fallen;
      stayed = stayed_trans _ _ _ _ _ _ _ c.loop-x.invariant.stayed (c.in_ok-lower.ensures.stayed c.args.most (omega arith));
      done =
          All-more (λ y. number_at c.lower.new.numbers.items y ≤ c.cost-own.result + c.args.most) items i 0 within
          (λ j d h.
          let before = c.loop-x.invariant.done j d h in
          let fell = c.in_ok-lower.ensures.fallen.lower (get_or (take i items) j d) in
          omega arith)
          c.in_ok-lower.ensures.lowered;
      below = λ values low below.
          c.in_ok-lower.ensures.below values
          (low_cost os c.args.numbers.now.items values c.args.k (get_or items i 0) c.args.most (c.cost-own.result + c.args.most) low below c.requires.operator adding c.requires.reached (omega arith) (ap (λ n. n + c.args.most) own))
          (c.loop-x.invariant.below values low below);
    }

pub returns-after-loop-x-clause-served : goal.returns-after-loop-x-clause-served
returns-after-loop-x-clause-served c =
    let os = c.args.problem.now.operators in
    let items = c.add-x-items.result.now in
    let own = c.cost-own.ensures in
    let done = subst (All (λ y. number_at c.loop-x.numbers.items y ≤ c.cost-own.result + c.args.most)) (take_all c.loop-x.x-index items (omega arith) ∙ c.add-x-items.ensures.value) c.loop-x.invariant.done in
    relax_served os c.args.numbers.now.items c.args.queue.now c.loop-x.numbers.items c.loop-x.queue c.args.k c.args.most (c.cost-own.result + c.args.most)
    c.loop-x.invariant.fallen c.requires.reached (omega arith) (ap (λ n. n + c.args.most) own) done
