use Rattle.std.proofs.Common.{◌+◌, ◌++◌, ◌∷◌, [], length, take, sym, ap, ◌∙◌, arith}
use Rattle.std.proofs.lemmas.List.{append-nil, append_assoc, length-append, take-append-le}
use Rattle.mp_store.specs.declared.entry.Origin.TheVariants.{Root, Own, From}
use Rattle.mp_store.specs.Keys.{same_key}
use Rattle.mp_trail.specs.declared.steps.Noted.{Noted}
use Rattle.mp_trail.specs.Walk.{walk}
use Rattle.mp_trail.proofs.WalkLemmas.{met, met_earlier}
use Rattle.mp_trail.proofs.trail.note_walk.Goals as goal

pub returns-in-Root-clause-end : goal.returns-in-Root-clause-end
returns-in-Root-clause-end c =
    let at = met same_key c.args.store.now c.origins.invariant.sound Root c.origins.number c.origins.back c.origins.invariant.inside c.in-Root.ensures in
    ap (λ w. w.end) (sym at) ∙ c.origins.invariant.end

pub returns-in-Root-clause-noted : goal.returns-in-Root-clause-noted
returns-in-Root-clause-noted c =
    let at = met same_key c.args.store.now c.origins.invariant.sound Root c.origins.number c.origins.back c.origins.invariant.inside c.in-Root.ensures in
    sym (append-nil c.origins.noted.items) ∙ ap (λ w. c.origins.noted.items ++ w.noted) (sym at) ∙ c.origins.invariant.noted

pub returns-in-From-clause-end : goal.returns-in-From-clause-end
returns-in-From-clause-end c =
    let at = met same_key c.args.store.now c.origins.invariant.sound (From c.in-From.agent c.in-From.sent) c.origins.number c.origins.back c.origins.invariant.inside c.in-From.ensures in
    ap (λ w. w.end) (sym at) ∙ c.origins.invariant.end

pub returns-in-From-clause-noted : goal.returns-in-From-clause-noted
returns-in-From-clause-noted c =
    let at = met same_key c.args.store.now c.origins.invariant.sound (From c.in-From.agent c.in-From.sent) c.origins.number c.origins.back c.origins.invariant.inside c.in-From.ensures in
    sym (append-nil c.origins.noted.items) ∙ ap (λ w. c.origins.noted.items ++ w.noted) (sym at) ∙ c.origins.invariant.noted

pub origins-smaller : goal.origins-smaller
origins-smaller c =
    met_earlier same_key c.args.store.now c.origins.invariant.sound (Own c.in-Own.action c.in-Own.parent) c.origins.number c.origins.invariant.inside c.in-Own.ensures

pub origins-preserved : goal.origins-preserved
origins-preserved c =
    let now = c.origins.noted.items in
    let step : Noted = record { action = c.in-Own.action; back = c.origins.back } in
    let rest = (walk c.args.store.now c.in-Own.parent (c.origins.back + 1)).noted in
    let at = met same_key c.args.store.now c.origins.invariant.sound (Own c.in-Own.action c.in-Own.parent) c.origins.number c.origins.back c.origins.invariant.inside c.in-Own.ensures in
    let before = met_earlier same_key c.args.store.now c.origins.invariant.sound (Own c.in-Own.action c.in-Own.parent) c.origins.number c.origins.invariant.inside c.in-Own.ensures in
    let pushed = c.in_ok-push-in-Own.ensures.items in
    record {
      sound = c.origins.invariant.sound;
      inside = omega (arith, before, c.origins.invariant.inside);
      small = omega (arith, before, c.origins.invariant.small);
      noted = ap (λ ns. ns ++ rest) pushed ∙ append_assoc now (step ∷ []) rest ∙ ap (λ w. now ++ w.noted) (sym at) ∙ c.origins.invariant.noted;
      end = ap (λ w. w.end) (sym at) ∙ c.origins.invariant.end;
      longer = omega (arith, ap length pushed, length-append now (step ∷ []), c.origins.invariant.longer);
      known = ap (λ ns. take (length c.args.noted.now.items) ns) pushed
          ∙ take-append-le (length c.args.noted.now.items) now (step ∷ []) c.origins.invariant.longer
          ∙ c.origins.invariant.known;
    }
