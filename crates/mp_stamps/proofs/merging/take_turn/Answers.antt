use Rattle.std.proofs.Common.{◌++◌, [], Bor, List, map, sym, ap, ◌∙◌}
use Rattle.std.specs.Prelude.{slice_set}
use Rattle.std.proofs.lemmas.List.{map-set}
use Rattle.mp_stamps.specs.Lists.{entries}
use Rattle.mp_stamps.specs.Turns.{left_behind, up_to}
use Rattle.mp_stamps.specs.declared.stamped.Stamped.{Stamped}
use Rattle.mp_stamps.proofs.Filters.{at_map}
use Rattle.mp_stamps.proofs.merging.take_turn.Goals as goal

abbrev now : Bor (List Stamped) → List Stamped
now r = r.now

pub returns : goal.returns
returns c =
    let own = at_map now c.args.rests.now.items c.args.turn.at [] c.index.result.now c.requires ∙ ap now (sym c.index.ensures) in
    record {
      log = c.in_ok-rest.ensures.log ∙ ap (λ (l : List Stamped). c.args.log.now ++ entries (up_to c.args.turn.last l)) (sym own);
      rests = map-set now c.args.rests.now.items c.args.turn.at c.in_ok-rest.rest
          ∙ ap (λ (l : List Stamped). slice_set (map now c.args.rests.now.items) c.args.turn.at l)
          (c.in_ok-rest.ensures.rest ∙ ap (left_behind c.args.turn.last) (sym own));
    }
