use Rattle.mp_views.proofs.Basics.{◌≡◌, take, flat_map, OpenView}
use Rattle.mp_views.proofs.open.shown_in.Given as goal

abbrev pub invariant-loop-view : goal.invariant-loop-view
invariant-loop-view l = record {
  changed : l.changed.items ≡ flat_map (λ (v : OpenView). v.changed) (take l.view-index l.views);
  negated : l.negated.items ≡ flat_map (λ (v : OpenView). v.negated) (take l.view-index l.views);
  init : l.init.items ≡ flat_map (λ (v : OpenView). v.init) (take l.view-index l.views);
}
