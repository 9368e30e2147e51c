use Rattle.mp_views.proofs.Basics.{◌≡◌, ◌++◌, length, map, into_iter_items, into_iter_len}
use Rattle.mp_views.proofs.PartLemmas.{part_of}
use Rattle.mp_views.proofs.parts.list_of.Given as goal

abbrev pub invariant-loop-lined : goal.invariant-loop-lined
invariant-loop-lined l = record {
  count : into_iter_len l.lined-iterator ≡ length (into_iter_items l.lined-iterator);
  moved : l.list ++ map part_of (into_iter_items l.lined-iterator) ≡ map part_of l.fn.parts.items;
}
