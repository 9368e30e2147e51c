use Rattle.mp_views.proofs.Basics.{◌≡◌, ◌++◌, length, into_iter_items, into_iter_len}
use Rattle.mp_views.proofs.sorted.list_of.Given as goal

abbrev pub invariant-loop-text : goal.invariant-loop-text
invariant-loop-text l = record {
  count : into_iter_len l.text-iterator ≡ length (into_iter_items l.text-iterator);
  moved : l.list ++ into_iter_items l.text-iterator ≡ l.fn.texts.items;
}
