use Rattle.mp_split.proofs.Basics.{◌≡◌, ◌++◌, length, map, All, into_iter_items, into_iter_len, ActFits, act_at}
use Rattle.mp_split.proofs.task.renumbered.Given as goal

abbrev pub invariant-loop-act : goal.invariant-loop-act
invariant-loop-act l = record {
  count : into_iter_len l.act-iterator ≡ length (into_iter_items l.act-iterator);
  made : l.made ++ map (act_at l.numbers) (into_iter_items l.act-iterator) ≡ map (act_at l.numbers) l.fn.acts;
  fits : All (ActFits (length l.numbers) l.privates) (into_iter_items l.act-iterator);
}
