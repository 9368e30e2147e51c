use Rattle.std.proofs.Common.{[]}
use Rattle.mp_list.proofs.RepeatLemmas.{place_of_repeat, repeat_of_place}
use Rattle.mp_list.proofs.laws.repeat_has_earlier.Goals as goal

pub returns-clause-place : goal.returns-clause-place
returns-clause-place g c same key_of items item = place_of_repeat same key_of [] items item

pub returns-clause-repeats : goal.returns-clause-repeats
returns-clause-repeats g c same key_of items item place = repeat_of_place same key_of [] items item place
