-- Which keys are the same, as `==` answers.
use Rattle.std.specs.Prelude.{Bool}
use Rattle.mp_store.specs.declared.key.Key.{Key}
use Rattle.mp_store.specs.contracts.key.KeyPartialEq.TheImpl as keys

abbrev pub same_key : Key → Key → Bool
same_key = keys.ghosts.eq
