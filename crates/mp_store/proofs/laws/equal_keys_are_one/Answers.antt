use Rattle.mp_store.specs.KeyLaws.{Decides-key}
use Rattle.mp_store.proofs.laws.equal_keys_are_one.Goals as goal

pub returns : goal.returns
returns c = Decides-key
