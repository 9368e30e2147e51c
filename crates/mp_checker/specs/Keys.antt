-- Facts whose objects are borrowed, which stand for facts.
use Rattle.std.specs.Prelude.{Bool}
use Rattle.mp_checker.specs.declared.fact.FactNumbers.{FactNumbers}
use Rattle.mp_checker.specs.declared.key.FactKey.{FactKey}
use Rattle.mp_checker.specs.contracts.fact.FactNumbersPartialEq.TheImpl as facts_eq

-- facts are the same where all their parts are
abbrev pub same_numbers : FactNumbers → FactNumbers → Bool
same_numbers = facts_eq.ghosts.eq

-- the fact that a key stands for
abbrev pub fact_of_key : FactKey → FactNumbers
fact_of_key k = record { owner = k.owner; symbol = k.symbol; objects = k.objects.now }

abbrev pub is_key_of : FactKey → FactNumbers → Bool
is_key_of k f = same_numbers (fact_of_key k) f
