-- Facts whose objects are borrowed, which stand for facts.
use Rattle.std.specs.Prelude.{Bool}
use Rattle.mp_ground_facts.specs.declared.fact.GroundFact.{GroundFact}
use Rattle.mp_ground_facts.specs.declared.key.FactKey.{FactKey}
use Rattle.mp_ground_facts.specs.Facts.{same_fact}

-- the fact that a key stands for
abbrev pub fact_of_key : FactKey → GroundFact
fact_of_key k = record {
  is_public = k.is_public;
  is_complement = k.is_complement;
  predicate = k.predicate;
  objects = k.objects.now;
}

abbrev pub is_key_of : FactKey → GroundFact → Bool
is_key_of k f = same_fact (fact_of_key k) f
