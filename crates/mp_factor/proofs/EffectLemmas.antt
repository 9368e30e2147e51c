-- What an effect does and what the start has, as loops read them.
use Rattle.mp_factor.proofs.Basics.{◌≡◌, List, ◌++◌, Result, Ok, arith, append_assoc, append-nil, Fault, Change, Effect, Fact, Start, both_found, said_found, atom_in, value_in, empty_start, start_of}
use Rattle.std.proofs.Common.{flat_map}
use Rattle.mp_factor.specs.FoundForms.{grown, started}
use Rattle.mp_forms.specs.Rules.Effects.{adds, deletes, increases}
use Rattle.mp_factor.proofs.FoundLemmas.{Grows}

-- an effect, and what further changes do
abbrev pub with_changes : Effect → List Change → Effect
with_changes effect changes = record {
  add = effect.add ++ adds changes;
  del = effect.del ++ deletes changes;
  increases = effect.increases ++ increases changes;
}

pub effects : Grows grown with_changes
effects = record { pushed = λ s x xs. simp append_assoc; done = λ s. simp append-nil }

-- a start, and what further members say
abbrev pub with_facts : Start → List Fact → Start
with_facts start facts = record {
  facts = start.facts ++ flat_map atom_in facts;
  values = start.values ++ flat_map value_in facts;
}

pub starts : Grows started with_facts
starts = record { pushed = λ s x xs. simp append_assoc; done = λ s. simp append-nil }

pub starts_begin : (r : Result (List Fact) Fault) → both_found with_facts (Ok empty_start) r ≡ said_found start_of r
starts_begin r = grind arith
