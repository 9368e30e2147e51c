-- What is known of an agent's private sets: all that were met, and those that have tokens.
use Rattle.std.specs.Prelude.{ℕ, List, refl}
use Rattle.std.specs.Coded.{Coded, code_by, coded×, coded_ℕ, coded_list}
use Rattle.std.specs.FinSet as set
use Rattle.mp_sets.specs.Numbers.{Numbers}

pub record TokenTable : Type 0 where
  -- all members of all sets are below it
  pub size : ℕ
  -- the different sets that were met, in the order in which they were; the initial one is the first
  pub sets : List Numbers
  -- those that were used, in the order of their first use; the initial one is the first
  pub used : List Numbers

abbrev pub coded_sets : Coded (List Numbers)
coded_sets = coded_list (set.code coded_ℕ)

abbrev pub token_table_code : Coded TokenTable
token_table_code =
    code_by (ℕ × (List Numbers × List Numbers)) (coded× coded_ℕ (coded× coded_sets coded_sets)) (λ t. (t.size, (t.sets, t.used))) (λ p. record { size = p.0; sets = p.1.0; used = p.1.1 }) (λ _. refl)
