-- What words ask for, as far as they were read.
use Rattle.std.specs.Prelude.{ℕ, Bool, false, List, [], Option, None}
use Rattle.mp_words.specs.declared.asked.Choice.{Choice}
use Rattle.mp_words.specs.declared.asked.Valued.{Valued}

-- the options that were given, the option whose value comes next, whether all words that come are plain, and the plain
-- words so far
pub record Asked : Type 0 where
  pub limit : Option ℕ
  pub heuristic : Option Choice
  pub workers : Option ℕ
  pub one : Bool
  pub trace : Bool
  pub show : Bool
  pub awaited : Option Valued
  pub plain_alone : Bool
  pub plain : List (List ℕ)

abbrev pub nothing : Asked
nothing = record {
  limit = None;
  heuristic = None;
  workers = None;
  one = false;
  trace = false;
  show = false;
  awaited = None;
  plain_alone = false;
  plain = [];
}
