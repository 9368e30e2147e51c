-- Where a name keeps its bytes. No public clause cites this module.
use Rattle.std.specs.Prelude.{ℕ, List}
use Rattle.mp_sexp.specs.declared.name.Data.{Data}
use Rattle.mp_sexp.specs.declared.name.Data.TheVariants.{Few, Many}

abbrev pub bytes_of : Data → List ℕ
bytes_of (Few short) = short
bytes_of (Many bytes) = bytes.value.items
