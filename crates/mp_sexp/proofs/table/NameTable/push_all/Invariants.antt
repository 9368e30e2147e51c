use Rattle.std.proofs.Common.{◌≡◌, ◌++◌, take}
use Rattle.mp_sexp.proofs.table.NameTable.push_all.Given as goal

abbrev pub invariant-loop-name : goal.invariant-loop-name
invariant-loop-name l = l.self ≡ l.initial.self ++ take l.name-index l.names
