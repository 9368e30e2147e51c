use Rattle.std.proofs.Common.{◌≡◌, ◌++◌, drop}
use Rattle.mp_certificates.specs.Text.{entries_text}
use Rattle.mp_certificates.proofs.write.push_entries.Given as goal

-- the text so far and the lines of the entries that are left make the whole
abbrev pub invariant-loop-entry : goal.invariant-loop-entry
invariant-loop-entry l = l.text ++ entries_text (drop l.entry-index l.entries) ≡ l.fn.text ++ entries_text l.entries
