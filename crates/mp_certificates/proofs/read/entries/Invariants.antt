use Rattle.std.proofs.Common.{◌≡◌, ◌+◌, ◌≤◌, ◌++◌, All, length}
use Rattle.mp_certificates.specs.Accepted.{IsEntry}
use Rattle.mp_certificates.specs.Text.{entries_text}
use Rattle.mp_certificates.proofs.read.entries.Given as goal

-- the lines of the entries so far and what is left make the whole
abbrev pub invariant-loop-rest : goal.invariant-loop-rest
invariant-loop-rest l = record {
  is : l.text ≡ entries_text l.bounds.entries ++ l.rest;
  fit : All (IsEntry l.tasks) l.bounds.entries;
  agents : l.bounds.agents ≡ length l.tasks;
  short : length l.bounds.entries + length l.rest ≤ length l.text;
}

abbrev pub decreases-loop-rest : goal.decreases-loop-rest
decreases-loop-rest l = length l.rest
