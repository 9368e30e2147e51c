use Rattle.std.proofs.Common.{◌≡◌, ◌+◌, drop}
use Rattle.mp_plans.specs.Lines.{line_size as line_size_of}
use Rattle.mp_plans.proofs.line.line_size.Given as goal

-- no line feed so far
abbrev pub invariant-loop-before : goal.invariant-loop-before
invariant-loop-before l = line_size_of l.text ≡ l.before + line_size_of (drop l.before l.text)
