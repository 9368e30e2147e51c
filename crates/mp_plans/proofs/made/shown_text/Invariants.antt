use Rattle.std.proofs.Common.{◌≡◌, ◌++◌, drop}
use Rattle.mp_plans.specs.Made.{shown_from}
use Rattle.mp_plans.proofs.made.shown_text.Given as goal

-- the text so far and that of the files that are left make the whole
abbrev pub invariant-loop-place : goal.invariant-loop-place
invariant-loop-place l = l.text ++ shown_from l.place (drop l.place l.files) ≡ shown_from 0 l.files
