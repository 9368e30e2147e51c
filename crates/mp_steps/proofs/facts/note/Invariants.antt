use Rattle.std.proofs.Common.{◌≡◌, ℕ, take, if◌then◌else◌}
use Rattle.mp_steps.specs.Numbered.{is_in, marks_at, with_mark}
use Rattle.mp_steps.proofs.facts.note.Given as goal

abbrev pub invariant-loop-fact : goal.invariant-loop-fact
invariant-loop-fact l =
    (f : ℕ) → marks_at l.marks.items f
    ≡ (if is_in (take l.fact-index l.facts) f then with_mark l.role l.mark (marks_at l.fn.marks.items f) else marks_at l.fn.marks.items f)
