-- A report before anything was found.
use Rattle.std.specs.Prelude.{◌≡◌, []}
use Rattle.mp_world.specs.declared.answer.Answer.TheVariants as answer
use Rattle.mp_top.specs.declared.report.Report.{Report}

abbrev pub IsEmptyReport : Report → Type 0
IsEmptyReport report = (report.views ≡ []) × (report.log ≡ []) × (report.answer ≡ answer.Nothing)
