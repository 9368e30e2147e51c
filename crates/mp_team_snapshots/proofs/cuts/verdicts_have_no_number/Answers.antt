use Rattle.mp_team_snapshots.proofs.Unnumbered.{verdict_same}
use Rattle.mp_team_snapshots.proofs.cuts.verdicts_have_no_number.Goals as goal

pub returns : goal.returns
returns c = λ number found. verdict_same number found
