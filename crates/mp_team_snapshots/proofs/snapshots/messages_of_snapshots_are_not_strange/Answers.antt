use Rattle.mp_team_snapshots.proofs.Consequences.{marker_is_good, report_is_good}
use Rattle.mp_team_snapshots.proofs.snapshots.messages_of_snapshots_are_not_strange.Goals as goal

pub returns-clause-marker : goal.returns-clause-marker
returns-clause-marker c = λ publics tasks w a b number team is sound two among. marker_is_good publics tasks team w is sound a b number two among

pub returns-clause-report : goal.returns-clause-report
returns-clause-report c = λ publics tasks w first r found team is sound me two among. report_is_good publics tasks team w is sound first r found me two among
