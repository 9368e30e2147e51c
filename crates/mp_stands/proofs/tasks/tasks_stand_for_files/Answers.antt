use Rattle.mp_stands.proofs.Files.{files_stand}
use Rattle.mp_stands.proofs.tasks.tasks_stand_for_files.Goals as goal

pub returns : goal.returns
returns c = files_stand
