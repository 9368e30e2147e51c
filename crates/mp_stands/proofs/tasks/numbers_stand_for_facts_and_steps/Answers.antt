use Rattle.mp_stands.proofs.Files.{public_start_is}
use Rattle.mp_stands.proofs.Standing.{publics_counted, task_stands}
use Rattle.mp_stands.proofs.tasks.numbers_stand_for_facts_and_steps.Goals as goal

pub returns : goal.returns
returns c = record {
  public_facts = λ team grounds numbering all are is. publics_counted team grounds all are numbering is;
  publics = λ team grounds numbering t all are is found. (task_stands team grounds all are numbering is t found).publics;
  privates = λ team grounds numbering t all are is found. (task_stands team grounds all are numbering is t found).privates;
  private_facts = λ team grounds numbering t all are is found. (task_stands team grounds all are numbering is t found).counted;
  acts = λ team grounds numbering t all are is found. (task_stands team grounds all are numbering is t found).acts;
  private_start = λ team grounds numbering t all are is found. (task_stands team grounds all are numbering is t found).start_priv;
  public_start = λ team grounds numbering t all are is found. public_start_is team grounds all are numbering is t found;
  goals = λ team grounds numbering t all are is found. (task_stands team grounds all are numbering is t found).goal;
}
