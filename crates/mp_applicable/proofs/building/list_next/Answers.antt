use Rattle.std.proofs.Common.{◌≡◌, ℕ, List, Some, All, length, sym, subst}
use Rattle.std.specs.Prelude.{slice_get}
use Rattle.std.proofs.lemmas.Option.{slice_get_within, get_or_from_slice_get}
use Rattle.mp_task.specs.declared.act.Act.{Act}
use Rattle.mp_task.specs.AgentTask.{AgentTask}
use Rattle.mp_task.specs.Limits.{ActFits}
use Rattle.mp_applicable.proofs.building.list_next.Goals as goal

at_place : (P : Act → Type 0) (acts : List Act) (n : ℕ) (act : Act) → All P acts → slice_get acts n ≡ Some act → P act
at_place P acts n act all is = subst P (get_or_from_slice_get acts n act act is) (all n act (slice_get_within acts n act is))

pub list-requires : goal.list-requires
list-requires c =
    let fits = subst (λ (x : AgentTask). slice_get x.acts c.args.number ≡ Some c.args.act.now → ActFits x.publics x.privates c.args.act.now) c.task.view_is
    (at_place (ActFits c.task.inside.publics c.task.inside.privates) c.task.inside.acts c.args.number c.args.act.now c.task.invariant.acts) c.requires.act
    in
    record {
      fits = subst (λ (m : ℕ). ActFits m (length c.args.lists.now.privates) c.args.act.now) (sym c.requires.publics)
          (subst (λ (m : ℕ). ActFits c.args.task.now.publics m c.args.act.now) (sym c.requires.privates) fits);
    }
