use Rattle.std.proofs.Common.{[], ◌∷◌, sym, ◌∙◌, subst}
use Rattle.std.specs.Prelude.{Option}
use Rattle.mp_team.specs.Works.{AreShared, parts_of}
use Rattle.mp_team.specs.declared.work.Work.{Work}
use Rattle.mp_team.proofs.Shares.{first_fits, then_shared}
use Rattle.mp_team.proofs.sharing.work_of.Goals as goal
use Rattle.mp_team.proofs.sharing.work_of.Goals.{then-at-workers+in_ok-work, else-at-workers}

pub loop-at-preserved : goal.loop-at-preserved
loop-at-preserved g c =
    let value = g.H.Heuristic.value in
    let table = c.args.posts.now.shared.table_id in
    let key = c.args.posts.now.shared.key in
    let l = c.loop-at in
    let now = c.if-at-workers in
    let shared : AreShared value table key (c.args.from.now.nodes ∷ []) (now.from ∷ parts_of now.work) =
    elim c.if-at-workers.branch [
      | then-at-workers+in_ok-work w ↦
          subst (λ (x : Work g.row.H.Denot). AreShared value table key (c.args.from.now.nodes ∷ []) (x ∷ parts_of now.work)) (sym w.from-is)
          (subst (λ (o : Option (Work g.row.H.Denot)). AreShared value table key (c.args.from.now.nodes ∷ []) (w.one_more.new.from ∷ parts_of o))
          (sym w.work-is)
          (then_shared value table key (c.args.from.now.nodes ∷ []) (l.from ∷ parts_of l.work)
          (w.one_more.new.from ∷ parts_of w.in_ok-work.work) l.invariant.shared w.in_ok-work.ensures))
      | else-at-workers w ↦
          subst (λ (x : Work g.row.H.Denot). AreShared value table key (c.args.from.now.nodes ∷ []) (x ∷ parts_of now.work)) (sym w.from-is)
          (subst (λ (o : Option (Work g.row.H.Denot)). AreShared value table key (c.args.from.now.nodes ∷ []) (l.from ∷ parts_of o))
          (sym w.work-is) l.invariant.shared)
    ]
    in
    record {
      many = (first_fits value table key (c.args.from.now.nodes ∷ []) now.from (parts_of now.work) shared).served.many
          ∙ (sym c.requires.from.served.many ∙ sym c.len-count.ensures);
      shared = shared;
    }
