use Rattle.mp_split.proofs.Basics.{arith, ◌∷◌, ◌++◌, ◌+◌, drop, option_copied, ap, sym, ◌∙◌, append-nil, sorted_parts, Act}
use Rattle.std.proofs.lemmas.List.{drop_all, drop_more}
use Rattle.mp_split.proofs.Repeated.{added, repeated, shown}
use Rattle.mp_split.proofs.closed.parts_of.Goals as goal
use Rattle.mp_split.proofs.closed.parts_of.Goals.{then-is_new+in_ok-make_part+in_ok-push, else-is_new}

pub loop-act-preserved : goal.loop-act-preserved
loop-act-preserved c =
    let l = c.loop-act in
    let table = c.args.table.now in
    let acts = c.args.acts.now in
    let act = c.act-item.result in
    let left = drop (l.act-index + 1) acts in
    let next = drop_more acts l.act-index act (omega arith) ∙ ap (λ (a : Act). a ∷ left) (sym c.act-item.is) in
    let now = c.if-is_new in
    let whole = sorted_parts (shown table acts) in
    let before = drop l.act-index acts in
    elim c.if-is_new.branch [
      | then-is_new+in_ok-make_part+in_ok-push w ↦
          added table whole l.parts.items now.parts.items before left act (option_copied l.last) (option_copied now.last) l.invariant next
          w.in_ok-make_part.field-0 (c.is_new.ensures.public w.if-is_new.true) w.in_ok-make_part.ensures
          (ap (λ v. v.items) w.parts-is ∙ w.in_ok-push.ensures.items) (ap option_copied w.last-is)
      | else-is_new w ↦
          repeated table whole l.parts.items now.parts.items before left act (option_copied l.last) (option_copied now.last) l.invariant next
          (c.is_new.ensures.repeated w.if-is_new.false) (ap (λ v. v.items) w.parts-is) (ap option_copied w.last-is)
    ]

pub returns : goal.returns
returns c =
    let parts = c.loop-act.parts.items in
    let none = drop_all c.loop-act.act-index c.args.acts.now (omega arith) in
    sym (ap sorted_parts (ap (λ acts. parts ++ shown c.args.table.now acts) none ∙ append-nil parts)) ∙ c.loop-act.invariant.same
