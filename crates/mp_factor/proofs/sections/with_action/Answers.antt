use Rattle.mp_factor.proofs.Basics.{◌≡◌, sym, subst, ◌∙◌, codes, IfOk, node_of, is_headed, action_rule}
use Rattle.mp_factor.proofs.SectionLemmas.{passing_read, others_left_out}
use Rattle.mp_factor.proofs.sections.with_action.Goals as goal

pub returns-in_ok-read : goal.returns-in_ok-read
returns-in_ok-read c =
    subst (λ r. IfOk c.add_item.result (λ found. found ≡ r))
    (passing_read (is_headed (codes ":action")) action_rule (node_of c.args.tree.now) c.args.so_far _ (sym c.has_head.ensures ∙ c.if-has_head.true) c.in_ok-read.ensures)
    c.add_item.ensures

pub returns-else-has_head : goal.returns-else-has_head
returns-else-has_head c =
    others_left_out (is_headed (codes ":action")) action_rule (node_of c.args.tree.now) c.args.so_far (sym c.has_head.ensures ∙ c.if-has_head.false)
