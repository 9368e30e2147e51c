use Rattle.mp_factor.proofs.Basics.{Ok, inr, sym, ap, ◌∙◌, node_of, said_found, domain_from, domain_rule}
use Rattle.mp_factor.proofs.FoundLemmas.{found_says, found_wrong}
use Rattle.mp_factor.proofs.shape.domain.Goals as goal

pub domain_with-requires : goal.domain_with-requires
domain_with-requires c = record {
  node = node_of c.args.tree.now;
  says = found_says (domain_rule (node_of c.args.tree.now)) (domain_from c.in-Ok.parts) (sym c.in_ok-parts.ensures ∙ ap (λ r. said_found domain_from r) c.in-Ok.is);
}

pub returns-in-Ok-clause-said : goal.returns-in-Ok-clause-said
returns-in-Ok-clause-said c =
    found_says (domain_rule (node_of c.args.tree.now)) _
    (sym c.in_ok-parts.ensures ∙ ap (λ r. said_found domain_from r) c.in-Ok.is ∙ ap Ok (sym c.domain_with.ensures))

pub returns-in-Err-clause-fault : goal.returns-in-Err-clause-fault
returns-in-Err-clause-fault c =
    inr (
      c.in-Err.fault,
      found_wrong (domain_rule (node_of c.args.tree.now)) c.in-Err.fault
          (sym c.in_ok-parts.ensures ∙ ap (λ r. said_found domain_from r) c.in-Err.is),
      c.refusal_of.ensures,
    )
