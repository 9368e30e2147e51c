use Rattle.std.proofs.Common.{ℕ, ap, ◌∙◌}
use Rattle.std.specs.FinSet as set
use Rattle.mp_sets.specs.Numbers.{SizedSet}
use Rattle.mp_audit.specs.States.{sizes_of}
use Rattle.mp_audit.proofs.FillLemmas.{no_sizes}
use Rattle.mp_audit.proofs.state.no_facts.Goals as goal

pub returns-clause-none : goal.returns-clause-none
returns-clause-none c = record {
  publics = c.in_ok-publics.ensures ∙ ap (λ (n : ℕ). record { size = n; members = set.empty }) c.public_size.ensures;
  privates = c.in_ok-privates.ensures;
}

pub returns-clause-sizes : goal.returns-clause-sizes
returns-clause-sizes c = record {
  publics = ap (λ (s : SizedSet). s.size) c.in_ok-publics.ensures ∙ c.public_size.ensures;
  privates = ap sizes_of c.in_ok-privates.ensures ∙ no_sizes c.args.tasks.now;
}
