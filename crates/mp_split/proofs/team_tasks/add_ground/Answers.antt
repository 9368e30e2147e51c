use Rattle.mp_split.proofs.Basics.{arith, ◌≡◌, ◌+◌, length, subst, sym, Known, IsRefusedBy, AreBegun, IsFirstRefusal}
use Rattle.mp_grounder.specs.declared.refusal.GroundRefusal.TheVariants.{OutOfMemory}
use Rattle.mp_grounder.proofs.Refused.{refused_on}
use Rattle.mp_split.specs.Begun.{IsBegun}
use Rattle.mp_split.specs.Team.{known_at}
use Rattle.mp_split.proofs.FirstAgents.{one_more, refused_next}
use Rattle.mp_split.proofs.team_tasks.add_ground.Goals as goal

pub returns-clause-begun : goal.returns-clause-begun
returns-clause-begun c = λ team shown at begun.
    let grounds = c.args.grounds.now.items in
    let factor = c.args.factor.now in
    let number : c.agent_at-me.result ≡ length grounds + 1 = omega (arith, c.agent_at-me.ensures, c.len.ensures, c.args.grounds.now.ok.0) in
    let known : (record { me = c.agent_at-me.result; factor = factor; view = c.args.known.now }) ≡ known_at team (length grounds) factor =
    λ i. record { me = number i; factor = factor; view = shown i } in
    let is = c.in_ok-made.ensures in
    subst (AreBegun team) (sym c.in_ok-keep.ensures)
    (one_more team grounds factor begun at c.in_ok-made.made
    (subst (λ (k : Known). IsBegun k c.in_ok-made.made) known (record { grounded = is.given; limits = is.limits; within = is.within })))

pub returns-in_err-made-clause-refused : goal.returns-in_err-made-clause-refused
returns-in_err-made-clause-refused c = λ team shown at begun.
    let grounds = c.args.grounds.now.items in
    let e = c.in_err-made.field-0.0 in
    let factor = c.args.factor.now in
    let number : c.agent_at-me.result ≡ length grounds + 1 = omega (arith, c.agent_at-me.ensures, c.len.ensures, c.args.grounds.now.ok.0) in
    let known : (record { me = c.agent_at-me.result; factor = factor; view = c.args.known.now }) ≡ known_at team (length grounds) factor =
    λ i. record { me = number i; factor = factor; view = shown i } in
    refused_on _ e (IsFirstRefusal team) c.from_residual.ensures.1
    (refused_next team grounds factor begun at e (subst (λ (k : Known). IsRefusedBy k e) known c.in_err-made.ensures.refused))

pub returns-in_err-keep-clause-refused : goal.returns-in_err-keep-clause-refused
returns-in_err-keep-clause-refused c = λ team shown at begun.
    refused_on _ OutOfMemory (IsFirstRefusal team) c.from_residual-in_err-keep.ensures.1
    (refused_next team c.args.grounds.now.items c.args.factor.now begun at OutOfMemory tt)
