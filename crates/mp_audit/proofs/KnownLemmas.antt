-- Tests of joint states in agents' searches decide whether they are one.
use Rattle.std.proofs.Common.{◌≡◌, true, eqb, refl, eqb-true, eq-eqb}
use Rattle.std.proofs.lemmas.Bool.{and_parts, and_from}
use Rattle.std.specs.Cmp.Lexicographic.{pointwise, pointwise_decides}
use Rattle.mp_sets.specs.Numbers.{same}
use Rattle.mp_sets.proofs.SetLemmas.{Decides-same}
use Rattle.mp_task.specs.Plan.{JointState}
use Rattle.mp_reach.specs.LeadsOn.{Known}
use Rattle.mp_audit.specs.Audited.{same_state, same_known}

pub state_is : (s t : JointState) → same_state s t ≡ true → s ≡ t
state_is s t h =
    let parts = and_parts (same s.publics t.publics) (pointwise same s.privates t.privates) h in
    let publics = (Decides-same s.publics t.publics).0 parts.0 in
    let privates = (pointwise_decides Decides-same s.privates t.privates).0 parts.1 in
    λ i. record { publics = publics i; privates = privates i }

pub state_itself : (s : JointState) → same_state s s ≡ true
state_itself s =
    and_from (same s.publics s.publics) (pointwise same s.privates s.privates)
    ((Decides-same s.publics s.publics).1 refl)
    ((pointwise_decides Decides-same s.privates s.privates).1 refl)

pub known_is : (k l : Known) → same_known k l ≡ true → k ≡ l
known_is k l h =
    let parts = and_parts (eqb k.agent l.agent) (same_state k.state l.state) h in
    let agent = eqb-true k.agent l.agent parts.0 in
    let state = state_is k.state l.state parts.1 in
    λ i. record { agent = agent i; state = state i }

pub known_itself : (k : Known) → same_known k k ≡ true
known_itself k = and_from (eqb k.agent k.agent) (same_state k.state k.state) (eq-eqb k.agent k.agent refl) (state_itself k.state)
