-- Joint states as sets that have sizes: where two are one, and the one of an entry.
use Rattle.std.proofs.Common.{◌≡◌, ℕ, ◌-◌, List, [], ◌∷◌, map, refl, sym, ap, ◌∙◌}
use Rattle.std.specs.Prelude.{slice_set}
use Rattle.mp_sets.specs.Numbers.{Numbers, SizedSet}
use Rattle.mp_task.specs.AgentTask.{AgentTask}
use Rattle.mp_reach.specs.LeadsOn.{Known}
use Rattle.mp_audit.specs.declared.certificate.Bound.{Bound}
use Rattle.mp_audit.specs.declared.state.JointSets.{JointSets}
use Rattle.mp_audit.specs.Audited.{known_of, set_of}
use Rattle.mp_audit.specs.Fits.{PrivatesFit}
use Rattle.mp_audit.specs.States.{known_by, members_of, sized, sized_sets, sizes_of, state_for, HasSizes, IsBeside}

-- sets of the same sizes with the same members are the same
same_sized : (xs ys : List SizedSet) → sizes_of xs ≡ sizes_of ys → members_of xs ≡ members_of ys → xs ≡ ys
same_sized [] [] sizes members = refl
same_sized [] (y ∷ ys) sizes members = absurd (cc)
same_sized (x ∷ xs) [] sizes members = absurd (cc)
same_sized (x ∷ xs) (y ∷ ys) sizes members =
    let size : x.size ≡ y.size = cc in
    let set : x.members ≡ y.members = cc in
    let later = same_sized xs ys (cc) (cc) in
    λ j. record { size = size j; members = set j } ∷ later j

-- a copy of a state differs from it in nothing
pub beside_copy : (t : AgentTask) (x y : JointSets) → y.publics ≡ x.publics → y.privates.items ≡ x.privates.items → IsBeside t x y
beside_copy t x y publics privates = record {
  publics = ap (λ (s : SizedSet). s.size) publics;
  privates = ap sizes_of privates;
  others = λ s. ap (λ (xs : List SizedSet). slice_set xs (t.me - 1) s) privates;
}

pub sized_members : (tasks : List AgentTask) (lists : List (List ℕ)) → PrivatesFit tasks lists → members_of (sized_sets tasks lists) ≡ map set_of lists
sized_members [] [] fits = refl
sized_members [] (list ∷ lists) fits = absurd fits
sized_members (t ∷ ts) [] fits = absurd fits
sized_members (t ∷ ts) (list ∷ lists) fits = ap (λ (later : List Numbers). set_of list ∷ later) (sized_members ts lists fits.1)

pub sized_sizes : (tasks : List AgentTask) (lists : List (List ℕ)) → PrivatesFit tasks lists → sizes_of (sized_sets tasks lists) ≡ map (λ t. t.privates) tasks
sized_sizes [] [] fits = refl
sized_sizes [] (list ∷ lists) fits = absurd fits
sized_sizes (t ∷ ts) [] fits = absurd fits
sized_sizes (t ∷ ts) (list ∷ lists) fits = ap (λ (later : List ℕ). t.privates ∷ later) (sized_sizes ts lists fits.1)

-- a state that an entry has is the one that is made of the entry
pub state_is : (tasks : List AgentTask) (agent : ℕ) (x : JointSets) (b : Bound) → PrivatesFit tasks b.privates → HasSizes tasks x → known_of b ≡ known_by agent x → sized agent x ≡ state_for tasks b
state_is tasks agent x b fits sizes e =
    let same_agent : agent ≡ b.agent = ap (λ (k : Known). k.agent) (sym e) in
    let members : x.publics.members ≡ set_of b.publics = ap (λ (k : Known). k.state.publics) (sym e) in
    let size = sizes.publics in
    let privates =
    same_sized x.privates.items (sized_sets tasks b.privates) (sizes.privates ∙ sym (sized_sizes tasks b.privates fits))
    (ap (λ (k : Known). k.state.privates) (sym e) ∙ sym (sized_members tasks b.privates fits)) in
    λ j. record { agent = same_agent j; publics = record { size = size j; members = members j }; privates = privates j }
