-- Agents and their machines: one of them changes.
use Rattle.std.proofs.Common.{◌≡◌, ℕ, zero, suc, ◌+◌, ◌<◌, false, List, [], ◌∷◌, get_or, length, map}
use Rattle.std.proofs.Common.{Option, Some, refl, sym, ap, ◌∙◌, arith}
use Rattle.std.specs.Prelude.{option_map, slice_get, slice_set}
use Rattle.std.specs.Option.{option_map_or}
use Rattle.std.proofs.lemmas.Option.{same_Some, slice_get-get_or, slice_get-map}
use Rattle.mp_messages.specs.declared.history.Event.{Event}
use Rattle.mp_machine.specs.AgentRecord.{AgentRecord}
use Rattle.mp_machine.specs.LocalStep.{may}
use Rattle.mp_machine.specs.Machine.{AgentMachine}
use Rattle.mp_world.specs.Events.{agent_may, agent_of, local_of}
use Rattle.mp_world.specs.World.{agent_at}
use Rattle.mp_schedule.specs.Machines.{limit_of, world_of}
use Rattle.mp_schedule.specs.UnderWay.{Mail}

-- agents are numbered from 1
pub agent_there : (ms : List AgentMachine) (mail : Mail) (agent k : ℕ) (m : AgentMachine) → k + 1 ≡ agent
    → slice_get ms k ≡ Some m
    → agent_at (world_of ms mail) agent ≡ Some m.done
agent_there ms mail zero k m is there = absurd (omega arith)
agent_there ms mail (suc j) k m is there =
    let same : j ≡ k = omega arith in
    ap (slice_get (map (λ (x : AgentMachine). x.done) ms)) same ∙ slice_get-map (λ (x : AgentMachine). x.done) ms k
    ∙ ap (option_map (λ (x : AgentMachine). x.done)) there

pub may_is : (ms : List AgentMachine) (mail : Mail) (event : Event) (k : ℕ) (m : AgentMachine)
    → k + 1 ≡ agent_of event → slice_get ms k ≡ Some m
    → may m.done (local_of event) ≡ agent_may (world_of ms mail) event
may_is ms mail event k m is there =
    ap (λ (o : Option AgentRecord). option_map_or (λ r. may r (local_of event)) o false) (sym
    (agent_there ms mail (agent_of event) k m is there))

-- what is the same of each machine is the same of all where one is put in the place of another
pub same_again : {X Y : Type 0} (f : X → Y) (xs : List X) (k : ℕ) (x y : X) → slice_get xs k ≡ Some x
    → f y ≡ f x → map f (slice_set xs k y) ≡ map f xs
same_again f [] k x y there same = refl
same_again f (z ∷ zs) zero x y there same = ap (λ t. t ∷ map f zs) (same ∙ ap f (sym (same_Some z x there)))
same_again f (z ∷ zs) (suc k) x y there same = ap (λ ts. f z ∷ ts) (same_again f zs k x y there same)

pub limit_again : (ms : List AgentMachine) (k : ℕ) (m n : AgentMachine) → slice_get ms k ≡ Some m
    → n.done.limit ≡ m.done.limit → limit_of (slice_set ms k n) ≡ limit_of ms
limit_again [] k m n there same = refl
limit_again (z ∷ zs) zero m n there same = same ∙ ap (λ (x : AgentMachine). x.done.limit) (sym (same_Some z m there))
limit_again (z ∷ zs) (suc k) m n there same = refl

-- an item that is read at a place
pub found : {X : Type 0} (xs : List X) (k : ℕ) (x : X) → k < length xs → x ≡ get_or xs k x → slice_get xs k ≡ Some x
found xs k x inside is = slice_get-get_or xs k x inside ∙ ap Some (sym is)
