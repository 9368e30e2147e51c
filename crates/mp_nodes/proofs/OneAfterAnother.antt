-- Parts of a node's turn, one after another.
use Rattle.std.proofs.Common.{◌≡◌, ◌≢◌, ℕ, List, refl, sym, ap, subst, ◌∙◌}
use Rattle.std.specs.Prelude.{Result, Ok}
use Rattle.atomic_table.specs.Seated.{TableId}
use Rattle.mp_machine.specs.Machine.{AgentMachine}
use Rattle.mp_messages.specs.declared.history.Kind.{Kind}
use Rattle.mp_world.specs.Values.{Values}
use Rattle.mp_post_rule.specs.Views.{party_at}
use Rattle.mp_post.specs.Desks.{IsDeskOf, SeenDesk}
use Rattle.mp_nodes.specs.Nodes.{IsNodeAt, Orders, SeenNode}
use Rattle.mp_nodes.specs.Steps.{GoesOn, HasActed, HasReceived, IsHandedAt, IsReady, IsSameAgent, Leaves, me_of}
use Rattle.mp_nodes.specs.declared.served.Stop.{Stop}
use Rattle.mp_nodes.proofs.AfterSteps.{GoToOthers, acted, received}

pub same_me : (old new : SeenNode) → IsSameAgent old new → me_of new ≡ me_of old
same_me old new same = ap (λ (o : Orders). o.task.me) same

module _ (value : Values) (table : TableId) (agents : ℕ) where
  pub ready_again : {A : Type 0} (old new : SeenNode) (before after : SeenDesk) (x : A)
      → GoesOn value table agents {A = A} old before (Ok x) new after → IsReady value table agents new after
  ready_again old new before after x g = record { desk = g.desk; node = g.leaves }

  -- one part, and then another
  pub then : {A B : Type 0} (first second third : SeenNode) (d e f : SeenDesk) (x : A) (answer : Result B Stop)
      → GoesOn value table agents {A = A} first d (Ok x) second e → GoesOn value table agents second e answer third f
      → GoesOn value table agents first d answer third f
  then first second third d e f x answer one two = record {
    same = two.same ∙ one.same;
    others = λ agent other. two.others agent (λ is. other (is ∙ same_me first second one.same)) ∙ one.others agent other;
    desk = two.desk;
    leaves = two.leaves;
  }

  -- another answer of a part that goes on
  pub with_answer : {A B : Type 0} (old new : SeenNode) (before after : SeenDesk) (x : A) (y : B)
      → GoesOn value table agents {A = A} old before (Ok x) new after → GoesOn value table agents {A = B} old before (Ok y) new after
  with_answer old new before after x y g = record { same = g.same; others = g.others; desk = g.desk; leaves = g.leaves }

  -- the node did something by itself
  pub acts : {A : Type 0} (others : GoToOthers) (old new : SeenNode) (d : SeenDesk) (kind : Kind) (x : A) → IsReady value table agents old d
      → IsSameAgent old new → HasActed value (me_of old) old new kind → GoesOn value table agents {A = A} old d (Ok x) new d
  acts others old new d kind x ready same did = record {
    same = same;
    others = λ agent other. refl;
    desk = ready.desk;
    leaves = subst (λ me. IsNodeAt value agents me d.view new) (sym (same_me old new same)) (record {
      party = ready.node.party;
      held = ready.node.held;
      fits = acted value agents (me_of old) others old new ready.node.party same ready.node.fits kind did;
    });
  }

  -- the node took a message that was handed over
  pub receives : (others : GoToOthers) (old new : SeenNode) (d : SeenDesk) (from : ℕ) (bytes : List ℕ)
      → IsHandedAt value agents (me_of old) from bytes d.view old → IsSameAgent old new
      → HasReceived value (me_of old) old new from bytes → IsNodeAt value agents (me_of new) d.view new
  receives others old new d from bytes at same did =
      subst (λ me. IsNodeAt value agents me d.view new) (sym (same_me old new same)) (record {
        party = at.party;
        held = at.held;
        fits = received value agents (me_of old) old new from bytes at.party at.handed others same did;
      })

  -- a message was handed over in a turn, and the machine took it in
  pub takes : {A : Type 0} (old middle new : SeenNode) (d e : SeenDesk) (answer : Result A Stop) → middle.machine ≡ old.machine
      → ((agent : ℕ) → agent ≢ me_of old → party_at e.view agent ≡ party_at d.view agent) → IsDeskOf table agents e
      → IsSameAgent middle new → Leaves value table agents new e answer → GoesOn value table agents {A = A} old d answer new e
  takes old middle new d e answer machine others desk same leaves = record {
    same = same ∙ ap (λ (m : AgentMachine). record { task = m.done.task; limit = m.done.limit }) machine;
    others = others;
    desk = desk;
    leaves = leaves;
  }
