-- What a walk within one agent leads to.
use Rattle.std.proofs.Common.{◌≡◌, ℕ, List, ◌++◌, map, refl, sym, ap, subst, ◌∙◌}
use Rattle.std.specs.Prelude.{OnOk, Result, Ok, Err}
use Rattle.mp_messages.specs.declared.message.Message.TheVariants.{Length, Trace}
use Rattle.mp_search.specs.Search.{AgentSearch}
use Rattle.mp_trail.specs.declared.steps.Noted.{Noted}
use Rattle.mp_trail.specs.declared.steps.Walked.{Walked}
use Rattle.mp_trail.specs.declared.steps.Walked.TheVariants.{Root, Hop}
use Rattle.mp_trail.specs.Share.{share}
use Rattle.mp_trail.specs.Walk.{walk}
use Rattle.mp_machine.specs.declared.event.Ending.TheVariants.{Solved}
use Rattle.mp_machine.specs.declared.member.Member.{Member}
use Rattle.mp_machine.specs.declared.outgoing.Out.{Out}
use Rattle.mp_machine.specs.AgentRecord.{AgentRecord}
use Rattle.mp_machine.specs.MemberFields.{HasStepped, IsMember, record_of}
use Rattle.mp_machine.specs.Outgoing.{Step, in_bytes, others, to_each, to_one}
use Rattle.mp_machine.specs.WalkingBack.{arrived, walked}

-- two facts of a call that succeeds
pub on_both : {A E : Type 0} (res : Result A E) (P Q R : Type 0) → OnOk res P → OnOk res Q → (P → Q → R) → OnOk res R
on_both (Ok x) P Q R p q more = more p q
on_both (Err e) P Q R p q more = tt

-- a step that is the same one
pub same_step : (s t : Step) (old new : List Out) (r : AgentRecord) → t ≡ s → HasStepped t old new r → HasStepped s old new r
same_step s t old new r is stepped = subst (λ (x : Step). HasStepped x old new r) is stepped

module _ (s : AgentSearch) (m : Member) (entry back : ℕ) (trail : List Noted) (end : Walked)
    (noted : trail ≡ m.trail ++ (walk s.done.kept entry back).noted) (ends : end ≡ (walk s.done.kept entry back).end) where
  arrived_is : arrived (record (record_of s m) { trail = trail }) end ≡ walked (record_of s m) entry back
  unfolding walked
  arrived_is = λ j. arrived (record (record_of s m) { trail = noted j }) (ends j)

  module _ (of : IsMember s.task m) (old new : List Out) where
    pub root_stepped : (length : ℕ) (after : Member) → end ≡ Root length
        → new ≡ old ++ map in_bytes (to_each (others m.me m.agents) (Length length))
        → after ≡ record m { trail = trail; ending = Solved length; share = share length trail }
        → HasStepped (walked (record_of s m) entry back) old new (record_of s after)
    root_stepped length after root sent is =
        same_step _ _ old new (record_of s after) (ap (arrived (record (record_of s m) { trail = trail })) (sym root) ∙ arrived_is)
        (record {
          out = sent ∙ (λ j. old ++ map in_bytes (to_each (others (of.me j) (of.agents j)) (Length length)));
          after = ap (record_of s) is;
        })

    pub hop_stepped : (agent sent_number onward : ℕ) → end ≡ Hop agent sent_number onward
        → new ≡ old ++ map in_bytes (to_one agent (Trace sent_number onward))
        → HasStepped (walked (record_of s m) entry back) old new (record_of s (record m { trail = trail }))
    hop_stepped agent sent_number onward hop sent =
        same_step _ _ old new (record_of s (record m { trail = trail })) (ap (arrived (record (record_of s m) { trail = trail })) (sym hop) ∙ arrived_is)
        (record { out = sent; after = refl })
