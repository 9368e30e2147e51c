-- Each event of a log of a team is one of the agent whose entry it is.
use Rattle.std.proofs.Common.{◌≡◌, ℕ, List, [], ◌∷◌, map, Option, sym, ap, ◌∙◌}
use Rattle.std.specs.Prelude.{◌==◌, All, Contains}
use Rattle.std.proofs.lemmas.Bool.{eq-eqb}
use Rattle.std.proofs.lemmas.List.Elements.{All-append, All-cons, All-contains, All-contains_itself, All-nil, All-weaker}
use Rattle.std.proofs.lemmas.Option.{none-some, same_Some}
use Rattle.mp_store.proofs.RankLemmas.{member_kept}
use Rattle.mp_sets.specs.Numbers.{Numbers}
use Rattle.mp_task.specs.AgentTask.{AgentTask}
use Rattle.mp_messages.specs.declared.history.Entry.{Entry}
use Rattle.mp_messages.specs.declared.history.Event.{Event}
use Rattle.mp_messages.specs.History.{agent_of as owner_of, part}
use Rattle.mp_machine.specs.declared.outgoing.Out.{Out}
use Rattle.mp_machine.specs.AgentRecord.{AgentRecord, new_record}
use Rattle.mp_world.specs.Events.{agent_of, sent_in}
use Rattle.mp_world.specs.Logs.{HasDone, IsLog, entries_of, entry_of, put_by}
use Rattle.mp_world.specs.Logs.HasDone.{nothing, onward}
use Rattle.mp_world.specs.Team.{Team}
use Rattle.mp_world.proofs.Entries.{own_entry, own_owner}
use Rattle.mp_text.proofs.ToldLemmas.{IsOwnEvent}

own_is : (event : Event) (bytes : List ℕ) → IsOwnEvent (entry_of event bytes)
own_is event bytes other is =
    own_owner event bytes ∙ ap agent_of (same_Some event other (sym (own_entry event bytes) ∙ is))

puts_are : (agent : ℕ) (out : List Out) → All IsOwnEvent (map (put_by agent) out)
puts_are agent [] = All-nil IsOwnEvent
puts_are agent (x ∷ xs) =
    All-cons IsOwnEvent (put_by agent x) (map (put_by agent) xs) (λ event is. absurd (none-some event is))
    (puts_are agent xs)

done_own : (value : Numbers → Numbers → Option ℕ) (first last : AgentRecord) (log : List Entry)
    → HasDone value first log last → All IsOwnEvent log
done_own value _ _ _ (nothing r) = All-nil IsOwnEvent
done_own value _ last _ (onward first _ event bytes s later mine allowed did rest) =
    All-append IsOwnEvent (entries_of event bytes (sent_in s)) later
    (All-cons IsOwnEvent (entry_of event bytes) (map (put_by (agent_of event)) (sent_in s)) (own_is event bytes)
    (puts_are (agent_of event) (sent_in s)))
    (done_own value s.after last later rest)

pub log_own : (team : Team) (log : List Entry) → IsLog team log → All IsOwnEvent log
log_own team log is =
    All-weaker (Contains log) IsOwnEvent (λ e here. own e here (is.of_team e here)) log (All-contains_itself log)
  where
    own : (e : Entry) → Contains log e → (t : AgentTask) × Contains team.tasks t × (owner_of e ≡ t.me) → IsOwnEvent e
    own e here (t, in_team, mine) =
        let p = is.parts t in_team in
        All-contains IsOwnEvent (part log t.me) e
        (done_own (team.value t) (new_record t (team.value t) team.limit) p.last (part log t.me) p.done)
        (member_kept (λ x. owner_of x == t.me) log e here (eq-eqb (owner_of e) t.me mine))
