use Rattle.std.proofs.Common.{List, ◌-◌, [], drop, take, map, slice_get, sym, ap, ◌∙◌, subst, refl, arith}
use Rattle.mp_store.specs.declared.entry.Entry.{Entry}
use Rattle.mp_search.specs.AgentState.{AgentState}
use Rattle.mp_search.proofs.KeyedStates.{all_get}
use Rattle.mp_schedule.specs.Machines.{world_of, IsFree}
use Rattle.mp_audit.specs.LastCut.{worth}
use Rattle.mp_certify.specs.Latest.{latest}
use Rattle.mp_certify.specs.Made.{AreMade}
use Rattle.mp_certify.proofs.MadeLemmas.{all_entries, me_within, next_entry, no_entry_yet, none_made, shown_entry, state_in}
use Rattle.mp_certify.proofs.bounds.turned_bounds.Goals as goal

pub loop-later-init : goal.loop-later-init
loop-later-init g c =
    none_made c.args.machines.now c.args.me c.args.cost _ _ _
    (no_entry_yet c.args.machine.now.done.search.kept.entries c.args.count 0 refl c.requires.within) c.new-met.ensures.empty c.new-made.ensures.items

pub shown_at-shown-requires-clause-free : goal.shown_at-shown-requires-clause-free
shown_at-shown-requires-clause-free g c = all_get IsFree c.args.machines.now (c.args.me - 1) c.args.machine.now c.requires.team.free c.requires.there

pub add_earlier-requires-clause-me : goal.add_earlier-requires-clause-me
add_earlier-requires-clause-me g c = me_within c.args.machines.now c.requires.team c.args.me c.args.machine.now c.requires.from_1 c.requires.there

pub add_earlier-requires-clause-state : goal.add_earlier-requires-clause-state
add_earlier-requires-clause-state g c =
    state_in c.args.machines.now c.requires.team c.args.me c.args.machine.now c.requires.from_1 c.requires.there c.shown_at-shown.result
    (c.args.count - 1 - c.loop-later.later) c.shown_at-shown.ensures.entry c.shown_at-shown.ensures.publics c.shown_at-shown.ensures.privates

pub loop-later-preserved : goal.loop-later-preserved
loop-later-preserved g c =
    let l = c.loop-later in
    let entries = c.args.machine.now.done.search.kept.entries in
    let count = c.args.count in
    let e = shown_entry (slice_get entries (count - 1 - l.later)) c.shown_at-shown.result c.shown_at-shown.ensures.entry in
    subst (λ (es : List (Entry AgentState)). AreMade c.args.machines.now c.args.me c.args.cost es c.add_earlier.new.met.keys c.add_earlier.new.made.items)
    (sym (next_entry entries count l.later e.0 (omega arith) c.requires.within e.1))
    (c.in_ok-add_earlier.ensures e.0 (drop (count - l.later) (take count entries)) e.2 l.invariant)

pub returns-clause-said : goal.returns-clause-said
returns-clause-said g c =
    let entries = c.args.machine.now.done.search.kept.entries in
    c.loop-later.invariant.said
    ∙ ap (λ (es : List (Entry AgentState)). map (worth (world_of c.args.machines.now []) c.args.cost c.args.me) (latest c.args.cost es))
    (all_entries entries c.args.count c.loop-later.later (omega arith))

pub returns-clause-team : goal.returns-clause-team
returns-clause-team g c = c.loop-later.invariant.team
