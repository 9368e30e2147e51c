use Rattle.std.proofs.Common.{List, false, get_or, [], ◌∷◌, ◌++◌, map, take, sym, ap, ◌∙◌, subst, arith}
use Rattle.std.specs.List.{enumerate_from}
use Rattle.std.proofs.lemmas.List.{get_or_default, take_all}
use Rattle.mp_sets.specs.declared.tag.Tag.{Tag}
use Rattle.mp_task.specs.AgentTask.{AgentTask}
use Rattle.mp_machine.specs.Machine.{AgentMachine}
use Rattle.mp_world.specs.Joint.{private_facts}
use Rattle.mp_schedule.specs.Machines.{tasks_of, world_of, IsFree}
use Rattle.mp_audit.specs.Audited.{set_of}
use Rattle.mp_audit.specs.Fits.{PrivatesFit}
use Rattle.mp_audit.proofs.FitLemmas.{mapped_more}
use Rattle.mp_certify.proofs.FactLemmas.{facts_more, fits_more, own_size}
use Rattle.mp_certify.proofs.facts.private_lists.Goals as goal

pub loop-place-init : goal.loop-place-init
loop-place-init g c = record {
  facts = ap (map set_of) c.in_ok-lists.ensures;
  fits = subst (PrivatesFit []) (sym c.in_ok-lists.ensures) tt;
}

pub bounds-tags-place : goal.bounds-tags-place
bounds-tags-place g c =
    let lt = c.loop-place-test.true in
    let lengths = c.requires.tags in
    omega (arith, lt, lengths)

pub facts_of-requires-clause-free : goal.facts_of-requires-clause-free
facts_of-requires-clause-free g c =
    subst IsFree (sym c.index-machines-place.is) (c.requires.free c.loop-place.place c.index-machines-place.result c.loop-place-test.true)

pub facts_of-requires-clause-own : goal.facts_of-requires-clause-own
facts_of-requires-clause-own g c = λ same.
    c.requires.own ∙ own_size c.args.machines.now c.args.me c.loop-place.place c.index-machines-place.result c.loop-place-test.true c.index-machines-place.is same

pub loop-place-preserved : goal.loop-place-preserved
loop-place-preserved g c =
    let l = c.loop-place in
    let machines = c.args.machines.now in
    let m = c.index-machines-place.result in
    let list = c.in_ok-list.list in
    let tags = c.args.tags.now in
    let lt = c.loop-place-test.true in
    let lengths = c.requires.tags in
    let none : Tag = record { token = 0; met = false } in
    let tag = get_or tags l.place none in
    record {
      facts =
          ap (map set_of) c.in_ok-push.ensures.ok
          ∙ facts_more machines c.args.me c.args.mine.now.members c.args.tags.now l.lists l.place m tag list
          c.loop-place-test.true c.requires.tags c.index-machines-place.is (get_or_default tags l.place none tag (omega (arith, lt, lengths))) c.in_ok-list.ensures.facts l.invariant.facts;
      fits =
          subst (λ (ts : List AgentTask). PrivatesFit ts c.push.new.self)
          (sym (mapped_more (λ (x : AgentMachine). x.done.task) machines l.place m c.loop-place-test.true c.index-machines-place.is))
          (subst (PrivatesFit (map (λ (x : AgentMachine). x.done.task) (take l.place machines) ++ m.done.task ∷ [])) (sym c.in_ok-push.ensures.ok)
          (fits_more (tasks_of (take l.place machines)) l.lists m.done.task list l.invariant.fits c.in_ok-list.ensures.fits));
    }

pub returns-clause-facts : goal.returns-clause-facts
returns-clause-facts g c =
    let l = c.loop-place in
    let past = c.loop-place-test.false in
    let lengths = c.requires.tags in
    l.invariant.facts
    ∙ ap (λ (xs : List Tag). map (private_facts (world_of c.args.machines.now []) c.args.me c.args.mine.now.members) (enumerate_from 1 xs))
    (take_all l.place c.args.tags.now (omega (arith, past, lengths)))

pub returns-clause-fits : goal.returns-clause-fits
returns-clause-fits g c =
    let l = c.loop-place in
    subst (λ (ms : List AgentMachine). PrivatesFit (tasks_of ms) l.lists) (take_all l.place c.args.machines.now c.loop-place-test.false) l.invariant.fits
