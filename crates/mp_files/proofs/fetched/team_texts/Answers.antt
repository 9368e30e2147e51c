use Rattle.std.proofs.Common.{◌+◌, ◌∙◌, ap, map, refl, subst}
use Rattle.mp_files.specs.Fetched.{AreFetched, names_of, texts_of}
use Rattle.mp_files.proofs.Acts.{all_agents, last_agent, next_agent}
use Rattle.mp_files.proofs.fetched.team_texts.Goals as goal

pub returns-in_err-fetch_next-clause-acts : goal.returns-in_err-fetch_next-clause-acts
returns-in_err-fetch_next-clause-acts g c =
    last_agent c.args.team.now c.loop-names.names-index _ _ c.loop-names-test.true refl _ _ _
    c.loop-names.invariant.acts c.fetch_next.ensures.acts

pub returns-clause-acts : goal.returns-clause-acts
returns-clause-acts g c =
    all_agents c.args.team.now c.loop-names.names-index _ _ c.loop-names-test.false c.loop-names.invariant.acts

pub loop-names-preserved : goal.loop-names-preserved
loop-names-preserved g c = record {
  held = c.fetch_next.ensures.held ∙ c.loop-names.invariant.held;
  no_fault = c.in_ok-fetch_next.ensures.no_fault ∙ c.loop-names.invariant.no_fault;
  count = c.in_ok-fetch_next.ensures.count ∙ ap (λ n. n + 1) c.loop-names.invariant.count;
  fetched = subst (λ held. AreFetched held (map names_of c.args.team.now) (map texts_of c.fetch_next.new.texts.items))
      c.loop-names.invariant.held c.in_ok-fetch_next.ensures.texts;
  short = c.in_ok-fetch_next.ensures.short;
  acts = next_agent c.args.team.now c.loop-names.names-index _ _ c.loop-names-test.true refl _ _ _
      c.loop-names.invariant.acts c.fetch_next.ensures.acts;
}
