use Rattle.std.proofs.Common.{ap, ◌∙◌}
use Rattle.std.specs.Prelude.{length}
use Rattle.mp_post.specs.Desks.{SeenDesk}
use Rattle.mp_post.proofs.Merging.{merged_length}
use Rattle.mp_post.proofs.desk.Desk.merge.Goals as goal

pub returns-clause-desk : goal.returns-clause-desk
returns-clause-desk g c = record {
  same = c.joined.ensures.same ∙ (ap (λ (d : SeenDesk). d.table) c.self.view_is ∙ c.requires.desk.same);
  many = merged_length c.args.posts.now.shared.key _ _ _ c.joined.ensures.merged
      (ap (λ (d : SeenDesk). length d.view.parties) c.self.view_is ∙ c.requires.desk.many)
      (ap (λ x. length x.parties) c.into_parts-seat.ensures.view ∙ c.requires.other.many);
}
