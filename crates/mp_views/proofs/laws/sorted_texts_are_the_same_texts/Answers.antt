use Rattle.mp_views.proofs.SortedLaws.{texts_rise, same_texts, texts_unchanged}
use Rattle.mp_views.proofs.laws.sorted_texts_are_the_same_texts.Goals as goal

pub returns : goal.returns
returns c = record {
  rise = texts_rise;
  members = same_texts;
  unchanged = texts_unchanged;
}
