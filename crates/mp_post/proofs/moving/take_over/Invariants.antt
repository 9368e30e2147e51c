use Rattle.std.proofs.Common.{◌≡◌, ◌≤◌, ℕ, [], length, map, get_or}
use Rattle.std.specs.Option.{is_some}
use Rattle.mp_post_rule.specs.Views.{list_in}
use Rattle.mp_post_rule.specs.declared.view.View.{View}
use Rattle.mp_post.specs.Desks.{HasLists}
use Rattle.mp_post.proofs.Merging.{either_first}
use Rattle.mp_post.proofs.moving.take_over.Given as goal

abbrev pub invariant-loop-place : goal.invariant-loop-place
invariant-loop-place l = record {
  lists : length l.lists ≡ length l.fn.lists;
  held : length l.held.items ≡ length l.fn.held.items;
  others : length l.others ≡ length l.fn.others;
  left : (k : ℕ) → l.place ≤ k → get_or l.others k [] ≡ get_or l.fn.others k [];
  moved : (v w : View) → HasLists l.fn.lists l.fn.held.items v → HasLists l.fn.others l.others_held w
      → (l.lists ≡ map list_in (either_first l.place v.parties w.parties))
      × (l.held.items ≡ map is_some (either_first l.place v.parties w.parties));
}
