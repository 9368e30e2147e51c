-- What splits and merges of desks do to what seats know. Both take the turn of post 1.
use Rattle.std.specs.Prelude.{◌≡◌, ℕ}
use Rattle.mp_post_rule.specs.Views.{SeenAreMarked, after_release, after_take, alone, together, without}
use Rattle.mp_post_rule.specs.declared.kept.Kept.{Kept}
use Rattle.mp_post_rule.specs.declared.view.View.{View}

-- a party went from one view to a new one
pub record HasSplit (party : ℕ) (v left right : View) : Type 0 where
  pub kept : Kept
  pub left_is : left ≡ after_release (without party (after_take 1 kept v))
  pub right_is : right ≡ alone party (after_take 1 kept v)
  pub marks : SeenAreMarked left

-- one view took over the parties of another, and what that had seen
pub record HasMerged (v other w : View) : Type 0 where
  pub kept : Kept
  pub view : w ≡ after_release (together (after_take 1 kept v) other)
  pub marks : SeenAreMarked w
