-- What a halt does to what a seat knows.
use Rattle.std.specs.Prelude.{◌≡◌, ℕ, zero, suc}
use Rattle.mp_post_rule.specs.Views.{SeenAreMarked, after_halt, after_release, after_take}
use Rattle.mp_post_rule.specs.declared.kept.Kept.{Kept}
use Rattle.mp_post_rule.specs.declared.view.View.{View}

-- a turn at a post, at which a party was marked as halted, and noted there where no other was
pub record HasHaltedAt (by post : ℕ) (v w : View) : Type 0 where
  pub kept : Kept
  pub view : w ≡ after_release (after_halt by (after_take post kept v))
  pub marks : SeenAreMarked w

-- such a turn at each of the first so many posts, one after another
abbrev pub HasHalted : ℕ → ℕ → View → View → Type 0
HasHalted by zero v w = w ≡ v
HasHalted by (suc posts) v w = (between : View) × HasHalted by posts v between × HasHaltedAt by (suc posts) between w
