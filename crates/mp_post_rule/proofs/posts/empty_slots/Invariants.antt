use Rattle.std.proofs.Common.{◌≡◌, length, Some, All}
use Rattle.mp_post_rule.proofs.posts.empty_slots.Given as goal
use Rattle.mp_post_rule.specs.Rule.{kept_in}
use Rattle.mp_post_rule.specs.Views.{no_mail}

abbrev pub invariant-loop : goal.invariant-loop
invariant-loop l = record {
  count : length l.slots.items ≡ l.counter;
  each : All (λ home. kept_in home ≡ Some (no_mail l.agents)) l.slots.items;
}
