-- A turn that was taken, and what its post keeps, out of its slot.
use Rattle.std.proofs.Common.{◌≡◌, ℕ, ◌-◌, List, [], ◌∷◌, length, sym, ap, subst, ◌∙◌}
use Rattle.std.specs.Prelude.{IfSome}
use Rattle.std.proofs.lemmas.Option.{same_Some}
use Rattle.mp_stamps.specs.Lists.{IsAgentOf}
use Rattle.mp_post_rule.specs.Kinds.{IsTaken, Seated}
use Rattle.mp_post_rule.specs.Rule.{Home, kept_in}
use Rattle.mp_post_rule.specs.Table.{HasValue, IsFree}
use Rattle.mp_post_rule.specs.Views.{after_take}
use Rattle.mp_post_rule.specs.declared.kept.Kept.{Kept}

home_in : Home → List (ℕ × Home) → Home
home_in home [] = home
home_in home (x ∷ xs) = x.1

module _ (post agents : ℕ) (m m' : Seated) (taken : IsTaken post agents m m') (free : IsFree m) where
  hand : m'.1 ≡ (post - 1, taken.home) ∷ []
  hand = taken.hand ∙ ap (λ l. (post - 1, taken.home) ∷ l) free.no_slot

  pub has_value : (kept : Kept) × HasValue post kept m'
  has_value = (taken.kept, record { home = taken.home; hand = hand; has = taken.has })

  module _ (kept : Kept) (value : HasValue post kept m') where
    same : taken.kept ≡ kept
    unfolding home_in
    same = same_Some _ _ (sym taken.has ∙ (ap kept_in (ap (home_in taken.home) (sym hand ∙ value.hand)) ∙ value.has))

    pub queues : length kept.waiting ≡ agents
    queues = subst (λ (k : Kept). length k.waiting ≡ agents) same taken.rows

    pub named : IfSome kept.halted (IsAgentOf agents)
    named = subst (λ (k : Kept). IfSome k.halted (IsAgentOf agents)) same taken.named

    pub view : (w : Seated) → w.0 ≡ m'.0 → w.0 ≡ after_take post kept m.0
    view w e = e ∙ (taken.view ∙ ap (λ k. after_take post k m.0) same)
