-- Facts carried over to equal values, and lists that grew by a push.
use Rattle.std.proofs.Common.{◌≡◌, cond, List, [], ◌∷◌, ◌++◌, Result, Ok, ap, subst, ◌∙◌}
use Rattle.std.specs.Prelude.{is_ok}

pub carry : {A B : Type 0} (F : A → B → Type 0) (a a' : A) (b b' : B) → a ≡ a' → b ≡ b' → F a b → F a' b'
carry F a a' b b' p q holds = subst (λ x. F x b') p (subst (F a) q holds)

pub carry_three : {A B C : Type 0} (F : A → B → C → Type 0) (a a' : A) (b b' : B) (c c' : C) → a ≡ a' → b ≡ b' → c ≡ c' → F a b c → F a' b' c'
carry_three F a a' b b' c c' p q r holds = subst (λ x. F x b' c') p (carry (F a) b b' c c' q r holds)

-- what a list has after a push that did not fail
pub pushed : {T E X : Type 0} (r : Result T E) (x : T) (old new base : List X) (item wanted : X)
    → new ≡ cond (is_ok r) (old ++ item ∷ []) old → r ≡ Ok x → old ≡ base → item ≡ wanted → new ≡ base ++ wanted ∷ []
pushed r x old new base item wanted clause ok was is =
    clause ∙ ap (λ s. cond (is_ok s) (old ++ item ∷ []) old) ok ∙ (λ j. was j ++ is j ∷ [])
