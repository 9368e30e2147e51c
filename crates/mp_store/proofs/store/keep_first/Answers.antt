use Rattle.std.proofs.Common.{◌≡◌, ◌-◌, ◌<◌, List, [], ◌∷◌, ◌++◌, All, length, take, sym, ap, subst, ◌∙◌, arith}
use Rattle.std.proofs.Math.Seq.{take-append_seam}
use Rattle.std.proofs.lemmas.List.{length_push}
use Rattle.mp_store.specs.declared.key.Key.{Key}
use Rattle.mp_store.specs.Numbered.{NumberedRecord}
use Rattle.mp_store.proofs.store.keep_first.Goals as goal

-- the key that came goes again
gone : (keys : List Key) (key : Key) → take (length (keys ++ key ∷ []) - 1) (keys ++ key ∷ []) ≡ keys
gone keys key =
    ap (λ n. take n (keys ++ key ∷ [])) (let e : length (keys ++ key ∷ []) - 1 ≡ length keys = omega (arith, length_push keys key) in e)
    ∙ take-append_seam keys (key ∷ [])

pub returns-in-Err-clause-count : goal.returns-in-Err-clause-count
returns-in-Err-clause-count c =
    let back : c.pop.new.self ≡ c.args.keys.now = c.pop.ensures.popped ∙ ap (λ (keys : List Key). take (length keys - 1) keys) c.in_ok-push.ensures.pushed ∙ gone c.args.keys.now c.args.key.now in
    ap (λ (keys : List Key). length keys) back ∙ c.requires.count ∙ ap (λ (n : NumberedRecord). n.keys) (sym c.in-Err.ensures.err)

pub returns-in-Err-clause-keyed : goal.returns-in-Err-clause-keyed
returns-in-Err-clause-keyed c =
    let back : c.pop.new.self ≡ c.args.keys.now = c.pop.ensures.popped ∙ ap (λ (keys : List Key). take (length keys - 1) keys) c.in_ok-push.ensures.pushed ∙ gone c.args.keys.now c.args.key.now in
    subst (λ (n : NumberedRecord). All (λ e. e.key < length c.pop.new.self) n.kept.entries) (sym c.in-Err.ensures.err)
    (subst (λ (keys : List Key). All (λ e. e.key < length keys) c.args.numbers.now.kept.entries) (sym back) c.requires.keyed)

pub returns-in-Err-clause-err : goal.returns-in-Err-clause-err
returns-in-Err-clause-err c = (
  c.pop.ensures.popped ∙ ap (λ (keys : List Key). take (length keys - 1) keys) c.in_ok-push.ensures.pushed ∙ gone c.args.keys.now c.args.key.now,
  c.in-Err.ensures.err,
)
