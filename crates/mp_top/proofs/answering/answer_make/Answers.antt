use Rattle.std.proofs.Common.{◌≡◌, ◌∙◌, [], ap, arith, map, refl}
use Rattle.std.specs.List.{range_with_len}
use Rattle.mp_files.specs.Fetched.{names_of}
use Rattle.mp_top.specs.Asked.{made_name}
use Rattle.mp_top.specs.Refusal.{line_of}
use Rattle.mp_top.proofs.Acts.{nothing_read}
use Rattle.mp_top.proofs.Decided.{always_err, always_ok}
use Rattle.mp_top.proofs.Kept.{kept, kept_memory}
use Rattle.mp_words.specs.Reads.{make_by}
use Rattle.mp_words.specs.Requests.Wanted.{makes}
use Rattle.mp_top.proofs.answering.answer_make.Goals as goal

pub returns-in_default : goal.returns-in_default
returns-in_default g c ws asks = kept_memory _ refl refl refl (record { out = refl; no_fault = refl; report = refl }) c.tell_memory.ensures

pub returns : goal.returns
returns g c ws asks =
    let w = make_by c.args.request in
    let named : map names_of c.as_slice.result.now ≡ map made_name (range_with_len 1 w.size) =
    ap (map names_of) c.as_slice.ensures.value ∙ c.in-Ok.ensures ∙ ap (λ n. map made_name (range_with_len 1 n)) c.size_of.ensures in
    kept _ (makes w) c.decide_make-decided.result [] (map names_of c.as_slice.result.now)
    asks (λ r. ap (λ agents. line_of [] agents r) named)
    (c.decide_make-decided.ensures.outcome _) (c.decide_make-decided.ensures.cause _) (always_ok c.decide_make-decided.result _ refl)
    (always_err c.decide_make-decided.result _ (λ r risen. absurd (omega (arith, risen))))
    (nothing_read [] _ _ refl)
    c.end.ensures.outcome c.end.ensures.refusal
