use Rattle.std.proofs.Common.{◌≡◌, ◌≤◌, [], Ok, length, subst, sym}
use Rattle.mp_files.specs.Team.{ReadsMade}
use Rattle.mp_maker.specs.Delivery.{delivery}
use Rattle.mp_split.specs.Team.{IsFirstRefusal}
use Rattle.mp_top.specs.Asked.{agents_of, made_texts, names_of_texts, team_request}
use Rattle.mp_top.specs.Decided.{MakesFor}
use Rattle.mp_top.proofs.Decided.{decided_make, sizes_rest}
use Rattle.mp_top.proofs.Made.{made_for_each, made_of}
use Rattle.mp_words.specs.Reads.{make_by}
use Rattle.mp_words.specs.Requests.Wanted.{makes}
use Rattle.mp_top.proofs.deciding.decide_make.Goals as goal

pub make_for-requires-clause-some : goal.make_for-requires-clause-some
make_for-requires-clause-some g c =
    let w = make_by c.args.request in
    let texts : c.in_ok-texts.texts ≡ delivery w.size w.number = made_of c.in_ok-texts.texts c.size_of-size.result w.size c.number_of.result w.number c.size_of-size.ensures c.number_of.ensures c.in_ok-texts.ensures in
    let reads : ReadsMade (agents_of c.in_ok-texts.texts) (Ok c.in-Ok.team) = subst (λ t. ReadsMade (agents_of t) (Ok c.in-Ok.team)) c.as_slice.ensures c.in-Ok.ensures.team in
    let size : length c.in-Ok.team ≡ length (names_of_texts (made_texts w.size w.number)) = made_for_each c.in_ok-texts.texts c.in-Ok.team w.size w.number texts reads in
    subst (λ t. 1 ≤ length t) (sym c.as_slice-2.ensures) (subst (λ n. 1 ≤ n) (sym size) c.requires.keeps.some)

pub make_for-requires-clause-at_most : goal.make_for-requires-clause-at_most
make_for-requires-clause-at_most g c =
    let w = make_by c.args.request in
    let texts : c.in_ok-texts.texts ≡ delivery w.size w.number = made_of c.in_ok-texts.texts c.size_of-size.result w.size c.number_of.result w.number c.size_of-size.ensures c.number_of.ensures c.in_ok-texts.ensures in
    let reads : ReadsMade (agents_of c.in_ok-texts.texts) (Ok c.in-Ok.team) = subst (λ t. ReadsMade (agents_of t) (Ok c.in-Ok.team)) c.as_slice.ensures c.in-Ok.ensures.team in
    let size : length c.in-Ok.team ≡ length (names_of_texts (made_texts w.size w.number)) = made_for_each c.in_ok-texts.texts c.in-Ok.team w.size w.number texts reads in
    subst (λ t. length t ≤ 16) (sym c.as_slice-2.ensures) (subst (λ n. n ≤ 16) (sym size) c.requires.keeps.at_most)

pub returns-in-Ok-make_for-clause-outcome : goal.returns-in-Ok-make_for-clause-outcome
returns-in-Ok-make_for-clause-outcome g c held =
    let w = make_by c.args.request in
    let d = c.in-Ok-make_for.decision in
    let texts : c.in_ok-texts.texts ≡ delivery w.size w.number = made_of c.in_ok-texts.texts c.size_of-size.result w.size c.number_of.result w.number c.size_of-size.ensures c.number_of.ensures c.in_ok-texts.ensures in
    let reads : ReadsMade (agents_of c.in_ok-texts.texts) (Ok c.in-Ok.team) = subst (λ t. ReadsMade (agents_of t) (Ok c.in-Ok.team)) c.as_slice.ensures c.in-Ok.ensures.team in
    decided_make held w c.in_ok-texts.texts c.size_of-size.result c.in-Ok.team d texts c.size_of-size.ensures reads
    (subst (λ one. MakesFor w.search one w.show c.in_ok-texts.texts c.size_of-size.result c.in-Ok.team d) c.workers_of_make.ensures
    (subst (λ t. MakesFor w.search c.workers_of_make.result.one w.show t c.size_of-size.result c.in-Ok.team d) c.as_slice-3.ensures
    (subst (λ t. MakesFor w.search c.workers_of_make.result.one w.show c.as_slice-3.result.now c.size_of-size.result t d) c.as_slice-2.ensures
    c.in-Ok-make_for.ensures.outcome)))

pub returns-clause-cause : goal.returns-clause-cause
returns-clause-cause g c source =
    let w = make_by c.args.request in
    let texts : c.in_ok-texts.texts ≡ delivery w.size w.number = made_of c.in_ok-texts.texts c.size_of-size.result w.size c.number_of.result w.number c.size_of-size.ensures c.number_of.ensures c.in_ok-texts.ensures in
    let reads : ReadsMade (agents_of c.in_ok-texts.texts) (Ok c.in-Ok.team) = subst (λ t. ReadsMade (agents_of t) (Ok c.in-Ok.team)) c.as_slice.ensures c.in-Ok.ensures.team in
    sizes_rest source (team_request (makes w)) [] c.in-Ok.team c.in-Err-make_for.refusal tt
    (subst (λ t. ReadsMade (agents_of t) (Ok c.in-Ok.team)) texts reads)
    (subst (λ t. IsFirstRefusal t c.in-Err-make_for.refusal) c.as_slice-2.ensures c.in-Err-make_for.ensures.refused)
