use Rattle.std.proofs.Common.{◌≡◌, ℕ, ◌+◌, List, [], ◌∷◌, ◌++◌, length, rules, sym, ap, subst, ◌∙◌, arith}
use Rattle.std.proofs.lemmas.List.{get_or_append_left, length-append, map-append}
use Rattle.mp_rows.specs.declared.chains.Link.{Link}
use Rattle.mp_rows.specs.Chains.{no_link, place, places, AreChained}
use Rattle.mp_rows.specs.RowFields.{AreRows}
use Rattle.mp_rows.proofs.ChainLemmas.{chained_alike}
use Rattle.mp_rows.proofs.RowLemmas.{new_among, place_of_next, rows_added}
use Rattle.mp_rows.proofs.rows.add_row.Goals as goal

pub chain-requires-clause-chained : goal.chain-requires-clause-chained
chain-requires-clause-chained c =
    let words = c.args.words.now.items in
    let links = c.args.links.now.items in
    let row = c.args.front.now ++ c.args.back.now in
    let link = c.args.link in
    let number : c.len-number.result ≡ length links = search rules in
    let grown : c.push_reserved.new.self.items ≡ links ++ link ∷ [] = search rules in
    subst (λ (ls : List Link). AreChained c.args.heads.now.items ls c.len-number.result) (sym grown)
    (subst (AreChained c.args.heads.now.items (links ++ link ∷ [])) (sym number)
    (chained_alike c.args.heads.now.items links (links ++ link ∷ []) (length links) (λ k h. sym (get_or_append_left links (link ∷ []) no_link k h)) c.requires.rows.chained))

pub returns-clause-rows : goal.returns-clause-rows
returns-clause-rows c =
    let words = c.args.words.now.items in
    let links = c.args.links.now.items in
    let row = c.args.front.now ++ c.args.back.now in
    let link = c.args.link in
    let number : c.len-number.result ≡ length links = search rules in
    let grown : c.push_reserved.new.self.items ≡ links ++ link ∷ [] = search rules in
    let others = c.chain.new.links.items in
    let more = c.chain.new.heads.items in
    let same : places others ≡ places links ++ place_of_next words row ∷ [] =
    c.chain.ensures.places ∙ ap places grown ∙ map-append place links (link ∷ [])
    ∙ (λ j. places links ++ (c.requires.hash j, (c.requires.start j, c.requires.end j)) ∷ []) in
    let long : length others ≡ c.len-number.result + 1 = c.chain.ensures.links ∙ ap (λ (ls : List Link). length ls) grown ∙ length-append links (link ∷ []) ∙ ap (λ (n : ℕ). n + 1) (sym number) in
    subst (λ (ws : List ℕ). AreRows ws others more) (sym c.add_words.ensures)
    (rows_added words row links others c.args.heads.now.items more c.requires.rows (new_among words row links c.requires.new) same
    (subst (AreChained more others) (sym long) c.chain.ensures.chained)
    (let some = c.requires.some in let e = c.chain.ensures.heads in omega (arith, some, e))
    (let few = c.requires.rows.few in let e = c.chain.ensures.heads in omega (arith, few, e))
    c.requires.small)

pub returns-clause-places : goal.returns-clause-places
returns-clause-places c =
    let words = c.args.words.now.items in
    let links = c.args.links.now.items in
    let row = c.args.front.now ++ c.args.back.now in
    let link = c.args.link in
    let number : c.len-number.result ≡ length links = search rules in
    let grown : c.push_reserved.new.self.items ≡ links ++ link ∷ [] = search rules in
    c.chain.ensures.places ∙ ap places grown ∙ map-append place links (link ∷ [])
