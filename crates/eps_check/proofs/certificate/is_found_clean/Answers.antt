use Rattle.std.proofs.Common.{IsTrue}
use Rattle.eps_check.proofs.CleanLemmas.{clean_from}
use Rattle.eps_check.proofs.FrontLemmas.{IfOk_then}
use Rattle.eps_check.proofs.certificate.is_found_clean.Goals as goal

pub returns-then-found : goal.returns-then-found
returns-then-found c = λ t.
    let distinct : IsTrue c.are_distinct.result = cc in
    let placed : IsTrue c.are_in_place.result = cc in
    clean_from c.args.form c.is_slanted-slanted.result _ c.args.items.now c.is_slanted-slanted.ensures
    c.requires.sheet (c.are_distinct.ensures distinct) (c.are_in_place.ensures placed) (c.in_ok-found.ensures c.if-found.true)

pub returns-in-Ok : goal.returns-in-Ok
returns-in-Ok c =
    let distinct : IsTrue c.are_distinct.result = cc in
    let placed : IsTrue c.are_in_place.result = cc in
    IfOk_then c.lie_apart-in-Ok.result _ _ c.lie_apart-in-Ok.ensures
    (λ found h t. clean_from c.args.form c.is_slanted-slanted.result _ c.args.items.now c.is_slanted-slanted.ensures
    c.requires.sheet (c.are_distinct.ensures distinct) (c.are_in_place.ensures placed) (h t))
