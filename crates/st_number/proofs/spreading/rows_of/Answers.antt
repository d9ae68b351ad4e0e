use Rattle.std.proofs.Common.{◌≡◌, ◌+◌, false, get_or, sym, ap, ◌∙◌, subst}
use Rattle.std.proofs.lemmas.Option.{get_or_from_slice_get}
use Rattle.st_number.specs.Spread.{AreSpreadBy}
use Rattle.st_number.proofs.SpreadLemmas.{rows_by, rows_more}
use Rattle.st_number.proofs.spreading.rows_of.Goals as goal

pub loop-e-preserved : goal.loop-e-preserved
loop-e-preserved c =
    let l : get_or c.args.lengths.now c.loop-e.e 0 ≡ c.get-length.result.now = get_or_from_slice_get c.args.lengths.now c.loop-e.e c.get-length.result.now 0 c.get-length.ensures.value in
    let b : get_or c.args.flags.now c.loop-e.e false ≡ c.get-has_parallel.result.now = get_or_from_slice_get c.args.flags.now c.loop-e.e c.get-has_parallel.result.now false c.get-has_parallel.ensures.value in
    let is : c.rows.result ≡ rows_by (get_or c.args.lengths.now c.loop-e.e 0) (get_or c.args.flags.now c.loop-e.e false) =
    c.rows.ensures ∙ ap (λ z. rows_by z c.get-has_parallel.result.now) (sym l) ∙ ap (λ z. rows_by (get_or c.args.lengths.now c.loop-e.e 0) z) (sym b) in
    subst (λ z. AreSpreadBy c.args.lengths.now c.args.flags.now (c.loop-e.e + 1) z) (sym c.in_ok-push.ensures.ok)
    (rows_more c.args.lengths.now c.args.flags.now c.loop-e.e c.loop-e.list c.loop-e.invariant c.rows.result is)
