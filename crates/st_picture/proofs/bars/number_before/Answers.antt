use Rattle.std.proofs.Common.{rules, ◌∙◌, ap, pos, ◌-ℤ◌, slice_index_or, w64, FitsSigned, to_z, of_z}
use Rattle.std.proofs.lemmas.Int.{to_z-of_z}
use Rattle.st_picture.proofs.TableLemmas.{number_before}
use Rattle.st_picture.proofs.bars.number_before.Goals as goal

pub returns : goal.returns
returns c =
    let z = slice_index_or c.args.table.now c.args.i (pos 0) in
    let fit : FitsSigned w64 z = search rules in
    let low = c.requires.natural in
    let less : FitsSigned w64 (z -ℤ pos 1) = search rules in
    ap (λ x. to_z w64 (of_z w64 (x -ℤ pos 1))) (to_z-of_z w64 z fit) ∙ to_z-of_z w64 (z -ℤ pos 1) less
    ∙ number_before c.args.table.now c.args.i c.requires.natural c.requires.positive
