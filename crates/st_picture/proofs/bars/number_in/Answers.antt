use Rattle.std.proofs.Common.{rules, ◌∙◌, pos, slice_index_or, w64, FitsSigned}
use Rattle.std.proofs.lemmas.Int.{to_z-of_z}
use Rattle.st_picture.proofs.TableLemmas.{number_is}
use Rattle.st_picture.proofs.bars.number_in.Goals as goal

pub returns : goal.returns
returns c =
    let z = slice_index_or c.args.table.now c.args.i (pos 0) in
    let fit : FitsSigned w64 z = search rules in
    to_z-of_z w64 z fit ∙ number_is c.args.table.now c.args.i c.requires.natural
