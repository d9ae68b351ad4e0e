use Rattle.std.proofs.Common.{get_or, refl}
use Rattle.st_ids.specs.declared.ids.EdgeId.{EdgeId}
use Rattle.st_reduce.proofs.MarkLemmas.{first_in}
use Rattle.st_reduce.proofs.marks.mark.Goals as goal

pub set-requires : goal.set-requires
set-requires c =
    let d : EdgeId = record { 0 = 0 } in
    c.requires (get_or c.args.path.now 0 d).0 (first_in c.args.path.now (get_or c.args.path.now 0 d) d c.if-path-eq1.true refl)
