use Rattle.std.proofs.Common.{◌≡◌, ◌+◌, ◌-◌, length, ap, ◌∙◌, arith}
use Rattle.st_gen.proofs.Ears.{length-replaced}
use Rattle.st_gen.proofs.making.replace.Goals as goal

pub insert-requires-clause-room : goal.insert-requires-clause-room
insert-requires-clause-room c =
    let h : length c.loop-k.row ≡ c.args.at + (c.loop-k.k + (length c.args.row.now - c.args.end)) =
    ap (λ z. length z) c.loop-k.invariant ∙ length-replaced c.args.row.now c.args.at c.args.end (c.args.first + (c.args.many - c.loop-k.k)) c.loop-k.k (omega arith) in
    omega arith
