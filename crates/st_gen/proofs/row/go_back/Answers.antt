use Rattle.std.proofs.Common.{◌≡◌, ◌<◌, ◌-◌, length, ap, sym, ◌∙◌, subst, arith, get_or, []}
use Rattle.st_gen.specs.Chunks.{IsSpot}
use Rattle.st_gen.proofs.ChunkLemmas.{IsBefore, spot_down, chunk_read}
use Rattle.st_gen.proofs.row.go_back.Goals as goal

before_of : (c : goal.After-len-before) → IsBefore c.args.chunks.now (c.loop-before.chunk - 1) c.loop-before.before
before_of c = spot_down c.args.chunks.now c.loop-before.chunk c.loop-before.before c.loop-before.invariant (omega arith)

length_of : (c : goal.After-len-before) → length (get_or c.args.chunks.now (c.loop-before.chunk - 1) []) ≡ c.len-before.result
length_of c =
    let n : c.loop-before.chunk - 1 < length c.args.chunks.now = (before_of c).spot.there in
    ap (λ z. length z) (chunk_read c.args.chunks.now (c.loop-before.chunk - 1) c.index-chunks-chunk.result n c.index-chunks-chunk.is) ∙ sym c.len-before.ensures

pub overflow_sub-before : goal.overflow_sub-before
overflow_sub-before c = let f = (before_of c).fits in omega (arith, f, length_of c)

pub loop-before-preserved : goal.loop-before-preserved
loop-before-preserved c = subst (λ z. IsSpot c.args.chunks.now (c.loop-before.chunk - 1) (c.loop-before.before - z)) (length_of c) (before_of c).spot
