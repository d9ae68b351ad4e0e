use Rattle.std.proofs.Common.{◌≡◌, ◌<◌, ◌+◌, length, ap, sym, ◌∙◌, subst, arith, get_or, []}
use Rattle.st_gen.specs.Chunks.{IsSpot}
use Rattle.st_gen.proofs.ChunkLemmas.{spot_up, chunk_read}
use Rattle.st_gen.proofs.row.go_on.Goals as goal

pub loop-before-preserved : goal.loop-before-preserved
loop-before-preserved c =
    let n : c.loop-before.chunk < length c.args.chunks.now = c.loop-before.invariant.spot.there in
    let a : length (get_or c.args.chunks.now c.loop-before.chunk []) ≡ c.len.result =
    ap (λ z. length z) (chunk_read c.args.chunks.now c.loop-before.chunk c.index-chunks-chunk.result n c.index-chunks-chunk.is) ∙ sym c.len.ensures in
    let b : length (get_or c.args.chunks.now c.loop-before.chunk []) ≡ c.len-before.result =
    ap (λ z. length z) (chunk_read c.args.chunks.now c.loop-before.chunk c.index-chunks-chunk-in-loop-before.result n c.index-chunks-chunk-in-loop-before.is) ∙ sym c.len-before.ensures in
    record {
      spot = subst (λ z. IsSpot c.args.chunks.now (c.loop-before.chunk + 1) (c.loop-before.before + z)) b
          (spot_up c.args.chunks.now c.loop-before.chunk c.loop-before.before c.args.place c.loop-before.invariant.spot (omega arith) c.requires.within);
      low = omega arith;
    }
