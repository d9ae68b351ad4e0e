use Rattle.std.proofs.Common.{◌<◌, ◌+◌, ◌∙◌, arith}
use Rattle.st_picture.proofs.PushLemmas.{pushed, same_frame, one_more}
use Rattle.st_picture.proofs.pushing.push_each.Goals as goal

pub loop-k-preserved : goal.loop-k-preserved
loop-k-preserved g c =
    let d = c.loop-k.picture in
    let x = c.item.result in
    let q = c.in_ok-push.ensures.ok in
    let l : c.loop-k.k < c.args.n = c.loop-k-test.true in
    record {
      in_range = omega arith;
      frame = same_frame d c.push.new.self x q ∙ c.loop-k.invariant.frame;
      count = omega (arith, one_more d c.push.new.self x q, c.loop-k.invariant.count);
      same = λ f F. pushed c.args.picture.now f c.loop-k.k (c.loop-k.k + 1) d c.push.new.self x (omega arith) (F c.loop-k.k x l c.item.ensures) (c.loop-k.invariant.same f F) q;
    }
