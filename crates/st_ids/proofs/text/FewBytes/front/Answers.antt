use Rattle.std.proofs.Common.{◌≤◌, length, take, drop, sym, ap, ◌∙◌, arith}
use Rattle.std.proofs.lemmas.List.{take-append-le, take-append-drop, length-take}
use Rattle.st_ids.proofs.text.FewBytes.front.Goals as goal

pub returns : goal.returns
returns c =
    let first : c.args.n ≤ length (take 14 c.args.bytes.now) = omega (arith, length-take 14 c.args.bytes.now, c.requires.fits, c.requires.there) in
    ap (take c.args.n) c.copy_from_slice.ensures.after ∙ sym (take-append-le c.args.n (take 14 c.args.bytes.now) (drop 14 c.args.bytes.now) first) ∙ ap (take c.args.n) (take-append-drop 14 c.args.bytes.now)
