use Rattle.std.proofs.Common.{◌<◌, ◌+◌, length, sym, ap, ◌∙◌, subst, arith}
use Rattle.std.proofs.Math.ListN.{set}
use Rattle.st_number.specs.Filling.{AreLeftColumns, IsFilling}
use Rattle.st_sides.specs.Sweep.{node_numbers}
use Rattle.st_number.specs.Greatest.{IsColumn}
use Rattle.st_number.proofs.FillLemmas.{face_at, faces_size, node_in, lefts, fill_more, fill_end}
use Rattle.st_number.proofs.dual_pass.fill.Goals as goal

pub column-found-requires-clause-there : goal.column-found-requires-clause-there
column-found-requires-clause-there c =
    let lk : c.loop-k.k < length (node_numbers c.args.order.now) = omega (arith, faces_size c.args.order.now, c.loop-k-test.true) in
    omega (arith, node_in c.args.sides.now c.requires.sides (node_numbers c.args.order.now) c.loop-k.columns c.loop-k.k c.requires.order lk c.loop-k.invariant, face_at c.args.order.now c.loop-k.k)

pub column-found-requires-clause-lefts : goal.column-found-requires-clause-lefts
column-found-requires-clause-lefts c =
    let lk : c.loop-k.k < length (node_numbers c.args.order.now) = omega (arith, faces_size c.args.order.now, c.loop-k-test.true) in
    subst (λ f. AreLeftColumns c.args.sides.now c.loop-k.columns f) (face_at c.args.order.now c.loop-k.k)
    (lefts c.args.sides.now c.requires.sides (node_numbers c.args.order.now) c.loop-k.columns c.loop-k.k c.requires.order lk c.loop-k.invariant)

pub set-requires : goal.set-requires
set-requires c =
    let lk : c.loop-k.k < length (node_numbers c.args.order.now) = omega (arith, faces_size c.args.order.now, c.loop-k-test.true) in
    omega (
      arith,
      node_in c.args.sides.now c.requires.sides (node_numbers c.args.order.now) c.loop-k.columns c.loop-k.k c.requires.order lk c.loop-k.invariant,
      face_at c.args.order.now c.loop-k.k,
      c.loop-k.invariant.size,
    )

pub loop-k-preserved : goal.loop-k-preserved
loop-k-preserved c =
    let lk : c.loop-k.k < length (node_numbers c.args.order.now) = omega (arith, faces_size c.args.order.now, c.loop-k-test.true) in
    let n = face_at c.args.order.now c.loop-k.k in
    subst (λ v. IsFilling c.args.sides.now (node_numbers c.args.order.now) v (c.loop-k.k + 1))
    (sym (c.set.ensures ∙ ap (λ i. set c.loop-k.columns i c.column-found.result) (sym n)))
    (fill_more c.args.sides.now c.requires.sides (node_numbers c.args.order.now) c.loop-k.columns c.loop-k.k c.requires.order lk c.loop-k.invariant c.column-found.result
    (subst (λ f. IsColumn c.args.sides.now f c.column-found.result) (sym n) c.column-found.ensures))

pub returns : goal.returns
returns c = fill_end c.args.sides.now c.requires.sides (node_numbers c.args.order.now) c.loop-k.columns c.loop-k.k (omega (arith, c.faces.ensures.few)) c.requires.order
    (omega (arith, faces_size c.args.order.now, c.loop-k-test.false)) c.loop-k.invariant
