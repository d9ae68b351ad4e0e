use Rattle.std.proofs.Common.{◌≡◌, ℕ, ◌+◌, ◌<◌, List, eqb, get_or, refl, ap, ◌∙◌, arith}
use Rattle.std.proofs.Math.ListN.{set}
use Rattle.std.proofs.lemmas.List.{get_or_default, length-set}
use Rattle.st_ids.specs.Graph.{tail_of, head_of}
use Rattle.st_map.specs.Counting.{bit}
use Rattle.st_map.proofs.SumLemmas.{bit_le}
use Rattle.st_map.proofs.OrderLemmas.{bumped, degree_small, degrees_more}
use Rattle.st_map.proofs.orders.degrees.Goals as goal

pub index_mut-requires : goal.index_mut-requires
unfolding tail_of head_of
index_mut-requires c = omega (arith, (c.requires.within c.loop-e.e c.loop-e-test.true).0, c.loop-e.invariant.size, c.loop-e.degree.ok.0)

pub overflow_add-index_mut : goal.overflow_add-index_mut
unfolding tail_of head_of
overflow_add-index_mut c =
    let t : ℕ = (get_or c.args.ends.now c.loop-e.e (0, 0)).0 in
    let lt : (get_or c.args.ends.now c.loop-e.e (0, 0)).0 < c.args.n = (c.requires.within c.loop-e.e c.loop-e-test.true).0 in
    let r : c.index_mut.result.now ≡ get_or c.loop-e.degree.items t 0 =
    c.index_mut.ensures.value ∙ get_or_default c.loop-e.degree.items t c.index_mut.result.now 0 (omega (arith, c.loop-e.invariant.size)) in
    omega (arith, degree_small c.args.n c.args.ends.now c.loop-e.e c.loop-e.degree.items c.loop-e.invariant t lt, c.requires.few, c.loop-e-test.true)

pub index_mut-requires-in-loop-e : goal.index_mut-requires-in-loop-e
unfolding tail_of head_of
index_mut-requires-in-loop-e c = omega (arith, (c.requires.within c.loop-e.e c.loop-e-test.true).1, c.loop-e.invariant.size, c.loop-e.degree.ok.0)

pub overflow_add-index_mut-in-loop-e : goal.overflow_add-index_mut-in-loop-e
unfolding tail_of head_of
overflow_add-index_mut-in-loop-e c =
    let t : ℕ = (get_or c.args.ends.now c.loop-e.e (0, 0)).0 in
    let h : ℕ = (get_or c.args.ends.now c.loop-e.e (0, 0)).1 in
    let lt : (get_or c.args.ends.now c.loop-e.e (0, 0)).0 < c.args.n = (c.requires.within c.loop-e.e c.loop-e-test.true).0 in
    let lh : (get_or c.args.ends.now c.loop-e.e (0, 0)).1 < c.args.n = (c.requires.within c.loop-e.e c.loop-e-test.true).1 in
    let r : c.index_mut.result.now ≡ get_or c.loop-e.degree.items t 0 =
    c.index_mut.ensures.value ∙ get_or_default c.loop-e.degree.items t c.index_mut.result.now 0 (omega (arith, c.loop-e.invariant.size)) in
    let mid : set c.loop-e.degree.items t (c.index_mut.result.now + 1) ≡ set c.loop-e.degree.items t (get_or c.loop-e.degree.items t 0 + 1) =
    ap (λ z. set c.loop-e.degree.items t (z + 1)) r in
    let s : c.index_mut-in-loop-e.result.now ≡ get_or (set c.loop-e.degree.items t (c.index_mut.result.now + 1)) h 0 =
    c.index_mut-in-loop-e.ensures.value ∙ get_or_default (set c.loop-e.degree.items t (c.index_mut.result.now + 1)) h c.index_mut-in-loop-e.result.now 0
    (omega (arith, c.loop-e.invariant.size, length-set c.loop-e.degree.items t (c.index_mut.result.now + 1))) in
    let b : get_or (set c.loop-e.degree.items t (c.index_mut.result.now + 1)) h 0 ≡ get_or c.loop-e.degree.items h 0 + bit (eqb t h) =
    ap (λ (z : List ℕ). get_or z h 0) mid ∙ bumped c.loop-e.degree.items t h (omega (arith, c.loop-e.invariant.size)) in
    omega (arith, bit_le (eqb t h), degree_small c.args.n c.args.ends.now c.loop-e.e c.loop-e.degree.items c.loop-e.invariant h lh, c.requires.few, c.loop-e-test.true)

pub loop-e-preserved : goal.loop-e-preserved
unfolding tail_of head_of
loop-e-preserved c =
    let t : ℕ = (get_or c.args.ends.now c.loop-e.e (0, 0)).0 in
    let h : ℕ = (get_or c.args.ends.now c.loop-e.e (0, 0)).1 in
    let lt : (get_or c.args.ends.now c.loop-e.e (0, 0)).0 < c.args.n = (c.requires.within c.loop-e.e c.loop-e-test.true).0 in
    let lh : (get_or c.args.ends.now c.loop-e.e (0, 0)).1 < c.args.n = (c.requires.within c.loop-e.e c.loop-e-test.true).1 in
    let mid : List ℕ = set c.loop-e.degree.items t (c.index_mut.result.now + 1) in
    let r : c.index_mut.result.now ≡ get_or c.loop-e.degree.items t 0 =
    c.index_mut.ensures.value ∙ get_or_default c.loop-e.degree.items t c.index_mut.result.now 0 (omega (arith, c.loop-e.invariant.size)) in
    let s : c.index_mut-in-loop-e.result.now ≡ get_or mid h 0 =
    c.index_mut-in-loop-e.ensures.value ∙ get_or_default mid h c.index_mut-in-loop-e.result.now 0
    (omega (arith, c.loop-e.invariant.size, length-set c.loop-e.degree.items t (c.index_mut.result.now + 1))) in
    degrees_more c.args.n c.args.ends.now c.loop-e.e c.loop-e.degree.items t h lt lh refl refl c.loop-e.invariant
    mid (ap (λ z. set c.loop-e.degree.items t (z + 1)) r)
    (set mid h (c.index_mut-in-loop-e.result.now + 1)) (ap (λ z. set mid h (z + 1)) s)
