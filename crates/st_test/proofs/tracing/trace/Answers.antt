use Rattle.std.proofs.Common.{◌≡◌, ℕ, suc, ◌<◌, inl, inr, eqb, List, length, get_or, sym, ap, ◌∙◌, subst, arith}
use Rattle.std.proofs.Math.ListN.{set}
use Rattle.std.proofs.lemmas.List.{get_or-set_other, length-set}
use Rattle.std.proofs.lemmas.Bool.{cases_lt}
use Rattle.st_map.specs.Embedded.{darts, phi}
use Rattle.st_map.specs.Orbits.{iterate}
use Rattle.st_test.specs.Tracing.{first_within}
use Rattle.st_test.proofs.TracingLemmas.{nearer, all_round, keeps, gets}
use Rattle.st_test.proofs.tracing.trace.Goals as goal

pub round-smaller : goal.round-smaller
round-smaller c =
    let f : ℕ → ℕ = phi c.args.map.now.graph in
    let n : ℕ = darts c.args.map.now.graph in
    let p : (j : ℕ) × (0 < j) × (iterate j (phi c.args.map.now.graph) c.args.start.0 ≡ c.round.end.0)
    × ((i : ℕ) → i < j → get_or c.round.orbit (iterate i (phi c.args.map.now.graph) c.args.start.0) 0 ≡ c.args.number) = c.round.invariant.place in
    subst (λ z. first_within n (λ k. eqb (iterate k f z) c.args.start.0) < first_within n (λ k. eqb (iterate k f c.round.end.0) c.args.start.0)) (sym c.turn-end-in-round.ensures.value)
    (nearer n f c.requires.permutes c.args.start.0 c.round.end.0 c.requires.there (p.0, p.2) c.round-test.true)

pub round-preserved : goal.round-preserved
round-preserved c =
    let f : ℕ → ℕ = phi c.args.map.now.graph in
    let p : (j : ℕ) × (0 < j) × (iterate j (phi c.args.map.now.graph) c.args.start.0 ≡ c.round.end.0)
    × ((i : ℕ) → i < j → get_or c.round.orbit (iterate i (phi c.args.map.now.graph) c.args.start.0) 0 ≡ c.args.number) = c.round.invariant.place in
    let len : c.round.end.0 < length c.round.orbit = omega (arith, c.round.invariant.there, c.round.invariant.size) in
    let is : c.set-in-round.new.self ≡ set c.round.orbit c.round.end.0 c.args.number = c.set-in-round.ensures in
    record {
      size = ap (λ (z : List ℕ). length z) is ∙ length-set c.round.orbit c.round.end.0 c.args.number ∙ c.round.invariant.size;
      place = (
        suc p.0,
        omega arith,
        ap f p.2 ∙ sym c.turn-end-in-round.ensures.value,
        λ i l. ap (λ (z : List ℕ). get_or z (iterate i f c.args.start.0) 0) is ∙ elim (cases_lt i p.0) [
          | inl m ↦ keeps c.round.orbit c.round.end.0 (iterate i f c.args.start.0) c.args.number len (p.3 i m)
          | inr m ↦ gets c.round.orbit c.round.end.0 (iterate i f c.args.start.0) c.args.number len
              (ap (λ k. iterate k f c.args.start.0) (let e : i ≡ p.0 = omega arith in e) ∙ p.2)
        ],
      );
      others = λ e n. ap (λ (z : List ℕ). get_or z e 0) is
          ∙ get_or-set_other c.round.orbit c.round.end.0 e c.args.number 0 (λ q. n (p.0, p.2 ∙ sym q)) ∙ c.round.invariant.others e n;
      there = c.turn-end-in-round.ensures.within;
    }

pub returns : goal.returns
returns c =
    let f : ℕ → ℕ = phi c.args.map.now.graph in
    let n : ℕ = darts c.args.map.now.graph in
    let p : (j : ℕ) × (0 < j) × (iterate j (phi c.args.map.now.graph) c.args.start.0 ≡ c.round.end.0)
    × ((i : ℕ) → i < j → get_or c.round.orbit (iterate i (phi c.args.map.now.graph) c.args.start.0) 0 ≡ c.args.number) = c.round.invariant.place in
    record {
      size = c.round.invariant.size ∙ sym c.requires.size;
      members = all_round n f c.requires.permutes c.round.orbit c.args.start.0 c.args.number p.0 c.requires.there p.1 (p.2 ∙ c.round-test.false) p.3;
      others = c.round.invariant.others;
    }
