use Rattle.std.proofs.Common.{◌≡◌, ◌≢◌, ℕ, suc, ◌+◌, ◌<◌, ◌≤◌, length, refl, sym, ap, ◌∙◌, arith}
use Rattle.st_ids.specs.EdgeNumbers.{numbers}
use Rattle.st_ids.specs.Ends.{is_out}
use Rattle.st_map.specs.Embedded.{darts}
use Rattle.st_map.specs.Orbits.{iterate}
use Rattle.st_map.proofs.Public.{steps}
use Rattle.st_sides.specs.Rounds.{round}
use Rattle.st_sides.specs.Stretches.{forward}
use Rattle.st_sides.proofs.RoundLemmas.{run_goes, run_few, run_grows}
use Rattle.st_sides.proofs.runs.run.Goals as goal

pub round-smaller : goal.round-smaller
round-smaller c =
    let f : ℕ → ℕ = round c.args.map.now.graph c.args.face in
    let x : ℕ = c.args.start.0 in
    let j : ℕ = length c.round.list.items in
    let n : ℕ = c.requires.some.0 in
    let few : n ≤ darts c.args.map.now.graph = run_few (darts c.args.map.now.graph) f c.requires.permutes c.args.out x n c.requires.there c.requires.some.1 in
    let w : (is_out c.round.end.0 ≡ c.args.out) × (c.round.end.0 ≢ x) = c.round-test.ensures.0 refl in
    let e : c.round.end.0 ≡ iterate j f x = c.round.invariant.end in
    let lt : j < n = run_goes f c.args.out x j n c.requires.some.1 c.round.invariant.some (c.round.invariant.far n c.requires.some.1) (ap is_out (sym e) ∙ w.0) (λ q. w.1 (e ∙ q)) in
    let more : length c.put-in-round.new.list.items ≡ j + 1 = (run_grows f x j c.round.end.0 c.edge-in-round.result c.round.list.items c.put-in-round.new.list.items
    c.in_ok-put-2.ensures refl c.edge-in-round.ensures c.round.invariant.list e).0 in
    omega (arith, few, lt, more)

pub round-preserved : goal.round-preserved
round-preserved c =
    let f : ℕ → ℕ = round c.args.map.now.graph c.args.face in
    let x : ℕ = c.args.start.0 in
    let j : ℕ = length c.round.list.items in
    let w : (is_out c.round.end.0 ≡ c.args.out) × (c.round.end.0 ≢ x) = c.round-test.ensures.0 refl in
    let e : c.round.end.0 ≡ iterate j f x = c.round.invariant.end in
    let g : (length c.put-in-round.new.list.items ≡ j + 1) × (numbers c.put-in-round.new.list.items ≡ forward (length c.put-in-round.new.list.items) f x) =
    run_grows f x j c.round.end.0 c.edge-in-round.result c.round.list.items c.put-in-round.new.list.items
    c.in_ok-put-2.ensures refl c.edge-in-round.ensures c.round.invariant.list e in
    record {
      some = omega (arith, g.0);
      far = λ n r.
          let lt : j < n = run_goes f c.args.out x j n r c.round.invariant.some (c.round.invariant.far n r) (ap is_out (sym e) ∙ w.0) (λ q. w.1 (e ∙ q)) in
          omega (arith, g.0, lt);
      list = g.1;
      end = c.step-end-in-round.ensures.value ∙ ap f e ∙ steps f x (suc j) (length c.put-in-round.new.list.items) (omega (arith, g.0));
      there = c.step-end-in-round.ensures.within;
    }
