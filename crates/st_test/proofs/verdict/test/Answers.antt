use Rattle.std.proofs.Common.{◌≡◌, ◌↔◌, inl, inr, IsTrue, Bool, true, false, not, refl, ap, subst, arith}
use Rattle.st_map.specs.Embedded.{Touches, bare}
use Rattle.st_test.specs.Planar.{outer_of}
use Rattle.st_test.proofs.VerdictLemmas.{faces_small, source_edge}
use Rattle.st_test.proofs.verdict.test.Goals.{then-misses_source-via-then-misses_source, then-misses_source-via-else-misses_source+then-misses_sink}
use Rattle.st_test.proofs.verdict.test.Goals as goal

pub overflow_add-v : goal.overflow_add-v
overflow_add-v c =
    omega (arith, c.vertices-v.ensures.value, c.vertices-v.ensures.few, c.edges-e.ensures.few, c.count-f.ensures, c.in_ok-found.ensures.all, faces_small c.args.map.graph)

pub outer_end-end-requires-clause-edge : goal.outer_end-end-requires-clause-edge
outer_end-end-requires-clause-edge c =
    source_edge (bare c.args.map.graph) c.args.poles.source.0 c.args.poles.sink.0 c.edges-e.ensures.rotation.ends c.requires.poles

-- the answer `misses` from the answer `touches`
misses : (b : Bool) (P : Type 0) → IsTrue b ↔ P → IsTrue (not b) ↔ (P → ⊥)
misses true P h = (λ w. absurd (cc), λ n. absurd (n (h.0 refl)))
misses false P h = (λ w p. (let z : IsTrue false = h.1 p in cc), λ n. refl)

pub returns-then-misses_source-clause-fault : goal.returns-then-misses_source-clause-fault
returns-then-misses_source-clause-fault c =
    let named : c.outer_end-end.result.0 ≡ outer_of c.args.map.graph c.args.poles.source.0 c.args.outer = c.outer_end-end.ensures.value in
    let sink : IsTrue (not c.touches-misses_sink.result) ↔ (Touches c.args.map.graph (outer_of c.args.map.graph c.args.poles.source.0 c.args.outer) c.args.poles.sink.0 → ⊥) =
    misses c.touches-misses_sink.result (Touches c.args.map.graph (outer_of c.args.map.graph c.args.poles.source.0 c.args.outer) c.args.poles.sink.0)
    (subst (λ z. IsTrue c.touches-misses_sink.result ↔ Touches c.args.map.graph z c.args.poles.sink.0) named c.touches-misses_sink.ensures) in (
      omega (arith, c.if-v-f.false, c.vertices-v.ensures.value, c.edges-e.ensures.value, c.count-f.ensures, c.in_ok-found.ensures.all),
      misses c.touches-misses_source.result (Touches c.args.map.graph (outer_of c.args.map.graph c.args.poles.source.0 c.args.outer) c.args.poles.source.0)
          (subst (λ z. IsTrue c.touches-misses_source.result ↔ Touches c.args.map.graph z c.args.poles.source.0) named c.touches-misses_source.ensures),
      sink,
      elim c.then-misses_source.branch [ then-misses_source-via-then-misses_source w ↦ inl (ap not w.if-misses_source.true) | then-misses_source-via-else-misses_source+then-misses_sink w ↦ inr (ap not w.if-misses_sink.true) ],
    )
