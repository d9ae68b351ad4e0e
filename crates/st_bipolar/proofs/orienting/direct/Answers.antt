use Rattle.std.proofs.Common.{◌≡◌, ◌+◌, ◌<◌, ℕ, Bool, subst}
use Rattle.std.specs.Prelude.{slice_index}
use Rattle.st_map.specs.Embedded.{Embedded, Touches, bare, edges, faces}
use Rattle.st_test.specs.Planar.{outer_of}
use Rattle.st_bipolar.specs.Cuts.{IsStNumbering}
use Rattle.st_bipolar.specs.Orientation.{IsOrientation, IsPlane, IsTurned, falls}
use Rattle.st_bipolar.specs.Turning.{is_turned, with_lists}
use Rattle.st_bipolar.specs.Visits.{first_pole, second_pole}
use Rattle.st_bipolar.specs.declared.searching.Visit.{Visit}
use Rattle.st_bipolar.proofs.OrientLemmas.{oriented_by, turned_with}
use Rattle.st_bipolar.proofs.orienting.direct.Goals as goal

-- numbers by a visit orient each graph that is turned by them
by_visit : (g : Embedded) (s t end outer : ℕ) (visit : Visit) → IsPlane g s t end → first_pole visit ≡ s → second_pole visit ≡ t
    → (r : ℕ → ℕ) → IsStNumbering (bare g) (first_pole visit) (second_pole visit) r → g.vertices + faces g ≡ edges g + 2 → Touches g end s → Touches g end t → end ≡ outer
    → (b : ℕ → Bool) → ((e : ℕ) → e < edges g → b e ≡ falls g r e) → (h : Embedded) → IsTurned g h b → IsOrientation g s t outer b h
by_visit g s t end outer visit P from to r N euler at_s at_t is b same h T =
    subst (λ z. IsOrientation g s t z b h) is
    (oriented_by g s t end P r (subst (λ z. IsStNumbering (bare g) z t r) from (subst (λ z. IsStNumbering (bare g) (first_pole visit) z r) to N)) euler at_s at_t b same h T)

pub returns-clause-each : goal.returns-clause-each
returns-clause-each c =
    by_visit c.args.map.now.graph c.args.s.0 c.args.t.0 c.in-Ok.end.0 (outer_of c.args.map.now.graph c.args.s.0 c.args.outer) c.in_ok-visit.visit
    (record { ends_in = c.rotation.ensures.ends; orders = c.rotation.ensures.orders; no_loop = c.requires.no_loop; source_in = c.requires.source; sink_in = c.requires.sink; poles = c.requires.poles; outer_in = c.in-Ok.ensures.within })
    c.in_ok-visit.ensures.source c.in_ok-visit.ensures.sink (slice_index c.in_ok-numbers.numbers) c.in_ok-numbers.ensures.numbers c.in-Ok.ensures.euler c.in-Ok.ensures.outer_s c.in-Ok.ensures.outer_t
    c.in-Ok.ensures.value (is_turned c.in_ok-directed.directed.turned) c.in_ok-directed.ensures.falling.each

pub returns-clause-orientation : goal.returns-clause-orientation
returns-clause-orientation c =
    let g = c.args.map.now.graph in
    let b = is_turned c.in_ok-directed.directed.turned in
    let f = c.in_ok-directed.directed.graph in
    by_visit c.args.map.now.graph c.args.s.0 c.args.t.0 c.in-Ok.end.0 (outer_of c.args.map.now.graph c.args.s.0 c.args.outer) c.in_ok-visit.visit
    (record { ends_in = c.rotation.ensures.ends; orders = c.rotation.ensures.orders; no_loop = c.requires.no_loop; source_in = c.requires.source; sink_in = c.requires.sink; poles = c.requires.poles; outer_in = c.in-Ok.ensures.within })
    c.in_ok-visit.ensures.source c.in_ok-visit.ensures.sink (slice_index c.in_ok-numbers.numbers) c.in_ok-numbers.ensures.numbers c.in-Ok.ensures.euler c.in-Ok.ensures.outer_s c.in-Ok.ensures.outer_t
    c.in-Ok.ensures.value b c.in_ok-directed.ensures.falling.each (with_lists g b f) (turned_with g b f c.in_ok-directed.ensures.ends)
