use Rattle.std.proofs.Common.{◌≡◌, ℕ, ◌<◌, length, get_or, sym, ap, subst, ◌∙◌}
use Rattle.st_map.specs.Embedded.{Embedded, faces}
use Rattle.st_test.specs.FaceNumbers.{orbit_number}
use Rattle.st_sides.specs.Filled.{label_of}
use Rattle.st_sides.specs.NodeSides.{NodeBegins}
use Rattle.st_sides.proofs.NodeStartLemmas.{label_below, node_begins}
use Rattle.st_sides.proofs.paths.node_start.Goals as goal

same : (f o o' c c' x : ℕ) → x ≡ label_of f o c → o ≡ o' → c ≡ c' → x ≡ label_of f o' c'
same f o o' c c' x p q r = p ∙ ap (λ z. label_of f z c) q ∙ ap (λ z. label_of f o' z) r

pub bounds-starts-at : goal.bounds-starts-at
bounds-starts-at c =
    let g : Embedded = c.args.graph.now.map.graph in
    let e : c.label-at.result ≡ label_of c.args.f (orbit_number g c.args.graph.now.outer) (faces g) =
    same c.args.f c.outer.result.0 (orbit_number g c.args.graph.now.outer) c.count_faces.result (faces g) c.label-at.result c.label-at.ensures c.outer.ensures c.count_faces.ensures.value in
    let l : label_of c.args.f (orbit_number g c.args.graph.now.outer) (faces g) < faces g =
    label_below g c.args.graph.now.source c.args.graph.now.sink c.args.graph.now.outer c.map.ensures.planar c.args.f c.requires.there in
    subst (λ z. z < length c.args.starts.now) (sym e) (subst (λ z. label_of c.args.f (orbit_number g c.args.graph.now.outer) (faces g) < z) (sym c.requires.starts.size) l)

pub returns : goal.returns
returns c =
    let g : Embedded = c.args.graph.now.map.graph in
    let e : c.label-at.result ≡ label_of c.args.f (orbit_number g c.args.graph.now.outer) (faces g) =
    same c.args.f c.outer.result.0 (orbit_number g c.args.graph.now.outer) c.count_faces.result (faces g) c.label-at.result c.label-at.ensures c.outer.ensures c.count_faces.ensures.value in
    subst (λ z. NodeBegins g c.args.graph.now.outer c.args.f (get_or c.args.starts.now z 0)) (sym e)
    (node_begins g c.args.graph.now.source c.args.graph.now.sink c.args.graph.now.outer c.map.ensures.planar c.args.starts.now c.requires.starts c.args.f c.requires.there)
