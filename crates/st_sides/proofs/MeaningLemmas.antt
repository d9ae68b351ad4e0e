-- The sides of a planar st-graph have all that holds near each vertex and each face.
use Rattle.std.proofs.Common.{◌≡◌, ◌≢◌, ℕ, suc, ◌+◌, ◌-◌, ◌<◌, List, [], ◌∷◌, length, get_or, refl, sym, ap, ◌∙◌, subst, arith}
use Rattle.st_ids.specs.Graph.{tail_of as tail_in, head_of as head_in}
use Rattle.st_map.specs.Embedded.{Embedded}
use Rattle.st_sides.specs.GraphWalks.{IsWalk}
use Rattle.st_map.specs.Embedded.{edges as edges_of, tail as tail_of, head as head_of}
use Rattle.st_test.specs.Planar.{IsPlanarSt}
use Rattle.st_sides.specs.Conditions.{left_face, right_face}
use Rattle.st_sides.specs.LocalSides.{first, last, Between, AtVertices, AtFaces}
use Rattle.st_sides.proofs.NodeLemmas.{faces-positive, left_face-below, right_face-range}
use Rattle.st_sides.proofs.LocalLemmas.{at_vertices}
use Rattle.st_sides.proofs.FaceEdgeLemmas.{at_faces}
use Rattle.st_ids.specs.Lists.{Linked, Lists}
use Rattle.st_ids.specs.Walks.{Walk, stay, step}
use Rattle.st_sides.specs.Sides.{SidesValue, IsSides, MeetsLow, MeetsHigh, edge_count, edge_tail, edge_head, face_left, face_right, outs, ins, low, high, left_path, right_path, left_of, right_of, primal}
use Rattle.st_sides.specs.SidesOf.{IsSidesOf, MeaningLaw}
use Rattle.st_sides.proofs.PlaceLists.{in_at, lists_from, linked_from, first_from, last_from}

module _ (g : Embedded) (s t outer : ℕ) (x : SidesValue) (st : IsPlanarSt g s t outer) (of : IsSidesOf g s t outer x) where
  edges_same : edge_count x ≡ edges_of g
  unfolding edge_count
  edges_same = ap length of.ends

  tail_same : (e : ℕ) → edge_tail x e ≡ tail_of g e
  unfolding edge_tail
  tail_same e = ap (λ (es : List (ℕ × ℕ)). tail_in es e) of.ends

  head_same : (e : ℕ) → edge_head x e ≡ head_of g e
  unfolding edge_head
  head_same e = ap (λ (es : List (ℕ × ℕ)). head_in es e) of.ends

  below : (e : ℕ) → e < edge_count x → e < edges_of g
  below e l = omega (arith, edges_same)

  there : (e : ℕ) → e < edges_of g → e < edge_count x
  there e l = omega (arith, edges_same)

  vertex : (v : ℕ) → v < x.vertices → v < g.vertices
  vertex v l = omega (arith, of.vertices)

  walk_to : (u v : ℕ) (es : List ℕ) → IsWalk g u es v → Walk (primal x) u es v
  walk_to u v [] (stay q) = stay q
  walk_to u v (e ∷ es) (step i f w) = step (there e i) (tail_same e ∙ f)
      (subst (λ z. Walk (primal x) z es v) (sym (head_same e)) (walk_to (head_of g e) v es w))

  walk_from : {u v : ℕ} {es : List ℕ} → Walk (primal x) u es v → IsWalk g u es v
  walk_from (stay e) = stay e
  walk_from (step {u} {v} {e} {es} l f w) = step (below e l) (sym (tail_same e) ∙ f) (subst (λ z. IsWalk g z es v) (head_same e) (walk_from w))

  v_at : AtVertices g s t outer (outs x) (ins x) (low x) (high x)
  v_at = at_vertices g s t outer st (outs x) (ins x) (low x) (high x) (left_path x) (right_path x) of.are

  f_at : AtFaces g outer (outs x) (ins x) (low x) (high x) (left_path x) (right_path x)
  f_at = at_faces g s t outer st (outs x) (ins x) (low x) (high x) (left_path x) (right_path x) of.are

  left_is : (e : ℕ) → e < edge_count x → face_left x e ≡ left_face g outer e
  left_is e l = of.left_of_edge e (below e l)

  right_is : (e : ℕ) → e < edge_count x → face_right x e ≡ right_face g outer e
  right_is e l = of.right_of_edge e (below e l)

  out_lists : (v : ℕ) → v < x.vertices → Lists (outs x v) (λ e. (e < edge_count x) × (edge_tail x e ≡ v))
  out_lists v l = lists_from (edges_of g) (λ e. tail_of g e ≡ v) (λ e. (e < edge_count x) × (edge_tail x e ≡ v)) (outs x v)
      (λ e le h. (there e le, tail_same e ∙ h)) (λ e h. (below e h.0, sym (tail_same e) ∙ h.1)) (of.are.outs_are v (vertex v l)).has

  in_lists : (v : ℕ) → v < x.vertices → Lists (ins x v) (λ e. (e < edge_count x) × (edge_head x e ≡ v))
  in_lists v l = lists_from (edges_of g) (λ e. head_of g e ≡ v) (λ e. (e < edge_count x) × (edge_head x e ≡ v)) (ins x v)
      (λ e le h. (there e le, head_same e ∙ h)) (λ e h. (below e h.0, sym (head_same e) ∙ h.1)) (of.are.ins_are v (vertex v l)).has

  out_in : (v i : ℕ) → v < x.vertices → i < length (outs x v) → get_or (outs x v) i 0 < edge_count x
  out_in v i l li = there (get_or (outs x v) i 0) ((of.are.outs_are v (vertex v l)).has.only i li).0

  in_in : (v i : ℕ) → v < x.vertices → i < length (ins x v) → get_or (ins x v) i 0 < edge_count x
  in_in v i l li = there (get_or (ins x v) i 0) ((of.are.ins_are v (vertex v l)).has.only i li).0

  outs_meet : (v : ℕ) → v < x.vertices → Linked (MeetsLow x v) (outs x v)
  outs_meet v l = linked_from (MeetsLow x v) (outs x v) (λ i li.
      let e : ℕ = get_or (outs x v) i 0 in
      let b : ℕ = get_or (outs x v) (suc i) 0 in
      let si : get_or (outs x v) (i + 1) 0 ≡ b = ap (λ k. get_or (outs x v) k 0) (let z : i + 1 ≡ suc i = omega arith in z) in
      let m : Between g outer e (get_or (outs x v) (i + 1) 0) × (low x (right_face g outer e) ≡ v) = v_at.outs_next v i (vertex v l) (omega arith) in
      let r : face_right x e ≡ right_face g outer e = right_is e (out_in v i l (omega arith)) in
      record {
        same = r ∙ m.0.one ∙ ap (left_face g outer) si ∙ sym (left_is b (out_in v (suc i) l li));
        inner = record { not_s = omega (arith, r, m.0.positive); not_t = omega (arith, r, m.0.below, of.nodes) };
        at = ap (low x) r ∙ m.1;
      })

  ins_meet : (v : ℕ) → v < x.vertices → Linked (MeetsHigh x v) (ins x v)
  ins_meet v l = linked_from (MeetsHigh x v) (ins x v) (λ i li.
      let e : ℕ = get_or (ins x v) i 0 in
      let b : ℕ = get_or (ins x v) (suc i) 0 in
      let si : get_or (ins x v) (i + 1) 0 ≡ b = ap (λ k. get_or (ins x v) k 0) (let z : i + 1 ≡ suc i = omega arith in z) in
      let m : Between g outer e (get_or (ins x v) (i + 1) 0) × (high x (right_face g outer e) ≡ v) = v_at.ins_next v i (vertex v l) (omega arith) in
      let r : face_right x e ≡ right_face g outer e = right_is e (in_in v i l (omega arith)) in
      record {
        same = r ∙ m.0.one ∙ ap (left_face g outer) si ∙ sym (left_is b (in_in v (suc i) l li));
        inner = record { not_s = omega (arith, r, m.0.positive); not_t = omega (arith, r, m.0.below, of.nodes) };
        at = ap (high x) r ∙ m.1;
      })

  no_s : (v : ℕ) → v ≢ x.source → v ≢ s
  no_s v n e = n (e ∙ sym of.source)

  no_t : (v : ℕ) → v ≢ x.sink → v ≢ t
  no_t v n e = n (e ∙ sym of.sink)

  pub meaning : IsSides x
  meaning = record {
    two_vertices = omega (arith, st.two, of.vertices);
    tail_in = λ e l. omega (arith, (st.ends_in e (below e l)).0, tail_same e, of.vertices);
    head_in = λ e l. omega (arith, (st.ends_in e (below e l)).1, head_same e, of.vertices);
    acyclic = λ u e es w. st.no_cycle u e es (walk_from w);
    source_in = omega (arith, st.source.there, of.vertices, of.source);
    source_first = λ e l h. st.source.none_in e (below e l) (sym (head_same e) ∙ h ∙ of.source);
    sink_last = λ e l h. st.sink.none_out e (below e l) (sym (tail_same e) ∙ h ∙ of.sink);
    has_in = λ v l n.
        let p : 0 < length (ins x v) = v_at.some_in v (vertex v l) (no_s v n) in
        let h : (get_or (ins x v) 0 0 < edges_of g) × (head_of g (get_or (ins x v) 0 0) ≡ v) = (of.are.ins_are v (vertex v l)).has.only 0 p in
        (get_or (ins x v) 0 0, there (get_or (ins x v) 0 0) h.0, head_same (get_or (ins x v) 0 0) ∙ h.1);
    has_out = λ v l n.
        let p : 0 < length (outs x v) = v_at.some_out v (vertex v l) (no_t v n) in
        let h : (get_or (outs x v) 0 0 < edges_of g) × (tail_of g (get_or (outs x v) 0 0) ≡ v) = (of.are.outs_are v (vertex v l)).has.only 0 p in
        (get_or (outs x v) 0 0, there (get_or (outs x v) 0 0) h.0, tail_same (get_or (outs x v) 0 0) ∙ h.1);
    outs_are = out_lists;
    ins_are = in_lists;
    outs_meet = outs_meet;
    ins_meet = ins_meet;
    left_out = λ v l ns nt.
        let p : 0 < length (outs x v) = v_at.some_out v (vertex v l) (no_t v nt) in
        first_from (λ e. left_of x v ≡ face_left x e) (outs x v) p
        (of.left_of_inner v (vertex v l) (no_s v ns) (no_t v nt) ∙ sym (left_is (first (outs x v)) (out_in v 0 l p)));
    left_in = λ v l ns nt.
        let p : 0 < length (ins x v) = v_at.some_in v (vertex v l) (no_s v ns) in
        first_from (λ e. left_of x v ≡ face_left x e) (ins x v) p
        (of.left_of_inner v (vertex v l) (no_s v ns) (no_t v nt) ∙ v_at.left_one v (vertex v l) (no_s v ns) (no_t v nt) ∙ sym (left_is (first (ins x v)) (in_in v 0 l p)));
    right_out = λ v l ns nt.
        let p : 0 < length (outs x v) = v_at.some_out v (vertex v l) (no_t v nt) in
        last_from (λ e. right_of x v ≡ face_right x e) (outs x v) p
        (of.right_of_inner v (vertex v l) (no_s v ns) (no_t v nt) ∙ sym (right_is (last (outs x v)) (out_in v (length (outs x v) - 1) l (omega arith))));
    right_in = λ v l ns nt.
        let p : 0 < length (ins x v) = v_at.some_in v (vertex v l) (no_s v ns) in
        last_from (λ e. right_of x v ≡ face_right x e) (ins x v) p
        (of.right_of_inner v (vertex v l) (no_s v ns) (no_t v nt) ∙ v_at.right_one v (vertex v l) (no_s v ns) (no_t v nt)
        ∙ sym (right_is (last (ins x v)) (in_in v (length (ins x v) - 1) l (omega arith))));
    left_source = ap (left_of x) of.source ∙ of.left_of_s;
    left_sink = ap (left_of x) of.sink ∙ of.left_of_t;
    right_source = ap (right_of x) of.source ∙ of.right_of_s ∙ sym of.nodes;
    right_sink = ap (right_of x) of.sink ∙ of.right_of_t ∙ sym of.nodes;
    has_t = omega (arith, faces-positive g s t outer st, of.nodes);
    left_before = λ e l. omega (arith, left_is e l, left_face-below g s t outer st e (below e l), of.nodes);
    right_after = λ e l. omega (arith, right_is e l, right_face-range g s t outer st e (below e l));
    right_within = λ e l. omega (arith, right_is e l, right_face-range g s t outer st e (below e l), of.nodes);
    low_s = of.are.low_first ∙ sym of.source;
    high_s = of.are.high_first ∙ sym of.sink;
    low_t = ap (low x) of.nodes ∙ of.are.low_last ∙ sym of.source;
    high_t = ap (high x) of.nodes ∙ of.are.high_last ∙ sym of.sink;
    left_path_walk = λ f p l. walk_to (low x f) (high x f) (left_path x f) (of.are.left_is f p (omega (arith, of.nodes))).walk;
    left_path_are = λ f p l. lists_from (edges_of g) (λ e. right_face g outer e ≡ f) (λ e. (e < edge_count x) × (face_right x e ≡ f)) (left_path x f)
        (λ e le h. (there e le, of.right_of_edge e le ∙ h)) (λ e h. (below e h.0, sym (right_is e h.0) ∙ h.1)) (of.are.left_is f p (omega (arith, of.nodes))).has;
    right_path_walk = λ f l. walk_to (low x f) (high x f) (right_path x f) (of.are.right_is f (omega (arith, of.nodes))).walk;
    right_path_are = λ f l. lists_from (edges_of g) (λ e. left_face g outer e ≡ f) (λ e. (e < edge_count x) × (face_left x e ≡ f)) (right_path x f)
        (λ e le h. (there e le, of.left_of_edge e le ∙ h)) (λ e h. (below e h.0, sym (left_is e h.0) ∙ h.1)) (of.are.right_is f (omega (arith, of.nodes))).has;
    left_path_some = λ f i.
        let p : 0 < length (left_path x f) = f_at.some_left f i.not_s (omega (arith, i.not_t, of.nodes)) in
        (get_or (left_path x f) 0 0, in_at (get_or (left_path x f) 0 0) (left_path x f) 0 p refl);
  }

pub meaning_law : MeaningLaw
meaning_law = meaning
