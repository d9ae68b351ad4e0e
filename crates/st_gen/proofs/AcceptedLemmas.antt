-- The graph with its default orders is a planar st-graph: the numbers beside its edges are the same along each face, so
-- there are as many faces as numbers, and Euler's bound says that there are no more.
use Rattle.std.proofs.Common.{ℕ, zero, suc, List, [], ◌∷◌, ◌++◌, length, get_or, cond, eqb, Bool, true, false, ◌≡◌, ◌≢◌, ◌<◌, ◌≤◌, ◌+◌, ◌*◌, ◌⊎◌, inl, inr, refl, sym, ap, ◌∙◌, subst, arith}
use Rattle.std.specs.Prelude.{map, slice_index, Ok, Err, None}
use Rattle.std.proofs.lemmas.Bool.{cases_lt, cases_eq, eq-eqb, ne_eqb, cond-true, cond-false, and_from}
use Rattle.std.proofs.lemmas.List.{map-append}
use Rattle.std.proofs.lemmas.List.FromFn.{get_or-map-range_with_len}
use Rattle.st_ids.specs.Ends.{is_out, twin, edge_of}
use Rattle.st_ids.specs.Graph.{Graph, HasEnds, tail_of, head_of, arcs_of}
use Rattle.st_ids.specs.Lists.{In}
use Rattle.st_ids.specs.Walks.{Walk, stay, step, IsAcyclic}
use Rattle.st_ids.proofs.Public.{not_in_nil}
use Rattle.st_map.specs.Counting.{bit, count_below, fibre}
use Rattle.st_map.specs.Embedded.{Embedded, HasOrders, at, order, darts, next, phi, face, faces}
use Rattle.st_map.specs.Orbits.{iterate, Permutes, SameOrbit, least_within}
use Rattle.st_map.specs.Orders.{IsOrderAt, HasNoLoop, order_at, embed, end_at, ends_at}
use Rattle.st_map.specs.Tables.{AreEdges, IsLawful}
use Rattle.st_map.proofs.Public.{is_out-tail, is_out-head, edge_of-tail, edge_of-head, twin-tail, twin-head, twin-twin, twin-below, at-tail, at-head, at_below, iterate-stays, orbit-refl, least-at, root-below, root-root, same-from_root, at_place, lawful_of, next-at, next-last, phi-permutes, cover, cover-exact, total-one, same_counted, has_orders}
use Rattle.st_test.specs.Planar.{IsPlanarSt, outer_of}
use Rattle.st_test.specs.Poles.{ArePoles, graph_of}
use Rattle.st_test.specs.PolesAnswer.{OnePolesAnswer, IsFirstDigraphFault}
use Rattle.st_test.specs.Verdict.{IsEmbedFault}
use Rattle.st_test.specs.declared.digraph_fault.Poles.{Poles}
use Rattle.st_test.specs.declared.digraph_fault.DigraphFault.{DigraphFault}
use Rattle.st_test.specs.declared.digraph_fault.DigraphFault.TheVariants as digraph
use Rattle.st_test.specs.declared.verdict.EmbedFault.{EmbedFault}
use Rattle.st_test.specs.declared.verdict.EmbedFault.TheVariants as embedding
use Rattle.st_map.specs.Fault.{IsMapFault}
use Rattle.st_map.specs.declared.orders.MapFault.{MapFault}
use Rattle.st_map.specs.declared.orders.MapFault.TheVariants as map_fault
use Rattle.st_sides.specs.Laws.{IsOrderedSt}
use Rattle.st_sides.proofs.Public.{euler_bound_law}
use Rattle.st_input.specs.Orders.{file_outs, file_ins, AreAt, default_order}
use Rattle.st_gen.specs.Accepted.{PassesTests, AcceptedLaw}
use Rattle.st_gen.proofs.DefaultOrders.{outs_only, ins_only, outs_all, ins_all, default_is_order}
use Rattle.st_gen.proofs.FanLemmas.{Fan, Fan-append, Fan-map, Fan-at_first, Fan-at_next, Fan-at_last}
use Rattle.st_gen.proofs.BesideLemmas.{IsBeside}
use Rattle.st_gen.proofs.GrowthLemmas.{IsGrown, made_grown}

-- ---- the digraph
module _ (n : ℕ) (es : List (ℕ × ℕ)) (G : IsGrown n es) where
  climbs : (u v e : ℕ) (ds : List ℕ) → Walk (arcs_of (graph_of n es)) u (e ∷ ds) v → G.rising.rank u < G.rising.rank v
  climbs u v e [] (step l q (stay p)) = omega (arith, G.rising.rises e l, ap G.rising.rank q, ap G.rising.rank p)
  climbs u v e (d ∷ ds) (step l q r) = omega (arith, G.rising.rises e l, ap G.rising.rank q, climbs (head_of es e) v d ds r)

  no_cycle : IsAcyclic (arcs_of (graph_of n es))
  no_cycle u e ds k = omega (arith, climbs u u e ds k)

  ends_in : HasEnds (graph_of n es)
  ends_in e l = (tail_in, head_in)
    where
      tail_in : tail_of es e < n
      tail_in = elim (cases_lt (tail_of es e) n) [
        | inl a ↦ a
        | inr h ↦ absurd (not_in_nil (subst (In e) (G.is_row.none_out (tail_of es e) h) (outs_all es (tail_of es e) e l refl)))
      ]

      head_in : head_of es e < n
      head_in = elim (cases_lt (head_of es e) n) [
        | inl a ↦ a
        | inr h ↦ absurd (not_in_nil (subst (In e) (G.is_row.none_in (head_of es e) h) (ins_all es (head_of es e) e l refl)))
      ]

  no_source : (v : ℕ) → v < n → ((e : ℕ) → e < length es → head_of es e ≢ v) → v ≡ 0
  no_source v l none = elim (cases_eq v 0) [
    | inl q ↦ q
    | inr m ↦ let h = G.rising.some_in v l m in let r = ins_only es v h.0 h.1 in absurd (none h.0 r.0 r.1)
  ]

  no_sink : (v : ℕ) → v < n → ((e : ℕ) → e < length es → tail_of es e ≢ v) → v ≡ 1
  no_sink v l none = elim (cases_eq v 1) [
    | inl q ↦ q
    | inr m ↦ let h = G.rising.some_out v l m in let r = outs_only es v h.0 h.1 in absurd (none h.0 r.0 r.1)
  ]

  poles_are : 2 ≤ n → ArePoles (graph_of n es) 0 1
  poles_are two = record {
    two = two;
    no_cycle = no_cycle;
    source = record {
      there = omega arith;
      none_in = λ e l q. not_in_nil (subst (In e) G.rising.source (ins_all es 0 e l q));
      only = no_source;
    };
    sink = record {
      there = omega arith;
      none_out = λ e l q. not_in_nil (subst (In e) G.rising.sink (outs_all es 1 e l q));
      only = no_sink;
    };
  }

-- ---- the embedding
module _ (n : ℕ) (es : List (ℕ × ℕ)) (orders : List (List ℕ)) (two : 2 ≤ n) (G : IsGrown n es) (given : AreAt n orders (default_order es)) where
  abbrev g : Embedded
  g = embed (graph_of n es) orders

  loopless : HasNoLoop (graph_of n es)
  loopless e l q = no_cycle n es G (tail_of es e) e [] (step l refl (stay (sym q)))

  within : HasEnds (graph_of n es)
  within = ends_in n es G

  lists : (v : ℕ) → v < n → IsOrderAt es v (order_at orders v)
  lists v l = subst (IsOrderAt es v) (sym (given v l)) (default_is_order es v loopless)

  listed : (v : ℕ) → v < n → AreEdges es (order_at orders v)
  listed v l k lk = ((lists v l).only (get_or (order_at orders v) k 0) (at_place (order_at orders v) k lk)).0

  lawful : (v : ℕ) → v < n → IsLawful es v (order_at orders v)
  lawful v l = lawful_of es v (order_at orders v) (lists v l)

  rotation : HasOrders (embed (graph_of n es) orders)
  rotation = has_orders (graph_of n es) orders within loopless listed lawful

  vertex_below : (d : ℕ) → d < darts g → at g d < n
  vertex_below = at_below g within

  permutes : Permutes (darts (embed (graph_of n es) orders)) (phi (embed (graph_of n es) orders))
  permutes = phi-permutes g rotation vertex_below

  st : IsOrderedSt (embed (graph_of n es) orders) 0 1
  st = let P = poles_are n es G two in record { ends_in = within; no_cycle = P.no_cycle; source = P.source; sink = P.sink; orders = rotation }

  bound : n + faces g ≤ length es + 2
  bound = euler_bound_law g 0 1 st

  -- ---- numbers of ends: what lies left of an edge is beside its end at the tail
  B : IsBeside es G.row n G.ears
  B = G.beside

  number : ℕ → ℕ
  number d = cond (is_out d) (G.beside.left (edge_of d)) (G.beside.right (edge_of d))

  number-tail : (e : ℕ) → number (2 * e) ≡ G.beside.left e
  unfolding number
  number-tail e = cond-true (is_out (2 * e)) (G.beside.left (edge_of (2 * e))) (G.beside.right (edge_of (2 * e))) (is_out-tail e) ∙ ap G.beside.left (edge_of-tail e)

  number-head : (e : ℕ) → number (2 * e + 1) ≡ G.beside.right e
  unfolding number
  number-head e = cond-false (is_out (2 * e + 1)) (G.beside.left (edge_of (2 * e + 1))) (G.beside.right (edge_of (2 * e + 1))) (is_out-head e) ∙ ap G.beside.right (edge_of-head e)

  number_small : (d : ℕ) → number d < suc G.ears
  unfolding number
  number_small d = elim (is_out d) as (λ z. cond z (G.beside.left (edge_of d)) (G.beside.right (edge_of d)) < suc G.ears) [
    | true ↦ omega (arith, G.beside.few_left (edge_of d))
    | false ↦ omega (arith, G.beside.few_right (edge_of d))
  ]

  out_end : (v e : ℕ) → In e (file_outs v 0 es) → (number (end_at es v e) ≡ G.beside.left e) × (number (twin (end_at es v e)) ≡ G.beside.right e)
  out_end v e i =
      let q : end_at es v e ≡ 2 * e = cond-true (eqb (tail_of es e) v) (2 * e) (2 * e + 1) (eq-eqb (tail_of es e) v (outs_only es v e i).1) in
      (ap number q ∙ number-tail e, ap (λ z. number (twin z)) q ∙ ap number (twin-tail e) ∙ number-head e)

  in_end : (v e : ℕ) → In e (file_ins v 0 es) → (number (end_at es v e) ≡ G.beside.right e) × (number (twin (end_at es v e)) ≡ G.beside.left e)
  in_end v e i =
      let h : (e < length es) × (head_of es e ≡ v) = ins_only es v e i in
      let q : end_at es v e ≡ 2 * e + 1 = cond-false (eqb (tail_of es e) v) (2 * e) (2 * e + 1) (ne_eqb (tail_of es e) v (λ t. loopless e h.0 (t ∙ sym h.1))) in
      (ap number q ∙ number-head e, ap (λ z. number (twin z)) q ∙ ap number (twin-head e) ∙ number-tail e)

  order_is : (v : ℕ) → v < n → order g v ≡ map (end_at es v) (file_outs v 0 es) ++ map (end_at es v) (file_ins v 0 es)
  order_is v l = get_or-map-range_with_len (ends_at es orders) 0 n v v [] l (omega arith)
      ∙ ap (map (end_at es v)) (given v l) ∙ map-append (end_at es v) (file_outs v 0 es) (file_ins v 0 es)

  -- round a vertex, what is beside an end is beside the twin of the end before it
  round : (v : ℕ) → v < n → Fan number (λ d. number (twin d)) (order g v) (G.beside.left_at v) (G.beside.left_at v)
  round v l = subst (λ z. Fan number (λ d. number (twin d)) z (G.beside.left_at v) (G.beside.left_at v)) (sym (order_is v l))
      (Fan-append number (λ d. number (twin d)) (map (end_at es v) (file_outs v 0 es)) (map (end_at es v) (file_ins v 0 es)) (G.beside.left_at v) (G.beside.right_at v) (G.beside.left_at v)
      (Fan-map G.beside.left G.beside.right number (λ d. number (twin d)) (end_at es v) (file_outs v 0 es) (G.beside.left_at v) (G.beside.right_at v) (out_end v) (G.beside.outs_fan v l))
      (Fan-map G.beside.right G.beside.left number (λ d. number (twin d)) (end_at es v) (file_ins v 0 es) (G.beside.right_at v) (G.beside.left_at v) (in_end v) (G.beside.ins_fan v l)))

  number_next : (d : ℕ) → d < darts g → number (next g d) ≡ number (twin d)
  number_next d l =
      let v : ℕ = at g d in
      let lv : at g d < n = vertex_below d l in
      let r : (i : ℕ) × (i < length (order g (at g d))) × (get_or (order g (at g d)) i 0 ≡ d) = rotation.listed d l in
      let F : Fan number (λ d. number (twin d)) (order g (at g d)) (G.beside.left_at (at g d)) (G.beside.left_at (at g d)) = round (at g d) lv in
      let back : number (twin (get_or (order g (at g d)) r.0 0)) ≡ number (twin d) = ap (λ z. number (twin z)) r.2 in
      elim (cases_lt (suc r.0) (length (order g (at g d)))) [
        | inl a ↦
            ap (λ z. number (next g z)) (sym r.2)
            ∙ ap number (next-at g rotation vertex_below (at g d) r.0 lv a)
            ∙ Fan-at_next number (λ d. number (twin d)) (order g (at g d)) (G.beside.left_at (at g d)) (G.beside.left_at (at g d)) r.0 a F
            ∙ back
        | inr b ↦
            ap (λ z. number (next g z)) (sym r.2)
            ∙ ap number (next-last g rotation vertex_below (at g d) r.0 lv (omega (arith, r.1)))
            ∙ Fan-at_first number (λ d. number (twin d)) (order g (at g d)) (G.beside.left_at (at g d)) (G.beside.left_at (at g d)) (omega (arith, r.1)) F
            ∙ sym (Fan-at_last number (λ d. number (twin d)) (order g (at g d)) (G.beside.left_at (at g d)) (G.beside.left_at (at g d)) r.0 (omega (arith, r.1)) F)
            ∙ back
      ]

  number_phi : (d : ℕ) → d < darts g → number (phi g d) ≡ number d
  unfolding phi
  number_phi d l = number_next (twin d) (twin-below (length es) d l) ∙ ap number (twin-twin d)

  number_steps : (k d : ℕ) → d < darts g → number (iterate k (phi g) d) ≡ number d
  number_steps zero d l = refl
  number_steps (suc k) d l = number_phi (iterate k (phi g) d) (iterate-stays (darts g) (phi g) permutes k d l) ∙ number_steps k d l

  -- ---- faces
  root : ℕ → ℕ
  root d = least_within (darts g) (phi g) d

  is_root : ℕ → Bool
  is_root d = eqb (least_within (darts g) (phi g) d) d

  number_root : (d : ℕ) → d < darts g → number (root d) ≡ number d
  unfolding root
  number_root d l = let r = least-at (darts g) (phi g) permutes (darts g) d in ap number (sym r.1) ∙ number_steps r.0 d l

  root_below : (d : ℕ) → d < darts g → root d < darts g
  unfolding root
  root_below d l = root-below (darts g) (phi g) permutes d l

  root_is_root : (d : ℕ) → d < darts g → is_root (root d) ≡ true
  unfolding root is_root
  root_is_root d l = eq-eqb (least_within (darts g) (phi g) (least_within (darts g) (phi g) d)) (least_within (darts g) (phi g) d) (root-root (darts g) (phi g) permutes d l)

  each_number : (y : ℕ) → y < suc G.ears → true ≡ true → (x : ℕ) × (x < darts g) × (is_root x ≡ true) × (number x ≡ y)
  each_number y l t =
      let r = G.beside.each y (omega arith) in
      let ld : 2 * r.0 < darts g = omega (arith, r.1) in
      (root (2 * r.0), root_below (2 * r.0) ld, root_is_root (2 * r.0) ld, number_root (2 * r.0) ld ∙ number-tail r.0 ∙ r.2)

  faces_are : faces g ≡ count_below (darts g) is_root
  unfolding faces face is_root
  faces_are = refl

  all_numbers : count_below (suc G.ears) (λ y. true) ≡ suc G.ears
  all_numbers = total-one (suc G.ears)

  enough : suc G.ears ≤ faces g
  enough =
      let a : count_below (suc G.ears) (λ y. true) ≤ count_below (darts g) is_root =
      cover (suc G.ears) (darts g) is_root number (λ y. true) (λ d l. number_small d) each_number in
      omega (arith, faces_are, all_numbers)

  euler : n + faces g ≡ length es + 2
  euler = omega (arith, bound, enough, G.counted)

  one_face : (c d : ℕ) → c < darts g → d < darts g → number c ≡ number d → SameOrbit (phi g) c d
  unfolding root
  one_face c d lc ld q =
      let few : count_below (darts g) is_root ≤ count_below (suc G.ears) (λ y. true) = omega (arith, faces_are, all_numbers, euler, G.counted) in
      let one : bit true ≡ count_below (darts g) (fibre is_root number (number d)) =
      cover-exact (suc G.ears) (darts g) is_root number (λ y. true) (λ d l. number_small d) each_number few (number d) (number_small d) in
      let least : count_below (darts g) (fibre is_root number (number d)) ≤ 1 = omega arith in
      let pc : fibre is_root number (number d) (root c) ≡ true =
      and_from (is_root (root c)) (eqb (number (root c)) (number d)) (root_is_root c lc) (eq-eqb (number (root c)) (number d) (number_root c lc ∙ q)) in
      let pd : fibre is_root number (number d) (root d) ≡ true =
      and_from (is_root (root d)) (eqb (number (root d)) (number d)) (root_is_root d ld) (eq-eqb (number (root d)) (number d) (number_root d ld)) in
      same-from_root (darts g) (phi g) permutes c d lc ld
      (same_counted (darts g) (fibre is_root number (number d)) least (root c) (root d) (root_below c lc) (root_below d ld) pc pd)

  -- ---- the outer face
  end_listed : (v d : ℕ) → d < darts g → at g d ≡ v → 0 < length (order g v)
  end_listed v d l q =
      let r : (i : ℕ) × (i < length (order g (at g d))) × (get_or (order g (at g d)) i 0 ≡ d) = rotation.listed d l in
      let s : length (order g (at g d)) ≡ length (order g v) = ap (λ z. length (order g z)) q in
      omega (arith, r.1)

  some_end : (v e : ℕ) → e < length es → (tail_of es e ≡ v) ⊎ (head_of es e ≡ v) → 0 < length (order g v)
  some_end v e l (inl q) = end_listed v (2 * e) (omega arith) (at-tail g e ∙ q)
  some_end v e l (inr q) = end_listed v (2 * e + 1) (omega arith) (at-head g e ∙ q)

  -- the first end at a vertex with an edge lies beside what is left of the vertex
  first_end : (v e : ℕ) → v < n → e < length es → (tail_of es e ≡ v) ⊎ (head_of es e ≡ v)
      → (get_or (order g v) 0 0 < darts g) × (at g (get_or (order g v) 0 0) ≡ v) × (number (get_or (order g v) 0 0) ≡ G.beside.left_at v)
  first_end v e lv l a =
      let o : (get_or (order g v) 0 0 < darts g) × (at g (get_or (order g v) 0 0) ≡ v) = rotation.own v 0 lv (some_end v e l a) in
      (o.0, o.1, Fan-at_first number (λ d. number (twin d)) (order g v) (G.beside.left_at v) (G.beside.left_at v) (some_end v e l a) (round v lv))

  source_end : (get_or (order g 0) 0 0 < darts g) × (at g (get_or (order g 0) 0 0) ≡ 0) × (number (get_or (order g 0) 0 0) ≡ 0)
  source_end =
      let h = G.rising.some_out 0 (omega arith) (λ q. omega arith) in
      let e = outs_only es 0 h.0 h.1 in
      let r = first_end 0 h.0 (omega arith) e.0 (inl e.1) in
      (r.0, r.1, r.2 ∙ G.beside.source)

  sink_end : (get_or (order g 1) 0 0 < darts g) × (at g (get_or (order g 1) 0 0) ≡ 1) × (number (get_or (order g 1) 0 0) ≡ 0)
  sink_end =
      let h = G.rising.some_in 1 (omega arith) (λ q. omega arith) in
      let e = ins_only es 1 h.0 h.1 in
      let r = first_end 1 h.0 (omega arith) e.0 (inr e.1) in
      (r.0, r.1, r.2 ∙ G.beside.sink)

  planar_st : IsPlanarSt (embed (graph_of n es) orders) 0 1 (slice_index (order (embed (graph_of n es) orders) 0) 0)
  planar_st =
      let P = poles_are n es G two in
      record {
        ends_in = within;
        two = two;
        no_cycle = P.no_cycle;
        source = P.source;
        sink = P.sink;
        orders = rotation;
        euler = euler;
        outer_in = source_end.0;
        outer_s = (get_or (order g 0) 0 0, orbit-refl (phi g) (get_or (order g 0) 0 0), source_end.1);
        outer_t = (
          get_or (order g 1) 0 0,
          one_face (get_or (order g 0) 0 0) (get_or (order g 1) 0 0) source_end.0 sink_end.0 (source_end.2 ∙ sym sink_end.2),
          sink_end.1,
        );
      }

-- ---- no fault
module _ (one_answer : OnePolesAnswer) (g : Graph) (orders : List (List ℕ)) (s t : ℕ) (poles : ArePoles g s t) where
  only_poles : (a b : ℕ) → ArePoles g a b → (a ≡ s) × (b ≡ t)
  only_poles a b A = (poles.source.only a A.source.there A.source.none_in, poles.sink.only b A.sink.there A.sink.none_out)

  no_digraph_fault : (f : DigraphFault) → f ≢ digraph.NoMemory → IsFirstDigraphFault g f → ⊥
  no_digraph_fault f n h =
      let p : Poles = record { source = record { 0 = s }; sink = record { 0 = t } } in
      let q : Ok p ≡ Err f = one_answer g (Ok p) (Err f) poles h (λ e. cc) (λ e. n cc) in
      cc

  no_map_fault : ((v : ℕ) → v < g.vertices → IsOrderAt g.ends v (order_at orders v)) → (f : MapFault) → f ≢ map_fault.NoMemory → IsMapFault g orders f → ⊥
  no_map_fault lists (map_fault.BadOrder v) n h = h.1 (lists v.0 h.0)
  no_map_fault lists map_fault.NoMemory n h = n refl

  no_embed_fault : IsPlanarSt (embed g orders) s t (outer_of (embed g orders) s None) → (f : EmbedFault) → f ≢ embedding.NoMemory
      → IsEmbedFault (embed g orders) s t (outer_of (embed g orders) s None) f → ⊥
  no_embed_fault planar (embedding.BadFaces v e f) n h = h.3 planar.euler
  no_embed_fault planar (embedding.Outer a b) n h = elim h.3 [
    | inl x ↦ h.1.0 x planar.outer_s
    | inr x ↦ h.2.0 x planar.outer_t
  ]
  no_embed_fault planar embedding.NoMemory n h = n refl

  passes : ((v : ℕ) → v < g.vertices → IsOrderAt g.ends v (order_at orders v)) → IsPlanarSt (embed g orders) s t (outer_of (embed g orders) s None) → PassesTests g orders s t
  passes lists planar = record {
    poles = poles;
    lists = lists;
    planar = planar;
    only_poles = only_poles;
    no_digraph_fault = no_digraph_fault;
    no_map_fault = no_map_fault lists;
    no_embed_fault = no_embed_fault planar;
  }

pub accepted : OnePolesAnswer → AcceptedLaw
accepted one_answer n seed es orders two made given =
    let G : IsGrown n es = made_grown n seed es two made in
    passes one_answer (graph_of n es) orders 0 1 (poles_are n es G two) (lists n es orders two G given) (planar_st n es orders two G given)
