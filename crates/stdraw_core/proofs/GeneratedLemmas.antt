-- A generated graph is accepted, so no refusal comes for it.
use Rattle.std.proofs.Common.{◌≡◌, ℕ, ◌<◌, ◌≤◌, List, Some, None, refl, sym, ap, subst, arith, [], length}
use Rattle.std.specs.Prelude.{slice_index, unwrap_or, Result, Ok, Err, IfOk}
use Rattle.std.proofs.lemmas.List.FromFn.{get_or-map-range_with_len}
use Rattle.st_gen.specs.Accepted.{PassesTests, AcceptedLaw}
use Rattle.st_gen.specs.Made.{IsMade}
use Rattle.st_ids.specs.Graph.{Graph}
use Rattle.st_input.specs.InputGraph.{InputGraph}
use Rattle.st_input.specs.Orders.{AreAt, default_order}
use Rattle.st_input.specs.Paths.{paths_by, path_name_fault}
use Rattle.st_input.specs.declared.fault.PathNameFault.TheVariants as unknown
use Rattle.st_map.specs.Embedded.{Embedded, order}
use Rattle.st_map.specs.Orders.{embed}
use Rattle.st_map.specs.declared.orders.MapFault.TheVariants as map_fault
use Rattle.st_report.specs.declared.stop.BadPath.{BadPath}
use Rattle.st_report.specs.declared.stop.Refusal.{Refusal}
use Rattle.st_test.specs.Planar.{IsPlanarSt, StValue}
use Rattle.st_test.specs.Verdict.{IsEmbedFault}
use Rattle.st_test.specs.declared.digraph_fault.Poles.{Poles}
use Rattle.st_report.specs.declared.stop.Stop.{Stop}
use Rattle.st_report.specs.declared.stop.Stop.TheVariants.{Refused, ReadFault, WriteFault, NoMemory}
use Rattle.st_words.specs.declared.words.DrawForm.{DrawForm}
use Rattle.st_words.specs.declared.words.DrawForm.TheVariants.{Visibility, Tessellation, Constrained, Polyline, Dominance}
use Rattle.st_words.specs.declared.words.Recipe.{Recipe}
use Rattle.stdraw_core.specs.Generated.{IsGenerated}
use Rattle.st_input.specs.Plain.{default_orders, plain_graph}
use Rattle.stdraw_core.specs.Paths.{IsBadPath, unknown_edge, first_fault}
use Rattle.st_verdict.specs.Stages.{refuses, goes_on}
use Rattle.st_verdict.specs.Stops.{IsStop, StopsAt, Gives}
use Rattle.st_verdict.specs.Verdict.{TellsDigraph, TellsEmbedding, HasPoles, HasMap, outer_or_first, IsPlanar, IsAccepted}
use Rattle.stdraw_core.specs.Bench.{IsLineOn, AnswersBench}
use Rattle.stdraw_core.specs.Drawing.{AnswersDraw}

module _ (g : InputGraph) (s t : ℕ) (passes : PassesTests g.graph g.orders s t) (free : g.outer ≡ None) where
  no_poles : (r : Refusal) → HasPoles g (Err r) → ⊥
  no_poles r h =
      let (fault, first, tells) = h.holds in
      passes.no_digraph_fault fault (λ q. subst (λ z. TellsDigraph g z h.fault) q tells) first

  no_map : (r : Refusal) → HasMap g (Err r) → ⊥
  no_map r h = passes.no_map_fault (map_fault.BadOrder h.fault) (λ q. cc) h.holds

  -- the outer end is the first at the source, since none is named
  first_end : (m : Embedded) (a : ℕ) → outer_or_first g m a ≡ slice_index (order m a) 0
  first_end m a = ap (λ z. unwrap_or z (slice_index (order m a) 0)) free

  no_plane : (p : Poles) (m : Embedded) (r : Refusal) → p.source.0 ≡ s → p.sink.0 ≡ t → m ≡ embed g.graph g.orders → IsPlanar g p m (Err r) → ⊥
  no_plane p m r qs qt qm h =
      let (fault, is, tells) = h.holds in
      passes.no_embed_fault fault (λ q. subst (λ z. TellsEmbedding z h.fault) q tells)
      (subst (λ z. IsEmbedFault z s t (slice_index (order z s) 0) fault) qm
      (subst (λ z. IsEmbedFault m s z (slice_index (order m s) 0) fault) qt
      (subst (λ z. IsEmbedFault m z p.sink.0 (slice_index (order m z) 0) fault) qs
      (subst (λ z. IsEmbedFault m p.source.0 p.sink.0 z fault) (first_end m p.source.0) is))))

  no_stage : (r : Refusal) (x : Result StValue Refusal) → x ≡ Err r → IsAccepted g x → ⊥
  no_stage r x e (refuses w h q) = no_poles w h
  no_stage r x e (goes_on p h (refuses w k q)) = no_map w k
  no_stage r x e (goes_on p h (goes_on m k l)) = no_plane p m r (passes.only_poles p.source.0 p.sink.0 h).0 (passes.only_poles p.source.0 p.sink.0 h).1 k.0 (subst (IsPlanar g p m) e l)

  -- no test fails
  pub never_refused : (r : Refusal) → IsAccepted g (Err r) → ⊥
  never_refused r h = no_stage r (Err r) refl h

  -- the planar st-graph that it is
  pub accepted_value : StValue
  accepted_value = record {
    map = record { graph = embed g.graph g.orders; spare = 0 };
    source = s;
    sink = t;
    outer = outer_or_first g (embed g.graph g.orders) s;
  }

  pub accepted_is : IsAccepted g (Ok accepted_value)
  unfolding accepted_value
  accepted_is =
      let planar : IsPlanarSt (embed g.graph g.orders) s t (outer_or_first g (embed g.graph g.orders) s) = subst (λ z. IsPlanarSt (embed g.graph g.orders) s t z) (sym (first_end (embed g.graph g.orders) s)) passes.planar in
      goes_on (record { source = record { 0 = s }; sink = record { 0 = t } }) passes.poles (goes_on (embed g.graph g.orders) (refl, passes.lists) (planar, refl))

-- ---- a generated graph passes the tests
plain_orders : (g : Graph) → AreAt g.vertices (plain_graph g).orders (default_order g.ends)
unfolding default_orders
plain_orders g v l = get_or-map-range_with_len (default_order g.ends) 0 g.vertices v v [] l (omega arith)

pub generated_passes : AcceptedLaw → (r : Recipe) (g : InputGraph) → 2 ≤ r.vertices → IsGenerated r g → PassesTests g.graph g.orders 0 1
generated_passes law r g least is =
    let made : IsMade g.graph.vertices r.seed g.graph.ends = subst (λ z. IsMade z r.seed g.graph.ends) (sym is.vertices) is.edges in
    let passes : PassesTests g.graph (plain_graph g.graph).orders 0 1 = law g.graph.vertices r.seed g.graph.ends (plain_graph g.graph).orders (omega (arith, is.vertices)) made (plain_orders g.graph) in
    subst (λ (z : InputGraph). PassesTests g.graph z.orders 0 1) (sym is.plain) passes

pub generated_free : (r : Recipe) (g : InputGraph) → IsGenerated r g → g.outer ≡ None
generated_free r g is = ap (λ (z : InputGraph). z.outer) is.plain

-- ---- what bench gives
-- a stop of a stage that never refuses is for want of memory
stop_given : {A B : Type 0} (first : Result A Refusal → Type 0) (stage : Result B Refusal → Type 0) → ((r : Refusal) → first (Err r) → ⊥) → (stop : Stop) → IsStop first stop → IsStop stage stop
stop_given first stage never (Refused r) h = absurd (never r h)
stop_given first stage never ReadFault h = h
stop_given first stage never WriteFault h = h
stop_given first stage never NoMemory h = h

pub not_accepted : AcceptedLaw → (r : Recipe) (form : DrawForm) (g : InputGraph) → 2 ≤ r.vertices → IsGenerated r g → (stop : Stop) → IsStop (IsAccepted g) stop → IsStop (AnswersBench r form) stop
not_accepted law r form g least is stop h =
    stop_given (IsAccepted g) (AnswersBench r form) (never_refused g 0 1 (generated_passes law r g least is) (generated_free r g is)) stop h

-- without paths no drawing is refused
no_bad_path : (g : InputGraph) (st : StValue) (why : BadPath) → g.paths ≡ [] → IsBadPath g st why → ⊥
no_bad_path g st why e (unknown_edge p name f q) =
    let none : path_name_fault g.edge_names [] ≡ Some (unknown.UnknownEdge p name) = subst (λ ps. path_name_fault g.edge_names ps ≡ Some (unknown.UnknownEdge p name)) e f in
    absurd (cc)
no_bad_path g st why e (first_fault known x are f is tells) =
    let there : is.path < length (paths_by g.edge_names []) = subst (λ ps. is.path < length (paths_by g.edge_names ps)) e is.there in
    absurd (omega (arith, there))

draw_given : (form : DrawForm) (g : InputGraph) (st : StValue) → g.paths ≡ [] → (r : Refusal) → AnswersDraw form g st (Err r) → ⊥
draw_given Visibility g st e r h = h
draw_given Tessellation g st e r h = h
draw_given (Polyline spot) g st e r h = h
draw_given Dominance g st e r h = h
draw_given Constrained g st e r h = no_bad_path g st h.fault e h.holds

pub bench_gives : (r : Recipe) (form : DrawForm) (g : InputGraph) (st : StValue) → IsGenerated r g → IsAccepted g (Ok st) → (result : Result (List ℕ) Stop) → IfOk result (IsLineOn form g st) → StopsAt (AnswersDraw form g st) result
    → Gives (AnswersBench r form) result
bench_gives r form g st is planar (Ok out) line stop = record { g = g; is = is; st = st; planar = planar; line = line }
bench_gives r form g st is planar (Err stop) line h =
    stop_given (AnswersDraw form g st) (AnswersBench r form) (draw_given form g st (ap (λ (z : InputGraph). z.paths) is.plain)) stop h
