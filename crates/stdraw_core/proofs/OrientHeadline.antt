-- An orientation is written exactly where the file's graph has one, and it is read again as a planar st-graph.
use Rattle.std.proofs.Common.{◌≡◌, ◌≢◌, ℕ, ◌≤◌, ℤ, Bool, List, length, Some, refl, sym, subst, arith}
use Rattle.std.specs.Prelude.{Result, Ok, Err, IfSome}
use Rattle.std.specs.declared.option.Option.{Option}
use Rattle.gml_core.specs.Reading.{IsText}
use Rattle.gml_core.proofs.Public.{reads_again}
use Rattle.st_bipolar.specs.Kept.{KeepsLists, OrientationKeepsLists}
use Rattle.st_bipolar.specs.Orientation.{IsOrientation, IsPlane, turned_end}
use Rattle.st_ids.specs.declared.ids.VertexId.{VertexId}
use Rattle.st_ids.specs.declared.limits.TheConstants.{MOST_EDGES, MOST_VERTICES}
use Rattle.st_input.specs.InputGraph.{InputGraph, IsConsistent}
use Rattle.st_input.specs.Laws.{KeepsLimits}
use Rattle.st_writer.specs.Laws.{WrittenReadsBack}
use Rattle.st_input.specs.WithEnds.{with_ends}
use Rattle.st_writer.specs.Written.{written_entries}
use Rattle.st_input.proofs.Public.{ends_fit}
use Rattle.st_map.specs.Embedded.{Embedded, IsRotation, bare, edges}
use Rattle.st_map.specs.Orders.{embed}
use Rattle.st_port.specs.Streams.{SourceState, SinkState, Gains}
use Rattle.st_report.specs.declared.stop.Refusal.{Refusal}
use Rattle.st_report.specs.declared.stop.Status.{Status}
use Rattle.st_report.specs.declared.stop.Status.TheVariants as status
use Rattle.st_test.specs.Planar.{AcyclicIsLoopless, StValue}
use Rattle.st_test.specs.declared.digraph_fault.Poles.{Poles}
use Rattle.st_verdict.specs.File.{IsFew, IsTree, IsGraph, IsGraphIn, IsGraphWithin}
use Rattle.st_verdict.specs.Stages.{Then, goes_on}
use Rattle.st_verdict.specs.Verdict.{HasMap, IsAccepted}
use Rattle.st_verdict.proofs.Public.{next_says, value_found, consistent_within}
use Rattle.st_words.specs.declared.words.Task.TheVariants.{Orient}
use Rattle.st_words.specs.Words.{IsTask}
use Rattle.stdraw_core.specs.Answer.{Asks, AnswersTask, IsAnswer}
use Rattle.stdraw_core.specs.Headline.{IsPlanarText, IsOrientedText, IsOrientationFile, OrientHeadlineFor, OrientHeadline}
use Rattle.stdraw_core.specs.Oriented.{ArePolesNamed, AreTwo, IsLoopless, outer_at, written_graph, IsOrientedFile, AnswersPlane, AnswersPoles, AnswersGraphOriented, AnswersOrient}
use Rattle.stdraw_core.specs.Run.{IsTold, IsDone, EndsBy}
use Rattle.stdraw_core.proofs.HeadlineLemmas.{same_bytes, ending}
use Rattle.stdraw_core.proofs.OneAnswer.{asks_one}
use Rattle.stdraw_core.proofs.OrientOne.{FaultForbids, orientable_given}
use Rattle.stdraw_core.proofs.PlaneLemmas.{plane_before}

-- the numbers of vertices and edges of a file's graph
within_limits : KeepsLimits → (bytes : List ℕ) (g : InputGraph) → IsGraphWithin bytes (Ok g) → (g.graph.vertices ≤ MOST_VERTICES) × (length g.graph.ends ≤ MOST_EDGES)
within_limits limits bytes g h =
    let a = value_found (IsFew bytes) (λ _. IsGraphIn bytes) g h in
    let b = value_found (IsTree bytes) IsGraph g a.goes in
    limits b.value MOST_VERTICES MOST_EDGES g b.goes.0 b.goes.1

-- the turned graph with the old lists passes each test
accepted : (g : InputGraph) (s t outer : ℕ) (b : ℕ → Bool) (h : Embedded) → KeepsLists g.graph g.orders s t outer b h
    → IsAccepted (with_ends g (bare h) (turned_end b outer)) (Ok (record { map = record { graph = embed (bare h) g.orders; spare = 0 }; source = s; sink = t; outer = turned_end b outer }))
accepted g s t outer b h K =
    let from : VertexId = record { 0 = s } in
    let to : VertexId = record { 0 = t } in
    let p : Poles = record { source = from; sink = to } in
    goes_on p K.poles (goes_on (embed (bare h) g.orders) (refl, λ v l. K.lawful v (let z : h.vertices ≡ g.graph.vertices = K.read_again.turned.vertices in omega (arith, l, z))) (K.read_again.planar, refl))

module _ (loopless : AcyclicIsLoopless) (kept : OrientationKeepsLists) (reads : WrittenReadsBack) (limits : KeepsLimits)
    (from to : ℤ) (bytes : List ℕ) (g : InputGraph) (graph : IsGraphWithin bytes (Ok g)) (p : Poles) (named : ArePolesNamed from to g (Ok p)) (m : Embedded) (has_map : HasMap g (Ok m))
    (out : List ℕ) (file : IsOrientedFile g p m out) where
  tables : IsConsistent g
  tables = consistent_within bytes g graph

  turned_from : IsOrientation (embed g.graph g.orders) p.source.0 p.sink.0 (outer_at g p m) file.b file.h
  turned_from = subst (λ z. IsOrientation z p.source.0 p.sink.0 (outer_at g p m) file.b file.h) has_map.0 file.is

  keeps : KeepsLists g.graph g.orders p.source.0 p.sink.0 (outer_at g p m) file.b file.h
  keeps =
      let plane : IsPlane (embed g.graph g.orders) p.source.0 p.sink.0 (outer_at g p m) = plane_before loopless (embed g.graph g.orders) p.source.0 p.sink.0 (outer_at g p m) file.b file.h turned_from in
      let lists : IsRotation (embed g.graph g.orders) = record { ends = plane.ends_in; orders = plane.orders } in
      kept g.graph g.orders p.source.0 p.sink.0 (outer_at g p m) file.b file.h tables.orders lists plane.no_loop turned_from

  made_tables : IsConsistent (written_graph g p m file.b file.h)
  made_tables = ends_fit g (bare file.h) (turned_end file.b (outer_at g p m)) tables turned_from.turned.vertices turned_from.turned.count turned_from.planar.outer_in

  value : StValue
  value = record { map = record { graph = embed (bare file.h) g.orders; spare = 0 }; source = p.source.0; sink = p.sink.0; outer = turned_end file.b (outer_at g p m) }

  -- the text is read as the turned graph
  read_text : IsPlanarText out (written_graph g p m file.b file.h) value
  unfolding value
  read_text =
      let again = reads_again (written_entries (written_graph g p m file.b file.h)) (record { nests = file.sound.nests; fit = file.sound.fit }) file.sound.well in
      let few = within_limits limits bytes g graph in
      let n : file.h.vertices ≡ g.graph.vertices = turned_from.turned.vertices in
      let k : edges file.h ≡ length g.graph.ends = turned_from.turned.count in
      record {
        tree = again.0;
        text = subst (λ z. IsText z again.0) (sym file.text) again.1;
        graph = reads (written_graph g p m file.b file.h) again.0 MOST_VERTICES MOST_EDGES made_tables turned_from.planar.ends_in refl (subst (λ z. z ≤ MOST_VERTICES) (sym n) few.0) (subst (λ z. z ≤ MOST_EDGES) (sym k) few.1) again.2;
        planar = accepted g p.source.0 p.sink.0 (outer_at g p m) file.b file.h keeps;
      }

  pub is_read : IsOrientedText from to g out
  unfolding value
  is_read = record {
    made = written_graph g p m file.b file.h;
    st = value;
    is = read_text;
    file = λ few. record { few = few; tree = read_text.tree; text = read_text.text; graph = read_text.graph; planar = read_text.planar };
    source = named.0;
    sink = named.1;
    vertices = refl;
    edges = refl;
    labels = refl;
    orders = refl;
  }

-- ---- the words of an orientation
oriented_says : (words : List (List ℕ)) (left : Option (List ℕ)) (bytes told : List ℕ) (from to : ℤ) → IsTask words (Orient from to) → left ≡ Some bytes → IfSome left (λ z. z ≡ told)
    → (answer : Result (List ℕ) Refusal) → IsAnswer words told answer → AnswersOrient from to bytes answer
oriented_says words left bytes told from to is e f answer h =
    subst (λ z. AnswersOrient from to z answer) (sym (same_bytes left bytes told e f)) (next_says (Asks words) (λ task. AnswersTask task told) (asks_one words) (Orient from to) is answer h)

module _ (forbids : FaultForbids) (loopless : AcyclicIsLoopless) (kept : OrientationKeepsLists) (reads : WrittenReadsBack) (limits : KeepsLimits)
    (words : List (List ℕ)) (src src' : SourceState) (out out' : SinkState) (from to : ℤ) (bytes : List ℕ) (is : IsTask words (Orient from to)) (left : src.left ≡ Some bytes) where
  written_file : (text : List ℕ) → AnswersOrient from to bytes (Ok text) → Gains out out' text → IsOrientationFile from to bytes out out'
  written_file text h gains =
      let a = value_found (IsGraphWithin bytes) (AnswersGraphOriented from to) text h in
      let b = value_found (ArePolesNamed from to a.value) (AnswersPoles a.value) text a.goes in
      let c = value_found (AreTwo b.value) (λ _. Then (IsLoopless a.value) (λ _. Then (HasMap a.value) (AnswersPlane a.value b.value))) text b.goes in
      let d = value_found (IsLoopless a.value) (λ _. Then (HasMap a.value) (AnswersPlane a.value b.value)) text c.goes in
      let e = value_found (HasMap a.value) (AnswersPlane a.value b.value) text d.goes in
      record {
        g = a.value;
        graph = a.is;
        p = b.value;
        named = b.is;
        m = e.value;
        map = e.is;
        out = text;
        oriented = e.goes;
        read = is_read loopless kept reads limits from to bytes a.value a.is b.value b.is e.value e.is text e.goes;
        gains = gains;
      }

  oriented_whole : IsDone words src src' out out' → OrientHeadlineFor from to bytes out out' status.Done
  oriented_whole h = record {
    oriented = λ g graph o. refl;
    right = λ e. written_file h.text (oriented_says words src.left bytes h.ready.bytes from to is left h.ready.told (Ok h.text) h.ready.answer) h.gains;
    nothing = λ n. absurd (n refl);
  }

  not_oriented : (diag diag' : SinkState) (s : Status) → s ≢ status.Done → out' ≡ out → IsTold words src src' diag diag' s → OrientHeadlineFor from to bytes out out' s
  not_oriented diag diag' s other before h =
      let r = h.refused in
      let answer = oriented_says words src.left bytes r.bytes from to is left r.told (Err h.refusal) r.answer in
      record {
        oriented = λ g graph o. absurd (orientable_given forbids loopless from to bytes g graph o h.refusal answer);
        right = λ e. absurd (other e);
        nothing = λ n. before;
      }

pub orient_headline : FaultForbids → AcyclicIsLoopless → OrientationKeepsLists → WrittenReadsBack → KeepsLimits → (words : List (List ℕ)) (src src' : SourceState) (out out' diag diag' : SinkState) (s : Status)
    → EndsBy words src src' out out' diag diag' s → OrientHeadline words src src' out out' s
orient_headline forbids loopless kept reads limits words src src' out out' diag diag' s h from to bytes is left =
    ending words src src' out out' diag diag' (OrientHeadlineFor from to bytes out out') (oriented_whole forbids loopless kept reads limits words src src' out out' from to bytes is left)
    (not_oriented forbids loopless kept reads limits words src src' out out' from to bytes is left diag diag') s h
