-- The file of a generated graph is read again as that graph: it is tested and drawn as the graph that `bench` draws.
-- Letters: r which graph, g the graph with names and orders, st planar st-graph, n how many vertices are wanted, s how far the
-- graph has grown, k how many vertices an ear has, u and v where it begins and ends, x a word that chooses it, es edges.
use Rattle.std.proofs.Common.{◌≡◌, ℕ, zero, suc, ◌+◌, ◌*◌, ◌<◌, ◌≤◌, ℤ, pos, List, ◌++◌, length, get_or, Some, refl, sym, ap, subst, ◌∙◌, arith, length-append}
use Rattle.std.specs.Prelude.{Ok}
use Rattle.gml_core.proofs.Public.{reads_again}
use Rattle.gml_core.specs.Printing.{at_zero, printed}
use Rattle.gml_core.specs.Reading.{IsText}
use Rattle.st_gen.specs.Accepted.{PassesTests, AcceptedLaw}
use Rattle.st_gen.specs.Made.{ear_edges, Growth, size_of, grown, begun, Becomes, done, more, IsMade}
use Rattle.st_ids.specs.declared.limits.TheConstants.{MOST_BYTES, MOST_EDGES, MOST_VERTICES}
use Rattle.st_input.specs.InputGraph.{InputGraph}
use Rattle.st_writer.specs.Laws.{ReadsBack}
use Rattle.st_input.specs.Plain.{counted, plain_graph}
use Rattle.st_writer.specs.Plain.{plain_entries}
use Rattle.st_test.specs.Planar.{StValue}
use Rattle.st_verdict.proofs.Public.{value_found}
use Rattle.st_verdict.specs.File.{IsGraphWithin}
use Rattle.st_verdict.specs.Stages.{Then, goes_on}
use Rattle.st_verdict.specs.Verdict.{HasPoles, HasMap, IsPlanar, IsAccepted, file_vertex_name}
use Rattle.st_words.specs.declared.words.DrawForm.{DrawForm}
use Rattle.st_words.specs.declared.words.Recipe.{Recipe}
use Rattle.stdraw_core.specs.Bench.{IsBenched}
use Rattle.stdraw_core.specs.Generated.{IsGenerated, IsFileOf}
use Rattle.stdraw_core.specs.Joined.{IsWanted, IsGraphOf, IsTestedFile, IsBenchedFile, GeneratedIsTested, GeneratedIsDrawn}
use Rattle.stdraw_core.proofs.GeneratedLemmas.{accepted_is, accepted_value, generated_free, generated_passes}
use Rattle.stdraw_core.proofs.GeneratedOne.{same_generated}
use Rattle.stdraw_core.proofs.GeneratedText.{AreSmall, IsPlainText, plain_text, small_counted, counted_at}

-- ---- how many edges there are
ear_length : (u a k v : ℕ) → length (ear_edges u a k v) ≡ k + 1
ear_length u a zero v = refl
ear_length u a (suc k) v = omega (arith, ear_length a (a + 1) k v)

-- each ear has one edge more than vertices, and at least one vertex
few_edges : (n : ℕ) (s : Growth) (es : List (ℕ × ℕ)) → Becomes n s es → s.count ≤ n → length s.edges + 3 ≤ 2 * s.count → length es + 3 ≤ 2 * n
few_edges n s es (done l) le few = omega (arith, le, few)
few_edges n s es (more l h) le few =
    few_edges n (grown n s) es h (within _) (grows _ _ _)
  where
    within : (x : ℕ) → s.count + size_of n x s ≤ n
    within x = omega arith

    grows : (u v x : ℕ) → length (s.edges ++ ear_edges u s.count (size_of n x s) v) + 3 ≤ 2 * (s.count + size_of n x s)
    grows u v x =
        let some : 1 ≤ size_of n x s = omega arith in
        let ear = ear_length u s.count (size_of n x s) v in
        omega (arith, some, ear, few, length-append s.edges (ear_edges u s.count (size_of n x s) v))

made_few : (n seed : ℕ) (es : List (ℕ × ℕ)) → 2 ≤ n → IsMade n seed es → length es + 3 ≤ 2 * n
made_few n seed es two h = few_edges n (begun seed) es h two (omega arith)

-- ---- the file of one generated graph
module _ (law : AcceptedLaw) (reads : ReadsBack) (r : Recipe) (wanted : IsWanted r) (g : InputGraph) (is : IsGenerated r g) where
  passes : PassesTests g.graph g.orders 0 1
  passes = generated_passes law r g wanted.0 is

  names : g.vertex_names ≡ counted g.graph.vertices
  names = ap (λ (z : InputGraph). z.vertex_names) is.plain

  named : (v : ℕ) → v < 2 → file_vertex_name g v ≡ pos (v + 1)
  named v lt = ap (λ (l : List ℤ). get_or l v (pos 0)) names ∙ counted_at g.graph.vertices v (omega (arith, lt, wanted.0, is.vertices))

  -- the poles are the vertices 1 and 2
  graph_is : (st : StValue) → IsAccepted g (Ok st) → IsGraphOf r g st
  graph_is st planar =
      let a = value_found (HasPoles g) (λ p. Then (HasMap g) (IsPlanar g p)) st planar in
      let b = value_found (HasMap g) (IsPlanar g a.value) st a.goes in
      let poles = passes.only_poles a.value.source.0 a.value.sink.0 a.is in
      let from : st.source ≡ 0 = ap (λ (z : StValue). z.source) b.goes.1 ∙ poles.0 in
      let to : st.sink ≡ 1 = ap (λ (z : StValue). z.sink) b.goes.1 ∙ poles.1 in
      record {
        generated = is;
        planar = planar;
        source = ap (file_vertex_name g) from ∙ named 0 (omega arith);
        sink = ap (file_vertex_name g) to ∙ named 1 (omega arith);
      }

  -- its text is read again, within the limits
  read : (file : List ℕ) → file ≡ printed (plain_entries g) → IsGraphWithin file (Ok g)
  read file told =
      let made : length g.graph.ends + 3 ≤ 2 * r.vertices = made_few r.vertices r.seed g.graph.ends wanted.0 is.edges in
      let few_n : g.graph.vertices ≤ MOST_VERTICES = omega (arith, wanted.1, is.vertices) in
      let few_m : length g.graph.ends ≤ MOST_EDGES = omega (arith, wanted.1, made) in
      let is_text : IsPlainText g = plain_text g (subst (λ l. AreSmall l) (sym names) (small_counted g.graph.vertices (omega (arith, few_n)))) in
      let short : length file ≤ MOST_BYTES = omega (arith, ap (λ (l : List ℕ). length l) told, is_text.short, is.tables.vertex_names, few_n, few_m) in
      let again = reads_again (plain_entries g) is_text.bounded is_text.well in
      let same : at_zero again.0 ≡ at_zero (plain_entries (plain_graph g.graph)) = again.2 ∙ ap (λ (z : InputGraph). at_zero (plain_entries z)) is.plain in
      let back = reads g.graph again.0 MOST_VERTICES MOST_EDGES passes.planar.ends_in few_n few_m same in
      goes_on tt short (goes_on again.0 (subst (λ z. IsText z again.0) (sym told) again.1) (back.0, back.1 ∙ ap (λ (z : InputGraph). Some z) (sym is.plain)))

  pub tested : (file : List ℕ) → file ≡ printed (plain_entries g) → IsTestedFile r file
  tested file told =
      let free = generated_free r g is in
      let st : StValue = accepted_value g 0 1 passes free in
      let planar : IsAccepted g (Ok st) = accepted_is g 0 1 passes free in
      record {
        g = g;
        st = st;
        is = graph_is st planar;
        answer = goes_on g (read file told) (goes_on st planar refl);
      }

pub generated_tested : AcceptedLaw → ReadsBack → GeneratedIsTested
generated_tested law reads r bytes file wanted h = tested law reads r wanted h.g h.is file h.told

drawn : AcceptedLaw → ReadsBack → (r : Recipe) (form : DrawForm) (file line : List ℕ) → IsWanted r → IsFileOf r file → IsBenched r form line → IsBenchedFile r form file line
drawn law reads r form file line wanted h b =
    let told : file ≡ printed (plain_entries b.g) = h.told ∙ ap (λ (z : InputGraph). printed (plain_entries z)) (same_generated r h.g b.g h.is b.is) in
    record {
      g = b.g;
      st = b.st;
      is = graph_is law reads r wanted b.g b.is b.st b.planar;
      picture = b.line.picture;
      answer = goes_on b.g (read law reads r wanted b.g b.is file told) (goes_on b.st b.planar (record { picture = b.line.picture; depicts = b.line.depicts; told = refl }));
      told = b.line.told;
    }

pub generated_drawn : AcceptedLaw → ReadsBack → GeneratedIsDrawn
generated_drawn law reads r form bytes file line wanted h b = drawn law reads r form file line wanted h b
