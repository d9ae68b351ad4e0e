-- Words and bytes have at most one answer, as each stage has.
use Rattle.std.proofs.Common.{◌≡◌, ℕ, inl, inr, ℤ, List, [], ◌∷◌, ◌++◌, length, sym, ap, ◌∙◌, subst}
use Rattle.std.specs.Prelude.{Result, Ok, Err, ◌↔◌, IsTrue}
use Rattle.st_ids.specs.Graph.{arcs_of}
use Rattle.st_ids.specs.Walks.{Reaches}
use Rattle.st_input.specs.InputGraph.{InputGraph, IsConsistent}
use Rattle.st_input.specs.Names.{AreDifferent}
use Rattle.st_test.specs.Planar.{IsPlanarSt, StValue}
use Rattle.st_test.specs.PolesAnswer.{OnePolesAnswer}
use Rattle.st_words.specs.declared.words.Command.{Command}
use Rattle.st_words.specs.declared.words.Command.TheVariants.{Query, Test, Draw, Lattice}
use Rattle.st_words.specs.declared.words.DrawForm.{DrawForm}
use Rattle.st_words.specs.declared.words.DrawForm.TheVariants.{Visibility, Tessellation, Constrained, Polyline, Dominance}
use Rattle.st_report.specs.declared.stop.Refusal.TheVariants.{UnknownVertex}
use Rattle.st_verdict.specs.Stages.{IsOne}
use Rattle.st_words.specs.declared.words.Recipe.{Recipe}
use Rattle.st_words.specs.declared.words.Task.{Task}
use Rattle.st_words.specs.declared.words.Task.TheVariants.{File, Check, Orient, Session, Gen, Bench}
use Rattle.st_words.proofs.Public.{one_task_law}
use Rattle.stdraw_core.specs.Query.{names_of, IsFirstUnknown, IsLine, line_of_pair, AreQueryLines, no_line, one_line, AreAnswers}
use Rattle.st_verdict.specs.Verdict.{IsAccepted, IsFound}
use Rattle.stdraw_core.specs.Paths.{AreSidesIn}
use Rattle.stdraw_core.specs.Answer.{Asks, AnswersCommand, AnswersGraph, AnswersFile, AnswersTask, AreAlike, HaveOneAnswer}
use Rattle.stdraw_core.specs.Bench.{AnswersBench}
use Rattle.stdraw_core.specs.Generated.{AnswersGen}
use Rattle.st_report.specs.declared.stop.Refusal.{Refusal}
use Rattle.st_test.specs.Planar.{AcyclicIsLoopless}
use Rattle.st_words.specs.Words.{IsTask}
use Rattle.stdraw_core.proofs.OrientOne.{FaultForbids, alike_then, orient_alike}
use Rattle.stdraw_core.proofs.SessionOne.{SessionFacts, session_one}
use Rattle.stdraw_core.proofs.QueryLemmas.{known_unknown, same_unknown}
use Rattle.st_ids.specs.declared.names.Names.{Names}
use Rattle.st_shape.specs.declared.point.Point.{Point}
use Rattle.st_shape.specs.Rules.{Drawing}
use Rattle.st_map.specs.Embedded.{edges, faces}
use Rattle.st_sides.specs.Sides.{SidesValue, IsSides}
use Rattle.st_sides.proofs.Public.{meaning_law, one_value_law}
use Rattle.eps_core.specs.Text.{text}
use Rattle.draw_dom.specs.Points.{vertex_point}
use Rattle.draw_vis.proofs.Public.{pictures_law}
use Rattle.stdraw_core.specs.Drawing.{edge_length, file_names, IsPictureOf, Depicts, Draws}
use Rattle.stdraw_core.proofs.GeneratedOne.{same_generated, file_same}
use Rattle.stdraw_core.proofs.PolylineLemmas.{one_polyline}
use Rattle.stdraw_core.proofs.DominanceLemmas.{one_dominance, one_points}
use Rattle.stdraw_core.proofs.PathLemmas.{drawn_valid, one_aligned, same_refusal, valid_not_refused}
use Rattle.stdraw_core.specs.Bench.{bench_line, IsLineOn, IsBenched}
use Rattle.stdraw_core.specs.Drawing.{AnswersDraw}
use Rattle.stdraw_core.specs.Query.{AnswersQuery}
use Rattle.stdraw_core.specs.Tested.{AnswersTest}
use Rattle.stdraw_core.specs.Lattice.{AnswersLattice}
use Rattle.stdraw_core.proofs.LatticeLemmas.{both_known, same_bound_lines}
use Rattle.stdraw_core.proofs.CheckLemmas.{check_one}
use Rattle.st_words.specs.declared.words.Operation.{Operation}
use Rattle.st_verdict.specs.File.{IsGraphWithin}
use Rattle.st_verdict.proofs.Public.{ok, err, same_ok, one_then, told_one, same_bool, found, accepted_one, graph_within_one, consistent_within}

-- ---- the task
pub asks_one : (words : List (List ℕ)) → IsOne (Asks words)
asks_one words (Ok c) (Ok d) h k = ok c d (one_task_law words c d h k)
asks_one words (Ok c) (Err s) h k = absurd (k.1 c h)
asks_one words (Err r) (Ok d) h k = absurd (h.1 d k)
asks_one words (Err r) (Err s) h k = err r s (h.0 ∙ sym k.0)

-- ---- the query
-- the answers of two lines are the same where the vertices of the names are
same_line : (g : InputGraph) (points : List Point) (p : ℤ × ℤ) (l m : List ℕ) → AreDifferent g.vertex_names → IsLine g points p l → IsLine g points p m → l ≡ m
same_line g points p l m different h k =
    let u : h.from ≡ k.from = different h.from k.from p.0 h.from_named k.from_named in
    let v : h.to ≡ k.to = different h.to k.to p.1 h.to_named k.to_named in
    let there : IsTrue k.answer ↔ Reaches (arcs_of g.graph) h.from h.to =
    subst (λ z. IsTrue k.answer ↔ Reaches (arcs_of g.graph) z h.to) (sym u) (subst (λ z. IsTrue k.answer ↔ Reaches (arcs_of g.graph) k.from z) (sym v) k.reaches) in
    h.text
    ∙ ap (λ z. line_of_pair p.0 p.1 z (vertex_point points h.from) (vertex_point points h.to)) (same_bool h.answer k.answer h.reaches there)
    ∙ ap (λ z. line_of_pair p.0 p.1 k.answer (vertex_point points z) (vertex_point points h.to)) u
    ∙ ap (λ z. line_of_pair p.0 p.1 k.answer (vertex_point points k.from) (vertex_point points z)) v
    ∙ sym k.text

same_lines : (g : InputGraph) (points : List Point) (ps : List (ℤ × ℤ)) (a b : List ℕ) → AreDifferent g.vertex_names → AreQueryLines g points ps a → AreQueryLines g points ps b → a ≡ b
same_lines g points ps a b different (no_line e) (no_line f) = e ∙ sym f
same_lines g points ps a b different (one_line {p = p} {pairs = more} l rest h r e) (one_line l' rest' h' r' e') =
    e ∙ ap (λ z. z ++ rest) (same_line g points p l l' different h h') ∙ ap (λ z. l' ++ z) (same_lines g points more rest rest' different r r') ∙ sym e'

same_answers : (ps : List (ℤ × ℤ)) (g : InputGraph) (st : StValue) → IsConsistent g → IsPlanarSt st.map.graph st.source st.sink st.outer → (a b : List ℕ) → AreAnswers g st ps a → AreAnswers g st ps b → a ≡ b
same_answers ps g st tables planar a b h k =
    let one : h.points ≡ k.points = one_points st planar h.are.sides k.are.sides (file_names g) h.are.picture k.are.picture h.points k.points h.are.drawn k.are.drawn in
    same_lines g h.points ps a b tables.different h.lines (subst (λ (z : List Point). AreQueryLines g z ps b) (sym one) k.lines)

query_one : (ps : List (ℤ × ℤ)) (g : InputGraph) (st : StValue) → IsConsistent g → IsPlanarSt st.map.graph st.source st.sink st.outer → IsOne (AnswersQuery ps g st)
query_one ps g st tables planar (Ok a) (Ok b) h k = ok a b (same_answers ps g st tables planar a b h k)
query_one ps g st tables planar (Ok a) (Err s) h k = absurd (known_unknown g (names_of ps) k.fault h.known k.holds)
query_one ps g st tables planar (Err r) (Ok b) h k = absurd (known_unknown g (names_of ps) h.fault k.known h.holds)
query_one ps g st tables planar (Err r) (Err s) h k = err r s (told_one (λ name. UnknownVertex name) (IsFirstUnknown g (names_of ps)) (same_unknown g (names_of ps)) r s h k)

-- ---- the bound
lattice_one : (op : Operation) (from to : ℤ) (g : InputGraph) (st : StValue) → IsConsistent g → IsPlanarSt st.map.graph st.source st.sink st.outer → IsOne (AnswersLattice op from to g st)
lattice_one op from to g st tables planar (Ok a) (Ok b) h k = ok a b (same_bound_lines op from to g st tables planar a b h k)
lattice_one op from to g st tables planar (Ok a) (Err s) h k = absurd (known_unknown g (from ∷ to ∷ []) k.fault (both_known op from to g st a h) k.holds)
lattice_one op from to g st tables planar (Err r) (Ok b) h k = absurd (known_unknown g (from ∷ to ∷ []) h.fault (both_known op from to g st b k) h.holds)
lattice_one op from to g st tables planar (Err r) (Err s) h k = err r s (told_one (λ name. UnknownVertex name) (IsFirstUnknown g (from ∷ to ∷ [])) (same_unknown g (from ∷ to ∷ [])) r s h k)

-- ---- the test
test_one : (g : InputGraph) (st : StValue) → IsOne (AnswersTest g st)
test_one g st (Ok a) (Ok b) h k = ok a b (h ∙ sym k)
test_one g st (Ok a) (Err s) h k = absurd k
test_one g st (Err r) y h k = absurd h

-- ---- the drawing
same_picture : (form : DrawForm) (g : InputGraph) (st : StValue) (x : SidesValue) → IsConsistent g → IsFound g st → AreSidesIn st x → IsSides x → (N : Names) (d d' : Drawing) → IsPictureOf form g st x N d → IsPictureOf form g st x N d' → d ≡ d'
same_picture Visibility g st x tables at are is N d d' h k = (pictures_law x is).one_visibility (edge_length g) N d d' h k
same_picture Tessellation g st x tables at are is N d d' h k = (pictures_law x is).one_tessellation (edge_length g) N d d' h k
same_picture Constrained g st x tables at are is N d d' h k = one_aligned g st tables at x are N d d' h k
same_picture (Polyline spot) g st x tables at are is N d d' h k = one_polyline st.map.graph st.source st.sink st.outer x are.sides is spot (edge_length g) N d d' h k
same_picture Dominance g st x tables at are is N d d' h k = one_dominance st x at.planar are.sides is N d d' h k

one_depicted : (form : DrawForm) (g : InputGraph) (st : StValue) → IsConsistent g → IsFound g st → (d d' : Drawing) → Depicts form g st d → Depicts form g st d' → d ≡ d'
one_depicted form g st tables is d d' h k =
    let one : h.sides ≡ k.sides = one_value_law st.map.graph st.source st.sink st.outer h.sides k.sides is.planar h.are.sides h.are.sizes k.are.sides k.are.sizes in
    let here : IsSides h.sides = meaning_law st.map.graph st.source st.sink st.outer h.sides is.planar h.are.sides in
    let moved : IsPictureOf form g st h.sides (file_names g) d' = subst (λ (z : SidesValue). IsPictureOf form g st z (file_names g) d') (sym one) k.is in
    same_picture form g st h.sides tables is h.are here (file_names g) d d' h.is moved

same_drawing : (form : DrawForm) (g : InputGraph) (st : StValue) → IsConsistent g → IsFound g st → (a b : List ℕ) → Draws form g st a → Draws form g st b → a ≡ b
same_drawing form g st tables is a b h k = h.told ∙ ap text (one_depicted form g st tables is h.picture k.picture h.depicts k.depicts) ∙ sym k.told

same_line_on : (form : DrawForm) (g : InputGraph) (st : StValue) → IsConsistent g → IsFound g st → (a b : List ℕ) → IsLineOn form g st a → IsLineOn form g st b → a ≡ b
same_line_on form g st tables is a b h k =
    h.told ∙ ap (λ (z : Drawing). bench_line form st.map.graph.vertices (edges st.map.graph) (faces st.map.graph) z.frame (length (text z))) (one_depicted form g st tables is h.picture k.picture h.depicts k.depicts) ∙ sym k.told

draw_one : (form : DrawForm) (g : InputGraph) (st : StValue) → IsConsistent g → IsFound g st → IsOne (AnswersDraw form g st)
draw_one form g st tables is (Ok a) (Ok b) h k = ok a b (same_drawing form g st tables is a b h k)
draw_one form g st tables is (Ok a) (Err s) h k = absurd (valid_not_refused g st tables is form s (drawn_valid g st tables is form a h) k)
draw_one form g st tables is (Err r) (Ok b) h k = absurd (valid_not_refused g st tables is form r (drawn_valid g st tables is form b k) h)
draw_one form g st tables is (Err r) (Err s) h k = err r s (same_refusal g st tables is form r s h k)

-- ---- all stages
answers_one : (c : Command) (g : InputGraph) (st : StValue) → IsConsistent g → IsAccepted g (Ok st) → IsOne (AnswersCommand c g st)
answers_one (Query ps) g st tables is = query_one ps g st tables (found g st is).planar
answers_one Test g st tables is = test_one g st
answers_one (Draw form) g st tables is = draw_one form g st tables (found g st is)
answers_one (Lattice op from to) g st tables is = lattice_one op from to g st tables (found g st is).planar

module _ (answer_same : OnePolesAnswer) where
  graph_answers_one : (c : Command) (g : InputGraph) → IsConsistent g → IsOne (AnswersGraph c g)
  graph_answers_one c g tables = one_then (IsAccepted g) (AnswersCommand c g) (accepted_one answer_same g) (λ st is. answers_one c g st tables is)

  file_answers_one : (c : Command) (bytes : List ℕ) → IsOne (AnswersFile c bytes)
  file_answers_one c bytes = one_then (IsGraphWithin bytes) (AnswersGraph c) (graph_within_one bytes) (λ g is. graph_answers_one c g (consistent_within bytes g is))

  bench_same : (r : Recipe) (form : DrawForm) (a b : List ℕ) → IsBenched r form a → IsBenched r form b → a ≡ b
  bench_same r form a b h k =
      let graphs : h.g ≡ k.g = same_generated r h.g k.g h.is k.is in
      let accepted : IsAccepted h.g (Ok k.st) = subst (λ (z : InputGraph). IsAccepted z (Ok k.st)) (sym graphs) k.planar in
      let values : h.st ≡ k.st = same_ok h.st k.st (accepted_one answer_same h.g (Ok h.st) (Ok k.st) h.planar accepted) in
      let line : IsLineOn form h.g k.st b = subst (λ (z : InputGraph). IsLineOn form z k.st b) (sym graphs) k.line in
      same_line_on form h.g h.st h.is.tables (found h.g h.st h.planar) a b h.line (subst (λ (z : StValue). IsLineOn form h.g z b) (sym values) line)

  gen_one : (r : Recipe) → IsOne (AnswersGen r)
  gen_one r (Ok a) (Ok b) h k = ok a b (file_same r a b h k)
  gen_one r (Ok a) (Err s) h k = absurd k
  gen_one r (Err s) y h k = absurd h

  bench_one : (r : Recipe) (form : DrawForm) → IsOne (AnswersBench r form)
  bench_one r form (Ok a) (Ok b) h k = ok a b (bench_same r form a b h k)
  bench_one r form (Ok a) (Err s) h k = absurd k
  bench_one r form (Err s) y h k = absurd h

  -- the answers to a task are one, but for orientations
  task_alike : FaultForbids → AcyclicIsLoopless → SessionFacts → (words : List (List ℕ)) (bytes : List ℕ) (task : Task) → IsTask words task → (x y : Result (List ℕ) Refusal) → AnswersTask task bytes x → AnswersTask task bytes y → AreAlike words x y
  task_alike forbids loopless facts words bytes (File c) asked x y h k = inl (file_answers_one c bytes x y h k)
  task_alike forbids loopless facts words bytes Check asked x y h k = inl (check_one bytes x y h k)
  task_alike forbids loopless facts words bytes (Orient from to) asked x y h k = elim (orient_alike forbids loopless from to bytes x y h k) [ inl e ↦ inl e | inr o ↦ inr ((from, to, asked), o) ]
  task_alike forbids loopless facts words bytes Session asked x y h k = inl (session_one facts bytes x y h k)
  task_alike forbids loopless facts words bytes (Gen r) asked x y h k = inl (gen_one r x y h k)
  task_alike forbids loopless facts words bytes (Bench r form) asked x y h k = inl (bench_one r form x y h k)

pub one_answer : FaultForbids → AcyclicIsLoopless → SessionFacts → HaveOneAnswer
one_answer forbids loopless facts words bytes =
    alike_then (AreAlike words) (λ x y e. inl e) (Asks words) (λ task. AnswersTask task bytes) (asks_one words) (λ task asked. task_alike facts.poles forbids loopless facts words bytes task asked)
