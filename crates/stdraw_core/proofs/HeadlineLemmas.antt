-- A drawing is written exactly where the file has a planar st-graph, and it is a right one; so it is with the lines of a query.
use Rattle.std.proofs.Common.{◌≡◌, ◌≢◌, ℕ, ℤ, List, [], ◌∷◌, Some, None, refl, sym, ◌∙◌, subst, arith}
use Rattle.std.specs.Prelude.{Result, Ok, Err, IfSome}
use Rattle.std.specs.declared.option.Option.{Option}
use Rattle.st_input.specs.InputGraph.{InputGraph, IsConsistent}
use Rattle.st_port.specs.Faults.{Rose}
use Rattle.st_port.specs.Streams.{SourceState, SinkState, Gains}
use Rattle.st_shape.specs.Rules.{Drawing}
use Rattle.st_sides.specs.Sides.{SidesValue, IsSides}
use Rattle.st_sides.proofs.Public.{meaning_law, order_law}
use Rattle.st_ids.specs.declared.names.Names.{Names}
use Rattle.st_picture.specs.Naming.{AreNames}
use Rattle.st_test.specs.Planar.{StValue}
use Rattle.st_test.specs.PolesAnswer.{OnePolesAnswer}
use Rattle.draw_vis.proofs.Public.{visibility_drawn, tessellation_drawn}
use Rattle.draw_poly.proofs.Public.{polyline_drawn}
use Rattle.stdraw_core.proofs.PolylineLemmas.{long}
use Rattle.stdraw_core.proofs.DominanceLemmas.{right_dominance}
use Rattle.stdraw_core.proofs.PathLemmas.{drawn_valid, right_aligned, valid_not_refused}
use Rattle.st_words.specs.declared.words.Command.{Command}
use Rattle.st_words.specs.declared.words.Command.TheVariants.{Draw, Query, Lattice}
use Rattle.st_words.specs.declared.words.Operation.{Operation}
use Rattle.st_words.specs.declared.words.DrawForm.{DrawForm}
use Rattle.st_words.specs.declared.words.DrawForm.TheVariants.{Visibility, Tessellation, Constrained, Polyline, Dominance}
use Rattle.st_report.specs.declared.stop.Refusal.{Refusal}
use Rattle.st_report.specs.declared.stop.Status.{Status}
use Rattle.st_report.specs.declared.stop.Status.TheVariants as status
use Rattle.stdraw_core.specs.Answer.{Asks, AnswersCommand, AnswersGraph, AnswersFile, AnswersTask, IsAnswer}
use Rattle.stdraw_core.specs.Drawing.{edge_length, file_names, IsPictureOf, IsRightPicture, Draws, ShowsFile}
use Rattle.stdraw_core.specs.Headline.{IsPlanarFile, HeadlineFor, Headline, QueryHeadlineFor, QueryHeadline, LatticeHeadlineFor, LatticeHeadline, CheckHeadlineFor, CheckHeadline}
use Rattle.stdraw_core.specs.Checked.{AnswersCheck}
use Rattle.stdraw_core.proofs.CheckLemmas.{clean_given, clean_found}
use Rattle.stdraw_core.specs.Query.{names_of}
use Rattle.stdraw_core.specs.Run.{IsTold, IsDone, EndsBy, is_done, is_refused, is_unread, is_cut, no_memory}
use Rattle.st_verdict.specs.Stages.{goes_on, IsOne}
use Rattle.stdraw_core.specs.Paths.{AreSidesIn}
use Rattle.st_verdict.specs.Verdict.{IsAccepted, IsFound}
use Rattle.st_words.specs.declared.words.Task.TheVariants.{File, Check}
use Rattle.st_words.specs.Words.{IsCommand, IsTask}
use Rattle.stdraw_core.proofs.DrawingLemmas.{lengths_from_one, names_meet}
use Rattle.stdraw_core.proofs.OneAnswer.{asks_one}
use Rattle.stdraw_core.proofs.QueryLemmas.{known_unknown}
use Rattle.stdraw_core.proofs.RunLemmas.{refused_not_done}
use Rattle.st_verdict.specs.File.{IsFew, IsTree, IsGraph, IsGraphIn, IsGraphWithin}
use Rattle.st_verdict.proofs.Public.{next_says, value_found, found, accepted_one, graph_within_one, consistent}

-- ---- what was answered to the words of a command
-- the bytes that the source had left are those that were answered
pub same_bytes : (left : Option (List ℕ)) (bytes told : List ℕ) → left ≡ Some bytes → IfSome left (λ z. z ≡ told) → bytes ≡ told
same_bytes None bytes told e h = absurd (cc)
same_bytes (Some z) bytes told e h = let same : z ≡ bytes = cc in sym same ∙ h

pub asked : (command : Command) (words : List (List ℕ)) (left : Option (List ℕ)) (bytes told : List ℕ) → IsCommand words command → left ≡ Some bytes → IfSome left (λ z. z ≡ told)
    → (answer : Result (List ℕ) Refusal) → IsAnswer words told answer → AnswersFile command bytes answer
asked command words left bytes told is e f answer h =
    subst (λ z. AnswersFile command z answer) (sym (same_bytes left bytes told e f)) (next_says (Asks words) (λ task. AnswersTask task told) (asks_one words) (File command) is answer h)

-- the graph of a planar file
planar_graph : (bytes : List ℕ) (g : InputGraph) (st : StValue) → IsPlanarFile bytes g st → IsGraphWithin bytes (Ok g)
planar_graph bytes g st file = goes_on tt file.few (goes_on file.tree file.text file.graph)

-- what is answered to a planar file is what the command answers about its graph
pub planar_says : (command : Command) (bytes : List ℕ) (g : InputGraph) (st : StValue) → IsPlanarFile bytes g st → IsOne (IsAccepted g) → (answer : Result (List ℕ) Refusal) → AnswersFile command bytes answer → AnswersCommand command g st answer
planar_says command bytes g st file one answer h =
    let a = next_says (IsGraphWithin bytes) (AnswersGraph command) (graph_within_one bytes) g (planar_graph bytes g st file) answer h in
    next_says (IsAccepted g) (AnswersCommand command g) one st file.planar answer a

-- an output is that of a planar file
pub record IsOutputOf (command : Command) (bytes out : List ℕ) : Type 0 where
  pub g : InputGraph
  pub st : StValue
  pub file : IsPlanarFile bytes g st
  pub answers : AnswersCommand command g st (Ok out)

pub output_of : (command : Command) (bytes out : List ℕ) → AnswersFile command bytes (Ok out) → IsOutputOf command bytes out
output_of command bytes out h =
    let a = value_found (IsGraphWithin bytes) (AnswersGraph command) out h in
    let b = value_found (IsFew bytes) (λ _. IsGraphIn bytes) a.value a.is in
    let c = value_found (IsTree bytes) IsGraph a.value b.goes in
    let d = value_found (IsAccepted a.value) (AnswersCommand command a.value) out a.goes in
    record {
      g = a.value;
      st = d.value;
      file = record { few = b.is; tree = c.value; text = c.is; graph = c.goes; planar = d.is };
      answers = d.goes;
    }

-- ---- the picture is right
right_picture : (form : DrawForm) (g : InputGraph) (st : StValue) (x : SidesValue) → IsConsistent g → IsFound g st → AreSidesIn st x → IsSides x → (N : Names) → AreNames x N → (d : Drawing) → IsPictureOf form g st x N d → IsRightPicture form g x d
right_picture Visibility g st x tables at are is N names d h = visibility_drawn x is (edge_length g) (lengths_from_one g st x tables at are.sides) N names d h
right_picture Tessellation g st x tables at are is N names d h = tessellation_drawn x is (edge_length g) (lengths_from_one g st x tables at are.sides) N names d h
right_picture Constrained g st x tables at are is N names d h = right_aligned g st tables at x are N names d h
right_picture (Polyline spot) g st x tables at are is N names d h = polyline_drawn x is h.weight (long st.map.graph st.source st.sink st.outer x are.sides is (edge_length g) h.weight (lengths_from_one g st x tables at are.sides) h.rows) h.column N names d h.picture
right_picture Dominance g st x tables at are is N names d h = right_dominance st x at.planar are.sides is N names d h

shows_file : (bytes : List ℕ) (form : DrawForm) (g : InputGraph) (st : StValue) (out : List ℕ) → IsPlanarFile bytes g st → Draws form g st out → ShowsFile form g st out
shows_file bytes form g st out file h =
    let tables : IsConsistent g = consistent file.tree g file.graph in
    let is = found g st file.planar in
    let here : IsSides h.depicts.sides = meaning_law st.map.graph st.source st.sink st.outer h.depicts.sides is.planar h.depicts.are.sides in
    record {
      drawn = h;
      right = right_picture form g st h.depicts.sides tables is h.depicts.are here (file_names g) (names_meet g st h.depicts.sides tables is h.depicts.are.sides) h.picture h.depicts.is;
      orders = λ v l. order_law st.map.graph st.source st.sink st.outer h.depicts.sides is.planar h.depicts.are.sides v l;
    }

-- ---- the endings
-- where nothing outside has failed, the answer was written whole, or a refusal was told and nothing written
module _ (words : List (List ℕ)) (src src' : SourceState) (out out' diag diag' : SinkState) (P : Status → Type 0)
    (done : IsDone words src src' out out' → P status.Done)
    (told : (s : Status) → s ≢ status.Done → out' ≡ out → IsTold words src src' diag diag' s → P s) where
  pub ending : (s : Status) → EndsBy words src src' out out' diag diag' s → s ≢ status.NoMemory → ¬ Rose src.faults src'.faults → ¬ Rose out.faults out'.faults → P s
  ending s (is_done is quiet h) memory read written = subst P (sym is) (done h)
  ending s (is_refused before h) memory read written = told s (λ e. refused_not_done h.refusal (sym h.status ∙ e)) before h
  ending s (is_unread is before h line) memory read written = absurd (read h.rose)
  ending s (is_cut is h line) memory read written = absurd (written h.rose)
  ending s (no_memory is before line) memory read written = absurd (memory is)

-- ---- the words of a drawing
module _ (same_poles : OnePolesAnswer) (words : List (List ℕ)) (src src' : SourceState) (out out' : SinkState) (form : DrawForm) (bytes : List ℕ)
    (is : IsCommand words (Draw form)) (left : src.left ≡ Some bytes) where
  drawn_whole : IsDone words src src' out out' → HeadlineFor form bytes out out' status.Done
  drawn_whole h =
      let o = output_of (Draw form) bytes h.text (asked (Draw form) words src.left bytes h.ready.bytes is left h.ready.told (Ok h.text) h.ready.answer) in
      record {
        drawn = λ g st file valid. refl;
        right = λ e. record { g = o.g; st = o.st; file = o.file; valid = drawn_valid o.g o.st (consistent o.file.tree o.g o.file.graph) (found o.g o.st o.file.planar) form h.text o.answers; out = h.text; shows = shows_file bytes form o.g o.st h.text o.file o.answers; gains = h.gains };
        nothing = λ n. absurd (n refl);
      }

  refused : (diag diag' : SinkState) (s : Status) → s ≢ status.Done → out' ≡ out → IsTold words src src' diag diag' s → HeadlineFor form bytes out out' s
  refused diag diag' s other before h =
      let r = h.refused in
      let answer = asked (Draw form) words src.left bytes r.bytes is left r.told (Err h.refusal) r.answer in
      record {
        drawn = λ g st file valid. absurd (valid_not_refused g st (consistent file.tree g file.graph) (found g st file.planar) form h.refusal valid (planar_says (Draw form) bytes g st file (accepted_one same_poles g) (Err h.refusal) answer));
        right = λ e. absurd (other e);
        nothing = λ n. before;
      }

pub headline : OnePolesAnswer → (words : List (List ℕ)) (src src' : SourceState) (out out' diag diag' : SinkState) (s : Status)
    → EndsBy words src src' out out' diag diag' s → Headline words src src' out out' s
headline same words src src' out out' diag diag' s h form bytes is left =
    ending words src src' out out' diag diag' (HeadlineFor form bytes out out') (drawn_whole same words src src' out out' form bytes is left) (refused same words src src' out out' form bytes is left diag diag') s h

-- ---- the words of a query
module _ (same_poles : OnePolesAnswer) (words : List (List ℕ)) (src src' : SourceState) (out out' : SinkState) (pairs : List (ℤ × ℤ)) (bytes : List ℕ)
    (is : IsCommand words (Query pairs)) (left : src.left ≡ Some bytes) where
  lines_whole : IsDone words src src' out out' → QueryHeadlineFor pairs bytes out out' status.Done
  lines_whole h =
      let o = output_of (Query pairs) bytes h.text (asked (Query pairs) words src.left bytes h.ready.bytes is left h.ready.told (Ok h.text) h.ready.answer) in
      record {
        answered = λ g st file known. refl;
        right = λ e. record { g = o.g; st = o.st; file = o.file; out = h.text; answers = o.answers; gains = h.gains };
        nothing = λ n. absurd (n refl);
      }

  no_lines : (diag diag' : SinkState) (s : Status) → s ≢ status.Done → out' ≡ out → IsTold words src src' diag diag' s → QueryHeadlineFor pairs bytes out out' s
  no_lines diag diag' s other before h =
      let r = h.refused in
      let answer = asked (Query pairs) words src.left bytes r.bytes is left r.told (Err h.refusal) r.answer in
      record {
        answered = λ g st file known.
            let first = planar_says (Query pairs) bytes g st file (accepted_one same_poles g) (Err h.refusal) answer in
            absurd (known_unknown g (names_of pairs) first.fault known first.holds);
        right = λ e. absurd (other e);
        nothing = λ n. before;
      }

pub query_headline : OnePolesAnswer → (words : List (List ℕ)) (src src' : SourceState) (out out' diag diag' : SinkState) (s : Status)
    → EndsBy words src src' out out' diag diag' s → QueryHeadline words src src' out out' s
query_headline same words src src' out out' diag diag' s h pairs bytes is left =
    ending words src src' out out' diag diag' (QueryHeadlineFor pairs bytes out out') (lines_whole same words src src' out out' pairs bytes is left) (no_lines same words src src' out out' pairs bytes is left diag diag') s h

-- ---- the words of a bound
module _ (same_poles : OnePolesAnswer) (words : List (List ℕ)) (src src' : SourceState) (out out' : SinkState) (op : Operation) (from to : ℤ) (bytes : List ℕ)
    (is : IsCommand words (Lattice op from to)) (left : src.left ≡ Some bytes) where
  bound_whole : IsDone words src src' out out' → LatticeHeadlineFor op from to bytes out out' status.Done
  bound_whole h =
      let o = output_of (Lattice op from to) bytes h.text (asked (Lattice op from to) words src.left bytes h.ready.bytes is left h.ready.told (Ok h.text) h.ready.answer) in
      record {
        answered = λ g st file known. refl;
        right = λ e. record { g = o.g; st = o.st; file = o.file; out = h.text; lines = o.answers; gains = h.gains };
        nothing = λ n. absurd (n refl);
      }

  no_bound : (diag diag' : SinkState) (s : Status) → s ≢ status.Done → out' ≡ out → IsTold words src src' diag diag' s → LatticeHeadlineFor op from to bytes out out' s
  no_bound diag diag' s other before h =
      let r = h.refused in
      let answer = asked (Lattice op from to) words src.left bytes r.bytes is left r.told (Err h.refusal) r.answer in
      record {
        answered = λ g st file known.
            let first = planar_says (Lattice op from to) bytes g st file (accepted_one same_poles g) (Err h.refusal) answer in
            absurd (known_unknown g (from ∷ to ∷ []) first.fault known first.holds);
        right = λ e. absurd (other e);
        nothing = λ n. before;
      }

pub lattice_headline : OnePolesAnswer → (words : List (List ℕ)) (src src' : SourceState) (out out' diag diag' : SinkState) (s : Status)
    → EndsBy words src src' out out' diag diag' s → LatticeHeadline words src src' out out' s
lattice_headline same words src src' out out' diag diag' s h op from to bytes is left =
    ending words src src' out out' diag diag' (LatticeHeadlineFor op from to bytes out out') (bound_whole same words src src' out out' op from to bytes is left)
    (no_bound same words src src' out out' op from to bytes is left diag diag') s h

-- ---- the words of a check
checked : (words : List (List ℕ)) (left : Option (List ℕ)) (bytes told : List ℕ) → IsTask words Check → left ≡ Some bytes → IfSome left (λ z. z ≡ told)
    → (answer : Result (List ℕ) Refusal) → IsAnswer words told answer → AnswersCheck bytes answer
checked words left bytes told is e f answer h =
    subst (λ z. AnswersCheck z answer) (sym (same_bytes left bytes told e f)) (next_says (Asks words) (λ task. AnswersTask task told) (asks_one words) Check is answer h)

module _ (words : List (List ℕ)) (src src' : SourceState) (out out' : SinkState) (bytes : List ℕ) (is : IsTask words Check) (left : src.left ≡ Some bytes) where
  accepted_whole : IsDone words src src' out out' → CheckHeadlineFor bytes out out' status.Done
  accepted_whole h =
      let o = clean_found bytes h.text (checked words src.left bytes h.ready.bytes is left h.ready.told (Ok h.text) h.ready.answer) in
      record {
        accepted = λ d file. refl;
        right = λ e. record { d = o.d; file = o.file; gains = subst (Gains out out') o.text h.gains };
        nothing = λ n. absurd (n refl);
      }

  not_accepted : (diag diag' : SinkState) (s : Status) → s ≢ status.Done → out' ≡ out → IsTold words src src' diag diag' s → CheckHeadlineFor bytes out out' s
  not_accepted diag diag' s other before h =
      let r = h.refused in
      let answer = checked words src.left bytes r.bytes is left r.told (Err h.refusal) r.answer in
      record {
        accepted = λ d file. absurd (clean_given bytes d file h.refusal answer);
        right = λ e. absurd (other e);
        nothing = λ n. before;
      }

pub check_headline : (words : List (List ℕ)) (src src' : SourceState) (out out' diag diag' : SinkState) (s : Status)
    → EndsBy words src src' out out' diag diag' s → CheckHeadline words src src' out out' s
check_headline words src src' out out' diag diag' s h bytes is left =
    ending words src src' out out' diag diag' (CheckHeadlineFor bytes out out') (accepted_whole words src src' out out' bytes is left) (not_accepted words src src' out out' bytes is left diag diag') s h
