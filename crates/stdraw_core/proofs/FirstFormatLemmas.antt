-- A file that keeps the first format has the answer that it had.
use Rattle.std.proofs.Common.{◌≡◌, ◌≢◌, ℕ, ◌<◌, ◌≤◌, Bool, true, false, cond, nat_lt, List, length, get_or, replicate, max, Option, Some, None, [], codes, refl, sym, ap, ◌∙◌, subst, arith}
use Rattle.std.specs.Prelude.{Result, Ok, Err}
use Rattle.std.proofs.lemmas.Bool.Decides.{nat_tests}
use Rattle.std.proofs.lemmas.List.{get_or-replicate}
use Rattle.gml_core.specs.Trees.{Entry, Entries, listed}
use Rattle.st_ids.specs.declared.names.Names.{Names}
use Rattle.st_shape.specs.Rules.{Drawing}
use Rattle.st_sides.specs.Sides.{SidesValue, edge_count}
use Rattle.st_sides.specs.SidesOf.{IsSidesOf}
use Rattle.st_test.specs.Planar.{StValue}
use Rattle.draw_vis.specs.Tessellation.{IsTessellation}
use Rattle.draw_vis.specs.Visibility.{IsVisibility}
use Rattle.st_parts.specs.Parts.{parts_in}
use Rattle.st_parts.specs.Used.{first_with}
use Rattle.st_parts.specs.declared.parts.Parts.{Parts}
use Rattle.st_input.specs.Embedding.{embedded_graph}
use Rattle.st_input.specs.Faults.{or_else, first_fault, node_fault, edge_fault, node_names, ids_fault, orders_fault, edge_names}
use Rattle.st_input.specs.FirstFault.{limits_fault, outer_fault, parts_fault, text_fault, graph_fault, shape_fault}
use Rattle.st_input.specs.InputGraph.{InputGraph}
use Rattle.st_input.specs.Laws.{LengthsDefault}
use Rattle.st_input.specs.declared.fault.ShapeFault.{ShapeFault}
use Rattle.st_input.specs.declared.fault.ShapeFault.TheVariants.{TooManyVertices, TooManyEdges}
use Rattle.st_ids.specs.declared.limits.TheConstants.{MOST_BYTES, MOST_EDGES, MOST_VERTICES}
use Rattle.st_report.specs.declared.stop.Refusal.{Refusal}
use Rattle.st_report.specs.declared.stop.Refusal.TheVariants.{Shape}
use Rattle.st_verdict.specs.File.{IsTree, IsGraph, IsGraphWithin}
use Rattle.st_verdict.specs.Stages.{Then, refuses, goes_on}
use Rattle.st_verdict.specs.Verdict.{IsAccepted, IsFound}
use Rattle.st_verdict.proofs.Public.{found}
use Rattle.st_words.specs.declared.words.Command.{Command}
use Rattle.st_words.specs.declared.words.Command.TheVariants.{Query, Test, Draw, Lattice}
use Rattle.st_words.specs.declared.words.DrawForm.{DrawForm}
use Rattle.st_words.specs.declared.words.DrawForm.TheVariants.{Visibility, Tessellation, Constrained, Polyline, Dominance}
use Rattle.st_words.specs.declared.words.Spot.{Spot}
use Rattle.stdraw_core.specs.Answer.{AnswersCommand, AnswersGraph, AnswersFile}
use Rattle.stdraw_core.specs.Drawing.{edge_length, file_names, Depicts, Draws, IsAlignedPicture, IsPictureOf, IsPlacedPolyline}
use Rattle.stdraw_core.specs.FirstFormat.{first_bytes, first_vertices, first_edges, one_each, IsFirstFew, IsFirstGraph, IsFirstGraphWithin, IsFirstPolyline, IsFirstAligned, IsFirstPicture, DrawsFirst, AnswersFirst, AnswersFirstFile, KeepsFirst, FirstFormatLaw}
use Rattle.stdraw_core.proofs.DrawingLemmas.{same_greatest, same_numbers}

-- ---- faults
-- the fault isn't that a limit is passed
record IsOther (f : ShapeFault) : Type 0 where
  pub vertices : (n : ℕ) → f ≢ TooManyVertices n
  pub edges : (m : ℕ) → f ≢ TooManyEdges m

-- where the first finds nothing, or a fault that is no limit, so does the second
record Goes (a b : Option ShapeFault) : Type 0 where
  pub none : a ≡ None → b ≡ None
  pub some : (f : ShapeFault) → IsOther f → a ≡ Some f → b ≡ Some f

goes_else : (a b c : Option ShapeFault) → Goes b c → Goes (or_else a b) (or_else a c)
goes_else None b c h = h
goes_else (Some x) b c h = record { none = λ e. e; some = λ f o e. e }

-- larger limits: the edges alone
edges_go : (m b b' : ℕ) → b ≤ b' → (p p' : Bool) → nat_lt b m ≡ p → nat_lt b' m ≡ p' → Goes (cond p (Some (TooManyEdges m)) None) (cond p' (Some (TooManyEdges m)) None)
edges_go m b b' l true p' q q' = record { none = λ e. absurd (cc); some = λ f o e. absurd (o.edges m (let s : TooManyEdges m ≡ f = cc in sym s)) }
edges_go m b b' l false true q q' = absurd (grind (arith, nat_tests))
edges_go m b b' l false false q q' = record { none = λ e. e; some = λ f o e. e }

limits_go : (n m a b a' b' : ℕ) → a ≤ a' → b ≤ b' → Goes (limits_fault n m a b) (limits_fault n m a' b')
limits_go n m a b a' b' la lb = by (nat_lt a n) (nat_lt a' n) refl refl
  where
    by : (p p' : Bool) → nat_lt a n ≡ p → nat_lt a' n ≡ p'
        → Goes (cond p (Some (TooManyVertices n)) (cond (nat_lt b m) (Some (TooManyEdges m)) None)) (cond p' (Some (TooManyVertices n)) (cond (nat_lt b' m) (Some (TooManyEdges m)) None))
    by true p' q q' = record { none = λ e. absurd (cc); some = λ f o e. absurd (o.vertices n (let s : TooManyVertices n ≡ f = cc in sym s)) }
    by false true q q' = absurd (grind (arith, nat_tests))
    by false false q q' = edges_go m b b' lb (nat_lt b m) (nat_lt b' m) refl refl

parts_go : (p : Parts) (a b a' b' : ℕ) → a ≤ a' → b ≤ b' → Goes (parts_fault p a b) (parts_fault p a' b')
parts_go p a b a' b' la lb =
    goes_else (first_fault node_fault [] p.nodes) _ _
    (goes_else (first_fault (edge_fault (node_names p.nodes)) [] p.edges) _ _
    (goes_else (ids_fault p.edges) _ _
    (goes_else (orders_fault (edge_names p.edges) p.nodes) _ _
    (goes_else (outer_fault (edge_names p.edges) p.outer) _ _
    (limits_go (length p.nodes) (length p.edges) a b a' b' la lb)))))

shape_goes : (tree : Entries) (a b a' b' : ℕ) → a ≤ a' → b ≤ b' → Goes (shape_fault tree a b) (shape_fault tree a' b')
unfolding shape_fault
shape_goes tree a b a' b' la lb = by (first_with (codes "graph") (listed tree))
  where
    by : (o : Option Entry) → Goes (graph_fault (listed tree) o a b) (graph_fault (listed tree) o a' b')
    by None = record { none = λ e. e; some = λ f o e. e }
    by (Some g) = goes_else (text_fault (listed tree)) _ _ (parts_go (parts_in g) a b a' b' la lb)

graph_goes : (tree : Entries) → Goes (shape_fault tree first_vertices first_edges) (shape_fault tree MOST_VERTICES MOST_EDGES)
graph_goes tree = shape_goes tree first_vertices first_edges MOST_VERTICES MOST_EDGES (omega arith) (omega arith)

-- ---- pictures
module _ (g : InputGraph) (st : StValue) (is : IsFound g st) (ones : g.lengths ≡ replicate (length g.graph.ends) 1) where
  one : (e : ℕ) → e < length g.graph.ends → edge_length g e ≡ 1
  one e l = ap (λ ls. get_or ls e 0) ones ∙ get_or-replicate (length g.graph.ends) e 1 0 l

  module _ (x : SidesValue) (of : IsSidesOf st.map.graph st.source st.sink st.outer x) where
    same : (e : ℕ) → e < edge_count x → one_each e ≡ edge_length g e
    unfolding edge_count
    same e l = sym (one e (let q : length x.ends ≡ length g.graph.ends = ap length (of.ends ∙ is.ends) in omega arith))

    polyline : (spot : Spot) (N : Names) (d : Drawing) → IsFirstPolyline spot st.map.graph x N d → IsPlacedPolyline spot st.map.graph (edge_length g) x N d
    polyline spot N d h = record {
      weight = h.weight;
      rows = record {
        double = λ e l p. h.rows.double e l p ∙ ap (λ z. max 2 z) (sym (at e l));
        single = λ e l n. h.rows.single e l n ∙ sym (at e l);
      };
      column = h.column;
      picture = h.picture;
      placed = h.placed;
    }
      where
        at : (e : ℕ) → e < length st.map.graph.ends → edge_length g e ≡ 1
        at e l = one e (let q : length st.map.graph.ends ≡ length g.graph.ends = ap length is.ends in omega arith)

    aligned : (N : Names) (d : Drawing) → IsFirstAligned g x N d → IsAlignedPicture g x N d
    aligned N d h = record {
      known = h.known;
      sound = h.sound;
      is = record {
        y = h.is.y;
        paths = h.is.paths;
        x = h.is.x;
        heights = λ v l. same_greatest one_each (edge_length g) same x.source v (h.is.y v) (h.is.heights v l);
        completed = h.is.completed;
        columns = h.is.columns;
        is = h.is.is;
      };
    }

    picture : (form : DrawForm) (N : Names) (d : Drawing) → IsFirstPicture form g st x N d → IsPictureOf form g st x N d
    picture Visibility N d h = record { y = h.y; c = h.c; numbers = same_numbers x one_each (edge_length g) h.y h.c same h.numbers; is = h.is }
    picture Tessellation N d h = record { y = h.y; c = h.c; numbers = same_numbers x one_each (edge_length g) h.y h.c same h.numbers; is = h.is }
    picture Constrained N d h = aligned N d h
    picture (Polyline spot) N d h = polyline spot N d h
    picture Dominance N d h = h

  drawn : (form : DrawForm) (out : List ℕ) → DrawsFirst form g st out → Draws form g st out
  drawn form out h = record {
    picture = h.picture;
    depicts = record { sides = h.sides; are = h.are; is = picture h.sides h.are.sides form (file_names g) h.picture h.is; rules = h.rules };
    told = h.told;
  }

  answers : (command : Command) (answer : Result (List ℕ) Refusal) → AnswersFirst command g st answer → AnswersCommand command g st answer
  answers (Draw form) (Ok out) h = drawn form out h
  answers (Draw form) (Err r) h = h
  answers Test answer h = h
  answers (Query pairs) answer h = h
  answers (Lattice op from to) answer h = h

-- ---- files
no_limit : (answer : Result (List ℕ) Refusal) (r : Refusal) (f : ShapeFault) → answer ≡ Err r → r ≡ Shape f
    → ((n : ℕ) → answer ≢ Err (Shape (TooManyVertices n))) → ((m : ℕ) → answer ≢ Err (Shape (TooManyEdges m))) → IsOther f
no_limit answer r f is why v e = record {
  vertices = λ n q. v n (is ∙ ap (λ z. Err z) (why ∙ ap (λ z. Shape z) q));
  edges = λ m q. e m (is ∙ ap (λ z. Err z) (why ∙ ap (λ z. Shape z) q));
}

then_goes : (command : Command) (g : InputGraph) → g.lengths ≡ replicate (length g.graph.ends) 1 → (answer : Result (List ℕ) Refusal)
    → Then (IsAccepted g) (AnswersFirst command g) answer → AnswersGraph command g answer
then_goes command g ones answer (refuses r h is) = refuses r h is
then_goes command g ones answer (goes_on st at h) = goes_on st at (answers g st (found g st at) ones command answer h)

pub first_format : LengthsDefault → FirstFormatLaw
first_format lengths command bytes answer keeps (refuses r (refuses s h q) is) =
    absurd (keeps.few_bytes (is ∙ (let e : r ≡ s = cc in ap (λ z. Err z) (e ∙ h.0))))
first_format lengths command bytes answer keeps (refuses r (goes_on u few (refuses s h q)) is) =
    refuses r (goes_on u (let f : length bytes ≤ first_bytes = few in let m : length bytes ≤ MOST_BYTES = omega arith in m) (refuses s h q)) is
first_format lengths command bytes answer keeps (refuses r (goes_on u few (goes_on tree text h)) is) =
    let other = no_limit answer r h.fault is h.is keeps.few_vertices keeps.few_edges in
    refuses r
    (goes_on u (let f : length bytes ≤ first_bytes = few in let m : length bytes ≤ MOST_BYTES = omega arith in m)
    (goes_on tree text (record { fault = h.fault; is = h.is; holds = (graph_goes tree).some h.fault other h.holds }))) is
first_format lengths command bytes answer keeps (goes_on g (refuses s h q) rest) = absurd (cc)
first_format lengths command bytes answer keeps (goes_on g (goes_on u few (refuses s h q)) rest) = absurd (cc)
first_format lengths command bytes answer keeps (goes_on g (goes_on u few (goes_on tree text h)) rest) =
    goes_on g
    (goes_on u (let f : length bytes ≤ first_bytes = few in let m : length bytes ≤ MOST_BYTES = omega arith in m) (goes_on tree text ((graph_goes tree).none h.0, h.1)))
    (then_goes command g (lengths tree g (keeps.plain tree text) h.1) answer rest)
