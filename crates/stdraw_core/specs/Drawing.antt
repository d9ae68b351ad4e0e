-- What a drawing answers about a planar st-graph.
-- Letters: g graph of the file, st planar st-graph, x its sides, N names, d picture.
--   edge_length g e            the length of an edge of the file: how many rows it takes at least
--   file_names g               the names and labels of the file
--   ArePolylineRows g l w      the weights of a polyline picture: the lengths l, but 2 at least where another edge has the same ends
--   AnswersLengths answer g    what a closure has to answer for the lengths of the file
--   spot_place spot lo hi      the column of a dot between the ends of a bar
--   AnswersRows, AnswersPlaces what closures have to answer for these weights and columns
--   IsPlacedPolyline           the polyline picture with these weights and columns
--   IsReducedPicture st x N d  the dominance picture, by the reduced graph
--   IsAlignedPicture g x N d   the picture with the edges of each path in one column
--   IsPictureOf form g st x N d   d is the picture of the form
--   Depicts form g st d        d is that picture, by the sides of st and in the names of the file; it keeps the rules of pictures
--   Draws form g st out        out is the EPS text of that picture
--   IsRightPicture form g x d  clean, rising and in order, or for a tessellation: its boxes tile the frame in order
--   AnswersDraw form g st answer   that text, or why the paths can't be drawn
--   ShowsFile form g st out    out is the EPS text of a right picture, in the orders of the file
use Rattle.std.specs.Prelude.{◌≡◌, ℕ, ◌+◌, ◌-◌, ◌/◌, ◌<◌, max, List, ℤ, pos, length, slice_index, Result, Ok, Err}
use Rattle.st_ids.specs.declared.names.Names.{Names}
use Rattle.st_map.specs.Embedded.{Embedded, edges, order}
use Rattle.st_test.specs.Planar.{StValue}
use Rattle.st_sides.specs.Sides.{SidesValue, outs, ins, left_of, right_of}
use Rattle.st_sides.specs.Normal.{clockwise}
use Rattle.st_sides.specs.Rotation.{IsCyclicShift}
use Rattle.st_shape.specs.Rules.{Drawing, IsPicture}
use Rattle.st_picture.specs.Drawn.{IsDrawn}
use Rattle.st_ids.specs.declared.ids.EdgeId.{EdgeId}
use Rattle.st_number.specs.Parallel.{HasParallel}
use Rattle.draw_poly.specs.Placing.{AreEnds}
use Rattle.st_shape.specs.declared.point.Point.{Point}
use Rattle.draw_dom.specs.Shown.{IsDominanceOf}
use Rattle.draw_dom.specs.Pictures.{ShowsReaching}
use Rattle.draw_poly.specs.Polyline.{IsPolylines}
use Rattle.draw_align.specs.Constrained.{IsAligned, IsConstrained}
use Rattle.draw_align.specs.Listed.{AreSound}
use Rattle.draw_vis.specs.Visibility.{IsVisibility}
use Rattle.draw_vis.specs.Tessellation.{IsTessellation}
use Rattle.draw_vis.specs.Rows.{IsTessellated}
use Rattle.eps_core.specs.Text.{text}
use Rattle.st_input.specs.InputGraph.{InputGraph}
use Rattle.st_report.specs.declared.stop.Refusal.{Refusal}
use Rattle.st_words.specs.declared.words.DrawForm.{DrawForm}
use Rattle.st_words.specs.declared.words.DrawForm.TheVariants.{Visibility, Tessellation, Constrained, Polyline, Dominance}
use Rattle.st_words.specs.declared.words.Spot.{Spot}
use Rattle.st_words.specs.declared.words.Spot.TheVariants.{Left, Middle, Right}
use Rattle.stdraw_core.specs.Paths.{AreSidesIn, HasKnownEdges, RefusesDraw, paths_in}

-- the length of an edge of the file: how many rows it takes at least
abbrev pub edge_length : InputGraph → ℕ → ℕ
edge_length g e = slice_index g.lengths e

-- the names and labels of the file
abbrev pub file_names : InputGraph → Names
file_names g = record { vertex = g.vertex_names; edge = g.edge_names; label = g.labels }

-- an edge takes as many rows as its length, and two at least where another edge has the same ends
pub record ArePolylineRows (g : Embedded) (l w : ℕ → ℕ) : Type 0 where
  pub double : (e : ℕ) → e < edges g → HasParallel g e → w e ≡ max 2 (l e)
  pub single : (e : ℕ) → e < edges g → ¬ HasParallel g e → w e ≡ l e

-- at the left end of the bar, in its middle, or at its right end
abbrev pub spot_place : Spot → ℕ → ℕ → ℕ
spot_place Left lo hi = lo
spot_place Middle lo hi = lo + (hi - lo) / 2
spot_place Right lo hi = hi

-- whatever the closure answers on an edge is its length in the file
abbrev pub AnswersLengths : (EdgeId → ℕ → Type 0) → InputGraph → Type 0
AnswersLengths answer g = (e : EdgeId) (n : ℕ) → e.0 < length g.lengths → answer e n → n ≡ edge_length g e.0

-- whatever the closure answers on an edge of the graph is how many rows it takes in a polyline picture
pub record AnswersRows (answer : EdgeId → ℕ → Type 0) (g : Embedded) (l : ℕ → ℕ) : Type 0 where
  pub double : (e : EdgeId) (n : ℕ) → e.0 < edges g → HasParallel g e.0 → answer e n → n ≡ max 2 (l e.0)
  pub single : (e : EdgeId) (n : ℕ) → e.0 < edges g → ¬ HasParallel g e.0 → answer e n → n ≡ l e.0

-- whatever the closure answers between two ends of a bar is the column of the spot
abbrev pub AnswersPlaces : Spot → (ℤ → ℤ → ℤ → Type 0) → Type 0
AnswersPlaces spot answer = (l h : ℕ) (x : ℤ) → AreEnds (pos l) (pos h) → answer (pos l) (pos h) x → x ≡ pos (spot_place spot l h)

-- The polyline picture in which each vertex stands at this spot of its bar.
pub record IsPlacedPolyline (spot : Spot) (g : Embedded) (l : ℕ → ℕ) (x : SidesValue) (N : Names) (d : Drawing) : Type 0 where
  pub weight : ℕ → ℕ
  pub rows : ArePolylineRows g l weight
  pub column : ℕ → ℕ
  pub picture : IsPolylines x weight column N d
  pub placed : (v : ℕ) → v < x.vertices → column v ≡ spot_place spot (picture.c (left_of x v)) (picture.c (right_of x v) - 1)

-- The dominance picture, with the points of the vertices in the reduced graph.
pub record IsReducedPicture (st : StValue) (x : SidesValue) (N : Names) (d : Drawing) : Type 0 where
  pub points : List Point
  pub is : IsDominanceOf st.map.graph st.source st.sink st.outer x N d points

-- The constrained picture of valid paths.
pub record IsAlignedPicture (g : InputGraph) (x : SidesValue) (N : Names) (d : Drawing) : Type 0 where
  pub known : HasKnownEdges g
  pub sound : AreSound x (paths_in g) (length (paths_in g))
  pub is : IsConstrained x (edge_length g) (paths_in g) N d

-- the picture of the form
abbrev pub IsPictureOf : DrawForm → InputGraph → StValue → SidesValue → Names → Drawing → Type 0
IsPictureOf Visibility g st x N d = IsVisibility x (edge_length g) N d
IsPictureOf Tessellation g st x N d = IsTessellation x (edge_length g) N d
IsPictureOf Constrained g st x N d = IsAlignedPicture g x N d
IsPictureOf (Polyline spot) g st x N d = IsPlacedPolyline spot st.map.graph (edge_length g) x N d
IsPictureOf Dominance g st x N d = IsReducedPicture st x N d

-- the picture of the form, by the sides of the planar st-graph and in the names of the file; it keeps the rules of pictures
pub record Depicts (form : DrawForm) (g : InputGraph) (st : StValue) (d : Drawing) : Type 0 where
  pub sides : SidesValue
  pub are : AreSidesIn st sides
  pub is : IsPictureOf form g st sides (file_names g) d
  pub rules : IsPicture d

-- the EPS text of that picture
pub record Draws (form : DrawForm) (g : InputGraph) (st : StValue) (out : List ℕ) : Type 0 where
  pub picture : Drawing
  pub depicts : Depicts form g st picture
  pub told : out ≡ text picture

-- nothing is wrong with the picture: it is clean, its lines rise, and it shows the order at each vertex; or its boxes tile the
-- frame and show the order; in the constrained form the edges of each path stand in one column; and in the dominance form one
-- vertex reaches another exactly where its point is at most the other's
abbrev pub IsRightPicture : DrawForm → InputGraph → SidesValue → Drawing → Type 0
IsRightPicture Visibility g x d = IsDrawn x d
IsRightPicture Tessellation g x d = IsTessellated x d
IsRightPicture Constrained g x d = IsDrawn x d × IsAligned x (paths_in g) d
IsRightPicture (Polyline spot) g x d = IsDrawn x d
IsRightPicture Dominance g x d = IsDrawn x d × ShowsReaching x d

-- The output is the text of a picture in which nothing is wrong. The orders that it shows are those of the file, each read on
-- from one of its places.
pub record ShowsFile (form : DrawForm) (g : InputGraph) (st : StValue) (out : List ℕ) : Type 0 where
  pub drawn : Draws form g st out
  pub right : IsRightPicture form g drawn.depicts.sides drawn.picture
  pub orders : (v : ℕ) → v < st.map.graph.vertices → IsCyclicShift (order st.map.graph v) (clockwise (outs drawn.depicts.sides v) (ins drawn.depicts.sides v))

-- what a drawing answers: the text of the picture of the form, or why the paths can't be drawn
abbrev pub AnswersDraw : DrawForm → InputGraph → StValue → Result (List ℕ) Refusal → Type 0
AnswersDraw form g st (Ok out) = Draws form g st out
AnswersDraw form g st (Err refusal) = RefusesDraw form g st refusal
