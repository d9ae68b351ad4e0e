-- The paths of a file are drawn or refused, and in one way.
--   edges_there         edges of known names are edges of the sides
--   valid_not_refused   valid paths aren't refused
--   drawn_valid         the paths of a drawing are valid
--   same_refusal        paths are refused for one reason
--   right_aligned       the picture of valid paths is right
--   one_aligned         and it is one
use Rattle.std.proofs.Common.{◌≡◌, ℕ, ◌<◌, ℤ, List, length, get_or, Some, None, refl, sym, ap, ◌∙◌, subst, arith}
use Rattle.std.specs.Prelude.{Option}
use Rattle.st_ids.specs.Lists.{In}
use Rattle.st_ids.specs.declared.ids.EdgeId.{EdgeId}
use Rattle.st_ids.specs.declared.ids.VertexId.{VertexId}
use Rattle.st_ids.specs.declared.names.Names.{Names}
use Rattle.st_input.specs.InputGraph.{InputGraph, IsConsistent}
use Rattle.st_input.specs.Paths.{ArePathsThere, path_name_fault}
use Rattle.st_input.specs.declared.fault.PathNameFault.{PathNameFault}
use Rattle.st_input.specs.declared.fault.PathNameFault.TheVariants as unknown
use Rattle.st_input.proofs.Public.{paths_within}
use Rattle.st_test.specs.Planar.{StValue}
use Rattle.st_shape.specs.Rules.{Drawing}
use Rattle.st_sides.specs.Sides.{SidesValue, IsSides, edge_count}
use Rattle.st_sides.specs.SidesOf.{IsSidesOf}
use Rattle.st_sides.proofs.Public.{meaning_law, one_value_law, in_at}
use Rattle.st_picture.specs.Drawn.{IsDrawn}
use Rattle.st_picture.specs.Naming.{AreNames}
use Rattle.draw_align.specs.Constrained.{IsAligned, IsConstrained, IsConstrainedBy}
use Rattle.draw_align.specs.Faults.{AreThere, IsFirstPathFault, IsPathFault}
use Rattle.draw_align.specs.Listed.{AreSound, path_at}
use Rattle.draw_align.specs.declared.path_fault.PathFault.{PathFault}
use Rattle.draw_align.specs.declared.path_fault.PathFault.TheVariants as fault
use Rattle.draw_align.proofs.Public.{fault_law, constrained_law, picture_law}
use Rattle.st_words.specs.declared.words.DrawForm.{DrawForm}
use Rattle.st_words.specs.declared.words.DrawForm.TheVariants.{Visibility, Tessellation, Constrained, Polyline, Dominance}
use Rattle.st_report.specs.declared.stop.BadPath.{BadPath}
use Rattle.st_report.specs.declared.stop.BadPath.TheVariants.{UnknownEdge}
use Rattle.st_report.specs.declared.stop.Refusal.{Refusal}
use Rattle.st_report.specs.declared.stop.Refusal.TheVariants.{Path}
use Rattle.stdraw_core.specs.Drawing.{edge_length, Draws, IsAlignedPicture}
use Rattle.stdraw_core.specs.Paths.{AreSidesIn, HasKnownEdges, HasValidPaths, IsBadPath, RefusesDraw, TellsPath, first_fault, paths_in, unknown_edge}
use Rattle.st_verdict.specs.Verdict.{IsFound}
use Rattle.st_verdict.specs.Stages.{IsToldBy}
use Rattle.st_verdict.proofs.Public.{told_one}
use Rattle.stdraw_core.proofs.DrawingLemmas.{lengths_from_one, same_greatest}

-- edges of the file's graph are edges of the sides
pub as_sides : (g : InputGraph) (st : StValue) (x : SidesValue) → IsFound g st → IsSidesOf st.map.graph st.source st.sink st.outer x → (ps : List (List ℕ)) → ArePathsThere g.graph ps → AreThere x ps
unfolding edge_count path_at
as_sides g st x is of ps there p e l i =
    let m : length x.ends ≡ length g.graph.ends = ap length (of.ends ∙ is.ends) in
    let h : e < length g.graph.ends = there p e l i in
    omega arith

-- the picture under answers that are these weights
constrained_by : (post : EdgeId → ℕ → Type 0) (x : SidesValue) (w : ℕ → ℕ) (ps : List (List ℕ)) (N : Names) (d : Drawing) → ((e : EdgeId) (n : ℕ) → e.0 < edge_count x → post e n → n ≡ w e.0)
    → IsConstrainedBy post x ps N d → IsConstrained x w ps N d
constrained_by post x w ps N d answers h = record {
  y = h.picture.y;
  paths = h.picture.paths;
  x = h.picture.x;
  heights = λ v l. same_greatest h.weight w (λ e l. answers (record { 0 = e }) (h.weight e) l (h.taken e l)) x.source v (h.picture.y v) (h.picture.heights v l);
  completed = h.picture.completed;
  columns = h.picture.columns;
  is = h.picture.is;
}

pub aligned_by : (post : EdgeId → ℕ → Type 0) (g : InputGraph) (x : SidesValue) (ps : List (List ℕ)) → ps ≡ paths_in g → HasKnownEdges g → (N : Names) (d : Drawing)
    → ((e : EdgeId) (n : ℕ) → e.0 < edge_count x → post e n → n ≡ edge_length g e.0)
    → AreSound x ps (length ps) → IsConstrainedBy post x ps N d → IsAlignedPicture g x N d
aligned_by post g x ps same known N d answers sound h = record {
  known = known;
  sound = subst (λ z. AreSound x z (length z)) same sound;
  is = subst (λ z. IsConstrained x (edge_length g) z N d) same (constrained_by post x (edge_length g) ps N d answers h);
}

-- a fault is told in one way
told_same : (g : InputGraph) (f : PathFault) (a b : BadPath) → TellsPath g f a → TellsPath g f b → a ≡ b
told_same g (fault.NotAPath p) a b h k = h ∙ sym k
told_same g (fault.SharedEdge p e) a b h k = h ∙ sym k
told_same g (fault.Crossing p q v) a b h k = h ∙ sym k
told_same g fault.NoMemory a b h k = absurd h

-- known names have no fault
known_apart : (g : InputGraph) (f : PathNameFault) → HasKnownEdges g → path_name_fault g.edge_names g.paths ≡ Some f → ⊥
known_apart g f h k = let e : None ≡ Some f = sym h ∙ k in cc

same_name : (g : InputGraph) (p q : ℕ) (n m : ℤ) → path_name_fault g.edge_names g.paths ≡ Some (unknown.UnknownEdge p n) → path_name_fault g.edge_names g.paths ≡ Some (unknown.UnknownEdge q m) → (p ≡ q) × (n ≡ m)
same_name g p q n m h k =
    let e : (let o : Option PathNameFault = Some (unknown.UnknownEdge p n) in o) ≡ Some (unknown.UnknownEdge q m) = sym h ∙ k in
    let a : p ≡ q = cc in
    let b : n ≡ m = cc in
    (a, b)

module _ (g : InputGraph) (st : StValue) (tables : IsConsistent g) (is : IsFound g st) where
  pub edges_there : (x : SidesValue) → IsSidesOf st.map.graph st.source st.sink st.outer x → HasKnownEdges g → AreThere x (paths_in g)
  edges_there x of known =
      as_sides g st x is of (paths_in g) (λ p e l i.
      let n : length g.edge_names ≡ length g.graph.ends = tables.edge_names in
      let h : e < length g.edge_names = paths_within g.edge_names 0 g.paths p e known i in
      omega arith)

  same_sides : (x y : SidesValue) → AreSidesIn st x → AreSidesIn st y → x ≡ y
  same_sides x y h k = one_value_law st.map.graph st.source st.sink st.outer x y is.planar h.sides h.sizes k.sides k.sizes

  are_sides : (x : SidesValue) → AreSidesIn st x → IsSides x
  are_sides x h = meaning_law st.map.graph st.source st.sink st.outer x is.planar h.sides

  same_bad : (a b : BadPath) → IsBadPath g st a → IsBadPath g st b → a ≡ b
  same_bad a b (unknown_edge p n e q) (unknown_edge p' n' e' q') =
      let same = same_name g p p' n n' e e' in
      q ∙ ap (λ z. UnknownEdge z n) same.0 ∙ ap (λ z. UnknownEdge p' z) same.1 ∙ sym q'
  same_bad a b (unknown_edge p n e q) (first_fault known y are f first tells) = absurd (known_apart g _ known e)
  same_bad a b (first_fault known x are f first tells) (unknown_edge p n e q) = absurd (known_apart g _ known e)
  same_bad a b (first_fault known x are f first tells) (first_fault known' y are' f' first' tells') =
      let one : y ≡ x = same_sides y x are' are in
      let moved : IsFirstPathFault x (paths_in g) f' = subst (λ (z : SidesValue). IsFirstPathFault z (paths_in g) f') one first' in
      let same : f ≡ f' = (fault_law x (are_sides x are) (paths_in g) (edges_there x are.sides known)).one f f' first moved in
      told_same g f' a b (subst (λ (z : PathFault). TellsPath g z a) same tells) tells'

  sound_not_bad : (x : SidesValue) → AreSidesIn st x → HasKnownEdges g → AreSound x (paths_in g) (length (paths_in g)) → (why : BadPath) → IsBadPath g st why → ⊥
  sound_not_bad x are known sound why (unknown_edge p n e q) = known_apart g _ known e
  sound_not_bad x are known sound why (first_fault known' y are' f first tells) =
      let one : y ≡ x = same_sides y x are' are in
      (fault_law x (are_sides x are) (paths_in g) (edges_there x are.sides known)).none f sound (subst (λ (z : SidesValue). IsFirstPathFault z (paths_in g) f) one first)

  pub valid_not_refused : (form : DrawForm) (r : Refusal) → HasValidPaths form g st → RefusesDraw form g st r → ⊥
  valid_not_refused Visibility r h k = k
  valid_not_refused Tessellation r h k = k
  valid_not_refused Constrained r h k = sound_not_bad h.sides h.are h.known h.sound k.fault k.holds
  valid_not_refused (Polyline spot) r h k = k
  valid_not_refused Dominance r h k = k

  pub drawn_valid : (form : DrawForm) (out : List ℕ) → Draws form g st out → HasValidPaths form g st
  drawn_valid Visibility out h = tt
  drawn_valid Tessellation out h = tt
  drawn_valid Constrained out h = record { known = h.depicts.is.known; sides = h.depicts.sides; are = h.depicts.are; sound = h.depicts.is.sound }
  drawn_valid (Polyline spot) out h = tt
  drawn_valid Dominance out h = tt

  pub same_refusal : (form : DrawForm) (r s : Refusal) → RefusesDraw form g st r → RefusesDraw form g st s → r ≡ s
  same_refusal Visibility r s h k = absurd h
  same_refusal Tessellation r s h k = absurd h
  same_refusal Constrained r s h k = told_one (λ why. Path why) (IsBadPath g st) same_bad r s h k
  same_refusal (Polyline spot) r s h k = absurd h
  same_refusal Dominance r s h k = absurd h

  pub right_aligned : (x : SidesValue) → AreSidesIn st x → (N : Names) → AreNames x N → (d : Drawing) → IsAlignedPicture g x N d → IsDrawn x d × IsAligned x (paths_in g) d
  right_aligned x are N names d h =
      let law = constrained_law x (are_sides x are) (paths_in g) (edges_there x are.sides h.known) h.sound in
      (law.drawn (edge_length g) (lengths_from_one g st x tables is are.sides) N names d h.is, law.aligned (edge_length g) N d h.is)

  pub one_aligned : (x : SidesValue) → AreSidesIn st x → (N : Names) (d d' : Drawing) → IsAlignedPicture g x N d → IsAlignedPicture g x N d' → d ≡ d'
  one_aligned x are N d d' h k = (picture_law x (are_sides x are) (paths_in g) (edges_there x are.sides h.known)).one (edge_length g) N d d' h.is k.is

-- ---- faults that the code is told
-- what is told of the first fault
pub path_told : (g : InputGraph) (st : StValue) (x : SidesValue) (ps : List (List ℕ)) → ps ≡ paths_in g → HasKnownEdges g → AreSidesIn st x → (f : PathFault) (why : BadPath) → IsPathFault x ps f → TellsPath g f why → IsBadPath g st why
path_told g st x ps same known are (fault.NotAPath p) why h tells = first_fault known x are (fault.NotAPath p) (subst (λ z. IsFirstPathFault x z (fault.NotAPath p)) same h) tells
path_told g st x ps same known are (fault.SharedEdge p e) why h tells = first_fault known x are (fault.SharedEdge p e) (subst (λ z. IsFirstPathFault x z (fault.SharedEdge p e)) same h) tells
path_told g st x ps same known are (fault.Crossing p q v) why h tells = first_fault known x are (fault.Crossing p q v) (subst (λ z. IsFirstPathFault x z (fault.Crossing p q v)) same h) tells
path_told g st x ps same known are fault.NoMemory why h tells = absurd tells

-- the shared edge and the vertex of a crossing are there
pub shared_there : (g : InputGraph) (st : StValue) (x : SidesValue) → IsFound g st → IsSidesOf st.map.graph st.source st.sink st.outer x → (ps : List (List ℕ)) → AreThere x ps
    → (p : ℕ) (e : EdgeId) → IsFirstPathFault x ps (fault.SharedEdge p e) → e.0 < length g.graph.ends
unfolding edge_count
shared_there g st x is of ps there p e h =
    let l : e.0 < length x.ends = there h.path e.0 h.there (in_at e.0 (path_at ps h.path) h.fault.2.place h.fault.2.there h.fault.2.is) in
    let m : length x.ends ≡ length g.graph.ends = ap length (of.ends ∙ is.ends) in
    omega arith

pub crossing_there : (g : InputGraph) (st : StValue) (x : SidesValue) → IsFound g st → IsSidesOf st.map.graph st.source st.sink st.outer x → IsSides x → (ps : List (List ℕ)) → AreThere x ps
    → (p q : ℕ) (v : VertexId) → IsFirstPathFault x ps (fault.Crossing p q v) → v.0 < g.graph.vertices
crossing_there g st x is of S ps there p q v h =
    let e = get_or (path_at ps h.path) h.fault.3.place 0 in
    let i : In e (path_at ps h.path) = in_at e (path_at ps h.path) h.fault.3.place h.fault.3.there refl in
    let l : v.0 < x.vertices = subst (λ z. z < x.vertices) h.fault.3.at (S.head_in e (there h.path e h.there i)) in
    let m : x.vertices ≡ g.graph.vertices = of.vertices ∙ is.vertices in
    omega arith

pub told_by : (g : InputGraph) (st : StValue) (why : BadPath) → IsBadPath g st why → IsToldBy (λ z. Path z) (IsBadPath g st) (Path why)
told_by g st why h = record { fault = why; is = refl; holds = h }
