-- The laws of specs/Laws, put together.
use Rattle.std.proofs.Common.{◌≡◌, ◌≢◌, ℕ, ◌<◌, sym, ◌∙◌, subst, arith}
use Rattle.st_map.specs.Orbits.{iterate, SameOrbit}
use Rattle.st_sides.specs.Runs.{TwoRuns}
use Rattle.st_ids.specs.Ends.{is_out}
use Rattle.st_map.specs.Embedded.{Embedded, darts, at, next, phi}
use Rattle.st_test.specs.Planar.{IsPlanarSt}
use Rattle.st_sides.specs.Laws.{VertexTurns, FaceTurns, CornersLaw, SidesLaw, LocalLaw}
use Rattle.st_map.proofs.Public.{turn_covers, same_vertex}
use Rattle.st_sides.proofs.FaceRuns.{at_st, face_runs, vertex_runs, outer_low, outer_high, out_at_s, in_at_t, poles_apart}
use Rattle.st_sides.proofs.StarLemmas.{next_st}
use Rattle.st_sides.proofs.PathLemmas.{right_path_of, left_path_of}
use Rattle.st_sides.proofs.SideLemmas.{sides_exist}
use Rattle.st_sides.proofs.LocalLemmas.{at_vertices}
use Rattle.st_sides.proofs.FaceEdgeLemmas.{at_faces}

module _ (g : Embedded) (s t outer : ℕ) (st : IsPlanarSt g s t outer) where
  vertex_turns : (v : ℕ) → v < g.vertices → v ≢ s → v ≢ t → VertexTurns g v
  vertex_turns v l ns nt =
      let r : (x : ℕ) × (k : ℕ) × (p : ℕ) × (x < darts g) × (at g x ≡ v) × TwoRuns (next g) is_out x k p = vertex_runs g s t outer st v l ns nt in
      record {
        x = r.0;
        k = r.1;
        p = r.2;
        x_in = r.3;
        at_x = r.4;
        runs = r.5;
        all = λ d ld e. turn_covers (darts g) (next g) (next_st g s t outer st) r.0 r.2 d (omega (arith, r.5.more)) r.5.back
            (same_vertex g st.orders (at_st g s t outer st) r.0 d r.3 ld (r.4 ∙ sym e));
      }

  face_turns : (d : ℕ) → d < darts g → (low : ℕ) × (high : ℕ) × FaceTurns g d low high
  face_turns d l =
      let r : (x : ℕ) × (k : ℕ) × (p : ℕ) × (x < darts g) × SameOrbit (phi g) d x × TwoRuns (phi g) is_out x k p = face_runs g s t outer st d l in (
        at g r.0,
        at g (iterate r.1 (phi g) r.0),
        record {
          x = r.0;
          k = r.1;
          p = r.2;
          x_in = r.3;
          on_face = r.4;
          runs = r.5;
          right = (right_path_of g s t outer st d r.0 r.1 r.2 l r.3 r.4 r.5).walk;
          left = (left_path_of g s t outer st d r.0 r.1 r.2 l r.3 r.4 r.5).walk;
        },
      )

  outer_turns : FaceTurns g outer s t
  outer_turns =
      let r : (x : ℕ) × (k : ℕ) × (p : ℕ) × (x < darts g) × SameOrbit (phi g) outer x × TwoRuns (phi g) is_out x k p = face_runs g s t outer st outer st.outer_in in
      let low : at g r.0 ≡ s = outer_low g s t outer st r.0 r.1 r.2 r.3 r.4 r.5 in
      let high : at g (iterate r.1 (phi g) r.0) ≡ t = outer_high g s t outer st r.0 r.1 r.2 r.3 r.4 r.5 in
      let f : FaceTurns g outer (at g r.0) (at g (iterate r.1 (phi g) r.0)) = record {
        x = r.0;
        k = r.1;
        p = r.2;
        x_in = r.3;
        on_face = r.4;
        runs = r.5;
        right = (right_path_of g s t outer st outer r.0 r.1 r.2 st.outer_in r.3 r.4 r.5).walk;
        left = (left_path_of g s t outer st outer r.0 r.1 r.2 st.outer_in r.3 r.4 r.5).walk;
      } in
      subst (λ v. FaceTurns g outer v t) low (subst (λ v. FaceTurns g outer (at g r.0) v) high f)

pub corners_law : CornersLaw
corners_law g s t outer st = record {
  vertices = vertex_turns g s t outer st;
  source = out_at_s g s t outer st;
  sink = in_at_t g s t outer st;
  faces = face_turns g s t outer st;
  outer_face = outer_turns g s t outer st;
  poles = poles_apart g s t outer st;
}

pub sides_law : SidesLaw
sides_law = sides_exist

pub local_law : LocalLaw
local_law g s t outer st outs ins low high left_path right_path sides =
    (at_vertices g s t outer st outs ins low high left_path right_path sides, at_faces g s t outer st outs ins low high left_path right_path sides)
