-- What is drawn is clean and short.
use Rattle.std.proofs.Common.{◌≡◌, ◌≤◌, length, ap, arith}
use Rattle.eps_core.specs.Size.{HasShortText}
use Rattle.st_ids.specs.declared.limits.TheConstants.{MOST_EDGES, MOST_VERTICES}
use Rattle.st_input.specs.InputGraph.{InputGraph}
use Rattle.st_input.specs.Laws.{KeepsLimits}
use Rattle.st_shape.specs.Rules.{Drawing}
use Rattle.st_shape.specs.Verdict.{IsRight}
use Rattle.st_sides.specs.Sides.{SidesValue}
use Rattle.st_words.specs.declared.words.DrawForm.{DrawForm}
use Rattle.st_words.specs.declared.words.DrawForm.TheVariants.{Visibility, Tessellation, Constrained, Polyline, Dominance}
use Rattle.stdraw_core.specs.Drawing.{IsRightPicture}
use Rattle.st_verdict.proofs.Public.{found}
use Rattle.st_verdict.specs.Verdict.{IsFound}
use Rattle.stdraw_core.specs.Headline.{AcceptsDrawings}
use Rattle.stdraw_core.proofs.DrawingSize.{short_out}

nothing_wrong : (form : DrawForm) (g : InputGraph) (x : SidesValue) (d : Drawing) → IsRightPicture form g x d → IsRight d
nothing_wrong Visibility g x d h = h.right
nothing_wrong Tessellation g x d h = h.right
nothing_wrong Constrained g x d h = h.0.right
nothing_wrong (Polyline spot) g x d h = h.right
nothing_wrong Dominance g x d h = h.0.right

pub drawings_accepted : HasShortText → KeepsLimits → AcceptsDrawings
drawings_accepted short limits bytes g st file form out shows =
    let d = shows.drawn.picture in
    let is : IsFound g st = found g st file.planar in
    let few : (g.graph.vertices ≤ MOST_VERTICES) × (length g.graph.ends ≤ MOST_EDGES) = limits file.tree MOST_VERTICES MOST_EDGES g file.graph.0 file.graph.1 in
    let ends : length st.map.graph.ends ≡ length g.graph.ends = ap length is.ends in (
      d,
      record {
        few = short_out short form g st out is.planar (omega (arith, few.0, is.vertices)) (omega (arith, few.1, ends)) shows;
        text = shows.drawn.told;
        picture = shows.drawn.depicts.rules;
        right = nothing_wrong form g shows.drawn.depicts.sides d shows.right;
      },
    )
