-- What is proved of the two pictures. Letters: g sides, w weights of the edges, N names, d picture, e edge.
--   VisibilityLaw g        each visibility picture is drawn right
--   TessellationLaw g      each tessellation picture tiles its frame
--   PicturesLaw g          there is one picture of each form, for all weights and names
use Rattle.std.specs.Prelude.{ℕ, ◌≡◌}
use Rattle.st_ids.specs.declared.names.Names.{Names}
use Rattle.st_shape.specs.Rules.{Drawing}
use Rattle.st_sides.specs.Sides.{SidesValue}
use Rattle.st_number.specs.Numbers.{AreWeights}
use Rattle.st_picture.specs.Drawn.{IsDrawn}
use Rattle.st_picture.specs.Naming.{AreNames}
use Rattle.draw_vis.specs.Rows.{IsTessellated}
use Rattle.draw_vis.specs.Tessellation.{IsTessellation}
use Rattle.draw_vis.specs.Visibility.{IsVisibility}

-- each visibility picture is drawn right
abbrev pub VisibilityLaw : SidesValue → Type 0
VisibilityLaw g = (w : ℕ → ℕ) → AreWeights g w → (N : Names) → AreNames g N → (d : Drawing) → IsVisibility g w N d → IsDrawn g d

-- each tessellation picture tiles its frame and shows the orders
abbrev pub TessellationLaw : SidesValue → Type 0
TessellationLaw g = (w : ℕ → ℕ) → AreWeights g w → (N : Names) → AreNames g N → (d : Drawing) → IsTessellation g w N d → IsTessellated g d

-- For all weights and names there is a picture of each form, and two of one form are the same.
pub record PicturesLaw (g : SidesValue) : Type 0 where
  pub some_visibility : (w : ℕ → ℕ) (N : Names) → (d : Drawing) × IsVisibility g w N d
  pub one_visibility : (w : ℕ → ℕ) (N : Names) (d d' : Drawing) → IsVisibility g w N d → IsVisibility g w N d' → d ≡ d'
  pub some_tessellation : (w : ℕ → ℕ) (N : Names) → (d : Drawing) × IsTessellation g w N d
  pub one_tessellation : (w : ℕ → ℕ) (N : Names) (d d' : Drawing) → IsTessellation g w N d → IsTessellation g w N d' → d ≡ d'
