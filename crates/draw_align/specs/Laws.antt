-- What is proved of the answers: each is the only one.
-- Letters: g sides, ps the listed paths, w weights of the edges, N names, d picture, f fault.
--   OnePictureLaw g ps     sound paths have a constrained picture, and two under the same weights and names are the same
--   OneFaultLaw g ps       two first faults are the same, and there is none where the paths are sound
use Rattle.std.specs.Prelude.{ℕ, List, ◌≡◌, length}
use Rattle.st_ids.specs.declared.names.Names.{Names}
use Rattle.st_shape.specs.Rules.{Drawing}
use Rattle.st_sides.specs.Sides.{SidesValue}
use Rattle.draw_align.specs.declared.path_fault.PathFault.{PathFault}
use Rattle.draw_align.specs.Constrained.{IsConstrained}
use Rattle.draw_align.specs.Faults.{IsFirstPathFault}
use Rattle.draw_align.specs.Listed.{AreSound}

-- For all weights and names sound paths have a constrained picture, and two such pictures are the same.
pub record OnePictureLaw (g : SidesValue) (ps : List (List ℕ)) : Type 0 where
  pub some : AreSound g ps (length ps) → (w : ℕ → ℕ) (N : Names) → (d : Drawing) × IsConstrained g w ps N d
  pub one : (w : ℕ → ℕ) (N : Names) (d d' : Drawing) → IsConstrained g w ps N d → IsConstrained g w ps N d' → d ≡ d'

-- Two first faults are the same, and where the paths are sound there is none.
pub record OneFaultLaw (g : SidesValue) (ps : List (List ℕ)) : Type 0 where
  pub one : (f f' : PathFault) → IsFirstPathFault g ps f → IsFirstPathFault g ps f' → f ≡ f'
  pub none : (f : PathFault) → AreSound g ps (length ps) → IsFirstPathFault g ps f → ⊥
