-- What the theory of sides proves holds of the sides of each planar st-graph.
use Rattle.st_sides.specs.Sides.{IsSides}
use Rattle.st_sides.specs.SidesOf.{SweptLaw, TrichotomyLaw}
use Rattle.st_sides.proofs.SweepLemmas.{boundary_law, sweep_law}
use Rattle.st_sides.proofs.TotalLemmas.{trichotomy}
use Rattle.st_sides.proofs.MeaningLemmas.{meaning}

pub swept_law : SweptLaw
swept_law g s t outer x st of =
    let h : IsSides x = meaning g s t outer x st of in
    (boundary_law x h, sweep_law x h)

pub trichotomy_law : TrichotomyLaw
trichotomy_law g s t outer x st of = trichotomy x (meaning g s t outer x st of)
