-- Reaching is two comparisons of the lists.
use Rattle.std.proofs.Common.{ℕ, get_or, ◌<◌}
use Rattle.std.specs.Prelude.{◌↔◌}
use Rattle.st_ids.specs.Walks.{Reaches}
use Rattle.st_order.proofs.OrderLemmas.{reaching_law}
use Rattle.st_order.specs.Labels.{AreAtMost, AreLabels}
use Rattle.st_order.specs.declared.table.Labels.{Labels}
use Rattle.st_sides.specs.Sides.{SidesValue, IsSides, primal}

pub by_labels : (g : SidesValue) → IsSides g → (l : Labels) → AreLabels g l → (u v : ℕ) → u < g.vertices → v < g.vertices → Reaches (primal g) u v ↔ AreAtMost l u v
by_labels g S l a u v i j = reaching_law g S u v i j (get_or l.x u 0) (get_or l.y u 0) (get_or l.x v 0) (get_or l.y v 0) (a.x.each u i) (a.y.each u i) (a.x.each v j) (a.y.each v j)
