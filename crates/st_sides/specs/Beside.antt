-- The node beside a vertex, from the nodes beside its edges out.
--   end_of right es      the first or the last of a list of edges
--   IsBeside s t nodes right half es v z   z is the node beside v: half at the poles, else that of the first or last of es
use Rattle.std.specs.Prelude.{ℕ, ◌≡◌, ◌⊎◌, Bool, true, false, List, slice_index}
use Rattle.st_sides.specs.LocalSides.{first, last}

-- the first or the last edge
abbrev pub end_of : Bool → List ℕ → ℕ
end_of true es = last es
end_of false es = first es

pub record IsBeside (s t : ℕ) (nodes : List ℕ) (right : Bool) (half : ℕ) (es : List ℕ) (v z : ℕ) : Type 0 where
  pub pole : (v ≡ s) ⊎ (v ≡ t) → z ≡ half
  pub inner : ((v ≡ s) ⊎ (v ≡ t) → ⊥) → z ≡ slice_index nodes (end_of right es)
