-- The dummies of the edges, one after the other.
--   dummies_none    before the first edge
--   dummies_next    one edge more
use Rattle.std.proofs.Common.{◌≡◌, ℕ, ◌+◌, ◌<◌, Bool, true, false, List, [], ◌∷◌, ◌++◌, get_or, length, Option, Some, None, refl, sym, ap, ◌∙◌, subst, arith}
use Rattle.st_map.specs.Embedded.{Embedded, edges}
use Rattle.st_map.specs.Split.{split}
use Rattle.st_sides.specs.Sides.{SidesValue, edge_count}
use Rattle.st_sides.specs.SidesOf.{IsSidesOf}
use Rattle.st_reduce.specs.Dummies.{AreDummiesTo, SplitsTo}
use Rattle.st_reduce.specs.Marks.{AreMarks, AreTransitive}
use Rattle.st_reduce.specs.Reduced.{begin}
use Rattle.st_reduce.proofs.MarkedLemmas.{marks_of, next_split}

pub dummies_none : (x : SidesValue) (n : ℕ) → n ≡ x.vertices → AreDummiesTo x 0 [] n
dummies_none x n q = λ g s t outer st of. record { graph = g; splits = begin; vertices = sym (q ∙ of.vertices) }

edge_there : (g : Embedded) (s t outer : ℕ) (x : SidesValue) (k : ℕ) → IsSidesOf g s t outer x → k < edge_count x → k < edges g
unfolding edge_count
edge_there g s t outer x k of l = subst (λ (es : List (ℕ × ℕ)). k < length es) of.ends l

pub dummies_next : (x : SidesValue) (m : List Bool) (k : ℕ) (ds : List (Option ℕ)) (n n' : ℕ) (b : Bool) (d : Option ℕ) → AreTransitive x m → k < edge_count x → b ≡ get_or m k false
    → (b ≡ false → (d ≡ None) × (n' ≡ n)) → (b ≡ true → (d ≡ Some n) × (n' ≡ n + 1)) → AreDummiesTo x k ds n → AreDummiesTo x (k + 1) (ds ++ d ∷ []) n'
dummies_next x m k ds n n' b d T l q plain cuts D = λ g s t outer st of.
    let S : SplitsTo g k ds n = D g s t outer st of in
    let M : AreMarks g m = marks_of g s t outer x m st of T in
    let j : k < edges g = edge_there g s t outer x k of l in
    go g S M j b refl
  where
    go : (g : Embedded) → SplitsTo g k ds n → AreMarks g m → k < edges g → (c : Bool) → b ≡ c → SplitsTo g (k + 1) (ds ++ d ∷ []) n'
    go g S M j true e = (let r = cuts e in record {
      graph = split S.graph k;
      splits = next_split g S.graph (split S.graph k) m k ds b d M S.splits j q (λ f. (let z : false ≡ true = sym f ∙ e in absurd cc)) (λ f. (r.0 ∙ ap Some (sym S.vertices), refl));
      vertices = (let a : S.graph.vertices ≡ n = S.vertices in let z : n' ≡ n + 1 = r.1 in omega arith);
    })
    go g S M j false e = (let r = plain e in record {
      graph = S.graph;
      splits = next_split g S.graph S.graph m k ds b d M S.splits j q (λ f. (r.0, refl)) (λ f. (let z : true ≡ false = sym f ∙ e in absurd cc));
      vertices = S.vertices ∙ sym r.1;
    })
