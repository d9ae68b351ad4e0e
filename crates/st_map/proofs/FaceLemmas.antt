-- The faces of a rotation are the orbits of phi.
use Rattle.std.proofs.Common.{ℕ, ◌≤◌, inl, inr, refl, arith}
use Rattle.std.proofs.lemmas.Bool.{cases_lt}
use Rattle.st_map.specs.Orbits.{Permutes, least_within}
use Rattle.st_map.specs.Embedded.{darts, phi, face}
use Rattle.st_map.specs.Laws.{FacesLaw}
use Rattle.st_map.proofs.OrbitLemmas.{least-at, root-le, root-same, root-root, same-from_root, period}
use Rattle.st_map.proofs.EndLemmas.{at_below}
use Rattle.st_map.proofs.RotationLemmas.{phi-permutes}

pub faces_law : FacesLaw
unfolding face
faces_law g r =
    let n : ℕ = darts g in
    let perm : Permutes n (phi g) = phi-permutes g r.orders (at_below g r.ends) in
    record {
      permutes = perm;
      reached = λ d l. least-at n (phi g) perm n d;
      least = λ d e l so. root-le n (phi g) perm d e l so;
      one = λ d e ld le. (root-same n (phi g) perm d e ld, same-from_root n (phi g) perm d e ld le);
      new = λ d l h. elim (cases_lt (least_within n (phi g) d) d) [
        | inl m ↦ absurd (h (least_within n (phi g) d) m (root-root n (phi g) perm d l))
        | inr m ↦ let le : least_within n (phi g) d ≤ d = root-le n (phi g) perm d d l (0, refl) in omega arith
      ];
      returns = λ d l. period n (phi g) perm d l;
    }
