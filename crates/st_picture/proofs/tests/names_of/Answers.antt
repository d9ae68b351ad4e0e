use Rattle.std.proofs.Common.{◌≡◌, ◌∷◌, [], List, ℕ, ℤ, pos, negsuc, Option, Some, None, sym, subst, ap, ◌∙◌, arith}
use Rattle.std.proofs.lemmas.Int.{ints}
use Rattle.st_ids.specs.declared.names.Names.{Names}
use Rattle.st_picture.specs.Naming.{AreNames}
use Rattle.st_picture.proofs.ExampleNames.{are_names}
use Rattle.st_picture.proofs.tests.names_of.Goals as goal

joined : (v v' e e' : List ℤ) (l l' : List (Option (List ℕ))) → v ≡ v' → e ≡ e' → l ≡ l' → (let a : Names = record { vertex = v; edge = e; label = l } in a) ≡ record { vertex = v'; edge = e'; label = l' }
joined v v' e e' l l' p q r =
    ap (λ z. let a : Names = record { vertex = z; edge = e; label = l } in a) p
    ∙ ap (λ z. let a : Names = record { vertex = v'; edge = z; label = l } in a) q
    ∙ ap (λ z. let a : Names = record { vertex = v'; edge = e'; label = z } in a) r

pub returns : goal.returns
returns c g p q =
    let v : c.in_ok-vertex.vertex ≡ pos 70 ∷ negsuc 4 ∷ pos 9 ∷ [] = c.in_ok-vertex.ensures in
    let e : c.in_ok-edge.edge ≡ pos 1 ∷ negsuc 1 ∷ pos 3 ∷ [] = c.in_ok-edge.ensures in
    let l : c.in_ok-label.label ≡ Some (65 ∷ []) ∷ None ∷ Some (126 ∷ 32 ∷ []) ∷ [] = c.in_ok-label.ensures in
    subst (AreNames g) (sym (joined c.in_ok-vertex.vertex (pos 70 ∷ negsuc 4 ∷ pos 9 ∷ []) c.in_ok-edge.edge (pos 1 ∷ negsuc 1 ∷ pos 3 ∷ []) c.in_ok-label.label (Some (65 ∷ []) ∷ None ∷ Some (126 ∷ 32 ∷ []) ∷ []) v e l))
    (are_names (pos 70) (negsuc 4) (pos 9) (pos 1) (negsuc 1) (pos 3) (λ h. cc h, λ h. omega (ints, arith), λ h. cc h) g p q)
