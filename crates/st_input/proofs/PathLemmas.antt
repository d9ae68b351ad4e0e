-- The edges of the written paths are there.
use Rattle.std.proofs.Common.{◌≡◌, ◌<◌, ◌+◌, ℕ, zero, suc, ℤ, cond, List, [], ◌∷◌, length, get_or, refl, subst, arith, Option, Some, None, is_some, inl, inr, Result, Ok, Err, IfOk, OnOk}
use Rattle.std.specs.Option.{unwrap_or}
use Rattle.st_ids.specs.Graph.{Graph}
use Rattle.st_ids.specs.Lists.{In}
use Rattle.st_ids.proofs.Public.{not_in_nil, In-cases}
use Rattle.st_input.specs.Names.{number_of}
use Rattle.st_input.specs.Paths.{edge_by, edges_by, paths_by, name_fault, path_fault, first_unknown, ArePathsThere}
use Rattle.st_input.specs.declared.fault.PathNameFault.{PathNameFault}
use Rattle.st_input.specs.declared.fault.PathNameFault.TheVariants.{UnknownEdge}
use Rattle.st_input.proofs.NameLemmas.{found_within}
use Rattle.st_input.proofs.FitLemmas.{or_none}

-- a name without a fault is an edge
known_within : (names : List ℤ) (p : ℕ) (name : ℤ) → name_fault names p name ≡ None → edge_by names name < length names
known_within names p name e = by (number_of names name) (UnknownEdge p name) refl e
  where
    by : (o : Option ℕ) (f : PathNameFault) → number_of names name ≡ o → cond (is_some o) None (Some f) ≡ None → unwrap_or o 0 < length names
    by None f same e = absurd (cc)
    by (Some k) f same e = found_within names name k same

path_within : (names : List ℤ) (p : ℕ) (path : List ℤ) (x : ℕ) → path_fault names p path ≡ None → In x (edges_by names path) → x < length names
path_within names p [] x e i = absurd (not_in_nil i)
path_within names p (n ∷ ns) x e i =
    let clear = or_none (name_fault names p n) (path_fault names p ns) e in
    elim (In-cases i) [
      | inl q ↦ let lt = known_within names p n clear.0 in omega arith
      | inr h ↦ path_within names p ns x clear.1 h
    ]

-- where no name is unknown, every edge of a path is there
pub paths_within : (names : List ℤ) (p : ℕ) (paths : List (List ℤ)) (v x : ℕ) → first_unknown names p paths ≡ None → In x (get_or (paths_by names paths) v []) → x < length names
paths_within names p [] v x e i = absurd (not_in_nil i)
paths_within names p (path ∷ paths) v x e i =
    let clear = or_none (path_fault names p path) (first_unknown names (p + 1) paths) e in
    by v i clear (λ u h. paths_within names (p + 1) paths u x clear.1 h)
  where
    by : (u : ℕ) → In x (get_or (edges_by names path ∷ paths_by names paths) u []) → (path_fault names p path ≡ None) × (first_unknown names (p + 1) paths ≡ None) → ((w : ℕ) → In x (get_or (paths_by names paths) w []) → x < length names) → x < length names
    by zero h clear rest = path_within names p path x clear.0 h
    by (suc u) h clear rest = rest u h

-- the paths that are told have edges of the graph alone
pub paths_there : (names : List ℤ) (paths : List (List ℤ)) (g : Graph) (r : Result (List (List ℕ)) PathNameFault) → length names ≡ length g.ends →
    IfOk r (λ ps. ps ≡ paths_by names paths) → OnOk r (first_unknown names 0 paths ≡ None) → IfOk r (ArePathsThere g)
paths_there names paths g (Ok ps) q e k =
    λ p x l i. subst (λ z. x < z) q (paths_within names 0 paths p x k (subst (λ z. In x (get_or z p [])) e i))
paths_there names paths g (Err f) q e k = tt
