-- The marked edges split one after the other.
use Rattle.std.proofs.Common.{◌≡◌, ℕ, zero, suc, ◌+◌, ◌<◌, ◌≤◌, Bool, true, false, List, [], ◌∷◌, ◌++◌, length, get_or, Option, Some, None, inl, inr, refl, sym, ap, ◌∙◌, subst, arith, option_map}
use Rattle.std.proofs.lemmas.Bool.{cases_lt}
use Rattle.std.proofs.lemmas.List.{length-map}
use Rattle.st_ids.specs.Graph.{arcs_of}
use Rattle.st_ids.specs.declared.ids.VertexId.{VertexId}
use Rattle.st_map.specs.Counting.{bit}
use Rattle.st_map.specs.Embedded.{Embedded, edges}
use Rattle.st_map.specs.Split.{split}
use Rattle.st_test.specs.Planar.{IsPlanarSt}
use Rattle.st_sides.specs.Sides.{SidesValue, edge_count, edge_tail, edge_head}
use Rattle.st_sides.specs.SidesOf.{IsSidesOf}
use Rattle.st_reduce.specs.Marks.{AreMarks, AreTransitive, dummy_numbers, marked_below}
use Rattle.st_reduce.specs.Reduced.{IsTransitiveEdge, Splits, keep, cut}
use Rattle.st_reduce.specs.Transitive.{IsTransitive}
use Rattle.st_reduce.proofs.ReducedLemmas.{after}

-- the edge that is next is there
pub next_there : (g h : Embedded) (m : List Bool) (k : ℕ) (ds : List (Option ℕ)) → AreMarks g m → Splits g k ds h → k < edges g → k < edges h
next_there g h m k ds M S l = (let z : edges g ≤ edges h = (after g M.source M.sink M.outer M.planar k ds h S (omega arith)).more_edges in omega arith)

-- one edge more
pub next_split : (g h h' : Embedded) (m : List Bool) (k : ℕ) (ds : List (Option ℕ)) (b : Bool) (d : Option ℕ) → AreMarks g m → Splits g k ds h → k < edges g → b ≡ get_or m k false
    → (b ≡ false → (d ≡ None) × (h' ≡ h)) → (b ≡ true → (d ≡ Some h.vertices) × (h' ≡ split h k)) → Splits g (k + 1) (ds ++ d ∷ []) h'
next_split g h h' m k ds b d M S l q plain cuts =
    subst (λ z. Splits g z (ds ++ d ∷ []) h') (let z : suc k ≡ k + 1 = omega arith in z) (go b refl)
  where
    go : (c : Bool) → b ≡ c → Splits g (suc k) (ds ++ d ∷ []) h'
    go true e =
        let r = cuts e in
        subst (λ z. Splits g (suc k) (ds ++ z ∷ []) h') (sym r.0) (subst (Splits g (suc k) (ds ++ Some h.vertices ∷ [])) (sym r.1) (cut S ((M.each k l).0 (sym q ∙ e))))
    go false e =
        let r = plain e in
        let none : IsTransitiveEdge g k → ⊥ = λ T. (let z : false ≡ true = sym e ∙ q ∙ (M.each k l).1 T in cc) in
        subst (λ z. Splits g (suc k) (ds ++ z ∷ []) h') (sym r.0) (subst (Splits g (suc k) (ds ++ None ∷ [])) (sym r.1) (keep S none))

-- the number of the last new vertex
pub dummy_numbers-push : (ds : List (Option VertexId)) (d : Option VertexId) → dummy_numbers (ds ++ d ∷ []) ≡ dummy_numbers ds ++ option_map (λ w. w.0) d ∷ []
dummy_numbers-push [] d = refl
dummy_numbers-push (x ∷ xs) d = ap (λ zs. option_map (λ w. w.0) x ∷ zs) (dummy_numbers-push xs d)

pub length-dummy_numbers : (ds : List (Option VertexId)) → length (dummy_numbers ds) ≡ length ds
length-dummy_numbers ds = length-map ds (option_map (λ w. w.0))

-- there is a mark for each edge
pub length-marks : (g : Embedded) (s t outer : ℕ) (x : SidesValue) (m : List Bool) → IsSidesOf g s t outer x → AreTransitive x m → length m ≡ edges g
unfolding edge_count
length-marks g s t outer x m of a = a.size ∙ ap (λ (es : List (ℕ × ℕ)). length es) of.ends

-- what is marked by the sides is transitive in the graph
pub marks_of : (g : Embedded) (s t outer : ℕ) (x : SidesValue) (m : List Bool) → IsPlanarSt g s t outer → IsSidesOf g s t outer x → AreTransitive x m → AreMarks g m
unfolding edge_count edge_tail edge_head
marks_of g s t outer x m st of a = record {
  source = s;
  sink = t;
  outer = outer;
  planar = st;
  size = a.size ∙ ap (λ (es : List (ℕ × ℕ)). length es) of.ends;
  each = λ e l. subst (λ (es : List (ℕ × ℕ)). (e < length es) → ((get_or m e false ≡ true → IsTransitive (arcs_of (record { vertices = 0; ends = es })) e) × (IsTransitive (arcs_of (record { vertices = 0; ends = es })) e → get_or m e false ≡ true))) of.ends (λ k. a.each e k) l;
}

-- ---- how many are marked
pub marked_next : (m : List Bool) (k : ℕ) (b : Bool) → b ≡ get_or m k false → marked_below m (k + 1) ≡ bit b + marked_below m k
marked_next m k b q = ap (marked_below m) (let z : k + 1 ≡ suc k = omega arith in z) ∙ ap (λ z. bit z + marked_below m k) (sym q)

pub marked_le : (m : List Bool) (j n : ℕ) → j ≤ n → marked_below m j ≤ marked_below m n
marked_le m j zero l = (let z : j ≡ 0 = omega arith in subst (λ i. marked_below m i ≤ marked_below m 0) (sym z) (omega arith))
marked_le m j (suc n) l = elim (cases_lt j (suc n)) [
  | inl a ↦ (let r : marked_below m j ≤ marked_below m n = marked_le m j n (omega arith) in omega arith)
  | inr a ↦ (let z : j ≡ suc n = omega arith in subst (λ i. marked_below m i ≤ marked_below m (suc n)) (sym z) (omega arith))
]

-- where the next edge is marked there is room for it, and then for the rest
pub room_next : (m : List Bool) (n k spare : ℕ) (b : Bool) → k < n → b ≡ get_or m k false → marked_below m n ≤ spare + marked_below m k → b ≡ true → 1 ≤ spare
room_next m n k spare b l q r e =
    let a : marked_below m (k + 1) ≡ bit b + marked_below m k = marked_next m k b q in
    let o : bit b ≡ 1 = ap bit e in
    let c : marked_below m (k + 1) ≤ marked_below m n = marked_le m (k + 1) n (omega arith) in
    omega arith

pub room_kept : (m : List Bool) (n k old new : ℕ) (b : Bool) → b ≡ get_or m k false → marked_below m n ≤ old + marked_below m k → old ≡ new + bit b → marked_below m n ≤ new + marked_below m (k + 1)
room_kept m n k old new b q r s = (let a : marked_below m (k + 1) ≡ bit b + marked_below m k = marked_next m k b q in omega arith)
