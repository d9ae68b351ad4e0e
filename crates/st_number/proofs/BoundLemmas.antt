-- How large the greatest weights are, and that those of a graph are those of its sides.
use Rattle.std.proofs.Common.{ℕ, List, [], ◌∷◌, ◌≡◌, ◌<◌, ◌≤◌, ◌-◌, ◌*◌, inl, inr, refl, sym, subst, arith, length, map}
use Rattle.std.proofs.lemmas.Nat.{mul-le}
use Rattle.std.proofs.lemmas.List.{length-map}
use Rattle.st_ids.specs.Graph.{arcs_of, tail_of, head_of}
use Rattle.st_ids.specs.Lists.{In, here, there, NoRepeat}
use Rattle.st_ids.specs.Walks.{Arcs, Walk, stay, step, IsAcyclic}
use Rattle.st_ids.proofs.Public.{In-cases, on_walk, walk_once, none_from_end, no_loop, reach_trans, reach_refl, IsWithin, length-le_from_below, in_map}
use Rattle.st_map.specs.Embedded.{bare}
use Rattle.st_sides.specs.Sides.{SidesValue, edge_count, edge_tail, edge_head, primal, IsSides}
use Rattle.st_sides.proofs.Public.{within, dual_acyclic}
use Rattle.st_number.specs.Bounds.{BoundsLaw, ToSidesLaw}
use Rattle.st_number.specs.Greatest.{weigh, IsGreatest}
use Rattle.st_number.proofs.GreatestLemmas.{last_arc}

weigh_most : (w : ℕ → ℕ) (most : ℕ) (es : List ℕ) → ((e : ℕ) → In e es → w e ≤ most) → weigh w es ≤ length es * most
weigh_most w most [] h = omega arith
weigh_most w most (e ∷ es) h =
    let a : w e ≤ most = h e (here refl) in
    let b : weigh w es ≤ length es * most = weigh_most w most es (λ d i. h d (there i)) in
    omega arith

weigh_ones : (es : List ℕ) → weigh (λ _. 1) es ≡ length es
weigh_ones [] = refl
weigh_ones (e ∷ es) = let h = weigh_ones es in omega arith

-- no node is twice the beginning of an arc of a walk
froms_once : {D : Arcs} → IsAcyclic D → {u v : ℕ} {es : List ℕ} → Walk D u es v → NoRepeat (map D.from es)
froms_once acyclic (stay q) = tt
froms_once {D} acyclic (step {e = x} {es = es} a f r) =
    ((λ i. let h = in_map D.from (D.from x) es i in no_loop acyclic x a (reach_trans (on_walk r h.1).before (reach_refl (sym h.2)))), froms_once acyclic r)

-- a walk has fewer arcs than there are nodes: its end begins none of them
pub shorter : (D : Arcs) (n : ℕ) → IsAcyclic D → IsWithin D n → (u v : ℕ) (es : List ℕ) → Walk D u es v → length es ≤ n - 1
shorter D n acyclic inside u v es k = elim (last_arc D u v es k) [
  | inl q ↦ none es k q
  | inr A ↦
      let l : v < n = subst (λ z. z < n) A.ends (inside.to_in A.arc A.is_arc) in
      let once : NoRepeat (v ∷ map D.from es) = ((λ i. let h = in_map D.from v es i in none_from_end acyclic k h.1 (sym h.2)), froms_once acyclic k) in
      let below : length (v ∷ map D.from es) ≤ n = length-le_from_below n (v ∷ map D.from es) once (λ x i. elim (In-cases i) [
        | inl q ↦ subst (λ z. z < n) (sym q) l
        | inr j ↦ (let h = in_map D.from x es j in subst (λ z. z < n) (sym h.2) (inside.from_in h.0 (on_walk k h.1).arc))
      ]) in
      let e : length (map D.from es) ≡ length es = length-map es D.from in
      omega arith
]
  where
    none : (es : List ℕ) → Walk D u es v → u ≡ v → length es ≤ n - 1
    none [] k q = omega arith
    none (e ∷ es) k q = absurd (acyclic u e es (subst (λ z. Walk D u (e ∷ es) z) (sym q) k))

pub greatest_most : (D : Arcs) (n : ℕ) → IsAcyclic D → IsWithin D n → (w : ℕ → ℕ) (most : ℕ) → ((e : ℕ) → e < D.count → w e ≤ most)
    → (a v k : ℕ) → IsGreatest D w a v k → k ≤ (n - 1) * most
greatest_most D n acyclic inside w most W a v k H =
    let l : length H.way ≤ n - 1 = shorter D n acyclic inside a v H.way H.walk in
    let h : weigh w H.way ≤ length H.way * most = weigh_most w most H.way (λ e i. W e (on_walk H.walk i).arc) in
    let q : weigh w H.way ≡ k = H.weighs in
    let m : length H.way * most ≤ (n - 1) * most = mul-le (length H.way) most (n - 1) most l (omega arith) in
    omega arith

pub bounds_law : (g : SidesValue) → IsSides g → BoundsLaw g
bounds_law g S = record {
  heights = λ w most W v n H. greatest_most (primal g) g.vertices S.acyclic (within g S) w most W g.source v n H;
  columns = λ f n H.
      let l : length H.way ≤ edge_count g = length-le_from_below (edge_count g) H.way (walk_once (dual_acyclic g S) H.walk) (λ e i. (on_walk H.walk i).arc) in
      let q : weigh (λ _. 1) H.way ≡ n = H.weighs in
      let h : weigh (λ _. 1) H.way ≡ length H.way = weigh_ones H.way in
      omega arith;
}

abbrev arcs_of_ends : List (ℕ × ℕ) → Arcs
arcs_of_ends ends = record { count = length ends; from = tail_of ends; to = head_of ends }

primal_is : (x : SidesValue) (w : ℕ → ℕ) (a v n : ℕ) → IsGreatest (arcs_of_ends x.ends) w a v n → IsGreatest (primal x) w a v n
unfolding edge_count edge_tail edge_head
primal_is x w a v n h = h

pub to_sides : ToSidesLaw
to_sides g s t outer x Q w v n h =
    primal_is x w x.source v n (subst (λ z. IsGreatest (arcs_of_ends z) w x.source v n) (sym Q.ends) (subst (λ z. IsGreatest (arcs_of (bare g)) w z v n) (sym Q.source) h))
