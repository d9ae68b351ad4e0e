-- Where there is no cycle, all vertices are taken away, in a topological order.
use Rattle.std.proofs.Common.{ℕ, zero, suc, Bool, true, List, [], ◌∷◌, length, get_or, ◌≡◌, ◌≢◌, ◌<◌, ◌≤◌, inl, inr, sym, ◌∙◌, ap, subst, arith}
use Rattle.st_ids.specs.Graph.{Graph, tail_of, head_of, HasEnds, arcs_of}
use Rattle.st_ids.specs.Lists.{In, here, there, Lists, Precedes}
use Rattle.st_ids.specs.Walks.{IsAcyclic}
use Rattle.st_ids.proofs.Public.{down, in_dec}
use Rattle.st_map.specs.Counting.{count_below}
use Rattle.st_map.proofs.Public.{count-le_length, total-one}
use Rattle.st_test.specs.Stripping.{IsStripped}
use Rattle.st_test.specs.Topological.{AreOrdered, IsTopologicalOrder}
use Rattle.st_test.proofs.PlaceLemmas.{NoRepeat-from_places}
use Rattle.st_test.proofs.StripSteps.{short}

-- ---- from places to elements
in_at : (x : ℕ) (xs : List ℕ) (k : ℕ) → k < length xs → get_or xs k 0 ≡ x → In x xs
in_at x [] k l q = absurd (omega arith)
in_at x (y ∷ ys) zero l q = here (sym q)
in_at x (y ∷ ys) (suc k) l q = there (in_at x ys k (omega arith) q)

at_in : (x : ℕ) (xs : List ℕ) → In x xs → (k : ℕ) × (k < length xs) × (get_or xs k 0 ≡ x)
at_in x [] i = elim i [ ]
at_in x (y ∷ ys) (here q) = (0, omega arith, sym q)
at_in x (y ∷ ys) (there i) = let r : (k : ℕ) × (k < length ys) × (get_or ys k 0 ≡ x) = at_in x ys i in (suc r.0, omega (arith, r.1), r.2)

precedes_at : (a b : ℕ) (xs : List ℕ) (i k : ℕ) → i < k → k < length xs → get_or xs i 0 ≡ a → get_or xs k 0 ≡ b → Precedes a b xs
precedes_at a b [] i k m l p q = absurd (omega arith)
precedes_at a b (x ∷ xs) i zero m l p q = absurd (omega arith)
precedes_at a b (x ∷ xs) zero (suc k) m l p q = inl (sym p, in_at b xs k (omega arith) q)
precedes_at a b (x ∷ xs) (suc i) (suc k) m l p q = inr (precedes_at a b xs i k (omega arith) (omega arith) p q)

lists_at : (n : ℕ) (xs : List ℕ) → ((k : ℕ) → k < length xs → get_or xs k 0 < n) → ((x : ℕ) → x < n → (k : ℕ) × (k < length xs) × (get_or xs k 0 ≡ x))
    → ((i k : ℕ) → i < k → k < length xs → get_or xs i 0 ≢ get_or xs k 0) → Lists xs (λ x. x < n)
lists_at n xs below all apart = record {
  only = λ x i. let r : (k : ℕ) × (k < length xs) × (get_or xs k 0 ≡ x) = at_in x xs i in subst (λ z. z < n) r.2 (below r.0 r.1);
  all = λ x l. let r : (k : ℕ) × (k < length xs) × (get_or xs k 0 ≡ x) = all x l in in_at x xs r.0 r.1 r.2;
  once = NoRepeat-from_places xs apart;
}

-- different numbers below n, all of them, are n
count_at : (n : ℕ) (xs : List ℕ) → ((k : ℕ) → k < length xs → get_or xs k 0 < n) → ((x : ℕ) → x < n → (k : ℕ) × (k < length xs) × (get_or xs k 0 ≡ x))
    → ((i k : ℕ) → i < k → k < length xs → get_or xs i 0 ≢ get_or xs k 0) → length xs ≡ n
count_at n xs below all apart =
    let yes : ℕ → Bool = λ _. true in
    let a : length xs ≤ n = short n xs below apart in
    let b : count_below n yes ≤ length xs = count-le_length n yes xs below (λ x l q. all x l) in
    let c : count_below n yes ≡ n = total-one n in
    omega arith

-- ---- no vertex is left
module _ (g : Graph) (vs es : List ℕ) (ends : HasEnds g) (acyclic : IsAcyclic (arcs_of g)) (h : IsStripped g.vertices g.ends vs es) where
  listed : (v : ℕ) → v < g.vertices → In v vs
  listed = down (arcs_of g) g.vertices acyclic (record { from_in = λ e l. (ends e l).0; to_in = λ e l. (ends e l).1 }) (λ v. In v vs) (λ v l tails. elim (in_dec v vs) [
    | inl i ↦ i
    | inr out ↦
        let r : (e : ℕ) × (e < length g.ends) × (head_of g.ends e ≡ v) × ((k : ℕ) → k < length vs → get_or vs k 0 ≢ tail_of g.ends e) =
        h.rest v l (λ k lk q. out (in_at v vs k lk q)) in
        let p : (k : ℕ) × (k < length vs) × (get_or vs k 0 ≡ tail_of g.ends r.0) = at_in (tail_of g.ends r.0) vs (tails r.0 r.1 r.2) in
        absurd (r.3 p.0 p.1 p.2)
  ])

  vertex_place : (v : ℕ) → v < g.vertices → (k : ℕ) × (k < length vs) × (get_or vs k 0 ≡ v)
  vertex_place v l = at_in v vs (listed v l)

  edge_place : (e : ℕ) → e < length g.ends → (k : ℕ) × (k < length es) × (get_or es k 0 ≡ e)
  edge_place e l =
      let p : (k : ℕ) × (k < length vs) × (get_or vs k 0 ≡ tail_of g.ends e) = vertex_place (tail_of g.ends e) (ends e l).0 in
      h.edges_all p.0 e p.1 l p.2

  pub ordered : AreOrdered g vs es
  ordered = record {
    vertex_count = count_at g.vertices vs h.vertices vertex_place h.apart;
    vertex_there = h.vertices;
    vertex_place = vertex_place;
    vertices_apart = h.apart;
    vertex_after = h.before;
    edge_count = count_at (length g.ends) es (λ k l. (h.edges k l).0) edge_place h.edges_apart;
    edge_there = λ k l. (h.edges k l).0;
    edge_place = edge_place;
    edges_apart = h.edges_apart;
    edge_after = h.edges_before;
  }

  pub topological : IsTopologicalOrder g vs es
  topological = record {
    vertices = lists_at g.vertices vs h.vertices vertex_place h.apart;
    along = λ e l.
        let k : (k : ℕ) × (k < length vs) × (get_or vs k 0 ≡ head_of g.ends e) = vertex_place (head_of g.ends e) (ends e l).1 in
        let i : (i : ℕ) × (i < k.0) × (get_or vs i 0 ≡ tail_of g.ends e) = h.before k.0 e k.1 l (sym k.2) in
        precedes_at (tail_of g.ends e) (head_of g.ends e) vs i.0 k.0 i.1 k.1 i.2 k.2;
    edges = lists_at (length g.ends) es (λ k l. (h.edges k l).0) edge_place h.edges_apart;
    edges_along = λ d e ld le q.
        let k : (k : ℕ) × (k < length es) × (get_or es k 0 ≡ e) = edge_place e le in
        let i : (i : ℕ) × (i < k.0) × (get_or es i 0 ≡ d) = h.edges_before k.0 d k.1 ld (q ∙ ap (tail_of g.ends) (sym k.2)) in
        precedes_at d e es i.0 k.0 i.1 k.1 i.2 k.2;
  }
