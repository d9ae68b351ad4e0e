-- A pass along the edges of a graph without a cycle finds the greatest weights of walks.
use Rattle.std.proofs.Common.{◌≡◌, ◌≢◌, ◌⊎◌, ℕ, zero, suc, ◌+◌, ◌<◌, ◌≤◌, inl, inr, List, length, map, get_or, ◌^◌, ℤ, pos, Some, sym, ap, ◌∙◌, subst, arith}
use Rattle.std.proofs.Math.ListN.{set, get_or-map}
use Rattle.std.proofs.lemmas.List.{get_or-set_same, get_or-set_other, length-set, length-map}
use Rattle.std.proofs.lemmas.Option.{slice_get-get_or}
use Rattle.std.specs.Prelude.{slice_get}
use Rattle.std.proofs.lemmas.Bool.{cases_eq, cases_lt}
use Rattle.st_ids.specs.EdgeNumbers.{numbers}
use Rattle.st_ids.specs.declared.ids.EdgeId.{EdgeId}
use Rattle.st_ids.specs.Graph.{Graph, HasEnds, AreWithin, arcs_of, tail_of, head_of}
use Rattle.st_ids.specs.Walks.{IsAcyclic}
use Rattle.st_map.specs.Embedded.{Embedded, bare, edges}
use Rattle.st_test.specs.Planar.{IsPlanarSt}
use Rattle.st_test.specs.Poles.{IsOnlySource}
use Rattle.st_test.specs.Topological.{AreOrdered}
use Rattle.st_number.specs.Greatest.{IsGreatest, IsPass, IsRooted}
use Rattle.st_number.specs.Heights.{AreTaken, AreSums, AreHeights}
use Rattle.st_number.specs.Passing.{IsEdgeOrder, IsPassing, IsPassTable}
use Rattle.st_number.proofs.BoundLemmas.{greatest_most}
use Rattle.st_number.proofs.GreatestLemmas.{finite_law}

module _ (n : ℕ) (ends : List (ℕ × ℕ)) (w : ℕ → ℕ) (most : ℕ) (es h : List ℕ) (k : ℕ) (within : AreWithin n ends) (ord : IsEdgeOrder ends es) (lk : k < length es)
    (p : IsPassing n ends w most es h k) (light : (e : ℕ) → e < length ends → w e ≤ most) where
  edge_in : get_or es k 0 < length ends
  edge_in = ord.there k lk

  head_in : head_of ends (get_or es k 0) < length h
  head_in = omega (arith, (within (get_or es k 0) edge_in).1, p.size)

  not_tail : (j : ℕ) → j ≤ k → tail_of ends (get_or es j 0) ≡ head_of ends (get_or es k 0) → ⊥
  not_tail j l q =
      let b : (i : ℕ) × (i < j) × (get_or es i 0 ≡ get_or es k 0) = ord.after j (get_or es k 0) (omega arith) edge_in (sym q) in
      ord.apart b.0 k (omega (arith, b.1)) lk b.2

  pub pass_keep : get_or h (tail_of ends (get_or es k 0)) 0 + w (get_or es k 0) ≤ get_or h (head_of ends (get_or es k 0)) 0 → IsPassing n ends w most es h (k + 1)
  pass_keep le = record {
    size = p.size;
    enough = λ j l. elim (cases_lt j k) [
      | inl a ↦ p.enough j a
      | inr b ↦ subst (λ z. get_or h (tail_of ends (get_or es z 0)) 0 + w (get_or es z 0) ≤ get_or h (head_of ends (get_or es z 0)) 0) (let q : k ≡ j = omega arith in q) le
    ];
    brought = λ v l. elim (p.brought v l) [ inl z ↦ inl z | inr r ↦ inr (r.0, omega (arith, r.1), r.2, r.3) ];
    low = λ v. omega (arith, p.low v);
  }

  pub pass_set : (x : ℕ) → x ≡ get_or h (tail_of ends (get_or es k 0)) 0 + w (get_or es k 0) → get_or h (head_of ends (get_or es k 0)) 0 < x
      → IsPassing n ends w most es (set h (head_of ends (get_or es k 0)) x) (k + 1)
  pass_set x is lt =
      let here : get_or (set h (head_of ends (get_or es k 0)) x) (head_of ends (get_or es k 0)) 0 ≡ x = get_or-set_same h (head_of ends (get_or es k 0)) x 0 head_in in
      let other : (v : ℕ) → (v ≡ head_of ends (get_or es k 0) → ⊥) → get_or (set h (head_of ends (get_or es k 0)) x) v 0 ≡ get_or h v 0 =
      λ v ne. get_or-set_other h (head_of ends (get_or es k 0)) v x 0 ne in
      let tails : (j : ℕ) → j ≤ k → get_or (set h (head_of ends (get_or es k 0)) x) (tail_of ends (get_or es j 0)) 0 ≡ get_or h (tail_of ends (get_or es j 0)) 0 =
      λ j l. other (tail_of ends (get_or es j 0)) (not_tail j l) in
      let at : (v : ℕ) → v ≡ head_of ends (get_or es k 0) → get_or (set h (head_of ends (get_or es k 0)) x) v 0 ≡ x =
      λ v q. ap (λ z. get_or (set h (head_of ends (get_or es k 0)) x) z 0) q ∙ here in
      record {
        size = length-set h (head_of ends (get_or es k 0)) x ∙ p.size;
        enough = λ j l. elim (cases_lt j k) [
          | inl a ↦ elim (cases_eq (head_of ends (get_or es j 0)) (head_of ends (get_or es k 0))) [
            | inl q ↦
                let old : get_or h (head_of ends (get_or es j 0)) 0 ≡ get_or h (head_of ends (get_or es k 0)) 0 = ap (λ z. get_or h z 0) q in
                omega (arith, tails j (omega arith), at (head_of ends (get_or es j 0)) q, p.enough j a)
            | inr ne ↦ omega (arith, tails j (omega arith), other (head_of ends (get_or es j 0)) ne, p.enough j a)
          ]
          | inr b ↦
              let q : j ≡ k = omega arith in
              let e1 : get_or h (tail_of ends (get_or es j 0)) 0 ≡ get_or h (tail_of ends (get_or es k 0)) 0 = ap (λ z. get_or h (tail_of ends (get_or es z 0)) 0) q in
              let e2 : w (get_or es j 0) ≡ w (get_or es k 0) = ap (λ z. w (get_or es z 0)) q in
              omega (arith, tails j (omega arith), at (head_of ends (get_or es j 0)) (ap (λ z. head_of ends (get_or es z 0)) q))
        ];
        brought = λ v l. elim (cases_eq v (head_of ends (get_or es k 0))) [
          | inl q ↦ inr (k, omega arith, sym q, at v q ∙ is ∙ ap (λ z. z + w (get_or es k 0)) (sym (tails k (omega arith))))
          | inr ne ↦ elim (p.brought v l) [
            | inl z ↦ inl (other v ne ∙ z)
            | inr r ↦ inr (r.0, omega (arith, r.1), r.2, other v ne ∙ r.3 ∙ ap (λ z. z + w (get_or es r.0 0)) (sym (tails r.0 (omega (arith, r.1)))))
          ]
        ];
        low = λ v. elim (cases_eq v (head_of ends (get_or es k 0))) [
          | inl q ↦ omega (arith, at v q, p.low (tail_of ends (get_or es k 0)), light (get_or es k 0) edge_in)
          | inr ne ↦ omega (arith, other v ne, p.low v)
        ];
      }

pub pass_all : (n : ℕ) (ends : List (ℕ × ℕ)) (w : ℕ → ℕ) (most : ℕ) (es h : List ℕ) (k : ℕ) → IsEdgeOrder ends es → length es ≤ k → k ≤ length es → IsPassing n ends w most es h k → IsPassTable n ends w h
pass_all n ends w most es h k ord end to p = record {
  size = p.size;
  enough = λ e l.
      let r : (j : ℕ) × (j < length es) × (get_or es j 0 ≡ e) = ord.place e l in
      subst (λ z. get_or h (tail_of ends z) 0 + w z ≤ get_or h (head_of ends z) 0) r.2 (p.enough r.0 (omega (arith, r.1)));
  brought = λ v l. elim (p.brought v l) [
    | inl z ↦ inl z
    | inr r ↦ inr (get_or es r.0 0, ord.there r.0 (omega (arith, r.1)), r.2, r.3)
  ];
}

-- ---- the whole pass
-- no edge comes to a, and to each other vertex one comes
pub record HasOneStart (n : ℕ) (ends : List (ℕ × ℕ)) (a : ℕ) : Type 0 where
  pub there : a < n
  pub none_in : (e : ℕ) → e < length ends → head_of ends e ≢ a
  pub has_in : (v : ℕ) → v < n → v ≢ a → (e : ℕ) × (e < length ends) × (head_of ends e ≡ v)

module _ (g : Graph) (w : ℕ → ℕ) (h : List ℕ) (a : ℕ) (within : HasEnds g) (acyclic : IsAcyclic (arcs_of g)) (one : HasOneStart g.vertices g.ends a) (t : IsPassTable g.vertices g.ends w h) where
  is_pass : IsPass (arcs_of g) g.vertices w a (λ v. get_or h v 0)
  is_pass = record {
    begins = elim (t.brought a one.there) [
      | inl z ↦ z
      | inr r ↦ absurd (one.none_in r.0 r.1 r.2)
    ];
    enough = t.enough;
    brought = λ v l ne. elim (t.brought v l) [
      | inr r ↦ r
      | inl z ↦
          let r : (e : ℕ) × (e < length g.ends) × (head_of g.ends e ≡ v) = one.has_in v l ne in
          let q : get_or h (head_of g.ends r.0) 0 ≡ get_or h v 0 = ap (λ x. get_or h x 0) r.2 in
          (r.0, r.1, r.2, omega (arith, t.enough r.0 r.1))
    ];
  }

  rooted : IsRooted (arcs_of g) g.vertices a
  rooted = record { from_in = λ e l. (within e l).0; to_in = λ e l. (within e l).1; has_in = one.has_in }

  pub is_greatest : (v : ℕ) → v < g.vertices → IsGreatest (arcs_of g) w a v (get_or h v 0)
  is_greatest = (finite_law (arcs_of g) g.vertices w a acyclic rooted).by_pass (λ v. get_or h v 0) is_pass

-- ---- from the one source
some_in : (ends : List (ℕ × ℕ)) (v m : ℕ) → ((e : ℕ) × (e < m) × (head_of ends e ≡ v)) ⊎ ((e : ℕ) → e < m → head_of ends e ≡ v → ⊥)
some_in ends v zero = inr (λ e l q. omega (arith, l))
some_in ends v (suc m) = elim (cases_eq (head_of ends m) v) [
  | inl q ↦ inl (m, omega arith, q)
  | inr ne ↦ elim (some_in ends v m) [
    | inl r ↦ inl (r.0, omega (arith, r.1), r.2)
    | inr none ↦ inr (λ e l q. elim (cases_eq e m) [
      | inl p ↦ ne (ap (λ z. head_of ends z) (sym p) ∙ q)
      | inr d ↦ none e (omega arith) q
    ])
  ]
]

pub one_start : (g : Graph) (s : ℕ) → IsOnlySource g s → HasOneStart g.vertices g.ends s
one_start g s S = record {
  there = S.there;
  none_in = S.none_in;
  has_in = λ v l ne. elim (some_in g.ends v (length g.ends)) [
    | inl r ↦ r
    | inr none ↦ absurd (ne (S.only v l none))
  ];
}

-- the number of the edge at a place
pub number_at : (es : List EdgeId) (k : ℕ) → get_or (numbers es) k 0 ≡ (get_or es k (record { 0 = 0 })).0
number_at es k = get_or-map (λ e. e.0) es k (record { 0 = 0 })

pub numbers_size : (es : List EdgeId) → length (numbers es) ≡ length es
numbers_size es = length-map es (λ e. e.0)

-- ---- sums and heights
pub edge_order : (g : Graph) (vs es : List ℕ) → AreOrdered g vs es → IsEdgeOrder g.ends es
edge_order g vs es o = record { size = o.edge_count; there = o.edge_there; place = o.edge_place; apart = o.edges_apart; after = o.edge_after }

pub sums_of : (g : Embedded) (s t outer : ℕ) → IsPlanarSt g s t outer → (w : ℕ → ℕ) (most : ℕ) (h : List ℕ) → g.vertices < 2 ^ 30
    → ((e : ℕ) → e < edges g → w e ≤ most) → IsPassTable g.vertices g.ends w h → AreSums g s w most h
sums_of g s t outer P w most h room W table =
    let G : (v : ℕ) → v < g.vertices → IsGreatest (arcs_of (bare g)) w s v (get_or h v 0) = is_greatest (bare g) w h s P.ends_in P.no_cycle (one_start (bare g) s P.source) table in
    record {
      size = table.size;
      room = room;
      greatest = G;
      few = λ v l.
          greatest_most (arcs_of (bare g)) g.vertices P.no_cycle (record { from_in = λ e l. (P.ends_in e l).0; to_in = λ e l. (P.ends_in e l).1 }) w most W s v (get_or h v 0) (G v l);
    }

-- a list of numbers as signed ones, read
pub signed_at : (sums : List ℕ) (v : ℕ) → v < length sums → slice_get (map (λ n. pos n) sums) v ≡ Some (pos (get_or sums v 0))
signed_at sums v l =
    slice_get-get_or (map (λ n. pos n) sums) v (pos 0) (omega (arith, l, length-map sums (λ n. pos n)))
    ∙ ap (λ (z : ℤ). Some z) (get_or-map (λ n. pos n) sums v 0)

pub heights_of : (post : EdgeId → ℕ → Type 0) (g : Embedded) (s most n : ℕ) (ws sums : List ℕ) (heights : List ℤ)
    → n ≡ edges g → AreTaken post n most ws → AreSums g s (λ e. get_or ws e 0) most sums → heights ≡ map (λ n. pos n) sums → AreHeights post g s most heights
heights_of post g s most n ws sums heights m T S q = record {
  weight = λ e. get_or ws e 0;
  taken = λ e l. T.answers e (omega (arith, l, m));
  from_one = λ e l. T.from_one e (omega (arith, l, m));
  to_most = λ e l. T.to_most e (omega (arith, l, m));
  height = λ v. get_or sums v 0;
  size = ap (λ (z : List ℤ). length z) q ∙ length-map sums (λ n. pos n) ∙ S.size;
  at = λ v l. ap (λ (z : List ℤ). slice_get z v) q ∙ signed_at sums v (omega (arith, l, S.size));
  greatest = S.greatest;
  few = S.few;
}
