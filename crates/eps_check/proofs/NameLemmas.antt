-- Vertices by their names.
use Rattle.std.proofs.Common.{◌≡◌, ℕ, ◌+◌, ◌-◌, ◌≤◌, ℤ, ◌<ℤ◌, Some, List, length, slice_get, inl, inr, ap, sym, ◌∙◌, arith}
use Rattle.std.proofs.lemmas.Bool.{cases_eq, cases_lt, cases_order}
use Rattle.std.proofs.lemmas.Int.{ints}
use Rattle.std.proofs.lemmas.Option.{slice_get_within}
use Rattle.eps_check.specs.declared.names.Vertex.{Vertex}
use Rattle.eps_check.specs.Names.{AreDistinct, IsListed}

same_vertex : (s t : Vertex) → Some s ≡ Some t → s ≡ t
same_vertex s t h = cc

read_vertex : (vertices : List Vertex) (i k : ℕ) (s t : Vertex) → i ≡ k → slice_get vertices i ≡ Some s → slice_get vertices k ≡ Some t → s ≡ t
read_vertex vertices i k s t z e f = same_vertex s t (sym e ∙ ap (slice_get vertices) z ∙ f)

pub distinct_none : (vertices : List Vertex) (m : ℕ) → m ≤ 1 → AreDistinct vertices m
distinct_none vertices m h = record { pairs = λ i j s t l k e f. absurd (omega (arith, h, l, k)) }

-- the next name is greater than the last of those before
pub distinct_next : (vertices : List Vertex) (k : ℕ) (s t : Vertex) → 1 ≤ k → slice_get vertices (k - 1) ≡ Some s → slice_get vertices k ≡ Some t → s.name <ℤ t.name →
    AreDistinct vertices k → AreDistinct vertices (k + 1)
distinct_next vertices k s t some s_is t_is less d =
    record {
      pairs = λ i j a b l w e f.
          elim (cases_lt j k) [
            | inl before ↦ d.pairs i j a b l before e f
            | inr last ↦
                let same_b = read_vertex vertices j k b t (omega (arith, w, last)) f t_is in
                elim (cases_eq i (k - 1)) [
                  | inl z ↦ let same_a = read_vertex vertices i (k - 1) a s z e s_is in rw same_a (rw same_b less)
                  | inr ne ↦
                      let earlier = d.pairs i (k - 1) a s (omega (arith, some, l, w, ne)) (omega (arith, some)) e s_is in
                      rw same_b (less_less a.name s.name t.name earlier less)
                ]
          ];
    }
  where
    less_less : (x y z : ℤ) → x <ℤ y → y <ℤ z → x <ℤ z
    less_less x y z h k = omega (arith, ints)

-- a name has one place
pub one_place : (vertices : List Vertex) → AreDistinct vertices (length vertices) → (n : ℤ) (k m : ℕ) → IsListed vertices n k → IsListed vertices n m → k ≡ m
one_place vertices d n k m h g =
    elim (cases_order h.at g.at) [
      | inl z ↦ sym h.place ∙ ap (λ (s : Vertex). s.place) (read_vertex vertices h.at g.at h.vertex g.vertex z h.is g.is) ∙ g.place
      | inr rest ↦ elim rest [
        | inl less ↦ absurd (apart h.vertex.name g.vertex.name h.name g.name (d.pairs h.at g.at h.vertex g.vertex less (slice_get_within vertices g.at g.vertex g.is) h.is g.is))
        | inr more ↦ absurd (apart g.vertex.name h.vertex.name g.name h.name (d.pairs g.at h.at g.vertex h.vertex more (slice_get_within vertices h.at h.vertex h.is) g.is h.is))
      ]
    ]
  where
    apart : (x y : ℤ) → x ≡ n → y ≡ n → x <ℤ y → ⊥
    apart x y e f l = omega (arith, ints)
