-- The graph that is made of a number of vertices and a seed: it grows by ears along its right boundary.
-- Frame: the right boundary is the list of its vertices from the source to the sink, and its places count from 0. An ear is
-- a path through new vertices from one place of it to a later one. It takes the place of what lies between the two.
-- Letters: n how many vertices are wanted, s how far the graph has grown, i and j where an ear begins and ends, k how many
-- vertices it has.
--   Growth             how far the graph has grown
--   range a k          the k numbers from a on
--   ear_edges u a k v  the edges of a path from u through k vertices, numbered from a on, to v
--   with_ear w i j k s s with an ear more; w is the state of the generator after the words that chose it
--   grown n s          s with the ear that the next three words choose
--   begun seed         two vertices, the source 0 and the sink 1, and the edge from the one to the other
--   Becomes n s es     from s on ears are added until there are n vertices, and then es are the edges
--   IsMade n seed es   es are the edges of the graph of n vertices and a seed
--   OneGraphLaw        there is one such list of edges, and no other
-- Words are those of PCG32, one after the other, from the state that the seed gives.
use Rattle.std.specs.Prelude.{ℕ, zero, suc, List, [], ◌∷◌, ◌++◌, ◌≡◌, ◌<◌, ◌≤◌, ◌+◌, ◌-◌, ◌%◌, min, length, take, drop, slice_index_or}
use Rattle.std.specs.List.{range_with_len}
use Rattle.rand_pcg.specs.Lcg.{Lcg}
use Rattle.rand_pcg.specs.Pcg.{pcg32, pcg32_of_seed}
use Rattle.rand_core.specs.Pcg32Seed.{pcg32_seed}

-- the k numbers from a on
abbrev pub range : ℕ → ℕ → List ℕ
range = range_with_len

-- the edges of a path from u through k vertices, numbered from a on, to v, in their order along the path
abbrev pub ear_edges : ℕ → ℕ → ℕ → ℕ → List (ℕ × ℕ)
ear_edges u a zero v = (u, v) ∷ []
ear_edges u a (suc k) v = (u, a) ∷ ear_edges a (a + 1) k v

-- how far the graph has grown: the generator's state, the right boundary, the number of vertices, and the edges by number
pub record Growth : Type 0 where
  pub words : Lcg
  pub right : List ℕ
  pub count : ℕ
  pub edges : List (ℕ × ℕ)

-- s with an ear between the places i and j of the boundary, with k vertices
abbrev pub with_ear : Lcg → ℕ → ℕ → ℕ → Growth → Growth
with_ear words i j k s = record {
  words = words;
  right = take (i + 1) s.right ++ (range s.count k ++ drop j s.right);
  count = s.count + k;
  edges = s.edges ++ ear_edges (slice_index_or s.right i 0) s.count k (slice_index_or s.right j 0);
}

-- the place where an ear begins, by a word: any but the last
abbrev pub begin_of : ℕ → Growth → ℕ
begin_of word s = word % (length s.right - 1)

-- the place where an ear from i on ends, by a word: one to four places further on
abbrev pub ear_end : ℕ → ℕ → Growth → ℕ
ear_end i word s = i + 1 + word % min (length s.right - 1 - i) 4

-- how many vertices an ear has, by a word: one to three, and no more than are wanted
abbrev pub size_of : ℕ → ℕ → Growth → ℕ
size_of n word s = min (1 + word % 3) (n - s.count)

-- s with the ear that the next three words choose
abbrev pub grown : ℕ → Growth → Growth
grown n s =
    let a = pcg32 s.words in
    let b = pcg32 a.1 in
    let c = pcg32 b.1 in
    with_ear c.1 (begin_of a.0 s) (ear_end (begin_of a.0 s) b.0 s) (size_of n c.0 s) s

-- two vertices and the edge from the one to the other
abbrev pub begun : ℕ → Growth
begun seed = record { words = pcg32_of_seed (pcg32_seed 16 seed); right = 0 ∷ 1 ∷ []; count = 2; edges = (0, 1) ∷ [] }

-- From s on, ears are added until there are n vertices.
pub data Becomes (n : ℕ) : Growth → List (ℕ × ℕ) → Type 0 where
  done : {s : Growth} → n ≤ s.count → Becomes n s s.edges
  more : {s : Growth} {es : List (ℕ × ℕ)} → s.count < n → Becomes n (grown n s) es → Becomes n s es

-- es are the edges of the graph of n vertices and a seed
abbrev pub IsMade : ℕ → ℕ → List (ℕ × ℕ) → Type 0
IsMade n seed es = Becomes n (begun seed) es

-- each number of vertices and each seed have the edges of one graph
pub record OneGraphLaw : Type 0 where
  pub one : (n seed : ℕ) (es fs : List (ℕ × ℕ)) → IsMade n seed es → IsMade n seed fs → es ≡ fs
  pub some : (n seed : ℕ) → (es : List (ℕ × ℕ)) × IsMade n seed es
