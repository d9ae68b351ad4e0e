-- Each number of vertices and each seed have the edges of one graph.
use Rattle.std.proofs.Common.{ℕ, zero, suc, List, ◌≡◌, ◌<◌, ◌≤◌, ◌+◌, inl, inr, refl, arith}
use Rattle.std.proofs.lemmas.Bool.{cases_lt}
use Rattle.rand_pcg.specs.Pcg.{pcg32}
use Rattle.st_gen.specs.Made.{Growth, size_of, grown, begun, Becomes, done, more, OneGraphLaw}

becomes_once : (n : ℕ) (s : Growth) (es fs : List (ℕ × ℕ)) → Becomes n s es → Becomes n s fs → es ≡ fs
becomes_once n s es fs (done l) (done m) = refl
becomes_once n s es fs (done l) (more m h) = absurd (omega arith)
becomes_once n s es fs (more l g) (done m) = absurd (omega arith)
becomes_once n s es fs (more l g) (more m h) = becomes_once n (grown n s) es fs g h

-- at most m vertices are missing
becomes_some : (m n : ℕ) (s : Growth) → n ≤ s.count + m → (es : List (ℕ × ℕ)) × Becomes n s es
becomes_some zero n s l = (s.edges, done (omega arith))
becomes_some (suc m) n s l = elim (cases_lt s.count n) [
  | inl k ↦ let h = becomes_some m n (grown n s) (fewer (pcg32 (pcg32 (pcg32 s.words).1).1).0 k) in (h.0, more k h.1)
  | inr k ↦ (s.edges, done k)
]
  where
    fewer : (x : ℕ) → s.count < n → n ≤ s.count + size_of n x s + m
    fewer x k = omega arith

pub one_graph : OneGraphLaw
one_graph = record {
  one = λ n seed es fs g h. becomes_once n (begun seed) es fs g h;
  some = λ n seed. becomes_some n n (begun seed) (omega arith);
}
