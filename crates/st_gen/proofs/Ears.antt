-- Ears, step by step: the edges of one as they are added, and what holds while the graph grows.
use Rattle.std.proofs.Common.{ℕ, zero, suc, List, [], ◌∷◌, ◌++◌, length, get_or, take, drop, min, ◌≡◌, ◌<◌, ◌≤◌, ◌+◌, ◌-◌, ◌*◌, ◌%◌, refl, sym, ap, ◌∙◌, subst, arith, append_assoc, length-append}
use Rattle.std.proofs.lemmas.List.{length-take-le, length-drop}
use Rattle.std.proofs.lemmas.List.Elements.{All-nil, All-cons, All-append, All-take, All-drop, All-weaker}
use Rattle.std.proofs.lemmas.List.FromFn.{length-range_with_len}
use Rattle.std.proofs.Math.Nat.{mod-lt}
use Rattle.std.specs.List.{All}
use Rattle.rand_pcg.specs.Lcg.{Lcg}
use Rattle.rand_pcg.specs.Pcg.{pcg32}
use Rattle.st_gen.specs.Made.{range, ear_edges, Growth, with_ear, begin_of, ear_end, size_of, grown, begun, Becomes, done, more, IsMade}

-- ---- an ear's edges
pub ear_more : (old new : List (ℕ × ℕ)) (u v e to : ℕ) (whole : List (ℕ × ℕ)) → new ≡ old ++ (u, v) ∷ [] → v < e →
    old ++ ear_edges u v (e - v) to ≡ whole → new ++ ear_edges v (v + 1) (e - (v + 1)) to ≡ whole
ear_more old new u v e to whole q l h =
    let k : e - v ≡ suc (e - (v + 1)) = omega arith in
    ap (λ z. z ++ ear_edges v (v + 1) (e - (v + 1)) to) q
    ∙ append_assoc old ((u, v) ∷ []) (ear_edges v (v + 1) (e - (v + 1)) to)
    ∙ sym (ap (λ z. old ++ ear_edges u v z to) k) ∙ h

pub ear_last : (old new : List (ℕ × ℕ)) (u v e to : ℕ) (whole : List (ℕ × ℕ)) → new ≡ old ++ (u, to) ∷ [] → e ≤ v →
    old ++ ear_edges u v (e - v) to ≡ whole → new ≡ whole
ear_last old new u v e to whole q l h =
    let k : e - v ≡ 0 = omega arith in
    q ∙ sym (ap (λ z. old ++ ear_edges u v z to) k) ∙ h

pub length-ear_edges : (u a k v : ℕ) → length (ear_edges u a k v) ≡ k + 1
length-ear_edges u a zero v = refl
length-ear_edges u a (suc k) v = let h : length (ear_edges a (a + 1) k v) ≡ k + 1 = length-ear_edges a (a + 1) k v in omega arith

-- a list with the places from i up to before j replaced by k numbers
pub length-replaced : (row : List ℕ) (i j a k : ℕ) → i ≤ length row → length (take i row ++ (range a k ++ drop j row)) ≡ i + (k + (length row - j))
length-replaced row i j a k l =
    let h : length (take i row ++ (range a k ++ drop j row)) ≡ length (take i row) + length (range a k ++ drop j row) = length-append (take i row) (range a k ++ drop j row) in
    let t : length (take i row) ≡ i = length-take-le i row l in
    let u : length (range a k ++ drop j row) ≡ length (range a k) + length (drop j row) = length-append (range a k) (drop j row) in
    omega (arith, length-range_with_len a k, length-drop j row)

-- ---- the places of an ear
pub record Places (row : List ℕ) (i j : ℕ) : Type 0 where
  pub begins : i < length row
  pub ends : j < length row
  pub after : i < j

pub places : (row : List ℕ) (L a b m : ℕ) → L ≡ length row → 2 ≤ length row → m ≡ min (L - 1 - a % (L - 1)) 4 → Places row (a % (L - 1)) (a % (L - 1) + 1 + b % m)
places row L a b m q l e =
    let i : a % (L - 1) < L - 1 = mod-lt a (let z : 0 < L - 1 = omega arith in z) in
    let p : 0 < m = omega arith in
    let k : b % m < m = mod-lt b p in
    record { begins = omega arith; ends = omega arith; after = omega arith }

All-range : (a k n : ℕ) → a + k ≤ n → All (λ v. v < n) (range a k)
All-range a zero n l = All-nil (λ v. v < n)
All-range a (suc k) n l = All-cons (λ v. v < n) a (range (a + 1) k) (omega arith) (All-range (a + 1) k n (omega arith))

-- ---- the loop over ears
pub record IsGrowing (n seed vertices : ℕ) (s : Growth) : Type 0 where
  pub vertices_are : vertices ≡ n
  pub least : 2 ≤ s.count
  pub most : s.count ≤ n
  pub two : 2 ≤ length s.right
  pub short : length s.right ≤ s.count
  pub right_in : All (λ v. v < s.count) s.right
  pub few : length s.edges + 3 ≤ 2 * s.count
  -- what becomes of the present state becomes of the first
  pub leads : (es : List (ℕ × ℕ)) → Becomes n s es → IsMade n seed es

pub growing_begun : (n seed vertices : ℕ) → vertices ≡ n → 2 ≤ n → IsGrowing n seed vertices (begun seed)
growing_begun n seed vertices q l = record {
  vertices_are = q;
  least = omega arith;
  most = l;
  two = omega arith;
  short = omega arith;
  right_in = All-cons (λ v. v < 2) 0 (1 ∷ []) (omega arith) (All-cons (λ v. v < 2) 1 [] (omega arith) (All-nil (λ v. v < 2)));
  few = omega arith;
  leads = λ es h. h;
}

pub growing_end : (n seed vertices : ℕ) (s : Growth) → IsGrowing n seed vertices s → n ≤ s.count → IsMade n seed s.edges
growing_end n seed vertices s G l = G.leads s.edges (done l)

-- with an ear whose places and size are in range, what safety needs stays true
module _ (n seed vertices : ℕ) (s : Growth) (G : IsGrowing n seed vertices s) (w : Lcg) (i j k : ℕ) (at : Places s.right i j) (some : 1 ≤ k) (most : s.count + k ≤ n) where
  growing_ear : ((es : List (ℕ × ℕ)) → Becomes n (with_ear w i j k s) es → Becomes n s es) → IsGrowing n seed vertices (with_ear w i j k s)
  growing_ear next = record {
    vertices_are = G.vertices_are;
    least = let l : 2 ≤ s.count = G.least in omega arith;
    most = most;
    two = omega (arith, long);
    short = let l : length s.right ≤ s.count = G.short in omega (arith, long);
    right_in =
        All-append (λ v. v < s.count + k) (take (i + 1) s.right) (range s.count k ++ drop j s.right)
        (All-take (λ v. v < s.count + k) (i + 1) s.right wide)
        (All-append (λ v. v < s.count + k) (range s.count k) (drop j s.right) (All-range s.count k (s.count + k) (omega arith)) (All-drop (λ v. v < s.count + k) j s.right wide));
    few =
        let f : length s.edges + 3 ≤ 2 * s.count = G.few in
        let q : length (s.edges ++ ear_edges (get_or s.right i 0) s.count k (get_or s.right j 0)) ≡ length s.edges + length (ear_edges (get_or s.right i 0) s.count k (get_or s.right j 0)) = length-append s.edges (ear_edges (get_or s.right i 0) s.count k (get_or s.right j 0)) in
        omega (arith, length-ear_edges (get_or s.right i 0) s.count k (get_or s.right j 0));
    leads = λ es h. G.leads es (next es h);
  }
    where
      wide : All (λ v. v < s.count + k) s.right
      wide = All-weaker (λ v. v < s.count) (λ v. v < s.count + k) (λ v l. omega arith) s.right G.right_in

      long : length (take (i + 1) s.right ++ (range s.count k ++ drop j s.right)) ≡ i + 1 + (k + (length s.right - j))
      long = length-replaced s.right (i + 1) j s.count k (let b : i < length s.right = at.begins in omega arith)

-- the next ear, by the words that were drawn
pub growing_more : (n seed vertices vertices' : ℕ) (s : Growth) → IsGrowing n seed vertices s → s.count < n → vertices' ≡ vertices →
    (a b c i j k : ℕ) (A B C : Lcg) → (a, A) ≡ pcg32 s.words → (b, B) ≡ pcg32 A → (c, C) ≡ pcg32 B →
    i ≡ begin_of a s → j ≡ ear_end i b s → k ≡ size_of n c s → Places s.right i j →
    (right : List ℕ) (edges : List (ℕ × ℕ)) → right ≡ take (i + 1) s.right ++ (range s.count k ++ drop j s.right) →
    edges ≡ s.edges ++ ear_edges (get_or s.right i 0) s.count k (get_or s.right j 0) →
    IsGrowing n seed vertices' (record { words = C; right = right; count = s.count + k; edges = edges })
growing_more n seed vertices vertices' s G l v a b c i j k A B C qa qb qc qi qj qk at right edges qr qe =
    subst (λ z. IsGrowing n seed z (record { words = C; right = right; count = s.count + k; edges = edges })) (sym v)
    (subst (IsGrowing n seed vertices) (sym by_parts)
    (growing_ear n seed vertices s G C i j k at (omega arith) (omega arith) (λ es h. more l (subst (λ z. Becomes n z es) by_words h))))
  where
    by_parts : record { words = C; right = right; count = s.count + k; edges = edges } ≡ with_ear C i j k s
    by_parts =
        ap (λ z. record { words = C; right = z; count = s.count + k; edges = edges }) qr
        ∙ ap (λ z. record { words = C; right = take (i + 1) s.right ++ (range s.count k ++ drop j s.right); count = s.count + k; edges = z }) qe

    A_is : A ≡ (pcg32 s.words).1
    A_is = ap (λ z. z.1) qa

    B_is : B ≡ (pcg32 (pcg32 s.words).1).1
    B_is = ap (λ z. z.1) qb ∙ ap (λ z. (pcg32 z).1) A_is

    C_is : C ≡ (pcg32 (pcg32 (pcg32 s.words).1).1).1
    C_is = ap (λ z. z.1) qc ∙ ap (λ z. (pcg32 z).1) B_is

    i_is : i ≡ begin_of (pcg32 s.words).0 s
    i_is = qi ∙ ap (λ z. begin_of z s) (ap (λ z. z.0) qa)

    j_is : j ≡ ear_end (begin_of (pcg32 s.words).0 s) (pcg32 (pcg32 s.words).1).0 s
    j_is = qj ∙ ap (λ z. ear_end z b s) i_is ∙ ap (λ z. ear_end (begin_of (pcg32 s.words).0 s) z s) (ap (λ z. z.0) qb ∙ ap (λ z. (pcg32 z).0) A_is)

    k_is : k ≡ size_of n (pcg32 (pcg32 (pcg32 s.words).1).1).0 s
    k_is = qk ∙ ap (λ z. size_of n z s) (ap (λ z. z.0) qc ∙ ap (λ z. (pcg32 z).0) B_is)

    by_words : with_ear C i j k s ≡ grown n s
    by_words =
        ap (λ z. with_ear z i j k s) C_is
        ∙ ap (λ z. with_ear (pcg32 (pcg32 (pcg32 s.words).1).1).1 z j k s) i_is
        ∙ ap (λ z. with_ear (pcg32 (pcg32 (pcg32 s.words).1).1).1 (begin_of (pcg32 s.words).0 s) z k s) j_is
        ∙ ap (λ z. with_ear (pcg32 (pcg32 (pcg32 s.words).1).1).1 (begin_of (pcg32 s.words).0 s) (ear_end (begin_of (pcg32 s.words).0 s) (pcg32 (pcg32 s.words).1).0 s) z s) k_is
