-- While the graph grows ear by ear, its right boundary and what lies beside each edge and vertex are as they should be.
use Rattle.std.proofs.Common.{ℕ, suc, List, [], ◌∷◌, ◌++◌, length, get_or, take, drop, min, ◌≡◌, ◌<◌, ◌≤◌, ◌+◌, ◌-◌, inl, inr, refl, sym, ap, ◌∙◌, subst, arith, append_assoc, length-append}
use Rattle.rand_pcg.specs.Lcg.{Lcg}
use Rattle.rand_pcg.specs.Pcg.{pcg32}
use Rattle.std.proofs.lemmas.Bool.{cases_eq}
use Rattle.st_ids.specs.Graph.{tail_of, head_of}
use Rattle.st_ids.specs.Lists.{In}
use Rattle.st_ids.proofs.Public.{not_in_nil, In-cases}
use Rattle.st_input.specs.Orders.{file_outs, file_ins}
use Rattle.st_gen.specs.Made.{range, ear_edges, Growth, with_ear, begin_of, ear_end, size_of, grown, begun, Becomes, done, more, IsMade}
use Rattle.st_gen.proofs.Ears.{Places, places, length-ear_edges}
use Rattle.st_gen.proofs.EarLists.{Span, span_of}
use Rattle.st_gen.proofs.DefaultOrders.{outs_all, ins_all, ear_outs_none, ear_ins_none}
use Rattle.st_gen.proofs.FanLemmas.{Fan}
use Rattle.st_gen.proofs.BesideLemmas.{RightEdge, IsRow, IsBeside, IsRising, row_grows, beside_grows, rising_grows}

-- the graph so far has so many ears beyond its first edge
pub record IsEared (s : Growth) : Type 0 where
  pub two : 2 ≤ s.count
  pub long : 2 ≤ length s.right
  pub ears : ℕ
  pub counted : length s.edges + 1 ≡ s.count + ears
  pub row : IsRow s.edges s.right s.count
  pub beside : IsBeside s.edges s.right s.count ears
  pub rising : IsRising s.edges s.count

-- ---- the beginning
fan_of_zeros : (es : List ℕ) → Fan (λ e. 0) (λ e. 0) es 0 0
fan_of_zeros [] = refl
fan_of_zeros (e ∷ es) = (refl, fan_of_zeros es)

first_edge : RightEdge ((0, 1) ∷ []) 0 1
unfolding file_outs file_ins
first_edge = record { edge = 0; before = []; after = []; last_out = refl; first_in = refl }

first_row : IsRow ((0, 1) ∷ []) (0 ∷ 1 ∷ []) 2
first_row = record {
  once = ((λ i. elim (In-cases i) [ inl q ↦ omega arith | inr j ↦ not_in_nil j ]), (not_in_nil, tt));
  below = λ v i. elim (In-cases i) [
    | inl q ↦ omega arith
    | inr j ↦ elim (In-cases j) [ inl q ↦ omega arith | inr e ↦ absurd (not_in_nil e) ]
  ];
  linked = (first_edge, (tt, tt));
  none_out = λ v l. ear_outs_none v 0 2 0 1 0 (λ q. omega arith) (λ a b. omega arith);
  none_in = λ v l. ear_ins_none v 0 2 0 1 0 (λ q. omega arith) (λ a b. omega arith);
}

first_rising : IsRising ((0, 1) ∷ []) 2
unfolding tail_of head_of
first_rising = record {
  rank = λ v. v;
  rises = λ e l. elim (cases_eq e 0) [
    | inl q ↦ subst (λ z. tail_of ((0, 1) ∷ []) z < head_of ((0, 1) ∷ []) z) (sym q) (let l : 0 < 1 = omega arith in l)
    | inr n ↦ absurd (omega (arith, n))
  ];
  source = ear_ins_none 0 0 2 0 1 0 (λ q. omega arith) (λ a b. omega arith);
  sink = ear_outs_none 1 0 2 0 1 0 (λ q. omega arith) (λ a b. omega arith);
  some_in = λ v l n. (0, subst (λ z. In 0 (file_ins z 0 ((0, 1) ∷ []))) (let q : 1 ≡ v = omega (arith, n) in q) (ins_all ((0, 1) ∷ []) 1 0 (omega arith) refl));
  some_out = λ v l n. (0, subst (λ z. In 0 (file_outs z 0 ((0, 1) ∷ []))) (let q : 0 ≡ v = omega (arith, n) in q) (outs_all ((0, 1) ∷ []) 0 0 (omega arith) refl));
}

eared_begun : (seed : ℕ) → IsEared (begun seed)
eared_begun seed = record {
  two = omega arith;
  long = omega arith;
  ears = 0;
  counted = omega arith;
  row = first_row;
  beside = record {
    left = λ e. 0;
    right = λ e. 0;
    left_at = λ v. 0;
    right_at = λ v. 0;
    outs_fan = λ v l. fan_of_zeros (file_outs v 0 ((0, 1) ∷ []));
    ins_fan = λ v l. fan_of_zeros (file_ins v 0 ((0, 1) ∷ []));
    row_right = λ v i. refl;
    few_left = λ e. omega arith;
    few_right = λ e. omega arith;
    each = λ y l. (0, omega arith, omega arith);
    source = refl;
    sink = refl;
  };
  rising = first_rising;
}

-- ---- an ear more
module _ (s : Growth) (E : IsEared s) (words : Lcg) (i j k : ℕ) (at : Places s.right i j) (some : 1 ≤ k) where
  S : Span s.right i j
  S = span_of s.right i j at.after at.ends

  eared_at : (X : List ℕ) (u : ℕ) (M : List ℕ) (w : ℕ) (Y : List ℕ) → s.right ≡ X ++ u ∷ (M ++ w ∷ Y) → take (suc i) s.right ≡ X ++ u ∷ []
      → drop j s.right ≡ w ∷ Y → get_or s.right i 0 ≡ u → get_or s.right j 0 ≡ w → IsEared (with_ear words i j k s)
  eared_at X u M w Y is up_to on begins ends =
      let R : IsRow s.edges (X ++ u ∷ (M ++ w ∷ Y)) s.count = subst (λ z. IsRow s.edges z s.count) is E.row in
      let B : IsBeside s.edges (X ++ u ∷ (M ++ w ∷ Y)) s.count E.ears = subst (λ z. IsBeside s.edges z s.count E.ears) is E.beside in
      let next : i + 1 ≡ suc i = omega arith in
      let row : take (i + 1) s.right ++ (range s.count k ++ drop j s.right) ≡ X ++ u ∷ (range s.count k ++ w ∷ Y) =
      ap (λ z. take z s.right ++ (range s.count k ++ drop j s.right)) next
      ∙ ap (λ z. z ++ (range s.count k ++ drop j s.right)) up_to
      ∙ ap (λ z. (X ++ u ∷ []) ++ (range s.count k ++ z)) on
      ∙ append_assoc X (u ∷ []) (range s.count k ++ w ∷ Y) in
      let edges : s.edges ++ ear_edges (get_or s.right i 0) s.count k (get_or s.right j 0) ≡ s.edges ++ ear_edges u s.count k w =
      ap (λ z. s.edges ++ ear_edges z s.count k (get_or s.right j 0)) begins ∙ ap (λ z. s.edges ++ ear_edges u s.count k z) ends in
      let size : length (s.edges ++ ear_edges u s.count k w) ≡ length s.edges + (k + 1) =
      length-append s.edges (ear_edges u s.count k w) ∙ ap (λ z. length s.edges + z) (length-ear_edges u s.count k w) in
      let a : length (X ++ u ∷ (range s.count k ++ w ∷ Y)) ≡ length X + suc (length (range s.count k ++ w ∷ Y)) = length-append X (u ∷ (range s.count k ++ w ∷ Y)) in
      let b : length (range s.count k ++ w ∷ Y) ≡ length (range s.count k) + suc (length Y) = length-append (range s.count k) (w ∷ Y) in
      let c : length s.edges + 1 ≡ s.count + E.ears = E.counted in
      let t : 2 ≤ s.count = E.two in
      record {
        two = omega arith;
        long = subst (λ z. 2 ≤ length z) (sym row) (omega arith);
        ears = suc E.ears;
        counted = ap (λ z. length z + 1) edges ∙ omega arith;
        row = subst (λ z. IsRow (s.edges ++ ear_edges (get_or s.right i 0) s.count k (get_or s.right j 0)) z (s.count + k)) (sym row)
            (subst (λ z. IsRow z (X ++ u ∷ (range s.count k ++ w ∷ Y)) (s.count + k)) (sym edges) (row_grows s.edges X u M w Y s.count k R));
        beside = subst (λ z. IsBeside (s.edges ++ ear_edges (get_or s.right i 0) s.count k (get_or s.right j 0)) z (s.count + k) (suc E.ears)) (sym row)
            (subst (λ z. IsBeside z (X ++ u ∷ (range s.count k ++ w ∷ Y)) (s.count + k) (suc E.ears)) (sym edges)
            (beside_grows s.edges X u M w Y s.count k R E.ears B E.two));
        rising = subst (λ z. IsRising z (s.count + k)) (sym edges) (rising_grows s.edges X u M w Y s.count k R E.rising);
      }

  eared_ear : IsEared (with_ear words i j k s)
  unfolding S
  eared_ear = eared_at S.before S.begin S.between S.end S.after S.is S.up_to S.on S.begins S.ends

eared_grown : (n : ℕ) (s : Growth) → IsEared s → s.count < n → IsEared (grown n s)
eared_grown n s E l =
    let a : ℕ × Lcg = pcg32 s.words in
    let b : ℕ × Lcg = pcg32 a.1 in
    let c : ℕ × Lcg = pcg32 b.1 in
    eared_ear s E c.1 (begin_of a.0 s) (ear_end (begin_of a.0 s) b.0 s) (size_of n c.0 s)
    (places s.right (length s.right) a.0 b.0 (min (length s.right - 1 - begin_of a.0 s) 4) refl E.long refl)
    (some_of c.0)
  where
    some_of : (x : ℕ) → 1 ≤ size_of n x s
    some_of x = omega arith

-- ---- the end
-- what is known of the edges when there are n vertices
pub record IsGrown (n : ℕ) (es : List (ℕ × ℕ)) : Type 0 where
  pub row : List ℕ
  pub ears : ℕ
  pub counted : length es + 1 ≡ n + ears
  pub is_row : IsRow es row n
  pub beside : IsBeside es row n ears
  pub rising : IsRising es n

grown_from : (n : ℕ) (s : Growth) (es : List (ℕ × ℕ)) → Becomes n s es → IsEared s → s.count ≤ n → IsGrown n es
grown_from n s es (done l) E m =
    let q : s.count ≡ n = omega arith in
    record {
      row = s.right;
      ears = E.ears;
      counted = omega (arith, E.counted);
      is_row = subst (IsRow s.edges s.right) q E.row;
      beside = subst (λ z. IsBeside s.edges s.right z E.ears) q E.beside;
      rising = subst (IsRising s.edges) q E.rising;
    }
grown_from n s es (more l h) E m = grown_from n (grown n s) es h (eared_grown n s E l) (within (pcg32 (pcg32 (pcg32 s.words).1).1).0)
  where
    within : (x : ℕ) → s.count + size_of n x s ≤ n
    within x = omega arith

pub made_grown : (n seed : ℕ) (es : List (ℕ × ℕ)) → 2 ≤ n → IsMade n seed es → IsGrown n es
made_grown n seed es l h = grown_from n (begun seed) es h (eared_begun seed) l
