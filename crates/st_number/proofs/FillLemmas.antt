-- Columns along a sweep.
use Rattle.std.proofs.Common.{◌≡◌, ◌≢◌, ℕ, ◌+◌, ◌-◌, ◌*◌, ◌^◌, ◌<◌, ◌≤◌, ℤ, pos, map, inl, inr, List, [], ◌∷◌, ◌++◌, length, get_or, refl, sym, ap, ◌∙◌, subst, arith}
use Rattle.std.proofs.Math.ListN.{set, get_or-map}
use Rattle.std.proofs.lemmas.List.{get_or-set_same, get_or-set_other, length-set, length-map}
use Rattle.std.specs.Prelude.{slice_get}
use Rattle.std.proofs.lemmas.Bool.{cases_eq, cases_lt}
use Rattle.st_ids.specs.Walks.{Walk, stay, step}
use Rattle.st_ids.specs.declared.ids.FaceId.{FaceId}
use Rattle.st_ids.proofs.Public.{walk_append}
use Rattle.st_sides.specs.Sides.{SidesValue, IsSides, edge_count, face_left, face_right, left_path, dual}
use Rattle.st_sides.specs.Sweep.{AreSwept, node_numbers}
use Rattle.st_sides.proofs.Public.{in_at, at_in, dual_acyclic}
use Rattle.st_number.specs.Filling.{AreLeftColumns, IsReaching, IsColumnTable, IsFilling}
use Rattle.st_number.specs.Greatest.{weigh, IsColumn}
use Rattle.st_number.specs.Heights.{AreColumns}
use Rattle.st_number.proofs.BoundLemmas.{greatest_most, bounds_law}
use Rattle.st_number.proofs.PassLemmas.{signed_at}
use Rattle.st_number.proofs.GreatestLemmas.{weigh-append, last_arc, dual_within, dual_has_in}

-- ---- nodes in a list of ids
pub face_at : (fs : List FaceId) (k : ℕ) → get_or (node_numbers fs) k 0 ≡ (get_or fs k (record { 0 = 0 })).0
face_at fs k = get_or-map (λ f. f.0) fs k (record { 0 = 0 })

pub faces_size : (fs : List FaceId) → length (node_numbers fs) ≡ length fs
faces_size fs = length-map fs (λ f. f.0)

-- ---- the column of one node
module _ (x : SidesValue) (S : IsSides x) where
  pub column_most : (f n : ℕ) → IsColumn x f n → n ≤ x.t_star
  column_most f n H =
      let h : n ≤ (x.t_star + 1 - 1) * 1 = greatest_most (dual x) (x.t_star + 1) (dual_acyclic x S) (dual_within x S) (λ _. 1) 1 (λ e l. omega arith) 0 f n H in
      omega (arith, h)

  pub column_start : IsColumn x 0 0
  column_start = record { way = []; walk = stay refl; weighs = refl; most = λ es k. none es k }
    where
      none : (es : List ℕ) → Walk (dual x) 0 es 0 → weigh (λ _. 1) es ≤ 0
      none [] k = omega arith
      none (e ∷ es) k = absurd (dual_acyclic x S 0 e es k)

  module _ (cs : List ℕ) (f : ℕ) (fs : f ≤ x.t_star) (nz : f ≢ 0) (L : AreLeftColumns x cs f) where
    pos_f : 0 < f
    pos_f = omega arith

    -- the edges of the left path
    pub on_path : (j : ℕ) → j < length (left_path x f) → (get_or (left_path x f) j 0 < edge_count x) × (face_right x (get_or (left_path x f) j 0) ≡ f)
    on_path j l = (S.left_path_are f pos_f fs).only (get_or (left_path x f) j 0) (in_at (get_or (left_path x f) j 0) (left_path x f) j l refl)

    pub column_by : (n k : ℕ) → length (left_path x f) ≤ k → k ≤ length (left_path x f) → IsReaching x cs f k n → IsColumn x f n
    column_by n k end to R =
        let some : (e : ℕ) × (e < edge_count x) × (face_right x e ≡ f) = dual_has_in x S f (omega arith) nz in
        let at : (j : ℕ) × (j < length (left_path x f)) × (get_or (left_path x f) j 0 ≡ some.0) = at_in ((S.left_path_are f pos_f fs).all some.0 (some.1, some.2)) in
        elim R.brought [
          | inl z ↦ (let h = R.enough at.0 (omega (arith, at.1)) in absurd (omega (arith, h, z)))
          | inr r ↦ found r.0 (omega (arith, r.1)) r.2
        ]
      where
        -- each walk to f comes by an edge of the left path
        bound : (es : List ℕ) → Walk (dual x) 0 es f → weigh (λ _. 1) es ≤ n
        bound es walk = elim (last_arc (dual x) 0 f es walk) [
          | inl q ↦ absurd (nz (sym q))
          | inr A ↦
              let at : (j : ℕ) × (j < length (left_path x f)) × (get_or (left_path x f) j 0 ≡ A.arc) = at_in ((S.left_path_are f pos_f fs).all A.arc (A.is_arc, A.ends)) in
              let r : get_or cs (face_left x (get_or (left_path x f) at.0 0)) 0 + 1 ≤ n = R.enough at.0 (omega (arith, at.1)) in
              let m : get_or cs (face_left x A.arc) 0 + 1 ≤ n = subst (λ z. get_or cs (face_left x z) 0 + 1 ≤ n) at.2 r in
              let l : weigh (λ _. 1) A.front ≤ get_or cs (face_left x A.arc) 0 = (L A.arc A.is_arc A.ends).most A.front A.before in
              let p : weigh (λ _. 1) es ≡ weigh (λ _. 1) (A.front ++ A.arc ∷ []) = ap (weigh (λ _. 1)) A.is in
              let q : weigh (λ _. 1) (A.front ++ A.arc ∷ []) ≡ weigh (λ _. 1) A.front + (1 + 0) = weigh-append (λ _. 1) A.front (A.arc ∷ []) in
              omega arith
        ]

        found : (j : ℕ) → j < length (left_path x f) → n ≡ get_or cs (face_left x (get_or (left_path x f) j 0)) 0 + 1 → IsColumn x f n
        found j l q =
            let e : ℕ = get_or (left_path x f) j 0 in
            let k : (get_or (left_path x f) j 0 < edge_count x) × (face_right x (get_or (left_path x f) j 0) ≡ f) = on_path j l in
            let G : IsColumn x (face_left x (get_or (left_path x f) j 0)) (get_or cs (face_left x (get_or (left_path x f) j 0)) 0) = L (get_or (left_path x f) j 0) k.0 k.1 in
            record {
              way = G.way ++ e ∷ [];
              walk = walk_append G.walk (step k.0 refl (stay k.1));
              weighs =
                  let p : weigh (λ _. 1) (G.way ++ get_or (left_path x f) j 0 ∷ []) ≡ weigh (λ _. 1) G.way + (1 + 0) = weigh-append (λ _. 1) G.way (get_or (left_path x f) j 0 ∷ []) in
                  let h : weigh (λ _. 1) G.way ≡ get_or cs (face_left x (get_or (left_path x f) j 0)) 0 = G.weighs in
                  omega (arith, p, h, q);
              most = bound;
            }

  -- ---- all nodes
  module _ (fs cs : List ℕ) (k : ℕ) (sw : AreSwept x fs) (lk : k < length fs) (F : IsFilling x fs cs k) where
    pub node_in : get_or fs k 0 ≤ x.t_star
    node_in = sw.within k lk

    pub lefts : AreLeftColumns x cs (get_or fs k 0)
    lefts e l q =
        let r : (i : ℕ) × (i < k) × (get_or fs i 0 ≡ face_left x e) = sw.after k e lk l q in
        subst (λ z. IsColumn x z (get_or cs z 0)) r.2 (F.done r.0 r.1)

    pub fill_more : (n : ℕ) → IsColumn x (get_or fs k 0) n → IsFilling x fs (set cs (get_or fs k 0) n) (k + 1)
    fill_more n c = record {
      size = length-set cs (get_or fs k 0) n ∙ F.size;
      done = λ j l. elim (cases_eq j k) [
        | inl q ↦ subst (λ z. IsColumn x (get_or fs z 0) (get_or (set cs (get_or fs k 0) n) (get_or fs z 0) 0)) (sym q)
            (subst (λ z. IsColumn x (get_or fs k 0) z) (sym (get_or-set_same cs (get_or fs k 0) n 0 (omega (arith, node_in, F.size)))) c)
        | inr ne ↦ subst (λ z. IsColumn x (get_or fs j 0) z)
            (sym (get_or-set_other cs (get_or fs k 0) (get_or fs j 0) n 0 (λ q. sw.apart j k (omega arith) lk q)))
            (F.done j (omega arith))
      ];
    }

  pub fill_end : (fs cs : List ℕ) (k : ℕ) → x.t_star < 2 ^ 31 → AreSwept x fs → length fs ≤ k → IsFilling x fs cs k → IsColumnTable x cs
  fill_end fs cs k room sw end F = record {
    size = F.size;
    room = room;
    each = λ f l.
        let r : (i : ℕ) × (i < length fs) × (get_or fs i 0 ≡ f) = sw.place f l in
        subst (λ z. IsColumn x z (get_or cs z 0)) r.2 (F.done r.0 (omega (arith, r.1)));
  }

-- ---- one more edge of the left path
module _ (x : SidesValue) (cs : List ℕ) (f k n m : ℕ) (R : IsReaching x cs f k n) (q : m ≡ get_or cs (face_left x (get_or (left_path x f) k 0)) 0 + 1) where
  old_enough : n ≤ m → (j : ℕ) → j < k + 1 → get_or cs (face_left x (get_or (left_path x f) j 0)) 0 + 1 ≤ m
  old_enough le j l = elim (cases_lt j k) [
    | inl a ↦ (let h = R.enough j a in omega (arith, h, le))
    | inr b ↦
        let i : j ≡ k = omega arith in
        let h : get_or cs (face_left x (get_or (left_path x f) j 0)) 0 ≡ get_or cs (face_left x (get_or (left_path x f) k 0)) 0 =
        ap (λ z. get_or cs (face_left x (get_or (left_path x f) z 0)) 0) i in
        omega (arith, h, q)
  ]

  pub reach_more : n < m → IsReaching x cs f (k + 1) m
  reach_more lt = record { enough = old_enough (omega arith); brought = inr (k, omega arith, q) }

  pub reach_keep : m ≤ n → IsReaching x cs f (k + 1) n
  reach_keep le = record {
    enough = λ j l. elim (cases_lt j k) [
      | inl a ↦ R.enough j a
      | inr b ↦
          let i : j ≡ k = omega arith in
          let h : get_or cs (face_left x (get_or (left_path x f) j 0)) 0 ≡ get_or cs (face_left x (get_or (left_path x f) k 0)) 0 =
          ap (λ z. get_or cs (face_left x (get_or (left_path x f) z 0)) 0) i in
          omega (arith, h, q, le)
    ];
    brought = elim R.brought [ inl z ↦ inl z | inr r ↦ inr (r.0, omega (arith, r.1), r.2) ];
  }

-- ---- signed columns
pub columns_of : (x : SidesValue) → IsSides x → (table : List ℕ) (columns : List ℤ) → IsColumnTable x table → columns ≡ map (λ n. pos n) table → AreColumns x columns
columns_of x S table columns T q = record {
  column = λ f. get_or table f 0;
  size = ap (λ (z : List ℤ). length z) q ∙ length-map table (λ n. pos n) ∙ T.size;
  at = λ f l. ap (λ (z : List ℤ). slice_get z f) q ∙ signed_at table f (omega (arith, l, T.size));
  greatest = T.each;
  few = λ f l. (bounds_law x S).columns f (get_or table f 0) (T.each f l);
}
