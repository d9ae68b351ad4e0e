-- A strict total order of the numbers below n: how many stand before each is a numbering.
use Rattle.std.proofs.Common.{ℕ, zero, suc, List, [], ◌∷◌, ◌++◌, length, ◌≡◌, ◌<◌, ◌≤◌, ◌+◌, ◌-◌, ◌⊎◌, inl, inr, refl, sym, ap, ◌∙◌, subst, arith, length-append, map}
use Rattle.std.proofs.lemmas.Bool.{cases_eq}
use Rattle.std.proofs.lemmas.List.{length-map}
use Rattle.st_ids.specs.Lists.{In, here, there, NoRepeat, Lists}
use Rattle.st_order.specs.Orders.{Counts}
use Rattle.st_order.specs.Laws.{IsStrictOrder, IsNumbering}
use Rattle.st_ids.proofs.Public.{not_in_nil, In-cases, in_subst, in_dec, in_append, in_left, in_right, Cut, cut_at, length-le_from_below, in_map}

-- a list without repeats is no longer than one that has its elements
pub length-le_from_In : (xs ys : List ℕ) → NoRepeat xs → ((x : ℕ) → In x xs → In x ys) → length xs ≤ length ys
length-le_from_In [] ys once sub = omega arith
length-le_from_In (x ∷ xs) ys once sub =
    let c = cut_at (sub x (here refl)) in
    let zs : List ℕ = c.before ++ c.after in
    let k : length xs ≤ length zs = length-le_from_In xs zs once.1 (λ y i. other c y i (sub y (there i))) in
    let e : length ys ≡ length c.before + suc (length c.after) = ap length c.is ∙ length-append c.before (x ∷ c.after) in
    let e' : length zs ≡ length c.before + length c.after = length-append c.before c.after in
    omega arith
  where
    other : (c : Cut x ys) (y : ℕ) → In y xs → In y ys → In y (c.before ++ c.after)
    other c y i j = elim (in_append c.before (subst (λ z. In y z) c.is j)) [
      | inl a ↦ in_left c.after a
      | inr b ↦ elim (In-cases b) [ inl q ↦ absurd (once.0 (in_subst q i)) | inr d ↦ in_right c.before d ]
    ]

pub Counts-one : (P : ℕ → Type 0) (j k : ℕ) → Counts P j → Counts P k → j ≡ k
Counts-one P j k a b =
    let l : length a.list ≤ length b.list = length-le_from_In a.list b.list a.are.once (λ x i. b.are.all x (a.are.only x i)) in
    let m : length b.list ≤ length a.list = length-le_from_In b.list a.list b.are.once (λ x i. a.are.all x (b.are.only x i)) in
    let p : length a.list ≡ j = a.is in
    let q : length b.list ≡ k = b.is in
    omega arith

module _ (n : ℕ) (R : ℕ → ℕ → Type 0) (T : IsStrictOrder (λ (u : ℕ). u < n) R) where
  decide : (u v : ℕ) → u < n → v < n → R u v ⊎ (R u v → ⊥)
  decide u v i j = elim (cases_eq u v) [
    | inl q ↦ inr (λ h. T.irreflexive v (subst (λ z. R z v) q h))
    | inr d ↦ elim (T.total u v i j d) [
      | inl h ↦ inl h
      | inr h ↦ inr (λ k. T.irreflexive u (T.transitive u v u i j i k h))
    ]
  ]

  -- those below m that stand before v
  pub record Earlier (v m : ℕ) : Type 0 where
    pub list : List ℕ
    pub are : Lists list (λ u. (u < m) × R u v)

  earlier : (v m : ℕ) → v < n → m ≤ n → Earlier v m
  earlier v zero i l = record { list = []; are = record { only = λ x j. absurd (not_in_nil j); all = λ x h. (let k : x < 0 = h.0 in absurd (omega arith)); once = tt } }
  earlier v (suc m) i l =
      let E = earlier v m i (omega arith) in
      elim (decide m v l i) [
        | inl h ↦ record {
          list = m ∷ E.list;
          are = record {
            only = λ x j. elim (In-cases j) [
              | inl q ↦ (omega arith, subst (λ z. R z v) (sym q) h)
              | inr k ↦ (let o = E.are.only x k in let b : x < m = o.0 in (omega arith, o.1))
            ];
            all = λ x k. elim (cases_eq x m) [
              | inl q ↦ here q
              | inr d ↦ (let b : x < suc m = k.0 in there (E.are.all x (omega arith, k.1)))
            ];
            once = ((λ j. let b : m < m = (E.are.only m j).0 in absurd (omega arith)), E.are.once);
          };
        }
        | inr h ↦ record {
          list = E.list;
          are = record {
            only = λ x k. (let o = E.are.only x k in let b : x < m = o.0 in (omega arith, o.1));
            all = λ x k. elim (cases_eq x m) [
              | inl q ↦ absurd (h (subst (λ z. R z v) q k.1))
              | inr d ↦ (let b : x < suc m = k.0 in E.are.all x (omega arith, k.1))
            ];
            once = E.are.once;
          };
        }
      ]

  pub rank : (v : ℕ) → v < n → (k : ℕ) × Counts (λ u. (u < n) × R u v) k
  rank v i = let E = earlier v n i (omega arith) in (length E.list, record { list = E.list; are = E.are; is = refl })

  pub rank_grows : (u v j k : ℕ) → u < n → v < n → Counts (λ w. (w < n) × R w u) j → Counts (λ w. (w < n) × R w v) k → R u v → j < k
  rank_grows u v j k i i' a b h =
      let l : length (u ∷ a.list) ≤ length b.list = length-le_from_In (u ∷ a.list) b.list ((λ m. T.irreflexive u (a.are.only u m).1), a.are.once) (λ x m. elim (In-cases m) [
        | inl q ↦ b.are.all x (subst (λ z. z < n) (sym q) i, subst (λ z. R z v) (sym q) h)
        | inr m' ↦ (let o = a.are.only x m' in b.are.all x (o.0, T.transitive x u v o.0 i i' o.1 h))
      ]) in
      let p : length a.list ≡ j = a.is in
      let q : length b.list ≡ k = b.is in
      omega arith

  pub rank_below : (v k : ℕ) → v < n → Counts (λ w. (w < n) × R w v) k → k < n
  rank_below v k i a =
      let l : length (v ∷ a.list) ≤ n = length-le_from_below n (v ∷ a.list) ((λ m. T.irreflexive v (a.are.only v m).1), a.are.once) (λ x m. elim (In-cases m) [
        | inl q ↦ subst (λ z. z < n) (sym q) i
        | inr m' ↦ (a.are.only x m').0
      ]) in
      let p : length a.list ≡ k = a.is in
      omega arith

  -- where the first's number is at most the second's, they are one or in order
  pub from_ranks : (u v j k : ℕ) → u < n → v < n → Counts (λ w. (w < n) × R w u) j → Counts (λ w. (w < n) × R w v) k → j ≤ k → (u ≡ v) ⊎ R u v
  from_ranks u v j k i i' a b l = elim (cases_eq u v) [
    | inl q ↦ inl q
    | inr d ↦ elim (T.total u v i i' d) [
      | inl h ↦ inr h
      | inr h ↦ (let m : k < j = rank_grows v u k j i' i b a h in absurd (omega arith))
    ]
  ]

  rank_different : (u v k : ℕ) → u < n → v < n → Counts (λ w. (w < n) × R w u) k → Counts (λ w. (w < n) × R w v) k → u ≡ v
  rank_different u v k i i' a b = elim (from_ranks u v k k i i' a b (omega arith)) [
    | inl q ↦ q
    | inr h ↦ (let m : k < k = rank_grows u v k k i i' a b h in absurd (omega arith))
  ]

  -- the numbers of those below m
  pub record Taken (m : ℕ) : Type 0 where
    pub list : List ℕ
    pub once : NoRepeat list
    pub long : length list ≡ m
    pub of : (k : ℕ) → In k list → (v : ℕ) × (v < m) × Counts (λ w. (w < n) × R w v) k

  taken : (m : ℕ) → m ≤ n → Taken m
  taken zero l = record { list = []; once = tt; long = refl; of = λ k j. absurd (not_in_nil j) }
  taken (suc m) l =
      let E = taken m (omega arith) in
      let r = rank m l in
      record {
        list = r.0 ∷ E.list;
        once = ((λ j. let o = E.of r.0 j in let b : o.0 < m = o.1 in let q : o.0 ≡ m = rank_different o.0 m r.0 (omega arith) l o.2 r.1 in absurd (omega arith)), E.once);
        long = (let p : length E.list ≡ m = E.long in omega arith);
        of = λ k j. elim (In-cases j) [
          | inl q ↦ (m, omega arith, subst (Counts (λ w. (w < n) × R w m)) (sym q) r.1)
          | inr i ↦ (let o = E.of k i in let b : o.0 < m = o.1 in (o.0, omega arith, o.2))
        ];
      }

  pub numbering : IsNumbering n (λ v k. Counts (λ u. (u < n) × R u v) k)
  numbering = record {
    some = rank;
    one = λ v j k a b. Counts-one (λ u. (u < n) × R u v) j k a b;
    below = rank_below;
    different = rank_different;
    onto = λ k l.
        let E = taken n (omega arith) in
        elim (in_dec k E.list) [
          | inl i ↦ E.of k i
          | inr out ↦
              let m : length (k ∷ E.list) ≤ n = length-le_from_below n (k ∷ E.list) (out, E.once) (λ x i. elim (In-cases i) [
                | inl q ↦ subst (λ z. z < n) (sym q) l
                | inr j ↦ (let o = E.of x j in rank_below o.0 x o.1 o.2)
              ]) in
              let p : length E.list ≡ n = E.long in
              absurd (omega arith)
        ];
  }

-- ---- numbers that keep the order
-- those below m that stand after v
module _ (n : ℕ) (R : ℕ → ℕ → Type 0) (T : IsStrictOrder (λ (u : ℕ). u < n) R) where
  flipped : IsStrictOrder (λ (u : ℕ). u < n) (λ u v. R v u)
  flipped = record {
    irreflexive = T.irreflexive;
    transitive = λ a b c i j k h m. T.transitive c b a k j i m h;
    total = λ a b i j d. elim (T.total a b i j d) [ inl h ↦ inr h | inr h ↦ inl h ];
  }

  module _ (h : ℕ → ℕ) (into : (v : ℕ) → v < n → h v < n) (keeps : (u v : ℕ) → u < n → v < n → R u v → h u < h v) where
    images_once : (xs : List ℕ) → NoRepeat xs → ((x : ℕ) → In x xs → x < n) → NoRepeat (map h xs)
    images_once [] once below = tt
    images_once (x ∷ xs) once below = (
      (λ i.
          let m = in_map h (h x) xs i in
          let l : m.0 < n = below m.0 (there m.1) in
          let l' : x < n = below x (here refl) in
          let q : h x ≡ h m.0 = m.2 in
          elim (cases_eq x m.0) [
            | inl p ↦ once.0 (in_subst (sym p) m.1)
            | inr d ↦ elim (T.total x m.0 l' l d) [
              | inl r ↦ (let k : h x < h m.0 = keeps x m.0 l' l r in absurd (omega arith))
              | inr r ↦ (let k : h m.0 < h x = keeps m.0 x l l' r in absurd (omega arith))
            ]
          ]),
      images_once xs once.1 (λ y i. below y (there i)),
    )

    -- at least as many stand before v as its rank says
    rank_le : (v k : ℕ) → v < n → Counts (λ w. (w < n) × R w v) k → k ≤ h v
    rank_le v k i C =
        let l : length (map h C.list) ≤ h v = length-le_from_below (h v) (map h C.list) (images_once C.list C.are.once (λ x j. (C.are.only x j).0)) (λ y j.
        let m = in_map h y C.list j in
        let o = C.are.only m.0 m.1 in
        let p : h m.0 < h v = keeps m.0 v o.0 i o.1 in
        let q : y ≡ h m.0 = m.2 in
        omega arith) in
        let e : length (map h C.list) ≡ length C.list = length-map C.list h in
        let p : length C.list ≡ k = C.is in
        omega arith

  -- the numbers below m
  pub record UpTo (m : ℕ) : Type 0 where
    pub list : List ℕ
    pub has : (x : ℕ) → x < m → In x list
    pub within : (x : ℕ) → In x list → x < m
    pub once : NoRepeat list
    pub long : length list ≡ m

  up_to : (m : ℕ) → UpTo m
  up_to zero = record { list = []; has = λ x l. absurd (omega arith); within = λ x i. absurd (not_in_nil i); once = tt; long = refl }
  up_to (suc m) =
      let E = up_to m in
      record {
        list = m ∷ E.list;
        has = λ x l. elim (cases_eq x m) [ inl q ↦ here q | inr d ↦ there (E.has x (omega arith)) ];
        within = λ x i. elim (In-cases i) [ inl q ↦ omega arith | inr j ↦ (let k : x < m = E.within x j in omega arith) ];
        once = ((λ i. let k : m < m = E.within m i in absurd (omega arith)), E.once);
        long = (let p : length E.list ≡ m = E.long in omega arith);
      }

  -- before v, v and after v are all
  ranks_all : (v j k : ℕ) → v < n → Counts (λ w. (w < n) × R w v) j → Counts (λ w. (w < n) × R v w) k → n ≤ j + suc k
  ranks_all v j k i A B =
      let U = up_to n in
      let l : length U.list ≤ length (A.list ++ v ∷ B.list) = length-le_from_In U.list (A.list ++ v ∷ B.list) U.once (λ x m.
      let x_in : x < n = U.within x m in
      elim (cases_eq x v) [
        | inl q ↦ in_right A.list (here q)
        | inr d ↦ elim (T.total x v x_in i d) [
          | inl r ↦ in_left (v ∷ B.list) (A.are.all x (x_in, r))
          | inr r ↦ in_right A.list (there (B.are.all x (x_in, r)))
        ]
      ]) in
      let e : length (A.list ++ v ∷ B.list) ≡ length A.list + suc (length B.list) = length-append A.list (v ∷ B.list) in
      let a : length A.list ≡ j = A.is in
      let b : length B.list ≡ k = B.is in
      let u : length U.list ≡ n = U.long in
      omega arith

pub rank_by_order : (n : ℕ) (R : ℕ → ℕ → Type 0) → IsStrictOrder (λ (u : ℕ). u < n) R → (h : ℕ → ℕ) → ((v : ℕ) → v < n → h v < n) → ((u v : ℕ) → u < n → v < n → R u v → h u < h v) → (v : ℕ) → v < n → Counts (λ u. (u < n) × R u v) (h v)
rank_by_order n R T h into keeps v i =
    let A = rank n R T v i in
    let B = rank n (λ u v. R v u) (flipped n R T) v i in
    let l : A.0 ≤ h v = rank_le n R T h into keeps v A.0 i A.1 in
    -- the other way round, numbers count down from n - 1
    let m : B.0 ≤ n - 1 - h v = rank_le n (λ u v. R v u) (flipped n R T) (λ w. n - 1 - h w) (λ w j. (let p : h w < n = into w j in omega arith)) (λ u v i j r. (let p : h v < h u = keeps v u j i r in let q : h u < n = into u i in omega arith)) v B.0 i B.1 in
    let s : n ≤ A.0 + suc B.0 = ranks_all n R T v A.0 B.0 i A.1 B.1 in
    let t : h v < n = into v i in
    let e : A.0 ≡ h v = omega arith in
    subst (Counts (λ u. (u < n) × R u v)) e A.1
