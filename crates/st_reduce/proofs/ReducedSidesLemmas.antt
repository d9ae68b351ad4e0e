-- The sides of the reduced graph are those of the graph, with the new vertices and the new edges.
use Rattle.std.proofs.Common.{◌≡◌, ◌≢◌, ℕ, suc, ◌+◌, ◌-◌, ◌<◌, ◌≤◌, ◌⊎◌, List, [], ◌∷◌, ◌++◌, map, length, get_or, Option, Some, None, inl, inr, refl, sym, ap, ◌∙◌, subst, arith}
use Rattle.std.proofs.lemmas.Bool.{cases_eq, cases_lt}
use Rattle.st_ids.specs.Graph.{tail_of, head_of}
use Rattle.st_map.specs.Embedded.{Embedded, edges, tail, head}
use Rattle.st_map.specs.Split.{split, SplitsEdge}
use Rattle.st_test.specs.Planar.{IsPlanarSt}
use Rattle.st_sides.specs.Conditions.{AreIns, AreOuts}
use Rattle.st_sides.specs.Sides.{SidesValue, edge_count, edge_tail, edge_head, outs, ins, low, high, left_path, right_path}
use Rattle.st_sides.specs.SidesOf.{IsSidesOf}
use Rattle.st_reduce.specs.Reduced.{Splits, begin, keep, cut, dummy_at}
use Rattle.st_reduce.specs.ReducedSides.{last_with, last_of, ReducedSidesLaw}
use Rattle.st_reduce.proofs.ReducedLemmas.{After, after, split_of, length-splits, entry_old, entry_new, entry_none, entry_kept}
use Rattle.st_reduce.proofs.StarStepLemmas.{renamed, outs_step, ins_step, outs_one, ins_one, renamed_same, renamed_other}

last_same : (g : Embedded) (ds cs : List (Option ℕ)) (e : ℕ) → dummy_at ds e ≡ dummy_at cs e → last_of g ds e ≡ last_of g cs e
unfolding last_of
last_same g ds cs e q = ap (last_with g.vertices (edges g) e) q

last_none : (g : Embedded) (ds : List (Option ℕ)) (e : ℕ) → dummy_at ds e ≡ None → last_of g ds e ≡ e
unfolding last_of
last_none g ds e q = ap (last_with g.vertices (edges g) e) q

last_some : (g : Embedded) (ds : List (Option ℕ)) (e w : ℕ) → dummy_at ds e ≡ Some w → last_of g ds e ≡ edges g + (w - g.vertices)
unfolding last_of
last_some g ds e w q = ap (last_with g.vertices (edges g) e) q

none_some : (w : ℕ) (d : Option ℕ) → d ≡ None → d ≡ Some w → ⊥
none_some w d p q = (let z : None ≡ Some w = sym p ∙ q in cc)

some_one : (v w : ℕ) (d : Option ℕ) → d ≡ Some v → d ≡ Some w → v ≡ w
some_one v w d p q = (let z : Some v ≡ Some w = sym p ∙ q in cc)

-- ---- the parts of the graph so far
record Parts (g h : Embedded) (D : ℕ → Option ℕ) (L : ℕ → ℕ) : Type 0 where
  last_in : (e : ℕ) → e < edges g → L e < edges h
  tail_is : (e : ℕ) → e < edges g → tail h e ≡ tail g e
  head_is : (e : ℕ) → e < edges g → head h (L e) ≡ head g e
  new_vertex : (e w : ℕ) → e < edges g → D e ≡ Some w → (g.vertices ≤ w) × (w < h.vertices)
  into_dummy : (e w : ℕ) → e < edges g → D e ≡ Some w → head h e ≡ w
  out_of_dummy : (e w : ℕ) → e < edges g → D e ≡ Some w → tail h (L e) ≡ w
  all : (a : ℕ) → a < edges h → (a < edges g) ⊎ ((e : ℕ) × (w : ℕ) × (e < edges g) × (D e ≡ Some w) × (a ≡ L e))
  one_edge : (e f w : ℕ) → e < edges g → f < edges g → D e ≡ Some w → D f ≡ Some w → e ≡ f

parts_same : (g h : Embedded) (D D' : ℕ → Option ℕ) (L L' : ℕ → ℕ) → ((e : ℕ) → D' e ≡ D e) → ((e : ℕ) → L' e ≡ L e) → Parts g h D L → Parts g h D' L'
parts_same g h D D' L L' d l P = record {
  last_in = λ e i. subst (λ z. z < edges h) (sym (l e)) (P.last_in e i);
  tail_is = P.tail_is;
  head_is = λ e i. ap (head h) (l e) ∙ P.head_is e i;
  new_vertex = λ e w i q. P.new_vertex e w i (sym (d e) ∙ q);
  into_dummy = λ e w i q. P.into_dummy e w i (sym (d e) ∙ q);
  out_of_dummy = λ e w i q. ap (tail h) (l e) ∙ P.out_of_dummy e w i (sym (d e) ∙ q);
  all = λ a i. elim (P.all a i) [
    | inl m ↦ inl m
    | inr r ↦ inr (r.0, r.1, r.2, d r.0 ∙ r.3, r.4 ∙ sym (l r.0))
  ];
  one_edge = λ e f w i j q p. P.one_edge e f w i j (sym (d e) ∙ q) (sym (d f) ∙ p);
}

module _ (g h h' : Embedded) (k : ℕ) (I : SplitsEdge h h' k) (D D' : ℕ → Option ℕ) (L L' : ℕ → ℕ) (P : Parts g h D L)
    (kg : k < edges g) (me : edges g ≤ edges h) (mv : g.vertices ≤ h.vertices) (none : D k ≡ None) (d_old : (e : ℕ) → e ≢ k → D' e ≡ D e) (d_new : D' k ≡ Some h.vertices)
    (l_old : (e : ℕ) → e ≢ k → L' e ≡ L e) (l_new : L' k ≡ edges h) (l_none : (e : ℕ) → D e ≡ None → L e ≡ e) (l_some : (e w : ℕ) → D e ≡ Some w → edges g ≤ L e) where
  -- another edge doesn't come to its head by the edge that is split
  not_split : (e : ℕ) → e ≢ k → L e ≢ k
  not_split e n = go (D e) refl
    where
      go : (d : Option ℕ) → D e ≡ d → L e ≢ k
      go None q p = n (sym (l_none e q) ∙ p)
      go (Some w) q p = (let z : edges g ≤ L e = l_some e w q in omega arith)

  cut_not : (e w : ℕ) → D e ≡ Some w → e ≢ k
  cut_not e w q p = none_some w (D e) (ap D p ∙ none) q

  parts_cut : Parts g h' D' L'
  parts_cut =
      let c : edges h' ≡ suc (edges h) = I.count in
      let cv : h'.vertices ≡ suc h.vertices = I.vertices in
      record {
        last_in = λ e i. elim (cases_eq e k) [
          | inl q ↦ (let z : L' e ≡ edges h = ap L' q ∙ l_new in omega arith)
          | inr n ↦ (let z : L' e ≡ L e = l_old e n in let y : L e < edges h = P.last_in e i in omega arith)
        ];
        tail_is = λ e i. I.tail_old e (omega arith) ∙ P.tail_is e i;
        head_is = λ e i. elim (cases_eq e k) [
          | inl q ↦ ap (λ z. head h' (L' z)) q ∙ ap (head h') l_new ∙ I.head_new ∙ ap (head h) (sym (l_none k none)) ∙ P.head_is k kg ∙ ap (head g) (sym q)
          | inr n ↦ ap (head h') (l_old e n) ∙ I.head_old (L e) (P.last_in e i) (not_split e n) ∙ P.head_is e i
        ];
        new_vertex = λ e w i q. elim (cases_eq e k) [
          | inl p ↦ (let z : h.vertices ≡ w = some_one h.vertices w (D' k) d_new (ap D' (sym p) ∙ q) in (omega arith, omega arith))
          | inr n ↦ (let r = P.new_vertex e w i (sym (d_old e n) ∙ q) in (r.0, (let y : w < h.vertices = r.1 in omega arith)))
        ];
        into_dummy = λ e w i q. elim (cases_eq e k) [
          | inl p ↦ ap (head h') p ∙ I.head_split ∙ some_one h.vertices w (D' k) d_new (ap D' (sym p) ∙ q)
          | inr n ↦ I.head_old e (omega arith) n ∙ P.into_dummy e w i (sym (d_old e n) ∙ q)
        ];
        out_of_dummy = λ e w i q. elim (cases_eq e k) [
          | inl p ↦ ap (λ z. tail h' (L' z)) p ∙ ap (tail h') l_new ∙ I.tail_new ∙ some_one h.vertices w (D' k) d_new (ap D' (sym p) ∙ q)
          | inr n ↦ ap (tail h') (l_old e n) ∙ I.tail_old (L e) (P.last_in e i) ∙ P.out_of_dummy e w i (sym (d_old e n) ∙ q)
        ];
        all = λ a i. elim (cases_lt a (edges h)) [
          | inl m ↦ elim (P.all a m) [
            | inl y ↦ inl y
            | inr r ↦ (let n = cut_not r.0 r.1 r.3 in inr (r.0, r.1, r.2, d_old r.0 n ∙ r.3, r.4 ∙ sym (l_old r.0 n)))
          ]
          | inr m ↦ inr (k, h.vertices, kg, d_new, (let z : a ≡ edges h = omega arith in z) ∙ sym l_new)
        ];
        one_edge = λ e f w i j q p. elim (cases_eq e k) [
          | inl a ↦ elim (cases_eq f k) [
            | inl b ↦ a ∙ sym b
            | inr b ↦
                let z : h.vertices ≡ w = some_one h.vertices w (D' k) d_new (ap D' (sym a) ∙ q) in
                let y : w < h.vertices = (P.new_vertex f w j (sym (d_old f b) ∙ p)).1 in
                absurd (omega arith)
          ]
          | inr a ↦ elim (cases_eq f k) [
            | inl b ↦
                let z : h.vertices ≡ w = some_one h.vertices w (D' k) d_new (ap D' (sym b) ∙ p) in
                let y : w < h.vertices = (P.new_vertex e w i (sym (d_old e a) ∙ q)).1 in
                absurd (omega arith)
            | inr b ↦ P.one_edge e f w i j (sym (d_old e a) ∙ q) (sym (d_old f b) ∙ p)
          ]
        ];
      }

  -- the edge that comes to the head afterwards
  renamed_last : (e : ℕ) → e < edges g → renamed h k (L e) ≡ L' e
  renamed_last e i = elim (cases_eq e k) [
    | inl q ↦ renamed_same h k (L e) (l_none e (ap D q ∙ none) ∙ q) ∙ sym (ap L' q ∙ l_new)
    | inr n ↦ renamed_other h k (L e) (not_split e n) ∙ sym (l_old e n)
  ]

map_same : (f f' : ℕ → ℕ) (es : List ℕ) → ((x : ℕ) → f x ≡ f' x) → map f es ≡ map f' es
map_same f f' [] q = refl
map_same f f' (x ∷ xs) q = ap (λ z. z ∷ map f xs) (q x) ∙ ap (λ zs. f' x ∷ zs) (map_same f f' xs q)

map_self : (f : ℕ → ℕ) (es : List ℕ) → ((x : ℕ) → f x ≡ x) → map f es ≡ es
map_self f [] q = refl
map_self f (x ∷ xs) q = ap (λ z. z ∷ map f xs) (q x) ∙ ap (λ zs. x ∷ zs) (map_self f xs q)

map_then : (f q f' : ℕ → ℕ) (es : List ℕ) → ((i : ℕ) → i < length es → q (f (get_or es i 0)) ≡ f' (get_or es i 0)) → map q (map f es) ≡ map f' es
map_then f q f' [] p = refl
map_then f q f' (x ∷ xs) p = ap (λ z. z ∷ map q (map f xs)) (p 0 (omega arith)) ∙ ap (λ zs. f' x ∷ zs) (map_then f q f' xs (λ i l. p (suc i) (omega arith)))

module _ (g : Embedded) (s t outer : ℕ) (st : IsPlanarSt g s t outer) where
  -- what a further split asks for, and gives
  facts : (j : ℕ) (cs : List (Option ℕ)) (h0 : Embedded) → Splits g j cs h0 → j < edges g → Parts g h0 (dummy_at cs) (last_of g cs)
      → Parts g (split h0 j) (dummy_at (cs ++ Some h0.vertices ∷ [])) (last_of g (cs ++ Some h0.vertices ∷ []))
      × ((e : ℕ) → e < edges g → renamed h0 j (last_of g cs e) ≡ last_of g (cs ++ Some h0.vertices ∷ []) e)
  facts j cs h0 S l P =
      let A : After g s t outer j h0 = after g s t outer st j cs h0 S (omega arith) in
      let me : edges g ≤ edges h0 = A.more_edges in
      let mv : g.vertices ≤ h0.vertices = A.more_vertices in
      let many : h0.vertices + edges g ≡ g.vertices + edges h0 = A.as_many in
      let len : length cs ≡ j = length-splits g j cs h0 S in
      let I : SplitsEdge h0 (split h0 j) j = split_of h0 s t outer j A.st (omega arith) in
      let none : dummy_at cs j ≡ None = entry_none cs j (omega arith) in
      let d_old : (e : ℕ) → e ≢ j → dummy_at (cs ++ Some h0.vertices ∷ []) e ≡ dummy_at cs e = λ e n. entry_old cs (Some h0.vertices) e (λ q. n (q ∙ len)) in
      let d_new : dummy_at (cs ++ Some h0.vertices ∷ []) j ≡ Some h0.vertices = entry_new cs (Some h0.vertices) j (sym len) in
      let l_old : (e : ℕ) → e ≢ j → last_of g (cs ++ Some h0.vertices ∷ []) e ≡ last_of g cs e = λ e n. last_same g (cs ++ Some h0.vertices ∷ []) cs e (d_old e n) in
      let l_new : last_of g (cs ++ Some h0.vertices ∷ []) j ≡ edges h0 = last_some g (cs ++ Some h0.vertices ∷ []) j h0.vertices d_new ∙ (let z : edges g + (h0.vertices - g.vertices) ≡ edges h0 = omega arith in z) in
      let l_some : (e w : ℕ) → dummy_at cs e ≡ Some w → edges g ≤ last_of g cs e = λ e w q. (let z : last_of g cs e ≡ edges g + (w - g.vertices) = last_some g cs e w q in omega arith) in (
        parts_cut g h0 (split h0 j) j I (dummy_at cs) (dummy_at (cs ++ Some h0.vertices ∷ [])) (last_of g cs) (last_of g (cs ++ Some h0.vertices ∷ [])) P l me mv none d_old d_new l_old l_new (last_none g cs) l_some,
        renamed_last g h0 (split h0 j) j I (dummy_at cs) (dummy_at (cs ++ Some h0.vertices ∷ [])) (last_of g cs) (last_of g (cs ++ Some h0.vertices ∷ [])) P l me mv none d_old d_new l_old l_new (last_none g cs) l_some,
      )

  parts : (k : ℕ) (ds : List (Option ℕ)) (h : Embedded) → Splits g k ds h → k ≤ edges g → Parts g h (dummy_at ds) (last_of g ds)
  parts k ds h begin l =
      let no : (e : ℕ) → dummy_at [] e ≡ None = λ e. entry_none [] e (omega arith) in
      let same : (e : ℕ) → last_of g [] e ≡ e = λ e. last_none g [] e (no e) in
      record {
        last_in = λ e i. subst (λ z. z < edges g) (sym (same e)) i;
        tail_is = λ e i. refl;
        head_is = λ e i. ap (head g) (same e);
        new_vertex = λ e w i q. absurd (none_some w (dummy_at [] e) (no e) q);
        into_dummy = λ e w i q. absurd (none_some w (dummy_at [] e) (no e) q);
        out_of_dummy = λ e w i q. absurd (none_some w (dummy_at [] e) (no e) q);
        all = λ a i. inl i;
        one_edge = λ e f w i j q p. absurd (none_some w (dummy_at [] e) (no e) q);
      }
  parts k ds h (keep {k = j} {ds = cs} S n) l =
      parts_same g h (dummy_at cs) (dummy_at (cs ++ None ∷ [])) (last_of g cs) (last_of g (cs ++ None ∷ [])) (entry_kept cs) (λ e. last_same g (cs ++ None ∷ []) cs e (entry_kept cs e))
      (parts j cs h S (omega arith))
  parts k ds h (cut {k = j} {ds = cs} {h = h0} S T) l = (facts j cs h0 S (omega arith) (parts j cs h0 S (omega arith))).0

  -- the lists at an old vertex
  module _ (v : ℕ) (lv : v < g.vertices) (os is : List ℕ) (O : AreOuts g s outer v os) (N : AreIns g t outer v is) where
    stars : (k : ℕ) (ds : List (Option ℕ)) (h : Embedded) → Splits g k ds h → k ≤ edges g → AreOuts h s outer v os × AreIns h t outer v (map (last_of g ds) is)
    stars k ds h begin l =
        let same : (e : ℕ) → last_of g [] e ≡ e = λ e. last_none g [] e (entry_none [] e (omega arith)) in
        (O, subst (AreIns g t outer v) (sym (map_self (last_of g []) is same)) N)
    stars k ds h (keep {k = j} {ds = cs} S n) l =
        let r = stars j cs h S (omega arith) in
        (r.0, subst (AreIns h t outer v) (sym (map_same (last_of g (cs ++ None ∷ [])) (last_of g cs) is (λ e. last_same g (cs ++ None ∷ []) cs e (entry_kept cs e)))) r.1)
    stars k ds h (cut {k = j} {ds = cs} {h = h0} S T) l =
        let r = stars j cs h0 S (omega arith) in
        let A : After g s t outer j h0 = after g s t outer st j cs h0 S (omega arith) in
        let B : After g s t outer (suc j) (split h0 j) = after g s t outer st (suc j) (cs ++ Some h0.vertices ∷ []) (split h0 j) (cut S T) l in
        let me : edges g ≤ edges h0 = A.more_edges in
        let mv : g.vertices ≤ h0.vertices = A.more_vertices in
        let I : SplitsEdge h0 (split h0 j) j = split_of h0 s t outer j A.st (omega arith) in
        let q = (facts j cs h0 S (omega arith) (parts j cs h0 S (omega arith))).1 in (
          outs_step h0 (split h0 j) s t outer j A.st B.st I v os (omega arith) r.0,
          subst (AreIns (split h0 j) t outer v) (map_then (last_of g cs) (renamed h0 j) (last_of g (cs ++ Some h0.vertices ∷ [])) is (λ i li. q (get_or is i 0) (N.has.only i li).0))
              (ins_step h0 (split h0 j) s t outer j A.st B.st I v (map (last_of g cs) is) (omega arith) r.1),
        )

-- ---- the sides
count_is : (g : Embedded) (s t outer : ℕ) (x : SidesValue) → IsSidesOf g s t outer x → edge_count x ≡ edges g
unfolding edge_count
count_is g s t outer x of = ap (λ (es : List (ℕ × ℕ)). length es) of.ends

tail_is : (g : Embedded) (s t outer : ℕ) (x : SidesValue) → IsSidesOf g s t outer x → (e : ℕ) → edge_tail x e ≡ tail g e
unfolding edge_tail
tail_is g s t outer x of e = ap (λ (es : List (ℕ × ℕ)). tail_of es e) of.ends

head_is : (g : Embedded) (s t outer : ℕ) (x : SidesValue) → IsSidesOf g s t outer x → (e : ℕ) → edge_head x e ≡ head g e
unfolding edge_head
head_is g s t outer x of e = ap (λ (es : List (ℕ × ℕ)). head_of es e) of.ends

pub reduced_sides_law : ReducedSidesLaw
reduced_sides_law g h s t outer ds x r st R X Y =
    let A : After g s t outer (edges g) h = after g s t outer st (edges g) ds h R (omega arith) in
    let P : Parts g h (dummy_at ds) (last_of g ds) = parts g s t outer st (edges g) ds h R (omega arith) in
    let vx : x.vertices ≡ g.vertices = X.vertices in
    let vr : r.vertices ≡ h.vertices = Y.vertices in
    let cx : edge_count x ≡ edges g = count_is g s t outer x X in
    let cr : edge_count r ≡ edges h = count_is h s t outer r Y in
    let me : edges g ≤ edges h = A.more_edges in
    let mv : g.vertices ≤ h.vertices = A.more_vertices in
    let there : (e : ℕ) → e < edge_count x → e < edges g = λ e l. subst (λ z. e < z) cx l in
    let lists : (v : ℕ) → v < x.vertices → AreOuts h s outer v (outs x v) × AreIns h t outer v (map (last_of g ds) (ins x v)) =
    λ v l. (let lv : v < g.vertices = subst (λ z. v < z) vx l in
    stars g s t outer st v lv (outs x v) (ins x v) (X.are.outs_are v lv) (X.are.ins_are v lv) (edges g) ds h R (omega arith)) in
    record {
      vertices = omega arith;
      edges_in = omega arith;
      last_in = λ e l. subst (λ z. last_of g ds e < z) (sym cr) (P.last_in e (there e l));
      source = Y.source ∙ sym X.source;
      sink = Y.sink ∙ sym X.sink;
      tail_is = λ e l. tail_is h s t outer r Y e ∙ P.tail_is e (there e l) ∙ sym (tail_is g s t outer x X e);
      head_is = λ e l. head_is h s t outer r Y (last_of g ds e) ∙ P.head_is e (there e l) ∙ sym (head_is g s t outer x X e);
      plain = λ e l q. last_none g ds e q;
      new_edge = λ e w l q. (let z : last_of g ds e ≡ edges g + (w - g.vertices) = last_some g ds e w q in omega arith);
      new_vertex = λ e w l q. (let o = P.new_vertex e w (there e l) q in ((let z : g.vertices ≤ w = o.0 in omega arith), (let z : w < h.vertices = o.1 in omega arith)));
      into_dummy = λ e w l q. head_is h s t outer r Y e ∙ P.into_dummy e w (there e l) q;
      out_of_dummy = λ e w l q. tail_is h s t outer r Y (last_of g ds e) ∙ P.out_of_dummy e w (there e l) q;
      all = λ a l. elim (P.all a (subst (λ z. a < z) cr l)) [
        | inl m ↦ inl (omega arith)
        | inr o ↦ inr (record { e = o.0; w = o.1; there = subst (λ z. o.0 < z) (sym cx) o.2; split = o.3; is = o.4 })
      ];
      one_edge = λ e f w i j q p. P.one_edge e f w (there e i) (there f j) q p;
      outs_are = λ v l. outs_one h s t outer A.st (outs r) (ins r) (low r) (high r) (left_path r) (right_path r) Y.are v (outs x v) (omega arith) (lists v l).0;
      ins_are = λ v l. ins_one h s t outer A.st (outs r) (ins r) (low r) (high r) (left_path r) (right_path r) Y.are v (map (last_of g ds) (ins x v)) (omega arith) (lists v l).1;
    }
