-- The edges out and in at an old vertex after an edge is split, and that sides have no others.
use Rattle.std.proofs.Common.{◌≡◌, ◌≢◌, ℕ, zero, suc, ◌+◌, ◌*◌, ◌<◌, cond, eqb, Bool, true, false, ◌-◌, List, map, length, get_or, inl, inr, refl, sym, ap, ◌∙◌, subst, arith}
use Rattle.std.proofs.lemmas.Bool.{cases_eq, cases_lt, cases_order, eq-eqb, ne_eqb, cond-true, cond-false}
use Rattle.std.proofs.lemmas.List.{get_or-map, length-map, ext_get_or}
use Rattle.st_ids.specs.Ends.{is_out}
use Rattle.st_map.specs.Orbits.{SameOrbit}
use Rattle.st_map.specs.Laws.{FacesAre}
use Rattle.st_map.specs.Embedded.{Embedded, edges, darts, tail, head, next, phi, face, faces}
use Rattle.st_map.specs.Split.{moved, SplitsEdge}
use Rattle.st_map.proofs.Public.{faces_law, at_below, is_out-tail, is_out-head, next-apart, which}
use Rattle.st_test.specs.Planar.{IsPlanarSt}
use Rattle.st_sides.specs.Conditions.{AreIns, AreOuts, AreSides, ListsOnce, node, left_face, right_face}
use Rattle.st_sides.specs.LocalSides.{AtVertices, Between}
use Rattle.st_sides.proofs.Public.{local_law}
use Rattle.st_reduce.proofs.SplitLemmas.{orbit_up, from_moved}

odd_even : (a b : ℕ) → 2 * a + 1 ≡ 2 * b → ⊥
odd_even a b q = omega arith

no_both : {b : Bool} → b ≡ true → b ≡ false → ⊥
no_both p q = (let z : true ≡ false = sym p ∙ q in cc)

-- the number of an edge in the list of the edges into its head afterwards
abbrev pub renamed : Embedded → ℕ → ℕ → ℕ
renamed g k e = cond (eqb e k) (edges g) e

pub renamed_same : (g : Embedded) (k e : ℕ) → e ≡ k → renamed g k e ≡ edges g
renamed_same g k e q = cond-true (eqb e k) (edges g) e (eq-eqb e k q)

pub renamed_other : (g : Embedded) (k e : ℕ) → e ≢ k → renamed g k e ≡ e
renamed_other g k e n = cond-false (eqb e k) (edges g) e (ne_eqb e k n)

module _ (g h : Embedded) (s t outer k : ℕ) (st : IsPlanarSt g s t outer) (sh : IsPlanarSt h s t outer) (I : SplitsEdge g h k) where
  count_h : edges h ≡ suc (edges g)
  count_h = I.count

  moved_tail : (e : ℕ) → moved g k (2 * e) ≡ 2 * e
  moved_tail e = cond-false (eqb (2 * e) (2 * k + 1)) (suc (darts g)) (2 * e) (ne_eqb (2 * e) (2 * k + 1) (λ q. odd_even k e (sym q)))

  moved_head : (e : ℕ) → moved g k (2 * e + 1) ≡ 2 * renamed g k e + 1
  moved_head e = elim (cases_eq e k) [
    | inl q ↦ cond-true (eqb (2 * e + 1) (2 * k + 1)) (suc (darts g)) (2 * e + 1) (eq-eqb (2 * e + 1) (2 * k + 1) (ap (λ z. 2 * z + 1) q)) ∙ (let z : suc (darts g) ≡ 2 * edges g + 1 = omega arith in z) ∙ ap (λ z. 2 * z + 1) (sym (renamed_same g k e q))
    | inr n ↦ cond-false (eqb (2 * e + 1) (2 * k + 1)) (suc (darts g)) (2 * e + 1) (ne_eqb (2 * e + 1) (2 * k + 1) (λ q. n (omega arith))) ∙ ap (λ z. 2 * z + 1) (sym (renamed_other g k e n))
  ]

  next_moved : (d : ℕ) → d < darts g → next h (moved g k d) ≡ moved g k (next g d)
  next_moved = I.next_old

  faces_g : FacesAre g
  faces_g = faces_law g (record { ends = st.ends_in; orders = st.orders })

  faces_h : FacesAre h
  faces_h = faces_law h (record { ends = sh.ends_in; orders = sh.orders })

  in_moved : (d : ℕ) → d < darts g → moved g k d < darts h
  in_moved d l = (let c : edges h ≡ suc (edges g) = I.count in elim (cases_eq d (2 * k + 1)) [
    | inl q ↦ (let z : moved g k d ≡ suc (darts g) = cond-true (eqb d (2 * k + 1)) (suc (darts g)) d (eq-eqb d (2 * k + 1) q) in omega arith)
    | inr n ↦ (let z : moved g k d ≡ d = cond-false (eqb d (2 * k + 1)) (suc (darts g)) d (ne_eqb d (2 * k + 1) n) in omega arith)
  ])

  -- an end on the outer face stays there
  face_moved : (d : ℕ) → d < darts g → face g d ≡ face g outer → face h (moved g k d) ≡ face h outer
  face_moved d l q =
      let c : edges h ≡ suc (edges g) = I.count in
      let lo : outer < darts g = st.outer_in in
      let a : SameOrbit (phi g) outer d = (faces_g.one outer d lo l).1 (sym q) in
      let b : SameOrbit (phi h) outer d = orbit_up g h s t outer k st I outer d lo a in
      let m : SameOrbit (phi h) (moved g k d) d = from_moved g h s t outer k st I d in
      (faces_h.one (moved g k d) d (in_moved d l) (omega arith)).0 m ∙ sym ((faces_h.one outer d (omega arith) (omega arith)).0 b)

  pub outs_step : (v : ℕ) (es : List ℕ) → v < g.vertices → AreOuts g s outer v es → AreOuts h s outer v es
  outs_step v es lv A = record {
    has = record {
      only = λ i l. (let o = A.has.only i l in ((let c : edges h ≡ suc (edges g) = I.count in let z : get_or es i 0 < edges g = o.0 in omega arith), I.tail_old (get_or es i 0) o.0 ∙ o.1));
      each = λ e l q. elim (cases_lt e (edges g)) [
        | inl m ↦ A.has.each e m (sym (I.tail_old e m) ∙ q)
        | inr m ↦
            let c : edges h ≡ suc (edges g) = I.count in
            let z : e ≡ edges g = omega arith in
            let w : g.vertices ≡ v = sym I.tail_new ∙ ap (tail h) (sym z) ∙ q in
            absurd (omega arith)
      ];
      once = A.has.once;
    };
    follow = λ i l.
        let o : get_or es i 0 < edges g = (A.has.only i (omega arith)).0 in
        ap (next h) (sym (moved_tail (get_or es i 0))) ∙ next_moved (2 * get_or es i 0) (omega arith) ∙ ap (moved g k) (A.follow i l) ∙ moved_tail (get_or es (i + 1) 0);
    begins = λ n some d l q. elim (which (darts g) d (let c : edges h ≡ suc (edges g) = I.count in omega arith)) [
      | inl m ↦ elim (cases_eq d (2 * k + 1)) [
        | inl p ↦ ap is_out p ∙ is_out-head k
        | inr p ↦
            let same : moved g k d ≡ d = cond-false (eqb d (2 * k + 1)) (suc (darts g)) d (ne_eqb d (2 * k + 1) p) in
            let y : moved g k (next g d) ≡ 2 * get_or es 0 0 = sym (next_moved d m) ∙ ap (next h) same ∙ q in
            elim (cases_eq (next g d) (2 * k + 1)) [
              | inl u ↦
                  let z : moved g k (next g d) ≡ suc (darts g) = cond-true (eqb (next g d) (2 * k + 1)) (suc (darts g)) (next g d) (eq-eqb (next g d) (2 * k + 1) u) in
                  absurd (odd_even (edges g) (get_or es 0 0) (omega arith))
              | inr u ↦
                  let z : moved g k (next g d) ≡ next g d = cond-false (eqb (next g d) (2 * k + 1)) (suc (darts g)) (next g d) (ne_eqb (next g d) (2 * k + 1) u) in
                  A.begins n some d m (sym z ∙ y)
            ]
      ]
      | inr w ↦ elim w [
        | inl p ↦ absurd (odd_even k (get_or es 0 0) (sym (ap (next h) p ∙ I.next_out) ∙ q))
        | inr p ↦ ap is_out (p ∙ (let z : suc (darts g) ≡ 2 * edges g + 1 = omega arith in z)) ∙ is_out-head (edges g)
      ]
    ];
    begins_s = λ q some.
        let o : get_or es 0 0 < edges g = (A.has.only 0 some).0 in
        ap (face h) (sym (moved_tail (get_or es 0 0))) ∙ face_moved (2 * get_or es 0 0) (omega arith) (A.begins_s q some);
  }

  module _ (v : ℕ) (es : List ℕ) (lv : v < g.vertices) (A : AreIns g t outer v es) where
    long : length (map (renamed g k) es) ≡ length es
    long = length-map es (renamed g k)

    entry : (i : ℕ) → i < length es → get_or (map (renamed g k) es) i 0 ≡ renamed g k (get_or es i 0)
    entry i l = get_or-map (renamed g k) es i 0 0 l

    back : (i : ℕ) → i < length (map (renamed g k) es) → i < length es
    back i l = (let z : length (map (renamed g k) es) ≡ length es = long in omega arith)

    there : (i : ℕ) → i < length es → get_or es i 0 < edges g
    there i l = (A.has.only i l).0

    next_entry : (i : ℕ) → i < length es → next h (2 * get_or (map (renamed g k) es) i 0 + 1) ≡ moved g k (next g (2 * get_or es i 0 + 1))
    next_entry i l =
        ap (λ z. next h (2 * z + 1)) (entry i l) ∙ ap (next h) (sym (moved_head (get_or es i 0)))
        ∙ next_moved (2 * get_or es i 0 + 1) (let z : get_or es i 0 < edges g = there i l in omega arith)

    R_head : (e : ℕ) → e < edges g → head g e ≡ v → (renamed g k e < edges h) × (head h (renamed g k e) ≡ v)
    R_head e l q = (let c : edges h ≡ suc (edges g) = I.count in elim (cases_eq e k) [
      | inl p ↦ (let z : renamed g k e ≡ edges g = renamed_same g k e p in (omega arith, ap (head h) z ∙ I.head_new ∙ ap (head g) (sym p) ∙ q))
      | inr n ↦ (let z : renamed g k e ≡ e = renamed_other g k e n in (omega arith, ap (head h) z ∙ I.head_old e l n ∙ q))
    ])

    R_apart : (e f : ℕ) → e < edges g → f < edges g → renamed g k e ≡ renamed g k f → e ≡ f
    R_apart e f le lf q = elim (cases_eq e k) [
      | inl p ↦ elim (cases_eq f k) [
        | inl u ↦ p ∙ sym u
        | inr u ↦ (let y : renamed g k e ≡ edges g = renamed_same g k e p in let z : renamed g k f ≡ f = renamed_other g k f u in absurd (omega arith))
      ]
      | inr p ↦ elim (cases_eq f k) [
        | inl u ↦ (let y : renamed g k f ≡ edges g = renamed_same g k f u in let z : renamed g k e ≡ e = renamed_other g k e p in absurd (omega arith))
        | inr u ↦ sym (renamed_other g k e p) ∙ q ∙ renamed_other g k f u
      ]
    ]

    pub ins_step : AreIns h t outer v (map (renamed g k) es)
    ins_step = record {
      has = record {
        only = λ i l. (let o = A.has.only i (back i l) in subst (λ z. (z < edges h) × (head h z ≡ v)) (sym (entry i (back i l))) (R_head (get_or es i 0) o.0 o.1));
        each = λ e l q.
            let c : edges h ≡ suc (edges g) = I.count in
            let z : length (map (renamed g k) es) ≡ length es = long in
            elim (cases_lt e (edges g)) [
              | inl m ↦ elim (cases_eq e k) [
                | inl p ↦ (let w : g.vertices ≡ v = sym I.head_split ∙ ap (head h) (sym p) ∙ q in absurd (omega arith))
                | inr p ↦ (let r = A.has.each e m (sym (I.head_old e m p) ∙ q) in (r.0, (let y : r.0 < length es = r.1 in omega arith), entry r.0 r.1 ∙ ap (renamed g k) r.2 ∙ renamed_other g k e p))
              ]
              | inr m ↦
                  let y : e ≡ edges g = omega arith in
                  let r = A.has.each k I.there (sym I.head_new ∙ ap (head h) (sym y) ∙ q) in
                  (r.0, (let u : r.0 < length es = r.1 in omega arith), entry r.0 r.1 ∙ ap (renamed g k) r.2 ∙ renamed_same g k k refl ∙ sym y)
            ];
        once = λ i j l m q.
            let mj : j < length es = back j m in
            let mi : i < length es = omega arith in
            A.has.once i j l mj (R_apart (get_or es i 0) (get_or es j 0) (there i mi) (there j mj) (sym (entry i mi) ∙ q ∙ entry j mj));
      };
      follow = λ i l.
          let l1 : i + 1 < length es = back (i + 1) l in
          next_entry (i + 1) l1 ∙ ap (moved g k) (A.follow i l1) ∙ moved_head (get_or es i 0) ∙ ap (λ z. 2 * z + 1) (sym (entry i (omega arith)));
      begins = λ n some.
          let l0 : 0 < length es = back 0 some in
          let y : is_out (next g (2 * get_or es 0 0 + 1)) ≡ true = A.begins n l0 in
          let u : next g (2 * get_or es 0 0 + 1) ≢ 2 * k + 1 = λ p. no_both y (ap is_out p ∙ is_out-head k) in
          ap is_out (next_entry 0 l0 ∙ cond-false (eqb (next g (2 * get_or es 0 0 + 1)) (2 * k + 1)) (suc (darts g)) (next g (2 * get_or es 0 0 + 1)) (ne_eqb (next g (2 * get_or es 0 0 + 1)) (2 * k + 1) u)) ∙ y;
      ends_t = λ q some.
          let z : length (map (renamed g k) es) ≡ length es = long in
          let l0 : 0 < length es = back 0 some in
          let li : length es - 1 < length es = omega arith in
          let o : get_or es (length es - 1) 0 < edges g = there (length es - 1) li in
          ap (λ n. face h (2 * get_or (map (renamed g k) es) (n - 1) 0 + 1)) z
          ∙ ap (λ n. face h (2 * n + 1)) (entry (length es - 1) li) ∙ ap (face h) (sym (moved_head (get_or es (length es - 1) 0)))
          ∙ face_moved (2 * get_or es (length es - 1) 0 + 1) (omega arith) (A.ends_t q l0);
    }

-- ---- lists with the same numbers that agree are one
same_list : (n : ℕ) (es fs : List ℕ) (Q : ℕ → Type 0) → ListsOnce n Q es → ListsOnce n Q fs
    → ((i : ℕ) → i < length es → i < length fs → get_or es i 0 ≡ get_or fs i 0) → es ≡ fs
same_list n es fs Q A B agree = elim (cases_order (length es) (length fs)) [
  | inl q ↦ ext_get_or 0 es fs q (λ i l. agree i l (omega arith))
  | inr o ↦ elim o [
    | inl l ↦
        let b = B.only (length es) l in
        let r = A.each (get_or fs (length es) 0) b.0 b.1 in
        absurd (B.once r.0 (length es) r.1 l (sym (agree r.0 r.1 (let z : r.0 < length es = r.1 in omega arith)) ∙ r.2))
    | inr l ↦
        let b = A.only (length fs) l in
        let r = B.each (get_or es (length fs) 0) b.0 b.1 in
        absurd (A.once r.0 (length fs) r.1 l (agree r.0 (let z : r.0 < length fs = r.1 in omega arith) r.1 ∙ r.2))
  ]
]

-- an edge on the outer face has its left half on the left, or its right half on the right
left_zero : (h : Embedded) (outer e : ℕ) → face h (2 * e) ≡ face h outer → left_face h outer e ≡ 0
unfolding left_face
left_zero h outer e q = cond-true (eqb (face h (2 * e)) (face h outer)) 0 (node h outer (2 * e)) (eq-eqb (face h (2 * e)) (face h outer) q)

right_last : (h : Embedded) (outer e : ℕ) → face h (2 * e + 1) ≡ face h outer → right_face h outer e ≡ faces h
unfolding right_face
right_last h outer e q = cond-true (eqb (face h (2 * e + 1)) (face h outer)) (faces h) (node h outer (2 * e + 1)) (eq-eqb (face h (2 * e + 1)) (face h outer) q)

module _ (h : Embedded) (s t outer : ℕ) (st : IsPlanarSt h s t outer) (outs ins : ℕ → List ℕ) (low high : ℕ → ℕ) (left_path right_path : ℕ → List ℕ)
    (A : AreSides h s t outer outs ins low high left_path right_path) where
  at_v : AtVertices h s t outer outs ins low high
  at_v = (local_law h s t outer st outs ins low high left_path right_path A).0

  -- the first edge out is the same
  first_out : (v : ℕ) (fs : List ℕ) → v < h.vertices → AreOuts h s outer v fs → 0 < length (outs v) → 0 < length fs → get_or (outs v) 0 0 ≡ get_or fs 0 0
  first_out v fs lv F le lf =
      let E : AreOuts h s outer v (outs v) = A.outs_are v lv in
      let f0 = F.has.only 0 lf in
      let r = E.has.each (get_or fs 0 0) f0.0 f0.1 in
      go r.0 r.1 r.2
    where
      go : (j : ℕ) → j < length (outs v) → get_or (outs v) j 0 ≡ get_or fs 0 0 → get_or (outs v) 0 0 ≡ get_or fs 0 0
      go zero l q = q
      go (suc i) l q =
          let E : AreOuts h s outer v (outs v) = A.outs_are v lv in
          let p : get_or (outs v) (i + 1) 0 ≡ get_or fs 0 0 = ap (λ z. get_or (outs v) z 0) (let z : i + 1 ≡ suc i = omega arith in z) ∙ q in
          elim (cases_eq v s) [
            | inr n ↦
                let o : get_or (outs v) i 0 < edges h = (E.has.only i (omega arith)).0 in
                absurd (no_both (is_out-tail (get_or (outs v) i 0)) (F.begins n lf (2 * get_or (outs v) i 0) (omega arith) (E.follow i (omega arith) ∙ ap (λ z. 2 * z) p)))
            | inl e ↦
                let B : Between h outer (get_or (outs v) i 0) (get_or (outs v) (i + 1) 0) = (at_v.outs_next v i lv (omega arith)).0 in
                let z : left_face h outer (get_or (outs v) (i + 1) 0) ≡ 0 = left_zero h outer (get_or (outs v) (i + 1) 0) (ap (λ z. face h (2 * z)) p ∙ F.begins_s e lf) in
                let w : right_face h outer (get_or (outs v) i 0) ≡ left_face h outer (get_or (outs v) (i + 1) 0) = B.one in
                let m : 0 < right_face h outer (get_or (outs v) i 0) = B.positive in
                absurd (omega arith)
          ]

  pub outs_one : (v : ℕ) (fs : List ℕ) → v < h.vertices → AreOuts h s outer v fs → outs v ≡ fs
  outs_one v fs lv F = same_list (edges h) (outs v) fs (λ e. tail h e ≡ v) E.has F.has agree
    where
      E : AreOuts h s outer v (outs v)
      E = A.outs_are v lv

      agree : (i : ℕ) → i < length (outs v) → i < length fs → get_or (outs v) i 0 ≡ get_or fs i 0
      agree zero le lf = first_out v fs lv F le lf
      agree (suc i) le lf =
          let p : get_or (outs v) i 0 ≡ get_or fs i 0 = agree i (omega arith) (omega arith) in
          let q : i + 1 ≡ suc i = omega arith in
          let a : next h (2 * get_or (outs v) i 0) ≡ 2 * get_or (outs v) (suc i) 0 = subst (λ z. next h (2 * get_or (outs v) i 0) ≡ 2 * get_or (outs v) z 0) q (E.follow i (omega arith)) in
          let b : next h (2 * get_or fs i 0) ≡ 2 * get_or fs (suc i) 0 = subst (λ z. next h (2 * get_or fs i 0) ≡ 2 * get_or fs z 0) q (F.follow i (omega arith)) in
          let c : 2 * get_or (outs v) (suc i) 0 ≡ 2 * get_or fs (suc i) 0 = sym a ∙ ap (λ z. next h (2 * z)) p ∙ b in
          omega arith

  -- the first edge in is the same
  first_in : (v : ℕ) (fs : List ℕ) → v < h.vertices → AreIns h t outer v fs → 0 < length (ins v) → 0 < length fs → get_or (ins v) 0 0 ≡ get_or fs 0 0
  first_in v fs lv F le lf =
      let E : AreIns h t outer v (ins v) = A.ins_are v lv in
      let f0 = F.has.only 0 lf in
      let r = E.has.each (get_or fs 0 0) f0.0 f0.1 in
      go r.0 r.1 r.2
    where
      go : (j : ℕ) → j < length (ins v) → get_or (ins v) j 0 ≡ get_or fs 0 0 → get_or (ins v) 0 0 ≡ get_or fs 0 0
      go zero l q = q
      go (suc i) l q =
          let E : AreIns h t outer v (ins v) = A.ins_are v lv in
          let p : get_or (ins v) (i + 1) 0 ≡ get_or fs 0 0 = ap (λ z. get_or (ins v) z 0) (let z : i + 1 ≡ suc i = omega arith in z) ∙ q in
          let li : i < length (ins v) = omega arith in
          let a : next h (2 * get_or fs 0 0 + 1) ≡ 2 * get_or (ins v) i 0 + 1 = ap (λ z. next h (2 * z + 1)) (sym p) ∙ E.follow i (omega arith) in
          elim (cases_eq v t) [
            | inr n ↦ absurd (no_both (F.begins n lf) (ap is_out a ∙ is_out-head (get_or (ins v) i 0)))
            | inl e ↦
                let o = E.has.only i li in
                let r = F.has.each (get_or (ins v) i 0) o.0 o.1 in
                elim (cases_lt (r.0 + 1) (length fs)) [
                  | inl m ↦
                      let b : next h (2 * get_or fs (r.0 + 1) 0 + 1) ≡ 2 * get_or fs r.0 0 + 1 = F.follow r.0 m in
                      let x0 : get_or fs 0 0 < edges h = (F.has.only 0 lf).0 in
                      let x1 : get_or fs (r.0 + 1) 0 < edges h = (F.has.only (r.0 + 1) m).0 in
                      let same : 2 * get_or fs 0 0 + 1 ≡ 2 * get_or fs (r.0 + 1) 0 + 1 =
                      next-apart h st.orders (at_below h st.ends_in) (2 * get_or fs 0 0 + 1) (2 * get_or fs (r.0 + 1) 0 + 1) (omega arith) (omega arith) (a ∙ ap (λ z. 2 * z + 1) (sym r.2) ∙ sym b) in
                      absurd (F.has.once 0 (r.0 + 1) (omega arith) m (omega arith))
                  | inr m ↦
                      let last : r.0 ≡ length fs - 1 = (let z : r.0 < length fs = r.1 in omega arith) in
                      let B : Between h outer (get_or (ins v) i 0) (get_or (ins v) (i + 1) 0) = (at_v.ins_next v i lv (omega arith)).0 in
                      let z : right_face h outer (get_or (ins v) i 0) ≡ faces h = right_last h outer (get_or (ins v) i 0) (ap (λ z. face h (2 * z + 1)) (sym r.2 ∙ ap (λ z. get_or fs z 0) last) ∙ F.ends_t e lf) in
                      let w : right_face h outer (get_or (ins v) i 0) < faces h = B.below in
                      absurd (omega arith)
                ]
          ]

  pub ins_one : (v : ℕ) (fs : List ℕ) → v < h.vertices → AreIns h t outer v fs → ins v ≡ fs
  ins_one v fs lv F = same_list (edges h) (ins v) fs (λ e. head h e ≡ v) E.has F.has agree
    where
      E : AreIns h t outer v (ins v)
      E = A.ins_are v lv

      agree : (i : ℕ) → i < length (ins v) → i < length fs → get_or (ins v) i 0 ≡ get_or fs i 0
      agree zero le lf = first_in v fs lv F le lf
      agree (suc i) le lf =
          let p : get_or (ins v) i 0 ≡ get_or fs i 0 = agree i (omega arith) (omega arith) in
          let q : i + 1 ≡ suc i = omega arith in
          let a : next h (2 * get_or (ins v) (suc i) 0 + 1) ≡ 2 * get_or (ins v) i 0 + 1 = subst (λ z. next h (2 * get_or (ins v) z 0 + 1) ≡ 2 * get_or (ins v) i 0 + 1) q (E.follow i (omega arith)) in
          let b : next h (2 * get_or fs (suc i) 0 + 1) ≡ 2 * get_or fs i 0 + 1 = subst (λ z. next h (2 * get_or fs z 0 + 1) ≡ 2 * get_or fs i 0 + 1) q (F.follow i (omega arith)) in
          let x0 : get_or (ins v) (suc i) 0 < edges h = (E.has.only (suc i) le).0 in
          let x1 : get_or fs (suc i) 0 < edges h = (F.has.only (suc i) lf).0 in
          let same : 2 * get_or (ins v) (suc i) 0 + 1 ≡ 2 * get_or fs (suc i) 0 + 1 =
          next-apart h st.orders (at_below h st.ends_in) (2 * get_or (ins v) (suc i) 0 + 1) (2 * get_or fs (suc i) 0 + 1) (omega arith) (omega arith) (a ∙ ap (λ z. 2 * z + 1) p ∙ sym b) in
          omega arith
