-- Two numbers exchange what they go to, each over a new number: one orbit falls in two, or two become one.
use Rattle.std.proofs.Common.{◌≡◌, ◌≢◌, ℕ, zero, suc, ◌+◌, ◌-◌, ◌<◌, ◌≤◌, true, false, cond, eqb, ◌⊎◌, inl, inr, refl, sym, ap, ◌∙◌, subst, arith}
use Rattle.std.proofs.lemmas.Bool.{eqb-true, eqb-false, eq-eqb, ne_eqb, cases_eq, cases_lt, cond-true, cond-false}
use Rattle.st_map.specs.Orbits.{iterate, Permutes, SameOrbit, least_within}
use Rattle.st_map.proofs.Public.{first_place, iterate-add, iterate-stays, least-at, orbit-refl, orbit-step, orbit-sym, orbit-trans, root-below, root-root, root-same, same-from_root, steps, which}
use Rattle.st_session.proofs.RootLemmas.{is_root, roots, Projects, fewer, back, back_old, back_n, back_m}
use Rattle.st_session.proofs.RootCounts.{fewer_by_one, at_most_one_more}

pub record Joint (n : ℕ) (f h : ℕ → ℕ) (a b : ℕ) : Type 0 where
  pub a_in : a < n
  pub b_in : b < n
  pub differ : a ≢ b
  pub from_a : h a ≡ n
  pub from_n : h n ≡ f b
  pub from_b : h b ≡ suc n
  pub from_m : h (suc n) ≡ f a
  pub rest : (d : ℕ) → d < n → d ≢ a → d ≢ b → h d ≡ f d

module _ (n : ℕ) (f h : ℕ → ℕ) (a b : ℕ) (pf : Permutes n f) (ph : Permutes (suc (suc n)) h) (J : Joint n f h a b) where
  pub a_to_fb : SameOrbit h a (f b)
  a_to_fb = (2, ap h J.from_a ∙ J.from_n)

  pub b_to_fa : SameOrbit h b (f a)
  b_to_fa = (2, ap h J.from_b ∙ J.from_m)

  one_step : (d : ℕ) → d < n → d ≢ a → d ≢ b → SameOrbit h d (f d)
  one_step d l na nb = (1, J.rest d l na nb)

  orbit_dec : SameOrbit f a b ⊎ (SameOrbit f a b → ⊥)
  orbit_dec = elim (cases_eq (least_within n f a) (least_within n f b)) [
    | inl e ↦ inl (same-from_root n f pf a b J.a_in J.b_in e)
    | inr d ↦ inr (λ s. d (root-same n f pf a b J.a_in s))
  ]

  -- an orbit without a and b stays
  pub off : (y : ℕ) → y < n → ((z : ℕ) → SameOrbit f y z → z ≢ a) → ((z : ℕ) → SameOrbit f y z → z ≢ b) → (x : ℕ) → SameOrbit f y x → SameOrbit h y x
  off y l na nb x s = subst (λ z. SameOrbit h y z) s.1 (go s.0)
    where
      go : (k : ℕ) → SameOrbit h y (iterate k f y)
      go zero = orbit-refl h y
      go (suc k) = orbit-trans h y (iterate k f y) (f (iterate k f y)) (go k) (one_step (iterate k f y) (iterate-stays n f pf k y l) (na (iterate k f y) (k, refl)) (nb (iterate k f y) (k, refl)))

  -- ---- a and b in two orbits
  -- from f c round to c, where the other one is not met
  round : (c other : ℕ) → c < n → ((z : ℕ) → SameOrbit f c z → z ≢ other) → ((d : ℕ) → d < n → d ≢ c → d ≢ other → h d ≡ f d) → SameOrbit h (f c) c
  round c other l n' same =
      let s : SameOrbit f (f c) c = orbit-sym n f pf c (f c) l (orbit-step f c) in
      subst (λ z. SameOrbit h (f c) z) s.1 (go s.0)
    where
      go : (k : ℕ) → SameOrbit h (f c) (iterate k f (f c))
      go zero = orbit-refl h (f c)
      go (suc k) =
          let y : ℕ = iterate k f (f c) in
          let m : y < n = iterate-stays n f pf k (f c) (pf.stays c l) in
          elim (cases_eq y c) [
            | inl e ↦ subst (λ z. SameOrbit h (f c) (f z)) (sym e) (orbit-refl h (f c))
            | inr d ↦ orbit-trans h (f c) y (f y) (go k) (1, same y m d (n' y (orbit-trans f c (f c) y (orbit-step f c) (k, refl))))
          ]

  module _ (apart : SameOrbit f a b → ⊥) where
    a_to_b : SameOrbit h a b
    a_to_b = orbit-trans h a (f b) b a_to_fb (round b a J.b_in (λ z s e. apart (orbit-sym n f pf b a J.b_in (subst (λ w. SameOrbit f b w) e s))) (λ d l x y. J.rest d l y x))

    b_to_a : SameOrbit h b a
    b_to_a = orbit-trans h b (f a) a b_to_fa (round a b J.a_in (λ z s e. apart (subst (λ w. SameOrbit f a w) e s)) (λ d l x y. J.rest d l x y))

    step_up : (x : ℕ) → x < n → SameOrbit h x (f x)
    step_up x l = elim (cases_eq x a) [
      | inl e ↦ subst (λ z. SameOrbit h z (f z)) (sym e) (orbit-trans h a b (f a) a_to_b b_to_fa)
      | inr na ↦ elim (cases_eq x b) [
        | inl e ↦ subst (λ z. SameOrbit h z (f z)) (sym e) (orbit-trans h b a (f b) b_to_a a_to_fb)
        | inr nb ↦ one_step x l na nb
      ]
    ]

    pub no_more : roots (suc (suc n)) h ≤ roots n f
    no_more = fewer (suc (suc n)) n h f ph pf (λ x. x) (record {
      into = λ x l. omega arith;
      steps = step_up;
      onto = λ y l. elim (which n y l) [
        | inl k ↦ (y, k, orbit-refl h y)
        | inr w ↦ elim w [
          | inl e ↦ (a, J.a_in, (1, J.from_a ∙ sym e))
          | inr e ↦ (b, J.b_in, (1, J.from_b ∙ sym e))
        ]
      ];
    })

  -- ---- a and b in one orbit
  module _ (same : SameOrbit f a b) where
    B : ℕ → ℕ
    B x = back n a b x

    pub projects : Projects n (suc (suc n)) f h (back n a b)
    projects = record {
      into = λ x l. elim (which n x l) [
        | inl k ↦ (let e : back n a b x ≡ x = back_old n a b x k in omega arith)
        | inr w ↦ elim w [
          | inl q ↦ (let e : back n a b x ≡ a = back_n n a b x q in let k : a < n = J.a_in in omega arith)
          | inr q ↦ (let e : back n a b x ≡ b = back_m n a b x q in let k : b < n = J.b_in in omega arith)
        ]
      ];
      steps = λ x l. elim (which n x l) [
        | inl k ↦ elim (cases_eq x a) [
          | inl e ↦ (0, back_old n a b x k ∙ e ∙ sym (back_n n a b (h x) (ap h e ∙ J.from_a)))
          | inr na ↦ elim (cases_eq x b) [
            | inl e ↦ (0, back_old n a b x k ∙ e ∙ sym (back_m n a b (h x) (ap h e ∙ J.from_b)))
            | inr nb ↦ (1, ap f (back_old n a b x k) ∙ sym (J.rest x k na nb) ∙ sym (back_old n a b (h x) (let e : h x ≡ f x = J.rest x k na nb in let m : f x < n = pf.stays x k in omega arith)))
          ]
        ]
        | inr w ↦ elim w [
          | inl q ↦
              let e : h x ≡ f b = ap h q ∙ J.from_n in
              let m : f b < n = pf.stays b J.b_in in
              let r : SameOrbit f a (f b) = orbit-trans f a b (f b) same (orbit-step f b) in
              (r.0, ap (iterate r.0 f) (back_n n a b x q) ∙ r.1 ∙ sym e ∙ sym (back_old n a b (h x) (omega arith)))
          | inr q ↦
              let e : h x ≡ f a = ap h q ∙ J.from_m in
              let m : f a < n = pf.stays a J.a_in in
              let r : SameOrbit f b (f a) = orbit-trans f b a (f a) (orbit-sym n f pf a b J.a_in same) (orbit-step f a) in
              (r.0, ap (iterate r.0 f) (back_m n a b x q) ∙ r.1 ∙ sym e ∙ sym (back_old n a b (h x) (omega arith)))
        ]
      ];
      onto = λ y l. (y, omega arith, (0, back_old n a b y l));
    }

    -- the members of the orbit up to b, and the number after b, are all that b goes to
    Part : ℕ → ℕ → Type 0
    Part k x = ((i : ℕ) × (0 < i) × (i ≤ k) × (x ≡ iterate i f a)) ⊎ (x ≡ suc n)

    apart : SameOrbit h a b → ⊥
    unfolding Part
    apart s =
        let w : (k : ℕ) × (k ≤ same.0) × (eqb (iterate k f a) b ≡ true) × ((j : ℕ) → j < k → eqb (iterate j f a) b ≡ false) = first_place (λ k. eqb (iterate k f a) b) same.0 (eq-eqb (iterate same.0 f a) b same.1) in
        let k : ℕ = w.0 in
        let at_k : iterate k f a ≡ b = eqb-true (iterate k f a) b w.2 in
        let not_b : (j : ℕ) → j < k → iterate j f a ≢ b = λ j l. eqb-false (iterate j f a) b (w.3 j l) in
        let pos : k ≢ 0 = λ e. J.differ (sym (steps f a k 0 e) ∙ at_k) in
        let not_a : (i : ℕ) → 0 < i → i ≤ k → iterate i f a ≢ a = λ i p l e.
        let g : (k - i) + i ≡ k = omega arith in
        not_b (k - i) (omega arith) (ap (iterate (k - i) f) (sym e) ∙ sym (iterate-add (k - i) i f a) ∙ steps f a ((k - i) + i) k g ∙ at_k) in
        let move : (x : ℕ) → Part k x → Part k (h x) = λ x m. elim m [
          | inr e ↦ inl (1, omega arith, omega arith, ap h e ∙ J.from_m)
          | inl r ↦ elim (cases_lt r.0 k) [
            | inl l ↦
                let p : 0 < r.0 = r.1 in
                let ix : x < n = (let z : iterate r.0 f a < n = iterate-stays n f pf r.0 a J.a_in in let e : x ≡ iterate r.0 f a = r.3 in omega arith) in
                inl (suc r.0, omega arith, omega arith, J.rest x ix (λ e. not_a r.0 r.1 r.2 (sym r.3 ∙ e)) (λ e. not_b r.0 l (sym r.3 ∙ e)) ∙ ap f r.3)
            | inr l ↦
                let q : r.0 ≡ k = (let z : r.0 ≤ k = r.2 in omega arith) in
                inr (ap h (r.3 ∙ steps f a r.0 k q ∙ at_k) ∙ J.from_b)
          ]
        ] in
        let s' : SameOrbit h b a = orbit-sym (suc (suc n)) h ph a b (let z : a < n = J.a_in in omega arith) s in
        let all : (i : ℕ) → Part k (iterate i h b) = λ i. follow h (Part k) b (inl (k, omega arith, omega arith, sym at_k)) move i in
        elim (all s'.0) [
          | inl r ↦ not_a r.0 r.1 r.2 (sym r.3 ∙ s'.1)
          | inr e ↦ (let z : a < n = J.a_in in let e' : iterate s'.0 h b ≡ a = s'.1 in omega arith)
        ]
      where
        follow : (h : ℕ → ℕ) (Q : ℕ → Type 0) (b : ℕ) → Q b → ((x : ℕ) → Q x → Q (h x)) → (i : ℕ) → Q (iterate i h b)
        follow h Q b q m zero = q
        follow h Q b q m (suc i) = m (iterate i h b) (follow h Q b q m i)

    pub one_more_face : roots n f + 1 ≤ roots (suc (suc n)) h
    one_more_face =
        let ia : a < n = J.a_in in
        let ib : b < n = J.b_in in
        let s : SameOrbit f (back n a b a) (back n a b b) = (same.0, ap (iterate same.0 f) (back_old n a b a J.a_in) ∙ same.1 ∙ sym (back_old n a b b J.b_in)) in
        fewer_by_one n (suc (suc n)) f h pf ph (back n a b) projects a b (omega arith) (omega arith) s apart

    -- each member of the orbit is in one of the two
    either : (k : ℕ) → SameOrbit h a (iterate k f a) ⊎ SameOrbit h b (iterate k f a)
    either zero = inl (orbit-refl h a)
    either (suc k) =
        let y : ℕ = iterate k f a in
        let l : y < n = iterate-stays n f pf k a J.a_in in
        elim (cases_eq y a) [
          | inl e ↦ inr (subst (λ z. SameOrbit h b (f z)) (sym e) b_to_fa)
          | inr na ↦ elim (cases_eq y b) [
            | inl e ↦ inl (subst (λ z. SameOrbit h a (f z)) (sym e) a_to_fb)
            | inr nb ↦ elim (either k) [
              | inl s ↦ inl (orbit-trans h a y (f y) s (one_step y l na nb))
              | inr s ↦ inr (orbit-trans h b y (f y) s (one_step y l na nb))
            ]
          ]
        ]

    at_most : roots (suc (suc n)) h ≤ roots n f + 1
    at_most =
        let ra : ℕ = least_within n f a in
        let ia : a < n = J.a_in in
        let ib : b < n = J.b_in in
        let lra : ra < n = root-below n f pf a J.a_in in
        let mark : ℕ → ℕ = λ y. cond (eqb y ra) a y in
        let mark_ra : mark ra ≡ a = cond-true (eqb ra ra) a ra (eq-eqb ra ra refl) in
        let mark_in : (y : ℕ) → y < n → mark y < suc (suc n) = λ y l. elim (cases_eq y ra) [
          | inl e ↦ (let q : mark y ≡ a = cond-true (eqb y ra) a y (eq-eqb y ra e) in omega arith)
          | inr d ↦ (let q : mark y ≡ y = cond-false (eqb y ra) a y (ne_eqb y ra d) in omega arith)
        ] in
        let is_ra : is_root n f ra ≡ true = eq-eqb (least_within n f ra) ra (root-root n f pf a J.a_in) in
        let from_a : (x : ℕ) → SameOrbit h a x → ((y : ℕ) × (y < n) × (is_root n f y ≡ true) × SameOrbit h (mark y) x) ⊎ SameOrbit h b x = λ x s. inl (ra, lra, is_ra, subst (λ z. SameOrbit h z x) (sym mark_ra) s) in
        at_most_one_more n (suc (suc n)) f h pf ph mark b (omega arith) mark_in (λ x l. elim (which n x l) [
          | inr w ↦ elim w [
            | inl e ↦ from_a x (1, J.from_a ∙ sym e)
            | inr e ↦ inr (1, J.from_b ∙ sym e)
          ]
          | inl k ↦ elim (cases_eq (least_within n f x) ra) [
            | inl e ↦
                let s : SameOrbit f a x = same-from_root n f pf a x J.a_in k (sym e) in
                elim (either s.0) [
                  | inl r ↦ from_a x (subst (λ z. SameOrbit h a z) s.1 r)
                  | inr r ↦ inr (subst (λ z. SameOrbit h b z) s.1 r)
                ]
            | inr d ↦
                let r : ℕ = least_within n f x in
                let lr : r < n = root-below n f pf x k in
                let rr : least_within n f r ≡ r = root-root n f pf x k in
                let no : (c : ℕ) → SameOrbit f a c → (z : ℕ) → SameOrbit f r z → z ≢ c = λ c ac z s e.
                d (sym rr ∙ root-same n f pf r z lr s ∙ ap (least_within n f) e ∙ sym (root-same n f pf a c J.a_in ac)) in
                let back_x : SameOrbit f r x = orbit-sym n f pf x r k (least-at n f pf n x) in
                let mr : mark r ≡ r = cond-false (eqb r ra) a r (ne_eqb r ra d) in
                inl (r, lr, eq-eqb (least_within n f r) r rr, subst (λ z. SameOrbit h z x) (sym mr) (off r lr (no a (orbit-refl f a)) (no b same) x back_x))
          ]
        ])

  pub one_more_at_most : roots (suc (suc n)) h ≤ roots n f + 1
  one_more_at_most = elim orbit_dec [
    | inl s ↦ at_most s
    | inr d ↦ (let k : roots (suc (suc n)) h ≤ roots n f = no_more d in omega arith)
  ]

  -- where there is one orbit more, it fell in two
  pub same_from_count : roots n f < roots (suc (suc n)) h → SameOrbit f a b
  same_from_count l = elim orbit_dec [
    | inl s ↦ s
    | inr d ↦ (let k : roots (suc (suc n)) h ≤ roots n f = no_more d in absurd (omega arith))
  ]
