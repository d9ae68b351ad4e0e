-- The edges out of one vertex go, and the work as a whole.
use Rattle.std.proofs.Common.{◌≡◌, ◌≢◌, ℕ, zero, suc, ◌+◌, ◌<◌, ◌≤◌, inl, inr, Bool, true, false, ◌&&◌, List, [], ◌∷◌, ◌++◌, length, get_or, refl, sym, ap, ◌∙◌, subst, arith}
use Rattle.std.specs.Prelude.{not}
use Rattle.std.proofs.Math.ListN.{set}
use Rattle.std.proofs.lemmas.List.{length_push, get_or_push, get_or_append_left}
use Rattle.std.proofs.lemmas.Bool.{cases_eq, cases_lt, cases_Bool, cases_order, eq-eqb, eqb-true, cond-true, cond-false, and_parts, and_from, both_ways, false_from_ne_true, not-true}
use Rattle.st_ids.specs.Graph.{tail_of, head_of, AreWithin}
use Rattle.st_map.proofs.Public.{none_counted, counted_place}
use Rattle.st_map.specs.Tables.{enters, leaves}
use Rattle.st_test.specs.Stripping.{last_below, AreInDegrees, IsStripped}
use Rattle.st_test.specs.StripState.{member, left_into, StripState, Released, IsTurn, IsFront, IsReleasing, AreZeros, AreGoing}
use Rattle.st_test.proofs.StripSteps.{member_old, member_new, member_place, last_below-le, last_below-passes, last_below-none, count_same, short, positive, goes_on, takes}

-- ---- the vertices without an edge in
pub zeros_more : (v : ℕ) (degree vs : List ℕ) → AreZeros v degree vs → get_or degree v 0 ≡ 0 → AreZeros (v + 1) degree (vs ++ v ∷ [])
zeros_more v degree vs h z = record {
  only = λ k l. elim (cases_lt k (length vs)) [
    | inl lt ↦
        let q : get_or (vs ++ v ∷ []) k 0 ≡ get_or vs k 0 = get_or_append_left vs (v ∷ []) 0 k lt in
        (omega (arith, (h.only k lt).0), ap (λ x. get_or degree x 0) q ∙ (h.only k lt).1)
    | inr ge ↦
        let q : get_or (vs ++ v ∷ []) k 0 ≡ v = get_or_push vs v 0 k (omega (arith, length_push vs v)) in
        (omega arith, ap (λ x. get_or degree x 0) q ∙ z)
  ];
  each = λ w lw zw. elim (cases_lt w v) [
    | inl lt ↦
        let r : (k : ℕ) × (k < length vs) × (get_or vs k 0 ≡ w) = h.each w lt zw in
        (r.0, omega (arith, r.1, length_push vs v), get_or_append_left vs (v ∷ []) 0 r.0 r.1 ∙ r.2)
    | inr ge ↦ (length vs, omega (arith, length_push vs v), get_or_push vs v 0 (length vs) refl ∙ (let e : v ≡ w = omega arith in e))
  ];
  ordered = λ a b l m. elim (cases_lt b (length vs)) [
    | inl lt ↦
        let qa : get_or (vs ++ v ∷ []) a 0 ≡ get_or vs a 0 = get_or_append_left vs (v ∷ []) 0 a (omega arith) in
        let qb : get_or (vs ++ v ∷ []) b 0 ≡ get_or vs b 0 = get_or_append_left vs (v ∷ []) 0 b lt in
        omega (arith, h.ordered a b l lt)
    | inr ge ↦
        let la : a < length vs = omega (arith, length_push vs v) in
        let qa : get_or (vs ++ v ∷ []) a 0 ≡ get_or vs a 0 = get_or_append_left vs (v ∷ []) 0 a la in
        let qb : get_or (vs ++ v ∷ []) b 0 ≡ v = get_or_push vs v 0 b (omega (arith, length_push vs v)) in
        omega (arith, (h.only a la).0)
  ];
}

pub zeros_same : (v : ℕ) (degree vs : List ℕ) → AreZeros v degree vs → (get_or degree v 0 ≡ 0 → ⊥) → AreZeros (v + 1) degree vs
zeros_same v degree vs h nz = record {
  only = λ k l. (omega (arith, (h.only k l).0), (h.only k l).1);
  each = λ w lw zw. elim (cases_lt w v) [
    | inl lt ↦ h.each w lt zw
    | inr ge ↦ absurd (nz ((let e : v ≡ w = omega arith in ap (λ x. get_or degree x 0) e) ∙ zw))
  ];
  ordered = h.ordered;
}

-- ---- links
pub last_below-again : (n : ℕ) (p : ℕ → Bool) → last_below n p ≡ last_below (last_below n p) p
last_below-again zero p = refl
last_below-again (suc n) p = elim (cases_Bool (p n)) [
  | inl y ↦
      let e : last_below (suc n) p ≡ suc n = cond-true (p n) (suc n) (last_below n p) y in
      ap (λ k. last_below k p) (sym e)
  | inr y ↦
      let e : last_below (suc n) p ≡ last_below n p = cond-false (p n) (suc n) (last_below n p) y in
      e ∙ last_below-again n p ∙ ap (λ k. last_below k p) (sym e)
]

pub front_push : (xs ys : List ℕ) (y : ℕ) → IsFront xs ys → IsFront xs (ys ++ y ∷ [])
front_push xs ys y h = record {
  shorter = omega (arith, h.shorter, length_push ys y);
  same = λ k l. get_or_append_left ys (y ∷ []) 0 k (omega (arith, h.shorter)) ∙ h.same k l;
}

-- ---- which edges are gone
module _ (ends : List (ℕ × ℕ)) (i k : ℕ) (order es : List ℕ) (li : i < length order) (h : Released ends i k order es) where
  -- no edge out of the vertex lies between two links
  pub relink : (j : ℕ) → j ≤ k → ((e : ℕ) → j ≤ e → e < k → tail_of ends e ≡ get_or order i 0 → ⊥) → Released ends i j order es
  relink j le none = record {
    tails = λ p l.
        let r : (x : ℕ) × (x < length order) × (get_or order x 0 ≡ tail_of ends (get_or es p 0)) × IsTurn i k x (get_or es p 0) = h.tails p l in
        (r.0, r.1, r.2, elim r.3 [ inl a ↦ inl a | inr b ↦ inr (b.0, (let q : k ≤ get_or es p 0 = b.1 in omega arith)) ]);
    all = λ x e lx le2 at turn. elim turn [
      | inl a ↦ h.all x e lx le2 at (inl a)
      | inr b ↦ elim (cases_lt e k) [
        | inl lt ↦ absurd (none e b.1 lt (sym at ∙ ap (λ z. get_or order z 0) b.0))
        | inr ge ↦ h.all x e lx le2 at (inr (b.0, ge))
      ]
    ];
  }

  pub not_gone : (e : ℕ) → ((a b : ℕ) → a < b → b < length order → get_or order a 0 ≢ get_or order b 0) → e < k → get_or order i 0 ≡ tail_of ends e → member es e ≡ false
  not_gone e apart l at = false_from_ne_true (member es e) (λ m.
      let p : (x : ℕ) × (x < length es) × (get_or es x 0 ≡ e) = member_place es e m in
      let r : (x : ℕ) × (x < length order) × (get_or order x 0 ≡ tail_of ends (get_or es p.0 0)) × IsTurn i k x (get_or es p.0 0) = h.tails p.0 p.1 in
      let same : get_or order r.0 0 ≡ get_or order i 0 = r.2 ∙ ap (tail_of ends) p.2 ∙ sym at in
      elim (cases_order r.0 i) [
        | inl q ↦ elim r.3 [
          | inl a ↦ omega arith
          | inr b ↦ let ge : k ≤ get_or es p.0 0 = b.1 in let e2 : get_or es p.0 0 ≡ e = p.2 in omega arith
        ]
        | inr o ↦ elim o [
          | inl a ↦ apart r.0 i a li same
          | inr a ↦ apart i r.0 a r.1 (sym same)
        ]
      ])

  pub goes : (e : ℕ) → e + 1 ≡ k → get_or order i 0 ≡ tail_of ends e → Released ends i e order (es ++ e ∷ [])
  goes e next at = record {
    tails = λ p l. elim (cases_lt p (length es)) [
      | inl lt ↦
          let q : get_or (es ++ e ∷ []) p 0 ≡ get_or es p 0 = get_or_append_left es (e ∷ []) 0 p lt in
          let r : (x : ℕ) × (x < length order) × (get_or order x 0 ≡ tail_of ends (get_or es p 0)) × IsTurn i k x (get_or es p 0) = h.tails p lt in
          (r.0, r.1, r.2 ∙ ap (tail_of ends) (sym q), elim r.3 [ inl a ↦ inl a | inr b ↦ inr (b.0, (let g : k ≤ get_or es p 0 = b.1 in omega arith)) ])
      | inr ge ↦
          let q : get_or (es ++ e ∷ []) p 0 ≡ e = get_or_push es e 0 p (omega (arith, length_push es e)) in
          (i, li, at ∙ ap (tail_of ends) (sym q), inr (refl, omega arith))
    ];
    all = λ x d lx ld atd turn. elim turn [
      | inl a ↦ member_old es e d (h.all x d lx ld atd (inl a))
      | inr b ↦ elim (cases_eq d e) [
        | inl q ↦ subst (λ z. member (es ++ e ∷ []) z ≡ true) (sym q) (member_new es e)
        | inr ne ↦
            let ge : e ≤ d = b.1 in
            member_old es e d (h.all x d lx ld atd (inr (b.0, omega arith)))
      ]
    ];
  }

  pub longer : (v : ℕ) → Released ends i k (order ++ v ∷ []) es
  longer v = record {
    tails = λ p l.
        let r : (x : ℕ) × (x < length order) × (get_or order x 0 ≡ tail_of ends (get_or es p 0)) × IsTurn i k x (get_or es p 0) = h.tails p l in
        (r.0, omega (arith, r.1, length_push order v), get_or_append_left order (v ∷ []) 0 r.0 r.1 ∙ r.2, r.3);
    all = λ x d lx ld at turn. elim (cases_lt x (length order)) [
      | inl lt ↦ h.all x d lt ld (sym (get_or_append_left order (v ∷ []) 0 x lt) ∙ at) turn
      | inr ge ↦ elim turn [ inl a ↦ absurd (omega arith) | inr b ↦ let q : x ≡ i = b.0 in absurd (omega arith) ]
    ];
  }

-- after the last edge out of a vertex the next vertex is looked at
pub next_place : (ends : List (ℕ × ℕ)) (i : ℕ) (order es : List ℕ) → Released ends i 0 order es → Released ends (i + 1) (length ends) order es
next_place ends i order es h = record {
  tails = λ p l.
      let r : (x : ℕ) × (x < length order) × (get_or order x 0 ≡ tail_of ends (get_or es p 0)) × IsTurn i 0 x (get_or es p 0) = h.tails p l in
      (r.0, r.1, r.2, inl (elim r.3 [ inl a ↦ omega arith | inr b ↦ (let q : r.0 ≡ i = b.0 in omega arith) ]));
  all = λ x d lx ld at turn. elim turn [
    | inl a ↦ elim (cases_eq x i) [
      | inl q ↦ h.all x d lx ld at (inr (q, omega arith))
      | inr ne ↦ h.all x d lx ld at (inl (omega arith))
    ]
    | inr b ↦ let ge : length ends ≤ d = b.1 in absurd (omega arith)
  ];
}

-- ---- the loop over the edges out of one vertex
module _ (n : ℕ) (ends : List (ℕ × ℕ)) (place : ℕ) (first order es degree : List ℕ) (within : AreWithin n ends) (there : place < length first) where
  pub going_none : (last : ℕ) → last ≡ last_below (length ends) (leaves ends (get_or first place 0)) → IsReleasing n ends place first es degree
      → AreGoing n ends place first first es degree last
  going_none last q h = record {
    state = h.state;
    released = relink ends place (length ends) first es there h.released last (omega (arith, last_below-le (length ends) (leaves ends (get_or first place 0))))
        (λ e le lt at. both_ways (leaves ends (get_or first place 0) e)
        (last_below-none (length ends) (leaves ends (get_or first place 0)) e (omega arith) lt) (eq-eqb (tail_of ends e) (get_or first place 0) at));
    front = record { shorter = omega arith; same = λ k l. refl };
    within = omega (arith, last_below-le (length ends) (leaves ends (get_or first place 0)));
    chained = q ∙ last_below-again (length ends) (leaves ends (get_or first place 0)) ∙ ap (λ k. last_below k (leaves ends (get_or first place 0))) (sym q);
  }

  pub going_all : (link : ℕ) → AreGoing n ends place first order es degree link → (0 < link → ⊥) → IsReleasing n ends (place + 1) order es degree
  going_all link h z = record {
    state = h.state;
    released = next_place ends place order es (subst (λ k. Released ends place k order es) (let q : link ≡ 0 = omega arith in q) h.released);
  }

  module _ (link e : ℕ) (next : e + 1 ≡ link) (h : AreGoing n ends place first order es degree link) where
    pub edge_in : e < length ends
    edge_in = omega (arith, h.within)

    place_in : place < length order
    place_in = omega (arith, h.front.shorter)

    pub out_of : get_or order place 0 ≡ tail_of ends e
    out_of = sym (eqb-true (tail_of ends e) (get_or order place 0) (last_below-passes link (leaves ends (get_or order place 0)) e (omega (arith, h.chained))))

    not_yet : member es e ≡ false
    not_yet = not_gone ends place link order es place_in h.released e h.state.apart (omega arith) out_of

    froms : (p : ℕ) → p < length es → (j : ℕ) × (j < length order) × (get_or order j 0 ≡ tail_of ends (get_or es p 0))
    froms p l =
        let r : (x : ℕ) × (x < length order) × (get_or order x 0 ≡ tail_of ends (get_or es p 0)) × IsTurn place link x (get_or es p 0) = h.released.tails p l in
        (r.0, r.1, r.2)

    pub some_left : 1 ≤ get_or degree (head_of ends e) 0
    some_left = positive n ends order es degree within h.state e edge_in not_yet place place_in out_of froms

    gone_now : (j : ℕ) → j ≡ last_below e (leaves ends (tail_of ends e)) → Released ends place j order (es ++ e ∷ [])
    gone_now j q = relink ends place e order (es ++ e ∷ []) place_in (goes ends place link order es place_in h.released e next out_of) j
        (omega (arith, last_below-le e (leaves ends (tail_of ends e))))
        (λ d le lt at. both_ways (leaves ends (tail_of ends e) d) (last_below-none e (leaves ends (tail_of ends e)) d (omega arith) lt)
        (eq-eqb (tail_of ends d) (tail_of ends e) (at ∙ out_of)))

    linked : (j v : ℕ) → j ≡ last_below e (leaves ends (tail_of ends e)) → v ≡ tail_of ends e → j ≡ last_below j (leaves ends v)
    linked j v q w = q ∙ last_below-again e (leaves ends (tail_of ends e)) ∙ ap (λ k. last_below k (leaves ends (tail_of ends e))) (sym q)
        ∙ ap (λ x. last_below j (leaves ends x)) (sym w)

    pub going_on : (d j : ℕ) → d + 1 ≡ get_or degree (head_of ends e) 0 → (d ≡ 0 → ⊥) → j ≡ last_below e (leaves ends (tail_of ends e))
        → AreGoing n ends place first order (es ++ e ∷ []) (set degree (head_of ends e) d) j
    going_on d j de nz q = record {
      state = goes_on n ends order es degree within h.state e edge_in not_yet place place_in out_of froms d de nz;
      released = gone_now j q;
      front = h.front;
      within = omega (arith, last_below-le e (leaves ends (tail_of ends e)), edge_in);
      chained = linked j (get_or order place 0) q out_of;
    }

    pub going_next : (d j : ℕ) → d + 1 ≡ get_or degree (head_of ends e) 0 → d ≡ 0 → j ≡ last_below e (leaves ends (tail_of ends e))
        → AreGoing n ends place first (order ++ head_of ends e ∷ []) (es ++ e ∷ []) (set degree (head_of ends e) d) j
    going_next d j de z q = record {
      state = takes n ends order es degree within h.state e edge_in not_yet place place_in out_of froms d de z;
      released = longer ends place j order (es ++ e ∷ []) place_in (gone_now j q) (head_of ends e);
      front = front_push first order (head_of ends e) h.front;
      within = omega (arith, last_below-le e (leaves ends (tail_of ends e)), edge_in);
      chained = linked j (get_or (order ++ head_of ends e ∷ []) place 0) q (get_or_append_left order (head_of ends e ∷ []) 0 place place_in ∙ out_of);
    }

-- ---- the whole
pub whole_none : (n : ℕ) (ends : List (ℕ × ℕ)) (degree order : List ℕ) → AreInDegrees n ends degree → AreZeros n degree order → IsReleasing n ends 0 order [] degree
whole_none n ends degree order d z = record {
  state = record {
    size = d.size;
    degrees = λ v l. d.each v l ∙ count_same (length ends) (enters ends v) (left_into ends [] v) (λ e. elim (cases_Bool (enters ends v e)) [
      | inl y ↦ y ∙ sym (and_from (enters ends v e) true y refl)
      | inr y ↦ y ∙ sym (ap (λ b. b && true) y)
    ]);
    zeros = z.each;
    vertices = z.only;
    apart = λ a b l m q. omega (arith, z.ordered a b l m);
    before = λ k e l le h.
        let v : (get_or order k 0 < n) × (get_or degree (get_or order k 0) 0 ≡ 0) = z.only k l in
        absurd (none_counted (length ends) (enters ends (get_or order k 0)) (sym (d.each (get_or order k 0) v.0) ∙ v.1) e le (eq-eqb (head_of ends e) (get_or order k 0) h));
    edges = λ k l. absurd (omega arith);
    edges_apart = λ a b l m. absurd (omega arith);
    edges_before = λ k e l le h. absurd (omega arith);
  };
  released = record {
    tails = λ p l. absurd (omega arith);
    all = λ j e lj le at turn. elim turn [ inl a ↦ absurd (omega arith) | inr b ↦ (let ge : length ends ≤ e = b.1 in absurd (omega arith)) ];
  };
}

pub order-short : (n : ℕ) (ends : List (ℕ × ℕ)) (order es degree : List ℕ) → StripState n ends order es degree → length order ≤ n
order-short n ends order es degree h = short n order (λ k l. (h.vertices k l).0) h.apart

pub whole_all : (n : ℕ) (ends : List (ℕ × ℕ)) (i : ℕ) (order es degree : List ℕ) → IsReleasing n ends i order es degree → length order ≤ i → IsStripped n ends order es
whole_all n ends i order es degree h l = record {
  vertices = λ k lk. (h.state.vertices k lk).0;
  apart = h.state.apart;
  before = h.state.before;
  rest = λ v lv out.
      let some : 1 ≤ get_or degree v 0 = elim (cases_eq (get_or degree v 0) 0) [
        | inl q ↦ (let r : (k : ℕ) × (k < length order) × (get_or order k 0 ≡ v) = h.state.zeros v lv q in absurd (out r.0 r.1 r.2))
        | inr ne ↦ omega arith
      ] in
      let c : (e : ℕ) × (e < length ends) × (left_into ends es v e ≡ true) = counted_place (length ends) (left_into ends es v) (omega (arith, h.state.degrees v lv)) in
      let p : (enters ends v c.0 ≡ true) × (not (member es c.0) ≡ true) = and_parts (enters ends v c.0) (not (member es c.0)) c.2 in (
        c.0,
        c.1,
        eqb-true (head_of ends c.0) v p.0,
        λ k lk at.
            both_ways (member es c.0) (not-true (member es c.0) p.1) (h.released.all k c.0 lk c.1 at (inl (omega arith))),
      );
  edges = λ k lk.
      let r : (x : ℕ) × (x < length order) × (get_or order x 0 ≡ tail_of ends (get_or es k 0)) × IsTurn i (length ends) x (get_or es k 0) = h.released.tails k lk in
      (h.state.edges k lk, r.0, r.1, r.2);
  edges_all = λ j e lj le at. member_place es e (h.released.all j e lj le at (inl (omega arith)));
  edges_apart = h.state.edges_apart;
  edges_before = h.state.edges_before;
}
