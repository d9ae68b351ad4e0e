-- The entry after another in a cyclic list, where entries are put in or left out.
use Rattle.std.proofs.Common.{◌≡◌, ◌≢◌, ℕ, eqb, List, [], ◌∷◌, get_or, ◌⊎◌, inl, inr, refl, sym, ap, ◌∙◌, subst}
use Rattle.std.proofs.lemmas.Bool.{cases_eq, eq-eqb, ne_eqb, cond-true, cond-false}
use Rattle.st_ids.specs.Ends.{edge_of}
use Rattle.st_ids.specs.Lists.{In, here, there, NoRepeat}
use Rattle.st_ids.proofs.Public.{not_in_nil, In-cases, in_subst}
use Rattle.st_map.specs.Embedded.{after}
use Rattle.st_map.specs.Insert.{put_after}
use Rattle.st_map.specs.Remove.{without_edge}
use Rattle.st_map.proofs.CyclicLemmas.{cyclic, after_yes, after_no}

one_head : (l : List ℕ) (x a b : ℕ) → In x l → get_or l 0 a ≡ get_or l 0 b
one_head [] x a b i = absurd (not_in_nil i)
one_head (y ∷ ys) x a b i = refl

-- what comes after is in the list, or the given first
after_in : (f : ℕ) (l : List ℕ) (d : ℕ) → In (after f l d) l ⊎ (after f l d ≡ f)
after_in f [] d = inr refl
after_in f (x ∷ xs) d = elim (cases_eq x d) [
  | inl e ↦ head xs e
  | inr n ↦ elim (after_in f xs d) [
    | inl i ↦ inl (there (in_subst (sym (after_no f x d xs n)) i))
    | inr e ↦ inr (after_no f x d xs n ∙ e)
  ]
]
  where
    head : (xs : List ℕ) → x ≡ d → In (after f (x ∷ xs) d) (x ∷ xs) ⊎ (after f (x ∷ xs) d ≡ f)
    head [] e = inr (after_yes f x d [] e)
    head (y ∷ ys) e = inl (there (here (after_yes f x d (y ∷ ys) e)))

-- ---- an entry put in
pub put_here : (p n x : ℕ) (xs : List ℕ) → x ≡ p → put_after p n (x ∷ xs) ≡ x ∷ n ∷ xs
put_here p n x xs e = cond-true (eqb x p) (x ∷ n ∷ xs) (x ∷ put_after p n xs) (eq-eqb x p e)

pub put_there : (p n x : ℕ) (xs : List ℕ) → x ≢ p → put_after p n (x ∷ xs) ≡ x ∷ put_after p n xs
put_there p n x xs e = cond-false (eqb x p) (x ∷ n ∷ xs) (x ∷ put_after p n xs) (ne_eqb x p e)

module _ (p n : ℕ) where
  put_head : (l : List ℕ) (f : ℕ) → get_or (put_after p n l) 0 f ≡ get_or l 0 f
  put_head [] f = refl
  put_head (x ∷ xs) f = elim (cases_eq x p) [
    | inl e ↦ ap (λ z. get_or z 0 f) (put_here p n x xs e)
    | inr d ↦ ap (λ z. get_or z 0 f) (put_there p n x xs d)
  ]

  pub put_in : (l : List ℕ) (x : ℕ) → In x (put_after p n l) → In x l ⊎ ((x ≡ n) × In p l)
  put_in [] x i = absurd (not_in_nil i)
  put_in (y ∷ ys) x i = elim (cases_eq y p) [
    | inl e ↦ elim (In-cases (subst (λ z. In x z) (put_here p n y ys e) i)) [
      | inl q ↦ inl (here q)
      | inr j ↦ elim (In-cases j) [ inl q ↦ inr (q, here (sym e)) | inr k ↦ inl (there k) ]
    ]
    | inr d ↦ elim (In-cases (subst (λ z. In x z) (put_there p n y ys d) i)) [
      | inl q ↦ inl (here q)
      | inr j ↦ elim (put_in ys x j) [ inl k ↦ inl (there k) | inr k ↦ inr (k.0, there k.1) ]
    ]
  ]

  pub put_old : (l : List ℕ) (x : ℕ) → In x l → In x (put_after p n l)
  put_old [] x i = absurd (not_in_nil i)
  put_old (y ∷ ys) x i = elim (cases_eq y p) [
    | inl e ↦ subst (λ z. In x z) (sym (put_here p n y ys e)) (elim (In-cases i) [ inl q ↦ here q | inr j ↦ there (there j) ])
    | inr d ↦ subst (λ z. In x z) (sym (put_there p n y ys d)) (elim (In-cases i) [ inl q ↦ here q | inr j ↦ there (put_old ys x j) ])
  ]

  pub put_new : (l : List ℕ) → In p l → In n (put_after p n l)
  put_new [] i = absurd (not_in_nil i)
  put_new (y ∷ ys) i = elim (cases_eq y p) [
    | inl e ↦ subst (λ z. In n z) (sym (put_here p n y ys e)) (there (here refl))
    | inr d ↦ subst (λ z. In n z) (sym (put_there p n y ys d)) (elim (In-cases i) [ inl q ↦ absurd (d (sym q)) | inr j ↦ there (put_new ys j) ])
  ]

  pub put_once : (l : List ℕ) → NoRepeat l → (In n l → ⊥) → NoRepeat (put_after p n l)
  put_once [] once new = tt
  put_once (y ∷ ys) once new = elim (cases_eq y p) [
    | inl e ↦ subst NoRepeat (sym (put_here p n y ys e)) ((λ i. elim (In-cases i) [ inl q ↦ new (here (sym q)) | inr j ↦ once.0 j ]), ((λ i. new (there i)), once.1))
    | inr d ↦ subst NoRepeat (sym (put_there p n y ys d)) ((λ i. elim (put_in ys y i) [ inl j ↦ once.0 j | inr j ↦ new (here (sym j.0)) ]), put_once ys once.1 (λ i. new (there i)))
  ]

  after_other : (f : ℕ) (l : List ℕ) (d : ℕ) → d ≢ p → d ≢ n → after f (put_after p n l) d ≡ after f l d
  after_other f [] d np nn = refl
  after_other f (x ∷ xs) d np nn = elim (cases_eq x p) [
    | inl e ↦
        let xd : x ≢ d = λ q. np (sym q ∙ e) in
        ap (λ z. after f z d) (put_here p n x xs e) ∙ after_no f x d (n ∷ xs) xd ∙ after_no f n d xs (λ q. nn (sym q)) ∙ sym (after_no f x d xs xd)
    | inr k ↦ ap (λ z. after f z d) (put_there p n x xs k) ∙ elim (cases_eq x d) [
      | inl e ↦ after_yes f x d (put_after p n xs) e ∙ put_head xs f ∙ sym (after_yes f x d xs e)
      | inr m ↦ after_no f x d (put_after p n xs) m ∙ after_other f xs d np nn ∙ sym (after_no f x d xs m)
    ]
  ]

  after_p : (f : ℕ) (l : List ℕ) → In p l → after f (put_after p n l) p ≡ n
  after_p f [] i = absurd (not_in_nil i)
  after_p f (x ∷ xs) i = elim (cases_eq x p) [
    | inl e ↦ ap (λ z. after f z p) (put_here p n x xs e) ∙ after_yes f x p (n ∷ xs) e
    | inr k ↦ ap (λ z. after f z p) (put_there p n x xs k) ∙ after_no f x p (put_after p n xs) k ∙ elim (In-cases i) [ inl q ↦ absurd (k (sym q)) | inr j ↦ after_p f xs j ]
  ]

  after_new : (f : ℕ) (l : List ℕ) → In p l → (In n l → ⊥) → after f (put_after p n l) n ≡ after f l p
  after_new f [] i new = absurd (not_in_nil i)
  after_new f (x ∷ xs) i new =
      let xn : x ≢ n = λ q. new (here (sym q)) in
      elim (cases_eq x p) [
        | inl e ↦ ap (λ z. after f z n) (put_here p n x xs e) ∙ after_no f x n (n ∷ xs) xn ∙ after_yes f n n xs refl ∙ sym (after_yes f x p xs e)
        | inr k ↦ ap (λ z. after f z n) (put_there p n x xs k) ∙ after_no f x n (put_after p n xs) xn ∙ elim (In-cases i) [ inl q ↦ absurd (k (sym q)) | inr j ↦ after_new f xs j (λ i. new (there i)) ] ∙ sym (after_no f x p xs k)
      ]

  pub cyclic_other : (l : List ℕ) (d : ℕ) → d ≢ p → d ≢ n → cyclic (put_after p n l) d ≡ cyclic l d
  cyclic_other l d np nn = ap (λ f. after f (put_after p n l) d) (put_head l d) ∙ after_other (get_or l 0 d) l d np nn

  pub cyclic_p : (l : List ℕ) → In p l → cyclic (put_after p n l) p ≡ n
  cyclic_p l i = after_p (get_or (put_after p n l) 0 p) l i

  pub cyclic_new : (l : List ℕ) → In p l → (In n l → ⊥) → cyclic (put_after p n l) n ≡ cyclic l p
  cyclic_new l i new = after_new (get_or (put_after p n l) 0 n) l i new ∙ ap (λ f. after f l p) (put_head l n ∙ one_head l p n p i)

-- ---- entries left out
module _ (e : ℕ) where
  pub drop_yes : (x : ℕ) (xs : List ℕ) → edge_of x ≡ e → without_edge e (x ∷ xs) ≡ without_edge e xs
  drop_yes x xs q = cond-true (eqb (edge_of x) e) (without_edge e xs) (x ∷ without_edge e xs) (eq-eqb (edge_of x) e q)

  pub drop_no : (x : ℕ) (xs : List ℕ) → edge_of x ≢ e → without_edge e (x ∷ xs) ≡ x ∷ without_edge e xs
  drop_no x xs q = cond-false (eqb (edge_of x) e) (without_edge e xs) (x ∷ without_edge e xs) (ne_eqb (edge_of x) e q)

  pub drop_none : (xs : List ℕ) → ((y : ℕ) → In y xs → edge_of y ≢ e) → without_edge e xs ≡ xs
  drop_none [] h = refl
  drop_none (x ∷ xs) h = drop_no x xs (h x (here refl)) ∙ ap (λ z. x ∷ z) (drop_none xs (λ y i. h y (there i)))

  pub drop_in : (l : List ℕ) (x : ℕ) → In x (without_edge e l) → In x l × (edge_of x ≢ e)
  drop_in [] x i = absurd (not_in_nil i)
  drop_in (y ∷ ys) x i = elim (cases_eq (edge_of y) e) [
    | inl q ↦ (let r = drop_in ys x (subst (λ z. In x z) (drop_yes y ys q) i) in (there r.0, r.1))
    | inr n ↦ elim (In-cases (subst (λ z. In x z) (drop_no y ys n) i)) [
      | inl q ↦ (here q, λ k. n (ap edge_of (sym q) ∙ k))
      | inr j ↦ (let r = drop_in ys x j in (there r.0, r.1))
    ]
  ]

  pub drop_kept : (l : List ℕ) (x : ℕ) → In x l → edge_of x ≢ e → In x (without_edge e l)
  drop_kept [] x i n = absurd (not_in_nil i)
  drop_kept (y ∷ ys) x i n = elim (cases_eq (edge_of y) e) [
    | inl q ↦ subst (λ z. In x z) (sym (drop_yes y ys q)) (elim (In-cases i) [ inl k ↦ absurd (n (ap edge_of k ∙ q)) | inr j ↦ drop_kept ys x j n ])
    | inr m ↦ subst (λ z. In x z) (sym (drop_no y ys m)) (elim (In-cases i) [ inl k ↦ here k | inr j ↦ there (drop_kept ys x j n) ])
  ]

  pub drop_once : (l : List ℕ) → NoRepeat l → NoRepeat (without_edge e l)
  drop_once [] h = tt
  drop_once (y ∷ ys) h = elim (cases_eq (edge_of y) e) [
    | inl q ↦ subst NoRepeat (sym (drop_yes y ys q)) (drop_once ys h.1)
    | inr n ↦ subst NoRepeat (sym (drop_no y ys n)) ((λ i. h.0 (drop_in ys y i).0), drop_once ys h.1)
  ]

  -- one end of e at most
  abbrev pub One : List ℕ → Type 0
  One l = (x y : ℕ) → In x l → In y l → edge_of x ≡ e → edge_of y ≡ e → x ≡ y

  pub rest_none : (x : ℕ) (xs : List ℕ) → NoRepeat (x ∷ xs) → One (x ∷ xs) → edge_of x ≡ e → (y : ℕ) → In y xs → edge_of y ≢ e
  rest_none x xs once one q y i k = once.0 (in_subst (one y x (there i) (here refl) k q) i)

  Passes : ℕ → List ℕ → ℕ → Type 0
  Passes f l d = ((edge_of (after f l d) ≢ e) × (after f (without_edge e l) d ≡ after f l d)) ⊎ ((edge_of (after f l d) ≡ e) × (after f (without_edge e l) d ≡ after f l (after f l d)))

  passes : (f : ℕ) (l : List ℕ) (d : ℕ) → edge_of f ≢ e → NoRepeat l → One l → In d l → edge_of d ≢ e → Passes f l d
  unfolding Passes
  passes f [] d nf once one i nd = absurd (not_in_nil i)
  passes f (y ∷ []) d nf once one i nd = elim (In-cases i) [
    | inl q ↦
        let a : after f (y ∷ []) d ≡ f = after_yes f y d [] (sym q) in
        inl ((λ k. nf (sym (ap edge_of a) ∙ k)), ap (λ z. after f z d) (drop_no y [] (λ k. nd (ap edge_of q ∙ k))))
    | inr j ↦ absurd (not_in_nil j)
  ]
  passes f (y ∷ z ∷ zs) d nf once one i nd = elim (In-cases i) [
    | inl q ↦
        let ny : edge_of y ≢ e = λ k. nd (ap edge_of q ∙ k) in
        let a : after f (y ∷ z ∷ zs) d ≡ z = after_yes f y d (z ∷ zs) (sym q) in
        let b : after f (without_edge e (y ∷ z ∷ zs)) d ≡ get_or (without_edge e (z ∷ zs)) 0 f = ap (λ w. after f w d) (drop_no y (z ∷ zs) ny) ∙ after_yes f y d (without_edge e (z ∷ zs)) (sym q) in
        elim (cases_eq (edge_of z) e) [
          | inr n ↦ inl ((λ k. n (sym (ap edge_of a) ∙ k)), b ∙ ap (λ w. get_or w 0 f) (drop_no z zs n) ∙ sym a)
          | inl k ↦
              let c : after f (y ∷ z ∷ zs) z ≡ get_or zs 0 f = after_no f y z (z ∷ zs) (λ w. once.0 (here w)) ∙ after_yes f z z zs refl in
              inr (ap edge_of a ∙ k, b ∙ ap (λ w. get_or w 0 f) (drop_yes z zs k ∙ drop_none zs (rest_none z zs once.1 (λ x y i j. one x y (there i) (there j)) k)) ∙ sym (ap (after f (y ∷ z ∷ zs)) a ∙ c))
        ]
    | inr j ↦
        let ys : List ℕ = z ∷ zs in
        let yd : y ≢ d = λ w. once.0 (in_subst (sym w) j) in
        let a : after f (y ∷ ys) d ≡ after f ys d = after_no f y d ys yd in
        elim (cases_eq (edge_of y) e) [
          | inr n ↦
              let b : after f (without_edge e (y ∷ ys)) d ≡ after f (without_edge e ys) d = ap (λ w. after f w d) (drop_no y ys n) ∙ after_no f y d (without_edge e ys) yd in
              elim (passes f (z ∷ zs) d nf once.1 (λ x y i j. one x y (there i) (there j)) j nd) [
                | inl r ↦ inl ((λ k. r.0 (sym (ap edge_of a) ∙ k)), b ∙ r.1 ∙ sym a)
                | inr r ↦
                    let c : after f (y ∷ ys) (after f ys d) ≡ after f ys (after f ys d) = after_no f y (after f ys d) ys (λ w. n (ap edge_of w ∙ r.0)) in
                    inr (ap edge_of a ∙ r.0, b ∙ r.1 ∙ sym (ap (after f (y ∷ ys)) a ∙ c))
              ]
          | inl q ↦
              let none : (x : ℕ) → In x ys → edge_of x ≢ e = rest_none y ys once one q in
              let b : after f (without_edge e (y ∷ ys)) d ≡ after f ys d = ap (λ w. after f w d) (drop_yes y ys q ∙ drop_none ys none) in
              let c : edge_of (after f ys d) ≢ e = elim (after_in f ys d) [ inl k ↦ none (after f ys d) k | inr k ↦ (λ w. nf (sym (ap edge_of k) ∙ w)) ] in
              inl ((λ k. c (sym (ap edge_of a) ∙ k)), b ∙ sym a)
        ]
  ]

  -- with another first
  two_firsts : (f f' : ℕ) (l : List ℕ) (d : ℕ) → In d l → ((after f l d ≡ f) × (after f' l d ≡ f')) ⊎ ((after f l d ≡ after f' l d) × In (after f l d) l)
  two_firsts f f' [] d i = absurd (not_in_nil i)
  two_firsts f f' (y ∷ []) d i = elim (In-cases i) [
    | inl q ↦ inl (after_yes f y d [] (sym q), after_yes f' y d [] (sym q))
    | inr j ↦ absurd (not_in_nil j)
  ]
  two_firsts f f' (y ∷ z ∷ zs) d i = elim (cases_eq y d) [
    | inl q ↦ inr (after_yes f y d (z ∷ zs) q ∙ sym (after_yes f' y d (z ∷ zs) q), there (here (after_yes f y d (z ∷ zs) q)))
    | inr n ↦ elim (In-cases i) [
      | inl q ↦ absurd (n (sym q))
      | inr j ↦ elim (two_firsts f f' (z ∷ zs) d j) [
        | inl r ↦ inl (after_no f y d (z ∷ zs) n ∙ r.0, after_no f' y d (z ∷ zs) n ∙ r.1)
        | inr r ↦ inr (after_no f y d (z ∷ zs) n ∙ r.0 ∙ sym (after_no f' y d (z ∷ zs) n), there (in_subst (sym (after_no f y d (z ∷ zs) n)) r.1))
      ]
    ]
  ]

  -- the next that is no end of e
  pub cyclic_without : (l : List ℕ) (d : ℕ) → NoRepeat l → One l → In d l → edge_of d ≢ e
      → ((edge_of (cyclic l d) ≢ e) × (cyclic (without_edge e l) d ≡ cyclic l d)) ⊎ ((edge_of (cyclic l d) ≡ e) × (cyclic (without_edge e l) d ≡ cyclic l (cyclic l d)))
  unfolding Passes
  cyclic_without [] d once one i nd = absurd (not_in_nil i)
  cyclic_without (y ∷ ys) d once one i nd = elim (cases_eq (edge_of y) e) [
    | inr n ↦
        let b : cyclic (without_edge e (y ∷ ys)) d ≡ after y (without_edge e (y ∷ ys)) d = ap (λ f. after f (without_edge e (y ∷ ys)) d) (ap (λ w. get_or w 0 d) (drop_no y ys n)) in
        elim (passes y (y ∷ ys) d n once one i nd) [ inl r ↦ inl (r.0, b ∙ r.1) | inr r ↦ inr (r.0, b ∙ r.1) ]
    | inl q ↦ elim (In-cases i) [
      | inl k ↦ absurd (nd (ap edge_of k ∙ q))
      | inr j ↦
          let none : (x : ℕ) → In x ys → edge_of x ≢ e = rest_none y ys once one q in
          let w : without_edge e (y ∷ ys) ≡ ys = drop_yes y ys q ∙ drop_none ys none in
          let yd : y ≢ d = λ k. once.0 (in_subst (sym k) j) in
          let a : cyclic (y ∷ ys) d ≡ after y ys d = after_no y y d ys yd in
          let b : cyclic (without_edge e (y ∷ ys)) d ≡ after (get_or ys 0 d) ys d = ap (λ l. cyclic l d) w in
          elim (two_firsts y (get_or ys 0 d) ys d j) [
            | inl r ↦
                let c : cyclic (y ∷ ys) y ≡ get_or ys 0 y = after_yes y y y ys refl in
                inr (ap edge_of (a ∙ r.0) ∙ q, b ∙ r.1 ∙ one_head ys d d y j ∙ sym (ap (after y (y ∷ ys)) (a ∙ r.0) ∙ c))
            | inr r ↦ inl ((λ k. none (after y ys d) r.1 (sym (ap edge_of a) ∙ k)), b ∙ sym r.0 ∙ sym a)
          ]
    ]
  ]
