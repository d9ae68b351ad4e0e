-- The edges out of a vertex in file order and the edges into it in reverse file order: which they are, when edges are added,
-- and those of an ear.
use Rattle.std.proofs.Common.{ℕ, zero, suc, List, [], ◌∷◌, ◌++◌, length, cond, eqb, ◌≡◌, ◌≢◌, ◌<◌, ◌≤◌, ◌+◌, inl, inr, refl, sym, ap, ◌∙◌, subst, arith, append_assoc}
use Rattle.std.proofs.lemmas.Bool.{cases_eq, eq-eqb, ne_eqb, cond-true, cond-false}
use Rattle.std.proofs.lemmas.List.{append-nil}
use Rattle.st_ids.specs.Graph.{tail_of, head_of}
use Rattle.st_ids.specs.Lists.{In, here, there, NoRepeat, Linked}
use Rattle.st_ids.proofs.Public.{joined_once, not_in_nil, In-cases, in_left, in_right, in_append, in_subst}
use Rattle.st_map.specs.Orders.{IsOrderAt}
use Rattle.st_input.specs.Orders.{file_outs, file_ins, default_order}
use Rattle.st_gen.specs.Made.{range, ear_edges}
use Rattle.st_gen.proofs.EarLists.{linked_from}

-- ---- a list that has e where a test holds
chosen : (a v e : ℕ) → a ≡ v → cond (eqb a v) (e ∷ []) [] ≡ e ∷ []
chosen a v e q = cond-true (eqb a v) (e ∷ []) [] (eq-eqb a v q)

passed_over : (a v e : ℕ) → a ≢ v → cond (eqb a v) (e ∷ []) [] ≡ []
passed_over a v e q = cond-false (eqb a v) (e ∷ []) [] (ne_eqb a v q)

in_chosen : (a v e x : ℕ) → In x (cond (eqb a v) (e ∷ []) []) → (x ≡ e) × (a ≡ v)
in_chosen a v e x i = elim (cases_eq a v) [
  | inl q ↦ elim (In-cases (subst (In x) (chosen a v e q) i)) [ inl p ↦ (p, q) | inr n ↦ absurd (not_in_nil n) ]
  | inr q ↦ absurd (not_in_nil (subst (In x) (passed_over a v e q) i))
]

chosen_in : (a v e : ℕ) → a ≡ v → In e (cond (eqb a v) (e ∷ []) [])
chosen_in a v e q = subst (In e) (sym (chosen a v e q)) (here refl)

chosen_once : (a v e : ℕ) → NoRepeat (cond (eqb a v) (e ∷ []) [])
chosen_once a v e = elim (cases_eq a v) [
  | inl q ↦ subst NoRepeat (sym (chosen a v e q)) (not_in_nil, tt)
  | inr q ↦ subst NoRepeat (sym (passed_over a v e q)) tt
]

-- ---- which edges they are
pub record IsEdgeFrom (es : List (ℕ × ℕ)) (k v x : ℕ) : Type 0 where
  pub edge : ℕ
  pub there : edge < length es
  pub is : x ≡ k + edge
  pub leaves : tail_of es edge ≡ v

pub record IsEdgeTo (es : List (ℕ × ℕ)) (k v x : ℕ) : Type 0 where
  pub edge : ℕ
  pub there : edge < length es
  pub is : x ≡ k + edge
  pub enters : head_of es edge ≡ v

out_is : (v k x : ℕ) (es : List (ℕ × ℕ)) → In x (file_outs v k es) → IsEdgeFrom es k v x
unfolding file_outs tail_of
out_is v k x [] i = absurd (not_in_nil i)
out_is v k x (a ∷ es) i = elim (in_append (cond (eqb a.0 v) (k ∷ []) []) i) [
  | inl h ↦ let c = in_chosen a.0 v k x h in record { edge = 0; there = omega arith; is = omega (arith, c.0); leaves = c.1 }
  | inr h ↦ let r = out_is v (k + 1) x es h in record { edge = suc r.edge; there = omega (arith, r.there); is = omega (arith, r.is); leaves = r.leaves }
]

in_is : (v k x : ℕ) (es : List (ℕ × ℕ)) → In x (file_ins v k es) → IsEdgeTo es k v x
unfolding file_ins head_of
in_is v k x [] i = absurd (not_in_nil i)
in_is v k x (a ∷ es) i = elim (in_append (file_ins v (k + 1) es) i) [
  | inr h ↦ let c = in_chosen a.1 v k x h in record { edge = 0; there = omega arith; is = omega (arith, c.0); enters = c.1 }
  | inl h ↦ let r = in_is v (k + 1) x es h in record { edge = suc r.edge; there = omega (arith, r.there); is = omega (arith, r.is); enters = r.enters }
]

is_out : (v k e : ℕ) (es : List (ℕ × ℕ)) → e < length es → tail_of es e ≡ v → In (k + e) (file_outs v k es)
unfolding file_outs tail_of
is_out v k e [] l q = absurd (omega arith)
is_out v k zero (a ∷ es) l q = in_left (file_outs v (k + 1) es) (in_subst (omega arith) (chosen_in a.0 v k q))
is_out v k (suc e) (a ∷ es) l q = in_right (cond (eqb a.0 v) (k ∷ []) []) (in_subst (omega arith) (is_out v (k + 1) e es (omega arith) q))

is_in : (v k e : ℕ) (es : List (ℕ × ℕ)) → e < length es → head_of es e ≡ v → In (k + e) (file_ins v k es)
unfolding file_ins head_of
is_in v k e [] l q = absurd (omega arith)
is_in v k zero (a ∷ es) l q = in_right (file_ins v (k + 1) es) (in_subst (omega arith) (chosen_in a.1 v k q))
is_in v k (suc e) (a ∷ es) l q = in_left (cond (eqb a.1 v) (k ∷ []) []) (in_subst (omega arith) (is_in v (k + 1) e es (omega arith) q))

outs_once_from : (v k : ℕ) (es : List (ℕ × ℕ)) → NoRepeat (file_outs v k es)
unfolding file_outs
outs_once_from v k [] = tt
outs_once_from v k (a ∷ es) = joined_once (cond (eqb a.0 v) (k ∷ []) []) (file_outs v (k + 1) es) (chosen_once a.0 v k) (outs_once_from v (k + 1) es)
    (λ x i j. let c = in_chosen a.0 v k x i in let r = out_is v (k + 1) x es j in absurd (omega (arith, c.0, r.is)))

ins_once_from : (v k : ℕ) (es : List (ℕ × ℕ)) → NoRepeat (file_ins v k es)
unfolding file_ins
ins_once_from v k [] = tt
ins_once_from v k (a ∷ es) = joined_once (file_ins v (k + 1) es) (cond (eqb a.1 v) (k ∷ []) []) (ins_once_from v (k + 1) es) (chosen_once a.1 v k)
    (λ x i j. let c = in_chosen a.1 v k x j in let r = in_is v (k + 1) x es i in absurd (omega (arith, c.0, r.is)))

pub outs_once : (v : ℕ) (es : List (ℕ × ℕ)) → NoRepeat (file_outs v 0 es)
outs_once v es = outs_once_from v 0 es

pub ins_once : (v : ℕ) (es : List (ℕ × ℕ)) → NoRepeat (file_ins v 0 es)
ins_once v es = ins_once_from v 0 es

pub outs_only : (es : List (ℕ × ℕ)) (v e : ℕ) → In e (file_outs v 0 es) → (e < length es) × (tail_of es e ≡ v)
outs_only es v e i =
    let r = out_is v 0 e es i in
    let q : e ≡ r.edge = omega (arith, r.is) in
    (omega (arith, r.there), ap (tail_of es) q ∙ r.leaves)

pub ins_only : (es : List (ℕ × ℕ)) (v e : ℕ) → In e (file_ins v 0 es) → (e < length es) × (head_of es e ≡ v)
ins_only es v e i =
    let r = in_is v 0 e es i in
    let q : e ≡ r.edge = omega (arith, r.is) in
    (omega (arith, r.there), ap (head_of es) q ∙ r.enters)

pub outs_all : (es : List (ℕ × ℕ)) (v e : ℕ) → e < length es → tail_of es e ≡ v → In e (file_outs v 0 es)
outs_all es v e l q = in_subst (omega arith) (is_out v 0 e es l q)

pub ins_all : (es : List (ℕ × ℕ)) (v e : ℕ) → e < length es → head_of es e ≡ v → In e (file_ins v 0 es)
ins_all es v e l q = in_subst (omega arith) (is_in v 0 e es l q)

-- where no edge leads from a vertex to itself, the default order is a permutation of the edges at the vertex
pub default_is_order : (es : List (ℕ × ℕ)) (v : ℕ) → ((e : ℕ) → e < length es → tail_of es e ≢ head_of es e) → IsOrderAt es v (default_order es v)
default_is_order es v no_loop = record {
  only = λ e i. elim (in_append (file_outs v 0 es) i) [
    | inl h ↦ let r = outs_only es v e h in (r.0, inl r.1)
    | inr h ↦ let r = ins_only es v e h in (r.0, inr r.1)
  ];
  all = λ e a. elim a.1 [
    | inl q ↦ in_left (file_ins v 0 es) (outs_all es v e a.0 q)
    | inr q ↦ in_right (file_outs v 0 es) (ins_all es v e a.0 q)
  ];
  once = joined_once (file_outs v 0 es) (file_ins v 0 es) (outs_once v es) (ins_once v es)
      (λ e i j. let a = outs_only es v e i in let b = ins_only es v e j in no_loop e a.0 (a.1 ∙ sym b.1));
}

-- ---- edges added
file_outs-append_from : (v k : ℕ) (es fs : List (ℕ × ℕ)) → file_outs v k (es ++ fs) ≡ file_outs v k es ++ file_outs v (k + length es) fs
unfolding file_outs
file_outs-append_from v k [] fs = ap (λ z. file_outs v z fs) (let q : k ≡ k + 0 = omega arith in q)
file_outs-append_from v k (a ∷ es) fs =
    ap (λ z. cond (eqb a.0 v) (k ∷ []) [] ++ z) (file_outs-append_from v (k + 1) es fs ∙ ap (λ z. file_outs v (k + 1) es ++ file_outs v z fs) (let q : k + 1 + length es ≡ k + suc (length es) = omega arith in q))
    ∙ sym (append_assoc (cond (eqb a.0 v) (k ∷ []) []) (file_outs v (k + 1) es) (file_outs v (k + suc (length es)) fs))

file_ins-append_from : (v k : ℕ) (es fs : List (ℕ × ℕ)) → file_ins v k (es ++ fs) ≡ file_ins v (k + length es) fs ++ file_ins v k es
unfolding file_ins
file_ins-append_from v k [] fs = ap (λ z. file_ins v z fs) (let q : k ≡ k + 0 = omega arith in q) ∙ sym (append-nil (file_ins v (k + 0) fs))
file_ins-append_from v k (a ∷ es) fs =
    ap (λ z. z ++ cond (eqb a.1 v) (k ∷ []) []) (file_ins-append_from v (k + 1) es fs ∙ ap (λ z. file_ins v z fs ++ file_ins v (k + 1) es) (let q : k + 1 + length es ≡ k + suc (length es) = omega arith in q))
    ∙ append_assoc (file_ins v (k + suc (length es)) fs) (file_ins v (k + 1) es) (cond (eqb a.1 v) (k ∷ []) [])

pub file_outs-append : (v : ℕ) (es fs : List (ℕ × ℕ)) → file_outs v 0 (es ++ fs) ≡ file_outs v 0 es ++ file_outs v (length es) fs
file_outs-append v es fs = file_outs-append_from v 0 es fs ∙ ap (λ z. file_outs v 0 es ++ file_outs v z fs) (let q : 0 + length es ≡ length es = omega arith in q)

pub file_ins-append : (v : ℕ) (es fs : List (ℕ × ℕ)) → file_ins v 0 (es ++ fs) ≡ file_ins v (length es) fs ++ file_ins v 0 es
file_ins-append v es fs = file_ins-append_from v 0 es fs ∙ ap (λ z. file_ins v z fs ++ file_ins v 0 es) (let q : 0 + length es ≡ length es = omega arith in q)

-- ---- the vertices of an ear
pub range_only : (a k x : ℕ) → In x (range a k) → (a ≤ x) × (x < a + k)
range_only a zero x i = absurd (not_in_nil i)
range_only a (suc k) x i = elim (In-cases i) [
  | inl q ↦ ((omega arith), (omega arith))
  | inr j ↦ let h = range_only (a + 1) k x j in ((omega (arith, h.0)), (omega (arith, h.1)))
]

pub range_all : (a k x : ℕ) → a ≤ x → x < a + k → In x (range a k)
range_all a zero x l m = absurd (omega arith)
range_all a (suc k) x l m = elim (cases_eq x a) [ inl q ↦ here q | inr n ↦ there (range_all (a + 1) k x (omega (arith, n)) (omega arith)) ]

pub range_once : (a k : ℕ) → NoRepeat (range a k)
range_once a zero = tt
range_once a (suc k) = ((λ i. omega (arith, (range_only (a + 1) k a i).0)), range_once (a + 1) k)

-- ---- the edges of an ear
pub ear_outs_none : (x u a k w m : ℕ) → x ≢ u → (a ≤ x → x < a + k → ⊥) → file_outs x m (ear_edges u a k w) ≡ []
unfolding file_outs
ear_outs_none x u a zero w m n out = append-nil (cond (eqb u x) (m ∷ []) []) ∙ passed_over u x m (λ q. n (sym q))
ear_outs_none x u a (suc k) w m n out =
    ap (λ z. z ++ file_outs x (m + 1) (ear_edges a (a + 1) k w)) (passed_over u x m (λ q. n (sym q)))
    ∙ ear_outs_none x a (a + 1) k w (m + 1) (λ q. out (omega arith) (omega arith)) (λ l h. out (omega arith) (omega arith))

pub ear_ins_none : (x u a k w m : ℕ) → x ≢ w → (a ≤ x → x < a + k → ⊥) → file_ins x m (ear_edges u a k w) ≡ []
unfolding file_ins
ear_ins_none x u a zero w m n out = passed_over w x m (λ q. n (sym q))
ear_ins_none x u a (suc k) w m n out =
    ap (λ z. z ++ cond (eqb a x) (m ∷ []) []) (ear_ins_none x a (a + 1) k w (m + 1) n (λ l h. out (omega arith) (omega arith)))
    ∙ passed_over a x m (λ q. out (omega arith) (omega arith))

-- of the edges fs, numbered from m on, one alone leaves x and it alone enters y
pub record EarEdge (fs : List (ℕ × ℕ)) (m x y : ℕ) : Type 0 where
  pub edge : ℕ
  pub new : m ≤ edge
  pub out : file_outs x m fs ≡ edge ∷ []
  pub into : file_ins y m fs ≡ edge ∷ []

-- an ear's edges lead from each of its vertices to the next
pub ear_linked : (u a k w m : ℕ) → u < a → w < a → w ≢ u → Linked (EarEdge (ear_edges u a k w) m) (u ∷ (range a k ++ w ∷ []))
unfolding file_outs file_ins
ear_linked u a zero w m lu lw n = (
  record { edge = m; new = omega arith; out = append-nil (cond (eqb u u) (m ∷ []) []) ∙ chosen u u m refl; into = chosen w w m refl },
  (tt, tt),
)
ear_linked u a (suc k) w m lu lw n = (
  record {
    edge = m;
    new = omega arith;
    out = ap (λ z. z ++ file_outs u (m + 1) (ear_edges a (a + 1) k w)) (chosen u u m refl)
        ∙ ap (λ z. m ∷ z) (ear_outs_none u a (a + 1) k w (m + 1) (λ q. omega arith) (λ l h. omega arith));
    into = ap (λ z. z ++ cond (eqb a a) (m ∷ []) []) (ear_ins_none a a (a + 1) k w (m + 1) (λ q. omega arith) (λ l h. omega arith)) ∙ chosen a a m refl;
  },
  linked_from (EarEdge (ear_edges a (a + 1) k w) (m + 1)) (EarEdge (ear_edges u a (suc k) w) m) a (range (a + 1) k ++ w ∷ [])
      (λ x y i j E. record {
        edge = E.edge;
        new = omega (arith, E.new);
        out = ap (λ z. z ++ file_outs x (m + 1) (ear_edges a (a + 1) k w)) (passed_over u x m (λ q. not_begin x i (sym q))) ∙ E.out;
        into = ap (λ z. file_ins y (m + 1) (ear_edges a (a + 1) k w) ++ z) (passed_over a y m (λ q. not_first y j (sym q)))
            ∙ append-nil (file_ins y (m + 1) (ear_edges a (a + 1) k w)) ∙ E.into;
      })
      (ear_linked a (a + 1) k w (m + 1) (omega arith) (omega arith) (λ q. omega arith)),
)
  where
    not_begin : (x : ℕ) → In x (a ∷ (range (a + 1) k ++ w ∷ [])) → x ≡ u → ⊥
    not_begin x i q = elim (In-cases i) [
      | inl p ↦ omega arith
      | inr j ↦ elim (in_append (range (a + 1) k) j) [
        | inl r ↦ omega (arith, (range_only (a + 1) k x r).0)
        | inr r ↦ elim (In-cases r) [ inl p ↦ n (sym p ∙ q) | inr e ↦ not_in_nil e ]
      ]
    ]

    not_first : (y : ℕ) → In y (range (a + 1) k ++ w ∷ []) → y ≡ a → ⊥
    not_first y j q = elim (in_append (range (a + 1) k) j) [
      | inl r ↦ omega (arith, (range_only (a + 1) k y r).0)
      | inr r ↦ elim (In-cases r) [ inl p ↦ omega arith | inr e ↦ not_in_nil e ]
    ]

-- ranks that grow by one along an ear grow along its edges
pub linked_ranks : (f : ℕ → ℕ) (c b x a j w : ℕ) → ((v : ℕ) → a ≤ v → v < a + j → f v + c ≡ b + v) → f x + c < b + a → b + a + j ≤ f w + c
    → Linked (λ y z. f y < f z) (x ∷ (range a j ++ w ∷ []))
linked_ranks f c b x a zero w h l m = (omega arith, (tt, tt))
linked_ranks f c b x a (suc j) w h l m = (
  omega (arith, h a (omega arith) (omega arith)),
  linked_ranks f c b a (a + 1) j w (λ v p q. h v (omega arith) (omega arith)) (omega (arith, h a (omega arith) (omega arith))) (omega arith),
)

pub ear_rises : (f : ℕ → ℕ) (u a k w : ℕ) → Linked (λ y z. f y < f z) (u ∷ (range a k ++ w ∷ []))
    → (e : ℕ) → e < length (ear_edges u a k w) → f (tail_of (ear_edges u a k w) e) < f (head_of (ear_edges u a k w) e)
unfolding tail_of head_of
ear_rises f u a zero w h zero l = h.0
ear_rises f u a zero w h (suc e) l = absurd (omega arith)
ear_rises f u a (suc k) w h zero l = h.0
ear_rises f u a (suc k) w h (suc e) l = ear_rises f a (a + 1) k w h.1 e (omega arith)
