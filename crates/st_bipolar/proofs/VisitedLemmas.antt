-- From the numbers of a search to the vertices.
use Rattle.std.proofs.Common.{ℕ, suc, ◌≡◌, ◌≢◌, ◌⊎◌, ◌<◌, ◌≤◌, inl, inr, List, [], ◌∷◌, length, get_or, refl, sym, ap, ◌∙◌, subst, arith}
use Rattle.std.specs.Prelude.{slice_index}
use Rattle.std.proofs.lemmas.Bool.{cases_eq, cases_order}
use Rattle.st_ids.specs.Lists.{In, here, there, Precedes}
use Rattle.st_ids.specs.Graph.{Graph, HasEnds, tail_of, head_of}
use Rattle.st_map.specs.Orders.{HasNoLoop}
use Rattle.st_bipolar.specs.Search.{Above, HasNoJoint, IsBelowJoint}
use Rattle.st_bipolar.specs.Places.{IsOrdered}
use Rattle.st_ids.specs.Undirected.{Joins, UndirectedWalk, rest, pass, IsJoined, IsConnected}
use Rattle.st_bipolar.specs.Cuts.{CutsOff, IsStNumbering, Meets, IsVisited, HasAll}
use Rattle.st_bipolar.specs.Laws.{VisitedLaw}
use Rattle.st_bipolar.proofs.OrderedLemmas.{ordered}
use Rattle.st_bipolar.proofs.AboveLemmas.{above_le, above_dec}
use Rattle.st_bipolar.proofs.PlaceLemmas.{place_of}
use Rattle.st_bipolar.proofs.CutLemmas.{Path, stop, go, out, shut, shut_one, path_beside, path_below}

pub flip : {g : Graph} {e u w : ℕ} → Joins g e u w → Joins g e w u
flip j = record { arc = j.arc; ends = elim j.ends [ inl p ↦ inr (p.1, p.0) | inr p ↦ inl (p.1, p.0) ] }

pub joins_in : {g : Graph} {e u w : ℕ} → HasEnds g → Joins g e u w → w < g.vertices
joins_in {g} {e} E j = elim j.ends [
  | inl p ↦ subst (λ z. z < g.vertices) p.1 (E e j.arc).1
  | inr p ↦ subst (λ z. z < g.vertices) p.1 (E e j.arc).0
]

pub trail_ok : {g : Graph} {Ok : ℕ → Type 0} {u v : ℕ} {es : List ℕ} → UndirectedWalk g Ok u es v → Ok u
trail_ok (rest o q) = o
trail_ok (pass o j r) = o

-- an edge at either end of a walk
pub first_edge : {g : Graph} {Ok : ℕ → Type 0} (u v : ℕ) (es : List ℕ) → UndirectedWalk g Ok u es v → u ≢ v → (e : ℕ) × (w : ℕ) × Joins g e u w
first_edge u v es (rest o q) d = absurd (d q)
first_edge u v es (pass {w = w} {e = e} o j r) d = (e, w, j)

pub last_edge : {g : Graph} {Ok : ℕ → Type 0} (u v : ℕ) (es : List ℕ) → UndirectedWalk g Ok u es v → u ≢ v → (e : ℕ) × (w : ℕ) × Joins g e v w
last_edge u v es (rest o q) d = absurd (d q)
last_edge {g} u v es (pass {w = w} {e = e} {es = ds} o j r) d = elim (cases_eq w v) [
  | inl q ↦ (e, u, subst (λ z. Joins g e z u) q (flip j))
  | inr f ↦ last_edge w v ds r f
]

-- of two elements, one stands before the other
pub in_order : (L : List ℕ) (a b : ℕ) → In a L → In b L → a ≢ b → Precedes a b L ⊎ Precedes b a L
in_order [] a b i j d = elim i [ ]
in_order (x ∷ L) a b (here e) (here f) d = absurd (d (e ∙ sym f))
in_order (x ∷ L) a b (here e) (there j) d = inl (inl (e, j))
in_order (x ∷ L) a b (there i) (here f) d = inr (inl (f, i))
in_order (x ∷ L) a b (there i) (there j) d = elim (in_order L a b i j d) [ inl h ↦ inl (inr h) | inr h ↦ inr (inr h) ]

-- the places of two elements, the first of which stands before the second
pub record TwoPlaces (L : List ℕ) (a b : ℕ) : Type 0 where
  pub i : ℕ
  pub j : ℕ
  pub less : i < j
  pub within : j < length L
  pub at_i : slice_index L i ≡ a
  pub at_j : slice_index L j ≡ b

pub two_places : (L : List ℕ) (a b : ℕ) → Precedes a b L → TwoPlaces L a b
two_places [] a b h = absurd h
two_places (x ∷ L) a b (inl h) =
    let k = place_of L b h.1 in
    record { i = 0; j = suc k.0; less = omega arith; within = omega (arith, k.1); at_i = sym h.0; at_j = k.2 }
two_places (x ∷ L) a b (inr h) =
    let k = two_places L a b h in
    record { i = suc k.i; j = suc k.j; less = omega (arith, k.less); within = omega (arith, k.within); at_i = k.at_i; at_j = k.at_j }

module _ (g : Graph) (s t : ℕ) (vs parent low : List ℕ) (V : IsVisited g s t vs parent low) where
  n : ℕ
  n = length vs

  pub vertex_apart : (i k : ℕ) → i < length vs → k < length vs → i ≢ k → get_or vs i 0 ≢ get_or vs k 0
  vertex_apart i k li lk d e = elim (cases_order i k) [
    | inl q ↦ d q
    | inr o ↦ elim o [ inl a ↦ V.apart i k a lk e | inr b ↦ V.apart k i b li (sym e) ]
  ]

  trail_of : (c z u : ℕ) → c < length vs → u < length vs → Path (length vs) (Meets g vs) (λ x. x ≢ c) z u → IsJoined g (λ x. x ≢ get_or vs c 0) (get_or vs u 0) (get_or vs z 0)
  trail_of c z u lc l (stop o e) = record { way = []; trail = rest (vertex_apart u c l lc o) (ap (λ x. get_or vs x 0) e) }
  trail_of c z u lc l (go {w = w} o lw h r) =
      let T = trail_of c z w lc lw r in
      record { way = h.0 ∷ T.way; trail = pass (vertex_apart u c l lc o) h.1 T.trail }

  path_of : (c z u y v : ℕ) (es : List ℕ) → c < length vs → u < length vs → y ≡ get_or vs u 0 → z < length vs → v ≡ get_or vs z 0 → UndirectedWalk g (λ x. x ≢ get_or vs c 0) y es v
      → Path (length vs) (Meets g vs) (λ x. x ≢ c) z u
  path_of c z u y v [] lc l e lz f (rest o q) = stop (λ k. o (e ∙ ap (λ x. get_or vs x 0) k)) (elim (cases_eq u z) [ inl k ↦ k | inr d ↦ absurd (vertex_apart u z l lz d (sym e ∙ q ∙ f)) ])
  path_of c z u y v (d ∷ ds) lc l e lz f (pass {w = w} o j r) =
      let k : Joins g d (get_or vs u 0) w = subst (λ x. Joins g d x w) e j in
      let h = V.closed u d w l k in
      go (λ k. o (e ∙ ap (λ x. get_or vs x 0) k)) h.1 (d, subst (λ x. Joins g d (get_or vs u 0) x) (sym h.2) k) (path_of c z h.0 w v ds lc h.1 (sym h.2) lz f r)

  two : 2 ≤ length vs
  two = V.search.two

  pub cuts : (c v : ℕ) → v < length vs → IsBelowJoint (length vs) (slice_index parent) (slice_index low) c v → CutsOff g s t (get_or vs c 0) (get_or vs v 0)
  cuts c v l A =
      let lb : A.branch < length vs = A.within in
      let tb : 2 ≤ A.branch = A.late in
      let u : slice_index parent A.branch < A.branch = V.search.up A.branch (omega arith) lb in
      let q : slice_index parent A.branch ≡ c = A.parent in
      let le : A.branch ≤ v = above_le (length vs) (Meets g vs) (slice_index parent) V.search l A.above in
      let lc : c < length vs = omega arith in
      record {
        cut_in = V.within c lc;
        apart_in = V.within v l;
        not_cut = vertex_apart v c l lc (λ e. omega arith);
        not_s = λ e. vertex_apart v 0 l (omega arith) (λ h. omega arith) (e ∙ sym V.source);
        not_t = λ e. vertex_apart v 1 l (omega arith) (λ h. omega arith) (e ∙ sym V.sink);
        no_s = λ J. shut (length vs) (Meets g vs) (slice_index parent) (slice_index low) V.search V.lows c v 0 (omega arith) l A
            (path_of c 0 v (get_or vs v 0) s J.way lc l refl (omega arith) (sym V.source) J.trail);
        no_t = λ J. shut (length vs) (Meets g vs) (slice_index parent) (slice_index low) V.search V.lows c v 1 (omega arith) l A
            (path_of c 1 v (get_or vs v 0) t J.way lc l refl (omega arith) (sym V.sink) J.trail);
      }

  pub whole : (c v : ℕ) → c < length vs → v < length vs → CutsOff g s t (get_or vs c 0) (get_or vs v 0) → (IsBelowJoint (length vs) (slice_index parent) (slice_index low) c v → ⊥) → ⊥
  whole c v lc l C off =
      elim (out (length vs) (Meets g vs) (slice_index parent) (slice_index low) V.search V.lows c v l (λ e. C.not_cut (ap (λ x. get_or vs x 0) e)) off) [
        | inl w ↦ C.no_s (subst (λ z. IsJoined g (λ x. x ≢ get_or vs c 0) (get_or vs v 0) z) V.source (trail_of c 0 v lc l w))
        | inr w ↦ C.no_t (subst (λ z. IsJoined g (λ x. x ≢ get_or vs c 0) (get_or vs v 0) z) V.sink (trail_of c 1 v lc l w))
      ]

  -- where no vertex is a joint, none cuts off another
  pub no_cut : HasAll g vs → HasNoJoint (length vs) (slice_index parent) (slice_index low) → (c v : ℕ) → CutsOff g s t c v → ⊥
  no_cut all N c v C =
      let a = all c C.cut_in in
      let b = all v C.apart_in in
      whole a.0 b.0 a.1 b.1 (subst (λ x. CutsOff g s t x (get_or vs b.0 0)) (sym a.2) (subst (λ x. CutsOff g s t c x) (sym b.2) C)) (λ A.
      let h : slice_index low A.branch < slice_index parent A.branch = N A.branch A.late A.within in
      let e : slice_index low A.branch ≡ a.0 = A.low_point in
      let f : slice_index parent A.branch ≡ a.0 = A.parent in
      omega arith)

  -- ---- what is joined to the first pole
  trail_any : (z u : ℕ) → u < length vs → Path (length vs) (Meets g vs) (λ _. Unit {0}) z u → IsJoined g (λ _. Unit {0}) (get_or vs u 0) (get_or vs z 0)
  trail_any z u l (stop o e) = record { way = []; trail = rest tt (ap (λ x. get_or vs x 0) e) }
  trail_any z u l (go {w = w} o lw h r) =
      let T = trail_any z w lw r in
      record { way = h.0 ∷ T.way; trail = pass tt h.1 T.trail }

  path_any : (z u y v : ℕ) (es : List ℕ) → u < length vs → y ≡ get_or vs u 0 → z < length vs → v ≡ get_or vs z 0 → UndirectedWalk g (λ _. Unit {0}) y es v → Path (length vs) (Meets g vs) (λ _. Unit {0}) z u
  path_any z u y v [] l e lz f (rest o q) = stop tt (elim (cases_eq u z) [ inl k ↦ k | inr d ↦ absurd (vertex_apart u z l lz d (sym e ∙ q ∙ f)) ])
  path_any z u y v (d ∷ ds) l e lz f (pass {w = w} o j r) =
      let k : Joins g d (get_or vs u 0) w = subst (λ x. Joins g d x w) e j in
      let h = V.closed u d w l k in
      go tt h.1 (d, subst (λ x. Joins g d (get_or vs u 0) x) (sym h.2) k) (path_any z h.0 w v ds h.1 (sym h.2) lz f r)

  -- what a walk joins to a visited vertex was visited
  reached : (y v : ℕ) (es : List ℕ) → UndirectedWalk g (λ _. Unit {0}) y es v → (z : ℕ) → z < length vs → get_or vs z 0 ≡ v → (k : ℕ) × (k < length vs) × (get_or vs k 0 ≡ y)
  reached y v es (rest o q) z l e = (z, l, e ∙ sym q)
  reached y v es (pass {w = w} {e = d} {es = ds} o j r) z l e =
      let h = reached w v ds r z l e in
      V.closed h.0 d y h.1 (subst (λ x. Joins g d x y) (sym h.2) (flip j))

  pub is_joined : (k : ℕ) → k < length vs → (Above (slice_index parent) 1 k → ⊥) ⊎ (slice_index low 1 ≡ 0) → IsJoined g (λ _. Unit {0}) (get_or vs k 0) s
  is_joined k l h = subst (λ z. IsJoined g (λ _. Unit {0}) (get_or vs k 0) z) V.source (trail_any 0 k l (elim h [
    | inl off ↦ path_beside (length vs) (Meets g vs) (slice_index parent) (slice_index low) V.search V.lows k l off
    | inr z ↦ elim (above_dec (length vs) (Meets g vs) (slice_index parent) V.search 1 k l) [
      | inl a ↦ path_below (length vs) (Meets g vs) (slice_index parent) (slice_index low) V.search V.lows k l z a
      | inr off ↦ path_beside (length vs) (Meets g vs) (slice_index parent) (slice_index low) V.search V.lows k l off
    ]
  ]))

  -- what isn't visited, or is below 1 where its low point isn't 0, is apart
  pub is_apart : (v : ℕ) → ((k : ℕ) → k < length vs → get_or vs k 0 ≡ v → Above (slice_index parent) 1 k × (slice_index low 1 ≢ 0)) → IsJoined g (λ _. Unit {0}) v s → ⊥
  is_apart v off J =
      let h = reached v s J.way J.trail 0 (omega (arith, two)) V.source in
      let o = off h.0 h.1 h.2 in
      shut_one (length vs) (Meets g vs) (slice_index parent) (slice_index low) V.search V.lows (λ _. Unit {0}) 0 h.0 refl o.1 h.1 o.0
      (path_any 0 h.0 v s J.way h.1 (sym h.2) (omega (arith, two)) (sym V.source) J.trail)

  -- ---- the numbers of the vertices by their places in a list that is in order
  module _ (E : HasEnds g) (D : HasNoLoop g) (connected : IsConnected g s) (all : HasAll g vs) (L : List ℕ) (O : IsOrdered (length vs) (Meets g vs) L)
      (r : ℕ → ℕ) (grows : (a b : ℕ) → a < length vs → b < length vs → Precedes a b L → r (get_or vs a 0) < r (get_or vs b 0)) where
    apart_loop : (e u : ℕ) → Joins g e u u → ⊥
    apart_loop e u j = elim j.ends [ inl p ↦ D e j.arc (p.0 ∙ sym p.1) | inr p ↦ D e j.arc (p.1 ∙ sym p.0) ]

    poles : t ≢ s
    poles e = vertex_apart 1 0 (omega (arith, two)) (omega (arith, two)) (λ h. omega arith) (V.sink ∙ e ∙ sym V.source)

    way : IsJoined g (λ _. Unit {0}) t s
    way = subst (λ z. IsJoined g (λ _. Unit {0}) z s) V.sink (connected (get_or vs 1 0) (V.within 1 (omega (arith, two))))

    from_s : (e w : ℕ) → Joins g e s w → r s < r w
    from_s e w j =
        let b = all w (joins_in E j) in
        let h : r (get_or vs 0 0) < r (get_or vs b.0 0) = grows 0 b.0 (omega (arith, two)) b.1 (O.first b.0 (elim (cases_eq b.0 0) [
          | inl q ↦ absurd (apart_loop e s (subst (λ z. Joins g e s z) (sym b.2 ∙ ap (λ x. get_or vs x 0) q ∙ V.source) j))
          | inr d ↦ omega arith
        ]) b.1) in
        subst (λ z. r s < r z) b.2 (subst (λ z. r z < r (get_or vs b.0 0)) V.source h)

    to_t : (e w : ℕ) → Joins g e t w → r w < r t
    to_t e w j =
        let b = all w (joins_in E j) in
        let h : r (get_or vs b.0 0) < r (get_or vs 1 0) = grows b.0 1 b.1 (omega (arith, two)) (O.last b.0 b.1 (λ q.
        apart_loop e t (subst (λ z. Joins g e t z) (sym b.2 ∙ ap (λ x. get_or vs x 0) q ∙ V.sink) j))) in
        subst (λ z. r z < r t) b.2 (subst (λ z. r (get_or vs b.0 0) < r z) V.sink h)

    differ : (a b : ℕ) → a < length vs → b < length vs → a ≢ b → r (get_or vs a 0) ≢ r (get_or vs b 0)
    differ a b la lb d e = elim (in_order L a b (O.lists.all a la) (O.lists.all b lb) d) [
      | inl h ↦ (let k : r (get_or vs a 0) < r (get_or vs b 0) = grows a b la lb h in omega arith)
      | inr h ↦ (let k : r (get_or vs b 0) < r (get_or vs a 0) = grows b a lb la h in omega arith)
    ]

    pub numbered : IsStNumbering g s t r
    numbered = record {
      apart = λ e l q.
          let h = E e l in
          let a = all (tail_of g.ends e) h.0 in
          let b = all (head_of g.ends e) h.1 in
          differ a.0 b.0 a.1 b.1 (λ z. D e l (sym a.2 ∙ ap (λ x. get_or vs x 0) z ∙ b.2)) (ap r a.2 ∙ q ∙ ap r (sym b.2));
      least = from_s;
      greatest = to_t;
      below = λ v l d.
          let a = all v l in
          elim (cases_eq a.0 1) [
            | inl q ↦
                let e : t ≡ v = sym V.sink ∙ ap (λ x. get_or vs x 0) (sym q) ∙ a.2 in
                let f = first_edge t s way.way way.trail poles in
                (f.0, f.1, subst (λ z. Joins g f.0 z f.1) e f.2, subst (λ z. r f.1 < r z) e (to_t f.0 f.1 f.2))
            | inr m ↦
                let B = O.between a.0 (elim (cases_eq a.0 0) [
                  | inl q ↦ absurd (d (sym a.2 ∙ ap (λ x. get_or vs x 0) q ∙ V.source))
                  | inr z ↦ omega arith
                ]) a.1 in
                let w = B.before in
                (w.2.0, get_or vs w.0 0, subst (λ z. Joins g w.2.0 z (get_or vs w.0 0)) a.2 w.2.1, subst (λ z. r (get_or vs w.0 0) < r z) a.2 (grows w.0 a.0 w.1 a.1 w.3))
          ];
      above = λ v l d.
          let a = all v l in
          elim (cases_eq a.0 0) [
            | inl q ↦
                let e : s ≡ v = sym V.source ∙ ap (λ x. get_or vs x 0) (sym q) ∙ a.2 in
                let f = last_edge t s way.way way.trail poles in
                (f.0, f.1, subst (λ z. Joins g f.0 z f.1) e f.2, subst (λ z. r z < r f.1) e (from_s f.0 f.1 f.2))
            | inr m ↦
                let B = O.between a.0 (elim (cases_eq a.0 1) [
                  | inl q ↦ absurd (d (sym a.2 ∙ ap (λ x. get_or vs x 0) q ∙ V.sink))
                  | inr z ↦ omega arith
                ]) a.1 in
                let w = B.behind in
                (w.2.0, get_or vs w.0 0, subst (λ z. Joins g w.2.0 z (get_or vs w.0 0)) a.2 w.2.1, subst (λ z. r z < r (get_or vs w.0 0)) a.2 (grows a.0 w.0 a.1 w.1 w.3))
          ];
    }

-- ---- the law
pub visited_law : (g : Graph) (s t : ℕ) (vs parent low : List ℕ) → IsVisited g s t vs parent low → VisitedLaw g s t vs parent low
visited_law g s t vs parent low V = record {
  apart = λ c v l A. cuts g s t vs parent low V c v l A;
  joined = λ c v lc l C off. whole g s t vs parent low V c v lc l C off;
  no_cut = λ all N c v C. no_cut g s t vs parent low V all N c v C;
  numbers = λ all N E D connected side L rank r B P R q.
      let O : IsOrdered (length vs) (Meets g vs) L = ordered (length vs) (Meets g vs) (slice_index parent) (slice_index low) side L V.search V.lows N B P in
      numbered g s t vs parent low V E D connected all L O r (λ a b la lb h.
      let T = two_places L a b h in
      let x : slice_index rank a ≡ T.i = ap (slice_index rank) (sym T.at_i) ∙ R T.i (omega (arith, T.less, T.within)) in
      let y : slice_index rank b ≡ T.j = ap (slice_index rank) (sym T.at_j) ∙ R T.j T.within in
      omega (arith, T.less, q a la, q b lb));
}
