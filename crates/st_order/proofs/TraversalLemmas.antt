-- A traversal from the source that numbers a vertex when the last of its edges in is taken, newest vertex first.
use Rattle.std.proofs.Common.{ℕ, zero, suc, List, [], ◌∷◌, ◌++◌, length, ◌≡◌, ◌≢◌, ◌<◌, ◌≤◌, ◌+◌, ◌⊎◌, inl, inr, refl, sym, ap, ◌∙◌, subst, arith, length-append}
use Rattle.std.proofs.lemmas.Bool.{cases_eq}
use Rattle.st_ids.specs.Lists.{In, here, there, NoRepeat, Precedes, Lists}
use Rattle.st_ids.specs.Walks.{Walk, stay, step, Reaches}
use Rattle.st_sides.specs.Sides.{SidesValue, edge_count, edge_tail, edge_head, ins, primal, IsSides}
use Rattle.st_order.specs.Orders.{Counts}
use Rattle.st_ids.proofs.Public.{not_in_nil, In-cases, in_left, in_right, in_append, in_dec, cut_at, Cut, in_subst, Precedes-right, joined_once, walk_append, Without, without, length-le_from_below, down}
use Rattle.st_order.proofs.BranchLemmas.{Branch}

-- ---- lists
in_without : (p q : List ℕ) (x : ℕ) {y : ℕ} → In y (p ++ q) → In y (p ++ x ∷ q)
in_without p q x i = elim (in_append p i) [ inl a ↦ in_left (x ∷ q) a | inr b ↦ in_right p (there b) ]

-- ---- counts
pub Counts-same : (P Q : ℕ → Type 0) (n : ℕ) → ((x : ℕ) → P x → Q x) → ((x : ℕ) → Q x → P x) → Counts P n → Counts Q n
Counts-same P Q n f g c = record {
  list = c.list;
  are = record { only = λ x i. f x (c.are.only x i); all = λ x q. c.are.all x (g x q); once = c.are.once };
  is = c.is;
}

pub Counts-none : (P : ℕ → Type 0) → ((x : ℕ) → P x → ⊥) → Counts P 0
Counts-none P n = record { list = []; are = record { only = λ x i. absurd (not_in_nil i); all = λ x p. absurd (n x p); once = tt }; is = refl }

pub Counts-some : (P : ℕ → Type 0) (n x : ℕ) → Counts P n → P x → 1 ≤ n
Counts-some P n x c p = go c.list (c.are.all x p) c.is
  where
    go : (xs : List ℕ) → In x xs → length xs ≡ n → 1 ≤ n
    go [] i q = absurd (not_in_nil i)
    go (y ∷ ys) i q = let h : suc (length ys) ≡ n = q in omega arith

pub Counts-zero : (P : ℕ → Type 0) (x : ℕ) → Counts P 0 → P x → ⊥
Counts-zero P x c p = let h : 1 ≤ 0 = Counts-some P 0 x c p in absurd (omega arith)

pub Counts-single : (P : ℕ → Type 0) (x y : ℕ) → Counts P 1 → P x → P y → x ≡ y
Counts-single P x y c p q = go c.list c.is (c.are.all x p) (c.are.all y q)
  where
    none : (xs : List ℕ) → length xs ≡ 0 → (z : ℕ) → In z xs → ⊥
    none [] l z i = not_in_nil i
    none (w ∷ ws) l z i = let h : suc (length ws) ≡ 0 = l in absurd (omega arith)

    go : (xs : List ℕ) → length xs ≡ 1 → In x xs → In y xs → x ≡ y
    go [] l i j = absurd (not_in_nil i)
    go (z ∷ zs) l i j =
        let h : length zs ≡ 0 = (let k : suc (length zs) ≡ 1 = l in omega arith) in
        elim (In-cases i) [
          | inr m ↦ absurd (none zs h x m)
          | inl a ↦ elim (In-cases j) [ inr m ↦ absurd (none zs h y m) | inl b ↦ a ∙ sym b ]
        ]

pub Counts-less : (P Q : ℕ → Type 0) (n x : ℕ) → Counts P (suc n) → P x → ((y : ℕ) → Q y → P y) → ((y : ℕ) → P y → y ≢ x → Q y) → (Q x → ⊥) → Counts Q n
Counts-less P Q n x c p back on not =
    let k : Cut x c.list = cut_at (c.are.all x p) in
    let w : Without x (k.before ++ k.after) = without k.before k.after x (subst NoRepeat k.is c.are.once) in
    let e : length c.list ≡ length k.before + suc (length k.after) = ap length k.is ∙ length-append k.before (x ∷ k.after) in
    let e' : length (k.before ++ k.after) ≡ length k.before + length k.after = length-append k.before k.after in
    let s : length c.list ≡ suc n = c.is in
    record {
      list = k.before ++ k.after;
      are = record {
        only = λ y i. on y (c.are.only y (subst (λ z. In y z) (sym k.is) (in_without k.before k.after x i))) (λ q. w.gone (in_subst q i));
        all = λ y q. elim (in_append k.before (subst (λ z. In y z) k.is (c.are.all y (back y q)))) [
          | inl a ↦ in_left k.after a
          | inr b ↦ elim (In-cases b) [ inl r ↦ absurd (not (subst Q r q)) | inr m ↦ in_right k.before m ]
        ];
        once = w.once;
      };
      is = omega arith;
    }

-- ---- the traversal
-- The edges out of each vertex in the order in which they are taken; F says of two vertices that the first is on the side
-- on which the traversal begins.
pub record IsOrdered (g : SidesValue) (order : ℕ → List ℕ) (F : ℕ → ℕ → Type 0) : Type 0 where
  pub are : (v : ℕ) → v < g.vertices → Lists (order v) (λ e. (e < edge_count g) × (edge_tail g e ≡ v))
  pub branch : (u v : ℕ) → u < g.vertices → v < g.vertices → F u v → (W : List ℕ) → Walk (primal g) g.source W u → Branch g order W v

-- An edge that waits, with those that wait after it: a walk leads to it, and what is beside it, later, waits after it.
pub record IsLed (g : SidesValue) (order : ℕ → List ℕ) (e : ℕ) (S : List ℕ) : Type 0 where
  pub way : List ℕ
  pub walk : Walk (primal g) g.source way (edge_tail g e)
  pub beside : (w b : ℕ) → In w way → Precedes w b (order (edge_tail g w)) → In b S
  pub after : (b : ℕ) → Precedes e b (order (edge_tail g e)) → In b S

abbrev pub AreLed : SidesValue → (ℕ → List ℕ) → List ℕ → Type 0
AreLed g order [] = Unit {0}
AreLed g order (e ∷ S) = IsLed g order e S × AreLed g order S

-- newest first, none is before an older one, nor on its side
abbrev pub IsNewestFirst : SidesValue → (ℕ → ℕ → Type 0) → List ℕ → Type 0
IsNewestFirst g F [] = Unit {0}
IsNewestFirst g F (v ∷ D) = ((x : ℕ) → In x D → Reaches (primal g) v x ⊎ F v x → ⊥) × IsNewestFirst g F D

-- each vertex has the number of those before it
abbrev pub AreNumbered : (ℕ → ℕ) → List ℕ → Type 0
AreNumbered h [] = Unit {0}
AreNumbered h (v ∷ D) = (h v ≡ length D) × AreNumbered h D

abbrev pub IsUntaken : SidesValue → List ℕ → List ℕ → ℕ → Type 0
IsUntaken g D S e = In e S ⊎ (In (edge_tail g e) D → ⊥)

abbrev pub IsUntakenTo : SidesValue → List ℕ → List ℕ → ℕ → ℕ → Type 0
IsUntakenTo g D S v e = (e < edge_count g) × (edge_head g e ≡ v) × IsUntaken g D S e

-- D are the vertices that have their numbers h, S the edges that wait, and w counts the edges into each vertex that aren't taken.
pub record IsTraversal (g : SidesValue) (order : ℕ → List ℕ) (F : ℕ → ℕ → Type 0) (D S : List ℕ) (w h : ℕ → ℕ) : Type 0 where
  pub once : NoRepeat D
  pub within : (x : ℕ) → In x D → x < g.vertices
  pub source : In g.source D
  pub waits : (e : ℕ) → In e S → (e < edge_count g) × In (edge_tail g e) D
  pub taken : (x e : ℕ) → In x D → e < edge_count g → edge_head g e ≡ x → In (edge_tail g e) D × (In e S → ⊥)
  pub waits_once : NoRepeat S
  pub led : AreLed g order S
  pub newest : IsNewestFirst g F D
  pub counts : (v : ℕ) → v < g.vertices → Counts (IsUntakenTo g D S v) (w v)
  pub none : (v : ℕ) → v < g.vertices → w v ≡ 0 → In v D
  pub numbers : AreNumbered h D

-- The numbers are below the number of vertices and keep the order.
pub record IsKept (g : SidesValue) (F : ℕ → ℕ → Type 0) (h : ℕ → ℕ) : Type 0 where
  pub below : (v : ℕ) → v < g.vertices → h v < g.vertices
  pub grows : (u v : ℕ) → u < g.vertices → v < g.vertices → u ≢ v → Reaches (primal g) u v ⊎ F u v → h u < h v

module _ {g : SidesValue} (S : IsSides g) {order : ℕ → List ℕ} {F : ℕ → ℕ → Type 0} (O : IsOrdered g order F) where
  -- the edges of a vertex, put before those that wait
  led_all : (v : ℕ) (T way : List ℕ) → Walk (primal g) g.source way v → ((w b : ℕ) → In w way → Precedes w b (order (edge_tail g w)) → In b T) →
      (rest : List ℕ) → NoRepeat rest → ((x : ℕ) → In x rest → edge_tail g x ≡ v) → ((x b : ℕ) → In x rest → Precedes x b (order v) → Precedes x b rest) → AreLed g order T → AreLed g order (rest ++ T)
  led_all v T way k beside [] once tails keeps led = led
  led_all v T way k beside (x ∷ xs) once tails keeps led = (
    record {
      way = way;
      walk = subst (λ z. Walk (primal g) g.source way z) (sym (tails x (here refl))) k;
      beside = λ w b i p. in_right xs (beside w b i p);
      after = λ b p. elim (keeps x b (here refl) (subst (λ z. Precedes x b (order z)) (tails x (here refl)) p)) [
        | inl h ↦ in_left T h.1
        | inr h ↦ in_left T (Precedes-right xs x b h)
      ];
    },
    led_all v T way k beside xs once.1 (λ y i. tails y (there i)) (λ y b i p. elim (keeps y b (there i) p) [
      | inl h ↦ absurd (once.0 (in_subst h.0 i))
      | inr h ↦ h
    ]) led,
  )

  pub start : (w h : ℕ → ℕ) → ((v : ℕ) → v < g.vertices → w v ≡ length (ins g v)) → h g.source ≡ 0 → IsTraversal g order F (g.source ∷ []) (order g.source) w h
  start w h ws hs =
      let os = O.are g.source S.source_in in
      record {
        once = ((λ i. not_in_nil i), tt);
        within = λ x i. elim (In-cases i) [ inl q ↦ subst (λ z. z < g.vertices) (sym q) S.source_in | inr j ↦ absurd (not_in_nil j) ];
        source = here refl;
        waits = λ e i. ((os.only e i).0, here (os.only e i).1);
        taken = λ x e i l q. elim (In-cases i) [ inl p ↦ absurd (S.source_first e l (q ∙ p)) | inr j ↦ absurd (not_in_nil j) ];
        waits_once = os.once;
        led = subst (AreLed g order) (append_nil (order g.source))
            (led_all g.source [] [] (stay refl) (λ w b i p. absurd (not_in_nil i)) (order g.source) os.once (λ x i. (os.only x i).1) (λ x b i p. p) tt);
        newest = ((λ x i k. not_in_nil i), tt);
        counts = λ v l.
            let is = S.ins_are v l in
            record {
              list = ins g v;
              are = record {
                only = λ e i. ((is.only e i).0, (is.only e i).1, untaken e (is.only e i).0);
                all = λ e p. is.all e (p.0, p.1);
                once = is.once;
              };
              is = sym (ws v l);
            };
        none = λ v l z. elim (cases_eq v g.source) [
          | inl q ↦ here q
          | inr n ↦
              let e = S.has_in v l n in
              absurd (Counts-zero (λ e. (e < edge_count g) × (edge_head g e ≡ v)) e.0 (record { list = ins g v; are = S.ins_are v l; is = sym (ws v l) ∙ z }) (e.1, e.2))
        ];
        numbers = (hs, tt);
      }
    where
      append_nil : (xs : List ℕ) → xs ++ [] ≡ xs
      append_nil [] = refl
      append_nil (x ∷ xs) = ap (λ z. x ∷ z) (append_nil xs)

      untaken : (e : ℕ) → e < edge_count g → IsUntaken g (g.source ∷ []) (order g.source) e
      untaken e l = elim (cases_eq (edge_tail g e) g.source) [
        | inl q ↦ inl ((O.are g.source S.source_in).all e (l, q))
        | inr n ↦ inr (λ i. elim (In-cases i) [ inl q ↦ n q | inr j ↦ not_in_nil j ])
      ]

  module _ {e : ℕ} {D T : List ℕ} {w h : ℕ → ℕ} (R : IsTraversal g order F D (e ∷ T) w h) where
    is_arc : e < edge_count g
    is_arc = (R.waits e (here refl)).0

    pub some : 1 ≤ w (edge_head g e)
    some = Counts-some (IsUntakenTo g D (e ∷ T) (edge_head g e)) (w (edge_head g e)) e (R.counts (edge_head g e) (S.head_in e is_arc)) (is_arc, refl, inl (here refl))

    not_done : In (edge_head g e) D → ⊥
    not_done i = (R.taken (edge_head g e) e i is_arc refl).1 (here refl)

    -- the edge is taken, and its head still has others to wait for
    pub pass : (w' : ℕ → ℕ) → w' (edge_head g e) + 1 ≡ w (edge_head g e) → 1 ≤ w' (edge_head g e) → ((v : ℕ) → v ≢ edge_head g e → w' v ≡ w v) → IsTraversal g order F D T w' h
    pass w' less positive others = record {
      once = R.once;
      within = R.within;
      source = R.source;
      waits = λ x i. R.waits x (there i);
      taken = λ x d i l q. ((R.taken x d i l q).0, (λ j. (R.taken x d i l q).1 (there j)));
      waits_once = R.waits_once.1;
      led = R.led.1;
      newest = R.newest;
      counts = λ v l. elim (cases_eq v (edge_head g e)) [
        | inl q ↦ subst (λ z. Counts (IsUntakenTo g D T z) (w' z)) (sym q)
            (Counts-less (IsUntakenTo g D (e ∷ T) (edge_head g e)) (IsUntakenTo g D T (edge_head g e)) (w' (edge_head g e)) e
            (subst (Counts (IsUntakenTo g D (e ∷ T) (edge_head g e))) (let r : w (edge_head g e) ≡ suc (w' (edge_head g e)) = omega arith in r) (R.counts (edge_head g e) (S.head_in e is_arc)))
            (is_arc, refl, inl (here refl))
            (λ y p. (p.0, p.1, back y p.2))
            (λ y p n. (p.0, p.1, on y n p.2))
            (λ p. elim p.2 [ inl i ↦ R.waits_once.0 i | inr n ↦ n (R.waits e (here refl)).1 ]))
        | inr n ↦ subst (Counts (IsUntakenTo g D T v)) (sym (others v n))
            (Counts-same (IsUntakenTo g D (e ∷ T) v) (IsUntakenTo g D T v) (w v)
            (λ y p. (p.0, p.1, on y (λ q. n (sym p.1 ∙ ap (edge_head g) q)) p.2))
            (λ y p. (p.0, p.1, back y p.2))
            (R.counts v l))
      ];
      none = λ v l z. elim (cases_eq v (edge_head g e)) [
        | inl q ↦ let r : w' (edge_head g e) ≡ 0 = ap w' (sym q) ∙ z in absurd (omega arith)
        | inr n ↦ R.none v l (sym (others v n) ∙ z)
      ];
      numbers = R.numbers;
    }
      where
        back : (y : ℕ) → IsUntaken g D T y → IsUntaken g D (e ∷ T) y
        back y (inl i) = inl (there i)
        back y (inr n) = inr n

        on : (y : ℕ) → y ≢ e → IsUntaken g D (e ∷ T) y → IsUntaken g D T y
        on y n (inl i) = elim (In-cases i) [ inl q ↦ absurd (n q) | inr j ↦ inl j ]
        on y n (inr m) = inr m

    -- where no other edge into its head is untaken, the head is next
    pub closed : (a x : ℕ) (W : List ℕ) → Walk (primal g) a W x → In x D → In a D
    closed a x [] (stay q) i = in_subst (sym q) i
    closed a x (d ∷ W) (step l q k) i = in_subst q (R.taken (edge_head g d) d (closed (edge_head g d) x W k i) l refl).0

    only_one : w (edge_head g e) ≡ 1 → (d : ℕ) → d < edge_count g → edge_head g d ≡ edge_head g e → IsUntaken g D (e ∷ T) d → d ≡ e
    only_one q d l p u = Counts-single (IsUntakenTo g D (e ∷ T) (edge_head g e)) d e
        (subst (Counts (IsUntakenTo g D (e ∷ T) (edge_head g e))) q (R.counts (edge_head g e) (S.head_in e is_arc))) (l, p, u) (is_arc, refl, inl (here refl))

    tail_done : w (edge_head g e) ≡ 1 → (d : ℕ) → d < edge_count g → edge_head g d ≡ edge_head g e → In (edge_tail g d) D
    tail_done q d l p = elim (in_dec (edge_tail g d) D) [
      | inl i ↦ i
      | inr n ↦ in_subst (ap (edge_tail g) (sym (only_one q d l p (inr n)))) (R.waits e (here refl)).1
    ]

    not_waiting : w (edge_head g e) ≡ 1 → (d : ℕ) → d < edge_count g → edge_head g d ≡ edge_head g e → In d T → ⊥
    not_waiting q d l p i = R.waits_once.0 (in_subst (only_one q d l p (inl (there i))) i)

    AreNumbered-keep : (h' : ℕ → ℕ) (v : ℕ) → ((x : ℕ) → x ≢ v → h' x ≡ h x) → (X : List ℕ) → (In v X → ⊥) → AreNumbered h X → AreNumbered h' X
    AreNumbered-keep h' v same [] n a = tt
    AreNumbered-keep h' v same (x ∷ X) n a = (same x (λ q. n (here (sym q))) ∙ a.0, AreNumbered-keep h' v same X (λ i. n (there i)) a.1)

    pub number : (w' h' : ℕ → ℕ) → w (edge_head g e) ≡ 1 → w' (edge_head g e) ≡ 0 → ((v : ℕ) → v ≢ edge_head g e → w' v ≡ w v) →
        h' (edge_head g e) ≡ length D → ((v : ℕ) → v ≢ edge_head g e → h' v ≡ h v) → IsTraversal g order F (edge_head g e ∷ D) (order (edge_head g e) ++ T) w' h'
    number w' h' one zeroed others hv hs = record {
      once = (not_done, R.once);
      within = λ x i. elim (In-cases i) [ inl q ↦ subst (λ z. z < g.vertices) (sym q) v_in | inr j ↦ R.within x j ];
      source = there R.source;
      waits = λ d i. elim (in_append (order v) i) [
        | inl a ↦ ((os.only d a).0, here (os.only d a).1)
        | inr b ↦ ((R.waits d (there b)).0, there (R.waits d (there b)).1)
      ];
      taken = λ x d i l q. elim (In-cases i) [
        | inl p ↦ let t = tail_done one d l (q ∙ p) in (
          there t,
          (λ j. elim (in_append (order v) j) [
            | inl a ↦ not_done (in_subst (os.only d a).1 t)
            | inr b ↦ not_waiting one d l (q ∙ p) b
          ]),
        )
        | inr k ↦ let t = R.taken x d k l q in (
          there t.0,
          (λ j. elim (in_append (order v) j) [
            | inl a ↦ not_done (in_subst (os.only d a).1 t.0)
            | inr b ↦ t.1 (there b)
          ]),
        )
      ];
      waits_once = joined_once (order v) T os.once R.waits_once.1 (λ d a b. not_done (in_subst (os.only d a).1 (R.waits d (there b)).1));
      led = led_all v T way walk beside (order v) os.once (λ x i. (os.only x i).1) (λ x b i p. p) R.led.1;
      newest = (
        (λ x i k. elim k [
          | inl r ↦ not_done (closed v x r.way r.walk i)
          | inr f ↦
              let B = O.branch v x v_in (R.within x i) f way walk in
              (R.taken (edge_head g B.branch) B.branch (closed (edge_head g B.branch) x B.leads.way B.leads.walk i) B.is_arc refl).1 (there (beside B.on_walk B.branch B.is_on B.later))
        ]),
        R.newest,
      );
      counts = λ u l. elim (cases_eq u v) [
        | inl q ↦ subst (λ z. Counts (IsUntakenTo g (v ∷ D) (order v ++ T) z) (w' z)) (sym q)
            (subst (Counts (IsUntakenTo g (v ∷ D) (order v ++ T) v)) (sym zeroed)
            (Counts-none (IsUntakenTo g (v ∷ D) (order v ++ T) v) (λ d p. none_to d p.0 p.1 p.2)))
        | inr n ↦ subst (Counts (IsUntakenTo g (v ∷ D) (order v ++ T) u)) (sym (others u n))
            (Counts-same (IsUntakenTo g D (e ∷ T) u) (IsUntakenTo g (v ∷ D) (order v ++ T) u) (w u)
            (λ d p. (p.0, p.1, on d p.0 (λ q. n (sym p.1 ∙ ap (edge_head g) q)) p.2))
            (λ d p. (p.0, p.1, back d p.2))
            (R.counts u l))
      ];
      none = λ u l z. elim (cases_eq u v) [ inl q ↦ here q | inr n ↦ there (R.none u l (sym (others u n) ∙ z)) ];
      numbers = (hv, AreNumbered-keep h' v hs D not_done R.numbers);
    }
      where
        v : ℕ
        v = edge_head g e

        v_in : edge_head g e < g.vertices
        v_in = S.head_in e is_arc

        os : Lists (order (edge_head g e)) (λ d. (d < edge_count g) × (edge_tail g d ≡ edge_head g e))
        os = O.are (edge_head g e) v_in

        way : List ℕ
        way = R.led.0.way ++ e ∷ []

        walk : Walk (primal g) g.source (R.led.0.way ++ e ∷ []) (edge_head g e)
        walk = walk_append R.led.0.walk (step is_arc refl (stay refl))

        beside : (d b : ℕ) → In d (R.led.0.way ++ e ∷ []) → Precedes d b (order (edge_tail g d)) → In b T
        beside d b i p = elim (in_append R.led.0.way i) [
          | inl a ↦ R.led.0.beside d b a p
          | inr a ↦ elim (In-cases a) [
            | inl q ↦ R.led.0.after b (subst (λ z. Precedes z b (order (edge_tail g z))) q p)
            | inr j ↦ absurd (not_in_nil j)
          ]
        ]

        none_to : (d : ℕ) → d < edge_count g → edge_head g d ≡ edge_head g e → IsUntaken g (edge_head g e ∷ D) (order (edge_head g e) ++ T) d → ⊥
        none_to d l q (inl i) = elim (in_append (order (edge_head g e)) i) [
          | inl a ↦ not_done (in_subst (os.only d a).1 (tail_done one d l q))
          | inr b ↦ not_waiting one d l q b
        ]
        none_to d l q (inr n) = n (there (tail_done one d l q))

        on : (d : ℕ) → d < edge_count g → d ≢ e → IsUntaken g D (e ∷ T) d → IsUntaken g (edge_head g e ∷ D) (order (edge_head g e) ++ T) d
        on d l n (inl i) = elim (In-cases i) [ inl q ↦ absurd (n q) | inr j ↦ inl (in_right (order (edge_head g e)) j) ]
        on d l n (inr m) = elim (cases_eq (edge_tail g d) (edge_head g e)) [
          | inl q ↦ inl (in_left T (os.all d (l, q)))
          | inr k ↦ inr (λ i. elim (In-cases i) [ inl q ↦ k q | inr j ↦ m j ])
        ]

        back : (d : ℕ) → IsUntaken g (edge_head g e ∷ D) (order (edge_head g e) ++ T) d → IsUntaken g D (e ∷ T) d
        back d (inl i) = elim (in_append (order (edge_head g e)) i) [
          | inl a ↦ inr (λ j. not_done (in_subst (os.only d a).1 j))
          | inr b ↦ inl (there b)
        ]
        back d (inr n) = inr (λ j. n (there j))

  -- ---- the end
  module _ {D : List ℕ} {w h : ℕ → ℕ} (R : IsTraversal g order F D [] w h) where
    all_done : (v : ℕ) → v < g.vertices → In v D
    all_done = down (primal g) g.vertices S.acyclic (record { from_in = S.tail_in; to_in = S.head_in }) (λ v. In v D) next
      where
        next : (v : ℕ) → v < g.vertices → ((e : ℕ) → e < edge_count g → edge_head g e ≡ v → In (edge_tail g e) D) → In v D
        next v l before = go (w v) refl
          where
            go : (n : ℕ) → w v ≡ n → In v D
            go zero q = R.none v l q
            go (suc n) q = absurd (some_untaken n (subst (Counts (IsUntakenTo g D [] v)) q (R.counts v l)))
              where
                some_untaken : (n : ℕ) → Counts (IsUntakenTo g D [] v) (suc n) → ⊥
                some_untaken n c = first c.list c.is (λ e i. c.are.only e i)
                  where
                    first : (xs : List ℕ) → length xs ≡ suc n → ((e : ℕ) → In e xs → IsUntakenTo g D [] v e) → ⊥
                    first [] q f = let z : 0 ≡ suc n = q in absurd (omega arith)
                    first (x ∷ xs) q f = let p = f x (here refl) in elim p.2 [ inl i ↦ not_in_nil i | inr m ↦ m (before x p.0 p.1) ]

    bounded : (X : List ℕ) → AreNumbered h X → (v : ℕ) → In v X → h v < length X
    bounded [] a v i = absurd (not_in_nil i)
    bounded (x ∷ X) a v i = elim (In-cases i) [
      | inl q ↦ let r : h v ≡ length X = ap h q ∙ a.0 in omega arith
      | inr j ↦ let r : h v < length X = bounded X a.1 v j in omega arith
    ]

    ordered : (X : List ℕ) → AreNumbered h X → IsNewestFirst g F X → (u v : ℕ) → In u X → In v X → u ≢ v → Reaches (primal g) u v ⊎ F u v → h u < h v
    ordered [] a f u v i j n k = absurd (not_in_nil i)
    ordered (x ∷ X) a f u v i j n k = elim (In-cases i) [
      | inl q ↦ elim (In-cases j) [
        | inl p ↦ absurd (n (q ∙ sym p))
        | inr m ↦ absurd (f.0 v m (subst (λ z. Reaches (primal g) z v ⊎ F z v) q k))
      ]
      | inr l ↦ elim (In-cases j) [
        | inl p ↦ let r : h v ≡ length X = ap h p ∙ a.0 in let s : h u < length X = bounded X a.1 u l in omega arith
        | inr m ↦ ordered X a.1 f.1 u v l m n k
      ]
    ]

    pub kept : IsKept g F h
    kept = record {
      below = λ v l.
          let a : h v < length D = bounded D R.numbers v (all_done v l) in
          let b : length D ≤ g.vertices = length-le_from_below g.vertices D R.once R.within in
          omega arith;
      grows = λ u v i j n k. ordered D R.numbers R.newest u v (all_done u i) (all_done v j) n k;
    }
