-- Paths that pass a vertex don't cross there exactly where they leave it in the order in which they come to it.
--   sorted_start, sorted_more   the passings by the first edges into a vertex
--   sorted_end, not_sorted      so paths are apart at the vertex, or cross there
--   apart_none, apart_less, apart_more   fewer paths, and one path more
--   sound_of                    paths that are disjoint and apart are sound
--   fault_at, fault_among       the first fault of all paths
use Rattle.std.proofs.Common.{ℕ, ℤ, zero, suc, List, Option, Some, None, [], ◌∷◌, ◌≡◌, ◌≢◌, ◌<◌, ◌≤◌, ◌+◌, inl, inr, refl, sym, ap, ◌∙◌, subst, arith, length, get_or}
use Rattle.std.specs.Option.{option_or}
use Rattle.std.specs.Prelude.{IfSome}
use Rattle.std.proofs.lemmas.Bool.{cases_eq, cases_lt}
use Rattle.st_ids.specs.Lists.{In, Precedes}
use Rattle.st_ids.proofs.Public.{Precedes-left, Precedes-right}
use Rattle.st_sides.specs.Sides.{SidesValue, IsSides, edge_count, edge_head, ins, outs}
use Rattle.st_sides.proofs.Public.{order_out, in_at, at_in}
use Rattle.draw_align.specs.declared.path_fault.PathFault.{PathFault}
use Rattle.draw_align.specs.declared.steps.Passage.{Passage}
use Rattle.draw_align.specs.Crossing.{IsRanked, rank_of, Follows, PassesAt, IsSorted}
use Rattle.draw_align.specs.Faults.{AreThere, AreDisjoint, AreApart, AreApartAt, IsFaultAt, IsFaultAmong, IsPathFault}
use Rattle.draw_align.specs.Listed.{path_at, CrossRightward, Cross, AreSound}
use Rattle.draw_align.specs.Steps.{PassesThrough}
use Rattle.draw_align.proofs.CrossLemmas.{rank_in, rank_out, one_pass, unique_head}
use Rattle.draw_align.proofs.StepLemmas.{one_path, as_first_fault}

-- ---- places of two elements
record Places (a b : ℕ) (xs : List ℕ) : Type 0 where
  pub first : ℕ
  pub second : ℕ
  pub in_order : first < second
  pub there : second < length xs
  pub first_is : get_or xs first 0 ≡ a
  pub second_is : get_or xs second 0 ≡ b

places : (xs : List ℕ) (a b : ℕ) → Precedes a b xs → Places a b xs
places [] a b h = absurd h
places (x ∷ xs) a b (inl h) =
    let at : (i : ℕ) × (i < length xs) × (get_or xs i 0 ≡ b) = at_in h.1 in
    let l : at.0 < length xs = at.1 in
    record { first = 0; second = suc at.0; in_order = omega arith; there = omega arith; first_is = sym h.0; second_is = at.2 }
places (x ∷ xs) a b (inr h) =
    let P = places xs a b h in
    let l : P.second < length xs = P.there in
    record { first = suc P.first; second = suc P.second; in_order = (let m : P.first < P.second = P.in_order in omega arith); there = omega arith; first_is = P.first_is; second_is = P.second_is }

by_places : (xs : List ℕ) (i j : ℕ) → i < j → j < length xs → Precedes (get_or xs i 0) (get_or xs j 0) xs
by_places [] i j l m = absurd (omega arith)
by_places (x ∷ xs) i zero l m = absurd (omega arith)
by_places (x ∷ xs) zero (suc j) l m = inl (refl, in_at (get_or xs j 0) xs j (omega arith) refl)
by_places (x ∷ xs) (suc i) (suc j) l m = inr (by_places xs i j (omega arith) (omega arith))

some_is : {a b : Passage} → Some a ≡ Some b → a ≡ b
some_is q = cc q

none_some : {a : Passage} → None ≡ Some a → ⊥
none_some q = cc q

-- ---- the passings at a vertex
module _ (g : SidesValue) (S : IsSides g) (c : List ℤ) (R : IsRanked g c) (ps : List (List ℕ)) (A : AreThere g ps) (n : ℕ) (within : n ≤ length ps) (D : AreDisjoint g ps n) (v : ℕ) where
  pub sorted_start : IsSorted g c ps n v 0 None
  sorted_start = record {
    there = tt;
    held = λ s q. absurd (none_some q);
    most = λ i q y l. absurd (omega arith);
    sorted = λ i j q r y z l m. absurd (omega arith);
  }

  module _ (k : ℕ) (last : Option Passage) (B : IsSorted g c ps n v k last) where
    -- the first k edges as before, and the next
    nothing_more : ((q y : ℕ) → q < n → PassesThrough g ps q (get_or (ins g v) k 0) y → ⊥) → IsSorted g c ps n v (k + 1) last
    nothing_more none = record {
      there = B.there;
      held = λ s q. (let P = B.held s q in record { place = P.place; there = (let l : P.place < k = P.there in omega arith); before = P.before; passes = P.passes });
      most = λ i q y l m P. elim (cases_eq i k) [
        | inl e ↦ absurd (none q y m (subst (λ z. PassesThrough g ps q (get_or (ins g v) z 0) y) e P))
        | inr d ↦ B.most i q y (omega arith) m P
      ];
      sorted = λ i j q r y z l m ql rl P Q. elim (cases_eq j k) [
        | inl e ↦ absurd (none r z rl (subst (λ w. PassesThrough g ps r (get_or (ins g v) w 0) z) e Q))
        | inr d ↦ B.sorted i j q r y z l (omega arith) ql rl P Q
      ];
    }

    one_more : (s : Passage) → s.next.0 < edge_count g → s.path < n → PassesThrough g ps s.path (get_or (ins g v) k 0) s.next.0 → Follows g c last (Some s) → IsSorted g c ps n v (k + 1) (Some s)
    one_more s a l P F = record {
      there = a;
      held = λ t q. subst (PassesAt g ps n v (k + 1)) (some_is q) (record { place = k; there = omega arith; before = l; passes = P });
      most = λ i q y il ql Q. (
        s,
        refl,
        elim (cases_eq i k) [
          | inl e ↦ (let r : rank_of g c y ≡ rank_of g c s.next.0 = ap (rank_of g c) (on_k q y ql (subst (λ z. PassesThrough g ps q (get_or (ins g v) z 0) y) e Q)) in omega arith)
          | inr d ↦ (let r : rank_of g c y < rank_of g c s.next.0 = below i q y (omega arith) ql Q in omega arith)
        ],
      );
      sorted = λ i j q r y z il jl ql rl Q Q'. elim (cases_eq j k) [
        | inl e ↦
            let w : rank_of g c z ≡ rank_of g c s.next.0 = ap (rank_of g c) (on_k r z rl (subst (λ u. PassesThrough g ps r (get_or (ins g v) u 0) z) e Q')) in
            let b : rank_of g c y < rank_of g c s.next.0 = below i q y (omega arith) ql Q in
            omega arith
        | inr d ↦ B.sorted i j q r y z il (omega arith) ql rl Q Q'
      ];
    }
      where
        on_k : (q y : ℕ) → q < n → PassesThrough g ps q (get_or (ins g v) k 0) y → y ≡ s.next.0
        on_k q y ql Q = (one_pass g S c R ps A n within D q s.path (get_or (ins g v) k 0) y s.next.0 ql l Q P).1

        below : (i q y : ℕ) → i < k → q < n → PassesThrough g ps q (get_or (ins g v) i 0) y → rank_of g c y < rank_of g c s.next.0
        below i q y il ql Q =
            let M = B.most i q y il ql Q in
            let f : rank_of g c M.0.next.0 < rank_of g c s.next.0 = subst (λ z. Follows g c z (Some s)) M.1 F in
            let m : rank_of g c y ≤ rank_of g c M.0.next.0 = M.2 in
            omega arith

    pub sorted_more : (x : ℕ) → get_or (ins g v) k 0 ≡ x → (found : Option Passage) → IfSome found (λ s. (s.path < n) × PassesThrough g ps s.path x s.next.0) → IfSome found (λ s. s.next.0 < edge_count g)
        → (found ≡ None → (q y : ℕ) → q < n → PassesThrough g ps q x y → ⊥) → Follows g c last found → IsSorted g c ps n v (k + 1) (option_or found last)
    sorted_more x e None some there none F = nothing_more (λ q y l P. none refl q y l (subst (λ z. PassesThrough g ps q z y) e P))
    sorted_more x e (Some s) some there none F = one_more s there some.0 (subst (λ z. PassesThrough g ps s.path z s.next.0) (sym e) some.1) F

    pub sorted_end : v < g.vertices → length (ins g v) ≤ k → AreApartAt g ps n v
    sorted_end lv full p q l m C = elim C [
      | inl K ↦ go p q l (omega arith) K
      | inr K ↦ go q p (omega arith) l K
    ]
      where
        go : (p q : ℕ) → p < n → q < n → CrossRightward g (path_at ps p) (path_at ps q) v → ⊥
        go p q l m K =
            let I = places (ins g v) K.x K.x' K.in_order in
            let at : I.second < length (ins g v) = I.there in
            let hx = ((S.ins_are v lv).only K.x (Precedes-left (ins g v) K.x K.x' K.in_order)).1 in
            let hx' = ((S.ins_are v lv).only K.x' (Precedes-right (ins g v) K.x K.x' K.in_order)).1 in
            let ty = ((S.outs_are v lv).only K.y (Precedes-right (outs g v) K.y' K.y K.out_order)).1 in
            let ty' = ((S.outs_are v lv).only K.y' (Precedes-left (outs g v) K.y' K.y K.out_order)).1 in
            let P : PassesThrough g ps p K.x K.y = record { x_on = K.x_on; y_on = K.y_on; joined = ty ∙ sym hx } in
            let Q : PassesThrough g ps q K.x' K.y' = record { x_on = K.x'_on; y_on = K.y'_on; joined = ty' ∙ sym hx' } in
            let up : rank_of g c K.y < rank_of g c K.y' = B.sorted I.first I.second p q K.y K.y' I.in_order (omega arith) l m (subst (λ z. PassesThrough g ps p z K.y) (sym I.first_is) P) (subst (λ z. PassesThrough g ps q z K.y') (sym I.second_is) Q) in
            let down : rank_of g c K.y' < rank_of g c K.y = rank_out g S c R v K.y' K.y lv K.out_order in
            omega arith

    -- two passings that leave in the other order cross
    crosses : v < g.vertices → k < length (ins g v) → (a b : Passage) → last ≡ Some a → b.path < n → PassesThrough g ps b.path (get_or (ins g v) k 0) b.next.0 → (rank_of g c a.next.0 < rank_of g c b.next.0 → ⊥) → (a.path ≢ b.path) × CrossRightward g (path_at ps a.path) (path_at ps b.path) v
    crosses lv kl a b la bn Q other = (apart, K)
      where
        H : PassesAt g ps n v k a
        H = B.held a la

        x : ℕ
        x = get_or (ins g v) H.place 0

        x' : ℕ
        x' = get_or (ins g v) k 0

        order : Precedes x x' (ins g v)
        order = by_places (ins g v) H.place k H.there kl

        x_at : (x < edge_count g) × (edge_head g x ≡ v)
        x_at = (S.ins_are v lv).only x (Precedes-left (ins g v) x x' order)

        x'_at : (x' < edge_count g) × (edge_head g x' ≡ v)
        x'_at = (S.ins_are v lv).only x' (Precedes-right (ins g v) x x' order)

        there : (p e : ℕ) → p < n → In e (path_at ps p) → e < edge_count g
        there p e l i = A p e (omega arith) i

        apart : a.path ≢ b.path
        apart q =
            let same : x ≡ x' = unique_head S.acyclic (D b.path bn).0.walk (λ e i. there b.path e bn i) x x' (subst (λ z. In x (path_at ps z)) q H.passes.x_on) Q.x_on (x_at.1 ∙ sym x'_at.1) in
            let less : rank_of g c x < rank_of g c x' = rank_in g S c R v x x' lv order in
            let r : rank_of g c x ≡ rank_of g c x' = ap (rank_of g c) same in
            omega arith

        out : Precedes b.next.0 a.next.0 (outs g v)
        out = elim (order_out g S v b.next.0 a.next.0 lv (there b.path b.next.0 bn Q.y_on) (there a.path a.next.0 H.before H.passes.y_on) (Q.joined ∙ x'_at.1) (H.passes.joined ∙ x_at.1)) [
          | inl q ↦ absurd (apart (one_path g ps n D a.path b.path b.next.0 H.before bn (subst (λ z. In z (path_at ps a.path)) (sym q) H.passes.y_on) Q.y_on))
          | inr m ↦ elim m [
            | inl o ↦ o
            | inr o ↦ absurd (other (rank_out g S c R v a.next.0 b.next.0 lv o))
          ]
        ]

        K : CrossRightward g (path_at ps a.path) (path_at ps b.path) v
        K = record { x = x; y = a.next.0; x' = x'; y' = b.next.0; x_on = H.passes.x_on; y_on = H.passes.y_on; x'_on = Q.x_on; y'_on = Q.y_on; in_order = order; out_order = out }

    cross_apart : v < g.vertices → k < length (ins g v) → (a b : Passage) → last ≡ Some a → b.path < n → PassesThrough g ps b.path (get_or (ins g v) k 0) b.next.0 → (rank_of g c a.next.0 < rank_of g c b.next.0 → ⊥) → AreApartAt g ps n v → ⊥
    cross_apart lv kl a b la bn Q other apart =
        let C = crosses lv kl a b la bn Q other in
        let an : a.path < n = (B.held a la).before in
        elim (cases_lt a.path b.path) [
          | inl l ↦ apart b.path a.path bn l (inr C.1)
          | inr l ↦ elim (cases_eq a.path b.path) [ inl q ↦ C.0 q | inr d ↦ apart a.path b.path an (omega arith) (inl C.1) ]
        ]

  pub not_sorted : (k : ℕ) (last : Option Passage) → IsSorted g c ps n v k last → v < g.vertices → k < length (ins g v) → (x : ℕ) → get_or (ins g v) k 0 ≡ x → (found : Option Passage)
      → IfSome found (λ s. (s.path < n) × PassesThrough g ps s.path x s.next.0) → (Follows g c last found → ⊥) → AreApartAt g ps n v → ⊥
  not_sorted k None B lv kl x e found some other apart = other tt
  not_sorted k (Some a) B lv kl x e None some other apart = other tt
  not_sorted k (Some a) B lv kl x e (Some b) some other apart = cross_apart k (Some a) B lv kl a b refl some.0 (subst (λ z. PassesThrough g ps b.path z b.next.0) (sym e) some.1) other apart

-- ---- how many paths are apart
module _ (g : SidesValue) (ps : List (List ℕ)) where
  pub apart_none : AreApart g ps 0
  apart_none v lv p q l = absurd (omega arith)

  pub apart_less : (m n : ℕ) → m ≤ n → AreApart g ps n → AreApart g ps m
  apart_less m n l A v lv p q a b = A v lv p q (omega arith) b

  pub apart_more : (n : ℕ) → AreApart g ps n → ((q v : ℕ) → q < n → v < g.vertices → Cross g (path_at ps n) (path_at ps q) v → ⊥) → AreApart g ps (n + 1)
  apart_more n A none v lv p q a b C = elim (cases_eq p n) [
    | inl e ↦ none q v (omega arith) lv (subst (λ z. Cross g (path_at ps z) (path_at ps q) v) e C)
    | inr d ↦ A v lv p q (omega arith) b C
  ]

  pub sound_of : (n : ℕ) → AreDisjoint g ps n → AreApart g ps n → AreSound g ps n
  sound_of n D A p l = record { is_path = (D p l).0; unshared = (D p l).1; uncrossed = λ q v m lv C. A v lv p q l m C }

  -- the fault after the first n paths where these are apart, and a fault among them
  pub fault_at : (n : ℕ) (f : PathFault) → AreDisjoint g ps n → AreApart g ps n → IsFaultAt g ps n f → IsPathFault g ps f
  fault_at n f D A F = as_first_fault g ps n f F.0 (sound_of n D A) F.1

  pub fault_among : (n : ℕ) (f : PathFault) → n ≤ length ps → AreDisjoint g ps n → IsFaultAmong g ps n f → IsPathFault g ps f
  fault_among n f w D F = (let l : F.path < n = F.there in as_first_fault g ps F.path f (omega arith) (sound_of F.path (λ p m. D p (omega arith)) F.before) F.fault)
