-- The constrained picture is one, since all paths, their columns and the heights are.
--   one_home, one_count   the path of each edge, and how many paths there are
--   one_picture           two pictures are the same
--   picture_law           and sound paths have one
use Rattle.std.proofs.Common.{ℕ, zero, suc, List, ◌≡◌, ◌<◌, ◌≤◌, ◌+◌, ◌-◌, inl, inr, refl, sym, ap, ◌∙◌, subst, arith, cond, nat_lt, length}
use Rattle.std.proofs.lemmas.Bool.{cases_eq, cases_lt, le-ltb}
use Rattle.st_ids.specs.Lists.{In, here}
use Rattle.st_ids.specs.Walks.{Walk, stay, step}
use Rattle.st_ids.proofs.Public.{walk_from}
use Rattle.st_ids.specs.declared.names.Names.{Names}
use Rattle.st_shape.specs.declared.picture.Form.TheVariants.{Constrained}
use Rattle.st_shape.specs.Rules.{Drawing}
use Rattle.st_sides.specs.Sides.{SidesValue, IsSides, edge_count, face_left, face_right}
use Rattle.st_number.specs.Greatest.{weigh, IsGreatest}
use Rattle.st_number.proofs.Public.{numbers_law}
use Rattle.st_picture.proofs.Public.{bars_same}
use Rattle.draw_align.specs.Alignment.{Paths, path_count, path_of, AreCompleted, node_of_path, alignment, alignment_weight}
use Rattle.draw_align.specs.Constrained.{IsConstrained, path_column}
use Rattle.draw_align.specs.Faults.{AreThere}
use Rattle.draw_align.specs.Laws.{OnePictureLaw}
use Rattle.draw_align.specs.Listed.{path_at}
use Rattle.draw_align.proofs.SomeLemmas.{some_picture}

-- the edge that has a path of its own
record Owner (g : SidesValue) (P : Paths) (p : ℕ) : Type 0 where
  pub edge : ℕ
  pub there : edge < edge_count g
  pub has : path_of P edge ≡ p

module _ (g : SidesValue) (ps : List (List ℕ)) where
  owner : (P : Paths) → AreCompleted g ps P → (p : ℕ) → length ps ≤ p → p < path_count P → Owner g P p
  owner P A p l m =
      let h = A.alone p l m in
      record { edge = h.0; there = h.1; has = A.only_home p h.0 m (subst (λ z. In h.0 z) (sym h.2) (here refl)) }

  module _ (P Q : Paths) (A : AreCompleted g ps P) (B : AreCompleted g ps Q) where
    -- an edge on a listed path is on that path
    listed_home : (e : ℕ) → e < edge_count g → path_of P e < length ps → path_of Q e ≡ path_of P e
    listed_home e a l =
        let i : In e (path_at ps (path_of P e)) = subst (λ z. In e z) (A.listed (path_of P e) l) (A.home e a) in
        let size : length ps ≤ path_count Q = B.size in
        B.only_home (path_of P e) e (omega arith) (subst (λ z. In e z) (sym (B.listed (path_of P e) l)) i)

    -- an edge doesn't have a path of its own that is before its path among others
    no_earlier : (e : ℕ) → e < edge_count g → length ps ≤ path_of P e → path_of P e < path_of Q e → ((d : ℕ) → d < e → d < edge_count g → path_of P d ≡ path_of Q d) → ⊥
    no_earlier e a h m same =
        let in_q : path_of Q e < path_count Q = B.home_in e a in
        let o = owner Q B (path_of P e) h (omega arith) in
        let has : path_of Q o.edge ≡ path_of P e = o.has in
        elim (cases_lt o.edge e) [
          | inl s ↦
              let q : path_of P o.edge ≡ path_of Q o.edge = same o.edge s o.there in
              let k : path_of P o.edge < path_of P e = A.in_order o.edge e s a (omega arith) h in
              omega arith
          | inr s ↦ elim (cases_eq o.edge e) [
            | inl q ↦ (let k : path_of Q o.edge ≡ path_of Q e = ap (path_of Q) q in omega arith)
            | inr d ↦ (let k : path_of Q e < path_of Q o.edge = B.in_order e o.edge (omega arith) o.there (omega arith) (omega arith) in omega arith)
          ]
        ]

  module _ (P Q : Paths) (A : AreCompleted g ps P) (B : AreCompleted g ps Q) where
    home_below : (n e : ℕ) → e < n → e < edge_count g → path_of P e ≡ path_of Q e
    home_below zero e l a = absurd (omega arith)
    home_below (suc n) e l a = elim (cases_lt (path_of P e) (length ps)) [
      | inl h ↦ sym (listed_home P Q A B e a h)
      | inr h ↦ elim (cases_lt (path_of Q e) (length ps)) [
        | inl k ↦ listed_home Q P B A e a k
        | inr k ↦ elim (cases_eq (path_of P e) (path_of Q e)) [
          | inl q ↦ q
          | inr d ↦ elim (cases_lt (path_of P e) (path_of Q e)) [
            | inl m ↦ absurd (no_earlier P Q A B e a h m (λ d s t. home_below n d (omega arith) t))
            | inr m ↦ absurd (no_earlier Q P B A e a k (omega arith) (λ d s t. sym (home_below n d (omega arith) t)))
          ]
        ]
      ]
    ]

    pub one_home : (e : ℕ) → e < edge_count g → path_of P e ≡ path_of Q e
    one_home e a = home_below (suc e) e (omega arith) a

    no_more : path_count P < path_count Q → ⊥
    no_more l =
        let o = owner Q B (path_count P) A.size l in
        let q : path_of P o.edge ≡ path_of Q o.edge = one_home o.edge o.there in
        let r : path_of Q o.edge ≡ path_count P = o.has in
        let k : path_of P o.edge < path_count P = A.home_in o.edge o.there in
        omega arith

  pub one_count : (P Q : Paths) → AreCompleted g ps P → AreCompleted g ps Q → path_count P ≡ path_count Q
  one_count P Q A B = elim (cases_eq (path_count P) (path_count Q)) [
    | inl q ↦ q
    | inr d ↦ elim (cases_lt (path_count P) (path_count Q)) [
      | inl l ↦ absurd (no_more P Q A B l)
      | inr l ↦ absurd (no_more Q P B A (omega arith))
    ]
  ]

-- ---- the columns
module _ (g : SidesValue) (P Q : Paths) (same : (e : ℕ) → e < edge_count g → path_of P e ≡ path_of Q e) where
  from_same : (a : ℕ) → a < edge_count g + edge_count g → (alignment g P).from a ≡ (alignment g Q).from a
  from_same a l = ap (λ z. cond (nat_lt a (edge_count g)) (face_left g a) (node_of_path g z)) (same (a - edge_count g) (omega arith))

  to_same : (a : ℕ) → a < edge_count g + edge_count g → (alignment g P).to a ≡ (alignment g Q).to a
  to_same a l = elim (cases_lt a (edge_count g)) [
    | inl m ↦ ap (λ z. cond (nat_lt a (edge_count g)) (node_of_path g z) (face_right g (a - edge_count g))) (same a m)
    | inr m ↦ subst (λ c. cond c (node_of_path g (path_of P a)) (face_right g (a - edge_count g)) ≡ cond c (node_of_path g (path_of Q a)) (face_right g (a - edge_count g))) (sym (le-ltb a (edge_count g) m)) refl
  ]

  walk_same : {u v : ℕ} {es : List ℕ} → Walk (alignment g P) u es v → Walk (alignment g Q) u es v
  walk_same (stay q) = stay q
  walk_same (step {e = a} l t r) = step l (sym (from_same a l) ∙ t) (walk_from (to_same a l) (walk_same r))

  pub no_greater : (f m n : ℕ) → IsGreatest (alignment g P) (alignment_weight g) 0 f m → IsGreatest (alignment g Q) (alignment_weight g) 0 f n → m ≤ n
  no_greater f m n G H =
      let h : weigh (alignment_weight g) G.way ≤ n = H.most G.way (walk_same G.walk) in
      let q : weigh (alignment_weight g) G.way ≡ m = G.weighs in
      omega arith

pub one_picture : (g : SidesValue) → IsSides g → (ps : List (List ℕ)) (w : ℕ → ℕ) (N : Names) (d d' : Drawing) → IsConstrained g w ps N d → IsConstrained g w ps N d' → d ≡ d'
one_picture g S ps w N d d' C D =
    let P = C.paths in
    let Q = D.paths in
    let homes : (e : ℕ) → e < edge_count g → path_of P e ≡ path_of Q e = one_home g ps P Q C.completed D.completed in
    let back : (e : ℕ) → e < edge_count g → path_of Q e ≡ path_of P e = λ e a. sym (homes e a) in
    let count : path_count P ≡ path_count Q = one_count g ps P Q C.completed D.completed in
    let heights : (v : ℕ) → v < g.vertices → C.y v ≡ D.y v = (numbers_law g S).same_heights w C.y D.y C.heights D.heights in
    let columns : (f : ℕ) → f < g.t_star + 1 + path_count P → C.x f ≡ D.x f = λ f l.
    let G = C.columns f l in
    let H = D.columns f (omega arith) in
    let a : C.x f ≤ D.x f = no_greater g P Q homes f (C.x f) (D.x f) G H in
    let b : D.x f ≤ C.x f = no_greater g Q P back f (D.x f) (C.x f) H G in
    omega arith in
    C.is
    ∙ bars_same g S N Constrained C.y C.x (path_column g P C.x) D.y D.x (path_column g Q D.x) heights (λ f l. columns f (omega arith))
    (λ e a. (let m : path_of P e < path_count P = C.completed.home_in e a in columns (node_of_path g (path_of P e)) (omega arith)) ∙ ap (λ z. D.x (node_of_path g z)) (homes e a))
    ∙ sym D.is

pub picture_law : (g : SidesValue) → IsSides g → (ps : List (List ℕ)) → AreThere g ps → OnePictureLaw g ps
picture_law g S ps A = record { some = some_picture g ps A S; one = one_picture g S ps }
