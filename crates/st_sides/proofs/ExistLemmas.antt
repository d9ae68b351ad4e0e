-- Sides as lists.
use Rattle.std.proofs.Common.{◌≡◌, ℕ, suc, ◌<◌, Bool, true, cond, eqb, ◌||◌, List, [], map, get_or, refl, sym, ap, ◌∙◌, subst, arith}
use Rattle.std.specs.List.{range_with_len}
use Rattle.std.proofs.lemmas.List.FromFn.{get_or-map-range_with_len}
use Rattle.std.proofs.lemmas.Bool.{eq-eqb, ne_eqb, or_left, or_right, or_from, cond-true, cond-false}
use Rattle.st_map.specs.Embedded.{Embedded, faces}
use Rattle.st_map.specs.Embedded.{edges as edges_of}
use Rattle.st_sides.specs.Conditions.{AreSides, AreOuts, AreIns, IsSidePath, left_face, right_face}
use Rattle.st_sides.specs.LocalSides.{first, last}
use Rattle.st_sides.proofs.SideLemmas.{sides_exist}
use Rattle.st_sides.specs.Sides.{face_left, face_right, outs, ins, low, high, left_path, right_path, left_of, right_of}
use Rattle.st_sides.specs.SidesOf.{ExistLaw}

-- a function on the numbers below n as a list
abbrev tabulate : {A : Type 0} → ℕ → (ℕ → A) → List A
tabulate n h = map h (range_with_len 0 n)

tabulate-at : {A : Type 0} (n : ℕ) (h : ℕ → A) (i : ℕ) (d : A) → i < n → get_or (tabulate n h) i d ≡ h i
tabulate-at n h i d l = get_or-map-range_with_len h 0 n i i d l (omega arith)

side_path : (g : Embedded) (P : ℕ → Type 0) (a b c d : ℕ) (es fs : List ℕ) → a ≡ c → b ≡ d → es ≡ fs → IsSidePath g P c d fs → IsSidePath g P a b es
side_path g P a b c d es fs p q r h =
    subst (λ z. IsSidePath g P z b es) (sym p) (subst (λ z. IsSidePath g P c z es) (sym q) (subst (λ z. IsSidePath g P c d z) (sym r) h))

pub exist_law : ExistLaw
unfolding face_left face_right outs ins low high left_path right_path left_of right_of
exist_law g s t outer st =
    let w : (outs : ℕ → List ℕ) × (ins : ℕ → List ℕ) × (low : ℕ → ℕ) × (high : ℕ → ℕ) × (left : ℕ → List ℕ) × (right : ℕ → List ℕ)
    × AreSides g s t outer outs ins low high left right = sides_exist g s t outer st in
    let n : ℕ = suc (faces g) in
    let pole : ℕ → Bool = λ v. eqb v s || eqb v t in
    let is_s : pole s ≡ true = or_left (eqb s s) (eqb s t) (eq-eqb s s refl) in
    let is_t : pole t ≡ true = or_right (eqb t s) (eqb t t) (eq-eqb t t refl) in
    let lv : ℕ → ℕ = λ v. cond (pole v) 0 (left_face g outer (first (w.0 v))) in
    let rv : ℕ → ℕ = λ v. cond (pole v) (faces g) (right_face g outer (last (w.0 v))) in (
      record {
        vertices = g.vertices;
        ends = g.ends;
        source = s;
        sink = t;
        t_star = faces g;
        lefts_of_edges = tabulate (edges_of g) (left_face g outer);
        rights_of_edges = tabulate (edges_of g) (right_face g outer);
        out_lists = tabulate g.vertices w.0;
        in_lists = tabulate g.vertices w.1;
        lows = tabulate n w.2;
        highs = tabulate n w.3;
        left_paths = tabulate n w.4;
        right_paths = tabulate n w.5;
        lefts_of_vertices = tabulate g.vertices lv;
        rights_of_vertices = tabulate g.vertices rv;
      },
      record {
        vertices = refl;
        ends = refl;
        source = refl;
        sink = refl;
        nodes = refl;
        left_of_edge = λ e l. tabulate-at (edges_of g) (left_face g outer) e 0 l;
        right_of_edge = λ e l. tabulate-at (edges_of g) (right_face g outer) e 0 l;
        are = record {
          outs_are = λ v l. subst (λ es. AreOuts g s outer v es) (sym (tabulate-at g.vertices w.0 v [] l)) (w.6.outs_are v l);
          ins_are = λ v l. subst (λ es. AreIns g t outer v es) (sym (tabulate-at g.vertices w.1 v [] l)) (w.6.ins_are v l);
          left_is = λ f p l. side_path g (λ e. right_face g outer e ≡ f) (get_or (tabulate n w.2) f 0) (get_or (tabulate n w.3) f 0) (w.2 f) (w.3 f) (get_or (tabulate n w.4) f []) (w.4 f)
              (tabulate-at n w.2 f 0 (omega arith)) (tabulate-at n w.3 f 0 (omega arith)) (tabulate-at n w.4 f [] (omega arith)) (w.6.left_is f p l);
          right_is = λ f l. side_path g (λ e. left_face g outer e ≡ f) (get_or (tabulate n w.2) f 0) (get_or (tabulate n w.3) f 0) (w.2 f) (w.3 f) (get_or (tabulate n w.5) f []) (w.5 f)
              (tabulate-at n w.2 f 0 (omega arith)) (tabulate-at n w.3 f 0 (omega arith)) (tabulate-at n w.5 f [] (omega arith)) (w.6.right_is f l);
          left_none = tabulate-at n w.4 0 [] (omega arith) ∙ w.6.left_none;
          right_none = tabulate-at n w.5 (faces g) [] (omega arith) ∙ w.6.right_none;
          low_first = tabulate-at n w.2 0 0 (omega arith) ∙ w.6.low_first;
          high_first = tabulate-at n w.3 0 0 (omega arith) ∙ w.6.high_first;
          low_last = tabulate-at n w.2 (faces g) 0 (omega arith) ∙ w.6.low_last;
          high_last = tabulate-at n w.3 (faces g) 0 (omega arith) ∙ w.6.high_last;
        };
        left_of_inner = λ v l ns nt. tabulate-at g.vertices lv v 0 l
            ∙ cond-false (pole v) 0 (left_face g outer (first (w.0 v))) (or_from (eqb v s) (eqb v t) (ne_eqb v s ns) (ne_eqb v t nt))
            ∙ ap (λ es. left_face g outer (first es)) (sym (tabulate-at g.vertices w.0 v [] l));
        right_of_inner = λ v l ns nt. tabulate-at g.vertices rv v 0 l
            ∙ cond-false (pole v) (faces g) (right_face g outer (last (w.0 v))) (or_from (eqb v s) (eqb v t) (ne_eqb v s ns) (ne_eqb v t nt))
            ∙ ap (λ es. right_face g outer (last es)) (sym (tabulate-at g.vertices w.0 v [] l));
        left_of_s = tabulate-at g.vertices lv s 0 st.source.there ∙ cond-true (pole s) 0 (left_face g outer (first (w.0 s))) is_s;
        left_of_t = tabulate-at g.vertices lv t 0 st.sink.there ∙ cond-true (pole t) 0 (left_face g outer (first (w.0 t))) is_t;
        right_of_s = tabulate-at g.vertices rv s 0 st.source.there ∙ cond-true (pole s) (faces g) (right_face g outer (last (w.0 s))) is_s;
        right_of_t = tabulate-at g.vertices rv t 0 st.sink.there ∙ cond-true (pole t) (faces g) (right_face g outer (last (w.0 t))) is_t;
      },
    )
