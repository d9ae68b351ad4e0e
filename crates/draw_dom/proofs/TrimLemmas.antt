-- A planar st-graph has sides whose lists have an entry for each vertex, edge and node.
--   trimmed    the lists of any sides, read on the vertices, edges and nodes that there are
--   held       they are the sides, and have an entry for each
use Rattle.std.proofs.Common.{◌≡◌, ℕ, suc, ◌+◌, ◌<◌, ◌^◌, List, [], map, length, get_or, sym, ap, ◌∙◌, subst, arith}
use Rattle.std.specs.List.{range_with_len}
use Rattle.std.proofs.lemmas.List.FromFn.{get_or-map-range_with_len, length-map-range_with_len}
use Rattle.st_map.specs.Embedded.{Embedded, faces}
use Rattle.st_map.specs.Embedded.{edges as edges_of}
use Rattle.st_sides.specs.Conditions.{AreOuts, AreIns, IsSidePath, left_face, right_face}
use Rattle.st_sides.specs.Held.{HasSizes}
use Rattle.st_sides.specs.LocalSides.{first, last}
use Rattle.st_sides.specs.Sides.{SidesValue, face_left, face_right, outs, ins, low, high, left_path, right_path, left_of, right_of}
use Rattle.st_sides.specs.SidesOf.{IsSidesOf}
use Rattle.st_test.specs.Planar.{IsPlanarSt}

-- a function on the numbers below n as a list
abbrev tabulate : {A : Type 0} → ℕ → (ℕ → A) → List A
tabulate n h = map h (range_with_len 0 n)

tabulate-at : {A : Type 0} (n : ℕ) (h : ℕ → A) (i : ℕ) (d : A) → i < n → get_or (tabulate n h) i d ≡ h i
tabulate-at n h i d l = get_or-map-range_with_len h 0 n i i d l (omega arith)

side_path : (g : Embedded) (P : ℕ → Type 0) (a b c d : ℕ) (es fs : List ℕ) → a ≡ c → b ≡ d → es ≡ fs → IsSidePath g P c d fs → IsSidePath g P a b es
side_path g P a b c d es fs p q r h =
    subst (λ z. IsSidePath g P z b es) (sym p) (subst (λ z. IsSidePath g P c z es) (sym q) (subst (λ z. IsSidePath g P c d z) (sym r) h))

-- the lists read on the n vertices, m edges and nodes
abbrev trimmed : SidesValue → ℕ → ℕ → SidesValue
trimmed x m k = record {
  vertices = x.vertices;
  ends = x.ends;
  source = x.source;
  sink = x.sink;
  t_star = x.t_star;
  lefts_of_edges = tabulate m (face_left x);
  rights_of_edges = tabulate m (face_right x);
  out_lists = tabulate x.vertices (outs x);
  in_lists = tabulate x.vertices (ins x);
  lows = tabulate k (low x);
  highs = tabulate k (high x);
  left_paths = tabulate k (left_path x);
  right_paths = tabulate k (right_path x);
  lefts_of_vertices = tabulate x.vertices (left_of x);
  rights_of_vertices = tabulate x.vertices (right_of x);
}

trimmed_of : (g : Embedded) (s t outer : ℕ) (x : SidesValue) → IsPlanarSt g s t outer → IsSidesOf g s t outer x → IsSidesOf g s t outer (trimmed x (edges_of g) (suc (faces g)))
unfolding face_left face_right outs ins low high left_path right_path left_of right_of
trimmed_of g s t outer x st of =
    let n : ℕ = suc (faces g) in
    let v_in : (v : ℕ) → v < g.vertices → v < x.vertices = λ v l. (let q : x.vertices ≡ g.vertices = of.vertices in omega arith) in
    record {
      vertices = of.vertices;
      ends = of.ends;
      source = of.source;
      sink = of.sink;
      nodes = of.nodes;
      left_of_edge = λ e l. tabulate-at (edges_of g) (face_left x) e 0 l ∙ of.left_of_edge e l;
      right_of_edge = λ e l. tabulate-at (edges_of g) (face_right x) e 0 l ∙ of.right_of_edge e l;
      are = record {
        outs_are = λ v l. subst (λ es. AreOuts g s outer v es) (sym (tabulate-at x.vertices (outs x) v [] (v_in v l))) (of.are.outs_are v l);
        ins_are = λ v l. subst (λ es. AreIns g t outer v es) (sym (tabulate-at x.vertices (ins x) v [] (v_in v l))) (of.are.ins_are v l);
        left_is = λ f p l. side_path g (λ e. right_face g outer e ≡ f) (get_or (tabulate n (low x)) f 0) (get_or (tabulate n (high x)) f 0) (low x f) (high x f) (get_or (tabulate n (left_path x)) f []) (left_path x f)
            (tabulate-at n (low x) f 0 (omega arith)) (tabulate-at n (high x) f 0 (omega arith)) (tabulate-at n (left_path x) f [] (omega arith)) (of.are.left_is f p l);
        right_is = λ f l. side_path g (λ e. left_face g outer e ≡ f) (get_or (tabulate n (low x)) f 0) (get_or (tabulate n (high x)) f 0) (low x f) (high x f) (get_or (tabulate n (right_path x)) f []) (right_path x f)
            (tabulate-at n (low x) f 0 (omega arith)) (tabulate-at n (high x) f 0 (omega arith)) (tabulate-at n (right_path x) f [] (omega arith)) (of.are.right_is f l);
        left_none = tabulate-at n (left_path x) 0 [] (omega arith) ∙ of.are.left_none;
        right_none = tabulate-at n (right_path x) (faces g) [] (omega arith) ∙ of.are.right_none;
        low_first = tabulate-at n (low x) 0 0 (omega arith) ∙ of.are.low_first;
        high_first = tabulate-at n (high x) 0 0 (omega arith) ∙ of.are.high_first;
        low_last = tabulate-at n (low x) (faces g) 0 (omega arith) ∙ of.are.low_last;
        high_last = tabulate-at n (high x) (faces g) 0 (omega arith) ∙ of.are.high_last;
      };
      left_of_inner = λ v l ns nt. tabulate-at x.vertices (left_of x) v 0 (v_in v l) ∙ of.left_of_inner v l ns nt ∙ ap (λ es. left_face g outer (first es)) (sym (tabulate-at x.vertices (outs x) v [] (v_in v l)));
      right_of_inner = λ v l ns nt. tabulate-at x.vertices (right_of x) v 0 (v_in v l) ∙ of.right_of_inner v l ns nt ∙ ap (λ es. right_face g outer (last es)) (sym (tabulate-at x.vertices (outs x) v [] (v_in v l)));
      left_of_s = tabulate-at x.vertices (left_of x) s 0 (v_in s st.source.there) ∙ of.left_of_s;
      left_of_t = tabulate-at x.vertices (left_of x) t 0 (v_in t st.sink.there) ∙ of.left_of_t;
      right_of_s = tabulate-at x.vertices (right_of x) s 0 (v_in s st.source.there) ∙ of.right_of_s;
      right_of_t = tabulate-at x.vertices (right_of x) t 0 (v_in t st.sink.there) ∙ of.right_of_t;
    }

trimmed_sizes : (x : SidesValue) (m k : ℕ) → m ≡ length x.ends → k ≡ x.t_star + 1 → x.t_star < 2 ^ 31 → HasSizes (trimmed x m k)
trimmed_sizes x m k q r few = record {
  nodes = few;
  lefts_of_edges = length-map-range_with_len (face_left x) 0 m ∙ q;
  rights_of_edges = length-map-range_with_len (face_right x) 0 m ∙ q;
  out_lists = length-map-range_with_len (outs x) 0 x.vertices;
  in_lists = length-map-range_with_len (ins x) 0 x.vertices;
  lows = length-map-range_with_len (low x) 0 k ∙ r;
  highs = length-map-range_with_len (high x) 0 k ∙ r;
  left_paths = length-map-range_with_len (left_path x) 0 k ∙ r;
  right_paths = length-map-range_with_len (right_path x) 0 k ∙ r;
  lefts_of_vertices = length-map-range_with_len (left_of x) 0 x.vertices;
  rights_of_vertices = length-map-range_with_len (right_of x) 0 x.vertices;
}

-- sides with such lists
pub record HasHeldSides (g : Embedded) (s t outer : ℕ) : Type 0 where
  pub sides : SidesValue
  pub are_sides : IsSidesOf g s t outer sides
  pub sizes : HasSizes sides

pub held : (g : Embedded) (s t outer : ℕ) (x : SidesValue) → IsPlanarSt g s t outer → IsSidesOf g s t outer x → faces g < 2 ^ 31 → HasHeldSides g s t outer
held g s t outer x st of few = record {
  sides = trimmed x (edges_of g) (suc (faces g));
  are_sides = trimmed_of g s t outer x st of;
  sizes = trimmed_sizes x (edges_of g) (suc (faces g)) (ap (λ es. length es) (sym of.ends)) (let q : x.t_star ≡ faces g = of.nodes in omega arith) (let q : x.t_star ≡ faces g = of.nodes in omega arith);
}
