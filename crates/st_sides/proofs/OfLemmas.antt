-- The lists that were computed are the sides of the graph.
use Rattle.std.proofs.Common.{◌≡◌, ℕ, ◌+◌, ◌*◌, ◌^◌, ◌<◌, ◌≤◌, ◌⊎◌, inl, inr, true, false, List, [], get_or, refl, sym, ap, ◌∙◌, subst, arith}
use Rattle.st_ids.specs.Graph.{Graph}
use Rattle.st_map.specs.Embedded.{Embedded, bare, edges, faces}
use Rattle.st_test.specs.FaceNumbers.{orbit_number}
use Rattle.st_test.specs.Planar.{IsPlanarSt}
use Rattle.st_sides.specs.Beside.{IsBeside}
use Rattle.st_sides.specs.Conditions.{AreOuts, AreIns, left_face, right_face}
use Rattle.st_sides.specs.Filled.{IsFilled, node_number}
use Rattle.st_sides.specs.Held.{IsHeld}
use Rattle.st_sides.specs.LocalSides.{first, last}
use Rattle.st_sides.specs.NodeSides.{NodeSides, AreNodeLists}
use Rattle.st_sides.specs.Sides.{SidesValue, face_left, face_right, outs, ins, low, high, left_path, right_path, left_of, right_of}
use Rattle.st_sides.specs.SidesOf.{IsSidesOf}
use Rattle.st_sides.proofs.BesideLemmas.{some_end}
use Rattle.st_sides.proofs.NodeLemmas.{faces-positive}
use Rattle.st_sides.proofs.NodeStartLemmas.{left_number, right_number}
use Rattle.st_sides.proofs.OwnLemmas.{own_law}

-- a value of these lists
abbrev pub value : Graph → ℕ → ℕ → ℕ → List ℕ → List ℕ → List (List ℕ) → List (List ℕ) → List ℕ → List ℕ → List (List ℕ) → List (List ℕ) → List ℕ → List ℕ → SidesValue
value d s t n le ri os is lo hi lp rp vl vr = record {
  vertices = d.vertices;
  ends = d.ends;
  source = s;
  sink = t;
  t_star = n;
  lefts_of_edges = le;
  rights_of_edges = ri;
  out_lists = os;
  in_lists = is;
  lows = lo;
  highs = hi;
  left_paths = lp;
  right_paths = rp;
  lefts_of_vertices = vl;
  rights_of_vertices = vr;
}

module _ (g : Embedded) (s t outer : ℕ) (st : IsPlanarSt g s t outer) (le ri : List ℕ) (os is : List (List ℕ)) (lo hi : List ℕ) (lp rp : List (List ℕ)) (vl vr : List ℕ)
    (few : faces g < 2 ^ 31)
    (le_is : IsFilled 0 (λ e z. z ≡ node_number (orbit_number g outer) 0 (orbit_number g (2 * e + 0))) (edges g) le)
    (ri_is : IsFilled 0 (λ e z. z ≡ node_number (orbit_number g outer) (faces g) (orbit_number g (2 * e + 1))) (edges g) ri)
    (os_are : IsFilled [] (λ v es. AreOuts g s outer v es) g.vertices os) (is_are : IsFilled [] (λ v es. AreIns g t outer v es) g.vertices is)
    (nodes : AreNodeLists g s t outer (faces g + 1) lo hi lp rp)
    (vl_is : IsFilled 0 (λ v z. IsBeside s t le false 0 (get_or os v []) v z) g.vertices vl)
    (vr_is : IsFilled 0 (λ v z. IsBeside s t ri true (faces g) (get_or os v []) v z) g.vertices vr) where
  lefts : (e : ℕ) → e < edges g → get_or le e 0 ≡ left_face g outer e
  lefts e l = le_is.each e l ∙ ap (λ z. node_number (orbit_number g outer) 0 (orbit_number g z)) (let q : 2 * e + 0 ≡ 2 * e = omega arith in q) ∙ left_number g s t outer st e l

  rights : (e : ℕ) → e < edges g → get_or ri e 0 ≡ right_face g outer e
  rights e l = ri_is.each e l ∙ right_number g s t outer st e l

  node_at : (f : ℕ) → f ≤ faces g → NodeSides g s t outer f (get_or lo f 0) (get_or hi f 0) (get_or lp f []) (get_or rp f [])
  node_at f l = nodes.each f (omega arith)

  pub sides_are : IsSidesOf g s t outer (value (bare g) s t (faces g) le ri os is lo hi lp rp vl vr)
  unfolding face_left face_right outs ins low high left_path right_path left_of right_of
  sides_are =
      let pos : 0 < faces g = faces-positive g s t outer st in
      record {
        vertices = refl;
        ends = refl;
        source = refl;
        sink = refl;
        nodes = refl;
        left_of_edge = lefts;
        right_of_edge = rights;
        are = record {
          outs_are = os_are.each;
          ins_are = is_are.each;
          left_none = (node_at 0 (omega arith)).left_none refl;
          right_none = (node_at (faces g) (omega arith)).right_none refl;
          left_is = λ f p l. (node_at f l).left_is p;
          right_is = λ f l. (node_at f (omega arith)).right_is l;
          low_first = ((node_at 0 (omega arith)).first refl).0;
          high_first = ((node_at 0 (omega arith)).first refl).1;
          low_last = ((node_at (faces g) (omega arith)).last refl).0;
          high_last = ((node_at (faces g) (omega arith)).last refl).1;
        };
        left_of_inner = λ v l ns nt.
            let n : (v ≡ s) ⊎ (v ≡ t) → ⊥ = λ p. elim p [ inl e ↦ ns e | inr e ↦ nt e ] in
            (vl_is.each v l).inner n ∙ lefts (first (get_or os v [])) (some_end g s t outer st v l nt (get_or os v []) (os_are.each v l)).0;
        right_of_inner = λ v l ns nt.
            let n : (v ≡ s) ⊎ (v ≡ t) → ⊥ = λ p. elim p [ inl e ↦ ns e | inr e ↦ nt e ] in
            (vr_is.each v l).inner n ∙ rights (last (get_or os v [])) (some_end g s t outer st v l nt (get_or os v []) (os_are.each v l)).1;
        left_of_s = (vl_is.each s st.source.there).pole (inl refl);
        left_of_t = (vl_is.each t st.sink.there).pole (inr refl);
        right_of_s = (vr_is.each s st.source.there).pole (inl refl);
        right_of_t = (vr_is.each t st.sink.there).pole (inr refl);
      }

  pub are_held : IsHeld (value (bare g) s t (faces g) le ri os is lo hi lp rp vl vr)
  are_held = record {
    own = own_law g s t outer (value (bare g) s t (faces g) le ri os is lo hi lp rp vl vr) st sides_are;
    sizes = record {
      nodes = few;
      lefts_of_edges = le_is.size;
      rights_of_edges = ri_is.size;
      out_lists = os_are.size;
      in_lists = is_are.size;
      lows = nodes.lows_size;
      highs = nodes.highs_size;
      left_paths = nodes.lefts_size;
      right_paths = nodes.rights_size;
      lefts_of_vertices = vl_is.size;
      rights_of_vertices = vr_is.size;
    };
  }

  -- the same where the graph, the poles and the last node are known by equations
  pub at_last : (P : SidesValue → Type 0) (d : Graph) (s' t' n : ℕ) → d ≡ bare g → s' ≡ s → t' ≡ t → n ≡ faces g
      → P (value (bare g) s t (faces g) le ri os is lo hi lp rp vl vr) → P (value d s' t' n le ri os is lo hi lp rp vl vr)
  at_last P d s' t' n p q r w h =
      subst (λ z. P (value z s' t' n le ri os is lo hi lp rp vl vr)) (sym p) (subst (λ z. P (value (bare g) z t' n le ri os is lo hi lp rp vl vr)) (sym q)
      (subst (λ z. P (value (bare g) s z n le ri os is lo hi lp rp vl vr)) (sym r) (subst (λ z. P (value (bare g) s t z le ri os is lo hi lp rp vl vr)) (sym w) h)))
