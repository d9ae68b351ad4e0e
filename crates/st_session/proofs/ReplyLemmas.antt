-- A question has one reply in a state.
use Rattle.std.proofs.Common.{◌≡◌, ◌<◌, ℕ, Bool, true, false, refl, ap, sym, ◌∙◌, subst}
use Rattle.std.specs.Prelude.{◌↔◌, IsTrue}
use Rattle.std.proofs.lemmas.Option.{slice_get_within}
use Rattle.st_ids.specs.Graph.{arcs_of}
use Rattle.st_ids.specs.Walks.{Reaches}
use Rattle.st_map.specs.Embedded.{Embedded, bare}
use Rattle.st_order.specs.Orders.{IsX, IsY}
use Rattle.st_order.proofs.Public.{numberings_law}
use Rattle.st_sides.specs.Sides.{IsSides}
use Rattle.st_sides.specs.SidesOf.{IsSidesOf}
use Rattle.st_sides.proofs.Public.{meaning_law, one_value_law}
use Rattle.st_test.specs.Planar.{IsPlanarSt}
use Rattle.st_session.specs.Replies.{AreReplyNumbers, OneReplyLaw}
use Rattle.st_session.specs.declared.reply.Reply.{Reply}

-- two poles of one graph are the same
one_source : (g : Embedded) (s t outer s' t' outer' : ℕ) → IsPlanarSt g s t outer → IsPlanarSt g s' t' outer' → s ≡ s'
one_source g s t outer s' t' outer' a b = b.source.only s a.source.there a.source.none_in

one_sink : (g : Embedded) (s t outer s' t' outer' : ℕ) → IsPlanarSt g s t outer → IsPlanarSt g s' t' outer' → t ≡ t'
one_sink g s t outer s' t' outer' a b = b.sink.only t a.sink.there a.sink.none_out

one_truth : (b c : Bool) (P : Type 0) → IsTrue b ↔ P → IsTrue c ↔ P → b ≡ c
one_truth true c P h k = sym (k.1 (h.0 refl))
one_truth false true P h k = h.1 (k.0 refl)
one_truth false false P h k = refl

-- the sides that two replies speak of are the same
one_sides : (g : Embedded) (outer u v : ℕ) (r r' : Reply) (a : AreReplyNumbers g outer u v r) (b : AreReplyNumbers g outer u v r') → a.sides ≡ b.sides
one_sides g outer u v r r' a b =
    let s : a.source ≡ b.source = one_source g a.source a.sink outer b.source b.sink outer a.planar b.planar in
    let t : a.sink ≡ b.sink = one_sink g a.source a.sink outer b.source b.sink outer a.planar b.planar in
    let y : IsSidesOf g a.source a.sink outer b.sides = subst (λ z. IsSidesOf g z a.sink outer b.sides) (sym s) (subst (λ z. IsSidesOf g b.source z outer b.sides) (sym t) b.are_sides) in
    one_value_law g a.source a.sink outer a.sides b.sides a.planar a.are_sides a.sizes y b.sizes

abbrev reply : Bool → ℕ → ℕ → ℕ → ℕ → Reply
reply b i k m o = record { reaches = b; from_x = i; from_y = k; to_x = m; to_y = o }

one_numbers : (g : Embedded) (outer u v : ℕ) (r r' : Reply) → u < g.vertices → v < g.vertices → AreReplyNumbers g outer u v r → AreReplyNumbers g outer u v r' → r ≡ r'
one_numbers g outer u v r r' lu lv a b =
    let q : a.sides ≡ b.sides = one_sides g outer u v r r' a b in
    let S : IsSides a.sides = meaning_law g a.source a.sink outer a.sides a.planar a.are_sides in
    let N = numberings_law a.sides S in
    let reaches : r.reaches ≡ r'.reaches = one_truth r.reaches r'.reaches (Reaches (arcs_of (bare g)) u v) a.reaches b.reaches in
    let from_x : r.from_x ≡ r'.from_x = N.x_numbers.one u r.from_x r'.from_x a.from_x (subst (λ z. IsX z u r'.from_x) (sym q) b.from_x) in
    let from_y : r.from_y ≡ r'.from_y = N.y_numbers.one u r.from_y r'.from_y a.from_y (subst (λ z. IsY z u r'.from_y) (sym q) b.from_y) in
    let to_x : r.to_x ≡ r'.to_x = N.x_numbers.one v r.to_x r'.to_x a.to_x (subst (λ z. IsX z v r'.to_x) (sym q) b.to_x) in
    let to_y : r.to_y ≡ r'.to_y = N.y_numbers.one v r.to_y r'.to_y a.to_y (subst (λ z. IsY z v r'.to_y) (sym q) b.to_y) in
    same_reply r.reaches r'.reaches r.from_x r'.from_x r.from_y r'.from_y r.to_x r'.to_x r.to_y r'.to_y reaches from_x from_y to_x to_y
  where
    same_reply : (b c : Bool) (i j k l m n o p : ℕ) → b ≡ c → i ≡ j → k ≡ l → m ≡ n → o ≡ p
        → reply b i k m o ≡ reply c j l n p
    same_reply b c i j k l m n o p q1 q2 q3 q4 q5 =
        ap (λ z. reply z i k m o) q1 ∙ ap (λ z. reply c z k m o) q2 ∙ ap (λ z. reply c j z m o) q3 ∙ ap (λ z. reply c j l z o) q4 ∙ ap (λ z. reply c j l n z) q5

pub one_reply_law : OneReplyLaw
one_reply_law x from to r r' S a b =
    let qu : b.u ≡ a.u = S.vertices_differ b.u a.u from b.from_is a.from_is in
    let qv : b.v ≡ a.v = S.vertices_differ b.v a.v to b.to_is a.to_is in
    let lu : a.u < x.graph.vertices = subst (λ n. a.u < n) S.vertices (slice_get_within x.vertex_names a.u from a.from_is) in
    let lv : a.v < x.graph.vertices = subst (λ n. a.v < n) S.vertices (slice_get_within x.vertex_names a.v to a.to_is) in
    one_numbers x.graph x.outer a.u a.v r r' lu lv a.numbers (subst (λ z. AreReplyNumbers x.graph x.outer z a.v r') qu (subst (λ z. AreReplyNumbers x.graph x.outer b.u z r') qv b.numbers))
