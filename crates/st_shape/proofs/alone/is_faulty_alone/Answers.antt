use Rattle.std.proofs.Common.{IsTrue, inl, inr, refl, w64, rules}
use mir.Val.{SFits}
use Rattle.std.proofs.lemmas.Int.{to_z-of_z}
use Rattle.st_shape.proofs.AloneLemmas.{not_from, not_to}
use Rattle.st_shape.proofs.alone.is_faulty_alone.Goals as goal

pub returns-then-not-is_rising : goal.returns-then-not-is_rising
returns-then-not-is_rising c =
    rw c.in-Line.is (
      λ t. inl (λ rising. let found : IsTrue c.is_rising.result = c.is_rising.ensures.1 (rw c.items.ensures.same rising) in cc),
      λ h. refl,
    )

pub returns-else-not-has_vertex : goal.returns-else-not-has_vertex
returns-else-not-has_vertex c =
    let tail : SFits w64 c.in-Line.tail = search rules in
    let head : SFits w64 c.in-Line.head = search rules in
    let tails = simp to_z-of_z at c.has_vertex.ensures in
    let heads = simp to_z-of_z at c.has_vertex-in-Line.ensures in
    rw c.in-Line.is (
      λ t. inr (inr (λ any. not_to _ t (heads.1 any))),
      λ h. elim h [
        | inl u ↦ absurd (u (rw c.items.ensures.same at (c.is_rising.ensures.0 c.if-not-is_rising.false)))
        | inr u ↦ elim u [
          | inl w ↦ absurd (w (tails.0 c.if-not-has_vertex.false))
          | inr w ↦ not_from _ _ heads.0 w
        ]
      ],
    )
