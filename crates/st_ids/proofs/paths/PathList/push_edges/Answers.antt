use Rattle.std.proofs.Common.{rules, ℕ, List, ◌≡◌, ◌<◌, ◌^◌, ◌+◌, ◌≤◌, [], ◌∷◌, ◌++◌, ◌∙◌, ap, arith, length, length-append, subst, sym}
use Rattle.std.proofs.lemmas.List.{map-append, length-map, length_push}
use Rattle.st_ids.specs.EdgeNumbers.{numbers}
use Rattle.st_ids.specs.Pieces.{pieces, ArePieces}
use Rattle.st_ids.specs.declared.ids.EdgeId.{EdgeId}
use Rattle.st_ids.proofs.PieceLemmas.{ArePieces_push, pieces_more, length-pieces}
use Rattle.st_ids.proofs.paths.PathList.push_edges.Goals as goal

pub invariant_of-self-2 : goal.invariant_of-self-2
invariant_of-self-2 c =
    let ends : c.push_reserved.new.self.items ≡ c.self.inside.ends.items ++ (c.len.result + length c.args.edges.now) ∷ [] = search rules in
    let edges : c.extend_from_slice.new.self.items ≡ c.self.inside.edges.items ++ c.args.edges.now = search rules in
    let was : c.len.result ≡ length c.self.inside.edges.items = search rules in
    let long : length c.extend_from_slice.new.self.items ≡ c.len.result + length c.args.edges.now = ap length edges ∙ length-append c.self.inside.edges.items c.args.edges.now ∙ ap (λ n. n + length c.args.edges.now) (sym was) in
    let count : length c.push_reserved.new.self.items ≡ length c.self.inside.ends.items + 1 = ap length ends ∙ length_push c.self.inside.ends.items (c.len.result + length c.args.edges.now) in
    let paths : length c.args.self.now ≡ length c.self.inside.ends.items = ap length (sym c.self.view_is) ∙ length-pieces 0 c.self.inside.ends.items (numbers c.self.inside.edges.items) in
    let few : length c.args.self.now < 2 ^ 31 = c.requires in
    let fits : c.len.result + length c.args.edges.now ≤ 4294967295 = c.if-end.false in
    let more : ArePieces 0 (c.self.inside.ends.items ++ (c.len.result + length c.args.edges.now) ∷ []) (c.len.result + length c.args.edges.now) = ArePieces_push 0 c.self.inside.ends.items (length c.self.inside.edges.items) (c.len.result + length c.args.edges.now) c.self.invariant.2 (omega arith) in (
      omega arith,
      omega arith,
      subst (λ n. ArePieces 0 c.push_reserved.new.self.items n) (sym long) (subst (λ (z : List ℕ). ArePieces 0 z (c.len.result + length c.args.edges.now)) (sym ends) more),
    )

pub returns-clause-ok : goal.returns-clause-ok
returns-clause-ok c =
    let ends : c.push_reserved.new.self.items ≡ c.self.inside.ends.items ++ (c.len.result + length c.args.edges.now) ∷ [] = search rules in
    let edges : c.extend_from_slice.new.self.items ≡ c.self.inside.edges.items ++ c.args.edges.now = search rules in
    let was : c.len.result ≡ length c.self.inside.edges.items = search rules in
    let es : List ℕ = numbers c.self.inside.edges.items in
    let fs : List ℕ = numbers c.args.edges.now in
    let l : length es ≡ length c.self.inside.edges.items = length-map c.self.inside.edges.items (λ (e : EdgeId). e.0) in
    let m : length fs ≡ length c.args.edges.now = length-map c.args.edges.now (λ (e : EdgeId). e.0) in
    let end : c.len.result + length c.args.edges.now ≡ length es + length fs = omega arith in
    let whole : numbers c.extend_from_slice.new.self.items ≡ es ++ fs = ap (λ (z : List EdgeId). numbers z) edges ∙ map-append (λ (e : EdgeId). e.0) c.self.inside.edges.items c.args.edges.now in
    let held : ArePieces 0 c.self.inside.ends.items (length es) = subst (λ n. ArePieces 0 c.self.inside.ends.items n) (sym l) c.self.invariant.2 in
    ap (λ (z : List ℕ). pieces 0 z (numbers c.extend_from_slice.new.self.items)) (ends ∙ ap (λ n. c.self.inside.ends.items ++ n ∷ []) end)
    ∙ ap (λ (z : List ℕ). pieces 0 (c.self.inside.ends.items ++ (length es + length fs) ∷ []) z) whole
    ∙ pieces_more c.self.inside.ends.items es fs held
    ∙ ap (λ (z : List (List ℕ)). z ++ fs ∷ []) c.self.view_is
