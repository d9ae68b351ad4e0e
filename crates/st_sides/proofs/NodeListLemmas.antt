-- Lists of the sides of all nodes grow by one node.
use Rattle.std.proofs.Common.{◌≡◌, ℕ, ◌+◌, ◌<◌, inl, inr, List, [], ◌∷◌, ◌++◌, length, get_or, sym, ap, ◌∙◌, subst, arith}
use Rattle.std.proofs.lemmas.List.{length-append, get_or_append_left}
use Rattle.std.proofs.Math.Seq.{get_or-append_seam}
use Rattle.std.proofs.lemmas.Bool.{cases_lt}
use Rattle.st_map.specs.Embedded.{Embedded}
use Rattle.st_sides.specs.NodeSides.{NodeSides, AreNodeLists}

longer : {A : Type 0} (xs ys : List A) (x : A) (n : ℕ) → ys ≡ xs ++ x ∷ [] → length xs ≡ n → length ys ≡ n + 1
longer {A} xs ys x n q l = ap (λ (z : List A). length z) q ∙ length-append xs (x ∷ []) ∙ ap (λ z. z + 1) l

old_entry : {A : Type 0} (xs ys : List A) (x d : A) (i : ℕ) → ys ≡ xs ++ x ∷ [] → i < length xs → get_or ys i d ≡ get_or xs i d
old_entry {A} xs ys x d i q l = ap (λ (z : List A). get_or z i d) q ∙ get_or_append_left xs (x ∷ []) d i l

new_entry : {A : Type 0} (xs ys : List A) (x d : A) (i : ℕ) → ys ≡ xs ++ x ∷ [] → i ≡ length xs → get_or ys i d ≡ x
new_entry {A} xs ys x d i q e = ap (λ (z : List A). get_or z i d) q ∙ ap (λ k. get_or (xs ++ x ∷ []) k d) e ∙ get_or-append_seam xs x [] d

moved : (g : Embedded) (s t outer f f' a a' b b' : ℕ) (c c' d d' : List ℕ) → f' ≡ f → a' ≡ a → b' ≡ b → c' ≡ c → d' ≡ d → NodeSides g s t outer f a b c d → NodeSides g s t outer f' a' b' c' d'
moved g s t outer f f' a a' b b' c c' d d' z p q r w n =
    subst (λ k. NodeSides g s t outer k a' b' c' d') (sym z) (subst (λ k. NodeSides g s t outer f k b' c' d') (sym p)
    (subst (λ k. NodeSides g s t outer f a k c' d') (sym q) (subst (λ k. NodeSides g s t outer f a b k d') (sym r) (subst (λ k. NodeSides g s t outer f a b c k) (sym w) n))))

pub nodes_more : (g : Embedded) (s t outer n : ℕ) (lows lows' highs highs' : List ℕ) (lefts lefts' rights rights' : List (List ℕ)) (a b : ℕ) (c d : List ℕ)
    → AreNodeLists g s t outer n lows highs lefts rights → NodeSides g s t outer n a b c d
    → lows' ≡ lows ++ a ∷ [] → highs' ≡ highs ++ b ∷ [] → lefts' ≡ lefts ++ c ∷ [] → rights' ≡ rights ++ d ∷ []
    → AreNodeLists g s t outer (n + 1) lows' highs' lefts' rights'
nodes_more g s t outer n lows lows' highs highs' lefts lefts' rights rights' a b c d h w p q r u = record {
  lows_size = longer lows lows' a n p h.lows_size;
  highs_size = longer highs highs' b n q h.highs_size;
  lefts_size = longer lefts lefts' c n r h.lefts_size;
  rights_size = longer rights rights' d n u h.rights_size;
  each = λ f l. elim (cases_lt f n) [
    | inl m ↦ moved g s t outer f f (get_or lows f 0) (get_or lows' f 0) (get_or highs f 0) (get_or highs' f 0) (get_or lefts f []) (get_or lefts' f []) (get_or rights f []) (get_or rights' f [])
        (λ i. f)
        (old_entry lows lows' a 0 f p (omega (arith, h.lows_size))) (old_entry highs highs' b 0 f q (omega (arith, h.highs_size)))
        (old_entry lefts lefts' c [] f r (omega (arith, h.lefts_size))) (old_entry rights rights' d [] f u (omega (arith, h.rights_size))) (h.each f m)
    | inr m ↦ moved g s t outer n f a (get_or lows' f 0) b (get_or highs' f 0) c (get_or lefts' f []) d (get_or rights' f [])
        (omega arith)
        (new_entry lows lows' a 0 f p (omega (arith, h.lows_size))) (new_entry highs highs' b 0 f q (omega (arith, h.highs_size)))
        (new_entry lefts lefts' c [] f r (omega (arith, h.lefts_size))) (new_entry rights rights' d [] f u (omega (arith, h.rights_size))) w
  ];
}
