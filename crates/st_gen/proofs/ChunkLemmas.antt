-- Lists held in chunks: what an edit of one chunk makes of the whole list.
-- Letters: cs the chunks, c the number of one, A what stands before it, X the chunk, B what stands behind it, o a place of
-- the chunk and p the same place of the whole.
use Rattle.std.proofs.Common.{ℕ, zero, suc, List, [], ◌∷◌, ◌++◌, ◌≡◌, ◌<◌, ◌≤◌, ◌+◌, ◌-◌, length, get_or, take, drop, slice_set, ◌^◌, inl, inr, refl, sym, ap, ◌∙◌, subst, arith, append_assoc, length-append}
use Rattle.std.proofs.lemmas.List.{take-append-le, drop-append-le, take-append-drop, get_or-append-add, get_or_append_left, get_or-take, take_all, take-set, length-take-le, length-drop}
use Rattle.std.proofs.lemmas.Bool.{cases_lt}
use Rattle.std.proofs.Math.ListN.{length-set}
use Rattle.std.specs.List.{concat}
use Rattle.st_gen.specs.Chunks.{IsSpot, Holds, IsChunked}

-- ---- an edit of one chunk
take_past : (A R : List ℕ) (o p : ℕ) → p ≡ length A + o → take p (A ++ R) ≡ A ++ take o R
take_past [] R o p q = let e : p ≡ o = omega arith in ap (λ z. take z R) e
take_past (a ∷ A) R o zero q = absurd (omega arith)
take_past (a ∷ A) R o (suc p) q = ap (λ z. a ∷ z) (take_past A R o p (omega arith))

drop_past : (A R : List ℕ) (o p : ℕ) → p ≡ length A + o → drop p (A ++ R) ≡ drop o R
drop_past [] R o p q = let e : p ≡ o = omega arith in ap (λ z. drop z R) e
drop_past (a ∷ A) R o zero q = absurd (omega arith)
drop_past (a ∷ A) R o (suc p) q = drop_past A R o p (omega arith)

inserted : (A X B : List ℕ) (o p v : ℕ) → p ≡ length A + o → o ≤ length X →
    A ++ ((take o X ++ v ∷ drop o X) ++ B) ≡ take p (A ++ (X ++ B)) ++ v ∷ drop p (A ++ (X ++ B))
inserted A X B o p v q l =
    sym (ap (λ z. take p (A ++ (X ++ B)) ++ v ∷ z) (drop_past A (X ++ B) o p q ∙ drop-append-le o X B l)
    ∙ ap (λ z. z ++ v ∷ (drop o X ++ B)) (take_past A (X ++ B) o p q ∙ ap (λ z. A ++ z) (take-append-le o X B l))
    ∙ append_assoc A (take o X) (v ∷ (drop o X ++ B))
    ∙ ap (λ z. A ++ z) (sym (append_assoc (take o X) (v ∷ drop o X) B)))

removed : (A X B : List ℕ) (o p : ℕ) → p ≡ length A + o → o < length X →
    A ++ ((take o X ++ drop (o + 1) X) ++ B) ≡ take p (A ++ (X ++ B)) ++ drop (p + 1) (A ++ (X ++ B))
removed A X B o p q l =
    sym (ap (λ z. take p (A ++ (X ++ B)) ++ z) (drop_past A (X ++ B) (o + 1) (p + 1) (omega arith) ∙ drop-append-le (o + 1) X B (omega arith))
    ∙ ap (λ z. z ++ (drop (o + 1) X ++ B)) (take_past A (X ++ B) o p q ∙ ap (λ z. A ++ z) (take-append-le o X B (omega arith)))
    ∙ append_assoc A (take o X) (drop (o + 1) X ++ B)
    ∙ ap (λ z. A ++ z) (sym (append_assoc (take o X) (drop (o + 1) X) B)))

read : (A X B : List ℕ) (o p : ℕ) → p ≡ length A + o → o < length X → get_or (A ++ (X ++ B)) p 0 ≡ get_or X o 0
read A X B o p q l = ap (λ z. get_or (A ++ (X ++ B)) z 0) q ∙ get_or-append-add A (X ++ B) o 0 ∙ get_or_append_left X B 0 o l

-- ---- the chunks around one
pub concat-cut : (cs : List (List ℕ)) (c : ℕ) → c < length cs → concat cs ≡ concat (take c cs) ++ (get_or cs c [] ++ concat (drop (suc c) cs))
concat-cut [] c l = absurd (omega arith)
concat-cut (x ∷ cs) zero l = refl
concat-cut (x ∷ cs) (suc c) l =
    ap (λ z. x ++ z) (concat-cut cs c (omega arith)) ∙ sym (append_assoc x (concat (take c cs)) (get_or cs c [] ++ concat (drop (suc c) cs)))

pub concat-set : (cs : List (List ℕ)) (c : ℕ) (y : List ℕ) → c < length cs → concat (slice_set cs c y) ≡ concat (take c cs) ++ (y ++ concat (drop (suc c) cs))
concat-set [] c y l = absurd (omega arith)
concat-set (x ∷ cs) zero y l = refl
concat-set (x ∷ cs) (suc c) y l =
    ap (λ z. x ++ z) (concat-set cs c y (omega arith)) ∙ sym (append_assoc x (concat (take c cs)) (y ++ concat (drop (suc c) cs)))

length-concat-take : (cs : List (List ℕ)) (c : ℕ) → c < length cs → length (concat (take (suc c) cs)) ≡ length (concat (take c cs)) + length (get_or cs c [])
length-concat-take [] c l = absurd (omega arith)
length-concat-take (x ∷ cs) zero l = let h : length (x ++ []) ≡ length x + 0 = length-append x [] in omega arith
length-concat-take (x ∷ cs) (suc c) l =
    let h : length (concat (take (suc c) cs)) ≡ length (concat (take c cs)) + length (get_or cs c []) = length-concat-take cs c (omega arith) in
    let a : length (x ++ concat (take (suc c) cs)) ≡ length x + length (concat (take (suc c) cs)) = length-append x (concat (take (suc c) cs)) in
    let b : length (x ++ concat (take c cs)) ≡ length x + length (concat (take c cs)) = length-append x (concat (take c cs)) in
    omega arith

get_or-default : (cs : List (List ℕ)) (c : ℕ) (d e : List ℕ) → c < length cs → get_or cs c d ≡ get_or cs c e
get_or-default [] c d e l = absurd (omega arith)
get_or-default (x ∷ cs) zero d e l = refl
get_or-default (x ∷ cs) (suc c) d e l = get_or-default cs c d e (omega arith)

-- what a read of a chunk answers
pub chunk_read : (cs : List (List ℕ)) (c : ℕ) (X : List ℕ) → c < length cs → X ≡ get_or cs c X → get_or cs c [] ≡ X
chunk_read cs c X l q = get_or-default cs c [] X l ∙ sym q

pub holds_in : (cs ds : List (List ℕ)) (c b p : ℕ) → ds ≡ cs → Holds ds c b p → Holds cs c b p
holds_in cs ds c b p q H = subst (λ z. Holds z c b p) q H

-- ---- from a chunk to its neighbours
not_first : (cs : List (List ℕ)) (c b : ℕ) → IsSpot cs c b → 0 < b → 0 < c
not_first cs zero b S l = let q : b ≡ 0 = S.before in absurd (omega arith)
not_first cs (suc c) b S l = omega arith

-- the chunk before chunk d
pub record IsBefore (cs : List (List ℕ)) (c b : ℕ) : Type 0 where
  pub fits : length (get_or cs c []) ≤ b
  pub spot : IsSpot cs c (b - length (get_or cs c []))

pub spot_down : (cs : List (List ℕ)) (d b : ℕ) → IsSpot cs d b → 0 < b → IsBefore cs (d - 1) b
spot_down cs d b S l =
    let n : 0 < d = not_first cs d b S l in
    let t : d < length cs = S.there in
    let e : d ≡ suc (d - 1) = omega arith in
    let h : length (concat (take (suc (d - 1)) cs)) ≡ length (concat (take (d - 1) cs)) + length (get_or cs (d - 1) []) = length-concat-take cs (d - 1) (omega arith) in
    let q : b ≡ length (concat (take (suc (d - 1)) cs)) = S.before ∙ ap (λ z. length (concat (take z cs))) e in
    record { fits = omega arith; spot = record { there = omega arith; before = omega arith } }

pub spot_up : (cs : List (List ℕ)) (c b p : ℕ) → IsSpot cs c b → b + length (get_or cs c []) ≤ p → p < length (concat cs) → IsSpot cs (c + 1) (b + length (get_or cs c []))
spot_up cs c b p S l m =
    let h : length (concat (take (suc c) cs)) ≡ length (concat (take c cs)) + length (get_or cs c []) = length-concat-take cs c S.there in
    let q : b ≡ length (concat (take c cs)) = S.before in
    let e : suc c ≡ c + 1 = omega arith in
    record {
      there = elim (cases_lt (c + 1) (length cs)) [
        | inl k ↦ k
        | inr k ↦
            let a : length (concat (take (suc c) cs)) ≡ length (concat cs) = ap (λ z. length (concat z)) (take_all (suc c) cs (omega arith)) in
            absurd (omega arith)
      ];
      before = (let r : b + length (get_or cs c []) ≡ length (concat (take (suc c) cs)) = omega arith in r) ∙ ap (λ z. length (concat (take z cs))) e;
    }

-- ---- an edit of the whole
length-inserted : (L : List ℕ) (p v : ℕ) → p ≤ length L → length (take p L ++ v ∷ drop p L) ≡ length L + 1
length-inserted L p v l =
    let a : length (take p L ++ v ∷ drop p L) ≡ length (take p L) + length (v ∷ drop p L) = length-append (take p L) (v ∷ drop p L) in
    let t : length (take p L) ≡ p = length-take-le p L l in
    let d : length (drop p L) ≡ length L - p = length-drop p L in
    omega arith

length-removed : (L : List ℕ) (p : ℕ) → p < length L → length (take p L ++ drop (p + 1) L) ≡ length L - 1
length-removed L p l =
    let a : length (take p L ++ drop (p + 1) L) ≡ length (take p L) + length (drop (p + 1) L) = length-append (take p L) (drop (p + 1) L) in
    let t : length (take p L) ≡ p = length-take-le p L (omega arith) in
    let d : length (drop (p + 1) L) ≡ length L - (p + 1) = length-drop (p + 1) L in
    omega arith

module _ (cs : List (List ℕ)) (c b p : ℕ) (H : Holds cs c b p) (X : List ℕ) (is : get_or cs c [] ≡ X) where
  at_place : p ≡ length (concat (take c cs)) + (p - b)
  at_place = let q : b ≡ length (concat (take c cs)) = H.before in let l : b ≤ p = H.from in omega arith

  in_chunk : p - b < length X
  in_chunk = let l : p < b + length (get_or cs c []) = H.to in let q : length (get_or cs c []) ≡ length X = ap (λ z. length z) is in let m : b ≤ p = H.from in omega arith

  cut : concat cs ≡ concat (take c cs) ++ (X ++ concat (drop (suc c) cs))
  cut = concat-cut cs c H.there ∙ ap (λ z. concat (take c cs) ++ (z ++ concat (drop (suc c) cs))) is

  pub read_chunk : get_or (concat cs) p 0 ≡ get_or X (p - b) 0
  read_chunk = ap (λ z. get_or z p 0) cut ∙ read (concat (take c cs)) X (concat (drop (suc c) cs)) (p - b) p at_place in_chunk

  pub concat-inserted : (v : ℕ) (Y : List ℕ) → Y ≡ take (p - b) X ++ v ∷ drop (p - b) X → concat (slice_set cs c Y) ≡ take p (concat cs) ++ v ∷ drop p (concat cs)
  concat-inserted v Y q =
      concat-set cs c Y H.there
      ∙ ap (λ z. concat (take c cs) ++ (z ++ concat (drop (suc c) cs))) q
      ∙ inserted (concat (take c cs)) X (concat (drop (suc c) cs)) (p - b) p v at_place (let l : p - b < length X = in_chunk in omega arith)
      ∙ ap (λ z. take p z ++ v ∷ drop p z) (sym cut)

  pub concat-removed : (Y : List ℕ) → Y ≡ take (p - b) X ++ drop (p - b + 1) X → concat (slice_set cs c Y) ≡ take p (concat cs) ++ drop (p + 1) (concat cs)
  concat-removed Y q =
      concat-set cs c Y H.there
      ∙ ap (λ z. concat (take c cs) ++ (z ++ concat (drop (suc c) cs))) q
      ∙ removed (concat (take c cs)) X (concat (drop (suc c) cs)) (p - b) p at_place in_chunk
      ∙ ap (λ z. take p z ++ drop (p + 1) z) (sym cut)

  spot_set : (Y : List ℕ) → IsSpot (slice_set cs c Y) c b
  spot_set Y = record {
    there = subst (λ z. c < z) (sym (length-set cs c Y)) H.there;
    before = H.before ∙ ap (λ z. length (concat z)) (sym (take-set cs c Y));
  }

  pub row_inserted : (n : ℕ) → n ≡ length (concat cs) → n + 1 < 2 ^ 32 → p < length (concat cs) → (v : ℕ) (Y : List ℕ) → Y ≡ take (p - b) X ++ v ∷ drop (p - b) X → IsChunked (slice_set cs c Y) (n + 1) c b
  row_inserted n q l m v Y e =
      let a : length (concat (slice_set cs c Y)) ≡ length (take p (concat cs) ++ v ∷ drop p (concat cs)) = ap (λ z. length z) (concat-inserted v Y e) in
      let d : length (take p (concat cs) ++ v ∷ drop p (concat cs)) ≡ length (concat cs) + 1 = length-inserted (concat cs) p v (omega arith) in
      record { length_is = omega arith; few = l; spot = spot_set Y }

  pub row_removed : (n : ℕ) → n ≡ length (concat cs) → n < 2 ^ 32 → p < length (concat cs) → (Y : List ℕ) → Y ≡ take (p - b) X ++ drop (p - b + 1) X → IsChunked (slice_set cs c Y) (n - 1) c b
  row_removed n q l m Y e =
      let a : length (concat (slice_set cs c Y)) ≡ length (take p (concat cs) ++ drop (p + 1) (concat cs)) = ap (λ z. length z) (concat-removed Y e) in
      let d : length (take p (concat cs) ++ drop (p + 1) (concat cs)) ≡ length (concat cs) - 1 = length-removed (concat cs) p m in
      record { length_is = omega arith; few = omega arith; spot = spot_set Y }

-- ---- other chunks of the same list
pub row_cut : (cs ds : List (List ℕ)) (n c b : ℕ) → IsChunked cs n c b → concat ds ≡ concat cs → take c ds ≡ take c cs → c < length ds → IsChunked ds n c b
row_cut cs ds n c b R q f l = record {
  length_is = R.length_is ∙ ap (λ z. length z) (sym q);
  few = R.few;
  spot = record { there = l; before = R.spot.before ∙ ap (λ z. length (concat z)) (sym f) };
}

-- a chunk cut in two
pub concat-halved : (cs : List (List ℕ)) (c h : ℕ) (X : List ℕ) → c < length cs → get_or cs c [] ≡ X →
    concat (slice_set (take (c + 1) cs ++ drop h X ∷ drop (c + 1) cs) c (take h X)) ≡ concat cs
concat-halved [] c h X l q = absurd (omega arith)
concat-halved (x ∷ cs) zero h X l q =
    sym (append_assoc (take h X) (drop h X) (concat cs)) ∙ ap (λ z. z ++ concat cs) (take-append-drop h X ∙ sym q)
concat-halved (x ∷ cs) (suc c) h X l q =
    let e : suc c + 1 ≡ suc (c + 1) = omega arith in
    ap (λ z. concat (slice_set (take z (x ∷ cs) ++ drop h X ∷ drop z (x ∷ cs)) (suc c) (take h X))) e
    ∙ ap (λ z. x ++ z) (concat-halved cs c h X (omega arith) q)

pub halved : (cs es : List (List ℕ)) (c h : ℕ) (X R Y T : List ℕ) → c < length cs → X ≡ get_or cs c X → R ≡ drop h X → es ≡ take (c + 1) cs ++ R ∷ drop (c + 1) cs →
    Y ≡ get_or es c Y → T ≡ take h Y → concat (slice_set es c T) ≡ concat cs
halved cs es c h X R Y T l qx qr qe qy qt =
    ap (λ z. concat (slice_set z c T)) (qe ∙ ap (λ z. take (c + 1) cs ++ z ∷ drop (c + 1) cs) qr)
    ∙ ap (λ z. concat (slice_set (take (c + 1) cs ++ drop h X ∷ drop (c + 1) cs) c z)) (qt ∙ ap (λ z. take h z) same)
    ∙ concat-halved cs c h X l (chunk_read cs c X l qx)
  where
    long : length (take (c + 1) cs) ≡ c + 1
    long = length-take-le (c + 1) cs (omega arith)

    same : Y ≡ X
    same =
        qy ∙ ap (λ z. get_or z c Y) qe
        ∙ get_or_append_left (take (c + 1) cs) (R ∷ drop (c + 1) cs) Y c (let k : length (take (c + 1) cs) ≡ c + 1 = long in omega arith)
        ∙ get_or-take (c + 1) cs c Y (omega arith)
        ∙ get_or-default cs c Y X l ∙ sym qx
