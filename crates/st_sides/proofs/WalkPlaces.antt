-- Walks: joined, cut, and in a graph without a cycle at each vertex once.
use Rattle.std.proofs.Common.{◌≡◌, ℕ, zero, suc, ◌+◌, ◌-◌, ◌<◌, List, [], ◌∷◌, ◌++◌, length, get_or, take, drop, refl, sym, ap, ◌∙◌, subst, arith, length-append, length-drop, length-take}
use Rattle.std.proofs.lemmas.List.{get_or-drop}
use Rattle.st_map.specs.Embedded.{Embedded, edges, tail, head}
use Rattle.st_ids.specs.Walks.{stay, step}
use Rattle.st_ids.proofs.Public.{walk_append}
use Rattle.st_sides.specs.GraphWalks.{IsWalk, HasNoCycle}

pub walk-append : (g : Embedded) (u v w : ℕ) (es fs : List ℕ) → IsWalk g u es v → IsWalk g v fs w → IsWalk g u (es ++ fs) w
walk-append g u v w es fs a b = walk_append a b

-- the walk up to the edge at i
pub walk-take : (g : Embedded) (u v : ℕ) (es : List ℕ) (i : ℕ) → IsWalk g u es v → i < length es → IsWalk g u (take i es) (tail g (get_or es i 0))
walk-take g u v [] i w l = absurd (omega arith)
walk-take g u v (e ∷ es) zero (step a f w) l = stay (sym f)
walk-take g u v (e ∷ es) (suc i) (step a f w) l = step a f (walk-take g (head g e) v es i w (omega arith))

-- the walk after the edge at i
pub walk-drop : (g : Embedded) (u v : ℕ) (es : List ℕ) (i : ℕ) → IsWalk g u es v → i < length es → IsWalk g (head g (get_or es i 0)) (drop (suc i) es) v
walk-drop g u v [] i w l = absurd (omega arith)
walk-drop g u v (e ∷ es) zero (step a f w) l = w
walk-drop g u v (e ∷ es) (suc i) (step a f w) l = walk-drop g (head g e) v es i w (omega arith)

pub walk-edge : (g : Embedded) (u v : ℕ) (es : List ℕ) (i : ℕ) → IsWalk g u es v → i < length es → get_or es i 0 < edges g
walk-edge g u v [] i w l = absurd (omega arith)
walk-edge g u v (e ∷ es) zero (step a f w) l = a
walk-edge g u v (e ∷ es) (suc i) (step a f w) l = walk-edge g (head g e) v es i w (omega arith)

pub walk-first : (g : Embedded) (u v : ℕ) (es : List ℕ) → IsWalk g u es v → 0 < length es → tail g (get_or es 0 0) ≡ u
walk-first g u v [] w l = absurd (omega arith)
walk-first g u v (e ∷ es) (step a f w) l = f

pub walk-last : (g : Embedded) (u v : ℕ) (es : List ℕ) (i : ℕ) → IsWalk g u es v → suc i ≡ length es → head g (get_or es i 0) ≡ v
walk-last g u v [] i w l = absurd (omega arith)
walk-last g u v (e ∷ []) zero (step a f (stay q)) l = q
walk-last g u v (e ∷ f ∷ es) zero w l = absurd (omega arith)
walk-last g u v (e ∷ es) (suc i) (step a f w) l = walk-last g (head g e) v es i w (omega arith)

-- each edge begins where the one before it ends
pub walk-joins : (g : Embedded) (u v : ℕ) (es : List ℕ) (i : ℕ) → IsWalk g u es v → suc i < length es → tail g (get_or es (suc i) 0) ≡ head g (get_or es i 0)
walk-joins g u v [] i w l = absurd (omega arith)
walk-joins g u v (e ∷ es) zero (step a f w) l = walk-first g (head g e) v es w (omega arith)
walk-joins g u v (e ∷ es) (suc i) (step a f w) l = walk-joins g (head g e) v es i w (omega arith)

pub no_loop : (g : Embedded) → HasNoCycle g → (u : ℕ) (es : List ℕ) → IsWalk g u es u → 0 < length es → ⊥
no_loop g n u [] w l = omega arith
no_loop g n u (e ∷ es) w l = n u e es w

-- there and back is no way
pub no_return : (g : Embedded) → HasNoCycle g → (u v : ℕ) (es fs : List ℕ) → IsWalk g u es v → IsWalk g v fs u → 0 < length es → ⊥
no_return g n u v es fs a b l = no_loop g n u (es ++ fs) (walk-append g u v u es fs a b) (omega (arith, length-append es fs, l))

-- two edges of a walk with one tail, or one head, are at one place
pub tail_once : (g : Embedded) → HasNoCycle g → (u v : ℕ) (es : List ℕ) (i j : ℕ) → IsWalk g u es v → i < j → j < length es → tail g (get_or es i 0) ≡ tail g (get_or es j 0) → ⊥
tail_once g n u v [] i j w ij l e = omega arith
tail_once g n u v (d ∷ es) zero j (step a f w) ij l e =
    no_loop g n u (take j (d ∷ es)) (subst (λ z. IsWalk g u (take j (d ∷ es)) z) (sym e ∙ f) (walk-take g u v (d ∷ es) j (step a f w) l))
    (omega (arith, length-take j (d ∷ es), l, ij))
tail_once g n u v (d ∷ es) (suc i) zero w ij l e = omega arith
tail_once g n u v (d ∷ es) (suc i) (suc j) (step a f w) ij l e = tail_once g n (head g d) v es i j w (omega arith) (omega arith) e

pub head_once : (g : Embedded) → HasNoCycle g → (u v : ℕ) (es : List ℕ) (i j : ℕ) → IsWalk g u es v → i < j → j < length es → head g (get_or es i 0) ≡ head g (get_or es j 0) → ⊥
head_once g n u v es i j w ij l e =
    let tail_j : IsWalk g (head g (get_or es i 0)) (drop (suc i) es) v = walk-drop g u v es i w (omega arith) in
    let len : length (drop (suc i) es) ≡ length es - suc i = length-drop (suc i) es in
    let at : get_or (drop (suc i) es) (j - suc i) 0 ≡ get_or es j 0 =
    get_or-drop (suc i) es (j - suc i) 0 ∙ ap (λ k. get_or es k 0) (let z : suc i + (j - suc i) ≡ j = omega arith in z) in
    let part : IsWalk g (head g (get_or es i 0)) (take (j - suc i) (drop (suc i) es)) (tail g (get_or (drop (suc i) es) (j - suc i) 0)) =
    walk-take g (head g (get_or es i 0)) v (drop (suc i) es) (j - suc i) tail_j (omega arith) in
    let edge : IsWalk g (tail g (get_or es j 0)) (get_or es j 0 ∷ []) (head g (get_or es j 0)) = step (walk-edge g u v es j w l) refl (stay refl) in
    let back : IsWalk g (tail g (get_or es j 0)) (get_or es j 0 ∷ []) (head g (get_or es i 0)) =
    subst (λ z. IsWalk g (tail g (get_or es j 0)) (get_or es j 0 ∷ []) z) (sym e) edge in
    no_return g n (tail g (get_or es j 0)) (head g (get_or es i 0)) (get_or es j 0 ∷ []) (take (j - suc i) (drop (suc i) es)) back
    (subst (λ z. IsWalk g (head g (get_or es i 0)) (take (j - suc i) (drop (suc i) es)) (tail g z)) at part) (omega arith)
