-- Walks joined and cut, and what holds where there is no cycle.
use Rattle.std.proofs.Common.{ℕ, List, [], ◌∷◌, ◌++◌, ◌≡◌, ◌<◌, ◌⊎◌, inl, inr, refl, sym, ap, ◌∙◌, subst}
use Rattle.st_ids.specs.Lists.{In, here, there, NoRepeat}
use Rattle.st_ids.specs.Walks.{Arcs, Walk, stay, step, Reaches, IsAcyclic}
use Rattle.st_ids.proofs.ListLemmas.{not_in_nil, in_right, Cut, cut_at}

pub walk_from : {D : Arcs} {u v w : ℕ} {es : List ℕ} → u ≡ v → Walk D u es w → Walk D v es w
walk_from {D} {u} {v} {w} {es} e k = subst (λ z. Walk D z es w) e k

pub walk_to : {D : Arcs} {u v w : ℕ} {es : List ℕ} → v ≡ w → Walk D u es v → Walk D u es w
walk_to {D} {u} {v} {w} {es} e k = subst (λ z. Walk D u es z) e k

pub walk_append : {D : Arcs} {u v w : ℕ} {es fs : List ℕ} → Walk D u es v → Walk D v fs w → Walk D u (es ++ fs) w
walk_append (stay e) k = walk_from (sym e) k
walk_append (step i f r) k = step i f (walk_append r k)

-- a walk along joined lists, cut between them
pub record Halves (D : Arcs) (u : ℕ) (es fs : List ℕ) (w : ℕ) : Type 0 where
  pub mid : ℕ
  pub first : Walk D u es mid
  pub second : Walk D mid fs w

pub halves : {D : Arcs} {u w : ℕ} (es fs : List ℕ) → Walk D u (es ++ fs) w → Halves D u es fs w
halves {D} {u} [] fs k = record { mid = u; first = stay refl; second = k }
halves (e ∷ es) fs (step i f r) =
    let h = halves es fs r in
    record { mid = h.mid; first = step i f h.first; second = h.second }

pub reach_refl : {D : Arcs} {u v : ℕ} → u ≡ v → Reaches D u v
reach_refl e = record { way = []; walk = stay e }

pub reach_trans : {D : Arcs} {u v w : ℕ} → Reaches D u v → Reaches D v w → Reaches D u w
reach_trans a b = record { way = a.way ++ b.way; walk = walk_append a.walk b.walk }

pub reach_arc : {D : Arcs} (e : ℕ) → e < D.count → Reaches D (D.from e) (D.to e)
reach_arc e i = record { way = e ∷ []; walk = step i refl (stay refl) }

-- an arc of a walk
pub record OnWalk (D : Arcs) (u e v : ℕ) : Type 0 where
  pub arc : e < D.count
  pub before : Reaches D u (D.from e)
  pub after : Reaches D (D.to e) v

pub on_walk : {D : Arcs} {u v e : ℕ} {es : List ℕ} → Walk D u es v → In e es → OnWalk D u e v
on_walk (stay e) i = absurd (not_in_nil i)
on_walk {D} {u} {v} {e} (step {e = x} {es = es} a f r) (here q) = record {
  arc = subst (λ z. z < D.count) (sym q) a;
  before = reach_refl (sym f ∙ ap D.from (sym q));
  after = record { way = es; walk = subst (λ z. Walk D (D.to z) es v) (sym q) r };
}
on_walk {D} {u} {v} {e} (step {e = x} {es = es} a f r) (there j) =
    let h = on_walk r j in
    record { arc = h.arc; before = reach_trans (reach_trans (reach_refl (sym f)) (reach_arc x a)) h.before; after = h.after }

-- ---- where there is no cycle
pub no_loop : {D : Arcs} → IsAcyclic D → (e : ℕ) → e < D.count → Reaches D (D.to e) (D.from e) → ⊥
no_loop {D} acyclic e i r = acyclic (D.from e) e r.way (step i refl r.walk)

-- a walk has one arc at most out of each node
pub unique_tail : {D : Arcs} → IsAcyclic D → {u v : ℕ} {es : List ℕ} → Walk D u es v → (e e' : ℕ) → In e es → In e' es → D.from e ≡ D.from e' → e ≡ e'
unique_tail acyclic (stay q) e e' i i' s = absurd (not_in_nil i)
unique_tail acyclic (step a f r) e e' (here q) (here q') s = q ∙ sym q'
unique_tail {D} acyclic (step {e = x} a f r) e e' (here q) (there j') s =
    absurd (no_loop acyclic x a (reach_trans (on_walk r j').before (reach_refl (sym s ∙ ap D.from q))))
unique_tail {D} acyclic (step {e = x} a f r) e e' (there j) (here q') s =
    absurd (no_loop acyclic x a (reach_trans (on_walk r j).before (reach_refl (s ∙ ap D.from q'))))
unique_tail acyclic (step a f r) e e' (there j) (there j') s = unique_tail acyclic r e e' j j' s

-- no arc of a walk begins at the walk's end
pub none_from_end : {D : Arcs} → IsAcyclic D → {u v e : ℕ} {es : List ℕ} → Walk D u es v → In e es → D.from e ≡ v → ⊥
none_from_end acyclic k i q =
    let h = on_walk k i in
    no_loop acyclic _ h.arc (reach_trans h.after (reach_refl (sym q)))

-- two walks, the second from the end of the first, share no arc
pub apart : {D : Arcs} → IsAcyclic D → {u v w e : ℕ} {es fs : List ℕ} → Walk D u es v → Walk D v fs w → In e es → In e fs → ⊥
apart acyclic k k' i i' =
    let h = on_walk k i in
    let h' = on_walk k' i' in
    no_loop acyclic _ h.arc (reach_trans h.after h'.before)

pub walk_once : {D : Arcs} → IsAcyclic D → {u v : ℕ} {es : List ℕ} → Walk D u es v → NoRepeat es
walk_once acyclic (stay q) = tt
walk_once acyclic (step a f r) = ((λ i. no_loop acyclic _ a (on_walk r i).before), walk_once acyclic r)

-- where an arc of a walk doesn't begin where the walk does, an arc of the walk ends there
pub record Arrives (D : Arcs) (es : List ℕ) (v : ℕ) : Type 0 where
  pub arc : ℕ
  pub on : In arc es
  pub ends : D.to arc ≡ v

pub arrives : {D : Arcs} {u v : ℕ} {es : List ℕ} → Walk D u es v → (e : ℕ) → In e es → (D.from e ≡ u) ⊎ Arrives D es (D.from e)
arrives (stay q) e i = absurd (not_in_nil i)
arrives {D} (step a f r) e (here q) = inl (ap D.from q ∙ f)
arrives (step {e = x} a f r) e (there j) = elim (arrives r e j) [
  | inl q ↦ inr (record { arc = x; on = here refl; ends = sym q })
  | inr h ↦ inr (record { arc = h.arc; on = there h.on; ends = h.ends })
]

-- where an arc of a walk doesn't end where the walk does, an arc of the walk begins there
pub record Departs (D : Arcs) (es : List ℕ) (v : ℕ) : Type 0 where
  pub arc : ℕ
  pub on : In arc es
  pub begins : D.from arc ≡ v

pub departs : {D : Arcs} {u v : ℕ} {es : List ℕ} → Walk D u es v → (e : ℕ) → In e es → (D.to e ≡ v) ⊎ Departs D es (D.to e)
departs (stay q) e i = absurd (not_in_nil i)
departs {D} (step a f (stay p)) e (here q) = inl (ap D.to q ∙ p)
departs {D} (step a f (step {e = x} b k r)) e (here q) = inr (record { arc = x; on = there (here refl); begins = k ∙ ap D.to (sym q) })
departs (step a f r) e (there j) = elim (departs r e j) [
  | inl q ↦ inl q
  | inr h ↦ inr (record { arc = h.arc; on = there h.on; begins = h.begins })
]

-- two arcs of one walk are one, or one comes before the other
pub in_order : {D : Arcs} {u v : ℕ} {es : List ℕ} → Walk D u es v → (e e' : ℕ) → In e es → In e' es → (e ≡ e') ⊎ (Reaches D (D.to e) (D.from e') ⊎ Reaches D (D.to e') (D.from e))
in_order (stay q) e e' i i' = absurd (not_in_nil i)
in_order (step a f r) e e' (here q) (here q') = inl (q ∙ sym q')
in_order {D} (step a f r) e e' (here q) (there j') = inr (inl (reach_trans (reach_refl (ap D.to q)) (on_walk r j').before))
in_order {D} (step a f r) e e' (there j) (here q') = inr (inr (reach_trans (reach_refl (ap D.to q')) (on_walk r j).before))
in_order (step a f r) e e' (there j) (there j') = in_order r e e' j j'

-- ---- a part of a walk
-- the list b has p between what leads to it and what leads on
pub record Part (D : Arcs) (u : ℕ) (b : List ℕ) (w x : ℕ) (p : List ℕ) (y : ℕ) : Type 0 where
  pub before : List ℕ
  pub after : List ℕ
  pub is : b ≡ before ++ (p ++ after)
  pub first : Walk D u before x
  pub last : Walk D y after w

pub record Front (D : Arcs) (b : List ℕ) (w : ℕ) (p : List ℕ) (y : ℕ) : Type 0 where
  pub after : List ℕ
  pub is : b ≡ p ++ after
  pub last : Walk D y after w

-- two walks from one node whose arcs are those of a third, which has the first's end for its end: the second is a front of the first
pub front : {D : Arcs} → IsAcyclic D → {u x y w : ℕ} {b c p : List ℕ} → Walk D u c w → ((e : ℕ) → In e b → In e c) → Walk D x b w → Walk D x p y → ((e : ℕ) → In e p → In e c) → Front D b w p y
front acyclic {b = b} whole sub k (stay q) has = record { after = b; is = refl; last = walk_from q k }
front acyclic whole sub (stay q) (step a f r) has = absurd (none_from_end acyclic whole (has _ (here refl)) (f ∙ q))
front {D} acyclic {w = w} whole sub (step {e = z} {es = zs} a' f' r') (step {e = e} {es = es} a f r) has =
    let q : z ≡ e = unique_tail acyclic whole z e (sub z (here refl)) (has e (here refl)) (f' ∙ sym f) in
    let k : Walk D (D.to e) zs w = walk_from (ap D.to q) r' in
    let h = front acyclic whole (λ d i. sub d (there i)) k r (λ d i. has d (there i)) in
    record { after = h.after; is = ap (λ d. d ∷ zs) q ∙ ap (λ ds. e ∷ ds) h.is; last = h.last }

-- a walk of at least one arc whose arcs are all on b is a part of b
pub part : {D : Arcs} → IsAcyclic D → {u x y w e : ℕ} {b p : List ℕ} → Walk D u b w → Walk D x (e ∷ p) y → ((d : ℕ) → In d (e ∷ p) → In d b) → Part D u b w x (e ∷ p) y
part {D} acyclic {u} {x} {y} {w} {e} {b} {p} whole (step a f r) has =
    let c = cut_at (has e (here refl)) in
    let h = halves c.before (e ∷ c.after) (subst (λ z. Walk D u z w) c.is whole) in
    go c h.mid h.first h.second
  where
    go : (c : Cut e b) (m : ℕ) → Walk D u c.before m → Walk D m (e ∷ c.after) w → Part D u b w x (e ∷ p) y
    go c m first (step a' f' r') =
        let h = front acyclic whole (λ d i. subst (λ z. In d z) (sym c.is) (in_right c.before (there i))) r' r (λ d i. has d (there i)) in
        record {
          before = c.before;
          after = h.after;
          is = c.is ∙ ap (λ z. c.before ++ e ∷ z) h.is;
          first = walk_to (sym f' ∙ f) first;
          last = h.last;
        }

pub part_of : {D : Arcs} → IsAcyclic D → {u x y w : ℕ} {b : List ℕ} (p : List ℕ) (d : ℕ) → In d p → Walk D u b w → Walk D x p y → ((d : ℕ) → In d p → In d b) → Part D u b w x p y
part_of acyclic [] d i whole k has = absurd (not_in_nil i)
part_of acyclic (e ∷ p) d i whole k has = part acyclic whole k has
