-- Linked records and the tables that they stand for.
use Rattle.std.proofs.Common.{◌≡◌, ℕ, ◌*◌, ◌<◌, List, length, get_or, Option, Some, None, IsSome, unwrap_or, refl, sym, ap, ◌∙◌, subst, arith}
use Rattle.std.proofs.lemmas.List.{get_or-map}
use Rattle.std.proofs.lemmas.List.FromFn.{get_or-map-range_with_len, length-map-range_with_len}
use Rattle.slab.specs.Slab.{Slab, get}
use Rattle.st_ids.specs.Ends.{twin}
use Rattle.st_map.specs.declared.links.End.{End}
use Rattle.st_map.specs.Links.{AreLinks, IsLinked, LinkTables, ccw_at, cw_at, end_in, first_at, key_of, links_of, no_end}

-- the record of an end
abbrev pub record_of : (ℕ → ℕ) → (ℕ → ℕ) → (ℕ → ℕ) → (ℕ → ℕ) → ℕ → End
record_of key other f g d = record { dart = d; twin = other d; cw = key (f d); ccw = key (g d) }

module _ (s : Slab End) (n : ℕ) (key other f g : ℕ → ℕ) (L : IsLinked s n key other f g) where
  pub end_is : (d : ℕ) → d < n → end_in s (key d) ≡ record_of key other f g d
  end_is d l = ap (λ (o : Option End). unwrap_or o no_end) (L.each d l)

  pub dart_is : (d : ℕ) → d < n → (end_in s (key d)).dart ≡ d
  dart_is d l = ap (λ (r : End). r.dart) (end_is d l)

  -- each end has a key of its own
  pub key_one : (c d : ℕ) → c < n → d < n → key c ≡ key d → c ≡ d
  key_one c d lc ld q = sym (dart_is c lc) ∙ ap (λ k. (end_in s k).dart) q ∙ dart_is d ld

  pub is_there : (d : ℕ) → d < n → IsSome (get s (key d))
  is_there d l = subst IsSome (sym (L.each d l)) refl

  pub cw_is : (d : ℕ) → d < n → (end_in s (end_in s (key d)).cw).dart ≡ f d
  cw_is d l = ap (λ (r : End). (end_in s r.cw).dart) (end_is d l) ∙ dart_is (f d) (L.cw_in d l)

  pub ccw_is : (d : ℕ) → d < n → (end_in s (end_in s (key d)).ccw).dart ≡ g d
  ccw_is d l = ap (λ (r : End). (end_in s r.ccw).dart) (end_is d l) ∙ dart_is (g d) (L.ccw_in d l)

  -- with other names of the next ends
  pub renamed : (f' g' : ℕ → ℕ) → ((d : ℕ) → d < n → f d ≡ f' d) → ((d : ℕ) → d < n → g d ≡ g' d) → IsLinked s n key other f' g'
  renamed f' g' qf qg = record {
    each = λ d l. L.each d l ∙ ap (λ x. Some (let r : End = record { dart = d; twin = other d; cw = key x; ccw = key (g d) } in r)) (qf d l)
        ∙ ap (λ x. Some (let r : End = record { dart = d; twin = other d; cw = key (f' d); ccw = key x } in r)) (qg d l);
    cw_in = λ d l. subst (λ x. x < n) (qf d l) (L.cw_in d l);
    ccw_in = λ d l. subst (λ x. x < n) (qg d l) (L.ccw_in d l);
  }

-- links by any tables are the links by those that they stand for
pub linked_by : (s : Slab End) (keys : List (ℕ × ℕ)) (other f g : ℕ → ℕ) → IsLinked s (2 * length keys) (key_of keys) other f g
    → IsLinked s (2 * length keys) (key_of keys) other (cw_at s keys) (ccw_at s keys)
linked_by s keys other f g L =
    renamed s (2 * length keys) (key_of keys) other f g L (cw_at s keys) (ccw_at s keys)
    (λ d l. sym (cw_is s (2 * length keys) (key_of keys) other f g L d l)) (λ d l. sym (ccw_is s (2 * length keys) (key_of keys) other f g L d l))

module _ (s : Slab End) (keys : List (ℕ × ℕ)) (first : List (Option ℕ)) (m : ℕ) (n : ℕ) where
  abbrev pub value : LinkTables
  value = links_of s keys first m n

  pub length-cw : length value.cw ≡ 2 * length keys
  length-cw = length-map-range_with_len (cw_at s keys) 0 (2 * length keys)

  pub length-ccw : length value.ccw ≡ 2 * length keys
  length-ccw = length-map-range_with_len (ccw_at s keys) 0 (2 * length keys)

  pub cw_read : (d : ℕ) → d < 2 * length keys → get_or value.cw d 0 ≡ cw_at s keys d
  cw_read d l = get_or-map-range_with_len (cw_at s keys) 0 (2 * length keys) d d 0 l (omega arith)

  pub ccw_read : (d : ℕ) → d < 2 * length keys → get_or value.ccw d 0 ≡ ccw_at s keys d
  ccw_read d l = get_or-map-range_with_len (ccw_at s keys) 0 (2 * length keys) d d 0 l (omega arith)

  pub first_read : (v : ℕ) → v < length first → get_or value.first v 0 ≡ first_at s (get_or first v None)
  first_read v l = get_or-map (first_at s) first v None 0 l

  module _ (A : AreLinks s keys first) where
    -- the record of an end, and those of its neighbours
    pub end_there : (d : ℕ) → d < 2 * length keys → IsSome (get s (key_of keys d))
    end_there = is_there s (2 * length keys) (key_of keys) (λ d. key_of keys (twin d)) (cw_at s keys) (ccw_at s keys) A.linked

    own_end : (d : ℕ) → d < 2 * length keys → end_in s (key_of keys d) ≡ record_of (key_of keys) (λ d. key_of keys (twin d)) (cw_at s keys) (ccw_at s keys) d
    own_end = end_is s (2 * length keys) (key_of keys) (λ d. key_of keys (twin d)) (cw_at s keys) (ccw_at s keys) A.linked

    pub cw_there : (d : ℕ) → d < 2 * length keys → IsSome (get s (end_in s (key_of keys d)).cw)
    cw_there d l = subst (λ (r : End). IsSome (get s r.cw)) (sym (own_end d l)) (end_there (cw_at s keys d) (A.linked.cw_in d l))

    pub ccw_there : (d : ℕ) → d < 2 * length keys → IsSome (get s (end_in s (key_of keys d)).ccw)
    ccw_there d l = subst (λ (r : End). IsSome (get s r.ccw)) (sym (own_end d l)) (end_there (ccw_at s keys d) (A.linked.ccw_in d l))

    pub first_there : (v k : ℕ) → get_or first v None ≡ Some k → IsSome (get s k)
    first_there v k q = let r = A.firsts v k q in subst (λ z. IsSome (get s z)) (sym r.2) (end_there r.0 r.1)

  -- what is asked of an end and of a vertex
  module _ (t : LinkTables) (q : value ≡ t) where
    pub asked_cw : (d : ℕ) → d < length t.cw → d < 2 * length keys
    asked_cw d l = omega (arith, length-cw, ap (λ (z : LinkTables). length z.cw) q)

    pub asked_ccw : (d : ℕ) → d < length t.ccw → d < 2 * length keys
    asked_ccw d l = omega (arith, length-ccw, ap (λ (z : LinkTables). length z.ccw) q)

    pub answer_cw : (d : ℕ) → d < length t.cw → get_or t.cw d 0 ≡ cw_at s keys d
    answer_cw d l = ap (λ (z : LinkTables). get_or z.cw d 0) (sym q) ∙ cw_read d (asked_cw d l)

    pub answer_ccw : (d : ℕ) → d < length t.ccw → get_or t.ccw d 0 ≡ ccw_at s keys d
    answer_ccw d l = ap (λ (z : LinkTables). get_or z.ccw d 0) (sym q) ∙ ccw_read d (asked_ccw d l)

-- what a read of a record gives
pub read_end : (s : Slab End) (k : ℕ) (r : End) → get s k ≡ Some r → r ≡ end_in s k
read_end s k r q = sym (ap (λ (o : Option End). unwrap_or o no_end) q)
