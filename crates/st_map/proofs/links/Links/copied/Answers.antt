use Rattle.std.proofs.Common.{◌≡◌, ℕ, ◌*◌, List, map, length, get_or, Option, None, is_some, count_by, sym, ap, ◌∙◌, subst}
use Rattle.std.specs.List.{range_with_len}
use Rattle.slab.specs.Slab.{get}
use Rattle.st_map.specs.declared.links.End.{End}
use Rattle.st_map.specs.Links.{AreLinks, LinkTables, ccw_at, cw_at, first_at}
use Rattle.st_map.proofs.LinkLoops.{ccw_too, cloned, cw_too, first_too, links_too}
use Rattle.st_map.proofs.links.Links.copied.Goals as goal

pub invariant_of-result : goal.invariant_of-result
invariant_of-result c =
    let slots : c.in_ok-clone.field-0.slots ≡ c.self.inside.ends.slots = cloned _ (λ a b q. q) c.self.inside.ends.slots c.in_ok-clone.field-0.slots c.in_ok-clone.ensures.cases.slots in
    let same : (k : ℕ) → get c.in_ok-clone.field-0 k ≡ get c.self.inside.ends k = λ k. ap (λ (z : List (Option End)). get_or z k None) slots in
    let keys : c.in_ok-from_slice.field-0.items ≡ c.self.inside.keys.items = c.in_ok-from_slice.ensures.items ∙ c.deref.ensures.value in
    let first : c.in_ok-from_slice-2.field-0.items ≡ c.self.inside.first.items = c.in_ok-from_slice-2.ensures.items ∙ c.deref-2.ensures.value in
    subst (λ (z : List (ℕ × ℕ)). AreLinks c.in_ok-clone.field-0 z c.in_ok-from_slice-2.field-0.items) (sym keys)
    (subst (λ (z : List (Option ℕ)). AreLinks c.in_ok-clone.field-0 c.self.inside.keys.items z) (sym first)
    (links_too c.self.inside.ends c.in_ok-clone.field-0 c.self.inside.keys.items c.self.inside.first.items same c.self.invariant (ap (λ (z : List (Option End)). count_by is_some z) slots)))

pub returns-clause-cw : goal.returns-clause-cw
returns-clause-cw c =
    let slots : c.in_ok-clone.field-0.slots ≡ c.self.inside.ends.slots = cloned _ (λ a b q. q) c.self.inside.ends.slots c.in_ok-clone.field-0.slots c.in_ok-clone.ensures.cases.slots in
    let same : (k : ℕ) → get c.in_ok-clone.field-0 k ≡ get c.self.inside.ends k = λ k. ap (λ (z : List (Option End)). get_or z k None) slots in
    let keys : c.in_ok-from_slice.field-0.items ≡ c.self.inside.keys.items = c.in_ok-from_slice.ensures.items ∙ c.deref.ensures.value in
    let first : c.in_ok-from_slice-2.field-0.items ≡ c.self.inside.first.items = c.in_ok-from_slice-2.ensures.items ∙ c.deref-2.ensures.value in
    ap (λ (z : List (ℕ × ℕ)). map (cw_at c.in_ok-clone.field-0 z) (range_with_len 0 (2 * length z))) keys
    ∙ cw_too c.self.inside.ends c.in_ok-clone.field-0 c.self.inside.keys.items c.self.inside.first.items same c.self.invariant ∙ ap (λ (z : LinkTables). z.cw) c.self.view_is

pub returns-clause-ccw : goal.returns-clause-ccw
returns-clause-ccw c =
    let slots : c.in_ok-clone.field-0.slots ≡ c.self.inside.ends.slots = cloned _ (λ a b q. q) c.self.inside.ends.slots c.in_ok-clone.field-0.slots c.in_ok-clone.ensures.cases.slots in
    let same : (k : ℕ) → get c.in_ok-clone.field-0 k ≡ get c.self.inside.ends k = λ k. ap (λ (z : List (Option End)). get_or z k None) slots in
    let keys : c.in_ok-from_slice.field-0.items ≡ c.self.inside.keys.items = c.in_ok-from_slice.ensures.items ∙ c.deref.ensures.value in
    let first : c.in_ok-from_slice-2.field-0.items ≡ c.self.inside.first.items = c.in_ok-from_slice-2.ensures.items ∙ c.deref-2.ensures.value in
    ap (λ (z : List (ℕ × ℕ)). map (ccw_at c.in_ok-clone.field-0 z) (range_with_len 0 (2 * length z))) keys
    ∙ ccw_too c.self.inside.ends c.in_ok-clone.field-0 c.self.inside.keys.items c.self.inside.first.items same c.self.invariant ∙ ap (λ (z : LinkTables). z.ccw) c.self.view_is

pub returns-clause-first : goal.returns-clause-first
returns-clause-first c =
    let slots : c.in_ok-clone.field-0.slots ≡ c.self.inside.ends.slots = cloned _ (λ a b q. q) c.self.inside.ends.slots c.in_ok-clone.field-0.slots c.in_ok-clone.ensures.cases.slots in
    let same : (k : ℕ) → get c.in_ok-clone.field-0 k ≡ get c.self.inside.ends k = λ k. ap (λ (z : List (Option End)). get_or z k None) slots in
    let keys : c.in_ok-from_slice.field-0.items ≡ c.self.inside.keys.items = c.in_ok-from_slice.ensures.items ∙ c.deref.ensures.value in
    let first : c.in_ok-from_slice-2.field-0.items ≡ c.self.inside.first.items = c.in_ok-from_slice-2.ensures.items ∙ c.deref-2.ensures.value in
    ap (λ (z : List (Option ℕ)). map (first_at c.in_ok-clone.field-0) z) first
    ∙ first_too c.self.inside.ends c.in_ok-clone.field-0 c.self.inside.keys.items c.self.inside.first.items same c.self.invariant ∙ ap (λ (z : LinkTables). z.first) c.self.view_is
