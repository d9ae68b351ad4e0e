-- Loops that push items: the picture begins with what it had, and has the items of a function behind it.
--   pushed        one item more
--   same_frame, one_more   it leaves the frame, and there is one item more
--   length-items_by   how many items there are
--   each_count    the same in a picture
--   edge_name_is  what the table of edge names has at an edge
use Rattle.std.proofs.Common.{ℕ, zero, suc, [], ◌∷◌, ◌++◌, ◌≡◌, ◌+◌, refl, sym, ap, ◌∙◌, arith, append_assoc, length, ℤ, pos, slice_get, Some}
use Rattle.std.proofs.lemmas.List.{length-append}
use Rattle.std.proofs.lemmas.Option.{get_or_from_slice_get}
use Rattle.st_ids.specs.declared.names.Names.{Names}
use Rattle.st_shape.specs.declared.item.Item.{Item}
use Rattle.st_shape.specs.Rules.{Drawing}
use Rattle.st_picture.specs.Items.{items_by}
use Rattle.st_picture.specs.Naming.{edge_name}

pub pushed : (d : Drawing) (f : ℕ → Item) (v w : ℕ) (d' e : Drawing) (x : Item) → w ≡ suc v → x ≡ f v → d' ≡ record d { items = d.items ++ items_by f v } →
    e ≡ record d' { items = d'.items ++ x ∷ [] } → e ≡ record d { items = d.items ++ items_by f w }
pushed d f v w d' e x s r p q =
    q ∙ ap (λ z. let t : Drawing = record z { items = z.items ++ x ∷ [] } in t) p
    ∙ ap (λ z. let t : Drawing = record d { items = (d.items ++ items_by f v) ++ z ∷ [] } in t) r
    ∙ ap (λ z. let t : Drawing = record d { items = z } in t) (append_assoc d.items (items_by f v) (f v ∷ []))
    ∙ ap (λ z. let t : Drawing = record d { items = d.items ++ items_by f z } in t) (sym s)

pub same_frame : (d e : Drawing) (x : Item) → e ≡ record d { items = d.items ++ x ∷ [] } → e.frame ≡ d.frame
same_frame d e x q = ap (λ z. z.frame) q

pub one_more : (d e : Drawing) (x : Item) → e ≡ record d { items = d.items ++ x ∷ [] } → length e.items ≡ length d.items + 1
one_more d e x q =
    let n : length e.items ≡ length (d.items ++ x ∷ []) = ap (λ z. length z.items) q in
    let l = length-append d.items (x ∷ []) in
    omega arith

pub length-items_by : (f : ℕ → Item) (n : ℕ) → length (items_by f n) ≡ n
length-items_by f zero = refl
length-items_by f (suc n) = (let h = length-items_by f n in let l = length-append (items_by f n) (f n ∷ []) in omega arith)

pub each_count : (d : Drawing) (f : ℕ → Item) (v : ℕ) (d' : Drawing) → d' ≡ record d { items = d.items ++ items_by f v } → length d'.items ≡ length d.items + v
each_count d f v d' p =
    let q : length d'.items ≡ length (d.items ++ items_by f v) = ap (λ z. length z.items) p in
    let l = length-append d.items (items_by f v) in
    let k = length-items_by f v in
    omega arith

pub edge_name_is : (N : Names) (e : ℕ) (n : ℤ) → slice_get N.edge e ≡ Some n → edge_name N e ≡ n
unfolding edge_name
edge_name_is N e n q = get_or_from_slice_get N.edge e n (pos 0) q
