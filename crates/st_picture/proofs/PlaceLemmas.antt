-- What stands where in a picture's list of items.
--   all_each, all_labels, fits   what holds of each figure, line and label holds of all items
--   first_place, later_place     the items of `each f n ++ rest`, by index
--   stands                       what stands at an index of a picture
--   vertex_is, line_is           where the figure of a vertex stands, and the line of an edge
--   labels_same                  labels at the same places are the same
use Rattle.std.proofs.Common.{ℕ, zero, suc, List, [], ◌∷◌, ◌++◌, ◌≡◌, ◌<◌, ◌+◌, ◌-◌, ◌⊎◌, inl, inr, refl, sym, ap, ◌∙◌, subst, arith, append_assoc, Option, Some, None, slice_get, ℤ}
use Rattle.std.specs.List.{AllByRecursion}
use Rattle.std.proofs.lemmas.Bool.{cases_lt}
use Rattle.st_ids.specs.declared.names.Names.{Names}
use Rattle.st_shape.specs.declared.item.Item.{Item}
use Rattle.st_shape.specs.declared.item.Item.TheVariants.{Dot, Bar, Line, Rect, Face, Label}
use Rattle.st_shape.specs.declared.picture.Form.{Form}
use Rattle.st_shape.specs.declared.point.Point.{Point}
use Rattle.st_shape.specs.Rules.{FitsFrame}
use Rattle.st_sides.specs.Sides.{SidesValue, edge_count}
use Rattle.st_picture.specs.Items.{items_by, label_items, labels, line, drawing}
use Rattle.st_picture.specs.Naming.{vertex_name, label_text}

-- ---- properties of all items
pub all_append : (P : Item → Type 0) (xs ys : List Item) → AllByRecursion P xs → AllByRecursion P ys → AllByRecursion P (xs ++ ys)
all_append P [] ys h k = k
all_append P (x ∷ xs) ys h k = (h.0, all_append P xs ys h.1 k)

pub all_each : (P : Item → Type 0) (f : ℕ → Item) (n : ℕ) → ((i : ℕ) → i < n → P (f i)) → AllByRecursion P (items_by f n)
all_each P f zero h = tt
all_each P f (suc n) h = all_append P (items_by f n) (f n ∷ []) (all_each P f n (λ i l. h i (omega arith))) (h n (omega arith), tt)

all_label : (P : Item → Type 0) (name : ℤ) (p : Point) (t : Option (List ℕ)) → ((text : List ℕ) → t ≡ Some text → P (Label name p text)) → AllByRecursion P (label_items name p t)
all_label P name p None h = tt
all_label P name p (Some text) h = (h text refl, tt)

pub all_labels : (P : Item → Type 0) (N : Names) (place : ℕ → Point) (n : ℕ) → ((v : ℕ) (text : List ℕ) → v < n → label_text N v ≡ Some text → P (Label (vertex_name N v) (place v) text)) → AllByRecursion P (labels N place n)
all_labels P N place zero h = tt
all_labels P N place (suc n) h = all_append P (labels N place n) (label_items (vertex_name N n) (place n) (label_text N n))
    (all_labels P N place n (λ v text l. h v text (omega arith)))
    (all_label P (vertex_name N n) (place n) (label_text N n) (λ text q. h n text (omega arith) q))

some_same : (x y : Item) → Some x ≡ Some y → x ≡ y
some_same x y e = cc e

none_some : (y : Item) → None ≡ Some y → ⊥
none_some y e = cc e

pub all_at : (P : Item → Type 0) (xs : List Item) (i : ℕ) (x : Item) → AllByRecursion P xs → slice_get xs i ≡ Some x → P x
all_at P [] i x h q = absurd (none_some x q)
all_at P (y ∷ xs) zero x h q = subst P (some_same y x q) h.0
all_at P (y ∷ xs) (suc i) x h q = all_at P xs i x h.1 q

-- ---- places
each_step : (f : ℕ → Item) (n : ℕ) (rest : List Item) (i : ℕ) → slice_get (items_by f (suc n) ++ rest) i ≡ slice_get (items_by f n ++ (f n ∷ rest)) i
each_step f n rest i = ap (λ zs. slice_get zs i) (append_assoc (items_by f n) (f n ∷ []) rest)

pub later_place : (f : ℕ → Item) (n : ℕ) (rest : List Item) (k : ℕ) → slice_get (items_by f n ++ rest) (n + k) ≡ slice_get rest k
later_place f zero rest k = (let q : zero + k ≡ k = omega arith in ap (slice_get rest) q)
later_place f (suc n) rest k =
    let q : suc n + k ≡ n + suc k = omega arith in
    each_step f n rest (suc n + k) ∙ ap (slice_get (items_by f n ++ (f n ∷ rest))) q ∙ later_place f n (f n ∷ rest) (suc k)

pub first_place : (f : ℕ → Item) (n : ℕ) (rest : List Item) (i : ℕ) → i < n → slice_get (items_by f n ++ rest) i ≡ Some (f i)
first_place f zero rest i l = absurd (omega arith)
first_place f (suc n) rest i l = each_step f n rest i ∙ elim (cases_lt i n) [
  | inl h ↦ first_place f n (f n ∷ rest) i h
  | inr h ↦
      let q : i ≡ n = omega arith in
      let r : i ≡ n + 0 = omega arith in
      ap (slice_get (items_by f n ++ (f n ∷ rest))) r ∙ later_place f n (f n ∷ rest) 0 ∙ ap (λ z. Some (f z)) (sym q)
]

pub record Later (rest : List Item) (n i : ℕ) (x : Item) : Type 0 where
  pub k : ℕ
  pub place : i ≡ n + k
  pub is : slice_get rest k ≡ Some x

pub place_cases : (f : ℕ → Item) (n : ℕ) (rest : List Item) (i : ℕ) (x : Item) → slice_get (items_by f n ++ rest) i ≡ Some x → ((i < n) × (x ≡ f i)) ⊎ Later rest n i x
place_cases f n rest i x q = elim (cases_lt i n) [
  | inl l ↦ inl (l, some_same x (f i) (sym q ∙ first_place f n rest i l))
  | inr h ↦
      let e : i ≡ n + (i - n) = omega arith in
      inr (record { k = i - n; place = e; is = sym (later_place f n rest (i - n)) ∙ ap (slice_get (items_by f n ++ rest)) (sym e) ∙ q })
]

-- ---- a picture's items
abbrev pub IsLabel : Item → Type 0
IsLabel (Dot name p) = ⊥
IsLabel (Bar name y from to) = ⊥
IsLabel (Line name tail head points) = ⊥
IsLabel (Rect name tail head low high) = ⊥
IsLabel (Face number x from to) = ⊥
IsLabel (Label name p text) = Unit {0}

module _ (g : SidesValue) (N : Names) (form : Form) (frame : Point) (figure : ℕ → Item) (points : ℕ → List Point) (place : ℕ → Point) where
  abbrev items : List Item
  items = (drawing g N form frame figure points place).items

  pub data Stands (i : ℕ) (x : Item) : Type 0 where
    vertex_at : i < g.vertices → x ≡ figure i → Stands i x
    line_at : (e : ℕ) → e < edge_count g → i ≡ g.vertices + e → x ≡ line g N points e → Stands i x
    label_at : IsLabel x → Stands i x

  pub stands : (i : ℕ) (x : Item) → slice_get items i ≡ Some x → Stands i x
  stands i x q = elim (place_cases figure g.vertices (items_by (line g N points) (edge_count g) ++ labels N place g.vertices) i x q) [
    | inl h ↦ vertex_at h.0 h.1
    | inr h ↦ elim (place_cases (line g N points) (edge_count g) (labels N place g.vertices) h.k x h.is) [
      | inl m ↦ line_at h.k m.0 h.place m.1
      | inr m ↦ label_at (all_at IsLabel (labels N place g.vertices) m.k x (all_labels IsLabel N place g.vertices (λ v text l e. tt)) m.is)
    ]
  ]

  pub vertex_is : (v : ℕ) → v < g.vertices → slice_get items v ≡ Some (figure v)
  vertex_is v l = first_place figure g.vertices (items_by (line g N points) (edge_count g) ++ labels N place g.vertices) v l

  pub line_is : (e : ℕ) → e < edge_count g → slice_get items (g.vertices + e) ≡ Some (line g N points e)
  line_is e l = later_place figure g.vertices (items_by (line g N points) (edge_count g) ++ labels N place g.vertices) e ∙ first_place (line g N points) (edge_count g) (labels N place g.vertices) e l

  pub fits : ((v : ℕ) → v < g.vertices → FitsFrame frame (figure v)) → ((e : ℕ) → e < edge_count g → FitsFrame frame (line g N points e)) → ((v : ℕ) (text : List ℕ) → v < g.vertices → label_text N v ≡ Some text → FitsFrame frame (Label (vertex_name N v) (place v) text)) → AllByRecursion (FitsFrame frame) items
  fits a b c =
      all_append (FitsFrame frame) (items_by figure g.vertices) (items_by (line g N points) (edge_count g) ++ labels N place g.vertices) (all_each (FitsFrame frame) figure g.vertices a)
      (all_append (FitsFrame frame) (items_by (line g N points) (edge_count g)) (labels N place g.vertices) (all_each (FitsFrame frame) (line g N points) (edge_count g) b) (all_labels (FitsFrame frame) N place g.vertices c))

-- ---- pictures of the same figures, lines and places
pub each_same : (f h : ℕ → Item) (n : ℕ) → ((i : ℕ) → i < n → f i ≡ h i) → items_by f n ≡ items_by h n
each_same f h zero q = refl
each_same f h (suc n) q = ap (λ z. z ++ f n ∷ []) (each_same f h n (λ i l. q i (omega arith))) ∙ ap (λ z. items_by h n ++ z ∷ []) (q n (omega arith))

pub labels_same : (N : Names) (p q : ℕ → Point) (n : ℕ) → ((v : ℕ) → v < n → p v ≡ q v) → labels N p n ≡ labels N q n
labels_same N p q zero h = refl
labels_same N p q (suc n) h =
    ap (λ z. z ++ label_items (vertex_name N n) (p n) (label_text N n)) (labels_same N p q n (λ i l. h i (omega arith)))
    ∙ ap (λ z. labels N q n ++ label_items (vertex_name N n) z (label_text N n)) (h n (omega arith))
