-- What an item's first line alone tells.
use Rattle.std.proofs.Common.{◌≡◌, ℕ, Bool, true, false, List, [], ◌∷◌, ◌++◌, Some, None, ℤ, refl, sym, ap, ◌∙◌, subst, arith}
use Rattle.std.specs.Prelude.{if◌then◌else◌, codes, slice_index, ◌==◌}
use Rattle.std.specs.Fmt.{signed_decimal}
use Rattle.st_shape.specs.declared.point.Point.{Point}
use Rattle.st_shape.specs.declared.item.Item.{Item}
use Rattle.st_shape.specs.declared.item.Item.TheVariants.{Dot, Bar, Line, Rect, Face, Label}
use Rattle.st_shape.specs.Rules.{FitsFrame, HasNames, IsFrame, IsItem}
use Rattle.eps_core.specs.Meaning.{IsPlain}
use Rattle.eps_core.specs.Text.{spaced_words, name_line, mark_line}
use Rattle.eps_core.specs.Decoding.{behind_word, decoded_point, past_place, past_step, decoded_bar, ends, decoded_label, dot_or_bar, line_or_box, two_or_more, three_or_more, four_or_box, decoded}
use Rattle.eps_core.specs.Reading.{NamesNone, MarksNone, IsFirstRefused}
use Rattle.eps_core.proofs.Cuts.{plain_no_line}
use Rattle.eps_core.proofs.Endings.{line_one}
use Rattle.eps_core.proofs.Grids.{fits_corner}
use Rattle.eps_core.proofs.Plain.{items_plain}
use Rattle.eps_core.proofs.Items.{one_name, edge_decoded, face_number, decode_back}

pick : (b : Bool) (x y : Item) (l : List ℕ) → name_line x ≡ l → name_line y ≡ l → name_line (if b then x else y) ≡ l
pick true x y l p q = p
pick false x y l p q = q

dot_name : (n : ℤ) (s : List ℕ) → name_line (dot_or_bar n s) ≡ spaced_words (codes "%v") (signed_decimal n ∷ [])
unfolding dot_or_bar
dot_name n s = pick (slice_index (past_place s) 0 == 52) (Dot n (decoded_point 36 s)) (decoded_bar n (decoded_point 36 s) (decoded_point 36 (past_step s))) _ refl refl

four_name : (n t h : ℤ) (a b c : Point) (s : List ℕ) → name_line (four_or_box n t h a b c s) ≡ spaced_words (codes "%e") (signed_decimal n ∷ signed_decimal t ∷ signed_decimal h ∷ [])
unfolding four_or_box
four_name n t h a b c s = pick (ends (past_step s)) (Line n t h (a ∷ b ∷ c ∷ decoded_point 36 s ∷ [])) (Rect n t h a c) _ refl refl

three_name : (n t h : ℤ) (a b : Point) (s : List ℕ) → name_line (three_or_more n t h a b s) ≡ spaced_words (codes "%e") (signed_decimal n ∷ signed_decimal t ∷ signed_decimal h ∷ [])
unfolding three_or_more
three_name n t h a b s = pick (ends (past_step s)) (Line n t h (a ∷ b ∷ decoded_point 36 s ∷ [])) (four_or_box n t h a b (decoded_point 36 s) (past_step s)) _ refl (four_name n t h a b (decoded_point 36 s) (past_step s))

two_name : (n t h : ℤ) (a : Point) (s : List ℕ) → name_line (two_or_more n t h a s) ≡ spaced_words (codes "%e") (signed_decimal n ∷ signed_decimal t ∷ signed_decimal h ∷ [])
unfolding two_or_more
two_name n t h a s = pick (ends (past_step s)) (Line n t h (a ∷ decoded_point 36 s ∷ [])) (three_or_more n t h a (decoded_point 36 s) (past_step s)) _ refl (three_name n t h a (decoded_point 36 s) (past_step s))

edge_name : (n t h : ℤ) (s : List ℕ) → name_line (line_or_box n t h s) ≡ spaced_words (codes "%e") (signed_decimal n ∷ signed_decimal t ∷ signed_decimal h ∷ [])
unfolding line_or_box
edge_name n t h s = two_name n t h (decoded_point 36 s) (past_step s)

mark_plain : (f : Point) (it : Item) → IsFrame f → IsItem f it → IsPlain (mark_line it)
mark_plain f it h i = (items_plain f (it ∷ []) h (i, tt)).1.0

-- an item's first line is decoded to some item that has it, whatever the second line
pub name_back : (it : Item) (mark : List ℕ) → HasNames it → (x : Item) × (decoded (name_line it) mark ≡ Some x) × (name_line x ≡ name_line it)
unfolding decoded
name_back (Dot n p) mark h = (dot_or_bar n (behind_word mark), ap (λ (z : ℤ). Some (dot_or_bar z (behind_word mark))) (one_name 118 n (omega arith, omega arith) h), dot_name n (behind_word mark))
name_back (Bar n y from to) mark h = (dot_or_bar n (behind_word mark), ap (λ (z : ℤ). Some (dot_or_bar z (behind_word mark))) (one_name 118 n (omega arith, omega arith) h), dot_name n (behind_word mark))
name_back (Line n t k points) mark h = (line_or_box n t k (behind_word mark), edge_decoded n t k mark h.0 h.1 h.2, edge_name n t k (behind_word mark))
name_back (Rect n t k low high) mark h = (line_or_box n t k (behind_word mark), edge_decoded n t k mark h.0 h.1 h.2, edge_name n t k (behind_word mark))
name_back (Face n x from to) mark h = (
  Face n (decoded_point 36 (behind_word mark)).x (decoded_point 36 (behind_word mark)).y (decoded_point 36 (past_step (behind_word mark))).y,
  ap (λ (z : ℕ). Some (Face z (decoded_point 36 (behind_word mark)).x (decoded_point 36 (behind_word mark)).y (decoded_point 36 (past_step (behind_word mark))).y)) (face_number n h),
  refl,
)
name_back (Label n p text) mark h =
    (Label n (decoded_point 42 mark) (decoded_label (past_step mark)), ap (λ (z : ℤ). Some (Label z (decoded_point 42 mark) (decoded_label (past_step mark)))) (one_name 108 n (omega arith, omega arith) h), refl)

pub none_named : (name mark : List ℕ) → decoded name mark ≡ None → NamesNone name
none_named name mark e = λ it h is.
    let b = name_back it mark h in
    let k : None ≡ Some b.0 = sym e ∙ ap (λ (l : List ℕ). decoded l mark) is ∙ b.1 in
    cc

pub other_named : (name mark : List ℕ) (x : Item) → decoded name mark ≡ Some x → (name ≡ name_line x → ⊥) → NamesNone name
other_named name mark x e other = λ it h is.
    let b = name_back it mark h in
    let k : Some x ≡ Some b.0 = sym e ∙ ap (λ (l : List ℕ). decoded l mark) is ∙ b.1 in
    let s : x ≡ b.0 = cc in
    other (is ∙ sym b.2 ∙ ap name_line (sym s))

pub none_marked : (frame : Point) (name mark rest after : List ℕ) (x : Item) → IsFrame frame → HasNames x → decoded name mark ≡ Some x → name ≡ name_line x
    → rest ≡ mark ++ 10 ∷ after → IsPlain mark → (FitsFrame frame x × (mark ≡ mark_line x) → ⊥) → MarksNone frame name rest
none_marked frame name mark rest after x f h e n s p apart = record {
  named = x;
  names = h;
  is = n;
  none = λ it i ne behind t.
      let one = line_one mark (mark_line it) after behind p (mark_plain frame it f i) (sym s ∙ t) in
      let me : mark ≡ mark_line it = one.0 in
      let k : Some x ≡ Some it = sym e ∙ ap (λ (l : List ℕ). decoded l mark) ne ∙ ap (λ (l : List ℕ). decoded (name_line it) l) me ∙ decode_back it i.0 (fits_corner frame it f i.1) in
      let same : it ≡ x = cc in
      apart (subst (λ y. FitsFrame frame y) same i.1, me ∙ ap mark_line same);
}

-- the second line is not there
pub unmarked : (frame : Point) (name rest : List ℕ) (x : Item) → HasNames x → name ≡ name_line x → IsPlain rest → MarksNone frame name rest
unmarked frame name rest x h n p = record { named = x; names = h; is = n; none = λ it i ne behind t. plain_no_line rest (mark_line it) behind p t }

-- no line is next
pub no_first : (rest : List ℕ) → IsPlain rest → IsFirstRefused rest
no_first rest p = λ name behind e _. absurd (plain_no_line rest name behind p e)

-- this line is next
pub bad_first : (rest found after : List ℕ) → rest ≡ found ++ 10 ∷ after → IsPlain found → (found ≡ codes "%%EOF" → ⊥) → NamesNone found → IsFirstRefused rest
bad_first rest found after s p apart none = λ name behind e q.
    let one = line_one found name after behind p q (sym s ∙ e) in
    (λ last. apart (one.0 ∙ last), λ it h is. none it h (one.0 ∙ is))
