-- A picture that is read item by item.
use Rattle.std.proofs.Common.{◌≡◌, ℕ, ◌+◌, ◌<◌, ◌^◌, List, [], ◌∷◌, ◌++◌, length, refl, sym, ap, ◌∙◌, subst, arith, append_assoc, length-append}
use Rattle.std.proofs.lemmas.List.{append-nil}
use Rattle.std.specs.Prelude.{codes}
use Rattle.std.specs.List.{AllByRecursion}
use Rattle.st_shape.specs.declared.point.Point.{Point}
use Rattle.st_shape.specs.declared.item.Item.{Item}
use Rattle.st_shape.specs.declared.picture.Form.{Form}
use Rattle.st_shape.specs.Rules.{Drawing, IsFrame, IsItem, IsPicture}
use Rattle.eps_core.specs.Text.{front_lines, name_line, mark_line, item_lines, ended, text}
use Rattle.eps_core.specs.Reading.{HasRead}
use Rattle.eps_core.proofs.Grids.{ended-append, item_lines-append, text_parts}

abbrev pub drawing : Form → Point → List Item → Drawing
drawing form frame items = record { form = form; frame = frame; items = items }

all_more : (f : Point) (its : List Item) (it : Item) → AllByRecursion (IsItem f) its → IsItem f it → AllByRecursion (IsItem f) (its ++ it ∷ [])
all_more f [] it h i = (i, tt)
all_more f (x ∷ its) it h i = (h.0, all_more f its it h.1 i)

-- a picture with one item more
pub rules_more : (d : Drawing) (it : Item) → IsPicture d → IsItem d.frame it → length d.items + 1 < 2 ^ 31 → IsPicture (drawing d.form d.frame (d.items ++ it ∷ []))
rules_more d it h i few = record { frame = h.frame; items = all_more d.frame d.items it h.items i; few = omega (arith, few, length-append d.items (it ∷ [])) }

-- one more item was read
item_read : (front rest behind after : List ℕ) (its : List Item) (it : Item) (bytes : List ℕ)
    → bytes ≡ (front ++ ended (item_lines its)) ++ rest → rest ≡ name_line it ++ 10 ∷ behind → behind ≡ mark_line it ++ 10 ∷ after
    → bytes ≡ (front ++ ended (item_lines (its ++ it ∷ []))) ++ after
item_read front rest behind after its it bytes whole name mark =
    let one : rest ≡ ended (name_line it ∷ mark_line it ∷ []) ++ after =
    name ∙ ap (λ (l : List ℕ). name_line it ++ 10 ∷ l) mark ∙ sym (simp (append_assoc, append-nil) refl) in
    let more : ended (item_lines (its ++ it ∷ [])) ≡ ended (item_lines its) ++ ended (name_line it ∷ mark_line it ∷ []) =
    ap ended (item_lines-append its (it ∷ [])) ∙ ended-append (item_lines its) (item_lines (it ∷ [])) in
    whole ∙ ap (λ l. (front ++ ended (item_lines its)) ++ l) one
    ∙ sym (append_assoc (front ++ ended (item_lines its)) (ended (name_line it ∷ mark_line it ∷ [])) after)
    ∙ ap (λ l. l ++ after) (append_assoc front (ended (item_lines its)) (ended (name_line it ∷ mark_line it ∷ [])))
    ∙ ap (λ l. (front ++ l) ++ after) (sym more)

-- the last line was read
pub last_read : (d : Drawing) (bytes rest behind : List ℕ) → bytes ≡ (ended (front_lines d.form d.frame) ++ ended (item_lines d.items)) ++ rest
    → rest ≡ codes "%%EOF" ++ 10 ∷ behind → bytes ≡ text d ++ behind
last_read d bytes rest behind whole last =
    let read : List ℕ = ended (front_lines d.form d.frame) ++ ended (item_lines d.items) in
    whole ∙ ap (λ l. read ++ l) last ∙ sym (append_assoc read (ended (codes "%%EOF" ∷ [])) behind) ∙ ap (λ l. l ++ behind) (text_parts d)

read_first : (form : Form) (frame : Point) (bytes rest : List ℕ) → IsFrame frame → bytes ≡ ended (front_lines form frame) ++ rest → HasRead bytes (drawing form frame []) frame 7 rest
read_first form frame bytes rest h e = record {
  rules = record { frame = h; items = tt; few = omega arith };
  whole = e ∙ ap (λ l. l ++ rest) (sym (append-nil (ended (front_lines form frame))));
  same = refl;
  number = refl;
  room = omega (arith, ap length e, length-append (ended (front_lines form frame)) rest);
}

pub read_none : (form : Form) (frame : Point) (ls : List (List ℕ)) (d : Drawing) (bytes rest : List ℕ)
    → IsFrame frame → d ≡ drawing form frame [] → ls ≡ front_lines form frame → bytes ≡ ended ls ++ rest → HasRead bytes d frame 7 rest
read_none form frame ls d bytes rest h is front e =
    subst (λ x. HasRead bytes x frame 7 rest) (sym is) (read_first form frame bytes rest h (e ∙ ap (λ x. ended x ++ rest) front))

-- where a line is next there is room for one item more
pub room_more : (bytes : List ℕ) (d : Drawing) (frame : Point) (line : ℕ) (rest behind name : List ℕ)
    → HasRead bytes d frame line rest → rest ≡ name ++ 10 ∷ behind → length bytes < 2 ^ 31 → length d.items + 1 < 2 ^ 31
room_more bytes d frame line rest behind name h n few = omega (arith, h.room, ap length n, length-append name (10 ∷ behind), few)

more_at : (bytes : List ℕ) (d : Drawing) (frame : Point) (line : ℕ) (rest behind after : List ℕ) (it : Item)
    → HasRead bytes d frame line rest → rest ≡ name_line it ++ 10 ∷ behind → behind ≡ mark_line it ++ 10 ∷ after → IsItem frame it → length bytes < 2 ^ 31
    → HasRead bytes (drawing d.form d.frame (d.items ++ it ∷ [])) frame (line + 2) after
more_at bytes d frame line rest behind after it h name mark i few = record {
  rules = rules_more d it h.rules (subst (λ f. IsItem f it) (sym h.same) i) (room_more bytes d frame line rest behind (name_line it) h name few);
  whole = item_read (ended (front_lines d.form d.frame)) rest behind after d.items it bytes h.whole name mark;
  same = h.same;
  number = omega (arith, h.number, length-append d.items (it ∷ []));
  room = omega (arith, h.room, length-append d.items (it ∷ []), ap length name, ap length mark, length-append (name_line it) (10 ∷ behind), length-append (mark_line it) (10 ∷ after));
}

pub read_more : (bytes : List ℕ) (d d' : Drawing) (frame : Point) (line : ℕ) (rest after : List ℕ) (it : Item)
    → HasRead bytes d frame line rest → rest ≡ name_line it ++ 10 ∷ (mark_line it ++ 10 ∷ after) → IsItem frame it → length bytes < 2 ^ 31
    → d' ≡ drawing d.form d.frame (d.items ++ it ∷ []) → HasRead bytes d' frame (line + 2) after
read_more bytes d d' frame line rest after it h whole i few is =
    subst (λ x. HasRead bytes x frame (line + 2) after) (sym is) (more_at bytes d frame line rest (mark_line it ++ 10 ∷ after) after it h whole refl i few)

pub read_all : (bytes : List ℕ) (d : Drawing) (frame : Point) (line : ℕ) (rest : List ℕ) → HasRead bytes d frame line rest → rest ≡ codes "%%EOF" ++ 10 ∷ [] → bytes ≡ text d
read_all bytes d frame line rest h last = last_read d bytes rest [] h.whole last ∙ append-nil (text d)
