-- The places at which a text is refused: there the next line is the first bad one.
use Rattle.std.proofs.Common.{◌≡◌, ℕ, zero, suc, ◌+◌, ◌*◌, ◌<◌, ◌^◌, List, [], ◌∷◌, ◌++◌, length, take, drop, get_or, pos, refl, sym, ap, ◌∙◌, subst, inl, inr, arith, append_assoc, length-append}
use Rattle.std.proofs.lemmas.Int.{ints}
use Rattle.std.proofs.lemmas.List.{append-nil, take-append-drop, length-take-le}
use Rattle.std.specs.Prelude.{codes}
use Rattle.std.specs.List.{AllByRecursion}
use Rattle.st_shape.specs.declared.point.Point.{Point}
use Rattle.st_shape.specs.declared.item.Item.{Item}
use Rattle.st_shape.specs.declared.item.Item.TheVariants.{Dot, Bar, Line, Rect, Face, Label}
use Rattle.st_shape.specs.declared.picture.Form.{Form}
use Rattle.st_shape.specs.Inside.{IsInside, point}
use Rattle.st_shape.specs.Rules.{HasNames, IsFrame, IsItem, IsPicture, Drawing}
use Rattle.eps_core.specs.Text.{name_line, mark_line, front_lines, item_lines, lines, ended, text}
use Rattle.eps_core.specs.declared.fault.EpsFault.TheVariants.{BadLine}
use Rattle.eps_core.specs.Decoding.{line_from, after_line, frame_from, form_from}
use Rattle.eps_core.specs.Meaning.{IsPlain, IsPictureText, IsFirstBad}
use Rattle.eps_core.specs.Reading.{HasRead, MissesLine, MarksNone, NamesNone, IsFirstRefused, IsSecondRefused}
use Rattle.eps_core.proofs.Cuts.{line_front, after_front}
use Rattle.eps_core.proofs.FirstBad.{Begins, first_bad}
use Rattle.eps_core.proofs.Grids.{ended-append, item_lines-append}
use Rattle.eps_core.proofs.Pictures.{box_line, title_line, frame_back, form_back, name_not_last, goes_on_with}
use Rattle.eps_core.proofs.Plain.{front_plain}
use Rattle.eps_core.proofs.Readings.{drawing, rules_more, room_more, last_read}

-- the lines of the picture so far
abbrev pub so_far : Drawing → List (List ℕ)
so_far d = front_lines d.form d.frame ++ item_lines d.items

-- these are the first bytes
abbrev pub HasCome : List ℕ → Drawing → List ℕ → Type 0
HasCome bytes d rest = bytes ≡ (ended (front_lines d.form d.frame) ++ ended (item_lines d.items)) ++ rest

come : (bytes : List ℕ) (d : Drawing) (rest : List ℕ) → HasCome bytes d rest → bytes ≡ ended (so_far d) ++ rest
come bytes d rest e = e ∙ ap (λ (l : List ℕ). l ++ rest) (sym (ended-append (front_lines d.form d.frame) (item_lines d.items)))

-- what stands behind the lines so far in a picture's text
pub record Next (frame : Point) (zs : List (List ℕ)) : Type 0 where
  pub more : List Item
  pub items : AllByRecursion (IsItem frame) more
  pub are : zs ≡ item_lines more ++ codes "%%EOF" ∷ []

items_behind : (frame : Point) (its more : List Item) → AllByRecursion (IsItem frame) (its ++ more) → AllByRecursion (IsItem frame) more
items_behind frame [] more i = i
items_behind frame (x ∷ its) more i = items_behind frame its more i.1

next_of : (d p : Drawing) (zs : List (List ℕ)) → IsPicture d → IsPicture p → lines p ≡ so_far d ++ zs → Next d.frame zs
next_of d p zs h k l =
    let all : front_lines d.form d.frame ++ (item_lines d.items ++ zs) ≡ lines p = sym (l ∙ append_assoc (front_lines d.form d.frame) (item_lines d.items) zs) in
    let g = goes_on_with p d.form d.frame d.items zs k h.frame h.items all in
    let same : AllByRecursion (IsItem d.frame) p.items = subst (λ f. AllByRecursion (IsItem f) p.items) g.same_frame k.items in
    record { more = g.more; items = items_behind d.frame d.items g.more (subst (λ l. AllByRecursion (IsItem d.frame) l) g.items same); are = g.rest }

begins_so_far : (d : Drawing) → IsPicture d → Begins (so_far d)
begins_so_far d h = record { picture = d; rules = h; more = codes "%%EOF" ∷ []; all = sym (append_assoc (front_lines d.form d.frame) (item_lines d.items) (codes "%%EOF" ∷ [])) }

no_end : (more : List Item) → [] ≡ item_lines more ++ codes "%%EOF" ∷ [] → ⊥
no_end [] e = cc
no_end (x ∷ xs) e = cc

-- the lines of the items so far are no whole text
not_whole : (d p : Drawing) → IsPicture d → IsPicture p → lines p ≡ so_far d → ⊥
not_whole d p h k e = let n = next_of d p [] h k (e ∙ sym (append-nil (so_far d))) in no_end n.more n.are

name_next : (frame : Point) (name : List ℕ) (ws : List (List ℕ)) (more : List Item) → (name ≡ codes "%%EOF" → ⊥) → NamesNone name → AllByRecursion (IsItem frame) more
    → name ∷ ws ≡ item_lines more ++ codes "%%EOF" ∷ [] → ⊥
name_next frame name ws [] apart none i e = apart (ap (λ (l : List (List ℕ)). get_or l 0 []) e)
name_next frame name ws (it ∷ more) apart none i e = none it i.0.0 (ap (λ (l : List (List ℕ)). get_or l 0 []) e)

-- an item of these names, at the corner (0, 0)
abbrev origin : Point
origin = point (pos 0) (pos 0)

abbrev like : Item → Item
like (Dot name p) = Dot name origin
like (Bar name y from to) = Dot name origin
like (Line name tail head points) = Line name tail head (origin ∷ origin ∷ [])
like (Rect name tail head low high) = Line name tail head (origin ∷ origin ∷ [])
like (Face number x from to) = Face number (pos 0) (pos 0) (pos 0)
like (Label name p bytes) = Label name origin (65 ∷ [])

like_name : (it : Item) → name_line (like it) ≡ name_line it
like_name (Dot name p) = refl
like_name (Bar name y from to) = refl
like_name (Line name tail head points) = refl
like_name (Rect name tail head low high) = refl
like_name (Face number x from to) = refl
like_name (Label name p bytes) = refl

origin_inside : (f : Point) → IsFrame f → IsInside f origin
origin_inside f h = record { left = omega (arith, ints); right = omega (arith, ints, h.left); low = omega (arith, ints); high = omega (arith, ints, h.low) }

like_item : (f : Point) (it : Item) → IsFrame f → HasNames it → IsItem f (like it)
like_item f (Dot name p) h n = (n, origin_inside f h)
like_item f (Bar name y from to) h n = (n, origin_inside f h)
like_item f (Line name tail head points) h n = (n, (omega arith, omega arith, (origin_inside f h, (origin_inside f h, tt))))
like_item f (Rect name tail head low high) h n = (n, (omega arith, omega arith, (origin_inside f h, (origin_inside f h, tt))))
like_item f (Face number x from to) h n = (n, (origin_inside f h, origin_inside f h, omega (arith, ints)))
like_item f (Label name p bytes) h n = (n, (origin_inside f h, omega arith, omega arith, ((omega arith, omega arith), tt)))

begins_name : (d : Drawing) (name : List ℕ) (named : Item) → IsPicture d → HasNames named → name ≡ name_line named → length d.items + 1 < 2 ^ 31 → Begins (so_far d ++ name ∷ [])
begins_name d name named h n is few =
    let it : Item = like named in
    let end : List (List ℕ) = codes "%%EOF" ∷ [] in
    let same : name_line it ≡ name = like_name named ∙ sym is in
    let tail : item_lines (d.items ++ it ∷ []) ++ end ≡ item_lines d.items ++ (name_line it ∷ mark_line it ∷ end) =
    ap (λ (l : List (List ℕ)). l ++ end) (item_lines-append d.items (it ∷ [])) ∙ append_assoc (item_lines d.items) (name_line it ∷ mark_line it ∷ []) end in
    record {
      picture = drawing d.form d.frame (d.items ++ it ∷ []);
      rules = rules_more d it h (like_item d.frame named h.frame n) few;
      more = mark_line it ∷ end;
      all = ap (λ (l : List (List ℕ)). front_lines d.form d.frame ++ l) tail
          ∙ sym (append_assoc (front_lines d.form d.frame) (item_lines d.items) (name_line it ∷ mark_line it ∷ end))
          ∙ ap (λ (x : List ℕ). so_far d ++ x ∷ mark_line it ∷ end) same
          ∙ sym (append_assoc (so_far d) (name ∷ []) (mark_line it ∷ end));
    }

mark_next : (frame : Point) (name rest line behind : List ℕ) (ws : List (List ℕ)) (more : List Item) → MarksNone frame name rest → rest ≡ line ++ 10 ∷ behind
    → AllByRecursion (IsItem frame) more → name ∷ line ∷ ws ≡ item_lines more ++ codes "%%EOF" ∷ [] → ⊥
mark_next frame name rest line behind ws [] m s i e = cc
mark_next frame name rest line behind ws (it ∷ more) m s i e =
    let n : name ≡ name_line it = ap (λ (l : List (List ℕ)). get_or l 0 []) e in
    let k : line ≡ mark_line it = ap (λ (l : List (List ℕ)). get_or l 1 []) e in
    m.none it i.0 n behind (s ∙ ap (λ (l : List ℕ). l ++ 10 ∷ behind) k)

name_alone : (name : List ℕ) (named : Item) (more : List Item) → name ≡ name_line named → name ∷ [] ≡ item_lines more ++ codes "%%EOF" ∷ [] → ⊥
name_alone name named [] is e = name_not_last named (sym is ∙ ap (λ (l : List (List ℕ)). get_or l 0 []) e)
name_alone name named (it ∷ more) is e = cc

-- behind an item's first line comes not its second, or no line
pub bad_mark : (d : Drawing) (bytes rest name behind : List ℕ) → IsPicture d → HasCome bytes d rest → rest ≡ name ++ 10 ∷ behind
    → MarksNone d.frame name behind → length d.items + 1 < 2 ^ 31 → IsFirstBad bytes (length (so_far d) + 2)
bad_mark d bytes rest name behind h e s m few =
    let read : List (List ℕ) = so_far d ++ name ∷ [] in
    let one : rest ≡ ended (name ∷ []) ++ behind = s ∙ sym (simp (append_assoc, append-nil) refl) in
    let whole : bytes ≡ ended read ++ behind =
    come bytes d rest e ∙ ap (λ (l : List ℕ). ended (so_far d) ++ l) one ∙ sym (append_assoc (ended (so_far d)) (ended (name ∷ [])) behind)
    ∙ ap (λ (l : List ℕ). l ++ behind) (sym (ended-append (so_far d) (name ∷ []))) in
    let count : length read + 1 ≡ length (so_far d) + 2 = omega (arith, length-append (so_far d) (name ∷ [])) in
    subst (λ n. IsFirstBad bytes n) count
    (first_bad bytes behind read (begins_name d name m.named h m.names m.is few) whole
    (λ line after t q p k more l.
    let n = next_of d p (name ∷ line ∷ more) h k (l ∙ append_assoc (so_far d) (name ∷ []) (line ∷ more)) in
    mark_next d.frame name behind line after more n.more m t n.items n.are)
    (λ p k l _.
    let n = next_of d p (name ∷ []) h k l in
    name_alone name m.named n.more m.is n.are))

end_next : (line : List ℕ) (ws : List (List ℕ)) (more : List Item) → codes "%%EOF" ∷ line ∷ ws ≡ item_lines more ++ codes "%%EOF" ∷ [] → ⊥
end_next line ws [] e = cc
end_next line ws (it ∷ more) e = name_not_last it (sym (ap (λ (l : List (List ℕ)). get_or l 0 []) e))

-- bytes come behind the last line
pub bad_tail : (d : Drawing) (bytes rest behind : List ℕ) → IsPicture d → HasCome bytes d rest → rest ≡ codes "%%EOF" ++ 10 ∷ behind → 0 < length behind
    → IsFirstBad bytes (length (so_far d) + 2)
unfolding text
bad_tail d bytes rest behind h e s some =
    let end : List (List ℕ) = codes "%%EOF" ∷ [] in
    let all : lines d ≡ so_far d ++ end = sym (append_assoc (front_lines d.form d.frame) (item_lines d.items) end) in
    let count : length (lines d) + 1 ≡ length (so_far d) + 2 = omega (arith, ap length all, length-append (so_far d) end) in
    let begins : Begins (lines d) = record { picture = d; rules = h; more = []; all = sym (append-nil (lines d)) } in
    subst (λ n. IsFirstBad bytes n) count
    (first_bad bytes behind (lines d) begins (last_read d bytes rest behind e s)
    (λ line after t q p k more l.
    let n = next_of d p (codes "%%EOF" ∷ line ∷ more) h k (l ∙ ap (λ (x : List (List ℕ)). x ++ line ∷ more) all ∙ append_assoc (so_far d) end (line ∷ more)) in
    end_next line more n.more n.are)
    (λ p k l none. omega (arith, some, ap length none)))

-- a line, or two, and what is behind
one_flat : (x y : List ℕ) → ended (x ∷ []) ++ y ≡ x ++ 10 ∷ y
one_flat x y = simp (append_assoc, append-nil) refl

two_flat : (x w y : List ℕ) → ended (x ∷ w ∷ []) ++ y ≡ x ++ 10 ∷ (w ++ 10 ∷ y)
two_flat x w y = simp (append_assoc, append-nil) refl

behind_one : (x y bytes : List ℕ) → IsPlain x → bytes ≡ ended (x ∷ []) ++ y → after_line bytes ≡ y
behind_one x y bytes p e = ap after_line (e ∙ one_flat x y) ∙ after_front x y p

behind_two : (x w y bytes : List ℕ) → IsPlain x → IsPlain w → bytes ≡ ended (x ∷ w ∷ []) ++ y → after_line (after_line bytes) ≡ y
behind_two x w y bytes p q e = ap after_line (ap after_line (e ∙ two_flat x w y) ∙ after_front x (w ++ 10 ∷ y) p) ∙ after_front w y q

-- the form and the frame are those that the bytes give
pub record FromFront (bytes : List ℕ) (f : Form) (corner : Point) : Type 0 where
  pub rules : IsFrame corner
  pub form : f ≡ form_from (line_from (after_line (after_line bytes)))
  pub frame : IsFrame (frame_from (line_from (after_line bytes))) → corner ≡ frame_from (line_from (after_line bytes))

box_next : (bytes : List ℕ) (form : Form) (frame : Point) (header line behind : List ℕ) → FromFront bytes form frame → IsPlain header → IsPlain line
    → bytes ≡ ended (header ∷ []) ++ (line ++ 10 ∷ behind) → (f : Point) → IsFrame f → line ≡ box_line f → line ≡ box_line frame
box_next bytes form frame header line behind from q plain e f h b =
    let second : line_from (after_line bytes) ≡ line = ap line_from (behind_one header (line ++ 10 ∷ behind) bytes q e) ∙ line_front line behind plain in
    let given : frame_from (line_from (after_line bytes)) ≡ f = ap frame_from (second ∙ b) ∙ frame_back f h in
    let same : frame ≡ f = from.frame (subst IsFrame (sym given) h) ∙ given in
    b ∙ ap box_line (sym same)

title_next : (bytes : List ℕ) (form : Form) (frame : Point) (header second line behind : List ℕ) → FromFront bytes form frame → IsPlain header → IsPlain second → IsPlain line
    → bytes ≡ ended (header ∷ second ∷ []) ++ (line ++ 10 ∷ behind) → (f : Form) → line ≡ title_line f → line ≡ title_line form
title_next bytes form frame header second line behind from q r plain e f t =
    let third : line_from (after_line (after_line bytes)) ≡ line = ap line_from (behind_two header second (line ++ 10 ∷ behind) bytes q r e) ∙ line_front line behind plain in
    let same : form ≡ f = from.form ∙ ap form_from (third ∙ t) ∙ form_back f in
    t ∙ ap title_line (sym same)

-- a picture's text that begins with the first k of the lines goes on with the next of them
front_next : (bytes : List ℕ) (form : Form) (frame : Point) (k : ℕ) → k < 6 → FromFront bytes form frame → (line behind : List ℕ) → IsPlain line
    → bytes ≡ ended (take k (front_lines form frame)) ++ (line ++ 10 ∷ behind) → (p : Drawing) → IsPicture p → (more : List (List ℕ))
    → lines p ≡ take k (front_lines form frame) ++ line ∷ more → line ≡ get_or (front_lines form frame) k []
front_next bytes form frame zero less from line behind plain e p h more l = sym (ap (λ (l : List (List ℕ)). get_or l 0 []) l)
front_next bytes form frame (suc zero) less from line behind plain e p h more l =
    let all = front_plain form frame from.rules in
    box_next bytes form frame (codes "%!PS-Adobe-3.0 EPSF-3.0") line behind from all.0 plain e p.frame h.frame (sym (ap (λ (l : List (List ℕ)). get_or l 1 []) l))
front_next bytes form frame (suc (suc zero)) less from line behind plain e p h more l =
    let all = front_plain form frame from.rules in
    title_next bytes form frame (codes "%!PS-Adobe-3.0 EPSF-3.0") (box_line frame) line behind from all.0 all.1.0 plain e p.form (sym (ap (λ (l : List (List ℕ)). get_or l 2 []) l))
front_next bytes form frame (suc (suc (suc zero))) less from line behind plain e p h more l = sym (ap (λ (l : List (List ℕ)). get_or l 3 []) l)
front_next bytes form frame (suc (suc (suc (suc zero)))) less from line behind plain e p h more l = sym (ap (λ (l : List (List ℕ)). get_or l 4 []) l)
front_next bytes form frame (suc (suc (suc (suc (suc zero))))) less from line behind plain e p h more l = sym (ap (λ (l : List (List ℕ)). get_or l 5 []) l)
front_next bytes form frame (suc (suc (suc (suc (suc (suc k)))))) less from line behind plain e p h more l = absurd (omega (arith, less))

begins_front : (form : Form) (frame : Point) (k : ℕ) → IsFrame frame → Begins (take k (front_lines form frame))
begins_front form frame k h = record {
  picture = drawing form frame [];
  rules = record { frame = h; items = tt; few = omega arith };
  more = drop k (front_lines form frame) ++ codes "%%EOF" ∷ [];
  all = ap (λ (l : List (List ℕ)). l ++ codes "%%EOF" ∷ []) (sym (take-append-drop k (front_lines form frame)))
      ∙ append_assoc (take k (front_lines form frame)) (drop k (front_lines form frame)) (codes "%%EOF" ∷ []);
}

too_short : (form : Form) (frame : Point) (k : ℕ) → k < 6 → (p : Drawing) → lines p ≡ take k (front_lines form frame) → ⊥
too_short form frame k less p l =
    let six : length (front_lines form frame) ≡ 6 = refl in
    let all : length (front_lines p.form p.frame) ≡ 6 = refl in
    let taken : length (take k (front_lines form frame)) ≡ k = length-take-le k (front_lines form frame) (omega (arith, less, six)) in
    let sum = length-append (front_lines p.form p.frame) (item_lines p.items ++ codes "%%EOF" ∷ []) in
    omega (arith, less, ap length l, taken, all, sum)

-- one of the lines before the items is not there
pub bad_front : (bytes : List ℕ) (form : Form) (frame : Point) (ls : List (List ℕ)) (k : ℕ) → FromFront bytes form frame → ls ≡ front_lines form frame → k < length ls
    → MissesLine bytes ls k → IsFirstBad bytes (k + 1)
bad_front bytes form frame ls k from is less m =
    let six : length ls ≡ 6 = ap length is in
    let few : k < 6 = omega (arith, less, six) in
    let read : List (List ℕ) = take k (front_lines form frame) in
    let same : take k ls ≡ read = ap (take k) is in
    let whole : bytes ≡ ended read ++ m.rest = m.whole ∙ ap (λ (l : List (List ℕ)). ended l ++ m.rest) same in
    let count : length read + 1 ≡ k + 1 = ap (λ (n : ℕ). n + 1) (length-take-le k (front_lines form frame) (omega (arith, few))) in
    subst (λ n. IsFirstBad bytes n) count
    (first_bad bytes m.rest read (begins_front form frame k from.rules) whole
    (λ line behind s plain p h more l.
    let n : line ≡ get_or (front_lines form frame) k [] = front_next bytes form frame k few from line behind plain (whole ∙ ap (λ (x : List ℕ). ended read ++ x) s) p h more l in
    let n' : line ≡ get_or ls k [] = n ∙ ap (λ (x : List (List ℕ)). get_or x k []) (sym is) in
    m.other behind (subst IsPlain n' plain) (s ∙ ap (λ (x : List ℕ). x ++ 10 ∷ behind) n'))
    (λ p h l _. too_short form frame k few p l))

count_lines : (its : List Item) → length (item_lines its) ≡ 2 * length its
count_lines [] = refl
count_lines (it ∷ its) = omega (arith, count_lines its)

next_number : (bytes rest : List ℕ) (d : Drawing) (frame : Point) (line : ℕ) → HasRead bytes d frame line rest → length (so_far d) + 1 ≡ line
next_number bytes rest d frame line h =
    let six : length (front_lines d.form d.frame) ≡ 6 = refl in
    omega (arith, six, h.number, count_lines d.items, length-append (front_lines d.form d.frame) (item_lines d.items))

next_refused : (d : Drawing) (p : Drawing) (rest line behind : List ℕ) (more : List (List ℕ)) → IsPicture d → IsFirstRefused rest → rest ≡ line ++ 10 ∷ behind → IsPlain line
    → IsPicture p → lines p ≡ so_far d ++ line ∷ more → ⊥
next_refused d p rest line behind more h none s plain k l =
    let n = next_of d p (line ∷ more) h k l in
    let is = none line behind s plain in
    name_next d.frame line more n.more is.0 is.1 n.items n.are

-- where the reader stands, the next line is refused
pub first_refused : (bytes rest : List ℕ) (d : Drawing) (frame : Point) (line : ℕ) → HasRead bytes d frame line rest → IsFirstRefused rest → IsFirstBad bytes line
first_refused bytes rest d frame line h none =
    subst (λ n. IsFirstBad bytes n) (next_number bytes rest d frame line h)
    (first_bad bytes rest (so_far d) (begins_so_far d h.rules) (come bytes d rest h.whole)
    (λ next behind s plain p k more l. next_refused d p rest next behind more h.rules none s plain k l)
    (λ p k l _. not_whole d p h.rules k l))

-- the line behind the next is
pub second_refused : (bytes rest : List ℕ) (d : Drawing) (frame : Point) (line : ℕ) → HasRead bytes d frame line rest → IsSecondRefused frame rest → length bytes < 2 ^ 31
    → IsFirstBad bytes (line + 1)
second_refused bytes rest d frame line h none few =
    let n : length (so_far d) + 2 ≡ line + 1 = omega (arith, next_number bytes rest d frame line h) in
    subst (λ n. IsFirstBad bytes n) n
    (elim none.either [
      | inl tail ↦ bad_tail d bytes rest none.behind h.rules h.whole (none.whole ∙ ap (λ (l : List ℕ). l ++ 10 ∷ none.behind) tail.0) tail.1
      | inr marks ↦
          bad_mark d bytes rest none.name none.behind h.rules h.whole none.whole (subst (λ f. MarksNone f none.name none.behind) (sym h.same) marks)
          (room_more bytes d frame line rest none.behind none.name h none.whole few)
    ])

-- the line of a fault is that of the fault
pub same_line : (bytes : List ℕ) (k : ℕ) → IsFirstBad bytes k → (line : ℕ) → BadLine k ≡ BadLine line → IsFirstBad bytes line
same_line bytes k b line e =
    let same : k ≡ line = cc in
    subst (λ n. IsFirstBad bytes n) same b

pub no_text_of : (bytes : List ℕ) (k : ℕ) → IsFirstBad bytes k → IsPictureText bytes → ⊥
no_text_of bytes k b t = b.nothing t.picture t.rules t.is
