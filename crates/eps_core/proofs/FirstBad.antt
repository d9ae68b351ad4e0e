-- Which line is the first bad one, for any lines that were read.
use Rattle.std.proofs.Common.{◌≡◌, ◌≢◌, ℕ, ◌+◌, ◌≤◌, List, [], ◌∷◌, ◌++◌, length, take, drop, refl, sym, ap, ◌∙◌, subst, inl, inr, arith, append_assoc, length-append}
use Rattle.std.proofs.lemmas.Bool.{cases_lt}
use Rattle.std.proofs.lemmas.List.{append-nil, take-append-drop, length-take-le}
use Rattle.st_shape.specs.Rules.{IsPicture, Drawing}
use Rattle.eps_core.specs.Text.{lines, ended, text}
use Rattle.eps_core.specs.Meaning.{IsPlain, BeginsWith, IsBegun, IsFirstBad, HasOneBadLine}
use Rattle.eps_core.proofs.Endings.{front_of}
use Rattle.eps_core.proofs.Grids.{ended-append}
use Rattle.eps_core.proofs.Plain.{ArePlain, lines_plain}

-- some picture's lines begin with these
pub record Begins (read : List (List ℕ)) : Type 0 where
  pub picture : Drawing
  pub rules : IsPicture picture
  pub more : List (List ℕ)
  pub all : lines picture ≡ read ++ more

-- no picture's lines begin with these and the next line of the bytes
abbrev pub NoneGoesOn : List (List ℕ) → List ℕ → Type 0
NoneGoesOn read rest = (line behind : List ℕ) → rest ≡ line ++ 10 ∷ behind → IsPlain line → (p : Drawing) → IsPicture p → (more : List (List ℕ)) → lines p ≡ read ++ line ∷ more → ⊥

pub front_is_plain : (xs ys : List (List ℕ)) → ArePlain (xs ++ ys) → ArePlain xs
front_is_plain [] ys h = tt
front_is_plain (x ∷ xs) ys h = (h.0, front_is_plain xs ys h.1)

back_is_plain : (xs ys : List (List ℕ)) → ArePlain (xs ++ ys) → ArePlain ys
back_is_plain [] ys h = h
back_is_plain (x ∷ xs) ys h = back_is_plain xs ys h.1

nothing_behind : (ws : List (List ℕ)) (m : List ℕ) → [] ≡ ended ws ++ m → ws ≡ []
nothing_behind [] m e = refl
nothing_behind ([] ∷ ws) m e = cc
nothing_behind ((b ∷ w) ∷ ws) m e = cc

-- the lines that a picture's text begins with are its first lines
first_lines : (p : Drawing) (ls : List (List ℕ)) → IsPicture p → BeginsWith (text p) ls → (vs : List (List ℕ)) × (lines p ≡ ls ++ vs)
unfolding text
first_lines p ls h b =
    let e : ended (lines p) ++ [] ≡ ended ls ++ b.rest = append-nil (ended (lines p)) ∙ b.whole in
    elim (cases_lt (length (lines p)) (length ls)) [
      | inl less ↦
          let f = front_of (lines p) ls [] b.rest (lines_plain p h) b.plain (omega (arith, less)) e in
          let n : f.0 ≡ [] = nothing_behind f.0 b.rest f.2 in
          absurd (omega (arith, less, ap length f.1, length-append (lines p) f.0, ap length n))
      | inr most ↦ let f = front_of ls (lines p) b.rest [] b.plain (lines_plain p h) most (sym e) in (f.0, f.1)
    ]

begins_plain : (read : List (List ℕ)) → Begins read → ArePlain read
begins_plain read b = front_is_plain read b.more (subst ArePlain b.all (lines_plain b.picture b.rules))

begun_read : (bytes rest : List ℕ) (read : List (List ℕ)) → Begins read → bytes ≡ ended read ++ rest → IsBegun bytes (length read)
unfolding text
begun_read bytes rest read b e = record {
  lines = read;
  count = refl;
  here = record { plain = begins_plain read b; rest = rest; whole = e };
  picture = b.picture;
  rules = b.rules;
  there = record { plain = begins_plain read b; rest = ended b.more; whole = ap ended b.all ∙ ended-append read b.more };
}

one_more : (read : List (List ℕ)) (rest : List ℕ) → NoneGoesOn read rest → (zs : List (List ℕ)) → length zs ≡ 1 → (r : List ℕ) → rest ≡ ended zs ++ r
    → (p : Drawing) → IsPicture p → (vs : List (List ℕ)) → lines p ≡ read ++ (zs ++ vs) → ⊥
one_more read rest none [] c r e p h vs l = absurd (omega (arith, c))
one_more read rest none (z ∷ []) c r e p h vs l =
    let plain : ArePlain (z ∷ vs) = back_is_plain read (z ∷ vs) (subst ArePlain l (lines_plain p h)) in
    let split : rest ≡ z ++ 10 ∷ r = e ∙ simp append_assoc refl in
    none z r split plain.0 p h vs l
one_more read rest none (z ∷ y ∷ zs) c r e p h vs l = absurd (omega (arith, c))

not_begun : (bytes rest : List ℕ) (read : List (List ℕ)) → ArePlain read → bytes ≡ ended read ++ rest → NoneGoesOn read rest → IsBegun bytes (length read + 1) → ⊥
not_begun bytes rest read plain e none b =
    let f = front_of read b.lines rest b.here.rest plain b.here.plain (omega (arith, b.count)) (sym e ∙ b.here.whole) in
    let v = first_lines b.picture b.lines b.rules b.there in
    one_more read rest none f.0 (omega (arith, b.count, ap length f.1, length-append read f.0)) b.here.rest f.2 b.picture b.rules v.0
    (v.1 ∙ ap (λ (l : List (List ℕ)). l ++ v.0) f.1 ∙ append_assoc read f.0 v.0)

left_over : (read : List (List ℕ)) (rest : List ℕ) → NoneGoesOn read rest → (p : Drawing) → IsPicture p → (lines p ≡ read → rest ≡ [] → ⊥)
    → (zs : List (List ℕ)) → lines p ≡ read ++ zs → rest ≡ ended zs ++ [] → ⊥
left_over read rest none p h whole [] l r = whole (l ∙ append-nil read) r
left_over read rest none p h whole (z ∷ zs) l r =
    let plain : ArePlain (z ∷ zs) = back_is_plain read (z ∷ zs) (subst ArePlain l (lines_plain p h)) in
    let split : rest ≡ z ++ 10 ∷ ended zs = r ∙ simp (append_assoc, append-nil) refl in
    none z (ended zs) split plain.0 p h zs l

no_text : (bytes rest : List ℕ) (read : List (List ℕ)) → ArePlain read → bytes ≡ ended read ++ rest → NoneGoesOn read rest
    → (p : Drawing) → IsPicture p → (lines p ≡ read → rest ≡ [] → ⊥) → bytes ≢ text p
unfolding text
no_text bytes rest read plain e none p h whole = λ t.
    let same : ended read ++ rest ≡ ended (lines p) ++ [] = sym e ∙ t ∙ sym (append-nil (ended (lines p))) in
    elim (cases_lt (length (lines p)) (length read)) [
      | inl less ↦
          let f = front_of (lines p) read [] rest (lines_plain p h) plain (omega (arith, less)) (sym same) in
          let n : f.0 ≡ [] = nothing_behind f.0 rest f.2 in
          absurd (omega (arith, less, ap length f.1, length-append (lines p) f.0, ap length n))
      | inr most ↦ let f = front_of read (lines p) rest [] plain (lines_plain p h) most same in left_over read rest none p h whole f.0 f.1 f.2
    ]

-- The lines that were read begin some picture's text, none goes on with the next line, and they are no whole text that the
-- bytes end with: so the next line is the first bad one.
pub first_bad : (bytes rest : List ℕ) (read : List (List ℕ)) → Begins read → bytes ≡ ended read ++ rest → NoneGoesOn read rest
    → ((p : Drawing) → IsPicture p → lines p ≡ read → rest ≡ [] → ⊥) → IsFirstBad bytes (length read + 1)
first_bad bytes rest read b e none whole = record {
  numbered = omega arith;
  before = subst (λ n. IsBegun bytes n) (omega arith) (begun_read bytes rest read b e);
  here = not_begun bytes rest read (begins_plain read b) e none;
  nothing = λ p h. no_text bytes rest read (begins_plain read b) e none p h (whole p h);
}

front_begins : (bytes : List ℕ) (ls : List (List ℕ)) (n : ℕ) → BeginsWith bytes ls → BeginsWith bytes (take n ls)
front_begins bytes ls n b =
    let cut : ls ≡ take n ls ++ drop n ls = sym (take-append-drop n ls) in
    record {
      plain = front_is_plain (take n ls) (drop n ls) (subst ArePlain cut b.plain);
      rest = ended (drop n ls) ++ b.rest;
      whole = b.whole ∙ ap (λ (l : List ℕ). l ++ b.rest) (ap ended cut ∙ ended-append (take n ls) (drop n ls)) ∙ append_assoc (ended (take n ls)) (ended (drop n ls)) b.rest;
    }

begun_less : (bytes : List ℕ) (m n : ℕ) → m ≤ n → IsBegun bytes n → IsBegun bytes m
begun_less bytes m n h b = record {
  lines = take m b.lines;
  count = length-take-le m b.lines (omega (arith, h, b.count));
  here = front_begins bytes b.lines m b.here;
  picture = b.picture;
  rules = b.rules;
  there = front_begins (text b.picture) b.lines m b.there;
}

-- bytes have at most one first bad line
pub one_bad_line : HasOneBadLine
one_bad_line bytes j k a b =
    elim (cases_lt j k) [
      | inl less ↦ absurd (a.here (begun_less bytes j _ (omega (arith, less)) b.before))
      | inr most ↦
          elim (cases_lt k j) [
            | inl more ↦ absurd (b.here (begun_less bytes k _ (omega (arith, more)) a.before))
            | inr least ↦ omega (arith, most, least)
          ]
    ]
