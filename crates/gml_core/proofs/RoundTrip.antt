-- The printed form of a well formed tree is a text of it, apart from places.
use Rattle.std.proofs.Common.{◌≡◌, ℕ, suc, ◌+◌, ◌-◌, ◌<◌, ◌≤◌, max, true, false, ◌&&◌, ℤ, List, [], ◌∷◌, ◌++◌, length, drop, map, Some, None, Ok, refl, sym, ap, subst, ◌∙◌, append_assoc, arith}
use Rattle.std.specs.Prelude.{◌==◌}
use Rattle.std.specs.Fmt.{signed_decimal}
use Rattle.std.proofs.lemmas.List.{append-nil, length-append, map-append, drop_at}
use Rattle.std.proofs.lemmas.Bool.{and_parts, false_from_ne_true, eqb-true, le-ltb}
use Rattle.gml_core.specs.declared.token.TokenKind.{TokenKind}
use Rattle.gml_core.specs.declared.token.TokenKind.TheVariants as kinds
use Rattle.gml_core.specs.declared.token.Token.{Token}
use Rattle.gml_core.specs.Trees.{Atom, int, real, str, Datum, atom, list, Entry, entry, Entries, none, more, Word, opens, closes, key, value, spelling, datum_spelling, depth, datum_depth, entry_depth, fits, all_fit, datum_fits, entry_fits}
use Rattle.gml_core.specs.Lexing.{gap, token, token_at, next_place, next_token, first_place, Leads}
use Rattle.gml_core.specs.Reading.{integer, part, word, word_of, IsBounded, IsText}
use Rattle.gml_core.specs.Printing.{atom_text, datum_text, printed, datum_at_zero, entry_at_zero, at_zero}
use Rattle.gml_core.specs.Sound.{IsSpelled, IsWellAtom, IsWellDatum, AreWell}
use Rattle.gml_core.proofs.Again.{Delimits, IsGap, token_again, gap_kept, token_step, part_is}
use Rattle.gml_core.proofs.Decimals.{decimal_spelled, integer-decimal}

-- ---- the tokens of two parts, one after the other

pub Leads-append : (bytes : List ℕ) (at m e : ℕ) (ts us : List Token) → Leads bytes at ts m → Leads bytes m us e → Leads bytes at (ts ++ us) e
Leads-append bytes at m e [] us p q = subst (λ (x : ℕ). Leads bytes x us e) (sym p) q
Leads-append bytes at m e (t ∷ ts) us p q = (p.0, Leads-append bytes t.to m e ts us p.1 q)

-- ---- gaps and delimiters

no_gap : IsGap []
no_gap rest h = h

space : IsGap (32 ∷ [])
space rest h = rw h refl

line : IsGap (10 ∷ [])
line rest h = rw h refl

after_space : (rest : List ℕ) → Delimits (32 ∷ rest)
after_space rest = record { word = refl; number = refl }

after_line : (rest : List ℕ) → Delimits (10 ∷ rest)
after_line rest = record { word = refl; number = refl }

-- ---- one token

-- the token behind a gap, and where it ends
pub record One (bytes pre g w : List ℕ) (kind : TokenKind) : Type 0 where
  pub comes : next_token bytes (length pre) ≡ Ok (Some (token kind (length pre + length g) (length w)))
  pub ends : length pre + length g + length w ≡ length (pre ++ (g ++ w))

positive : (kind : TokenKind) (w : List ℕ) → token_at 0 w ≡ Ok (token kind 0 (length w)) → 0 < length w
unfolding token_at
positive kind [] h = absurd cc
positive kind (b ∷ bs) h = omega arith

pub one : (bytes pre g w rest : List ℕ) (kind : TokenKind) → bytes ≡ pre ++ (g ++ (w ++ rest)) → IsGap g → IsSpelled kind w → Delimits rest → One bytes pre g w kind
one bytes pre g w rest kind e gapped spelled del =
    let lt = positive kind w spelled.1 in
    record {
      comes = token_step bytes pre g w rest kind e (gapped (w ++ rest) (gap_kept w rest lt spelled.0)) lt (token_again kind (length pre + length g) (length w) w rest del spelled.1);
      ends = omega (arith, length-append pre (g ++ w), length-append g w);
    }

bracket : (at b : ℕ) (kind : TokenKind) (rest : List ℕ) → token_at at (b ∷ rest) ≡ Ok (token kind at 1) → gap (b ∷ rest) ≡ 0 → (bytes pre g : List ℕ) → length pre + length g ≡ at → bytes ≡ pre ++ (g ++ (b ∷ [] ++ rest)) → IsGap g → One bytes pre g (b ∷ []) kind
bracket at b kind rest tok solid bytes pre g place e gapped = record {
  comes = token_step bytes pre g (b ∷ []) rest kind e (gapped (b ∷ rest) solid) (omega arith) (subst (λ (n : ℕ). token_at n (b ∷ rest) ≡ Ok (token kind n 1)) (sym place) tok);
  ends = omega (arith, length-append pre (g ++ b ∷ []), length-append g (b ∷ []));
}

opening : (at : ℕ) (rest : List ℕ) → token_at at (91 ∷ rest) ≡ Ok (token kinds.OpenList at 1)
unfolding token_at
opening at rest = refl

closing : (at : ℕ) (rest : List ℕ) → token_at at (93 ∷ rest) ≡ Ok (token kinds.CloseList at 1)
unfolding token_at
closing at rest = refl

-- ---- atoms

abbrev kind_of : Atom → TokenKind
kind_of (int z) = kinds.Int
kind_of (real bs) = kinds.Real
kind_of (str bs) = kinds.Str

atom_spelled : (a : Atom) → IsWellAtom a → fits a ≡ true → IsSpelled (kind_of a) (atom_text a)
atom_spelled (int z) well fit = decimal_spelled z fit
atom_spelled (real bs) well fit = well
atom_spelled (str bs) well fit = well

atom_word : (a : Atom) (bytes front rest : List ℕ) (from to : ℕ) → fits a ≡ true → bytes ≡ front ++ (atom_text a ++ rest) → from ≡ length front → to ≡ from + length (atom_text a) → word_of bytes (kind_of a) from to ≡ value a
atom_word (int z) bytes front rest from to fit e f t = ap (λ (bs : List ℕ). value (int (integer bs))) (part_is bytes front (signed_decimal z) rest from to e f t) ∙ ap (λ (y : ℤ). value (int y)) (integer-decimal z fit)
atom_word (real bs) bytes front rest from to fit e f t = ap (λ (x : List ℕ). value (real x)) (part_is bytes front bs rest from to e f t)
atom_word (str bs) bytes front rest from to fit e f t =
    let inner : bytes ≡ (front ++ 34 ∷ []) ++ (bs ++ (34 ∷ rest)) = e ∙ simp append_assoc in
    let len : length (34 ∷ (bs ++ 34 ∷ [])) ≡ length bs + 2 = omega (arith, length-append bs (34 ∷ [])) in
    ap (λ (x : List ℕ). value (str x)) (part_is bytes (front ++ 34 ∷ []) bs (34 ∷ rest) (from + 1) (to - 1) inner (omega (arith, length-append front (34 ∷ []))) (omega (arith, len)))

-- ---- values, pairs and lists

-- the tokens of what is printed between two places, and what they say
pub record CutDatum (bytes : List ℕ) (from to : ℕ) (d : Datum) : Type 0 where
  pub tokens : List Token
  pub said : Datum
  pub leads : Leads bytes from tokens to
  pub words : map (word bytes) tokens ≡ datum_spelling said
  pub same : datum_at_zero said ≡ datum_at_zero d

pub record CutList (bytes : List ℕ) (from : ℕ) (es : Entries) (rest : List ℕ) : Type 0 where
  pub tokens : List Token
  pub said : Entries
  -- the bytes up to the last token, and the gap behind it
  pub read : List ℕ
  pub left : List ℕ
  pub gapped : IsGap left
  pub parts : bytes ≡ read ++ (left ++ rest)
  pub leads : Leads bytes from tokens (length read)
  pub words : map (word bytes) tokens ≡ spelling said
  pub same : at_zero said ≡ at_zero es

mutual
  pub cut_datum : (d : Datum) (bytes pre rest : List ℕ) → bytes ≡ pre ++ (32 ∷ [] ++ (datum_text d ++ 10 ∷ rest)) → IsWellDatum d → datum_fits d ≡ true → CutDatum bytes (length pre) (length (pre ++ (32 ∷ [] ++ datum_text d))) d
  cut_datum (atom a) bytes pre rest e well fit =
      let it = one bytes pre (32 ∷ []) (atom_text a) (10 ∷ rest) (kind_of a) e space (atom_spelled a well fit) (after_line rest) in
      let t = token (kind_of a) (length pre + 1) (length (atom_text a)) in
      record {
        tokens = t ∷ [];
        said = atom a;
        leads = (it.comes, it.ends);
        words = ap (λ (w : Word). w ∷ []) (atom_word a bytes (pre ++ 32 ∷ []) (10 ∷ rest) t.from t.to fit (e ∙ sym (append_assoc pre (32 ∷ []) (atom_text a ++ 10 ∷ rest))) (omega (arith, length-append pre (32 ∷ []))) refl);
        same = refl;
      }
  cut_datum (list es) bytes pre rest e well fit =
      let o = bracket (length pre + 1) 91 kinds.OpenList (10 ∷ (printed es ++ (93 ∷ 10 ∷ rest))) (opening (length pre + 1) (10 ∷ (printed es ++ (93 ∷ 10 ∷ rest)))) refl bytes pre (32 ∷ []) refl (e ∙ simp append_assoc) space in
      let inner = cut_list es bytes (pre ++ 32 ∷ 91 ∷ []) (10 ∷ []) (93 ∷ 10 ∷ rest) (e ∙ simp append_assoc) line well fit in
      let c = bracket (length inner.read + length inner.left) 93 kinds.CloseList (10 ∷ rest) (closing (length inner.read + length inner.left) (10 ∷ rest)) refl bytes inner.read inner.left refl inner.parts inner.gapped in
      let ends : length inner.read + length inner.left + 1 ≡ length (pre ++ (32 ∷ [] ++ datum_text (list es))) =
      omega (arith, ap length (sym inner.parts ∙ e), length-append inner.read (inner.left ++ 93 ∷ 10 ∷ rest), length-append inner.left (93 ∷ 10 ∷ rest), length-append pre (32 ∷ [] ++ (datum_text (list es) ++ 10 ∷ rest)), length-append pre (32 ∷ [] ++ datum_text (list es)), length-append (datum_text (list es)) (10 ∷ rest)) in
      let first : length pre + 1 + 1 ≡ length (pre ++ 32 ∷ 91 ∷ []) = omega (arith, length-append pre (32 ∷ 91 ∷ [])) in
      let t = token kinds.OpenList (length pre + 1) 1 in
      let u = token kinds.CloseList (length inner.read + length inner.left) 1 in
      record {
        tokens = t ∷ (inner.tokens ++ u ∷ []);
        said = list inner.said;
        leads = (
          o.comes,
          subst (λ (n : ℕ). Leads bytes n (inner.tokens ++ u ∷ []) (length (pre ++ (32 ∷ [] ++ datum_text (list es))))) (sym first)
              (Leads-append bytes (length (pre ++ 32 ∷ 91 ∷ [])) (length inner.read) (length (pre ++ (32 ∷ [] ++ datum_text (list es)))) inner.tokens (u ∷ []) inner.leads (c.comes, ends)),
        );
        words = ap (λ (ws : List Word). opens ∷ ws) (map-append (word bytes) inner.tokens (u ∷ []) ∙ ap (λ (ws : List Word). ws ++ closes ∷ []) inner.words);
        same = ap list inner.same;
      }

  pub cut_list : (es : Entries) (bytes pre g rest : List ℕ) → bytes ≡ pre ++ (g ++ (printed es ++ rest)) → IsGap g → AreWell es → all_fit es ≡ true → CutList bytes (length pre) es rest
  cut_list none bytes pre g rest e gapped well fit = record { tokens = []; said = none; read = pre; left = g; gapped = gapped; parts = e; leads = refl; words = refl; same = refl }
  cut_list (more (entry k at d) es) bytes pre g rest e gapped well fit =
      let both = and_parts (datum_fits d) (all_fit es) fit in
      let it = one bytes pre g k (32 ∷ (datum_text d ++ 10 ∷ (printed es ++ rest))) kinds.Key (e ∙ simp append_assoc) gapped well.0.0 (after_space (datum_text d ++ 10 ∷ (printed es ++ rest))) in
      let front = pre ++ (g ++ k) in
      let v = cut_datum d bytes front (printed es ++ rest) (e ∙ simp append_assoc) well.0.1 both.0 in
      let pre2 = front ++ (32 ∷ [] ++ datum_text d) in
      let others = cut_list es bytes pre2 (10 ∷ []) rest (e ∙ simp append_assoc) line well.1 both.1 in
      let t = token kinds.Key (length pre + length g) (length k) in
      let key-is : part bytes t.from t.to ≡ k = part_is bytes (pre ++ g) k (32 ∷ (datum_text d ++ 10 ∷ (printed es ++ rest))) t.from t.to (e ∙ simp append_assoc) (sym (length-append pre g)) refl in
      record {
        tokens = t ∷ (v.tokens ++ others.tokens);
        said = more (entry k t.from v.said) others.said;
        read = others.read;
        left = others.left;
        gapped = others.gapped;
        parts = others.parts;
        leads = (
          it.comes,
          subst (λ (n : ℕ). Leads bytes n (v.tokens ++ others.tokens) (length others.read)) (sym it.ends)
              (Leads-append bytes (length front) (length pre2) (length others.read) v.tokens others.tokens v.leads others.leads),
        );
        words = (λ i. key (key-is i) t.from ∷ (map-append (word bytes) v.tokens others.tokens ∙ (λ j. v.words j ++ others.words j)) i);
        same = (λ i. more (entry k 0 (v.same i)) (others.same i));
      }

-- ---- what does not see places

mutual
  zero_datum_depth : (d : Datum) → datum_depth (datum_at_zero d) ≡ datum_depth d
  zero_datum_depth (atom a) = refl
  zero_datum_depth (list es) = ap suc (zero_depth es)

  zero_entry_depth : (e : Entry) → entry_depth (entry_at_zero e) ≡ entry_depth e
  zero_entry_depth (entry k at d) = zero_datum_depth d

  zero_depth : (es : Entries) → depth (at_zero es) ≡ depth es
  zero_depth none = refl
  zero_depth (more e es) = (λ i. max (zero_entry_depth e i) (zero_depth es i))

mutual
  zero_datum_fits : (d : Datum) → datum_fits (datum_at_zero d) ≡ datum_fits d
  zero_datum_fits (atom a) = refl
  zero_datum_fits (list es) = zero_fit es

  zero_entry_fits : (e : Entry) → entry_fits (entry_at_zero e) ≡ entry_fits e
  zero_entry_fits (entry k at d) = zero_datum_fits d

  zero_fit : (es : Entries) → all_fit (at_zero es) ≡ all_fit es
  zero_fit none = refl
  zero_fit (more e es) = (λ i. zero_entry_fits e i && zero_fit es i)

-- ---- the law

no_mark : (b : ℕ) (ks : List ℕ) (t : Token) → token_at 0 (b ∷ ks) ≡ Ok t → (b == 239) ≡ false
unfolding token_at
no_mark b ks t h = false_from_ne_true (b == 239) (λ e.
    let is : b ≡ 239 = eqb-true b 239 e in
    let at_mark : token_at 0 (239 ∷ ks) ≡ Ok t = subst (λ (x : ℕ). token_at 0 (x ∷ ks) ≡ Ok t) is h in
    absurd cc)

first_is : (b : ℕ) (bs : List ℕ) → (b == 239) ≡ false → first_place (b ∷ bs) ≡ 0
first_is b [] e = refl
first_is b (c ∷ []) e = refl
first_is b (c ∷ d ∷ bs) e = rw e refl

first_with : (k rest : List ℕ) → token_at 0 k ≡ Ok (token kinds.Key 0 (length k)) → first_place (k ++ rest) ≡ 0
first_with [] rest h = absurd (omega (arith, positive kinds.Key [] h))
first_with (b ∷ ks) rest h = first_is b (ks ++ rest) (no_mark b ks (token kinds.Key 0 (length (b ∷ ks))) h)

first_at : (es : Entries) → AreWell es → first_place (printed es) ≡ 0
first_at none well = refl
first_at (more (entry k at d) es) well = ap first_place (append_assoc (k ++ 32 ∷ datum_text d) (10 ∷ []) (printed es) ∙ append_assoc k (32 ∷ datum_text d) (10 ∷ printed es)) ∙ first_with k (32 ∷ (datum_text d ++ 10 ∷ printed es)) well.0.0.1

last_end : (bytes read left : List ℕ) → bytes ≡ read ++ (left ++ []) → IsGap left → next_token bytes (length read) ≡ Ok None
unfolding next_token
last_end bytes read left e gapped =
    let at = length read in
    let here : drop at bytes ≡ left ++ [] = ap (drop at) e ∙ drop_at read (left ++ []) at refl in
    let place : next_place bytes at ≡ at + length left = ap (λ (l : List ℕ). at + gap l) here ∙ ap (λ (n : ℕ). at + n) (gapped [] refl) in
    let le : length bytes ≤ at + length left = omega (arith, ap length e, length-append read (left ++ []), length-append left []) in
    rw (place, le-ltb _ _ le) refl

pub reads_again : (tree : Entries) → IsBounded tree → AreWell tree → (said : Entries) × IsText (printed tree) said × (at_zero said ≡ at_zero tree)
reads_again tree bounded well =
    let cut = cut_list tree (printed tree) [] [] [] (sym (append-nil (printed tree))) no_gap well bounded.fit in
    let same_depth : depth cut.said ≡ depth tree = sym (zero_depth cut.said) ∙ ap depth cut.same ∙ zero_depth tree in
    let same_fit : all_fit cut.said ≡ all_fit tree = sym (zero_fit cut.said) ∙ ap all_fit cut.same ∙ zero_fit tree in
    let leads : Leads (printed tree) (first_place (printed tree)) cut.tokens (length cut.read) = subst (λ (n : ℕ). Leads (printed tree) n cut.tokens (length cut.read)) (sym (first_at tree well)) cut.leads in (
      cut.said,
      record {
        tokens = cut.tokens;
        cut = (length cut.read, leads, last_end (printed tree) cut.read cut.left cut.parts cut.gapped);
        spelled = cut.words;
        bounded = record { nests = omega (arith, same_depth, bounded.nests); fit = same_fit ∙ bounded.fit };
      },
      cut.same,
    )
