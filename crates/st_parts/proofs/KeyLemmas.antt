-- A pair has a key exactly where the table says so.
use Rattle.std.proofs.Common.{◌≡◌, ◌≤◌, ◌<◌, inl, inr, ℕ, length, get_or, arith, true, List, [], ◌∷◌, Option, None, Some, slice_index_or, refl, sym, ◌∙◌, ap, bytes_eq}
use Rattle.std.specs.Bool.{Decides}
use Rattle.std.proofs.lemmas.Bool.{cases_Bool, eqb-true}
use Rattle.std.proofs.lemmas.Bool.Decides.{same_from_decides}
use Rattle.std.proofs.lemmas.Slice.Eq.{bytes_eq-Decides}
use Rattle.gml_core.specs.Trees.{Entry}
use Rattle.st_parts.specs.Used.{key_text}
use Rattle.st_parts.specs.Keys.{word_of_key, all_keys, key_rank, known_among, known, same, IsKnown}
use Rattle.st_parts.specs.declared.keys.Key.{Key}
use Rattle.st_parts.specs.declared.keys.Key.TheVariants.{Source, Target, Edge, Node, Id, Name, Label, Order, Path, Outer, Side, Minlen}

-- the table has a key under its own bytes
word_known : (k : Key) → known (word_of_key k) ≡ Some k
word_known Source = refl
word_known Target = refl
word_known Edge = refl
word_known Node = refl
word_known Id = refl
word_known Name = refl
word_known Label = refl
word_known Order = refl
word_known Path = refl
word_known Outer = refl
word_known Side = refl
word_known Minlen = refl

-- each key has the place of its rank in the table
rank_at : ℕ → Key
rank_at n = slice_index_or all_keys n Side

at_rank : (k : Key) → rank_at (key_rank k) ≡ k
unfolding rank_at
at_rank Source = refl
at_rank Target = refl
at_rank Edge = refl
at_rank Node = refl
at_rank Id = refl
at_rank Name = refl
at_rank Label = refl
at_rank Order = refl
at_rank Path = refl
at_rank Outer = refl
at_rank Side = refl
at_rank Minlen = refl

same_self : (k : Key) → same k (Some k) ≡ true
same_self Source = refl
same_self Target = refl
same_self Edge = refl
same_self Node = refl
same_self Id = refl
same_self Name = refl
same_self Label = refl
same_self Order = refl
same_self Path = refl
same_self Outer = refl
same_self Side = refl
same_self Minlen = refl

-- a key that the table finds has these bytes
spelled : (ks : List Key) (bs : List ℕ) (j : Key) → known_among ks bs ≡ Some j → bs ≡ word_of_key j
spelled [] bs j h = absurd (cc)
spelled (k ∷ ks) bs j h = elim (cases_Bool (bytes_eq bs (word_of_key k))) [
  | inl t ↦ let e = rw t at h in let kj : k ≡ j = cc in (bytes_eq-Decides bs (word_of_key k)).0 t ∙ ap word_of_key kj
  | inr f ↦ let e = rw f at h in spelled ks bs j e
]

same_some : (k : Key) (o : Option Key) → same k o ≡ true → o ≡ Some k
same_some k None h = absurd (cc)
same_some k (Some j) h =
    let ranks : key_rank k ≡ key_rank j = eqb-true (key_rank k) (key_rank j) h in
    ap (λ (i : Key). Some i) (sym (at_rank j) ∙ ap rank_at (sym ranks) ∙ at_rank k)

-- whether the table finds a key is whether the bytes are those of the key
same_decides : (k : Key) (bs : List ℕ) → Decides (same k (known bs)) (bs ≡ word_of_key k)
same_decides k bs = (
  (λ (t : same k (known bs) ≡ true). spelled all_keys bs k (same_some k (known bs) t)),
  (λ (e : bs ≡ word_of_key k). ap (λ (cs : List ℕ). same k (known cs)) e ∙ ap (same k) (word_known k) ∙ same_self k),
)

pub has_word : (k : Key) (bs : List ℕ) → bytes_eq bs (word_of_key k) ≡ same k (known bs)
has_word k bs = same_from_decides (bytes_eq bs (word_of_key k)) (same k (known bs)) (bytes_eq-Decides bs (word_of_key k)) (same_decides k bs)

-- which key a pair has
pub is_known : (e : Entry) → IsKnown (known (key_text e)) e
is_known e = record {
  source = has_word Source (key_text e);
  target = has_word Target (key_text e);
  edge = has_word Edge (key_text e);
  node = has_word Node (key_text e);
  id = has_word Id (key_text e);
  name = has_word Name (key_text e);
  label = has_word Label (key_text e);
  order = has_word Order (key_text e);
  path = has_word Path (key_text e);
  outer = has_word Outer (key_text e);
  side = has_word Side (key_text e);
  minlen = has_word Minlen (key_text e);
}

-- six bytes, each of which is known
six_are : (bs : List ℕ) (a b c d e f : ℕ) → 6 ≤ length bs → length bs < 7 → get_or bs 0 0 ≡ a → get_or bs 1 0 ≡ b → get_or bs 2 0 ≡ c → get_or bs 3 0 ≡ d → get_or bs 4 0 ≡ e → get_or bs 5 0 ≡ f
    → bs ≡ a ∷ b ∷ c ∷ d ∷ e ∷ f ∷ []
six_are [] a b c d e f least most p q r s t u = absurd (omega arith)
six_are (z ∷ []) a b c d e f least most p q r s t u = absurd (omega arith)
six_are (z ∷ y ∷ []) a b c d e f least most p q r s t u = absurd (omega arith)
six_are (z ∷ y ∷ x ∷ []) a b c d e f least most p q r s t u = absurd (omega arith)
six_are (z ∷ y ∷ x ∷ w ∷ []) a b c d e f least most p q r s t u = absurd (omega arith)
six_are (z ∷ y ∷ x ∷ w ∷ v ∷ []) a b c d e f least most p q r s t u = absurd (omega arith)
six_are (z ∷ y ∷ x ∷ w ∷ v ∷ k ∷ []) a b c d e f least most p q r s t u = rw (p, q, r, s, t, u) refl
six_are (z ∷ y ∷ x ∷ w ∷ v ∷ k ∷ j ∷ is) a b c d e f least most p q r s t u = absurd (omega arith)

pub is_source : (bs : List ℕ) → 6 ≤ length bs → length bs < 7 → get_or bs 0 0 ≡ 115 → get_or bs 1 0 ≡ 111 → get_or bs 2 0 ≡ 117 → get_or bs 3 0 ≡ 114 → get_or bs 4 0 ≡ 99 → get_or bs 5 0 ≡ 101 → Some Source ≡ known bs
is_source bs least most p q r s t u = sym (ap known (six_are bs 115 111 117 114 99 101 least most p q r s t u))

pub is_target : (bs : List ℕ) → 6 ≤ length bs → length bs < 7 → get_or bs 0 0 ≡ 116 → get_or bs 1 0 ≡ 97 → get_or bs 2 0 ≡ 114 → get_or bs 3 0 ≡ 103 → get_or bs 4 0 ≡ 101 → get_or bs 5 0 ≡ 116 → Some Target ≡ known bs
is_target bs least most p q r s t u = sym (ap known (six_are bs 116 97 114 103 101 116 least most p q r s t u))

pub is_minlen : (bs : List ℕ) → 6 ≤ length bs → length bs < 7 → get_or bs 0 0 ≡ 109 → get_or bs 1 0 ≡ 105 → get_or bs 2 0 ≡ 110 → get_or bs 3 0 ≡ 108 → get_or bs 4 0 ≡ 101 → get_or bs 5 0 ≡ 110 → Some Minlen ≡ known bs
is_minlen bs least most p q r s t u = sym (ap known (six_are bs 109 105 110 108 101 110 least most p q r s t u))
