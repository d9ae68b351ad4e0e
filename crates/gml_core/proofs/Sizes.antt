-- The tree of a text is sound: its lists are short, since each pair takes two tokens and each token a byte.
use Rattle.std.proofs.Common.{◌≡◌, ◌<◌, ◌≤◌, ◌-◌, ◌*◌, ◌^◌, ℕ, List, [], ◌∷◌, length, sym, ap, ◌∙◌, arith}
use Rattle.std.proofs.lemmas.List.{length-append, length-map}
use Rattle.gml_core.specs.declared.token.Token.{Token}
use Rattle.gml_core.specs.Lexing.{first_place, Leads}
use Rattle.gml_core.specs.Trees.{Datum, atom, list, Entry, entry, Entries, none, more, closes, listed, spelling, entry_spelling, datum_spelling}
use Rattle.gml_core.specs.Reading.{word, IsText}
use Rattle.gml_core.specs.Sound.{IsShortDatum, IsShortEntry, HaveShortLists, IsSound}
use Rattle.gml_core.proofs.Total.{next_moves}
use Rattle.gml_core.proofs.Well.{text_well}

-- there are no more tokens than bytes
tokens_few : (bytes : List ℕ) (at e : ℕ) (ts : List Token) → Leads bytes at ts e → length ts ≤ length bytes - at
tokens_few bytes at e [] leads = omega arith
tokens_few bytes at e (t ∷ ts) leads =
    let moved = next_moves bytes at t leads.0 in
    let others = tokens_few bytes t.to e ts leads.1 in
    omega (arith, moved.0, moved.1, others)

datum_takes : (d : Datum) → 1 ≤ length (datum_spelling d)
datum_takes (atom a) = omega arith
datum_takes (list es) = omega arith

pairs_few : (es : Entries) → 2 * length (listed es) ≤ length (spelling es)
pairs_few none = omega arith
pairs_few (more (entry k at d) es) = omega (arith, length-append (entry_spelling (entry k at d)) (spelling es), datum_takes d, pairs_few es)

mutual
  datum_short : (d : Datum) → length (datum_spelling d) < 2 ^ 32 → IsShortDatum d
  datum_short (atom a) lt = tt
  datum_short (list es) lt = let fewer : length (spelling es) < 2 ^ 32 = omega (arith, length-append (spelling es) (closes ∷ [])) in (omega (arith, pairs_few es), lists_short es fewer)

  entry_short : (e : Entry) → length (entry_spelling e) < 2 ^ 32 → IsShortEntry e
  entry_short (entry k at d) lt = datum_short d (omega arith)

  lists_short : (es : Entries) → length (spelling es) < 2 ^ 32 → HaveShortLists es
  lists_short none lt = tt
  lists_short (more e es) lt = (entry_short e (omega (arith, length-append (entry_spelling e) (spelling es))), lists_short es (omega (arith, length-append (entry_spelling e) (spelling es))))

pub text_sound : (bytes : List ℕ) (tree : Entries) → length bytes < 2 ^ 32 → IsText bytes tree → IsSound tree
text_sound bytes tree lt text =
    let few = tokens_few bytes (first_place bytes) text.cut.0 text.tokens text.cut.1 in
    let same : length text.tokens ≡ length (spelling tree) = sym (length-map text.tokens (word bytes)) ∙ ap length text.spelled in
    let fewer : length (spelling tree) < 2 ^ 32 = omega (arith, few, same) in
    record {
      nests = text.bounded.nests;
      fit = text.bounded.fit;
      well = text_well bytes tree text;
      short = (omega (arith, pairs_few tree), lists_short tree fewer);
    }
