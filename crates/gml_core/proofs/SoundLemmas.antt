-- Soundness of what is inside, and of what is pushed.
use Rattle.std.proofs.Common.{◌≡◌, ◌≢◌, ◌<◌, ◌≤◌, ◌+◌, ◌-◌, ◌^◌, ℕ, zero, suc, true, ℤ, List, [], ◌∷◌, ◌++◌, length, slice_get, Some, Result, Ok, Err, refl, sym, ap, subst, ◌∙◌, arith}
use Rattle.std.specs.Prelude.{OnOk, OnErr, position, ◌==◌}
use Rattle.std.specs.List.{All, position_or_len}
use Rattle.std.proofs.lemmas.Option.{none-some, same_Some}
use Rattle.std.proofs.lemmas.Bool.{and_parts, and_from, ne_eqb, lt-ltb}
use Rattle.std.proofs.lemmas.List.{length-append}
use Rattle.gml_core.specs.declared.token.Token.{Token}
use Rattle.gml_core.specs.declared.fault.GmlFault.{GmlFault}
use Rattle.gml_core.specs.declared.token.TokenKind.TheVariants.{Key, Str}
use Rattle.gml_core.specs.Lexing.{token, string_at, token_at}
use Rattle.gml_core.specs.Trees.{Datum, list, Entry, entry, Entries, none, more, listed, push, depth, entry_depth, max_depth, all_fit, entry_fits, fits, int, str, atom}
use Rattle.gml_core.specs.Sound.{IsSpelled, AreWell, IsWellEntry, HaveShortLists, IsShortEntry, IsSound, IsSoundDatum}

-- what holds of the entries one by one holds of each of them
depth_of : (es : Entries) (i : ℕ) (e : Entry) → slice_get (listed es) i ≡ Some e → entry_depth e ≤ depth es
depth_of none i e is = elim (none-some e is) [ ]
depth_of (more d es) zero e is = rw (← same_Some d e is) (omega arith)
depth_of (more d es) (suc i) e is = let inner = depth_of es i e is in omega (arith, inner)

fits_of : (es : Entries) (i : ℕ) (e : Entry) → all_fit es ≡ true → slice_get (listed es) i ≡ Some e → entry_fits e ≡ true
fits_of none i e fit is = elim (none-some e is) [ ]
fits_of (more d es) zero e fit is = ap entry_fits (sym (same_Some d e is)) ∙ (and_parts (entry_fits d) (all_fit es) fit).0
fits_of (more d es) (suc i) e fit is = fits_of es i e (and_parts (entry_fits d) (all_fit es) fit).1 is

well_of : (es : Entries) (i : ℕ) (e : Entry) → AreWell es → slice_get (listed es) i ≡ Some e → IsWellEntry e
well_of none i e well is = elim (none-some e is) [ ]
well_of (more d es) zero e well is = subst IsWellEntry (same_Some d e is) well.0
well_of (more d es) (suc i) e well is = well_of es i e well.1 is

short_of : (es : Entries) (i : ℕ) (e : Entry) → HaveShortLists es → slice_get (listed es) i ≡ Some e → IsShortEntry e
short_of none i e short is = elim (none-some e is) [ ]
short_of (more d es) zero e short is = subst IsShortEntry (same_Some d e is) short.0
short_of (more d es) (suc i) e short is = short_of es i e short.1 is

pub sound_inside : (es : Entries) (i : ℕ) (k : List ℕ) (at : ℕ) (d : Datum) (inner : Entries) → slice_get (listed es) i ≡ Some (entry k at d) → IsSound es → d ≡ list inner → IsSound inner
sound_inside es i k at d inner is sound same =
    let here = is ∙ ap (λ (x : Datum). Some (entry k at x)) same in
    let e = entry k at (list inner) in
    let deep = depth_of es i e here in
    record {
      nests = omega (arith, deep, sound.nests);
      fit = fits_of es i e sound.fit here;
      well = (well_of es i e sound.well here).1;
      short = short_of es i e sound.short.1 here;
    }

-- ---- one entry more

length_push : (es : Entries) (e : Entry) → length (listed (push es e)) ≡ suc (length (listed es))
length_push none e = refl
length_push (more d es) e = ap suc (length_push es e)

depth_push : (es : Entries) (e : Entry) (n : ℕ) → depth es ≤ n → entry_depth e ≤ n → depth (push es e) ≤ n
depth_push none e n le le' = omega (arith, le')
depth_push (more d es) e n le le' = let others = depth_push es e n (omega (arith, le)) le' in omega (arith, le, others)

fits_push : (es : Entries) (e : Entry) → all_fit es ≡ true → entry_fits e ≡ true → all_fit (push es e) ≡ true
fits_push none e fit fit' = and_from (entry_fits e) true fit' refl
fits_push (more d es) e fit fit' = let parts = and_parts (entry_fits d) (all_fit es) fit in and_from (entry_fits d) (all_fit (push es e)) parts.0 (fits_push es e parts.1 fit')

well_push : (es : Entries) (e : Entry) → AreWell es → IsWellEntry e → AreWell (push es e)
well_push none e well well' = (well', tt)
well_push (more d es) e well well' = (well.0, well_push es e well.1 well')

short_push : (es : Entries) (e : Entry) → HaveShortLists es → IsShortEntry e → HaveShortLists (push es e)
short_push none e short short' = (short', tt)
short_push (more d es) e short short' = (short.0, short_push es e short.1 short')

pub push_sound : (es : Entries) (k : List ℕ) (at : ℕ) (d : Datum) → IsSound es → length (listed es) < 2 ^ 31 - 1 → IsSpelled Key k → IsSoundDatum d → IsSound (push es (entry k at d))
push_sound es k at d sound room key is =
    let e = entry k at d in
    record {
      nests = depth_push es e max_depth sound.nests is.nests;
      fit = fits_push es e sound.fit is.fit;
      well = well_push es e sound.well (key, is.well);
      short = (omega (arith, length_push es e, room), short_push es e sound.short.1 is.short);
    }

pub sound_after : (old new : Entries) (k : List ℕ) (at : ℕ) (d : Datum) {X E : Type 0} (r : Result X E) → OnOk r (new ≡ push old (entry k at d)) → OnErr r (new ≡ old)
    → IsSound old → length (listed old) < 2 ^ 31 - 1 → IsSpelled Key k → IsSoundDatum d → IsSound new
sound_after old new k at d (Ok x) ok err sound room key is = subst IsSound (sym ok) (push_sound old k at d sound room key is)
sound_after old new k at d (Err x) ok err sound room key is = subst IsSound (sym err) sound

-- ---- values

pub int_sound : (z : ℤ) → fits (int z) ≡ true → IsSoundDatum (atom (int z))
int_sound z fit = record { nests = omega arith; fit = fit; well = tt; short = tt }

pub list_sound : (es : Entries) → IsSound es → depth es ≤ 31 → IsSoundDatum (list es)
list_sound es sound le = record { nests = omega (arith, le); fit = sound.fit; well = sound.well; short = sound.short }

-- ---- strings

abbrev good : Token → Result Token GmlFault
good t = Ok t

quote_behind : (text : List ℕ) → All (λ b. b ≢ 34) text → position_or_len (λ x. x == 34) (text ++ 34 ∷ []) ≡ length text
quote_behind [] free = refl
quote_behind (b ∷ bs) free =
    let behind = quote_behind bs (λ k d lt. free (suc k) d (omega (arith, lt))) in
    rw (ne_eqb b 34 (free 0 b (omega arith))) (omega (arith, behind))

string_spelled : (text : List ℕ) → All (λ b. b ≢ 34) text → IsSpelled Str (34 ∷ (text ++ 34 ∷ []))
unfolding token_at
string_spelled text free =
    let size : length (text ++ 34 ∷ []) ≡ length text + 1 = length-append text (34 ∷ []) in
    let at = quote_behind text free in
    let found : position (λ x. x == 34) (text ++ 34 ∷ []) ≡ Some (length text) = rw (at, lt-ltb (length text) (length (text ++ 34 ∷ [])) (omega (arith, size))) refl in
    let len : length text + 2 ≡ length (34 ∷ (text ++ 34 ∷ [])) = omega (arith, size) in
    (refl, ap (string_at 0) found ∙ ap (λ (n : ℕ). good (token Str 0 n)) len)

pub str_sound : (text : List ℕ) → All (λ b. b ≢ 34) text → IsSoundDatum (atom (str text))
str_sound text free = record { nests = omega arith; fit = refl; well = string_spelled text free; short = tt }
