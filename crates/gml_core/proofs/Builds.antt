-- The words and the places that a builder keeps, as tokens come.
use Rattle.std.proofs.Common.{◌≡◌, ℕ, ◌<◌, ◌≤◌, Bool, true, false, cond, ℤ, List, [], ◌∷◌, ◌++◌, length, map, reverse, take, drop, Some, None, Ok, Err, refl, sym, ap, subst, ◌∙◌, append_assoc, arith}
use Rattle.std.specs.Prelude.{IsTrue, nat_le}
use Rattle.std.proofs.lemmas.Option.{cond_some}
use Rattle.std.proofs.lemmas.Bool.{lt-ltb, le-ltb, le-leb, leb-true}
use Rattle.std.proofs.Math.Seq.{take-length, drop-length}
use Rattle.std.proofs.lemmas.List.{append-nil, map_push, reverse-append, length-reverse, length-map, length-take, nil_from_length, take-append-le, drop-append-le}
use Rattle.gml_core.specs.declared.fault.GmlFault.TheVariants.{Stray, TooDeep}
use Rattle.gml_core.specs.declared.tree.Value.{Value}
use Rattle.gml_core.specs.declared.tree.Pair.{Pair}
use Rattle.gml_core.specs.declared.parsing.Frame.{Frame}
use Rattle.gml_core.specs.declared.parsing.Waiting.{Waiting}
use Rattle.gml_core.specs.declared.parsing.Builder.{Builder}
use Rattle.gml_core.specs.Trees.{Word, opens, closes, key, value, Atom, int, real, str, atom, fits, list, entry, spelling, entry_spelling}
use Rattle.gml_core.specs.Views.{datum, entries, entry_view}
use Rattle.gml_core.specs.Reading.{integer, at_value, step_at}
use Rattle.gml_core.specs.Nested.{nested}
use Rattle.gml_core.specs.Building.{open_words, places, state_of, TakesWord, IsAtom}

-- one pair more
pub spelling_push : (ps : List Pair) (p : Pair) → spelling (entries (ps ++ p ∷ [])) ≡ spelling (entries ps) ++ entry_spelling (entry_view p)
spelling_push [] p = append-nil (entry_spelling (entry_view p))
spelling_push (q ∷ ps) p = ap (λ (w : List Word). entry_spelling (entry_view q) ++ w) (spelling_push ps p) ∙ sym (append_assoc (entry_spelling (entry_view q)) (spelling (entries ps)) (entry_spelling (entry_view p)))

-- one list more that is open
pub places_push : (fs : List Frame) (f : Frame) → places (fs ++ f ∷ []) ≡ f.from ∷ places fs
places_push fs f = ap reverse (map_push (λ (g : Frame). g.from) fs f) ∙ reverse-append (map (λ (g : Frame). g.from) fs) (f.from ∷ [])

pub length-places : (fs : List Frame) → length (places fs) ≡ length fs
length-places fs = length-reverse (map (λ (g : Frame). g.from) fs) ∙ length-map fs (λ (g : Frame). g.from)

-- one more that is open, first
open_more : (fs : List Frame) (f : Frame) (ps : List Pair) → open_words (reverse (fs ++ f ∷ [])) ps ≡ open_words (f ∷ reverse fs) ps
open_more fs f ps = ap (λ (l : List Frame). open_words l ps) (reverse-append fs (f ∷ []))

-- where lists are nested, the innermost begins within the pairs
pub nested_within : (fs : List Frame) (f : Frame) (n : ℕ) → IsTrue (nested (f ∷ fs) n) → (f.start ≤ n) × IsTrue (nested fs f.start)
nested_within fs f n h = by (nat_le f.start n) refl h
  where
    by : (t : Bool) → nat_le f.start n ≡ t → IsTrue (cond t (nested fs f.start) false) → (f.start ≤ n) × IsTrue (nested fs f.start)
    by true e h = (leb-true f.start n e, h)
    by false e h = absurd cc

pub nested_more : (fs : List Frame) (n m : ℕ) → n ≤ m → IsTrue (nested fs n) → IsTrue (nested fs m)
nested_more [] n m le h = refl
nested_more (f ∷ fs) n m le h =
    let w = nested_within fs f n h in
    let test : nat_le f.start m ≡ true = le-leb f.start m (omega (arith, w.0)) in
    rw test w.1

-- of a stack, where the innermost list stands last
pub nested_last : (fs : List Frame) (f : Frame) (n : ℕ) → IsTrue (nested (reverse (fs ++ f ∷ [])) n) → (f.start ≤ n) × IsTrue (nested (reverse fs) f.start)
nested_last fs f n h = nested_within (reverse fs) f n (subst (λ (l : List Frame). IsTrue (nested l n)) (reverse-append fs (f ∷ [])) h)

-- the innermost list is taken off a stack
pub nested_popped : (ss fs : List Frame) (f : Frame) (n m : ℕ) → ss ≡ fs ++ f ∷ [] → IsTrue (nested (reverse ss) n) → f.start ≤ m → IsTrue (nested (reverse fs) m)
nested_popped ss fs f n m e h le = nested_more (reverse fs) f.start m le (nested_last fs f n (subst (λ (l : List Frame). IsTrue (nested (reverse l) n)) e h)).1

-- one pair more, in the innermost list
open_push : (fs : List Frame) (ps : List Pair) (p : Pair) → IsTrue (nested fs (length ps)) → open_words fs (ps ++ p ∷ []) ≡ open_words fs ps ++ entry_spelling (entry_view p)
open_push [] ps p h = spelling_push ps p
open_push (f ∷ fs) ps p h =
    let le : f.start ≤ length ps = (nested_within fs f (length ps) h).0 in
    let front : take f.start (ps ++ p ∷ []) ≡ take f.start ps = take-append-le f.start ps (p ∷ []) le in
    let back : drop f.start (ps ++ p ∷ []) ≡ drop f.start ps ++ p ∷ [] = drop-append-le f.start ps (p ∷ []) le in
    rw (front, back, spelling_push (drop f.start ps) p) (simp append_assoc)

length_of_take : (n : ℕ) (ps : List Pair) → n ≤ length ps → length (take n ps) ≡ n
length_of_take n ps le = omega (arith, length-take n ps)

-- the innermost list ends
close_words : (fs : List Frame) (f : Frame) (ps qs inner : List Pair) (p : Pair) → IsTrue (nested (reverse (fs ++ f ∷ [])) (length ps)) → inner ≡ drop f.start ps → qs ≡ take f.start ps ++ p ∷ [] → entry_view p ≡ entry f.key f.at (list (entries inner))
    → open_words (reverse fs) qs ++ [] ≡ (open_words (reverse (fs ++ f ∷ [])) ps ++ []) ++ closes ∷ []
close_words fs f ps qs inner p nests inner-is qs-is e =
    let w = nested_last fs f (length ps) nests in
    let size : length (take f.start ps) ≡ f.start = length_of_take f.start ps w.0 in
    let within : IsTrue (nested (reverse fs) (length (take f.start ps))) = rw size w.1 in
    rw (qs-is, open_push (reverse fs) (take f.start ps) p within, e, inner-is, open_more fs f ps) (simp (append_assoc, append-nil))

-- a list begins
begin_words : (fs : List Frame) (f : Frame) (ps : List Pair) → f.start ≡ length ps → open_words (reverse (fs ++ f ∷ [])) ps ++ [] ≡ (open_words (reverse fs) ps ++ key f.key f.at ∷ []) ++ opens ∷ []
begin_words fs f ps start =
    let front : take f.start ps ≡ ps = ap (λ (n : ℕ). take n ps) start ∙ take-length ps in
    let back : drop f.start ps ≡ [] = ap (λ (n : ℕ). drop n ps) start ∙ drop-length ps in
    rw (open_more fs f ps, front, back) (simp (append_assoc, append-nil))

-- a pair ends with a value that is no list
put_words : (fs : List Frame) (ps : List Pair) (p : Pair) (k : List ℕ) (at : ℕ) (a : Atom) → IsTrue (nested fs (length ps)) → entry_view p ≡ entry k at (atom a)
    → open_words fs (ps ++ p ∷ []) ++ [] ≡ (open_words fs ps ++ key k at ∷ []) ++ value a ∷ []
put_words fs ps p k at a nests e = rw (open_push fs ps p nests, e) (simp (append_assoc, append-nil))

-- ---- steps

pub step_close : (at l : ℕ) (ls : List ℕ) (w : Word) → w ≡ closes → step_at (record { waits = None; lists = l ∷ ls }) at w ≡ Ok (record { waits = None; lists = ls })
unfolding step_at
step_close at l ls w e = rw e refl

pub step_stray : (at : ℕ) (w : Word) → w ≡ closes → step_at (record { waits = None; lists = [] }) at w ≡ Err (Stray at)
unfolding step_at
step_stray at w e = rw e refl

pub step_key : (at : ℕ) (ls text : List ℕ) (w : Word) → w ≡ key text at → step_at (record { waits = None; lists = ls }) at w ≡ Ok (record { waits = Some at; lists = ls })
unfolding step_at
step_key at ls text w e = rw e refl

pub step_begin : (at : ℕ) (ls : List ℕ) (k : ℕ) (w : Word) → w ≡ opens → length ls < 32 → step_at (record { waits = Some k; lists = ls }) at w ≡ Ok (record { waits = None; lists = at ∷ ls })
unfolding step_at
step_begin at ls k w e lt = rw (e, lt-ltb _ _ lt) refl

pub step_deep : (at : ℕ) (ls : List ℕ) (k : ℕ) (w : Word) → w ≡ opens → 32 ≤ length ls → step_at (record { waits = Some k; lists = ls }) at w ≡ Err (TooDeep at)
unfolding step_at
step_deep at ls k w e le = rw (e, le-ltb _ _ le) refl

pub step_value : (at : ℕ) (ls : List ℕ) (k : ℕ) (w : Word) (a : Atom) → w ≡ value a → fits a ≡ true → step_at (record { waits = Some k; lists = ls }) at w ≡ Ok (record { waits = None; lists = ls })
unfolding step_at
step_value at ls k w a e fit = ap (at_value k ls at) e ∙ rw fit refl

-- ---- what each part of the builder does

pub close_takes : (at : ℕ) (word : Word) (old new : Builder) (f : Frame) (inner : List Pair) (p : Pair) → word ≡ closes → old.waits ≡ None → new.waits ≡ None
    → old.stack.items ≡ new.stack.items ++ f ∷ [] → inner ≡ drop f.start old.pairs.items → new.pairs.items ≡ take f.start old.pairs.items ++ p ∷ [] → entry_view p ≡ entry f.key f.at (list (entries inner)) → TakesWord at word old new
close_takes at word old new f inner p said none none' stack inner-is pairs view =
    let nests : IsTrue (nested (reverse (new.stack.items ++ f ∷ [])) (length old.pairs.items)) = subst (λ (l : List Frame). IsTrue (nested (reverse l) (length old.pairs.items))) stack old.nested in
    record {
      words = rw (none, none', stack, said) (close_words new.stack.items f old.pairs.items new.pairs.items inner p nests inner-is pairs view);
      state = rw (none, none', stack, places_push new.stack.items f) (step_close at f.from (places new.stack.items) word said);
    }

pub wait_takes : (at : ℕ) (word : Word) (old new : Builder) (text : List ℕ) (w : Waiting) → word ≡ key text at → old.waits ≡ None → new.waits ≡ Some w → w.key ≡ text → w.at ≡ at
    → new.stack.items ≡ old.stack.items → new.pairs.items ≡ old.pairs.items → TakesWord at word old new
wait_takes at word old new text w said none some key-is at-is stack pairs = record {
  words = rw (none, some, stack, pairs, key-is, at-is, said) (simp append-nil);
  state = rw (none, some, stack, at-is) (step_key at (places old.stack.items) text word said);
}

pub begin_takes : (at : ℕ) (word : Word) (old new : Builder) (w : Waiting) (f : Frame) → word ≡ opens → length old.stack.items < 32 → old.waits ≡ Some w → new.waits ≡ None
    → new.stack.items ≡ old.stack.items ++ f ∷ [] → new.pairs.items ≡ old.pairs.items → f.start ≡ length old.pairs.items → f.key ≡ w.key → f.at ≡ w.at → f.from ≡ at → TakesWord at word old new
begin_takes at word old new w f said lt some none stack pairs start key-is at-is from-is = record {
  words = rw (some, none, stack, pairs, ← key-is, ← at-is, said) (begin_words old.stack.items f old.pairs.items start);
  state = rw (some, none, stack, places_push old.stack.items f, from-is) (step_begin at (places old.stack.items) w.at word said (omega (arith, length-places old.stack.items)));
}

pub put_takes : (at : ℕ) (word : Word) (old new : Builder) (w : Waiting) (v : Value) (p : Pair) → IsAtom word v → old.waits ≡ Some w → new.waits ≡ None → new.stack.items ≡ old.stack.items
    → new.pairs.items ≡ old.pairs.items ++ p ∷ [] → entry_view p ≡ entry w.key w.at (datum v) → TakesWord at word old new
put_takes at word old new w v p is some none stack pairs view = record {
  words = rw (some, none, stack, pairs, is.word) (put_words (reverse old.stack.items) old.pairs.items p w.key w.at is.said old.nested (view ∙ ap (entry w.key w.at) is.value));
  state = rw (some, none, stack) (step_value at (places old.stack.items) w.at word is.said is.word is.fit);
}

pub close_fails : (at : ℕ) (word : Word) (old : Builder) → word ≡ closes → old.waits ≡ None → length old.stack.items ≡ 0 → step_at (state_of old) at word ≡ Err (Stray at)
close_fails at word old said none zero-is = rw (none, nil_from_length old.stack.items zero-is) (step_stray at word said)

pub begin_fails : (at : ℕ) (word : Word) (old : Builder) (w : Waiting) → word ≡ opens → old.waits ≡ Some w → 32 ≤ length old.stack.items → step_at (state_of old) at word ≡ Err (TooDeep at)
begin_fails at word old w said some le = rw some (step_deep at (places old.stack.items) w.at word said (omega (arith, length-places old.stack.items)))

-- ---- values

pub int_is : (w : Word) (v : Value) (text : List ℕ) (n : ℤ) → w ≡ value (int (integer text)) → cond (fits (int (integer text))) (Some (integer text)) None ≡ Some n → datum v ≡ atom (int n) → IsAtom w v
int_is w v text n said read view =
    let kept = cond_some (fits (int (integer text))) (integer text) n read in
    record {
      said = int (integer text);
      value = view ∙ ap (λ (z : ℤ). atom (int z)) (sym kept.1);
      word = said;
      fit = kept.0;
    }

pub real_is : (w : Word) (v : Value) (text : List ℕ) → w ≡ value (real text) → datum v ≡ atom (real text) → IsAtom w v
real_is w v text said view = record { said = real text; value = view; word = said; fit = refl }

pub str_is : (w : Word) (v : Value) (text : List ℕ) → w ≡ value (str text) → datum v ≡ atom (str text) → IsAtom w v
str_is w v text said view = record { said = str text; value = view; word = said; fit = refl }
