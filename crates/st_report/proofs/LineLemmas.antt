-- A diagnostic line: the names of a list one after the other, and what a writer of the line leaves.
use Rattle.std.proofs.Common.{◌≡◌, ◌<◌, ◌+◌, List, ℕ, ℤ, [], ◌∷◌, ◌++◌, codes, length, take, drop, get_or, refl, subst, append-nil, append_assoc, sym, ap, ◌∙◌, inl, inr, Result, Ok, Err}
use Rattle.std.specs.Prelude.{OnOk, IsTrue}
use Rattle.std.proofs.lemmas.List.{take-append-drop, take_more}
use Rattle.st_port.specs.Streams.{SinkState, Gains, GainsFront}
use Rattle.st_port.specs.Writes.{Writes}
use Rattle.st_port.proofs.Public.{Gains-kept, GainsFront-all, Writes-after, Writes-longer}
use Rattle.st_report.specs.Lines.{numbered, spaced, names_line}
use Rattle.st_report.specs.Telling.{Tells}

-- the whole piece, and then nothing more, is a front of the piece
pub GainsFront-whole : (a b c : SinkState) (xs : List ℕ) → Gains a b xs → Gains b c [] → GainsFront a c xs
GainsFront-whole a b c xs first second = GainsFront-all a c xs (Gains-kept a b c xs first second)

-- a line that was written and flushed, or failed
pub tells : {E : Type 0} (a b : SinkState) (r : Result (Unit {0}) E) (line : List ℕ) → Writes a b r line → OnOk r (IsTrue b.is_flushed) → Tells a b line
tells a b (Ok v) line w flushed = inl (w.whole, flushed)
tells a b (Err e) line w flushed = inr (w.front, w.cause)

spaced-append : (ns ms : List ℤ) → spaced (ns ++ ms) ≡ spaced ns ++ spaced ms
spaced-append [] ms = refl
spaced-append (n ∷ ns) ms = ap (λ l. numbered (codes " ") n [] ++ l) (spaced-append ns ms) ∙ sym (append_assoc (numbered (codes " ") n []) (spaced ns) (spaced ms))

-- one name more
pub spaced-push : (ns : List ℤ) (i : ℕ) (d : ℤ) → i < length ns → spaced (take (i + 1) ns) ≡ spaced (take i ns) ++ numbered (codes " ") (get_or ns i d) []
spaced-push ns i d there = ap spaced (take_more ns i d there) ∙ spaced-append (take i ns) (get_or ns i d ∷ []) ∙ ap (λ l. spaced (take i ns) ++ l) (append-nil (numbered (codes " ") (get_or ns i d) []))

-- some names are the beginning of their line
names_rest : (ns : List ℤ) (i : ℕ) → spaced (take i ns) ++ (spaced (drop i ns) ++ codes "\n") ≡ names_line ns
names_rest ns i =
    sym (append_assoc (spaced (take i ns)) (spaced (drop i ns)) (codes "\n"))
    ∙ ap (λ l. l ++ codes "\n") (sym (spaced-append (take i ns) (drop i ns)) ∙ ap spaced (take-append-drop i ns))

-- the first i names, and then one name more
pub Writes-name : {E : Type 0} (a b c : SinkState) (v : Unit {0}) (r : Result (Unit {0}) E) (ns : List ℤ) (i : ℕ) (d : ℤ) → i < length ns
    → Writes {E = E} a b (Ok v) (spaced (take i ns)) → Writes b c r (numbered (codes " ") (get_or ns i d) []) → Writes a c r (spaced (take (i + 1) ns))
Writes-name a b c v r ns i d there first second =
    subst (λ l. Writes a c r l) (sym (spaced-push ns i d there)) (Writes-after a b c v r (spaced (take i ns)) (numbered (codes " ") (get_or ns i d) []) first second)

-- some names, and then a failure: the line failed
pub Writes-names : {E : Type 0} (a b : SinkState) (e : E) (ns : List ℤ) (i : ℕ) → Writes a b (Err e) (spaced (take i ns)) → Writes a b (Err e) (names_line ns)
Writes-names a b e ns i w = subst (λ l. Writes a b (Err e) l) (names_rest ns i) (Writes-longer a b e (spaced (take i ns)) (spaced (drop i ns) ++ codes "\n") w)

-- six pieces appended in turn, as the one text that they are
pub six_pieces : (old t0 t1 t2 t3 t4 t5 head a b c d e : List ℕ) → t0 ≡ old ++ head → t1 ≡ t0 ++ a → t2 ≡ t1 ++ b → t3 ≡ t2 ++ c → t4 ≡ t3 ++ d → t5 ≡ t4 ++ e → t5 ≡ old ++ (((head ++ a) ++ (b ++ c)) ++ (d ++ e))
six_pieces old t0 t1 t2 t3 t4 t5 head a b c d e p0 p1 p2 p3 p4 p5 =
    let all : t5 ≡ (((((old ++ head) ++ a) ++ b) ++ c) ++ d) ++ e = cc in
    all ∙ simp (append_assoc) refl
