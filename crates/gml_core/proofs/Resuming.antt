-- Reading that is resumed: at the start, after each look, with one piece more, and at the end.
use Rattle.std.proofs.Common.{◌≡◌, ℕ, zero, suc, ◌+◌, ◌-◌, ◌≤◌, Bool, true, false, cond, List, [], ◌∷◌, ◌++◌, length, drop, take, Option, Some, None, Result, Ok, Err, refl, sym, ap, subst, ◌∙◌, append_assoc, arith, zero-add}
use Rattle.std.specs.Prelude.{nat_lt, ◌==◌}
use Rattle.std.proofs.Math.Seq.{drop-length}
use Rattle.std.proofs.lemmas.List.{append-nil, length-append, length-drop, length-take, take-append-drop, drop_at, nil_from_length}
use Rattle.std.proofs.lemmas.Bool.{eqb-true, lt-ltb}
use Rattle.gml_core.specs.declared.token.Token.{Token}
use Rattle.gml_core.specs.declared.fault.GmlFault.{GmlFault}
use Rattle.gml_core.specs.declared.fault.GmlFault.TheVariants.{BadByte}
use Rattle.gml_core.specs.declared.pieces.State.{State}
use Rattle.gml_core.specs.declared.pieces.State.TheVariants.{Start, Between}
use Rattle.gml_core.specs.Lexing.{gap, token_at, found, next_token, first_place}
use Rattle.gml_core.specs.Pieces.{after_gap, at_start, coming, held_of, Goes, Closes}
use Rattle.gml_core.specs.Readers.{Resumes}
use Rattle.gml_core.proofs.Looks.{same_lt}

-- ---- what comes from a place on

drop_none : (n : ℕ) → drop {A = ℕ} n [] ≡ []
drop_none zero = refl
drop_none (suc n) = refl

pub drop_further : (p g : ℕ) (bytes : List ℕ) → drop (p + g) bytes ≡ drop g (drop p bytes)
drop_further zero g bytes = ap (λ (n : ℕ). drop n bytes) (zero-add g)
drop_further (suc p) g [] = drop_none (suc p + g) ∙ sym (drop_none g)
drop_further (suc p) g (b ∷ bs) =
    let n : suc p + g ≡ suc (p + g) = omega arith in
    ap (λ (n : ℕ). drop n (b ∷ bs)) n ∙ drop_further p g bs

pub next_is : (bytes d : List ℕ) (p : ℕ) → drop p bytes ≡ d → p ≤ length bytes → next_token bytes p ≡ after_gap false p d
unfolding next_token after_gap
next_is bytes d p e le =
    let len : length d ≡ length bytes - p = ap length (sym e) ∙ length-drop p bytes in
    let g = gap d in
    let test : nat_lt (p + g) (length bytes) ≡ nat_lt g (length d) = same_lt g (length d) (p + g) (length bytes) (λ h. omega arith) (λ h. omega arith) in
    let behind : drop (p + g) bytes ≡ drop g d = drop_further p g bytes ∙ ap (drop g) e in
    let first : next_token bytes p ≡ cond (nat_lt (p + g) (length bytes)) (found (token_at (p + g) (drop (p + g) bytes))) (Ok None) =
    ap (λ (l : List ℕ). cond (nat_lt (p + gap l) (length bytes)) (found (token_at (p + gap l) (drop (p + gap l) bytes))) (Ok None)) e in
    let second : cond (nat_lt (p + g) (length bytes)) (found (token_at (p + g) (drop (p + g) bytes))) (Ok None) ≡ after_gap false p d = λ i. cond (test i) (found (token_at (p + g) (behind i))) (Ok None) in
    first ∙ second

-- ---- the start

abbrev bad : Result (Option Token) GmlFault
bad = Err (BadByte 0)

-- no token begins with the first byte of a mark
no_mark : (bs : List ℕ) → after_gap false 0 (239 ∷ bs) ≡ Err (BadByte 0)
unfolding after_gap token_at
no_mark bs =
    let test : nat_lt 0 (suc (length bs)) ≡ true = lt-ltb 0 (suc (length bs)) (omega arith) in
    ap (λ (t : Bool). cond t bad (Ok None)) test

not_marked : (x : ℕ) (bs : List ℕ) → next_token (x ∷ bs) 0 ≡ cond (x == 239) bad (after_gap false 0 (x ∷ bs))
not_marked x bs = by (x == 239) refl
  where
    by : (t : Bool) → (x == 239) ≡ t → next_token (x ∷ bs) 0 ≡ cond t bad (after_gap false 0 (x ∷ bs))
    by true e = next_is (x ∷ bs) (x ∷ bs) 0 refl (omega arith) ∙ ap (λ (y : ℕ). after_gap false 0 (y ∷ bs)) (eqb-true x 239 e) ∙ no_mark bs
    by false e = next_is (x ∷ bs) (x ∷ bs) 0 refl (omega arith)

same_bad : (t : Bool) → bad ≡ cond t bad bad
same_bad true = refl
same_bad false = refl

start_comes : (b : List ℕ) → next_token b (first_place b) ≡ at_start 0 b
unfolding after_gap
start_comes [] = next_is [] [] 0 refl (omega arith)
start_comes (x ∷ []) = not_marked x []
start_comes (x ∷ y ∷ []) = not_marked x (y ∷ []) ∙ ap (λ (r : Result (Option Token) GmlFault). cond (x == 239) r (after_gap false 0 (x ∷ y ∷ []))) (same_bad (y == 187))
start_comes (x ∷ y ∷ z ∷ zs) = by (x == 239) (y == 187) (z == 191) (not_marked x (y ∷ z ∷ zs))
  where
    by : (r s t : Bool) → next_token (x ∷ y ∷ z ∷ zs) 0 ≡ cond r bad (after_gap false 0 (x ∷ y ∷ z ∷ zs))
        → next_token (x ∷ y ∷ z ∷ zs) (cond r (cond s (cond t 3 0) 0) 0) ≡ cond r (cond s (cond t (after_gap false 3 zs) bad) bad) (after_gap false 0 (x ∷ y ∷ z ∷ zs))
    by false s t h = h
    by true false t h = h
    by true true false h = h
    by true true true h = next_is (x ∷ y ∷ z ∷ zs) zs 3 refl (omega arith)

pub starts : (Upto : List ℕ → ℕ → Type 0) → ((c : List ℕ) → Upto c (first_place c)) → Resumes Upto [] [] Start 0
unfolding coming
starts Upto h = record { front = []; bytes = refl; ends = refl; placed = tt; comes = λ c. (first_place c, h c, start_comes c) }

-- ---- each look

split_rest : (b front left held new rest : List ℕ) (k : ℕ) → b ≡ front ++ (held ++ rest) → left ++ new ≡ held ++ take k rest → b ≡ (front ++ left) ++ (new ++ drop k rest)
split_rest b front left held new rest k e h =
    e ∙ ap (λ (l : List ℕ). front ++ (held ++ l)) (sym (take-append-drop k rest)) ∙ ap (λ (l : List ℕ). front ++ l) (sym (append_assoc held (take k rest) (drop k rest)))
    ∙ ap (λ (l : List ℕ). front ++ (l ++ drop k rest)) (sym h) ∙ ap (λ (l : List ℕ). front ++ l) (append_assoc left new (drop k rest)) ∙ sym (append_assoc front left (new ++ drop k rest))

pub goes_on : (Upto : List ℕ → ℕ → Type 0) (b rest : List ℕ) (s t : State) (at k : ℕ) → Resumes Upto b rest s at → Goes s at rest t k → Resumes Upto b (drop k rest) t (at + k)
goes_on Upto b rest s t at k r goes = record {
  front = r.front ++ goes.left;
  bytes = split_rest b r.front goes.left (held_of s) (held_of t) rest k r.bytes goes.bytes;
  ends =
      omega (arith, r.ends, goes.within, length-append r.front goes.left, ap length goes.bytes, length-append goes.left (held_of t), length-append (held_of s) (take k rest), length-take k rest);
  placed = goes.placed;
  comes = λ c. let h = r.comes c in (h.0, h.1, h.2 ∙ goes.comes c);
}

pub closes : (Upto Then : List ℕ → ℕ → Type 0) (b rest text : List ℕ) (s : State) (at k : ℕ) (t : Token) → Resumes Upto b rest s at → Closes s at rest t text k
    → ((c : List ℕ) (place : ℕ) → Upto (b ++ c) place → next_token (b ++ c) place ≡ Ok (Some t) → Then (b ++ c) t.to) → Resumes Then b (drop k rest) Between (at + k)
unfolding coming
closes Upto Then b rest text s at k t r sees more = record {
  front = front;
  bytes = split;
  ends = ends;
  placed = tt;
  comes = λ c.
      let h = r.comes c in
      let all : b ++ c ≡ front ++ (drop k rest ++ c) = ap (λ (l : List ℕ). l ++ c) split ∙ append_assoc front (drop k rest) c in
      let behind : drop (at + k) (b ++ c) ≡ drop k rest ++ c = ap (drop (at + k)) all ∙ drop_at front (drop k rest ++ c) (at + k) (omega (arith, ends)) in
      let within : at + k ≤ length (b ++ c) = omega (arith, ends, ap length all, length-append front (drop k rest ++ c)) in
      (t.to, more c h.0 h.1 (h.2 ∙ sees.comes c), ap (next_token (b ++ c)) sees.to ∙ next_is (b ++ c) (drop k rest ++ c) (at + k) behind within);
}
  where
    front : List ℕ
    front = r.front ++ (held_of s ++ take k rest)

    split : b ≡ front ++ drop k rest
    split = split_rest b r.front (held_of s ++ take k rest) (held_of s) [] rest k r.bytes (append-nil _)

    ends : at + k ≡ length front + 0
    ends = omega (arith, r.ends, sees.within, length-append r.front (held_of s ++ take k rest), length-append (held_of s) (take k rest), length-take k rest)

-- ---- pieces

pub piece_more : (Upto : List ℕ → ℕ → Type 0) (b p : List ℕ) (s : State) (at : ℕ) → Resumes Upto b [] s at → Resumes Upto (b ++ p) p s at
piece_more Upto b p s at r = record {
  front = r.front;
  bytes = ap (λ (l : List ℕ). l ++ p) (r.bytes ∙ ap (λ (l : List ℕ). r.front ++ l) (append-nil (held_of s))) ∙ append_assoc r.front (held_of s) p;
  ends = r.ends;
  placed = r.placed;
  comes = λ c. subst (λ (l : List ℕ). (place : ℕ) × Upto l place × (next_token l place ≡ coming s at (p ++ c))) (sym (append_assoc b p c)) (r.comes (p ++ c));
}

pub piece_done : (Upto : List ℕ → ℕ → Type 0) (b rest : List ℕ) (s : State) (at : ℕ) → length rest ≡ 0 → Resumes Upto b rest s at → Resumes Upto b [] s at
piece_done Upto b rest s at none r = subst (λ (l : List ℕ). Resumes Upto b l s at) (nil_from_length rest none) r

pub length_is : (Upto : List ℕ → ℕ → Type 0) (b : List ℕ) (s : State) (at : ℕ) → Resumes Upto b [] s at → at ≡ length b
length_is Upto b s at r = omega (arith, r.ends, ap length r.bytes, length-append r.front (held_of s ++ []), length-append (held_of s) [])

-- ---- the end

pub ending : (Upto : List ℕ → ℕ → Type 0) (b : List ℕ) (s : State) (at : ℕ) → Resumes Upto b [] s at → (place : ℕ) × Upto b place × (next_token b place ≡ coming s at [])
ending Upto b s at r = subst (λ (l : List ℕ). (place : ℕ) × Upto l place × (next_token l place ≡ coming s at [])) (append-nil b) (r.comes [])

pub none_behind : (b : List ℕ) → next_token b (length b) ≡ Ok None
unfolding after_gap
none_behind b = next_is b [] (length b) (drop-length b) (omega arith)
