-- Which words may follow one another: whether a value comes next, and how many lists are open.
use Rattle.std.proofs.Common.{◌≡◌, ℕ, zero, suc, ◌+◌, ◌<◌, ◌≤◌, Bool, true, false, cond, ltb, List, [], ◌∷◌, ◌++◌, length, map, Option, Some, None, Result, Ok, Err, refl, sym, ap, ◌∙◌, append_assoc, arith, ◌⊎◌, inl, inr, subst}
use Rattle.std.specs.Prelude.{option_and_then, is_some}
use Rattle.std.proofs.lemmas.List.{append-nil, nil_from_length}
use Rattle.std.proofs.lemmas.Option.{none-some, same_Some}
use Rattle.std.proofs.lemmas.Bool.{and_from, and_parts, ltb-true, lt-ltb}
use Rattle.gml_core.specs.declared.token.Token.{Token}
use Rattle.gml_core.specs.declared.fault.GmlFault.{GmlFault}
use Rattle.gml_core.specs.Trees.{Datum, atom, list, Entry, entry, Entries, none, more, Word, opens, closes, key, value, spelling, entry_spelling, datum_spelling, depth, datum_depth, entry_depth, fits, all_fit, datum_fits, entry_fits}
use Rattle.gml_core.specs.Reading.{State, begin, IsBounded, at_pair, at_value, step_in, step, word, Moves}

abbrev pub Shape : Type 0
Shape = Bool × ℕ

abbrev pub walk_one : Bool → ℕ → Word → Option Shape
walk_one false n (key k at) = Some (true, n)
walk_one false zero closes = None
walk_one false (suc n) closes = Some (false, n)
walk_one false n opens = None
walk_one false n (value a) = None
walk_one true n (key k at) = None
walk_one true n closes = None
walk_one true n opens = cond (ltb n 32) (Some (false, suc n)) None
walk_one true n (value a) = cond (fits a) (Some (false, n)) None

abbrev pub walk : Bool → ℕ → List Word → Option Shape
walk b n [] = Some (b, n)
walk b n (w ∷ ws) = option_and_then (λ (s : Shape). walk s.0 s.1 ws) (walk_one b n w)

abbrev pub shape : State → Shape
shape s = (is_some s.waits, length s.lists)

-- ---- the steps of tokens are steps of their words

cond_ok : {A E : Type 0} (b : Bool) (x y : A) (f : E) → cond b (Ok x) (Err f) ≡ Ok y → (b ≡ true) × (x ≡ y)
cond_ok true x y f e = (refl, cc)
cond_ok false x y f e = absurd cc

cond_err : {A E : Type 0} (b : Bool) (x : A) (f g : E) → cond b (Ok x) (Err f) ≡ Err g → b ≡ false
cond_err true x f g e = absurd cc
cond_err false x f g e = refl

abbrev ok : State → Result State GmlFault
ok s = Ok s

ok_is : (x y : State) → ok x ≡ ok y → x ≡ y
ok_is x y e = cc

abbrev shown : State → Option Shape
shown s = Some (shape s)

walk_pair : (lists : List ℕ) (at : ℕ) (w : Word) (m : State) → at_pair lists at w ≡ Ok m → walk_one false (length lists) w ≡ Some (shape m)
walk_pair lists at (key k place) m e = ap shown (ok_is _ _ e)
walk_pair [] at closes m e = absurd cc
walk_pair (l ∷ ls) at closes m e = ap shown (ok_is _ _ e)
walk_pair lists at opens m e = absurd cc
walk_pair lists at (value a) m e = absurd cc

walk_value : (k : ℕ) (lists : List ℕ) (at : ℕ) (w : Word) (m : State) → at_value k lists at w ≡ Ok m → walk_one true (length lists) w ≡ Some (shape m)
walk_value k lists at (key name place) m e = absurd cc
walk_value k lists at closes m e = absurd cc
walk_value k lists at opens m e = let g = cond_ok (ltb (length lists) 32) _ m _ e in rw g.0 (ap shown g.1)
walk_value k lists at (value a) m e = let g = cond_ok (fits a) _ m _ e in rw g.0 (ap shown g.1)

pub walk_step : (bytes : List ℕ) (s m : State) (t : Token) → step bytes s t ≡ Ok m → walk_one (is_some s.waits) (length s.lists) (word bytes t) ≡ Some (shape m)
unfolding step
walk_step bytes s m t e =
    elim s.waits as (λ (w : Option ℕ). step_in w s.lists t.from (word bytes t) ≡ Ok m → walk_one (is_some w) (length s.lists) (word bytes t) ≡ Some (shape m)) [
      | None ↦ walk_pair s.lists t.from (word bytes t) m
      | Some k ↦ walk_value k s.lists t.from (word bytes t) m
    ] e

-- and a fault is where words end
none_pair : (lists : List ℕ) (at : ℕ) (w : Word) (f : GmlFault) → at_pair lists at w ≡ Err f → walk_one false (length lists) w ≡ None
none_pair lists at (key k place) f e = absurd cc
none_pair [] at closes f e = refl
none_pair (l ∷ ls) at closes f e = absurd cc
none_pair lists at opens f e = refl
none_pair lists at (value a) f e = refl

none_value : (k : ℕ) (lists : List ℕ) (at : ℕ) (w : Word) (f : GmlFault) → at_value k lists at w ≡ Err f → walk_one true (length lists) w ≡ None
none_value k lists at (key name place) f e = refl
none_value k lists at closes f e = refl
none_value k lists at opens f e = rw (cond_err (ltb (length lists) 32) _ _ f e) refl
none_value k lists at (value a) f e = rw (cond_err (fits a) _ _ f e) refl

pub none_step : (bytes : List ℕ) (s : State) (t : Token) (f : GmlFault) → step bytes s t ≡ Err f → walk_one (is_some s.waits) (length s.lists) (word bytes t) ≡ None
unfolding step
none_step bytes s t f e =
    elim s.waits as (λ (w : Option ℕ). step_in w s.lists t.from (word bytes t) ≡ Err f → walk_one (is_some w) (length s.lists) (word bytes t) ≡ None) [
      | None ↦ none_pair s.lists t.from (word bytes t) f
      | Some k ↦ none_value k s.lists t.from (word bytes t) f
    ] e

-- what the tokens lead to, whatever words follow
pub walk_moves : (bytes : List ℕ) (s e : State) (ts : List Token) (rest : List Word) → Moves bytes s ts e
    → walk (is_some s.waits) (length s.lists) (map (word bytes) ts ++ rest) ≡ walk (is_some e.waits) (length e.lists) rest
walk_moves bytes s e [] rest moves = ap (λ (x : State). walk (is_some x.waits) (length x.lists) rest) moves
walk_moves bytes s e (t ∷ ts) rest moves =
    ap (option_and_then (λ (x : Shape). walk x.0 x.1 (map (word bytes) ts ++ rest))) (walk_step bytes s moves.0 t moves.1) ∙ walk_moves bytes moves.0 e ts rest moves.2

-- ---- what is spelled is walked, if it is bounded, and only then

some_from_cond : {A : Type 0} (b : Bool) (x y : A) → cond b (Some x) None ≡ Some y → b ≡ true
some_from_cond true x y e = refl
some_from_cond false x y e = absurd cc

-- a value of a key at depth n is within the depth and its integers fit, and the words behind it are walked
pub record IsValueWalked (n : ℕ) (d : Datum) (rest : List Word) (x : Shape) : Type 0 where
  pub nests : n + datum_depth d ≤ 32
  pub fit : datum_fits d ≡ true
  pub behind : walk false n rest ≡ Some x

pub record IsListWalked (n : ℕ) (es : Entries) (rest : List Word) (x : Shape) : Type 0 where
  pub nests : n + depth es ≤ 32
  pub fit : all_fit es ≡ true
  pub behind : walk false n rest ≡ Some x

then_some : {A B : Type 0} (b : Bool) (x : A) (f : A → Option B) (y : B) → option_and_then f (cond b (Some x) None) ≡ Some y → (b ≡ true) × (f x ≡ Some y)
then_some true x f y e = (refl, e)
then_some false x f y e = absurd cc

mutual
  pub walked_value : (d : Datum) (n : ℕ) (rest : List Word) (x : Shape) → n ≤ 32 → walk true n (datum_spelling d ++ rest) ≡ Some x → IsValueWalked n d rest x
  walked_value (atom a) n rest x le e =
      let g = then_some (fits a) (false, n) (λ (s : Shape). walk s.0 s.1 rest) x e in
      record { nests = omega arith; fit = g.0; behind = g.1 }
  walked_value (list es) n rest x le e =
      let g = then_some (ltb n 32) (false, suc n) (λ (s : Shape). walk s.0 s.1 ((spelling es ++ closes ∷ []) ++ rest)) x e in
      let lt : n < 32 = ltb-true n 32 g.0 in
      let inner = walked_list es (suc n) (closes ∷ rest) x (omega arith) (ap (walk false (suc n)) (sym (append_assoc (spelling es) (closes ∷ []) rest)) ∙ g.1) in
      record { nests = omega (arith, inner.nests); fit = inner.fit; behind = inner.behind }

  pub walked_entry : (e : Entry) (n : ℕ) (rest : List Word) (x : Shape) → n ≤ 32 → walk false n (entry_spelling e ++ rest) ≡ Some x → (n + entry_depth e ≤ 32) × (entry_fits e ≡ true) × (walk false n rest ≡ Some x)
  walked_entry (entry k at d) n rest x le e = let v = walked_value d n rest x le e in (v.nests, v.fit, v.behind)

  pub walked_list : (es : Entries) (n : ℕ) (rest : List Word) (x : Shape) → n ≤ 32 → walk false n (spelling es ++ rest) ≡ Some x → IsListWalked n es rest x
  walked_list none n rest x le e = record { nests = omega arith; fit = refl; behind = e }
  walked_list (more e es) n rest x le h =
      let first = walked_entry e n (spelling es ++ rest) x le (ap (walk false n) (sym (append_assoc (entry_spelling e) (spelling es) rest)) ∙ h) in
      let others = walked_list es n rest x le first.2 in
      record { nests = omega (arith, first.0, others.nests); fit = and_from _ _ first.1 others.fit; behind = others.behind }

-- tokens that lead from the beginning to the end spell nothing but bounded trees
pub moves_bounded : (bytes : List ℕ) (ts : List Token) (tree : Entries) → map (word bytes) ts ≡ spelling tree → Moves bytes begin ts begin → IsBounded tree
moves_bounded bytes ts tree spelled moves =
    let walked : walk false 0 (spelling tree ++ []) ≡ Some (false, 0) = ap (λ (ws : List Word). walk false 0 (ws ++ [])) (sym spelled) ∙ walk_moves bytes begin begin ts [] moves in
    let bounded = walked_list tree 0 [] (false, 0) (omega arith) walked in
    record { nests = omega (arith, bounded.nests); fit = bounded.fit }

-- ---- a bounded tree is walked

mutual
  pub walk_datum : (d : Datum) (n : ℕ) (rest : List Word) → n + datum_depth d ≤ 32 → datum_fits d ≡ true → walk true n (datum_spelling d ++ rest) ≡ walk false n rest
  walk_datum (atom a) n rest le fit = rw fit refl
  walk_datum (list es) n rest le fit =
      let lt : n < 32 = omega arith in
      let inner = walk_list es (suc n) (closes ∷ rest) (omega arith) fit in
      rw (lt-ltb n 32 lt) (ap (walk false (suc n)) (append_assoc (spelling es) (closes ∷ []) rest) ∙ inner)

  pub walk_entry : (e : Entry) (n : ℕ) (rest : List Word) → n + entry_depth e ≤ 32 → entry_fits e ≡ true → walk false n (entry_spelling e ++ rest) ≡ walk false n rest
  walk_entry (entry k at d) n rest le fit = walk_datum d n rest le fit

  pub walk_list : (es : Entries) (n : ℕ) (rest : List Word) → n + depth es ≤ 32 → all_fit es ≡ true → walk false n (spelling es ++ rest) ≡ walk false n rest
  walk_list none n rest le fit = refl
  walk_list (more e es) n rest le fit =
      let both = and_parts (entry_fits e) (all_fit es) fit in
      ap (walk false n) (append_assoc (entry_spelling e) (spelling es) rest) ∙ walk_entry e n (spelling es ++ rest) (omega arith) both.0 ∙ walk_list es n rest (omega arith) both.1

pub walk_bounded : (tree : Entries) → IsBounded tree → walk false 0 (spelling tree) ≡ Some (false, 0)
walk_bounded tree bounded = ap (walk false 0) (sym (append-nil (spelling tree))) ∙ walk_list tree 0 [] (omega (arith, bounded.nests)) bounded.fit

-- ---- tokens whose words are walked lead to a state

step_cases : (r : Result State GmlFault) → ((m : State) × (r ≡ Ok m)) ⊎ ((f : GmlFault) × (r ≡ Err f))
step_cases (Ok m) = inl (m, refl)
step_cases (Err f) = inr (f, refl)

none_walks : (o : Option Shape) (f : Shape → Option Shape) (x : Shape) → o ≡ None → option_and_then f o ≡ Some x → ⊥
none_walks o f x e h = let at : option_and_then f o ≡ None = ap (option_and_then f) e in absurd (none-some x (sym at ∙ h))

pub moves_from_walk : (bytes : List ℕ) (s : State) (ts : List Token) (x : Shape) → walk (is_some s.waits) (length s.lists) (map (word bytes) ts) ≡ Some x → (m : State) × Moves bytes s ts m × (shape m ≡ x)
moves_from_walk bytes s [] x h = (s, refl, same_Some _ _ h)
moves_from_walk bytes s (t ∷ ts) x h =
    let behind = λ (y : Shape). walk y.0 y.1 (map (word bytes) ts) in
    elim (step_cases (step bytes s t)) [
      | inl ok ↦
          let one : option_and_then behind (walk_one (is_some s.waits) (length s.lists) (word bytes t)) ≡ behind (shape ok.0) = ap (option_and_then behind) (walk_step bytes s ok.0 t ok.1) in
          let others = moves_from_walk bytes ok.0 ts x (sym one ∙ h) in
          (others.0, (ok.0, ok.1, others.1), others.2)
      | inr bad ↦ absurd (none_walks _ behind x (none_step bytes s t bad.0 bad.1) h)
    ]

none_is : (o : Option ℕ) → is_some o ≡ false → o ≡ None
none_is None e = refl
none_is (Some k) e = absurd cc

pub begin_is : (s : State) → shape s ≡ (false, 0) → s ≡ begin
begin_is s e =
    let waits : s.waits ≡ None = none_is s.waits (ap (λ (x : Shape). x.0) e) in
    let lists : s.lists ≡ [] = nil_from_length s.lists (ap (λ (x : Shape). x.1) e) in
    λ i. record { waits = waits i; lists = lists i }

-- the tokens of a text lead from the beginning to the end
pub text_moves : (bytes : List ℕ) (tree : Entries) (ts : List Token) → IsBounded tree → map (word bytes) ts ≡ spelling tree → Moves bytes begin ts begin
text_moves bytes tree ts bounded spelled =
    let moved = moves_from_walk bytes begin ts (false, 0) (ap (walk false 0) spelled ∙ walk_bounded tree bounded) in
    subst (Moves bytes begin ts) (begin_is moved.0 moved.2) moved.1
