-- What a reader of a tree keeps.
use Rattle.std.proofs.Common.{◌≡◌, ◌≢◌, ℕ, ◌+◌, ◌-◌, List, [], ◌∷◌, ◌++◌, length, drop, take, Option, Some, None, Result, Ok, Err, refl, sym, ap, subst, ◌∙◌, append_assoc, arith}
use Rattle.std.specs.Prelude.{IfOk, IfErr}
use Rattle.std.proofs.Math.Seq.{drop-length}
use Rattle.std.proofs.lemmas.List.{append-nil, length-append, length-take, take-append-drop}
use Rattle.gml_core.specs.declared.token.TokenKind.{TokenKind}
use Rattle.gml_core.specs.declared.token.TokenKind.TheVariants as kinds
use Rattle.gml_core.specs.declared.token.Token.{Token}
use Rattle.gml_core.specs.declared.fault.GmlFault.{GmlFault}
use Rattle.gml_core.specs.declared.fault.GmlFault.TheVariants.{NoMemory}
use Rattle.gml_core.specs.declared.parsing.Builder.{Builder}
use Rattle.gml_core.specs.declared.pieces.State.{State}
use Rattle.gml_core.specs.declared.pieces.State.TheVariants.{Between}
use Rattle.gml_core.specs.declared.tree.Tree.{Tree}
use Rattle.gml_core.specs.declared.readers.TreeReader.{TreeReader}
use Rattle.gml_core.specs.Reading.{word, word_of, said_by, integer, step_at, end_fault, IsText, IsFirstFault}
use Rattle.gml_core.specs.Trees.{key, value, int, real, str}
use Rattle.gml_core.specs.Views.{view}
use Rattle.gml_core.specs.Building.{state_of, TakesWord, IsFinished}
use Rattle.gml_core.specs.Pieces.{coming, held_of, IsPlaced, before, behind, Closes, EndsToken}
use Rattle.gml_core.specs.Readers.{Resumes, IsRead, BuiltUp, TreeReadsWith}
use Rattle.gml_core.proofs.Again.{part_is}
use Rattle.gml_core.proofs.SoFar.{read_takes, read_refuses, read_fault, read_text}
use Rattle.gml_core.proofs.Resuming.{closes, piece_more, length_is, ending, none_behind}

-- ---- what a token says, from its text

word_by : (bytes front text rest : List ℕ) (kind : TokenKind) (from to : ℕ) → bytes ≡ front ++ (text ++ (behind kind ++ rest)) → from + before kind ≡ length front → to ≡ length front + length text + length (behind kind)
    → word_of bytes kind from to ≡ said_by kind from text
word_by bytes front text rest kinds.OpenList from to e f t = refl
word_by bytes front text rest kinds.CloseList from to e f t = refl
word_by bytes front text rest kinds.Key from to e f t = ap (λ (l : List ℕ). key l from) (part_is bytes front text rest from to e (omega arith) (omega arith))
word_by bytes front text rest kinds.Int from to e f t = ap (λ (l : List ℕ). value (int (integer l))) (part_is bytes front text rest from to e (omega arith) (omega arith))
word_by bytes front text rest kinds.Real from to e f t = ap (λ (l : List ℕ). value (real l)) (part_is bytes front text rest from to e (omega arith) (omega arith))
word_by bytes front text rest kinds.Str from to e f t = ap (λ (l : List ℕ). value (str l)) (part_is bytes front text (34 ∷ rest) (from + 1) (to - 1) e (omega arith) (omega arith))

pub closes_word : (Upto : List ℕ → ℕ → Type 0) (b rest text : List ℕ) (s : State) (at k : ℕ) (t : Token) → Resumes Upto b rest s at → Closes s at rest t text k → (c : List ℕ) → word (b ++ c) t ≡ said_by t.kind t.from text
closes_word Upto b rest text s at k t r sees c =
    let z = drop k rest ++ c in
    let all : b ++ c ≡ r.front ++ (text ++ (behind t.kind ++ z)) =
    ap (λ (l : List ℕ). l ++ c) (r.bytes ∙ ap (λ (l : List ℕ). r.front ++ (held_of s ++ l)) (sym (take-append-drop k rest))) ∙ regroup r.front (held_of s) (take k rest) (drop k rest) c
    ∙ ap (λ (l : List ℕ). r.front ++ (l ++ z)) (sym sees.bytes) ∙ ap (λ (l : List ℕ). r.front ++ l) (append_assoc text (behind t.kind) z) in
    word_by (b ++ c) r.front text z t.kind t.from t.to all (omega (arith, sees.from, r.ends))
    (omega (arith, sees.to, r.ends, sees.within, ap length sees.bytes, length-append text (behind t.kind), length-append (held_of s) (take k rest), length-take k rest))
  where
    regroup : (f h x y z : List ℕ) → (f ++ (h ++ (x ++ y))) ++ z ≡ f ++ ((h ++ x) ++ (y ++ z))
    regroup f h x y z = simp append_assoc

ends_word : (Upto : List ℕ → ℕ → Type 0) (b text : List ℕ) (s : State) (at : ℕ) (t : Token) → Resumes Upto b [] s at → EndsToken s at t text → word b t ≡ said_by t.kind t.from text
ends_word Upto b text s at t r ends =
    let all : b ≡ r.front ++ (text ++ (behind t.kind ++ [])) =
    r.bytes ∙ ap (λ (l : List ℕ). r.front ++ (l ++ [])) (sym ends.bytes) ∙ ap (λ (l : List ℕ). r.front ++ l) (append_assoc text (behind t.kind) []) in
    word_by b r.front text [] t.kind t.from t.to all (omega (arith, ends.from, r.ends)) (omega (arith, ends.to, r.ends, ap length ends.bytes, length-append text (behind t.kind)))

-- ---- one token more

pub tree_more : (old new : Builder) (b rest text : List ℕ) (s : State) (at k : ℕ) (t : Token) → Resumes (BuiltUp old) b rest s at → Closes s at rest t text k → TakesWord t.from (said_by t.kind t.from text) old new → Resumes (BuiltUp new) b (drop k rest) Between (at + k)
tree_more old new b rest text s at k t r sees takes =
    closes (BuiltUp old) (BuiltUp new) b rest text s at k t r sees
    (λ c place read comes. read_takes (b ++ c) old new place t (said_by t.kind t.from text) read comes (closes_word (BuiltUp old) b rest text s at k t r sees c) takes)

pub tree_refuses : (old : Builder) (b rest text : List ℕ) (s : State) (at k : ℕ) (t : Token) (f : GmlFault) → Resumes (BuiltUp old) b rest s at → Closes s at rest t text k → step_at (state_of old) t.from (said_by t.kind t.from text) ≡ Err f
    → (c : List ℕ) → IsFirstFault (b ++ c) f
tree_refuses old b rest text s at k t f r sees fails c =
    let h = r.comes c in
    read_refuses (b ++ c) old h.0 t (said_by t.kind t.from text) f h.1 (h.2 ∙ sees.comes c) (closes_word (BuiltUp old) b rest text s at k t r sees c) fails

pub tree_length : (Upto : List ℕ → ℕ → Type 0) (b rest : List ℕ) (s : State) (at : ℕ) → Resumes Upto b rest s at → at + length rest ≡ length b
tree_length Upto b rest s at r = omega (arith, r.ends, ap length r.bytes, length-append r.front (held_of s ++ rest), length-append (held_of s) rest)

-- ---- the end

pub tree_fails : (old : Builder) (b : List ℕ) (s : State) (at : ℕ) (f : GmlFault) → Resumes (BuiltUp old) b [] s at → coming s at [] ≡ Err f → IsFirstFault b f
tree_fails old b s at f r e = let h = ending (BuiltUp old) b s at r in read_fault b old h.0 (Err f) f h.1 (h.2 ∙ e) refl

pub tree_ends : (old : Builder) (b : List ℕ) (s : State) (at : ℕ) (t : Tree) → Resumes (BuiltUp old) b [] s at → coming s at [] ≡ Ok None → IsFinished old t → IsText b (view t)
tree_ends old b s at t r e finished = let h = ending (BuiltUp old) b s at r in read_text b old h.0 t h.1 (h.2 ∙ e) finished

pub tree_end_fails : (old : Builder) (b : List ℕ) (s : State) (at : ℕ) (f : GmlFault) → Resumes (BuiltUp old) b [] s at → coming s at [] ≡ Ok None → end_fault (state_of old) ≡ Some f → IsFirstFault b f
tree_end_fails old b s at f r e fault = let h = ending (BuiltUp old) b s at r in read_fault b old h.0 (Ok None) f h.1 (h.2 ∙ e) fault

pub last_refused : (old : Builder) (b text : List ℕ) (s : State) (at : ℕ) (t : Token) (f : GmlFault) → Resumes (BuiltUp old) b [] s at → EndsToken s at t text → step_at (state_of old) t.from (said_by t.kind t.from text) ≡ Err f → IsFirstFault b f
last_refused old b text s at t f r ends fails =
    let h = ending (BuiltUp old) b s at r in
    read_refuses b old h.0 t (said_by t.kind t.from text) f h.1 (h.2 ∙ ends.comes) (ends_word (BuiltUp old) b text s at t r ends) fails

-- all is read with the last token
last_read : (old new : Builder) (b text : List ℕ) (s : State) (at : ℕ) (t : Token) → Resumes (BuiltUp old) b [] s at → EndsToken s at t text → TakesWord t.from (said_by t.kind t.from text) old new → IsRead b new (length b)
last_read old new b text s at t r ends takes =
    let h = ending (BuiltUp old) b s at r in
    let to : t.to ≡ length b = ends.to ∙ length_is (BuiltUp old) b s at r in
    subst (IsRead b new) to (read_takes b old new h.0 t (said_by t.kind t.from text) h.1 (h.2 ∙ ends.comes) (ends_word (BuiltUp old) b text s at t r ends) takes)

pub last_ends : (old new : Builder) (b text : List ℕ) (s : State) (at : ℕ) (t : Token) (tree : Tree) → Resumes (BuiltUp old) b [] s at → EndsToken s at t text → TakesWord t.from (said_by t.kind t.from text) old new → IsFinished new tree → IsText b (view tree)
last_ends old new b text s at t tree r ends takes finished = read_text b new (length b) tree (last_read old new b text s at t r ends takes) (none_behind b) finished

pub last_end_fails : (old new : Builder) (b text : List ℕ) (s : State) (at : ℕ) (t : Token) (f : GmlFault) → Resumes (BuiltUp old) b [] s at → EndsToken s at t text → TakesWord t.from (said_by t.kind t.from text) old new → end_fault (state_of new) ≡ Some f → IsFirstFault b f
last_end_fails old new b text s at t f r ends takes fault = read_fault b new (length b) (Ok None) f (last_read old new b text s at t r ends takes) (none_behind b) fault

-- ---- a reader, before a fault or behind one

pub tree_placed : (fault : Option GmlFault) (r : TreeReader) (b rest : List ℕ) → TreeReadsWith fault r b rest → IsPlaced r.state r.fed
tree_placed None r b rest reads = reads.placed
tree_placed (Some f) r b rest reads = reads.1

pub tree_piece : (fault : Option GmlFault) (r : TreeReader) (b p : List ℕ) → TreeReadsWith fault r b [] → TreeReadsWith fault r (b ++ p) p
tree_piece None r b p reads = piece_more (BuiltUp r.builder) b p r.state r.fed reads
tree_piece (Some f) r b p reads = (omega (arith, reads.0, length-append b p), reads.1, λ c. subst (λ (l : List ℕ). IsFirstFault l f) (sym (append_assoc b p c)) (reads.2 (p ++ c)))

pub tree_fed : (fault : Option GmlFault) (r : TreeReader) (b : List ℕ) → TreeReadsWith fault r b [] → r.fed ≡ length b
tree_fed None r b reads = length_is (BuiltUp r.builder) b r.state r.fed reads
tree_fed (Some f) r b reads = omega (arith, reads.0)

pub tree_faulty : (r : TreeReader) (b : List ℕ) (f : GmlFault) → TreeReadsWith (Some f) r b [] → IsFirstFault b f
tree_faulty r b f reads = subst (λ (l : List ℕ). IsFirstFault l f) (append-nil b) (reads.2 [])

-- behind a fault the rest is only counted
pub tree_counts : (b rest : List ℕ) (at : ℕ) (f : GmlFault) → at + length rest ≡ length b → ((c : List ℕ) → IsFirstFault (b ++ c) f) → (at + length rest + length (drop (length rest) rest) ≡ length b) × Unit {0} × ((c : List ℕ) → IsFirstFault (b ++ c) f)
tree_counts b rest at f len first = (omega (arith, ap length (drop-length rest)), tt, first)

-- ---- answers

pub oks : (P Q : Tree → Type 0) (r : Result Tree GmlFault) → ((t : Tree) → P t → Q t) → IfOk r P → IfOk r Q
oks P Q (Ok t) h ok = h t ok
oks P Q (Err e) h ok = ok

pub errs : (P Q : GmlFault → Type 0) (r : Result Tree GmlFault) → ((f : GmlFault) → P f → Q f) → IfErr r P → IfErr r (λ e. e ≢ NoMemory → Q e)
errs P Q (Ok t) h err = err
errs P Q (Err e) h err = λ _. h e err
