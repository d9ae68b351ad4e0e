-- The answer of `parse` is the only one, unless memory runs out.
use Rattle.std.proofs.Common.{◌≡◌, ◌≢◌, ◌<◌, ◌^◌, ℕ, ◌⊎◌, inl, inr, List, length, Result, Ok, Err, refl, sym, ap, subst, ◌∙◌}
use Rattle.std.specs.Prelude.{IfOk, IfErr, MatchResult}
use Rattle.gml_core.specs.declared.fault.GmlFault.{GmlFault}
use Rattle.gml_core.specs.declared.fault.GmlFault.TheVariants.{BadByte, OpenString, BadNumber, BigNumber, NoValue, Unclosed, Stray, TooDeep, NoMemory}
use Rattle.gml_core.specs.declared.token.Token.{Token}
use Rattle.gml_core.specs.declared.tree.Tree.{Tree}
use Rattle.gml_core.specs.Trees.{Entries}
use Rattle.gml_core.specs.Views.{view}
use Rattle.gml_core.specs.Lexing.{AreTokens, IsFaultyToken}
use Rattle.gml_core.specs.Reading.{IsText, IsFirstFault}
use Rattle.gml_core.specs.Printing.{printed, at_zero}
use Rattle.gml_core.specs.Sound.{IsSound}
use Rattle.gml_core.proofs.Unique.{one_list, one_faulty, not_both_cuts, one_tree, one_first, not_both}
use Rattle.gml_core.proofs.RoundTrip.{reads_again}
use Rattle.gml_core.proofs.Sizes.{text_sound}
use Rattle.std.proofs.lemmas.Result.{IfOk-weaker}

memory_or : (e : GmlFault) → (e ≡ NoMemory) ⊎ (e ≢ NoMemory)
memory_or NoMemory = inl refl
memory_or (BadByte at) = inr (λ h. cc)
memory_or (OpenString at) = inr (λ h. cc)
memory_or (BadNumber at) = inr (λ h. cc)
memory_or (BigNumber at) = inr (λ h. cc)
memory_or (NoValue at) = inr (λ h. cc)
memory_or (Unclosed at) = inr (λ h. cc)
memory_or (Stray at) = inr (λ h. cc)
memory_or (TooDeep at) = inr (λ h. cc)

pub only_tokens : (bytes : List ℕ) (r : Result (List Token) GmlFault) → IfOk r (AreTokens bytes) → IfErr r (λ e. e ≢ NoMemory → IsFaultyToken bytes e)
    → (ts : List Token) → AreTokens bytes ts → MatchResult r (λ us. us ≡ ts) (λ e. e ≡ NoMemory)
only_tokens bytes (Ok us) ok err ts is = one_list bytes us ts ok is
only_tokens bytes (Err e) ok err ts is = elim (memory_or e) [ inl h ↦ h | inr h ↦ absurd (not_both_cuts bytes ts e is (err h)) ]

pub only_faulty : (bytes : List ℕ) (r : Result (List Token) GmlFault) → IfOk r (AreTokens bytes) → IfErr r (λ e. e ≢ NoMemory → IsFaultyToken bytes e)
    → (f : GmlFault) → IsFaultyToken bytes f → MatchResult r (λ us. ⊥) (λ e. (e ≡ f) ⊎ (e ≡ NoMemory))
only_faulty bytes (Ok us) ok err f is = not_both_cuts bytes us f ok is
only_faulty bytes (Err e) ok err f is = elim (memory_or e) [ inl h ↦ inr h | inr h ↦ inl (one_faulty bytes e f (err h) is) ]

pub only_text : (bytes : List ℕ) (r : Result Tree GmlFault) → IfOk r (λ t. IsText bytes (view t)) → IfErr r (λ e. e ≢ NoMemory → IsFirstFault bytes e)
    → (t : Entries) → IsText bytes t → MatchResult r (λ u. view u ≡ t) (λ e. e ≡ NoMemory)
only_text bytes (Ok u) ok err t is = one_tree bytes (view u) t ok is
only_text bytes (Err e) ok err t is = elim (memory_or e) [ inl h ↦ h | inr h ↦ absurd (not_both bytes t e is (err h)) ]

pub only_fault : (bytes : List ℕ) (r : Result Tree GmlFault) → IfOk r (λ t. IsText bytes (view t)) → IfErr r (λ e. e ≢ NoMemory → IsFirstFault bytes e)
    → (f : GmlFault) → IsFirstFault bytes f → MatchResult r (λ u. ⊥) (λ e. (e ≡ f) ⊎ (e ≡ NoMemory))
only_fault bytes (Ok u) ok err f is = not_both bytes (view u) f ok is
only_fault bytes (Err e) ok err f is = elim (memory_or e) [ inl h ↦ inr h | inr h ↦ inl (one_first bytes e f (err h) is) ]

placed : (said t : Entries) → at_zero said ≡ at_zero t → (r : Result Tree GmlFault) → MatchResult r (λ u. view u ≡ said) (λ e. e ≡ NoMemory) → MatchResult r (λ u. at_zero (view u) ≡ at_zero t) (λ e. e ≡ NoMemory)
placed said t same (Ok u) h = ap at_zero h ∙ same
placed said t same (Err e) h = h

pub again : (bytes : List ℕ) (r : Result Tree GmlFault) → IfOk r (λ t. IsText bytes (view t)) → IfErr r (λ e. e ≢ NoMemory → IsFirstFault bytes e)
    → (t : Entries) → IsSound t → bytes ≡ printed t → MatchResult r (λ u. at_zero (view u) ≡ at_zero t) (λ e. e ≡ NoMemory)
again bytes r ok err t is e =
    let read = reads_again t (record { nests = is.nests; fit = is.fit }) is.well in
    let text : IsText bytes read.0 = subst (λ (bs : List ℕ). IsText bs read.0) (sym e) read.1 in
    placed read.0 t read.2 r (only_text bytes r ok err read.0 text)

pub sound : (bytes : List ℕ) (r : Result Tree GmlFault) → length bytes < 2 ^ 32 → IfOk r (λ t. IsText bytes (view t)) → IfOk r (λ t. IsSound (view t))
sound bytes r lt ok = IfOk-weaker r (λ t. IsText bytes (view t)) (λ t. IsSound (view t)) (λ t text. text_sound bytes (view t) lt text) ok
