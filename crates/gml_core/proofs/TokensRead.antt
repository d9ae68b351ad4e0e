-- What a reader of tokens keeps.
use Rattle.std.proofs.Common.{◌≡◌, ℕ, ◌+◌, List, [], ◌∷◌, ◌++◌, length, drop, None, Ok, Err, sym, ap, subst, ◌∙◌}
use Rattle.gml_core.specs.declared.token.Token.{Token}
use Rattle.gml_core.specs.declared.fault.GmlFault.{GmlFault}
use Rattle.gml_core.specs.declared.pieces.State.{State}
use Rattle.gml_core.specs.declared.pieces.State.TheVariants.{Between}
use Rattle.gml_core.specs.Lexing.{next_token, first_place, AreTokens, IsFaultyToken}
use Rattle.gml_core.specs.Pieces.{coming, Closes, EndsToken}
use Rattle.gml_core.specs.Readers.{Resumes, LeadUp}
use Rattle.gml_core.proofs.Cuts.{Leads-push}
use Rattle.gml_core.proofs.Resuming.{closes, length_is, ending, none_behind}

pub token_more : (ts us : List Token) (b rest text : List ℕ) (s : State) (at k : ℕ) (t : Token) → us ≡ ts ++ t ∷ [] → Resumes (LeadUp ts) b rest s at → Closes s at rest t text k → Resumes (LeadUp us) b (drop k rest) Between (at + k)
token_more ts us b rest text s at k t e r sees =
    subst (λ (vs : List Token). Resumes (LeadUp vs) b (drop k rest) Between (at + k)) (sym e)
    (closes (LeadUp ts) (LeadUp (ts ++ t ∷ [])) b rest text s at k t r sees (λ c place leads comes. Leads-push (b ++ c) (first_place (b ++ c)) place ts t leads comes))

-- the end, with no token cut
pub tokens_end : (ts : List Token) (b : List ℕ) (s : State) (at : ℕ) → Resumes (LeadUp ts) b [] s at → coming s at [] ≡ Ok None → AreTokens b ts
tokens_end ts b s at r e = let h = ending (LeadUp ts) b s at r in (h.0, h.1, h.2 ∙ e)

-- and with one
pub tokens_last : (ts us : List Token) (b text : List ℕ) (s : State) (at : ℕ) (t : Token) → us ≡ ts ++ t ∷ [] → Resumes (LeadUp ts) b [] s at → EndsToken s at t text → AreTokens b us
tokens_last ts us b text s at t e r ends =
    let h = ending (LeadUp ts) b s at r in
    let to : t.to ≡ length b = ends.to ∙ length_is (LeadUp ts) b s at r in
    subst (AreTokens b) (sym e) (t.to, Leads-push b (first_place b) h.0 ts t h.1 (h.2 ∙ ends.comes), ap (next_token b) to ∙ none_behind b)

pub tokens_fail : (ts : List Token) (b : List ℕ) (s : State) (at : ℕ) (f : GmlFault) → Resumes (LeadUp ts) b [] s at → coming s at [] ≡ Err f → IsFaultyToken b f
tokens_fail ts b s at f r e = let h = ending (LeadUp ts) b s at r in (ts, h.0, h.1, h.2 ∙ e)
