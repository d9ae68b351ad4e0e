-- Tokens one after the other.
use Rattle.std.proofs.Common.{◌≡◌, ℕ, List, [], ◌∷◌, ◌++◌, Some, Ok, refl, ap, ◌∙◌}
use Rattle.gml_core.specs.declared.token.Token.{Token}
use Rattle.gml_core.specs.Lexing.{next_token, Leads}

-- one token more
pub Leads-push : (bytes : List ℕ) (from at : ℕ) (ts : List Token) (t : Token) → Leads bytes from ts at → next_token bytes at ≡ Ok (Some t) → Leads bytes from (ts ++ t ∷ []) t.to
Leads-push bytes from at [] t leads e = (ap (next_token bytes) leads ∙ e, refl)
Leads-push bytes from at (u ∷ ts) t leads e = (leads.0, Leads-push bytes u.to at ts t leads.1 e)
