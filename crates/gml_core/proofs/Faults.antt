-- The faults that a token can have by itself.
use Rattle.std.proofs.Common.{◌≡◌, ◌≢◌, ℕ, Bool, true, false, cond, List, [], ◌∷◌, length, drop, take, Option, Some, None, Result, Ok, Err, refl, subst}
use Rattle.std.specs.Prelude.{IfErr, position, nat_lt, ◌==◌}
use Rattle.std.specs.List.{prefix_len}
use Rattle.std.specs.Char.{is_ascii_alphabetic}
use Rattle.gml_core.specs.declared.token.TokenKind.{TokenKind}
use Rattle.gml_core.specs.declared.token.Token.{Token}
use Rattle.gml_core.specs.declared.fault.GmlFault.{GmlFault}
use Rattle.gml_core.specs.declared.fault.GmlFault.TheVariants.{BadByte, OpenString, BadNumber, NoMemory}
use Rattle.gml_core.specs.Bytes.{begins_number, is_numeric, number_kind}
use Rattle.gml_core.specs.Lexing.{string_at, number_token_at, token_at, found, next_place, next_token, IsFaultyToken, IsTokenFault}

record Tells {A : Type 0} (r : Result A GmlFault) : Type 0 where
  fault : (f : GmlFault) → r ≡ Err f → IsTokenFault f

by_cond : {A : Type 0} (b : Bool) (x y : Result A GmlFault) → Tells x → Tells y → Tells (cond b x y)
by_cond true x y h k = h
by_cond false x y h k = k

fine : {A : Type 0} (t : A) → Tells (Ok t)
fine t = record { fault = λ f e. absurd cc }

says : {A : Type 0} (g : GmlFault) → IsTokenFault g → Tells {A = A} (Err g)
says g is = record { fault = λ f e. let same : g ≡ f = cc in subst IsTokenFault same is }

string_tells : (at : ℕ) (o : Option ℕ) → Tells (string_at at o)
string_tells at (Some n) = fine _
string_tells at None = says (OpenString at) tt

number_tells : (at n : ℕ) (o : Option TokenKind) → Tells (number_token_at at n o)
number_tells at n (Some k) = fine _
number_tells at n None = says (BadNumber at) tt

token_tells : (at : ℕ) (bs : List ℕ) → Tells (token_at at bs)
unfolding token_at
token_tells at [] = says (BadByte at) tt
token_tells at (b ∷ bs) =
    by_cond (b == 91) _ _ (fine _) (by_cond (b == 93) _ _ (fine _) (by_cond (b == 34) _ _ (string_tells at (position (λ x. x == 34) bs)) (by_cond (is_ascii_alphabetic b) _ _ (fine _)
    (by_cond (begins_number b) _ _ (number_tells at (prefix_len is_numeric (b ∷ bs)) (number_kind (take (prefix_len is_numeric (b ∷ bs)) (b ∷ bs)))) (says (BadByte at) tt)))))

found_tells : (r : Result Token GmlFault) → Tells r → Tells (found r)
found_tells (Ok t) h = fine _
found_tells (Err f) h = says f (h.fault f refl)

next_tells : (bytes : List ℕ) (at : ℕ) → Tells (next_token bytes at)
unfolding next_token
next_tells bytes at = by_cond (nat_lt (next_place bytes at) (length bytes)) _ _ (found_tells (token_at (next_place bytes at) (drop (next_place bytes at) bytes)) (token_tells (next_place bytes at) (drop (next_place bytes at) bytes))) (fine None)

pub faulty_kind : (b : List ℕ) (f : GmlFault) → IsFaultyToken b f → IsTokenFault f
faulty_kind b f is = (next_tells b is.1).fault f is.3

pub faulty_kinds : {A : Type 0} (b : List ℕ) (r : Result A GmlFault) → IfErr r (λ e. e ≢ NoMemory → IsFaultyToken b e) → IfErr r (λ e. e ≢ NoMemory → IsTokenFault e)
faulty_kinds b (Ok t) h = h
faulty_kinds b (Err e) h = λ other. faulty_kind b e (h other)
