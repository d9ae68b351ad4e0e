-- Two readings of the same bytes are one.
use Rattle.std.proofs.Common.{◌≡◌, ℕ, List, [], ◌∷◌, ◌++◌, map, Option, Some, None, Result, Ok, Err, refl, sym, ap, subst, ◌∙◌, append_assoc}
use Rattle.std.proofs.lemmas.Option.{none-some}
use Rattle.gml_core.specs.declared.token.Token.{Token}
use Rattle.gml_core.specs.declared.fault.GmlFault.{GmlFault}
use Rattle.gml_core.specs.Trees.{Datum, atom, list, entry, Entries, none, more, Word, opens, closes, key, value, spelling, datum_spelling}
use Rattle.gml_core.specs.Lexing.{next_token, first_place, Leads, AreTokens, IsFaultyToken}
use Rattle.gml_core.specs.Reading.{State, begin, step, word, fault_of, err_of, Moves, IsText, IsFirstFault}
use Rattle.gml_core.proofs.Walks.{text_moves}

-- ---- trees with one spelling

-- nothing follows, or the end of a list
abbrev pub IsEnd : List Word → Type 0
IsEnd [] = Unit {0}
IsEnd (closes ∷ ws) = Unit {0}
IsEnd (opens ∷ ws) = ⊥
IsEnd (key k at ∷ ws) = ⊥
IsEnd (value a ∷ ws) = ⊥

mutual
  pub same_datum : (d e : Datum) (x y : List Word) → datum_spelling d ++ x ≡ datum_spelling e ++ y → (d ≡ e) × (x ≡ y)
  same_datum (atom a) (atom b) x y h = (cc, cc)
  same_datum (atom a) (list es) x y h = absurd cc
  same_datum (list es) (atom b) x y h = absurd cc
  same_datum (list es) (list fs) x y h =
      let tails : (spelling es ++ closes ∷ []) ++ x ≡ (spelling fs ++ closes ∷ []) ++ y = cc in
      let inner = same_entries es fs (closes ∷ x) (closes ∷ y) tt tt (sym (append_assoc (spelling es) (closes ∷ []) x) ∙ tails ∙ append_assoc (spelling fs) (closes ∷ []) y) in
      let behind = inner.1 in
      (ap list inner.0, cc)

  pub same_entries : (es fs : Entries) (x y : List Word) → IsEnd x → IsEnd y → spelling es ++ x ≡ spelling fs ++ y → (es ≡ fs) × (x ≡ y)
  same_entries none none x y ex ey h = (refl, h)
  same_entries none (more (entry k at d) fs) x y ex ey h = absurd (subst IsEnd h ex)
  same_entries (more (entry k at d) es) none x y ex ey h = absurd (subst IsEnd (sym h) ey)
  same_entries (more (entry k at d) es) (more (entry l pos e) fs) x y ex ey h =
      let heads : key k at ≡ key l pos = cc in
      let tails : (datum_spelling d ++ spelling es) ++ x ≡ (datum_spelling e ++ spelling fs) ++ y = cc in
      let first = same_datum d e (spelling es ++ x) (spelling fs ++ y) (sym (append_assoc (datum_spelling d) (spelling es) x) ∙ tails ∙ append_assoc (datum_spelling e) (spelling fs) y) in
      let others = same_entries es fs x y ex ey first.1 in
      let ks : k ≡ l = cc in
      let ats : at ≡ pos = cc in
      ((λ i. more (entry (ks i) (ats i) (first.0 i)) (others.0 i)), others.1)

-- ---- tokens

some_is : (t u : Token) (r : Result (Option Token) GmlFault) → r ≡ Ok (Some t) → r ≡ Ok (Some u) → t ≡ u
some_is t u r a b = let both = sym a ∙ b in cc

-- no further token follows
abbrev pub Ends : Result (Option Token) GmlFault → Type 0
Ends (Ok None) = Unit {0}
Ends (Ok (Some t)) = ⊥
Ends (Err f) = Unit {0}

pub same_tokens : (bytes : List ℕ) (at e d : ℕ) (ts us : List Token) → Leads bytes at ts e → Leads bytes at us d → Ends (next_token bytes e) → Ends (next_token bytes d) → (ts ≡ us) × (e ≡ d)
same_tokens bytes at e d [] [] p q x y = (refl, sym p ∙ q)
same_tokens bytes at e d [] (u ∷ us) p q x y = absurd (subst Ends (ap (next_token bytes) (sym p) ∙ q.0) x)
same_tokens bytes at e d (t ∷ ts) [] p q x y = absurd (subst Ends (ap (next_token bytes) (sym q) ∙ p.0) y)
same_tokens bytes at e d (t ∷ ts) (u ∷ us) p q x y =
    let same = some_is t u (next_token bytes at) p.0 q.0 in
    let others = same_tokens bytes t.to e d ts us p.1 (subst (λ (v : Token). Leads bytes v.to us d) (sym same) q.1) x y in
    ((λ i. same i ∷ others.0 i), others.1)

-- ---- states

-- nothing further is taken in this state
abbrev pub Stops : List ℕ → State → Result (Option Token) GmlFault → Type 0
Stops bytes s (Ok None) = Unit {0}
Stops bytes s (Ok (Some t)) = (f : GmlFault) × (step bytes s t ≡ Err f)
Stops bytes s (Err f) = Unit {0}

err_is : (r : Result State GmlFault) (f : GmlFault) → err_of r ≡ Some f → r ≡ Err f
err_is (Ok s) f e = absurd cc
err_is (Err g) f e = let same : g ≡ f = cc in ap Err same

pub stops_from : (bytes : List ℕ) (s : State) (comes : Result (Option Token) GmlFault) (f : GmlFault) → fault_of bytes s comes ≡ Some f → Stops bytes s comes
stops_from bytes s (Ok None) f e = tt
stops_from bytes s (Ok (Some t)) f e = (f, err_is (step bytes s t) f e)
stops_from bytes s (Err g) f e = tt

ok_not_err : (r : Result State GmlFault) (m : State) (f : GmlFault) → r ≡ Ok m → r ≡ Err f → ⊥
ok_not_err r m f a b = let both = sym a ∙ b in absurd cc

state_is : (m n : State) (r : Result State GmlFault) → r ≡ Ok m → r ≡ Ok n → m ≡ n
state_is m n r a b = let both = sym a ∙ b in cc

pub same_stop : (bytes : List ℕ) (at e d : ℕ) (s m n : State) (ts us : List Token) → Leads bytes at ts e → Moves bytes s ts m → Leads bytes at us d → Moves bytes s us n
    → Stops bytes m (next_token bytes e) → Stops bytes n (next_token bytes d) → (e ≡ d) × (m ≡ n)
same_stop bytes at e d s m n [] [] p a q b x y = (sym p ∙ q, sym a ∙ b)
same_stop bytes at e d s m n [] (u ∷ us) p a q b x y =
    let stop = subst (Stops bytes m) (ap (next_token bytes) (sym p) ∙ q.0) x in
    absurd (ok_not_err (step bytes m u) b.0 stop.0 (ap (λ (z : State). step bytes z u) (sym a) ∙ b.1) stop.1)
same_stop bytes at e d s m n (t ∷ ts) [] p a q b x y =
    let stop = subst (Stops bytes n) (ap (next_token bytes) (sym q) ∙ p.0) y in
    absurd (ok_not_err (step bytes n t) a.0 stop.0 (ap (λ (z : State). step bytes z t) (sym b) ∙ a.1) stop.1)
same_stop bytes at e d s m n (t ∷ ts) (u ∷ us) p a q b x y =
    let same = some_is t u (next_token bytes at) p.0 q.0 in
    let to = state_is a.0 b.0 (step bytes s t) a.1 (ap (step bytes s) same ∙ b.1) in
    same_stop bytes t.to e d a.0 m n ts us p.1 a.2 (subst (λ (v : Token). Leads bytes v.to us d) (sym same) q.1) (subst (λ (z : State). Moves bytes z us n) (sym to) b.2) x y

-- ---- the laws

err_same : (r : Result (Option Token) GmlFault) (f g : GmlFault) → r ≡ Err f → r ≡ Err g → f ≡ g
err_same r f g a b = let both = sym a ∙ b in cc

pub one_list : (bytes : List ℕ) (ts us : List Token) → AreTokens bytes ts → AreTokens bytes us → ts ≡ us
one_list bytes ts us a b = (same_tokens bytes (first_place bytes) a.0 b.0 ts us a.1 b.1 (subst Ends (sym a.2) tt) (subst Ends (sym b.2) tt)).0

pub one_faulty : (bytes : List ℕ) (f g : GmlFault) → IsFaultyToken bytes f → IsFaultyToken bytes g → f ≡ g
one_faulty bytes f g a b =
    let same = same_tokens bytes (first_place bytes) a.1 b.1 a.0 b.0 a.2 b.2 (subst Ends (sym a.3) tt) (subst Ends (sym b.3) tt) in
    err_same (next_token bytes a.1) f g a.3 (ap (next_token bytes) same.1 ∙ b.3)

pub not_both_cuts : (bytes : List ℕ) (ts : List Token) (f : GmlFault) → AreTokens bytes ts → IsFaultyToken bytes f → ⊥
not_both_cuts bytes ts f a b =
    let same = same_tokens bytes (first_place bytes) a.0 b.1 ts b.0 a.1 b.2 (subst Ends (sym a.2) tt) (subst Ends (sym b.3) tt) in
    let both = sym a.2 ∙ ap (next_token bytes) same.1 ∙ b.3 in
    absurd cc

pub one_tree : (bytes : List ℕ) (t u : Entries) → IsText bytes t → IsText bytes u → t ≡ u
one_tree bytes t u a b =
    let spelled : spelling t ≡ spelling u = sym a.spelled ∙ ap (map (word bytes)) (one_list bytes a.tokens b.tokens a.cut b.cut) ∙ b.spelled in
    (same_entries t u [] [] tt tt (ap (λ (ws : List Word). ws ++ []) spelled)).0

fault_same : (o : Option GmlFault) (f g : GmlFault) → o ≡ Some f → o ≡ Some g → f ≡ g
fault_same o f g a b = let both = sym a ∙ b in cc

pub one_first : (bytes : List ℕ) (f g : GmlFault) → IsFirstFault bytes f → IsFirstFault bytes g → f ≡ g
one_first bytes f g a b =
    let same = same_stop bytes (first_place bytes) a.at b.at begin a.state b.state a.tokens b.tokens a.leads a.moves b.leads b.moves (stops_from bytes a.state (next_token bytes a.at) f a.fault) (stops_from bytes b.state (next_token bytes b.at) g b.fault) in
    fault_same (fault_of bytes a.state (next_token bytes a.at)) f g a.fault ((λ i. fault_of bytes (same.1 i) (next_token bytes (same.0 i))) ∙ b.fault)

pub not_both : (bytes : List ℕ) (t : Entries) (f : GmlFault) → IsText bytes t → IsFirstFault bytes f → ⊥
not_both bytes t f a b =
    let moves = text_moves bytes t a.tokens a.bounded a.spelled in
    let same = same_stop bytes (first_place bytes) a.cut.0 b.at begin begin b.state a.tokens b.tokens a.cut.1 moves b.leads b.moves (subst (Stops bytes begin) (sym a.cut.2) tt) (stops_from bytes b.state (next_token bytes b.at) f b.fault) in
    let nothing : None ≡ Some f = sym (ap (fault_of bytes begin) a.cut.2) ∙ (λ i. fault_of bytes (same.1 i) (next_token bytes (same.0 i))) ∙ b.fault in
    none-some f nothing
