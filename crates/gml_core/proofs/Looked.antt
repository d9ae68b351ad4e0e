-- What a reader keeps when it takes some bytes of the rest.
use Rattle.std.proofs.Common.{◌≡◌, ℕ, ◌+◌, ◌*◌, ◌<◌, ◌≤◌, false, List, [], ◌∷◌, ◌++◌, length, drop, Option, Some, None, Err, refl, sym, subst, arith}
use Rattle.gml_core.specs.declared.token.Token.{Token}
use Rattle.gml_core.specs.declared.fault.GmlFault.{GmlFault}
use Rattle.gml_core.specs.declared.pieces.State.{State}
use Rattle.gml_core.specs.declared.pieces.State.TheVariants.{Between}
use Rattle.gml_core.specs.declared.readers.TokenReader.{TokenReader}
use Rattle.gml_core.specs.declared.readers.TreeReader.{TreeReader}
use Rattle.gml_core.specs.Reading.{said_by, step_at}
use Rattle.gml_core.specs.Building.{state_of, TakesWord}
use Rattle.gml_core.specs.Pieces.{after_gap, coming, IsPlaced, rank, Goes, Closes}
use Rattle.gml_core.specs.Readers.{LeadUp, TokensRead, BuiltUp, TreeReadsWith}
use Rattle.gml_core.proofs.Begins.{gap_goes_on}
use Rattle.gml_core.proofs.Resuming.{goes_on}
use Rattle.gml_core.proofs.TokensRead.{token_more}
use Rattle.gml_core.proofs.TreeRead.{tree_more, tree_refuses, tree_length, tree_counts}

-- ---- between tokens

pub space_goes : (s : State) (at n : ℕ) (rest : List ℕ) → s ≡ Between → ((at : ℕ) (c : List ℕ) → after_gap false at (rest ++ c) ≡ after_gap false (at + n) (drop n rest ++ c)) → 0 < n → n ≤ length rest → Goes s at rest s n
unfolding coming
space_goes s at n rest between goes some within = subst (λ (t : State). Goes t at rest t n) (sym between) (gap_goes_on Between false false at n rest Between refl refl (λ c. refl) goes some within)

pub closes_between : (s : State) (at k : ℕ) (rest text : List ℕ) (t : Token) → s ≡ Between → Closes Between at rest t text k → Closes s at rest t text k
closes_between s at k rest text t between closes = subst (λ (z : State). Closes z at rest t text k) (sym between) closes

pub placed_between : (s : State) (at : ℕ) → s ≡ Between → IsPlaced s at
placed_between s at between = subst (λ (z : State). IsPlaced z at) (sym between) tt

pub rank_between : (s : State) (n m : ℕ) → s ≡ Between → 0 < n → rank s < 2 * n + m
rank_between s n m between some = subst (λ (z : State). rank z < 2 * n + m) (sym between) (omega arith)

-- ---- tokens

pub token_goes : (old new : TokenReader) (b rest : List ℕ) (k : ℕ) → Goes old.state old.fed rest new.state k → new.tokens ≡ old.tokens → new.fed ≡ old.fed + k → TokensRead old b rest → TokensRead new b (drop k rest)
token_goes old new b rest k goes tokens fed r = rw (tokens, fed) (goes_on (LeadUp old.tokens.items) b rest old.state new.state old.fed k r goes)

pub token_closes : (old new : TokenReader) (b rest text : List ℕ) (k : ℕ) (t : Token) → Closes old.state old.fed rest t text k → new.tokens.items ≡ old.tokens.items ++ t ∷ [] → new.state ≡ Between → new.fed ≡ old.fed + k → TokensRead old b rest → TokensRead new b (drop k rest)
token_closes old new b rest text k t closes tokens state fed r = rw (state, fed) (token_more old.tokens.items new.tokens.items b rest text old.state old.fed k t tokens r closes)

-- ---- trees

pub tree_goes : (fault : Option GmlFault) (old new : TreeReader) (b rest : List ℕ) (k : ℕ) → fault ≡ None → Goes old.state old.fed rest new.state k → new.builder ≡ old.builder → new.fed ≡ old.fed + k → TreeReadsWith fault old b rest → TreeReadsWith fault new b (drop k rest)
tree_goes (Some f) old new b rest k none goes builder fed r = absurd cc
tree_goes None old new b rest k none goes builder fed r = rw (builder, fed) (goes_on (BuiltUp old.builder) b rest old.state new.state old.fed k r goes)

pub tree_closes : (fault : Option GmlFault) (old new : TreeReader) (b rest text : List ℕ) (k : ℕ) (t : Token) → fault ≡ None → Closes old.state old.fed rest t text k → TakesWord t.from (said_by t.kind t.from text) old.builder new.builder
    → new.state ≡ Between → new.fed ≡ old.fed + k → TreeReadsWith fault old b rest → TreeReadsWith fault new b (drop k rest)
tree_closes (Some f) old new b rest text k t none closes takes state fed r = absurd cc
tree_closes None old new b rest text k t none closes takes state fed r = rw (state, fed) (tree_more old.builder new.builder b rest text old.state old.fed k t r closes takes)

pub tree_refused : (fault : Option GmlFault) (old new : TreeReader) (b rest text : List ℕ) (k : ℕ) (t : Token) (f : GmlFault) → fault ≡ None → Closes old.state old.fed rest t text k → step_at (state_of old.builder) t.from (said_by t.kind t.from text) ≡ Err f
    → new.state ≡ Between → new.fed ≡ old.fed + length rest → TreeReadsWith fault old b rest → TreeReadsWith (Some f) new b (drop (length rest) rest)
tree_refused (Some g) old new b rest text k t f none closes fails state fed r = absurd cc
tree_refused None old new b rest text k t f none closes fails state fed r =
    let h = tree_counts b rest old.fed f (tree_length (BuiltUp old.builder) b rest old.state old.fed r) (tree_refuses old.builder b rest text old.state old.fed k t f r closes fails) in
    (omega (arith, h.0, fed), placed_between new.state new.fed state, h.2)
