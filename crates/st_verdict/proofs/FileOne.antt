-- The bytes of a file have at most one graph, or are refused for at most one reason.
use Rattle.std.proofs.Common.{◌≡◌, ℕ, ◌≤◌, List, length, Some, None, refl, sym, ◌∙◌, arith}
use Rattle.std.specs.Prelude.{Ok, Err}
use Rattle.st_ids.specs.declared.limits.TheConstants.{MOST_BYTES, MOST_EDGES, MOST_VERTICES}
use Rattle.gml_core.specs.Trees.{Entries}
use Rattle.gml_core.specs.Reading.{IsFirstFault}
use Rattle.gml_core.proofs.Public.{one_tree, one_first, not_both}
use Rattle.st_input.specs.InputGraph.{InputGraph, IsConsistent}
use Rattle.st_input.specs.FirstFault.{shape_fault}
use Rattle.st_input.specs.declared.fault.ShapeFault.{ShapeFault}
use Rattle.st_input.proofs.Public.{fits_together}
use Rattle.st_report.specs.declared.stop.Refusal.TheVariants.{Gml, Shape}
use Rattle.st_verdict.specs.File.{IsFew, IsTree, IsGraph, IsGraphIn, IsGraphWithin}
use Rattle.st_verdict.specs.Stages.{IsOne}
use Rattle.st_verdict.proofs.StageLemmas.{ok, err, one_then, told_one, value_found}

pub few_one : (bytes : List ℕ) → IsOne (IsFew bytes)
few_one bytes (Ok u) (Ok v) h k = refl
few_one bytes (Ok u) (Err s) h k = let few : length bytes ≤ MOST_BYTES = h in absurd (omega (arith, k.1))
few_one bytes (Err r) (Ok v) h k = let few : length bytes ≤ MOST_BYTES = k in absurd (omega (arith, h.1))
few_one bytes (Err r) (Err s) h k = err r s (h.0 ∙ sym k.0)

pub tree_one : (bytes : List ℕ) → IsOne (IsTree bytes)
tree_one bytes (Ok t) (Ok u) h k = ok t u (one_tree bytes t u h k)
tree_one bytes (Ok t) (Err s) h k = absurd (not_both bytes t k.fault h k.holds)
tree_one bytes (Err r) (Ok u) h k = absurd (not_both bytes u h.fault k h.holds)
tree_one bytes (Err r) (Err s) h k = err r s (told_one (λ f. Gml f) (IsFirstFault bytes) (one_first bytes) r s h k)

none_some : (f : ShapeFault) → None ≡ Some f → ⊥
none_some f e = cc

same_fault : (f g : ShapeFault) → Some f ≡ Some g → f ≡ g
same_fault f g e = cc

same_graph : (g h : InputGraph) → Some g ≡ Some h → g ≡ h
same_graph g h e = cc

pub graph_one : (tree : Entries) → IsOne (IsGraph tree)
graph_one tree (Ok g) (Ok h) a b = ok g h (same_graph g h (sym a.1 ∙ b.1))
graph_one tree (Ok g) (Err s) a b = absurd (none_some b.fault (sym a.0 ∙ b.holds))
graph_one tree (Err r) (Ok h) a b = absurd (none_some a.fault (sym b.0 ∙ a.holds))
graph_one tree (Err r) (Err s) a b =
    err r s (told_one (λ f. Shape f) (λ f. shape_fault tree MOST_VERTICES MOST_EDGES ≡ Some f) (λ f g h k. same_fault f g (sym h ∙ k)) r s a b)

pub graph_in_one : (bytes : List ℕ) → IsOne (IsGraphIn bytes)
graph_in_one bytes = one_then (IsTree bytes) IsGraph (tree_one bytes) (λ tree _. graph_one tree)

pub graph_within_one : (bytes : List ℕ) → IsOne (IsGraphWithin bytes)
graph_within_one bytes = one_then (IsFew bytes) (λ _. IsGraphIn bytes) (few_one bytes) (λ _ _. graph_in_one bytes)

-- the tables of a file's graph fit together
pub consistent : (tree : Entries) (g : InputGraph) → IsGraph tree (Ok g) → IsConsistent g
consistent tree g is = fits_together tree MOST_VERTICES MOST_EDGES g (omega arith) (omega arith) is.0 is.1

pub consistent_in : (bytes : List ℕ) (g : InputGraph) → IsGraphIn bytes (Ok g) → IsConsistent g
consistent_in bytes g h = let found = value_found (IsTree bytes) IsGraph g h in consistent found.value g found.goes

pub consistent_within : (bytes : List ℕ) (g : InputGraph) → IsGraphWithin bytes (Ok g) → IsConsistent g
consistent_within bytes g h = consistent_in bytes g (value_found (IsFew bytes) (λ _. IsGraphIn bytes) g h).goes
