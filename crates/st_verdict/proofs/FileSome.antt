-- The bytes of a file have a graph within the limits, or a refusal.
use Rattle.std.proofs.Common.{◌≡◌, ℕ, ◌<◌, ◌≤◌, ◌⊎◌, inl, inr, List, length, Option, Some, None, refl, option_map, codes, arith}
use Rattle.std.specs.Prelude.{Result, Ok, Err}
use Rattle.std.proofs.lemmas.Bool.{cases_lt}
use Rattle.st_ids.specs.declared.limits.TheConstants.{MOST_BYTES, MOST_EDGES, MOST_VERTICES}
use Rattle.gml_core.specs.Trees.{Entry, Entries, listed}
use Rattle.gml_core.specs.Reading.{IsText, IsFirstFault}
use Rattle.gml_core.specs.declared.fault.GmlFault.{GmlFault}
use Rattle.st_parts.specs.Used.{first_with}
use Rattle.st_parts.specs.Parts.{parts_in}
use Rattle.st_input.specs.InputGraph.{InputGraph}
use Rattle.st_input.specs.Embedding.{embedded_in, embedded_graph}
use Rattle.st_input.specs.FirstFault.{graph_fault, shape_fault}
use Rattle.st_input.specs.declared.fault.ShapeFault.{ShapeFault}
use Rattle.st_report.specs.declared.stop.Refusal.{Refusal}
use Rattle.st_report.specs.declared.stop.Refusal.TheVariants.{TooManyBytes, Gml, Shape}
use Rattle.st_verdict.specs.Stages.{Then, refuses, goes_on}
use Rattle.st_verdict.specs.File.{IsFew, IsTree, IsGraph, IsGraphIn, IsGraphWithin}
use Rattle.st_verdict.specs.Every.{HasSome}

-- the next stage has an answer for each value that the first may find
pub some_then : {A B : Type 0} (first : Result A Refusal → Type 0) (next : A → Result B Refusal → Type 0) → HasSome first → ((a : A) → first (Ok a) → HasSome (next a)) → HasSome (Then first next)
some_then first next (Ok a, h) some = let r = some a h in (r.0, goes_on a h r.1)
some_then first next (Err r, h) some = (Err r, refuses r h refl)

few_some : (bytes : List ℕ) → HasSome (IsFew bytes)
few_some bytes = elim (cases_lt MOST_BYTES (length bytes)) [
  | inl many ↦ (Err TooManyBytes, (refl, many))
  | inr few ↦ (Ok tt, few)
]

-- a tree without a fault has the pair `graph`, which has a graph
graph_of : (text : List Entry) (found : Option Entry) (n m : ℕ) → graph_fault text found n m ≡ None
    → (g : InputGraph) × (option_map (λ (e : Entry). embedded_in (parts_in e)) found ≡ Some g)
graph_of text None n m clear = absurd (cc)
graph_of text (Some e) n m clear = (embedded_in (parts_in e), refl)

has_graph : (tree : Entries) (n m : ℕ) → shape_fault tree n m ≡ None → (g : InputGraph) × (embedded_graph tree ≡ Some g)
unfolding shape_fault embedded_graph
has_graph tree n m clear = graph_of (listed tree) (first_with (codes "graph") (listed tree)) n m clear

graph_some : (tree : Entries) → HasSome (IsGraph tree)
graph_some tree = by (shape_fault tree MOST_VERTICES MOST_EDGES) refl
  where
    by : (fault : Option ShapeFault) → shape_fault tree MOST_VERTICES MOST_EDGES ≡ fault → HasSome (IsGraph tree)
    by None clear = let r = has_graph tree MOST_VERTICES MOST_EDGES clear in (Ok r.0, (clear, r.1))
    by (Some f) is = (Err (Shape f), record { fault = f; is = refl; holds = is })

-- where bytes have a tree or a first fault, as a law of gml_core says
module _ (tree_or_fault : (bytes : List ℕ) → ((tree : Entries) × IsText bytes tree) ⊎ ((f : GmlFault) × IsFirstFault bytes f)) where
  tree_some : (bytes : List ℕ) → HasSome (IsTree bytes)
  tree_some bytes = elim (tree_or_fault bytes) [
    | inl t ↦ (Ok t.0, t.1)
    | inr f ↦ (Err (Gml f.0), record { fault = f.0; is = refl; holds = f.1 })
  ]

  pub graph_within_some : (bytes : List ℕ) → HasSome (IsGraphWithin bytes)
  graph_within_some bytes =
      some_then (IsFew bytes) (λ _. IsGraphIn bytes) (few_some bytes) (λ _ _. some_then (IsTree bytes) IsGraph (tree_some bytes) (λ tree _. graph_some tree))
