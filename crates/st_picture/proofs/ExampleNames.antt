-- The names of a test: three vertices with different names, of which two have a label.
use Rattle.std.proofs.Common.{ℕ, zero, suc, [], ◌∷◌, ◌≡◌, ◌<◌, List, Some, None, ℤ, refl, sym, subst, arith}
use Rattle.st_ids.specs.declared.names.Names.{Names}
use Rattle.st_sides.specs.Sides.{SidesValue, edge_count}
use Rattle.st_picture.specs.Naming.{AreNames, IsLabelText, label_text, vertex_name}

module _ (a b c d e f : ℤ) (apart : (a ≡ b → ⊥) × (a ≡ c → ⊥) × (b ≡ c → ⊥)) where
  abbrev names : Names
  names = record { vertex = a ∷ b ∷ c ∷ []; edge = d ∷ e ∷ f ∷ []; label = Some (65 ∷ []) ∷ None ∷ Some (126 ∷ 32 ∷ []) ∷ [] }

  differ : (u v : ℕ) → u < 3 → v < 3 → vertex_name names u ≡ vertex_name names v → u ≡ v
  unfolding vertex_name
  differ zero zero i j q = refl
  differ zero (suc zero) i j q = absurd (apart.0 q)
  differ zero (suc (suc zero)) i j q = absurd (apart.1 q)
  differ (suc zero) zero i j q = absurd (apart.0 (sym q))
  differ (suc zero) (suc zero) i j q = refl
  differ (suc zero) (suc (suc zero)) i j q = absurd (apart.2 q)
  differ (suc (suc zero)) zero i j q = absurd (apart.1 (sym q))
  differ (suc (suc zero)) (suc zero) i j q = absurd (apart.2 (sym q))
  differ (suc (suc zero)) (suc (suc zero)) i j q = refl
  differ (suc (suc (suc u))) v i j q = absurd (omega arith)
  differ u (suc (suc (suc v))) i j q = absurd (omega arith)

  short : IsLabelText (65 ∷ [])
  short = (omega arith, omega arith, ((omega arith, omega arith), tt))

  long : IsLabelText (126 ∷ 32 ∷ [])
  long = (omega arith, omega arith, ((omega arith, omega arith), ((omega arith, omega arith), tt)))

  some_text : (x y : List ℕ) → Some x ≡ Some y → x ≡ y
  some_text x y q = cc q

  texts : (v : ℕ) (text : List ℕ) → v < 3 → label_text names v ≡ Some text → IsLabelText text
  unfolding label_text
  texts zero text i q = subst IsLabelText (some_text (65 ∷ []) text q) short
  texts (suc zero) text i q = absurd (cc q)
  texts (suc (suc zero)) text i q = subst IsLabelText (some_text (126 ∷ 32 ∷ []) text q) long
  texts (suc (suc (suc v))) text i q = absurd (omega arith)

  pub are_names : (g : SidesValue) → g.vertices ≡ 3 → edge_count g ≡ 3 → AreNames g names
  are_names g p q = record {
    vertices = sym p;
    edges = sym q;
    labels = sym p;
    differ = λ u v i j h. differ u v (omega arith) (omega arith) h;
    texts = λ v text i h. texts v text (omega arith) h;
  }
