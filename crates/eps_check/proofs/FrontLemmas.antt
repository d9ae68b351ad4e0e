-- What placing a strip does to a front.
use Rattle.std.proofs.Common.{ℕ, Result, Ok, Err, IfOk}
use Rattle.eps_check.specs.declared.front.Front.{Front, Last}
use Rattle.eps_check.specs.declared.strip.Strip.{Strip}
use Rattle.eps_check.specs.Fronts.{IsAllLeft, PlacesStrip}
use Rattle.eps_check.specs.Strips.{IsStrip, PassesTest}
use Rattle.eps_check.proofs.StripLemmas.{behind_left, behind_self, left_behind, passes_left}

pub last_left : (s p : Strip) (lo hi : ℕ) → PassesTest s p lo hi → IsAllLeft (Last s) lo hi p
last_left s p lo hi passes =
    record { at = λ c e l h d b. left_behind e s p c d b (passes_left s p lo hi passes c l h) }

pub placed_whole : (front : Front) (lo hi : ℕ) (p : Strip) → IsStrip p → IsAllLeft front lo hi p → PlacesStrip front (Last p) lo hi p
placed_whole front lo hi p s all =
    record {
      keeps = λ c e l h d b. behind_left e p c s (all.at c e l h d b);
      left = λ c e l h d own b. all.at c e l h d b;
      own = λ c l h own. behind_self p c;
    }

-- what follows of the value in an `Ok`
pub IfOk_then : {T E : Type 0} (r : Result T E) (P Q : T → Type 0) → IfOk r P → ((x : T) → P x → Q x) → IfOk r Q
IfOk_then (Ok x) P Q p f = f x p
IfOk_then (Err e) P Q p f = tt
