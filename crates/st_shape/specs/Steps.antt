-- What the single steps of the code ask and answer. Of the public clauses only two conditions cite this, IsItemOnGrid of
-- `is_faulty_alone` and IsOrdinary of `is_faulty_pair`: the definitions of `turn`, `meet` and `clean` stand in Meeting,
-- Clean, Boxes and Verdict.
--   IsOverlap, IsParted, IsOnRay, MeetBeyond   the parts of the test of two segments
--   place p, Climbs s                          the number of a point, row after row; that a segment leads to a greater one
--   IsClimbingLine, IsOrdinary                 what is known of the items where none is faulty by itself
--   HitsBeside, MeetApart, CrossBeside         the rules on vertices and lines, with what counts as facts in place of names
--   IsBox, NoBox, IsBoxOnGrid, ShareCells      boxes by their corners
use Rattle.std.specs.Prelude.{◌≡◌, ℕ, ◌+◌, ◌-◌, ◌*◌, ◌<◌, ◌≤◌, ◌⊎◌, List, length, slice_get, Some, All, ℤ, pos, nat_abs, ◌+ℤ◌, ◌-ℤ◌, ◌*ℤ◌, ◌<ℤ◌, ◌≤ℤ◌}
use Rattle.std.specs.Int.{int_min, int_max}
use Rattle.st_ids.specs.declared.limits.TheConstants.{MOST_COORDINATE}
use Rattle.st_shape.specs.declared.point.Point.{Point}
use Rattle.st_shape.specs.declared.point.Segment.{Segment}
use Rattle.st_shape.specs.declared.item.Item.{Item}
use Rattle.st_shape.specs.declared.item.Item.TheVariants.{Dot, Bar, Line, Rect, Face, Label}
use Rattle.st_shape.specs.Boxes.{IsCellOf}
use Rattle.st_shape.specs.Clean.{IsSegmentOf}
use Rattle.st_shape.specs.Meeting.{cross, Ratio, Share, IsAt, IsOnGrid}

-- the stretches of one axis from a to b and from c to d have a place in common
pub record IsOverlap (a b c d : ℤ) : Type 0 where
  pub low : int_min a b ≤ℤ int_max c d
  pub high : int_min c d ≤ℤ int_max a b

-- the numbers are neither both above 0 nor both below it
pub record IsParted (a b : ℤ) : Type 0 where
  pub low : int_min a b ≤ℤ pos 0
  pub high : pos 0 ≤ℤ int_max a b

-- the scalar product of q - p and r - p
abbrev pub scalar : Point → Point → Point → ℤ
scalar p q r = (q.x -ℤ p.x) *ℤ (r.x -ℤ p.x) +ℤ (q.y -ℤ p.y) *ℤ (r.y -ℤ p.y)

-- r lies on the ray from the first point of s through the second, and is not the first
pub record IsOnRay (s : Segment) (r : Point) : Type 0 where
  pub line : cross s.a s.b r ≡ pos 0
  pub way : pos 0 <ℤ scalar s.a s.b r

-- some point but the first of s is one of both segments
abbrev pub MeetBeyond : Segment → Segment → Type 0
MeetBeyond s t = (p : Ratio) × Share s t p × ¬ IsAt p s.a

-- both ends are points of the grid
pub record AreOnGrid (s : Segment) : Type 0 where
  pub a : IsOnGrid s.a
  pub b : IsOnGrid s.b

-- the place of a point of the grid, row after row from below, in each row from the left
abbrev pub place : Point → ℕ
place p = (MOST_COORDINATE + 1) * nat_abs p.y + nat_abs p.x

-- a later point has a later place: so it is in each form where the segment rises
pub record Climbs (s : Segment) : Type 0 where
  pub later : place s.a < place s.b

-- the line lies on the grid, and each segment of it climbs
pub record IsClimbingLine (points : List Point) : Type 0 where
  pub least : 2 ≤ length points
  pub grid : All (λ p. IsOnGrid p) points
  pub climbs : (s : Segment) → IsSegmentOf points s → Climbs s

-- the item lies on the grid
abbrev pub IsItemOnGrid : Item → Type 0
IsItemOnGrid (Dot name p) = IsOnGrid p
IsItemOnGrid (Bar name y from to) = IsOnGrid (record { x = from; y = y }) × IsOnGrid (record { x = to; y = y })
IsItemOnGrid (Line name tail head points) = (2 ≤ length points) × All (λ p. IsOnGrid p) points
IsItemOnGrid (Rect name tail head low high) = Unit {0}
IsItemOnGrid (Face number x from to) = Unit {0}
IsItemOnGrid (Label name p text) = Unit {0}

-- the item lies on the grid; a line also climbs
abbrev pub IsOrdinary : Item → Type 0
IsOrdinary (Dot name p) = IsOnGrid p
IsOrdinary (Bar name y from to) = IsOnGrid (record { x = from; y = y }) × IsOnGrid (record { x = to; y = y })
IsOrdinary (Line name tail head points) = IsClimbingLine points
IsOrdinary (Rect name tail head low high) = Unit {0}
IsOrdinary (Face number x from to) = Unit {0}
IsOrdinary (Label name p text) = Unit {0}

-- the segment and the figure share a point that is not one of the ends that count
pub record HitsBeside (figure : Segment) (from to : Point) (SkipFrom SkipTo : Type 0) : Type 0 where
  pub p : Ratio
  pub shared : Share (record { a = from; b = to }) figure p
  pub not_from : SkipFrom → ¬ IsAt p from
  pub not_to : SkipTo → ¬ IsAt p to

-- the point is an end of both segments
abbrev pub AtBoth : Ratio → Point → Point → Type 0
AtBoth p v w = IsAt p v × IsAt p w

-- the segments share a point that is no common end that counts
pub record MeetApart (s t : Segment) (AA AB BA BB : Type 0) : Type 0 where
  pub p : Ratio
  pub shared : Share s t p
  pub not_aa : AA → ¬ AtBoth p s.a t.a
  pub not_ab : AB → ¬ AtBoth p s.a t.b
  pub not_ba : BA → ¬ AtBoth p s.b t.a
  pub not_bb : BB → ¬ AtBoth p s.b t.b

-- v is an end of both lines, and that counts, as TT, TH, HT and HH say of the first point of both, the first and the last, and so on
abbrev pub IsEndOfBoth : (points points' : List Point) (TT TH HT HH : Type 0) → Point → Type 0
IsEndOfBoth points points' TT TH HT HH v =
    (((slice_get points 0 ≡ Some v) × (slice_get points' 0 ≡ Some v) × TT)
    ⊎ ((slice_get points 0 ≡ Some v) × (slice_get points' (length points' - 1) ≡ Some v) × TH))
    ⊎ (((slice_get points (length points - 1) ≡ Some v) × (slice_get points' 0 ≡ Some v) × HT)
    ⊎ ((slice_get points (length points - 1) ≡ Some v) × (slice_get points' (length points' - 1) ≡ Some v) × HH))

-- two lines share a point that is no end of both that counts
pub record CrossBeside (points points' : List Point) (TT TH HT HH : Type 0) : Type 0 where
  pub p : Ratio
  pub s : Segment
  pub t : Segment
  pub first : IsSegmentOf points s
  pub second : IsSegmentOf points' t
  pub shared : Share s t p
  pub away : (v : Point) → IsEndOfBoth points points' TT TH HT HH v → ¬ IsAt p v

-- the item is a box with these corners
abbrev pub IsBox : Item → Point → Point → Type 0
IsBox (Dot name p) low high = ⊥
IsBox (Bar name y from to) low high = ⊥
IsBox (Line name tail head points) low high = ⊥
IsBox (Rect name tail head own_low own_high) low high = (own_low ≡ low) × (own_high ≡ high)
IsBox (Face number x from to) low high = ⊥
IsBox (Label name p text) low high = ⊥

-- the item is no box
abbrev pub NoBox : Item → Type 0
NoBox (Dot name p) = Unit {0}
NoBox (Bar name y from to) = Unit {0}
NoBox (Line name tail head points) = Unit {0}
NoBox (Rect name tail head low high) = ⊥
NoBox (Face number x from to) = Unit {0}
NoBox (Label name p text) = Unit {0}

-- the corners of a box lie on the grid
abbrev pub IsBoxOnGrid : Item → Type 0
IsBoxOnGrid (Dot name p) = Unit {0}
IsBoxOnGrid (Bar name y from to) = Unit {0}
IsBoxOnGrid (Line name tail head points) = Unit {0}
IsBoxOnGrid (Rect name tail head low high) = IsOnGrid low × IsOnGrid high
IsBoxOnGrid (Face number x from to) = Unit {0}
IsBoxOnGrid (Label name p text) = Unit {0}

-- the boxes with these corners have a cell in common
pub record ShareCells (low high low' high' : Point) : Type 0 where
  pub i : ℕ
  pub j : ℕ
  pub first : IsCellOf low high i j
  pub second : IsCellOf low' high' i j
