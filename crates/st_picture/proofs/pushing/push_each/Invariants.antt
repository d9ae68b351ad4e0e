use Rattle.std.proofs.Common.{◌≡◌, ℕ, ◌+◌, ◌<◌, ◌++◌, ◌≤◌, length}
use Rattle.st_picture.specs.Items.{items_by}
use Rattle.st_shape.specs.declared.item.Item.{Item}
use Rattle.st_picture.proofs.pushing.push_each.Given as goal

abbrev pub invariant-loop-k : goal.invariant-loop-k
invariant-loop-k g l = record {
  in_range : l.k ≤ l.n;
  frame : l.picture.frame ≡ l.fn.picture.frame;
  count : length l.picture.items ≡ length l.fn.picture.items + l.k;
  same : (f : ℕ → Item) → ((k : ℕ) (x : Item) → k < l.fn.n → goal.F-post g l.fn.item k x → x ≡ f k) → l.picture ≡ record l.fn.picture { items = l.fn.picture.items ++ items_by f l.k };
}
