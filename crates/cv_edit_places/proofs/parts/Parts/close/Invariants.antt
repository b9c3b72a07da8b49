use Rattle.std.proofs.Common.{◌≡◌, ℕ, ◌+◌, List, length}
use Rattle.cv_pool.specs.KindTree.{KindTree}
use Rattle.cv_edit_places.specs.Parts.{AreLive, closed, made_by, stack_of}
use Rattle.cv_edit_places.proofs.parts.Parts.close.Given as goal

abbrev pub invariant-up : goal.invariant-up
invariant-up l = record {
  stack : (trees : List KindTree) → closed l.left.items (stack_of trees l.self) ≡ closed l.fn.heads.items (stack_of trees l.fn.self);
  made : made_by l.self + length l.left.items ≡ made_by l.fn.self + length l.fn.heads.items;
  live : (n : ℕ) → AreLive n l.fn.self → AreLive n l.self;
}

abbrev pub decreases-up : goal.decreases-up
decreases-up l = length l.left.items
