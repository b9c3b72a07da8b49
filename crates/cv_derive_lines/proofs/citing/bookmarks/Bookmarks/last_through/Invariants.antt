use Rattle.std.proofs.Common.{◌≤◌, ℕ, IfSome, List}
use Rattle.cv_pool.specs.KindTree.{KindTree}
use Rattle.cv_scene.specs.lines.Lines.{Lines}
use Rattle.cv_derive_lines.specs.citing.Bookmarks.{AreLines, IsKept}
use Rattle.cv_derive_lines.proofs.citing.bookmarks.Bookmarks.last_through.Given as goal

abbrev pub invariant-lines : goal.invariant-lines
invariant-lines l = (trees : List KindTree) (all : Lines) (n : ℕ) → AreLines trees all n l.self → IfSome l.last (λ m. (m.number ≤ l.l) × IsKept trees all n m)
