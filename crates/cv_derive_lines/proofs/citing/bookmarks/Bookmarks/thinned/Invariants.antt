use Rattle.std.proofs.Common.{ℕ, List}
use Rattle.cv_pool.specs.KindTree.{KindTree}
use Rattle.cv_scene.specs.lines.Lines.{Lines}
use Rattle.cv_derive_lines.specs.citing.Bookmarks.{AreLines}
use Rattle.cv_derive_lines.proofs.citing.bookmarks.Bookmarks.thinned.Given as goal

abbrev pub invariant-lines : goal.invariant-lines
invariant-lines l = (trees : List KindTree) (all : Lines) (n : ℕ) → AreLines trees all n l.self → AreLines trees all n l.thinned
