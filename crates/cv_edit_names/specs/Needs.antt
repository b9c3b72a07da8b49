-- For how many nodes a pool is asked, before each definition of a variable gets a name of its own.
use Rattle.std.specs.Prelude.{ℕ, List}
use Rattle.cv_syntax_trees.specs.Tree.{Tree}
use Rattle.cv_syntax.specs.listing.Needs.{need_for}
use Rattle.cv_edit_names.specs.Splitting.{split_game}

abbrev pub need_splitting : (x : ℕ) → (names : List ℕ) → (game : Tree) → ℕ
need_splitting x ys game = need_for (split_game x ys game)
