-- What the grammar of files and its rules of names give of each name that a right side binds. This profile's own.
use Rattle.std.specs.Prelude.{◌≡◌, ℕ, Bool, true}
use Rattle.cv_syntax_trees.specs.Tree.{Tree}
use Rattle.cv_scope_rules.specs.Phrases.{binds_none}
use Rattle.cv_inline_names_laws.specs.covered.Covered.{names_stand_bare}

-- nothing stands at a name that the tree binds, and none of these names is bound there
pub record HasFreeNames (barred : ℕ → Bool) (t : Tree) : Type 0 where
  pub bare : names_stand_bare t ≡ true
  pub free : binds_none barred t ≡ true
