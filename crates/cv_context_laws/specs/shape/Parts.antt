-- What each tree in a context is in the grammar, and that no constant is bound there. This profile's own.
use Rattle.std.specs.Prelude.{◌≡◌, ℕ, Bool, true}
use Rattle.cv_syntax_trees.specs.Tree.{Tree}
use Rattle.cv_scope_rules.specs.Phrases.{Phrase, binds_none, is_oracle_phrase}

-- the tree is such a phrase of a context and binds none of these names
pub record IsPart (names : ℕ → Bool) (σ : Phrase) (t : Tree) : Type 0 where
  pub phrase : is_oracle_phrase σ t ≡ true
  pub unbound : binds_none names t ≡ true
