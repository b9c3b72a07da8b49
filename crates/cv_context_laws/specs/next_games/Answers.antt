-- Names for the answers of a context's calls, as many as there may be. This profile's own.
use Rattle.std.specs.Prelude.{◌≡◌, ℕ, false}
use Rattle.cv_syntax_trees.specs.Tree.{Tree}
use Rattle.cv_scene.specs.Scenes.{names}
use Rattle.cv_scene.specs.Reductions.{Reduction}

-- names apart, of which the tree has none
pub record AreEndless (t : Tree) (answer : ℕ → ℕ) : Type 0 where
  pub apart : (j k : ℕ) → answer j ≡ answer k → j ≡ k
  pub unnamed : (k : ℕ) → names (answer k) t ≡ false

-- the reduction with other names for its answers
abbrev pub with_answers : Reduction → (ℕ → ℕ) → Reduction
with_answers r answer = record { scene = r.scene; equivalence = r.equivalence; key = r.key; answer = answer }
