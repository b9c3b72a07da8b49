-- What the only definition of a variable assigns, as the code has it.
use Rattle.std.specs.Prelude.{◌≡◌, ℕ, min, List, map, length, slice_get, true, Option, Some, None, option_map}
use Rattle.cv_pool.specs.KindTree.{KindTree}
use Rattle.cv_syntax_trees.specs.Tree.{Tree}
use Rattle.cv_syntax.specs.PoolTrees.{tree_at}
use Rattle.cv_directory.specs.declared.directory.Directory.{Directory}
use Rattle.cv_directory.specs.Definitions.{most}
use Rattle.cv_directory.specs.Tables.{entries_in}
use Rattle.cv_scope_rules.specs.Behind.{sites_of}
use Rattle.cv_scope_rules.specs.Phrases.{Inputs, is_phrase}
use Rattle.cv_derive_facts.specs.Definitions.{definition_entry, site_entry}
use Rattle.cv_derive_reasons.specs.cells.Only.{replications_by}
use Rattle.cv_steps.specs.Unletting.{Assignment}
use Rattle.cv_edit_changes.specs.declared.unletting.assigned.Assigned.{Assigned}

-- the directory is that of the game, which is one by the grammar
pub record IsRead (trees : List KindTree) (game : Tree) (d : Directory) : Type 0 where
  pub first : (x : ℕ) → option_map definition_entry ((entries_in trees d).first x) ≡ slice_get (map site_entry (sites_of game x)) 0
  pub count : (x : ℕ) → (entries_in trees d).count x ≡ min (length (sites_of game x)) most
  pub phrase : is_phrase Inputs game ≡ true

-- the indices of the replications above the first definition of a variable
abbrev pub names_above : List KindTree → Directory → ℕ → List ℕ
names_above trees d x = map (λ (r : ℕ × ℕ). r.0) (replications_by ((entries_in trees d).first x))

-- the term is the one, and the directory has the indices at its definition
abbrev pub IsAssigned : List KindTree → Directory → (x : ℕ) → Option Assigned → Option Assignment → Type 0
IsAssigned trees d x None None = Unit {0}
IsAssigned trees d x (Some a) (Some m) = (tree_at trees a.term ≡ m.term) × (names_above trees d x ≡ map (λ (r : ℕ × ℕ). r.0) m.behind.replications)
IsAssigned trees d x a m = ⊥
