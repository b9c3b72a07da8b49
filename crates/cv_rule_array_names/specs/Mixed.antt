-- Branches whose lists have cells of a variable at different indices, as the code looks for them. This profile's own.
use Rattle.std.specs.Prelude.{ℕ, Bool, false, not, List}
use Rattle.std.specs.List.{list_any}
use Rattle.cv_syntax_trees.specs.declared.head.Head.{Head}
use Rattle.cv_syntax_trees.specs.declared.head.Head.TheVariants.{Branch}
use Rattle.cv_syntax_trees.specs.Tree.{Tree, first, same_tree}
use Rattle.cv_edit_names.specs.Cells.{are_mixed, cells_in}

-- one of several cells differs from another one
abbrev pub has_other : Tree → List Tree → Bool
has_other c ds = list_any (λ d. not (same_tree c d)) ds

-- a node over this second child
abbrev pub mixes : (x : ℕ) → Head → (second : Tree) → Bool
mixes x Branch rest = are_mixed (cells_in x (first rest))
mixes x h b = false
