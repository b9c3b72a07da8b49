-- What the line says that is cited.
use Rattle.std.proofs.Common.{◌≡◌, ℕ, List, Option, Some, None, sym, ap, ◌∙◌}
use Rattle.std.specs.Prelude.{option_map}
use Rattle.cv_pool.specs.KindTree.{KindTree}
use Rattle.cv_syntax_trees.specs.Tree.{Tree, Empty}
use Rattle.cv_syntax.specs.PoolTrees.{tree_at}
use Rattle.cv_syntax.proofs.Trees.{tree_at_None}
use Rattle.cv_scene.specs.lines.Inferences.{Visible}
use Rattle.cv_scene.specs.lines.Lines.{Statement}
use Rattle.cv_derive_lines.specs.declared.lines.Claim.{Claim}
use Rattle.cv_derive_lines.specs.Views.{statement_of}

module _ (part : Option Statement → Tree) (trees : List KindTree) (o : Option Claim) (v : Visible) (k j : ℕ) (f : option_map (statement_of trees) o ≡ v k) (g : k ≡ j) where
  pub said_none : part None ≡ Empty → o ≡ None → tree_at trees None ≡ part (v j)
  said_none z e = tree_at_None trees ∙ (sym z ∙ ap part (ap (option_map (statement_of trees)) (sym e) ∙ (f ∙ ap v g)))

  pub said_some : (T : Claim) (r : Tree) → o ≡ Some T → r ≡ part (Some (statement_of trees T)) → r ≡ part (v j)
  said_some T r e h = h ∙ ap part (ap (option_map (statement_of trees)) (sym e) ∙ (f ∙ ap v g))
