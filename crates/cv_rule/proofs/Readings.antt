-- The directory of a game whose steps can be tested is that of the game.
use Rattle.std.proofs.Common.{◌≡◌, List, Some, subst}
use Rattle.std.specs.Prelude.{IfSome}
use Rattle.cv_pool.specs.declared.node.NodeId.{NodeId}
use Rattle.cv_pool.specs.KindTree.{KindTree}
use Rattle.cv_syntax.specs.Classes.{DeclsView}
use Rattle.cv_syntax.specs.Declarations.{declarations}
use Rattle.cv_syntax.specs.PoolTrees.{tree_at}
use Rattle.cv_directory.specs.declared.directory.Directory.{Directory}
use Rattle.cv_directory.specs.Definitions.{entries_of, large_in}
use Rattle.cv_directory.specs.Tables.{entries_in}
use Rattle.cv_typing.specs.declared.arrays.Arrays.{Arrays}
use Rattle.cv_typing.specs.declared.arrays.Arrays.TheVariants as held
use Rattle.cv_typing.specs.Tables.{directory_in}
use Rattle.cv_edit_changes.specs.unletting.Assigned.{IsRead}
use Rattle.cv_edit_changes.proofs.unletting.Reading.{is_read}
use Rattle.cv_rule.specs.Prepared.{IsPrepared}

pub read_prepared : (trees : List KindTree) (decls : DeclsView) (game : NodeId) (a : Arrays) (d : Directory) → IsPrepared trees decls game a → a ≡ held.OfGame d → IsRead trees (tree_at trees (Some game)) d
read_prepared trees decls game a d p e =
    is_read (declarations trees decls.list) (large_in decls.list) trees (tree_at trees (Some game)) d p.formed
    (subst (λ b. IfSome (directory_in b) (λ i. entries_in trees i ≡ entries_of (large_in decls.list) (tree_at trees (Some game)))) e p.entries)
