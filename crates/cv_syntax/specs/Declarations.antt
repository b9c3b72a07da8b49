-- The declarations of a file, over the trees of a pool.
use Rattle.std.specs.Prelude.{ℕ, List, Option, Some, None, map}
use Rattle.cv_syntax_trees.specs.Declarations.{Declaration, Named, Equation, Equiv, Query}
use Rattle.cv_syntax.specs.declared.decls.Decl.{Decl}
use Rattle.cv_syntax.specs.declared.decls.Decl.TheVariants as decl
use Rattle.cv_pool.specs.declared.names.names.NameId.{NameId}
use Rattle.cv_pool.specs.KindTree.{KindTree}
use Rattle.cv_syntax_trees.specs.Tree.{Tree}
use Rattle.cv_syntax.specs.PoolTrees.{tree_at}

abbrev pub number : Option NameId → Option ℕ
number None = None
number (Some x) = Some x.0

-- a declaration of the code, over a pool's trees
abbrev pub declared : List KindTree → Decl → Declaration
declared trees (decl.Name id class args result) = Named id.0 class (tree_at trees args) (number result)
declared trees (decl.Equation n) = Equation (tree_at trees (Some n))
declared trees (decl.Equiv id n) = Equiv id.0 (tree_at trees (Some n))
declared trees (decl.Query n) = Query (tree_at trees (Some n))

-- the declarations of a list, in order
abbrev pub declarations : List KindTree → List Decl → List Declaration
declarations trees ds = map (declared trees) ds
