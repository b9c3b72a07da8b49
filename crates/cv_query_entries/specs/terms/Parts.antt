-- Trees with terms for names as the code has them: nothing is put.
use Rattle.std.specs.Prelude.{ℕ, ◌+◌, Bool, true, false, if◌then◌else◌, List, Option, option_map}
use Rattle.cv_pool.specs.KindTree.{KindTree}
use Rattle.cv_pool.specs.Nodes.{ChildBelow}
use Rattle.cv_syntax_trees.specs.Tree.{Tree}
use Rattle.cv_syntax.specs.PoolTrees.{tree_at}
use Rattle.cv_syntax.specs.Walks.{above}
use Rattle.cv_meaning.specs.Correspondences.{leaf_names}
use Rattle.cv_query_entries.specs.declared.terms.given.Found.{Found}
use Rattle.cv_query_entries.specs.declared.terms.given.Given.{Given}
use Rattle.cv_query_entries.specs.declared.terms.given.Part.{Part}
use Rattle.cv_query_entries.specs.terms.Given.{Terms, put, terms_given}

abbrev pub terms_of : List KindTree → Given → Terms
terms_of trees g = terms_given (leaf_names (tree_at trees g.variables)) (tree_at trees g.arguments) g.others.now (tree_at trees g.terms)

-- its nodes are below a number
pub record IsGivenBelow (n : ℕ) (g : Given) : Type 0 where
  pub variables : ChildBelow n g.variables
  pub arguments : ChildBelow n g.arguments
  pub terms : ChildBelow n g.terms

abbrev pub found_tree : List KindTree → Option Found → Option Tree
found_tree trees o = option_map (λ (f : Found). tree_at trees f.term) o

-- the tree that a part stands for
abbrev pub put_if : Bool → Terms → Tree → Tree
put_if true f t = put f t
put_if false f t = t

abbrev pub part_tree : List KindTree → Given → Part → Tree
part_tree trees g p = put_if p.pending (terms_of trees g) (tree_at trees p.node)

-- a number that is less for what is below a part, where a pool has n nodes
abbrev pub left_of : (n : ℕ) → Part → ℕ
left_of n p = (if p.pending then n else 0) + above p.node
