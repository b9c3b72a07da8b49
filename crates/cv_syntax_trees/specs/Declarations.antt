-- What a file declares.
use Rattle.std.specs.Prelude.{ℕ, Option}
use Rattle.cv_syntax_trees.specs.declared.class.Class.{Class}
use Rattle.cv_syntax_trees.specs.Tree.{Tree}

-- a declaration, with its trees
pub data Declaration : Type 0 where
  Named : (id : ℕ) → (class : Class) → (arguments : Tree) → (result : Option ℕ) → Declaration
  Equation : Tree → Declaration
  Equiv : (id : ℕ) → Tree → Declaration
  Query : Tree → Declaration
