-- What the code that builds a file takes and answers. This profile's own.
use Rattle.std.specs.Prelude.{◌≡◌, ℕ, ◌+◌, ◌<◌, List, ◌∷◌, ◌++◌, Some}
use Rattle.cv_pool.specs.declared.node.NodeId.{NodeId}
use Rattle.cv_pool.specs.KindTree.{KindTree}
use Rattle.cv_syntax.specs.declared.decls.Decl.{Decl}
use Rattle.cv_syntax.specs.declared.make.Make.{Make}
use Rattle.cv_syntax.specs.declared.work.BuildError.TheVariants.{Full, OutOfMemory}
use Rattle.cv_syntax.specs.Declarations.{declarations}
use Rattle.cv_syntax.specs.Postorder.{postorder}
use Rattle.cv_syntax.specs.PoolTrees.{tree_at}
use Rattle.cv_parse_grammar.specs.Filled.{filled}
use Rattle.cv_parse_grammar.specs.Identities.{AreDistinct, ids_of}
use Rattle.cv_parse_grammar.specs.Names.{NameFault, Uses, name_fault}
use Rattle.cv_parse_grammar.specs.Rules.{File}
use Rattle.cv_parse_declarations.specs.declared.file.Reading.{Reading}
use Rattle.cv_parse_declarations.specs.Files.{Hears}
use Rattle.cv_parse.specs.declared.error.ParseError.{ParseError}
use Rattle.cv_parse.specs.declared.error.ParseError.TheVariants.{Build}
use Rattle.cv_parse.specs.Parsed.{bool_type, of_name}

-- memory ran out, or the pool has no room for what is asked
abbrev pub Crowds : (limit live need : ℕ) → ParseError → Type 0
Crowds limit live need (Build OutOfMemory) = Unit {0}
Crowds limit live need e = (e ≡ Build (Full need)) × (limit < live + need)

-- memory ran out, or this is the first fault of the names of n tokens
abbrev pub Misnames : (n : ℕ) → Uses → ParseError → Type 0
Misnames n us (Build OutOfMemory) = Unit {0}
Misnames n us e = (f : NameFault) × (name_fault us ≡ Some f) × (e ≡ of_name n f)

-- What was heard of a file, and the parts of all its trees, that of the game at the end.
pub record Builds (r : Reading) (makes : List Make) : Type 0 where
  pub file : File
  pub hears : Hears r file
  pub parts : makes ≡ r.trees.items ++ postorder (filled file.game)
  pub distinct : AreDistinct (0 ∷ ids_of file.decls)

-- The declarations of a file and its game stand in a pool.
pub record IsBuilt (f : File) (trees : List KindTree) (list : List Decl) (root : NodeId) : Type 0 where
  pub declared : declarations trees list ≡ bool_type ∷ f.decls
  pub game : tree_at trees (Some root) ≡ filled f.game
