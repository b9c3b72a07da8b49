-- A small step whose text has a name that is a word of scripts, and its signs. This profile's own.
use Rattle.std.specs.Prelude.{ℕ, List, [], ◌∷◌, codes}
use Rattle.cv_parse_notation.specs.declared.script.ScriptWord.TheVariants.{Move, Plain, Rename, To}
use Rattle.cv_parse_notation.specs.declared.sign.Sign.{Sign}
use Rattle.cv_parse_notation.specs.declared.sign.Sign.TheVariants.{Word}
use Rattle.cv_syntax_trees.specs.Tree.{Tree, Node, lone}
use Rattle.cv_syntax_trees.specs.declared.head.Head.TheVariants.{Name, RenameStep}

-- rename move to x
abbrev pub small : Tree
small = Node RenameStep (lone (Name 1)) (lone (Name 2))

abbrev pub small_names : List (List ℕ)
small_names = codes "bool" ∷ codes "move" ∷ codes "x" ∷ []

-- the words `rename` and `to` come behind the names
abbrev pub small_behind : List (List ℕ)
small_behind = codes "bool" ∷ codes "move" ∷ codes "x" ∷ codes "rename" ∷ codes "to" ∷ []

abbrev pub small_signs : List Sign
small_signs = Word 3 Rename ∷ Word 1 Move ∷ Word 4 To ∷ Word 2 Plain ∷ []
