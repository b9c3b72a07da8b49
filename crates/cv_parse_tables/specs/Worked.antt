-- A small grammar as a table: blocks of lines, with blocks in them.
use Rattle.std.specs.Prelude.{ℕ, false, List, [], ◌∷◌}
use Rattle.cv_syntax_trees.specs.Tree.{Tree, Empty, Node, chain, lone}
use Rattle.cv_syntax_trees.specs.declared.head.Head.TheVariants as head
use Rattle.cv_parse_notation.specs.declared.sign.Mark.TheVariants as mark
use Rattle.cv_parse_notation.specs.declared.script.ScriptWord.TheVariants.{Plain, Prune}
use Rattle.cv_parse_notation.specs.declared.sign.Sign.{Sign}
use Rattle.cv_parse_notation.specs.declared.sign.Sign.TheVariants as token
use Rattle.cv_parse_notation.specs.declared.sign.Sign.TheVariants.{Number, Mark}
use Rattle.cv_parse_notation.specs.Spells.{Use}
use Rattle.cv_parse_notation.specs.Reads.{Reader, read_sort}
use Rattle.cv_parse_grammar.specs.declared.role.Role.{Role}
use Rattle.cv_parse_grammar.specs.declared.role.Role.TheVariants as role
use Rattle.cv_parse_tables.specs.declared.piece.Outer.TheVariants as outer
use Rattle.cv_parse_tables.specs.declared.piece.Piece.TheVariants as piece
use Rattle.cv_parse_tables.specs.Table.{Table, Row, table_heads, table_rule}

-- a name that is no word of a script
abbrev Word : ℕ → Sign
Word x = token.Word x Plain

abbrev pub blocks : Table
blocks =
    (piece.Sign mark.Comma ∷ (piece.Word role.Nothing ∷ [])) ∷
    (piece.Word role.Nothing ∷ (piece.Many false 0 ∷ [])) ∷
    (piece.Sign mark.New ∷ (piece.Chain 1 ∷ [])) ∷
    (piece.Sign mark.Let ∷ (piece.Word role.BindsLocal ∷ (piece.Sign mark.Equal ∷ (piece.Number ∷ [])))) ∷
    (piece.Number ∷ []) ∷
    (piece.Phrase outer.Term ∷ []) ∷
    (piece.Sign mark.If ∷ (piece.Either 4 5 ∷ (piece.Deeper 15 ∷ []))) ∷
    (piece.ScriptWord Prune ∷ (piece.Blank ∷ (piece.Phrase outer.Cell ∷ []))) ∷
    (piece.Over head.SplitStep 2 ∷ []) ∷
    (piece.Over head.MoveStep 3 ∷ []) ∷
    (piece.Over head.Cases 6 ∷ []) ∷
    (piece.Over head.PruneStep 7 ∷ []) ∷
    (piece.OneOf 8 4 ∷ (piece.Sign mark.Semicolon ∷ [])) ∷
    (piece.Many false 12 ∷ []) ∷
    (piece.Sign mark.OpenBrace ∷ (piece.Chain 13 ∷ (piece.Sign mark.CloseBrace ∷ []))) ∷
    (piece.Level 14 ∷ []) ∷ []

-- what reads a block with so many levels left
abbrev pub read_block : ℕ → Reader Role Tree
read_block n ts = read_sort (table_heads blocks) (table_rule blocks) n (Row 15) ts

-- { let x = 5; if true { new y, z; prune y; }; }, and its tree
abbrev pub nested : List Sign
nested =
    Mark mark.OpenBrace ∷ Mark mark.Let ∷ Word 1 ∷ Mark mark.Equal ∷ Number 5 ∷ Mark mark.Semicolon ∷
    Mark mark.If ∷ Mark mark.True ∷ Mark mark.OpenBrace ∷ Mark mark.New ∷ Word 2 ∷ Mark mark.Comma ∷ Word 3 ∷ Mark mark.Semicolon ∷
    token.Word 4 Prune ∷ Word 2 ∷ Mark mark.Semicolon ∷ Mark mark.CloseBrace ∷ Mark mark.Semicolon ∷
    Mark mark.CloseBrace ∷ []

abbrev pub nesting : Tree
nesting =
    chain
    (Node head.MoveStep (lone (head.Name 1)) (lone (head.Number 5)) ∷
    Node head.Cases (lone head.Yes) (chain (Node head.SplitStep (chain (lone (head.Name 2) ∷ lone (head.Name 3) ∷ [])) Empty ∷ Node head.PruneStep (lone (head.Leaf 2)) Empty ∷ [])) ∷ [])

abbrev pub uses_of_nested : List (Use Role)
uses_of_nested = record { role = role.BindsLocal; name = 1; left = 18 } ∷ record { role = role.Nothing; name = 2; left = 10 } ∷ record { role = role.Nothing; name = 3; left = 8 } ∷ record { role = role.MentionsCell; name = 2; left = 5 } ∷ []

-- { if 3 { if 4 { }; }; }
abbrev pub deeper_nested : List Sign
deeper_nested =
    Mark mark.OpenBrace ∷ Mark mark.If ∷ Number 3 ∷ Mark mark.OpenBrace ∷ Mark mark.If ∷ Number 4 ∷ Mark mark.OpenBrace ∷ Mark mark.CloseBrace ∷ Mark mark.Semicolon ∷
    Mark mark.CloseBrace ∷ Mark mark.Semicolon ∷ Mark mark.CloseBrace ∷ []

-- { new x;
abbrev pub unended : List Sign
unended = Mark mark.OpenBrace ∷ Mark mark.New ∷ Word 1 ∷ Mark mark.Semicolon ∷ []

-- { if x' { }; }, its tree, and { if x''
abbrev pub marked : List Sign
marked = Mark mark.OpenBrace ∷ Mark mark.If ∷ Word 1 ∷ Mark mark.Prime ∷ Mark mark.OpenBrace ∷ Mark mark.CloseBrace ∷ Mark mark.Semicolon ∷ Mark mark.CloseBrace ∷ []

abbrev pub marking : Tree
marking = chain (Node head.Cases (lone (head.Primed 1)) Empty ∷ [])

abbrev pub uses_of_marked : List (Use Role)
uses_of_marked = record { role = role.Mentions; name = 1; left = 6 } ∷ record { role = role.AsBare; name = 0; left = 5 } ∷ []

abbrev pub marked_twice : List Sign
marked_twice = Mark mark.OpenBrace ∷ Mark mark.If ∷ Word 1 ∷ Mark mark.Prime ∷ Mark mark.Prime ∷ []
