-- A small game, the signs of its text, and what is told about its names. This profile's own.
use Rattle.std.specs.Prelude.{ℕ, List, [], ◌∷◌, ◌++◌}
use Rattle.cv_syntax_trees.specs.Tree.{Tree, Empty, Node, binders, chain, lone, names}
use Rattle.cv_syntax_trees.specs.declared.head.Head.TheVariants.{Stop, Yield, Repl, In, Out, Event, If, Find, Branch, Leaf, Read, Eq, Cons}
use Rattle.cv_parse_notation.specs.declared.script.ScriptWord.TheVariants.{Plain}
use Rattle.cv_parse_notation.specs.declared.sign.Mark.TheVariants as mark
use Rattle.cv_parse_notation.specs.declared.sign.Sign.{Sign}
use Rattle.cv_parse_notation.specs.declared.sign.Sign.TheVariants as token
use Rattle.cv_parse_notation.specs.declared.sign.Sign.TheVariants.{Number, Find as FindWord, Mark}

-- a name that is no word of a script
abbrev Word : ℕ → Sign
Word x = token.Word x Plain

-- x[i]
abbrev pub at : ℕ → ℕ → Tree
at x i = Node (Read x) (chain (lone (Leaf i) ∷ [])) Empty

-- The names are n, c, T, i, x, b, u and e, from 1 on; `bool` is 0.
--   !i <= n
--   in(c[i], (x: T, b: bool));
--   if b[i] then
--     find @7 u <= n suchthat defined(x[u]) && (x[u] = x[i]) then
--       yield
--     else
--       event e(x[i]);
--       out(c[i], ());
--       0
--   else
--     yield
abbrev pub small : Tree
small =
    Node (Repl 4 1) Empty
    (Node (In 2) (Node Cons (names (4 ∷ [])) (binders ((5, 3) ∷ (6, 0) ∷ [])))
    (Node If (at 6 4) (chain (
    Node (Find 7) (chain (Node Branch (binders ((7, 1) ∷ [])) (Node Cons (chain (at 5 7 ∷ [])) (Node Cons (Node Eq (at 5 7) (at 5 4)) (lone Yield))) ∷ []))
    (Node (Event 8) (chain (at 5 4 ∷ []))
    (Node (Out 2) (Node Cons (names (4 ∷ [])) Empty)
    (lone Stop)))
    ∷ lone Yield ∷ []))))

abbrev pub small_signs : List Sign
small_signs =
    (Mark mark.Bang ∷ Word 4 ∷ Mark mark.AtMost ∷ Word 1 ∷ [])
    ++ (Mark mark.In ∷ Mark mark.Open ∷ Word 2 ∷ Mark mark.OpenSquare ∷ Word 4 ∷ Mark mark.CloseSquare ∷ Mark mark.Comma ∷ [])
    ++ (Mark mark.Open ∷ Word 5 ∷ Mark mark.Colon ∷ Word 3 ∷ Mark mark.Comma ∷ Word 6 ∷ Mark mark.Colon ∷ Mark mark.Bool ∷ Mark mark.Close ∷ Mark mark.Close ∷ Mark mark.Semicolon ∷ [])
    ++ (Mark mark.If ∷ Word 6 ∷ Mark mark.OpenSquare ∷ Word 4 ∷ Mark mark.CloseSquare ∷ Mark mark.Then ∷ [])
    ++ (FindWord 1 ∷ Mark mark.At ∷ Number 7 ∷ Word 7 ∷ Mark mark.AtMost ∷ Word 1 ∷ Mark mark.Suchthat ∷ [])
    ++ (Mark mark.Defined ∷ Mark mark.Open ∷ Word 5 ∷ Mark mark.OpenSquare ∷ Word 7 ∷ Mark mark.CloseSquare ∷ Mark mark.Close ∷ Mark mark.Both ∷ [])
    ++ (Mark mark.Open ∷ Word 5 ∷ Mark mark.OpenSquare ∷ Word 7 ∷ Mark mark.CloseSquare ∷ Mark mark.Equal ∷ Word 5 ∷ Mark mark.OpenSquare ∷ Word 4 ∷ Mark mark.CloseSquare ∷ Mark mark.Close ∷ Mark mark.Then ∷ [])
    ++ (Mark mark.Yield ∷ Mark mark.Else ∷ [])
    ++ (Mark mark.EventWord ∷ Word 8 ∷ Mark mark.Open ∷ Word 5 ∷ Mark mark.OpenSquare ∷ Word 4 ∷ Mark mark.CloseSquare ∷ Mark mark.Close ∷ Mark mark.Semicolon ∷ [])
    ++ (Mark mark.Out ∷ Mark mark.Open ∷ Word 2 ∷ Mark mark.OpenSquare ∷ Word 4 ∷ Mark mark.CloseSquare ∷ Mark mark.Comma ∷ Mark mark.Open ∷ Mark mark.Close ∷ Mark mark.Close ∷ Mark mark.Semicolon ∷ Number 0 ∷ [])
    ++ (Mark mark.Else ∷ Mark mark.Yield ∷ [])
