-- Worked files, as lists of tokens: the names are numbered as they come, from 1.
use Rattle.std.specs.Prelude.{ℕ, zero, suc, List, [], ◌∷◌}
use Rattle.cv_parse_notation.specs.declared.sign.Sign.{Sign}
use Rattle.cv_parse_notation.specs.declared.script.ScriptWord.TheVariants.{Plain}
use Rattle.cv_parse_notation.specs.declared.sign.Sign.TheVariants as token
use Rattle.cv_parse_notation.specs.declared.sign.Sign.TheVariants.{Number, Find, Unnamed, Mark}
use Rattle.cv_parse_notation.specs.declared.sign.Mark.TheVariants.{Proof, Process, Param, Channel, Proba, TypeWord, Fixed, Large, Bounded, ConstWord, Fun, Compos, EventWord, EquationWord, Forall, New, Equiv, QueryWord, Secret, Inj, Let, In, If, Then, Else, Orfind, Suchthat, Yield, Out, Defined, Not, True, False, Bool, Open, Close, OpenSquare, CloseSquare, OpenBrace, CloseBrace, Comma, Semicolon, Colon, Dot, Bar, Bang, At, Equal, Differ, AtMost, Gives, Implies, Arrow, Both, Either}

-- a name that is no word of a script
abbrev Word : ℕ → Sign
Word x = token.Word x Plain

-- every kind of declaration without a term of its own, an equation and a query of secrecy:
-- param N. channel c, d. proba P. type T [fixed, large, bounded]. const k: T. fun f(T, bool): T [compos]. event e(T). equation forall x: T; f(x, true) = x. query secret v. process 0
abbrev pub declarations : List Sign
declarations =
    Mark Param ∷ Word 1 ∷ Mark Dot ∷
    Mark Channel ∷ Word 2 ∷ Mark Comma ∷ Word 3 ∷ Mark Dot ∷
    Mark Proba ∷ Word 4 ∷ Mark Dot ∷
    Mark TypeWord ∷ Word 5 ∷ Mark OpenSquare ∷ Mark Fixed ∷ Mark Comma ∷ Mark Large ∷ Mark Comma ∷ Mark Bounded ∷ Mark CloseSquare ∷ Mark Dot ∷
    Mark ConstWord ∷ Word 6 ∷ Mark Colon ∷ Word 5 ∷ Mark Dot ∷
    Mark Fun ∷ Word 7 ∷ Mark Open ∷ Word 5 ∷ Mark Comma ∷ Mark Bool ∷ Mark Close ∷ Mark Colon ∷ Word 5 ∷ Mark OpenSquare ∷ Mark Compos ∷ Mark CloseSquare ∷ Mark Dot ∷
    Mark EventWord ∷ Word 8 ∷ Mark Open ∷ Word 5 ∷ Mark Close ∷ Mark Dot ∷
    Mark EquationWord ∷ Mark Forall ∷ Word 9 ∷ Mark Colon ∷ Word 5 ∷ Mark Semicolon ∷
    Word 7 ∷ Mark Open ∷ Word 9 ∷ Mark Comma ∷ Mark True ∷ Mark Close ∷ Mark Equal ∷ Word 9 ∷ Mark Dot ∷
    Mark QueryWord ∷ Mark Secret ∷ Word 10 ∷ Mark Dot ∷
    Mark Process ∷ Number 0 ∷ []

-- a collision without a name, an equivalence and a correspondence:
-- type T [fixed]. proba P. fun f(T): T. event e(T). collision new r: T; forall y: T; r = y <=(P)=> false. equiv q !i<=n new s: T; (O: !j<=m new a: T; (z: T) -> f(z)) <=(P)=> !i<=n new s: T; (O: !j<=m new a: T; (z: T) -> a). query w: T; inj event e(w) ==> event e(w) && w = w. process 00
abbrev pub equivalences : List Sign
equivalences =
    Mark TypeWord ∷ Word 1 ∷ Mark OpenSquare ∷ Mark Fixed ∷ Mark CloseSquare ∷ Mark Dot ∷
    Mark Proba ∷ Word 2 ∷ Mark Dot ∷
    Mark Fun ∷ Word 3 ∷ Mark Open ∷ Word 1 ∷ Mark Close ∷ Mark Colon ∷ Word 1 ∷ Mark Dot ∷
    Mark EventWord ∷ Word 4 ∷ Mark Open ∷ Word 1 ∷ Mark Close ∷ Mark Dot ∷
    Unnamed 5 ∷ Mark New ∷ Word 6 ∷ Mark Colon ∷ Word 1 ∷ Mark Semicolon ∷
    Mark Forall ∷ Word 7 ∷ Mark Colon ∷ Word 1 ∷ Mark Semicolon ∷
    Word 6 ∷ Mark Equal ∷ Word 7 ∷ Mark AtMost ∷ Mark Open ∷ Word 2 ∷ Mark Close ∷ Mark Gives ∷ Mark False ∷ Mark Dot ∷
    Mark Equiv ∷ Word 8 ∷ Mark Bang ∷ Word 9 ∷ Mark AtMost ∷ Word 10 ∷ Mark New ∷ Word 11 ∷ Mark Colon ∷ Word 1 ∷ Mark Semicolon ∷
    Mark Open ∷ Word 12 ∷ Mark Colon ∷ Mark Bang ∷ Word 13 ∷ Mark AtMost ∷ Word 14 ∷ Mark New ∷ Word 15 ∷ Mark Colon ∷ Word 1 ∷ Mark Semicolon ∷
    Mark Open ∷ Word 16 ∷ Mark Colon ∷ Word 1 ∷ Mark Close ∷ Mark Arrow ∷ Word 3 ∷ Mark Open ∷ Word 16 ∷ Mark Close ∷ Mark Close ∷ Mark AtMost ∷ Mark Open ∷ Word 2 ∷ Mark Close ∷ Mark Gives ∷ Mark Bang ∷ Word 9 ∷ Mark AtMost ∷ Word 10 ∷ Mark New ∷ Word 11 ∷ Mark Colon ∷ Word 1 ∷ Mark Semicolon ∷
    Mark Open ∷ Word 12 ∷ Mark Colon ∷ Mark Bang ∷ Word 13 ∷ Mark AtMost ∷ Word 14 ∷ Mark New ∷ Word 15 ∷ Mark Colon ∷ Word 1 ∷ Mark Semicolon ∷
    Mark Open ∷ Word 16 ∷ Mark Colon ∷ Word 1 ∷ Mark Close ∷ Mark Arrow ∷ Word 15 ∷ Mark Close ∷ Mark Dot ∷
    Mark QueryWord ∷ Word 17 ∷ Mark Colon ∷ Word 1 ∷ Mark Semicolon ∷
    Mark Inj ∷ Mark EventWord ∷ Word 4 ∷ Mark Open ∷ Word 17 ∷ Mark Close ∷ Mark Implies ∷ Mark EventWord ∷ Word 4 ∷ Mark Open ∷ Word 17 ∷ Mark Close ∷ Mark Both ∷ Word 17 ∷ Mark Equal ∷ Word 17 ∷ Mark Dot ∷
    Mark Process ∷ Number 0 ∷ []

-- two tests and one else, two conjunctions, and what may be missing:
-- channel c. event e. process in(c, (x: bool)); if x && x && not(x) then if x <> true then out(c, x) else event e; yield
abbrev pub tests : List Sign
tests =
    Mark Channel ∷ Word 1 ∷ Mark Dot ∷
    Mark EventWord ∷ Word 2 ∷ Mark Dot ∷
    Mark Process ∷ Mark In ∷ Mark Open ∷ Word 1 ∷ Mark Comma ∷ Mark Open ∷ Word 3 ∷ Mark Colon ∷ Mark Bool ∷ Mark Close ∷ Mark Close ∷ Mark Semicolon ∷
    Mark If ∷ Word 3 ∷ Mark Both ∷ Word 3 ∷ Mark Both ∷ Mark Not ∷ Mark Open ∷ Word 3 ∷ Mark Close ∷ Mark Then ∷
    Mark If ∷ Word 3 ∷ Mark Differ ∷ Mark True ∷ Mark Then ∷
    Mark Out ∷ Mark Open ∷ Word 1 ∷ Mark Comma ∷ Word 3 ∷ Mark Close ∷ Mark Else ∷ Mark EventWord ∷ Word 2 ∷ Mark Semicolon ∷
    Mark Yield ∷ []

-- a proof block, two replications, a search with two branches, and plain reads:
-- param N. type T [fixed]. channel c, d. proof { success { } 1; } process !i<=N in(c, ()); new x: T; out(d, x) | !j<=N in(c, ()); find u<=N suchthat defined(x[u]) then out(d, x[u]) orfind suchthat x = x then yield
abbrev pub searches : List Sign
searches =
    Mark Param ∷ Word 1 ∷ Mark Dot ∷
    Mark TypeWord ∷ Word 2 ∷ Mark OpenSquare ∷ Mark Fixed ∷ Mark CloseSquare ∷ Mark Dot ∷
    Mark Channel ∷ Word 3 ∷ Mark Comma ∷ Word 4 ∷ Mark Dot ∷
    Mark Proof ∷ Mark OpenBrace ∷ Word 5 ∷ Mark OpenBrace ∷ Mark CloseBrace ∷
    Number 1 ∷ Mark Semicolon ∷
    Mark CloseBrace ∷
    Mark Process ∷ Mark Bang ∷ Word 6 ∷ Mark AtMost ∷ Word 1 ∷ Mark In ∷ Mark Open ∷ Word 3 ∷ Mark Comma ∷ Mark Open ∷ Mark Close ∷ Mark Close ∷ Mark Semicolon ∷
    Mark New ∷ Word 7 ∷ Mark Colon ∷ Word 2 ∷ Mark Semicolon ∷
    Mark Out ∷ Mark Open ∷ Word 4 ∷ Mark Comma ∷ Word 7 ∷ Mark Close ∷ Mark Bar ∷
    Mark Bang ∷ Word 8 ∷ Mark AtMost ∷ Word 1 ∷ Mark In ∷ Mark Open ∷ Word 3 ∷ Mark Comma ∷ Mark Open ∷ Mark Close ∷ Mark Close ∷ Mark Semicolon ∷
    Find 1 ∷ Word 9 ∷ Mark AtMost ∷ Word 1 ∷ Mark Suchthat ∷ Mark Defined ∷ Mark Open ∷ Word 7 ∷ Mark OpenSquare ∷ Word 9 ∷ Mark CloseSquare ∷ Mark Close ∷ Mark Then ∷
    Mark Out ∷ Mark Open ∷ Word 4 ∷ Mark Comma ∷ Word 7 ∷ Mark OpenSquare ∷ Word 9 ∷ Mark CloseSquare ∷ Mark Close ∷ Mark Orfind ∷ Mark Suchthat ∷ Word 7 ∷ Mark Equal ∷ Word 7 ∷ Mark Then ∷
    Mark Yield ∷ []

-- written and missing indices, a `let`, a labelled search with two indices, and `||`:
-- param N, M. type T [fixed]. const k: T. fun f(T): T. channel c, d. process !i<=N in(c[i], ()); new x: T; out(d[i], ()); !j<=M in(c, (y: T, z: T)); let w: T = f(k) in find @7 u<=N, v<=M suchthat defined(x[u], y[u, v]) && (y[u, v] = x || k = z) then out(d, (w, x)) else yield
abbrev pub arrays : List Sign
arrays =
    Mark Param ∷ Word 1 ∷ Mark Comma ∷ Word 2 ∷ Mark Dot ∷
    Mark TypeWord ∷ Word 3 ∷ Mark OpenSquare ∷ Mark Fixed ∷ Mark CloseSquare ∷ Mark Dot ∷
    Mark ConstWord ∷ Word 4 ∷ Mark Colon ∷ Word 3 ∷ Mark Dot ∷
    Mark Fun ∷ Word 5 ∷ Mark Open ∷ Word 3 ∷ Mark Close ∷ Mark Colon ∷ Word 3 ∷ Mark Dot ∷
    Mark Channel ∷ Word 6 ∷ Mark Comma ∷ Word 7 ∷ Mark Dot ∷
    Mark Process ∷ Mark Bang ∷ Word 8 ∷ Mark AtMost ∷ Word 1 ∷ Mark In ∷ Mark Open ∷ Word 6 ∷ Mark OpenSquare ∷ Word 8 ∷ Mark CloseSquare ∷ Mark Comma ∷ Mark Open ∷ Mark Close ∷ Mark Close ∷ Mark Semicolon ∷
    Mark New ∷ Word 9 ∷ Mark Colon ∷ Word 3 ∷ Mark Semicolon ∷
    Mark Out ∷ Mark Open ∷ Word 7 ∷ Mark OpenSquare ∷ Word 8 ∷ Mark CloseSquare ∷ Mark Comma ∷ Mark Open ∷ Mark Close ∷ Mark Close ∷ Mark Semicolon ∷
    Mark Bang ∷ Word 10 ∷ Mark AtMost ∷ Word 2 ∷ Mark In ∷ Mark Open ∷ Word 6 ∷ Mark Comma ∷ Mark Open ∷ Word 11 ∷ Mark Colon ∷ Word 3 ∷ Mark Comma ∷ Word 12 ∷ Mark Colon ∷ Word 3 ∷ Mark Close ∷ Mark Close ∷ Mark Semicolon ∷
    Mark Let ∷ Word 13 ∷ Mark Colon ∷ Word 3 ∷ Mark Equal ∷ Word 5 ∷ Mark Open ∷ Word 4 ∷ Mark Close ∷ Mark In ∷ Find 1 ∷ Mark At ∷ Number 7 ∷ Word 14 ∷ Mark AtMost ∷ Word 1 ∷ Mark Comma ∷ Word 15 ∷ Mark AtMost ∷ Word 2 ∷ Mark Suchthat ∷ Mark Defined ∷ Mark Open ∷ Word 9 ∷ Mark OpenSquare ∷ Word 14 ∷ Mark CloseSquare ∷ Mark Comma ∷ Word 11 ∷ Mark OpenSquare ∷ Word 14 ∷ Mark Comma ∷ Word 15 ∷ Mark CloseSquare ∷ Mark Close ∷ Mark Both ∷ Mark Open ∷ Word 11 ∷ Mark OpenSquare ∷ Word 14 ∷ Mark Comma ∷ Word 15 ∷ Mark CloseSquare ∷ Mark Equal ∷ Word 9 ∷ Mark Either ∷ Word 4 ∷ Mark Equal ∷ Word 12 ∷ Mark Close ∷ Mark Then ∷
    Mark Out ∷ Mark Open ∷ Word 7 ∷ Mark Comma ∷ Mark Open ∷ Word 13 ∷ Mark Comma ∷ Word 9 ∷ Mark Close ∷ Mark Close ∷ Mark Else ∷ Mark Yield ∷ []

-- a reserved word for a channel:
-- channel yield. process 0
abbrev pub reserved : List Sign
reserved =
    Mark Channel ∷ Mark Yield ∷ Mark Dot ∷
    Mark Process ∷ Number 0 ∷ []

-- a parameter that is declared twice:
-- param N, N. process 0
abbrev pub repeated : List Sign
repeated =
    Mark Param ∷ Word 1 ∷ Mark Comma ∷ Word 1 ∷ Mark Dot ∷
    Mark Process ∷ Number 0 ∷ []

-- a variable of an equation whose name is declared later:
-- equation forall x: bool; x = true. const x: bool. process 0
abbrev pub local_first : List Sign
local_first =
    Mark EquationWord ∷ Mark Forall ∷ Word 1 ∷ Mark Colon ∷ Mark Bool ∷ Mark Semicolon ∷
    Word 1 ∷ Mark Equal ∷ Mark True ∷ Mark Dot ∷
    Mark ConstWord ∷ Word 1 ∷ Mark Colon ∷ Mark Bool ∷ Mark Dot ∷
    Mark Process ∷ Number 0 ∷ []

-- a variable of an equivalence whose name is declared later:
-- proba P. fun f(bool): bool. equiv q !i<=n new r: bool; (O: (x: bool) -> f(x)) <=(P)=> !i<=n new r: bool; (O: (x: bool) -> x). const x: bool. process 0
abbrev pub bound_first : List Sign
bound_first =
    Mark Proba ∷ Word 1 ∷ Mark Dot ∷
    Mark Fun ∷ Word 2 ∷ Mark Open ∷ Mark Bool ∷ Mark Close ∷ Mark Colon ∷ Mark Bool ∷ Mark Dot ∷
    Mark Equiv ∷ Word 3 ∷ Mark Bang ∷ Word 4 ∷ Mark AtMost ∷ Word 5 ∷ Mark New ∷ Word 6 ∷ Mark Colon ∷ Mark Bool ∷ Mark Semicolon ∷
    Mark Open ∷ Word 7 ∷ Mark Colon ∷ Mark Open ∷ Word 8 ∷ Mark Colon ∷ Mark Bool ∷ Mark Close ∷ Mark Arrow ∷ Word 2 ∷ Mark Open ∷ Word 8 ∷ Mark Close ∷ Mark Close ∷ Mark AtMost ∷ Mark Open ∷ Word 1 ∷ Mark Close ∷ Mark Gives ∷ Mark Bang ∷ Word 4 ∷ Mark AtMost ∷ Word 5 ∷ Mark New ∷ Word 6 ∷ Mark Colon ∷ Mark Bool ∷ Mark Semicolon ∷
    Mark Open ∷ Word 7 ∷ Mark Colon ∷ Mark Open ∷ Word 8 ∷ Mark Colon ∷ Mark Bool ∷ Mark Close ∷ Mark Arrow ∷ Word 8 ∷ Mark Close ∷ Mark Dot ∷
    Mark ConstWord ∷ Word 8 ∷ Mark Colon ∷ Mark Bool ∷ Mark Dot ∷
    Mark Process ∷ Number 0 ∷ []

-- a name in an equivalence that is declared later:
-- proba P. fun f(bool): bool. equiv q !i<=n new r: bool; (O: () -> f(g)) <=(P)=> !i<=n new r: bool; (O: () -> f(r)). const g: bool. process 0
abbrev pub unbound : List Sign
unbound =
    Mark Proba ∷ Word 1 ∷ Mark Dot ∷
    Mark Fun ∷ Word 2 ∷ Mark Open ∷ Mark Bool ∷ Mark Close ∷ Mark Colon ∷ Mark Bool ∷ Mark Dot ∷
    Mark Equiv ∷ Word 3 ∷ Mark Bang ∷ Word 4 ∷ Mark AtMost ∷ Word 5 ∷ Mark New ∷ Word 6 ∷ Mark Colon ∷ Mark Bool ∷ Mark Semicolon ∷
    Mark Open ∷ Word 7 ∷ Mark Colon ∷ Mark Open ∷ Mark Close ∷ Mark Arrow ∷ Word 2 ∷ Mark Open ∷ Word 8 ∷ Mark Close ∷ Mark Close ∷ Mark AtMost ∷ Mark Open ∷ Word 1 ∷ Mark Close ∷ Mark Gives ∷ Mark Bang ∷ Word 4 ∷ Mark AtMost ∷ Word 5 ∷ Mark New ∷ Word 6 ∷ Mark Colon ∷ Mark Bool ∷ Mark Semicolon ∷
    Mark Open ∷ Word 7 ∷ Mark Colon ∷ Mark Open ∷ Mark Close ∷ Mark Arrow ∷ Word 2 ∷ Mark Open ∷ Word 6 ∷ Mark Close ∷ Mark Close ∷ Mark Dot ∷
    Mark ConstWord ∷ Word 8 ∷ Mark Colon ∷ Mark Bool ∷ Mark Dot ∷
    Mark Process ∷ Number 0 ∷ []

-- a replication without a declared parameter:
-- process !i<=N 0
abbrev pub unknown : List Sign
unknown =
    Mark Process ∷ Mark Bang ∷ Word 1 ∷ Mark AtMost ∷ Word 2 ∷ Number 0 ∷ []

-- an index that is read before it is bound:
-- param N. channel c. process in(c, (x: bool)); if i = x then yield | !i<=N 0
abbrev pub later : List Sign
later =
    Mark Param ∷ Word 1 ∷ Mark Dot ∷
    Mark Channel ∷ Word 2 ∷ Mark Dot ∷
    Mark Process ∷ Mark In ∷ Mark Open ∷ Word 2 ∷ Mark Comma ∷ Mark Open ∷ Word 3 ∷ Mark Colon ∷ Mark Bool ∷ Mark Close ∷ Mark Close ∷ Mark Semicolon ∷
    Mark If ∷ Word 4 ∷ Mark Equal ∷ Word 3 ∷ Mark Then ∷
    Mark Yield ∷ Mark Bar ∷
    Mark Bang ∷ Word 4 ∷ Mark AtMost ∷ Word 1 ∷ Number 0 ∷ []

-- the process `0` in so many parentheses

abbrev opened : ℕ → List Sign → List Sign
opened zero l = l
opened (suc n) l = Mark Open ∷ opened n l

abbrev closed : ℕ → List Sign
closed zero = []
closed (suc n) = Mark Close ∷ closed n

abbrev pub nested : ℕ → List Sign
nested n = Mark Process ∷ opened n (Number 0 ∷ closed n)
