-- The rows of terms, processes, the bodies of functions and declarations, as a table. This profile's own.
use Rattle.std.specs.Prelude.{ℕ, Bool, true, false, List, [], ◌∷◌, drop, slice_index_or, Result}
use Rattle.cv_syntax.specs.declared.make.Make.TheVariants.{Nothing, Over}
use Rattle.cv_syntax_trees.specs.declared.head.Head.TheVariants.{Eq, And, Or, Not, Yes, No, Cons, Stop, Yield, Par, If, Branch, Forall, Query}
use Rattle.cv_parse_notation.specs.declared.sign.Sign.{Sign}
use Rattle.cv_parse_notation.specs.declared.sign.Mark.TheVariants as mark
use Rattle.cv_parse_grammar.specs.declared.role.Role.TheVariants.{Mentions, AsCall, AsArray, AsBare, MentionsCell, Asks, AsksBound, AsksIndex, BindsBound, BindsIndex, BindsLocal, BindsVariable, Declares, Enters as Enters_in, Leaves, Unchecked}
use Rattle.cv_parse_grammar.specs.declared.role.Region.TheVariants.{InEquation, InEquivalence, InQuery}
use Rattle.cv_parse_grammar.specs.declared.role.Asked.TheVariants.{AParam, AChannel, AFunction, AnEquivalence, AnEvent, AProbability, AType}
use Rattle.cv_parse_terms.specs.declared.lookahead.ReadError.{ReadError}
use Rattle.cv_parse_terms.specs.declared.trail.Trail.{Trail}
use Rattle.cv_parse_terms.specs.declared.piece.Ahead.TheVariants as ahead
use Rattle.cv_parse_terms.specs.declared.piece.Naming.TheVariants as naming
use Rattle.cv_parse_terms.specs.declared.piece.Pairing.TheVariants as pairing
use Rattle.cv_parse_terms.specs.declared.piece.Closing.TheVariants as closing
use Rattle.cv_parse_terms.specs.declared.piece.Piece.{Piece}
use Rattle.cv_parse_terms.specs.declared.piece.Piece.TheVariants.{Sign as Says, Word, Zero, Find, Instead, Value, Again, Before, Bounds, Note, Part, Named, Marked, Paired, Row, Level, Deeper, Choice, List as Items, Many}
use Rattle.cv_parse_terms.specs.Tables.{Table, Runs, row_in, work_of}

-- the head of a bare name: in files, and in scripts, where the mark of a second copy may follow
abbrev pub bare_piece : (marks : Bool) → Piece
bare_piece false = Named naming.Leaf
bare_piece true = Marked mark.Prime naming.Primed naming.Leaf

-- the rows, by the piece that makes the head of a bare name
abbrev pub rows_with : Piece → Table
rows_with bare =
    [] ∷  -- 0 nothing
    (Deeper ahead.Term 37 ∷ []) ∷  -- 1 a term one level down
    (Items closing.Trees mark.Comma 1 ∷ []) ∷  -- 2 terms
    (Says mark.Open ∷ Row 2 ∷ Says mark.Close ∷ []) ∷  -- 3
    (Level (ahead.Mark mark.Open) 3 ∷ []) ∷  -- 4 arguments
    (Says mark.OpenSquare ∷ Row 2 ∷ Says mark.CloseSquare ∷ []) ∷  -- 5
    (Level (ahead.Mark mark.OpenSquare) 5 ∷ []) ∷  -- 6 a subscript
    (Says mark.Open ∷ Row 1 ∷ Says mark.Close ∷ []) ∷  -- 7
    (Level (ahead.Mark mark.Open) 7 ∷ []) ∷  -- 8 parentheses
    (Note AsCall ∷ Deeper (ahead.Mark mark.Open) 4 ∷ Part Nothing ∷ Named naming.Apply ∷ []) ∷  -- 9 arguments behind a name
    (Note AsArray ∷ Deeper (ahead.Mark mark.OpenSquare) 6 ∷ Part Nothing ∷ Named naming.Read ∷ []) ∷  -- 10 indices behind a name
    (Note AsBare ∷ Part Nothing ∷ Part Nothing ∷ bare ∷ []) ∷  -- 11 nothing behind a name
    (Choice (ahead.Mark mark.OpenSquare) 10 11 ∷ []) ∷  -- 12
    (Word Mentions ∷ Choice (ahead.Mark mark.Open) 9 12 ∷ []) ∷  -- 13
    (Level ahead.Word 13 ∷ []) ∷  -- 14 a name, and what follows it
    (Says mark.Not ∷ Deeper (ahead.Mark mark.Open) 8 ∷ Part Nothing ∷ Part (Over Not) ∷ []) ∷  -- 15
    (Level (ahead.Mark mark.Not) 15 ∷ []) ∷  -- 16 a negation
    (Says mark.True ∷ Part Nothing ∷ Part Nothing ∷ Part (Over Yes) ∷ []) ∷  -- 17
    (Level (ahead.Mark mark.True) 17 ∷ []) ∷  -- 18 true
    (Says mark.False ∷ Part Nothing ∷ Part Nothing ∷ Part (Over No) ∷ []) ∷  -- 19
    (Level (ahead.Mark mark.False) 19 ∷ []) ∷  -- 20 false
    (Choice (ahead.Mark mark.False) 20 8 ∷ []) ∷  -- 21
    (Choice (ahead.Mark mark.True) 18 21 ∷ []) ∷  -- 22
    (Choice (ahead.Mark mark.Not) 16 22 ∷ []) ∷  -- 23
    (Choice ahead.Word 14 23 ∷ []) ∷  -- 24 a term without operators
    (Says mark.Differ ∷ Deeper ahead.Term 24 ∷ []) ∷  -- 25
    (Level (ahead.Mark mark.Differ) 25 ∷ []) ∷  -- 26 what a term differs from
    (Deeper (ahead.Mark mark.Differ) 26 ∷ Part (Over Eq) ∷ Part Nothing ∷ Part (Over Not) ∷ []) ∷  -- 27 <> behind a term
    (Says mark.Equal ∷ []) ∷  -- 28
    (Level (ahead.Mark mark.Equal) 28 ∷ Deeper ahead.Term 24 ∷ Part (Over Eq) ∷ []) ∷  -- 29 = behind a term
    (Choice (ahead.Mark mark.Differ) 27 0 ∷ []) ∷  -- 30
    (Row 24 ∷ Choice (ahead.Mark mark.Equal) 29 30 ∷ []) ∷  -- 31 a term without && and ||
    (Says mark.Both ∷ []) ∷  -- 32
    (Level (ahead.Mark mark.Both) 32 ∷ Deeper ahead.Term 34 ∷ Part (Over And) ∷ []) ∷  -- 33 && behind a term
    (Row 31 ∷ Choice (ahead.Mark mark.Both) 33 0 ∷ []) ∷  -- 34 a term without ||
    (Says mark.Either ∷ []) ∷  -- 35
    (Level (ahead.Mark mark.Either) 35 ∷ Deeper ahead.Term 37 ∷ Part (Over Or) ∷ []) ∷  -- 36 || behind a term
    (Row 34 ∷ Choice (ahead.Mark mark.Either) 36 0 ∷ []) ∷  -- 37 a term
    (Deeper (ahead.Mark mark.OpenSquare) 6 ∷ Part Nothing ∷ Named naming.Read ∷ []) ∷  -- 38 the indices of a cell
    (Part Nothing ∷ Part Nothing ∷ Named naming.Leaf ∷ []) ∷  -- 39 a cell without indices
    (Word MentionsCell ∷ Choice (ahead.Mark mark.OpenSquare) 38 39 ∷ []) ∷  -- 40
    (Level ahead.Word 40 ∷ []) ∷  -- 41 a cell
    (Deeper ahead.Word 41 ∷ []) ∷  -- 42 a cell one level down
    (Says mark.Open ∷ Items closing.Trees mark.Comma 42 ∷ Says mark.Close ∷ []) ∷  -- 43
    (Level (ahead.Mark mark.Open) 43 ∷ []) ∷  -- 44 cells
    (Deeper (ahead.Mark mark.Open) 44 ∷ []) ∷  -- 45 cells one level down
    (Says mark.Both ∷ Row 1 ∷ []) ∷  -- 46 what is to hold
    (Part Nothing ∷ Part Nothing ∷ Part (Over Yes) ∷ []) ∷  -- 47 nothing is to hold
    (Says mark.Defined ∷ Row 45 ∷ Choice (ahead.Mark mark.Both) 46 47 ∷ []) ∷  -- 48 cells, and what is to hold
    (Part Nothing ∷ Row 1 ∷ []) ∷  -- 49 what is to hold, without cells
    (Choice (ahead.Mark mark.Defined) 48 49 ∷ []) ∷  -- 50 the condition of a branch
    (Deeper (ahead.Mark mark.Open) 4 ∷ []) ∷  -- 51 arguments one level down
    (Deeper (ahead.Mark mark.OpenSquare) 6 ∷ []) ∷  -- 52 a subscript one level down
    (Row 1 ∷ Part Nothing ∷ Part (Over Cons) ∷ []) ∷  -- 53 a list of one term
    (Part Nothing ∷ []) ∷  -- 54 the empty list
    (Choice ahead.Term 2 54 ∷ []) ∷  -- 55 terms, where there are some
    (Says mark.Bool ∷ Value 0 ∷ []) ∷  -- 56
    (Word (Asks AType) ∷ []) ∷  -- 57
    (Choice (ahead.Mark mark.Bool) 56 57 ∷ []) ∷  -- 58 a type
    (Word BindsVariable ∷ Says mark.Colon ∷ Row 58 ∷ []) ∷  -- 59 a variable of a process, with its type
    (Word BindsLocal ∷ Says mark.Colon ∷ Row 58 ∷ []) ∷  -- 60 a variable of a function, with its type
    (Row 59 ∷ Part Nothing ∷ []) ∷  -- 61
    (Items closing.Binders mark.Comma 61 ∷ []) ∷  -- 62 variables
    (Says mark.Open ∷ Choice ahead.Word 62 54 ∷ Says mark.Close ∷ []) ∷  -- 63
    (Level (ahead.Mark mark.Open) 63 ∷ []) ∷  -- 64 variables in parentheses
    (Deeper (ahead.Mark mark.Open) 64 ∷ []) ∷  -- 65
    (Row 59 ∷ Part Nothing ∷ Part Nothing ∷ Paired pairing.Binder ∷ []) ∷  -- 66 one variable
    (Choice (ahead.Mark mark.Open) 65 66 ∷ []) ∷  -- 67 what an input binds
    (Word AsksIndex ∷ Part Nothing ∷ []) ∷  -- 68
    (Says mark.OpenSquare ∷ Items closing.Names mark.Comma 68 ∷ Says mark.CloseSquare ∷ []) ∷  -- 69
    (Level (ahead.Mark mark.OpenSquare) 69 ∷ []) ∷  -- 70 the indices of a channel
    (Deeper (ahead.Mark mark.OpenSquare) 70 ∷ []) ∷  -- 71
    (Word (Asks AChannel) ∷ Choice (ahead.Mark mark.OpenSquare) 71 54 ∷ []) ∷  -- 72 a channel
    (Says mark.Open ∷ Row 72 ∷ Says mark.Comma ∷ Row 67 ∷ Says mark.Close ∷ []) ∷  -- 73
    (Level (ahead.Mark mark.Open) 73 ∷ []) ∷  -- 74 a channel, and what an input binds
    (Says mark.Open ∷ Row 55 ∷ Says mark.Close ∷ []) ∷  -- 75
    (Level (ahead.Mark mark.Open) 75 ∷ []) ∷  -- 76 a list that is sent
    (Deeper (ahead.Mark mark.Open) 76 ∷ []) ∷  -- 77
    (Choice (ahead.Mark mark.Open) 77 53 ∷ []) ∷  -- 78 what an output sends
    (Says mark.Open ∷ Row 72 ∷ Says mark.Comma ∷ Row 78 ∷ Says mark.Close ∷ []) ∷  -- 79
    (Level (ahead.Mark mark.Open) 79 ∷ []) ∷  -- 80 a channel, and what an output sends
    (Zero ∷ Part Nothing ∷ Part Nothing ∷ Part (Over Stop) ∷ []) ∷  -- 81
    (Level ahead.Zero 81 ∷ []) ∷  -- 82 the process 0
    (Says mark.Open ∷ Deeper ahead.Input 94 ∷ Says mark.Close ∷ []) ∷  -- 83
    (Level (ahead.Mark mark.Open) 83 ∷ []) ∷  -- 84 input processes in parentheses
    (Says mark.Bang ∷ Word BindsIndex ∷ Says mark.AtMost ∷ Word (Asks AParam) ∷ Part Nothing ∷ Deeper ahead.Input 91 ∷ Paired pairing.Repl ∷ []) ∷  -- 85
    (Level (ahead.Mark mark.Bang) 85 ∷ []) ∷  -- 86 a replication
    (Says mark.In ∷ Deeper (ahead.Mark mark.Open) 74 ∷ Part (Over Cons) ∷ Says mark.Semicolon ∷ Deeper ahead.Output 127 ∷ Named naming.In ∷ []) ∷  -- 87
    (Level (ahead.Mark mark.In) 87 ∷ []) ∷  -- 88 an input
    (Choice (ahead.Mark mark.Bang) 86 88 ∷ []) ∷  -- 89
    (Choice (ahead.Mark mark.Open) 84 89 ∷ []) ∷  -- 90
    (Choice ahead.Zero 82 90 ∷ []) ∷  -- 91 an input process
    (Says mark.Bar ∷ []) ∷  -- 92
    (Level (ahead.Mark mark.Bar) 92 ∷ Deeper ahead.Input 94 ∷ Part (Over Par) ∷ []) ∷  -- 93 | behind a process
    (Row 91 ∷ Choice (ahead.Mark mark.Bar) 93 0 ∷ []) ∷  -- 94 input processes
    (Says mark.Yield ∷ Part Nothing ∷ Part Nothing ∷ Part (Over Yield) ∷ []) ∷  -- 95
    (Level (ahead.Mark mark.Yield) 95 ∷ []) ∷  -- 96 yield
    (Says mark.Open ∷ Deeper ahead.Output 127 ∷ Says mark.Close ∷ []) ∷  -- 97
    (Level (ahead.Mark mark.Open) 97 ∷ []) ∷  -- 98 an output process in parentheses
    (Says mark.Semicolon ∷ Deeper ahead.Input 91 ∷ []) ∷  -- 99 what follows an output
    (Part Nothing ∷ Part Nothing ∷ Part (Over Stop) ∷ []) ∷  -- 100 nothing follows
    (Says mark.Out ∷ Deeper (ahead.Mark mark.Open) 80 ∷ Part (Over Cons) ∷ Choice (ahead.Mark mark.Semicolon) 99 100 ∷ Named naming.Out ∷ []) ∷  -- 101
    (Level (ahead.Mark mark.Out) 101 ∷ []) ∷  -- 102 an output
    (Says mark.New ∷ Row 59 ∷ Says mark.Semicolon ∷ Part Nothing ∷ Deeper ahead.Output 127 ∷ Paired pairing.New ∷ []) ∷  -- 103
    (Level (ahead.Mark mark.New) 103 ∷ []) ∷  -- 104 a restriction
    (Says mark.Let ∷ Row 59 ∷ Says mark.Equal ∷ Row 1 ∷ Says mark.In ∷ Deeper ahead.Output 127 ∷ Paired pairing.Let ∷ []) ∷  -- 105
    (Level (ahead.Mark mark.Let) 105 ∷ []) ∷  -- 106 an assignment
    (Says mark.EventWord ∷ Word (Asks AnEvent) ∷ Choice (ahead.Mark mark.Open) 51 54 ∷ Says mark.Semicolon ∷ Deeper ahead.Output 127 ∷ Named naming.Event ∷ []) ∷  -- 107
    (Level (ahead.Mark mark.EventWord) 107 ∷ []) ∷  -- 108 an event
    (Says mark.Else ∷ Deeper ahead.Output 127 ∷ []) ∷  -- 109 else
    (Part Nothing ∷ Part Nothing ∷ Part (Over Yield) ∷ []) ∷  -- 110 no else
    (Says mark.If ∷ Row 1 ∷ Says mark.Then ∷ Deeper ahead.Output 127 ∷ Choice (ahead.Mark mark.Else) 109 110 ∷ Part Nothing ∷ Part (Over Cons) ∷ Part (Over Cons) ∷ Part (Over If) ∷ []) ∷  -- 111
    (Level (ahead.Mark mark.If) 111 ∷ []) ∷  -- 112 a test
    (Says mark.At ∷ Instead ∷ []) ∷  -- 113 a label
    (Word BindsVariable ∷ Says mark.AtMost ∷ Word (Asks AParam) ∷ Part Nothing ∷ []) ∷  -- 114
    (Items closing.Binders mark.Comma 114 ∷ []) ∷  -- 115 the indices of a branch
    (Choice ahead.Word 115 54 ∷ Says mark.Suchthat ∷ Row 50 ∷ Says mark.Then ∷ Deeper ahead.Output 127 ∷ Part (Over Cons) ∷ Part (Over Cons) ∷ Part (Over Branch) ∷ []) ∷  -- 116
    (Level ahead.Branch 116 ∷ []) ∷  -- 117 a branch
    (Deeper ahead.Branch 117 ∷ []) ∷  -- 118
    (Find ∷ Choice (ahead.Mark mark.At) 113 0 ∷ Items closing.Trees mark.Orfind 118 ∷ Choice (ahead.Mark mark.Else) 109 110 ∷ Named naming.Find ∷ []) ∷  -- 119
    (Level ahead.Find 119 ∷ []) ∷  -- 120 a find
    (Choice (ahead.Mark mark.If) 112 120 ∷ []) ∷  -- 121
    (Choice (ahead.Mark mark.EventWord) 108 121 ∷ []) ∷  -- 122
    (Choice (ahead.Mark mark.Let) 106 122 ∷ []) ∷  -- 123
    (Choice (ahead.Mark mark.New) 104 123 ∷ []) ∷  -- 124
    (Choice (ahead.Mark mark.Out) 102 124 ∷ []) ∷  -- 125
    (Choice (ahead.Mark mark.Open) 98 125 ∷ []) ∷  -- 126
    (Choice (ahead.Mark mark.Yield) 96 126 ∷ []) ∷  -- 127 an output process
    (Says mark.New ∷ Row 60 ∷ Says mark.Semicolon ∷ Part Nothing ∷ Deeper ahead.Body 145 ∷ Paired pairing.New ∷ []) ∷  -- 128
    (Level (ahead.Mark mark.New) 128 ∷ []) ∷  -- 129
    (Says mark.Let ∷ Row 60 ∷ Says mark.Equal ∷ Row 1 ∷ Says mark.In ∷ Deeper ahead.Body 145 ∷ Paired pairing.Let ∷ []) ∷  -- 130
    (Level (ahead.Mark mark.Let) 130 ∷ []) ∷  -- 131
    (Says mark.Else ∷ Deeper ahead.Body 145 ∷ []) ∷  -- 132
    (Says mark.If ∷ Row 1 ∷ Says mark.Then ∷ Deeper ahead.Body 145 ∷ Row 132 ∷ Part Nothing ∷ Part (Over Cons) ∷ Part (Over Cons) ∷ Part (Over If) ∷ []) ∷  -- 133
    (Level (ahead.Mark mark.If) 133 ∷ []) ∷  -- 134
    (Word BindsLocal ∷ Says mark.AtMost ∷ Word AsksBound ∷ Part Nothing ∷ []) ∷  -- 135
    (Items closing.Binders mark.Comma 135 ∷ []) ∷  -- 136
    (Choice ahead.Word 136 54 ∷ Says mark.Suchthat ∷ Row 50 ∷ Says mark.Then ∷ Deeper ahead.Body 145 ∷ Part (Over Cons) ∷ Part (Over Cons) ∷ Part (Over Branch) ∷ []) ∷  -- 137
    (Level ahead.Branch 137 ∷ []) ∷  -- 138 a branch of a function
    (Deeper ahead.Branch 138 ∷ []) ∷  -- 139
    (Find ∷ Choice (ahead.Mark mark.At) 113 0 ∷ Items closing.Trees mark.Orfind 139 ∷ Row 132 ∷ Named naming.Find ∷ []) ∷  -- 140
    (Level ahead.Find 140 ∷ []) ∷  -- 141
    (Choice ahead.Find 141 37 ∷ []) ∷  -- 142
    (Choice (ahead.Mark mark.If) 134 142 ∷ []) ∷  -- 143
    (Choice (ahead.Mark mark.Let) 131 143 ∷ []) ∷  -- 144
    (Choice (ahead.Mark mark.New) 129 144 ∷ []) ∷  -- 145 the body of a function
    (Row 60 ∷ Part Nothing ∷ []) ∷  -- 146
    (Items closing.Binders mark.Comma 146 ∷ []) ∷  -- 147 variables of a function
    (Says mark.Open ∷ Choice ahead.Word 147 54 ∷ Says mark.Close ∷ []) ∷  -- 148
    (Level (ahead.Mark mark.Open) 148 ∷ []) ∷  -- 149 variables of a function in parentheses
    (Row 147 ∷ Says mark.Semicolon ∷ []) ∷  -- 150
    (Says mark.Forall ∷ Row 150 ∷ []) ∷  -- 151
    (Says mark.EquationWord ∷ Note (Enters_in InEquation) ∷ Choice (ahead.Mark mark.Forall) 151 54 ∷ Row 37 ∷ Part (Over Forall) ∷ Note Leaves ∷ Says mark.Dot ∷ []) ∷  -- 152 the declaration of an equation
    (Row 58 ∷ Part Nothing ∷ []) ∷  -- 153
    (Says mark.Open ∷ Items closing.Names mark.Comma 153 ∷ Says mark.Close ∷ []) ∷  -- 154
    (Level (ahead.Mark mark.Open) 154 ∷ []) ∷  -- 155 a list of types
    (Word (Declares AParam) ∷ Part Nothing ∷ []) ∷  -- 156
    (Says mark.Param ∷ Items closing.Apart mark.Comma 156 ∷ Says mark.Dot ∷ []) ∷  -- 157 the declaration of parameters
    (Word (Declares AChannel) ∷ Part Nothing ∷ []) ∷  -- 158
    (Says mark.Channel ∷ Items closing.Apart mark.Comma 158 ∷ Says mark.Dot ∷ []) ∷  -- 159 the declaration of channels
    (Says mark.Proba ∷ Word (Declares AProbability) ∷ Part Nothing ∷ Says mark.Dot ∷ []) ∷  -- 160 the declaration of a probability
    (Says mark.Fixed ∷ Value 0 ∷ []) ∷  -- 161
    (Says mark.Large ∷ Value 1 ∷ []) ∷  -- 162
    (Says mark.Bounded ∷ Value 2 ∷ []) ∷  -- 163
    (Choice (ahead.Mark mark.Large) 162 163 ∷ []) ∷  -- 164
    (Choice (ahead.Mark mark.Fixed) 161 164 ∷ []) ∷  -- 165 what a type is declared as
    (Says mark.OpenSquare ∷ Items closing.Apart mark.Comma 165 ∷ Says mark.CloseSquare ∷ []) ∷  -- 166
    (Level (ahead.Mark mark.OpenSquare) 166 ∷ []) ∷  -- 167
    (Says mark.TypeWord ∷ Word (Declares AType) ∷ Choice (ahead.Mark mark.OpenSquare) 167 0 ∷ Part Nothing ∷ Says mark.Dot ∷ []) ∷  -- 168 the declaration of a type
    (Word (Declares AFunction) ∷ Part Nothing ∷ []) ∷  -- 169
    (Says mark.ConstWord ∷ Items closing.Apart mark.Comma 169 ∷ Says mark.Colon ∷ Row 58 ∷ Says mark.Dot ∷ []) ∷  -- 170 the declaration of constants
    (Says mark.Data ∷ []) ∷  -- 171
    (Says mark.Compos ∷ []) ∷  -- 172
    (Says mark.OpenSquare ∷ Choice (ahead.Mark mark.Data) 171 172 ∷ Says mark.CloseSquare ∷ []) ∷  -- 173
    (Level (ahead.Mark mark.OpenSquare) 173 ∷ Value 1 ∷ []) ∷  -- 174 a function is data
    (Value 0 ∷ []) ∷  -- 175 a function isn't data
    (Says mark.Fun ∷ Word (Declares AFunction) ∷ Row 155 ∷ Says mark.Colon ∷ Row 58 ∷ Choice (ahead.Mark mark.OpenSquare) 174 175 ∷ Says mark.Dot ∷ []) ∷  -- 176 the declaration of a function
    (Says mark.EventWord ∷ Word (Declares AnEvent) ∷ Choice (ahead.Mark mark.Open) 155 54 ∷ Says mark.Dot ∷ []) ∷  -- 177 the declaration of an event
    (Says mark.Secret ∷ Word Unchecked ∷ Part Nothing ∷ Part Nothing ∷ Named naming.Secret ∷ []) ∷  -- 178 secrecy of all cells
    (Says mark.SecretOnce ∷ Word Unchecked ∷ Part Nothing ∷ Part Nothing ∷ Named naming.SecretOnce ∷ []) ∷  -- 179 secrecy of each cell
    (Says mark.EventWord ∷ Word (Asks AnEvent) ∷ Choice (ahead.Mark mark.Open) 4 54 ∷ Part Nothing ∷ []) ∷  -- 180 an event with its arguments
    (Says mark.Inj ∷ Row 180 ∷ Named naming.OccursOnce ∷ []) ∷  -- 181
    (Row 180 ∷ Named naming.Occurs ∷ []) ∷  -- 182
    (Choice (ahead.Mark mark.Inj) 181 182 ∷ []) ∷  -- 183 an event of a query
    (Choice (ahead.Mark mark.EventWord) 182 31 ∷ []) ∷  -- 184
    (Choice (ahead.Mark mark.Inj) 181 184 ∷ []) ∷  -- 185 an event of a query, or an equality
    (Deeper (ahead.Mark mark.OpenAtoms) 216 ∷ []) ∷  -- 186 a right side in parentheses one level down
    (Choice (ahead.Mark mark.OpenAtoms) 186 185 ∷ []) ∷  -- 187 an item of a right side
    (Items closing.Trees mark.Both 187 ∷ []) ∷  -- 188 an alternative of a right side
    (Items closing.Alternatives mark.Either 188 ∷ []) ∷  -- 189 a right side
    (Says mark.Open ∷ Word (Asks AProbability) ∷ Says mark.Close ∷ []) ∷  -- 190
    (Says mark.AtMost ∷ Level (ahead.Mark mark.Open) 190 ∷ Says mark.Gives ∷ []) ∷  -- 191 a probability, between two sides
    (Says mark.Bang ∷ Word BindsLocal ∷ Says mark.AtMost ∷ Word BindsBound ∷ Value 1 ∷ Value 0 ∷ []) ∷  -- 192 a replication of a function
    (Again ∷ Value 0 ∷ Value 0 ∷ Value 0 ∷ []) ∷  -- 193 no replication
    (Row 60 ∷ Says mark.Semicolon ∷ Part Nothing ∷ []) ∷  -- 194 a variable that is chosen, behind `new`
    (Row 149 ∷ Bounds ∷ Says mark.Arrow ∷ Row 145 ∷ []) ∷  -- 195 the arguments and the body of a function
    (Word BindsLocal ∷ Says mark.Colon ∷ Choice (ahead.Mark mark.Bang) 192 193 ∷ Many closing.Binders mark.New 194 ∷ Row 195 ∷ Named naming.Oracle ∷ []) ∷  -- 196 a function of the left side
    (Says mark.New ∷ Row 60 ∷ Before ∷ Says mark.Semicolon ∷ Deeper ahead.Arguments 199 ∷ Paired pairing.New ∷ []) ∷  -- 197
    (Level (ahead.Mark mark.New) 197 ∷ []) ∷  -- 198
    (Choice (ahead.Mark mark.New) 198 195 ∷ []) ∷  -- 199 the arguments and the body, with `new` before them
    (Word BindsLocal ∷ Says mark.Colon ∷ Choice (ahead.Mark mark.Bang) 192 193 ∷ Part Nothing ∷ Row 199 ∷ Named naming.Oracle ∷ []) ∷  -- 200 a function of the right side
    (Deeper ahead.Word 196 ∷ []) ∷  -- 201
    (Says mark.Open ∷ Items closing.Trees mark.Bar 201 ∷ Says mark.Close ∷ []) ∷  -- 202
    (Level (ahead.Mark mark.Open) 202 ∷ []) ∷  -- 203 functions of the left side
    (Deeper ahead.Word 200 ∷ []) ∷  -- 204
    (Says mark.Open ∷ Items closing.Trees mark.Bar 204 ∷ Says mark.Close ∷ []) ∷  -- 205
    (Level (ahead.Mark mark.Open) 205 ∷ []) ∷  -- 206 functions of the right side
    (Row 60 ∷ Part Nothing ∷ Part Nothing ∷ Paired pairing.Binder ∷ []) ∷  -- 207 the key of a group
    (Says mark.Bang ∷ Word BindsLocal ∷ Says mark.AtMost ∷ Word BindsBound ∷ Says mark.New ∷ Row 207 ∷ Says mark.Semicolon ∷ Row 203 ∷ Paired pairing.Bound ∷ []) ∷  -- 208 a group of the left side
    (Says mark.Bang ∷ Word BindsLocal ∷ Says mark.AtMost ∷ Word BindsBound ∷ Says mark.New ∷ Row 207 ∷ Says mark.Semicolon ∷ Row 206 ∷ Paired pairing.Bound ∷ []) ∷  -- 209 a group of the right side
    (Says mark.Equiv ∷ Word (Declares AnEquivalence) ∷ Note (Enters_in InEquivalence) ∷ Row 208 ∷ Row 191 ∷ Row 209 ∷ Named naming.Equivalence ∷ Note Leaves ∷ Says mark.Dot ∷ []) ∷  -- 210 the declaration of an equivalence
    (Choice ahead.Word 150 54 ∷ Row 183 ∷ Says mark.Implies ∷ Row 189 ∷ Part (Over Cons) ∷ Part (Over Query) ∷ []) ∷  -- 211 a correspondence
    (Choice (ahead.Mark mark.SecretOnce) 179 211 ∷ []) ∷  -- 212
    (Choice (ahead.Mark mark.Secret) 178 212 ∷ []) ∷  -- 213 what a query asks
    (Says mark.QueryWord ∷ Note (Enters_in InQuery) ∷ Row 213 ∷ Note Leaves ∷ Says mark.Dot ∷ []) ∷  -- 214 the declaration of a query
    (Says mark.OpenAtoms ∷ Row 189 ∷ Says mark.Close ∷ []) ∷  -- 215
    (Level (ahead.Mark mark.OpenAtoms) 215 ∷ []) ∷ []  -- 216 a right side in parentheses

abbrev pub rows_of_terms : (marks : Bool) → Table
rows_of_terms marks = rows_with (bare_piece marks)

-- the rows of files
abbrev pub term_rows : Table
term_rows = rows_of_terms false

abbrev pub row_count : ℕ
row_count = 217

abbrev pub row_in_table : (marks : Bool) → ℕ → List Piece
row_in_table marks r = slice_index_or (rows_of_terms marks) r []

abbrev pub row_of : ℕ → List Piece
row_of r = row_in_table false r

-- The row of a table was read from a place on, with so many levels left; some names wait before it, and others behind it.
abbrev pub EntersBy : (marks : Bool) → ℕ → ℕ → List Sign → ℕ → Trail → (before : List ℕ) → Result ℕ ReadError → Trail → (behind : List ℕ) → Type 0
EntersBy marks r n all at old before result new behind = Runs all result new behind (row_in (rows_of_terms marks) n row_count r (work_of old before (drop at all)))

abbrev pub EntersWith : ℕ → ℕ → List Sign → ℕ → Trail → (before : List ℕ) → Result ℕ ReadError → Trail → (behind : List ℕ) → Type 0
EntersWith r n all at old before result new behind = EntersBy false r n all at old before result new behind

-- no name waits before it
abbrev pub EntersAlone : (marks : Bool) → ℕ → ℕ → List Sign → ℕ → Trail → Result ℕ ReadError → Trail → Type 0
EntersAlone marks r n all at old result new = (names : List ℕ) × EntersBy marks r n all at old [] result new names

abbrev pub Enters : ℕ → ℕ → List Sign → ℕ → Trail → Result ℕ ReadError → Trail → Type 0
Enters r n all at old result new = EntersAlone false r n all at old result new
