-- The table of scripts: the rows from which steps are read and printed. A step, a reason, a part of a certificate is a node
-- over its items, in the order of its text; a list is a chain, a derivation the chain of its lines. The forms of steps, derivations
-- and certificates are this profile's own.
use Rattle.std.specs.Prelude.{ℕ, false, [], ◌∷◌}
use Rattle.cv_syntax_trees.specs.declared.head.Head.TheVariants as head
use Rattle.cv_parse_notation.specs.declared.sign.Mark.TheVariants as mark
use Rattle.cv_parse_notation.specs.declared.script.ScriptWord.TheVariants as word
use Rattle.cv_parse_grammar.specs.declared.role.Role.TheVariants as role
use Rattle.cv_parse_tables.specs.declared.piece.Outer.TheVariants as outer
use Rattle.cv_parse_tables.specs.declared.piece.Piece.TheVariants.{Blank, Chain, Deeper, Either, Level, Many, May, Number, OneOf, Over, Phrase, ScriptWord as Says, Sign, Word}
use Rattle.cv_parse_tables.specs.Table.{Table}

-- the rows of a step and of a script

abbrev pub step_row : ℕ
step_row = 155

abbrev pub script_row : ℕ
script_row = 158

abbrev pub script_rows : Table
script_rows =
    (Sign mark.Bool ∷ []) ∷  -- 0 bool word
    (Over (head.Name 0) 0 ∷ []) ∷  -- 1 bool
    (Word role.Nothing ∷ []) ∷  -- 2 name
    (Sign mark.Comma ∷ Blank ∷ Word role.Nothing ∷ []) ∷  -- 3 more names
    (Word role.Nothing ∷ Many false 3 ∷ []) ∷  -- 4 names
    (May false 4 ∷ []) ∷  -- 5 some names
    (Sign mark.Open ∷ Chain 5 ∷ Sign mark.Close ∷ []) ∷  -- 6 name list
    (Sign mark.Comma ∷ Blank ∷ Number ∷ []) ∷  -- 7 more numbers
    (Number ∷ Many false 7 ∷ []) ∷  -- 8 numbers
    (May false 8 ∷ []) ∷  -- 9 some numbers
    (Sign mark.Open ∷ Chain 9 ∷ Sign mark.Close ∷ []) ∷  -- 10 number list
    (Sign mark.Comma ∷ Blank ∷ Phrase outer.InnerTerm ∷ []) ∷  -- 11 more terms
    (Phrase outer.InnerTerm ∷ Many false 11 ∷ []) ∷  -- 12 terms
    (May false 12 ∷ []) ∷  -- 13 some terms
    (Sign mark.Open ∷ Chain 13 ∷ Sign mark.Close ∷ []) ∷  -- 14 term list
    (Sign mark.Open ∷ Phrase outer.InnerCell ∷ Sign mark.Close ∷ []) ∷  -- 15 inner cell
    (Deeper 75 ∷ Sign mark.Semicolon ∷ Blank ∷ []) ∷  -- 16 line item
    (Many false 16 ∷ []) ∷  -- 17 lines
    (Sign mark.OpenBrace ∷ Blank ∷ Chain 17 ∷ Sign mark.CloseBrace ∷ []) ∷  -- 18 braces
    (Blank ∷ Number ∷ []) ∷  -- 19 cited
    (Many false 19 ∷ []) ∷  -- 20 all cited
    (Says word.Fact ∷ Blank ∷ Number ∷ []) ∷  -- 21 fact
    (Says word.Here ∷ []) ∷  -- 22 here
    (Says word.Of ∷ Blank ∷ Number ∷ []) ∷  -- 23 of
    (Says word.Site ∷ Blank ∷ Number ∷ Blank ∷ Number ∷ []) ∷  -- 24 site
    (Sign mark.EquationWord ∷ Blank ∷ Number ∷ Blank ∷ Level 14 ∷ []) ∷  -- 25 equation
    (Says word.Refl ∷ []) ∷  -- 26 refl
    (Says word.Sym ∷ Blank ∷ Number ∷ []) ∷  -- 27 sym
    (Says word.Trans ∷ Blank ∷ Number ∷ Blank ∷ Number ∷ []) ∷  -- 28 trans
    (Says word.Cong ∷ Chain 20 ∷ []) ∷  -- 29 cong
    (Says word.Mp ∷ Blank ∷ Number ∷ Blank ∷ Number ∷ []) ∷  -- 30 mp
    (Says word.And ∷ Blank ∷ Number ∷ Blank ∷ Number ∷ []) ∷  -- 31 and
    (Says word.Left ∷ Blank ∷ Number ∷ []) ∷  -- 32 left
    (Says word.Right ∷ Blank ∷ Number ∷ []) ∷  -- 33 right
    (Says word.Contra ∷ Blank ∷ Number ∷ Blank ∷ Number ∷ []) ∷  -- 34 contra
    (Says word.Exfalso ∷ Blank ∷ Number ∷ []) ∷  -- 35 exfalso
    (Sign mark.Data ∷ []) ∷  -- 36 data
    (Says word.Given ∷ []) ∷  -- 37 given
    (Says word.Again ∷ Blank ∷ Number ∷ []) ∷  -- 38 again
    (Sign mark.Bool ∷ []) ∷  -- 39 truth
    (Says word.OtherFact ∷ Blank ∷ Number ∷ []) ∷  -- 40 other fact
    (Says word.OtherHere ∷ []) ∷  -- 41 other here
    (Says word.Same ∷ Blank ∷ Number ∷ []) ∷  -- 42 same
    (Says word.Distinct ∷ Blank ∷ Number ∷ Blank ∷ Number ∷ Blank ∷ Number ∷ Blank ∷ Number ∷ []) ∷  -- 43 distinct reason
    (Says word.Late ∷ Blank ∷ Number ∷ Chain 20 ∷ []) ∷  -- 44 late
    (Over head.ByFact 21 ∷ []) ∷  -- 45 by fact
    (Over head.ByHere 22 ∷ []) ∷  -- 46 by here
    (Over head.ByOf 23 ∷ []) ∷  -- 47 by of
    (Over head.BySite 24 ∷ []) ∷  -- 48 by site
    (Over head.ByEquation 25 ∷ []) ∷  -- 49 by equation
    (Over head.ByRefl 26 ∷ []) ∷  -- 50 by refl
    (Over head.BySym 27 ∷ []) ∷  -- 51 by sym
    (Over head.ByTrans 28 ∷ []) ∷  -- 52 by trans
    (Over head.ByCong 29 ∷ []) ∷  -- 53 by cong
    (Over head.ByMp 30 ∷ []) ∷  -- 54 by mp
    (Over head.ByAnd 31 ∷ []) ∷  -- 55 by and
    (Over head.ByLeft 32 ∷ []) ∷  -- 56 by left
    (Over head.ByRight 33 ∷ []) ∷  -- 57 by right
    (Over head.ByContra 34 ∷ []) ∷  -- 58 by contra
    (Over head.ByExfalso 35 ∷ []) ∷  -- 59 by exfalso
    (Over head.ByData 36 ∷ []) ∷  -- 60 by data
    (Over head.ByGiven 37 ∷ []) ∷  -- 61 by given
    (Over head.ByAgain 38 ∷ []) ∷  -- 62 by again
    (Over head.ByBool 39 ∷ []) ∷  -- 63 by truth
    (Over head.ByOtherFact 40 ∷ []) ∷  -- 64 by other fact
    (Over head.ByOtherHere 41 ∷ []) ∷  -- 65 by other here
    (Over head.BySame 42 ∷ []) ∷  -- 66 by same
    (Over head.ByDistinct 43 ∷ []) ∷  -- 67 by distinct reason
    (Over head.ByLate 44 ∷ []) ∷  -- 68 by late
    (Sign mark.Defined ∷ Level 15 ∷ Blank ∷ Says word.By ∷ Blank ∷ OneOf 45 24 ∷ []) ∷  -- 69 defined line
    (Sign mark.Cases ∷ Blank ∷ Phrase outer.Term ∷ Blank ∷ Level 18 ∷ Blank ∷ Level 18 ∷ Blank ∷ Sign mark.Colon ∷ Blank ∷ Phrase outer.Term ∷ []) ∷  -- 70 cases line
    (Phrase outer.Term ∷ Blank ∷ Says word.By ∷ Blank ∷ OneOf 45 24 ∷ []) ∷  -- 71 term line
    (Over head.Defined 69 ∷ []) ∷  -- 72 a defined line
    (Over head.Cases 70 ∷ []) ∷  -- 73 a cases line
    (Over head.Line 71 ∷ []) ∷  -- 74 a term line
    (OneOf 72 3 ∷ []) ∷  -- 75 line
    (Sign mark.Then ∷ []) ∷  -- 76 then word
    (Sign mark.Else ∷ []) ∷  -- 77 else word
    (Says word.Add ∷ []) ∷  -- 78 add word
    (Says word.Drop ∷ []) ∷  -- 79 drop word
    (Over head.ThenPart 76 ∷ []) ∷  -- 80 then part
    (Over head.ElsePart 77 ∷ []) ∷  -- 81 else part
    (Number ∷ []) ∷  -- 82 branch part
    (Over head.AddPart 78 ∷ []) ∷  -- 83 add part
    (Over head.DropPart 79 ∷ []) ∷  -- 84 drop part
    (Says word.Above ∷ []) ∷  -- 85 above word
    (Blank ∷ Over head.AboveRoute 85 ∷ []) ∷  -- 86 above part
    (May false 86 ∷ []) ∷  -- 87 above or not
    (Says word.Above ∷ Blank ∷ Number ∷ Blank ∷ Level 18 ∷ []) ∷  -- 88 above
    (Says word.Cell ∷ Blank ∷ Phrase outer.Cell ∷ Blank ∷ Number ∷ Blank ∷ Level 18 ∷ []) ∷  -- 89 cell
    (Over head.AboveRoute 88 ∷ []) ∷  -- 90 a above
    (Over head.CellRoute 89 ∷ []) ∷  -- 91 a cell
    (Says word.Holds ∷ Blank ∷ Level 18 ∷ []) ∷  -- 92 holds
    (Sign mark.EventWord ∷ Blank ∷ OneOf 90 2 ∷ []) ∷  -- 93 event route
    (Over head.HoldsRoute 92 ∷ []) ∷  -- 94 holds route
    (Blank ∷ OneOf 93 2 ∷ []) ∷  -- 95 route item
    (Says word.Alt ∷ Blank ∷ Number ∷ []) ∷  -- 96 alternative
    (Says word.Never ∷ Blank ∷ Level 18 ∷ []) ∷  -- 97 never
    (Blank ∷ Over head.AlternativePart 96 ∷ []) ∷  -- 98 alternative item
    (May false 98 ∷ Many false 95 ∷ []) ∷  -- 99 choice
    (Says word.With ∷ Blank ∷ Level 14 ∷ Chain 99 ∷ []) ∷  -- 100 with
    (Over head.NeverEntry 97 ∷ []) ∷  -- 101 a never
    (Over head.WithEntry 100 ∷ []) ∷  -- 102 a with
    (Says word.At ∷ Blank ∷ Number ∷ Blank ∷ OneOf 101 2 ∷ []) ∷  -- 103 at
    (Blank ∷ Over head.AtEntry 103 ∷ []) ∷  -- 104 entry item
    (Says word.Distinct ∷ Blank ∷ Chain 4 ∷ []) ∷  -- 105 distinct
    (Blank ∷ Over head.DistinctPart 105 ∷ []) ∷  -- 106 distinct item
    (Says word.Pair ∷ Blank ∷ Number ∷ Blank ∷ Number ∷ Blank ∷ Number ∷ Blank ∷ Level 18 ∷ []) ∷  -- 107 pair
    (Blank ∷ Over head.Pair 107 ∷ []) ∷  -- 108 pair item
    (Says word.Pair ∷ Blank ∷ Number ∷ Blank ∷ Number ∷ Blank ∷ Level 18 ∷ []) ∷  -- 109 secret pair
    (Blank ∷ Over head.SecretPair 109 ∷ []) ∷  -- 110 secret pair item
    (Many false 104 ∷ May false 106 ∷ Many false 108 ∷ []) ∷  -- 111 events parts
    (Many false 110 ∷ []) ∷  -- 112 secret parts
    (Says word.Events ∷ Chain 111 ∷ []) ∷  -- 113 events
    (Sign mark.Secret ∷ Chain 112 ∷ []) ∷  -- 114 secret
    (Over head.EventsCertificate 113 ∷ []) ∷  -- 115 a events
    (Over head.SecretCertificate 114 ∷ []) ∷  -- 116 a secret
    (Says word.Rename ∷ Blank ∷ Word role.Nothing ∷ Blank ∷ Says word.To ∷ Blank ∷ Word role.Nothing ∷ []) ∷  -- 117 rename
    (Says word.Rewrite ∷ Blank ∷ Number ∷ Blank ∷ Says word.To ∷ Blank ∷ Phrase outer.Term ∷ Blank ∷ Says word.By ∷ Blank ∷ Level 18 ∷ []) ∷  -- 118 rewrite
    (Says word.Prune ∷ Blank ∷ Number ∷ Blank ∷ OneOf 80 3 ∷ Blank ∷ Says word.By ∷ Blank ∷ Level 18 ∷ []) ∷  -- 119 prune
    (Says word.Pick ∷ Blank ∷ Number ∷ Blank ∷ Level 14 ∷ Blank ∷ Says word.By ∷ Blank ∷ Level 18 ∷ Blank ∷ Level 18 ∷ []) ∷  -- 120 pick
    (Says word.Merge ∷ Blank ∷ Number ∷ []) ∷  -- 121 merge
    (Says word.Split ∷ Blank ∷ Number ∷ Blank ∷ Phrase outer.Term ∷ []) ∷  -- 122 split
    (Sign mark.Let ∷ Blank ∷ Number ∷ Blank ∷ Word role.Nothing ∷ Sign mark.Colon ∷ Blank ∷ Either 1 2 ∷ Blank ∷ Sign mark.Equal ∷ Blank ∷ Phrase outer.Term ∷ []) ∷  -- 123 let
    (Says word.Unlet ∷ Blank ∷ Word role.Nothing ∷ []) ∷  -- 124 unlet
    (Sign mark.New ∷ Blank ∷ Number ∷ Blank ∷ Word role.Nothing ∷ Sign mark.Colon ∷ Blank ∷ Either 1 2 ∷ []) ∷  -- 125 new
    (Says word.Unnew ∷ Blank ∷ Word role.Nothing ∷ []) ∷  -- 126 unnew
    (Says word.Move ∷ Blank ∷ Number ∷ []) ∷  -- 127 move
    (Says word.ArrayRename ∷ Blank ∷ Word role.Nothing ∷ Blank ∷ Says word.To ∷ Blank ∷ Level 6 ∷ []) ∷  -- 128 array rename
    (Says word.Codef ∷ Blank ∷ Number ∷ Blank ∷ OneOf 83 2 ∷ Blank ∷ Phrase outer.Cell ∷ Blank ∷ Says word.From ∷ Blank ∷ Phrase outer.Cell ∷ Chain 87 ∷ []) ∷  -- 129 codef
    (Says word.Birthday ∷ Blank ∷ Word role.Nothing ∷ Blank ∷ Says word.At ∷ Blank ∷ Level 10 ∷ []) ∷  -- 130 birthday
    (Says word.Guess ∷ Blank ∷ Word role.Nothing ∷ Blank ∷ Says word.At ∷ Blank ∷ Level 10 ∷ []) ∷  -- 131 guess
    (Says word.Fresh ∷ Blank ∷ Number ∷ []) ∷  -- 132 fresh
    (Says word.Crypto ∷ Blank ∷ Word role.Nothing ∷ Blank ∷ Word role.Nothing ∷ []) ∷  -- 133 crypto
    (Says word.Success ∷ Blank ∷ Number ∷ Blank ∷ OneOf 115 2 ∷ []) ∷  -- 134 success
    (Says word.Simplify ∷ []) ∷  -- 135 simplify
    (Over head.SplitStep 122 ∷ []) ∷  -- 136 a split
    (Over head.LetStep 123 ∷ []) ∷  -- 137 a let
    (Over head.NewStep 125 ∷ []) ∷  -- 138 a new
    (Over head.UnnewStep 126 ∷ []) ∷  -- 139 a unnew
    (Over head.RewriteStep 118 ∷ []) ∷  -- 140 a rewrite
    (Over head.PruneStep 119 ∷ []) ∷  -- 141 a prune
    (Over head.SuccessStep 134 ∷ []) ∷  -- 142 a success
    (Over head.CryptoStep 133 ∷ []) ∷  -- 143 a crypto
    (Over head.UnletStep 124 ∷ []) ∷  -- 144 a unlet
    (Over head.RenameStep 117 ∷ []) ∷  -- 145 a rename
    (Over head.MergeStep 121 ∷ []) ∷  -- 146 a merge
    (Over head.MoveStep 127 ∷ []) ∷  -- 147 a move
    (Over head.CodefStep 129 ∷ []) ∷  -- 148 a codef
    (Over head.ArrayRenameStep 128 ∷ []) ∷  -- 149 a array rename
    (Over head.SimplifyStep 135 ∷ []) ∷  -- 150 a simplify
    (Over head.PickStep 120 ∷ []) ∷  -- 151 a pick
    (Over head.FreshStep 132 ∷ []) ∷  -- 152 a fresh
    (Over head.BirthdayStep 130 ∷ []) ∷  -- 153 a birthday
    (Over head.GuessStep 131 ∷ []) ∷  -- 154 a guess
    (OneOf 136 19 ∷ []) ∷  -- 155 step
    (OneOf 136 19 ∷ Sign mark.Semicolon ∷ []) ∷  -- 156 step item
    (Many false 156 ∷ []) ∷  -- 157 steps
    (Chain 157 ∷ []) ∷  -- 158 script
    []
