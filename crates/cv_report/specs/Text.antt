-- The text of a report.
use Rattle.std.specs.Prelude.{ℕ, ◌+◌, ◌<◌, List, [], ◌∷◌, ◌++◌, codes, length, Option, Some, None, option_map, IfSome}
use Rattle.std.specs.Fmt.{decimal}
use Rattle.std.specs.List.{flat_map}
use Rattle.cv_syntax.specs.declared.work.Work.{Work}
use Rattle.cv_syntax.specs.PoolTrees.{tree_at}
use Rattle.cv_bound.specs.Texts.{sum_text}
use Rattle.cv_context.specs.products.ShapesInCode.{shape_in}
use Rattle.cv_lex.specs.declared.LexError.{LexError}
use Rattle.cv_lex.specs.declared.LexError.TheVariants as lex
use Rattle.cv_library.specs.declared.error.LibraryError.{LibraryError}
use Rattle.cv_library.specs.declared.error.LibraryError.TheVariants as library
use Rattle.cv_library.specs.declared.error.ExpandError.{ExpandError}
use Rattle.cv_library.specs.declared.error.ExpandError.TheVariants as expand
use Rattle.cv_parse.specs.declared.error.ParseError.{ParseError}
use Rattle.cv_parse.specs.declared.error.ParseError.TheVariants as parse
use Rattle.cv_scope_rules.specs.declared.typing.fault.TypeFault.{TypeFault}
use Rattle.cv_scope_rules.specs.declared.typing.fault.TypeFault.TheVariants as type
use Rattle.cv_group.specs.declared.fault.GroupFault.{GroupFault}
use Rattle.cv_group.specs.declared.fault.GroupFault.TheVariants as group
use Rattle.cv_scope_rules.specs.declared.fault.ScopeFault.{ScopeFault}
use Rattle.cv_scope_rules.specs.declared.fault.ScopeFault.TheVariants as scope
use Rattle.cv_report.specs.declared.report.Cause.{Cause}
use Rattle.cv_report.specs.declared.report.Cause.TheVariants.{Moves, Stuck, StepRefused, NoClose}
use Rattle.cv_report.specs.declared.report.FileFault.{FileFault}
use Rattle.cv_report.specs.declared.report.FileFault.TheVariants.{Lex, LibraryLex, Library, Expand, Parse, Script, Types, Scope, Group, Query}
use Rattle.cv_report.specs.declared.report.Report.{Report}
use Rattle.cv_report.specs.declared.report.Status.{Status}
use Rattle.cv_report.specs.declared.report.Status.TheVariants as status
use Rattle.cv_report.specs.declared.report.Entry.{Entry}
use Rattle.cv_report.specs.declared.report.Verdict.{Verdict}
use Rattle.cv_report.specs.declared.report.Verdict.TheVariants.{Proved, NotProved}
use Rattle.cv_report.specs.declared.report.Which.TheVariants.{File as FileLimit, Tokens, Nodes, Depth, Steps, Pool}
use Rattle.cv_report.specs.Lines.{Leg}

abbrev pub said_text : List (List ℕ) → Verdict → List ℕ
said_text names (Proved s) = codes " proved up to " ++ sum_text names s ++ codes "\n"
said_text names NotProved = codes " open\n"

abbrev pub verdict_text : List (List ℕ) → ℕ → Verdict → List ℕ
verdict_text names k v = codes "query " ++ decimal k ++ said_text names v

unfoldable pub verdicts_text : List (List ℕ) → ℕ → List Verdict → List ℕ
verdicts_text names k [] = []
verdicts_text names k (v ∷ vs) = verdict_text names k v ++ verdicts_text names (k + 1) vs

-- the line on the k-th query, which was asked alone
abbrev pub alone_text : List (List ℕ) → ℕ → Verdict → List ℕ
alone_text names k v = codes "query " ++ decimal k ++ codes " alone" ++ said_text names v

-- the lines on all queries in their order, or on the one that was asked alone
abbrev pub verdicts_asked : List (List ℕ) → (query : Option ℕ) → List Verdict → List ℕ
verdicts_asked names None vs = verdicts_text names 1 vs
verdicts_asked names (Some k) vs = flat_map (alone_text names k) vs

-- the end line of a file that is refused: what is wrong, and at which byte, token or node, or in which equivalence or query
abbrev pub refused_text : List ℕ → ℕ → List ℕ
refused_text what place = codes "end 2 file refused: " ++ what ++ decimal place ++ codes "\n"

abbrev pub lexis_text : LexError → List ℕ
lexis_text (lex.Char byte) = refused_text (codes "char at byte ") byte
lexis_text (lex.CommentOpen byte) = refused_text (codes "comment at byte ") byte
lexis_text (lex.NumberWide byte) = refused_text (codes "number at byte ") byte
lexis_text lex.OutOfMemory = codes "end 6 memory\n"

abbrev pub library_lexis_text : LexError → List ℕ
library_lexis_text (lex.Char byte) = refused_text (codes "library char at byte ") byte
library_lexis_text (lex.CommentOpen byte) = refused_text (codes "library comment at byte ") byte
library_lexis_text (lex.NumberWide byte) = refused_text (codes "library number at byte ") byte
library_lexis_text lex.OutOfMemory = codes "end 6 memory\n"

abbrev pub library_text : LibraryError → List ℕ
library_text (library.Syntax token) = refused_text (codes "library syntax at token ") token
library_text (library.Twice token) = refused_text (codes "library name twice at token ") token
library_text (library.Inner token) = refused_text (codes "library inner expand at token ") token
library_text library.OutOfMemory = codes "end 6 memory\n"

abbrev pub expansion_text : ExpandError → List ℕ
expansion_text (expand.Unknown token) = refused_text (codes "no definition at token ") token
expansion_text (expand.Count token) = refused_text (codes "expand count at token ") token
expansion_text (expand.Tokens count) = codes "end 7 limit: tokens\n"
expansion_text expand.OutOfMemory = codes "end 6 memory\n"

abbrev pub grammar_text : ParseError → List ℕ
grammar_text (parse.Syntax token) = refused_text (codes "syntax at token ") token
grammar_text (parse.Nesting token) = refused_text (codes "nesting at token ") token
grammar_text (parse.NameTwice token) = refused_text (codes "name twice at token ") token
grammar_text (parse.NameUnknown token) = refused_text (codes "name unknown at token ") token
grammar_text (parse.Build fault) = codes "end 6 memory\n"

abbrev pub script_text : ℕ → List ℕ
script_text token = refused_text (codes "script at token ") token

abbrev pub types_text : TypeFault → List ℕ
types_text (type.WrongType node) = refused_text (codes "type at node ") node
types_text (type.Arity node) = refused_text (codes "arity at node ") node
types_text (type.IndexAsMessage node) = refused_text (codes "index as message at node ") node
types_text (type.NotFixed node) = refused_text (codes "not fixed at node ") node
types_text type.OutOfMemory = codes "end 6 memory\n"

abbrev pub scope_text : ScopeFault → List ℕ
scope_text (scope.Unscoped node) = refused_text (codes "unscoped at node ") node
scope_text (scope.TwoSites node) = refused_text (codes "two sites at node ") node
scope_text (scope.Channel node) = refused_text (codes "channel at node ") node
scope_text (scope.Replications node) = refused_text (codes "replications at node ") node
scope_text scope.OutOfMemory = codes "end 6 memory\n"

abbrev pub group_text : (equiv : ℕ) → GroupFault → List ℕ
group_text k group.LeftNotTerm = refused_text (codes "left not term in equivalence ") k
group_text k group.TwoIndices = refused_text (codes "two indices in equivalence ") k
group_text k group.ShapeDiffers = refused_text (codes "shape differs in equivalence ") k
group_text k group.FreeName = refused_text (codes "free name in equivalence ") k
group_text k group.Unread = refused_text (codes "unread name in equivalence ") k
group_text k group.OutOfMemory = codes "end 6 memory\n"

abbrev pub query_text : ℕ → List ℕ
query_text k = refused_text (codes "query ") k

abbrev pub fault_text : FileFault → List ℕ
fault_text (Lex e) = lexis_text e
fault_text (LibraryLex e) = library_lexis_text e
fault_text (Library e) = library_text e
fault_text (Expand e) = expansion_text e
fault_text (Parse e) = grammar_text e
fault_text (Script token) = script_text token
fault_text (Types e) = types_text e
fault_text (Scope e) = scope_text e
fault_text (Group k fault) = group_text k fault
fault_text (Query k) = query_text k

-- a number behind what it numbers
unfoldable pub numbered_text : List ℕ → ℕ → List ℕ
numbered_text what k = what ++ decimal k

-- the place at which a condition fails
unfoldable pub place_text : ℕ → List ℕ
place_text place = numbered_text (codes " at ") place ++ codes "\n"

-- the condition that fails, with the place
unfoldable pub condition_text : (condition place : ℕ) → List ℕ
condition_text condition place = numbered_text (codes " condition ") condition ++ place_text place

-- the end line of a script with a step that fails a condition at a place
abbrev pub step_refused_text : (step condition place : ℕ) → List ℕ
step_refused_text step condition place = numbered_text (codes "end 1 open: step ") step ++ condition_text condition place

-- the end line of a script that closes the k-th query by no step
abbrev pub no_close_text : ℕ → List ℕ
no_close_text k = numbered_text (codes "end 1 open: no close of query ") k ++ codes "\n"

-- the end lines of runs that leave a query open
abbrev pub open_text : Cause → List ℕ
open_text Stuck = codes "end 1 open: stuck\n"
open_text Moves = codes "end 1 open: moves\n"
open_text (StepRefused step condition place) = step_refused_text step condition place
open_text (NoClose k) = no_close_text k

abbrev pub end_text : Status → List ℕ
end_text status.Proved = codes "end 0 proved\n"
end_text status.Done = codes "end 0 done\n"
end_text (status.Open cause) = open_text cause
end_text (status.FileRefused fault) = fault_text fault
end_text status.Words = codes "end 3 words\n"
end_text status.Read = codes "end 4 read\n"
end_text status.Write = codes "end 5 write\n"
end_text status.Memory = codes "end 6 memory\n"
end_text (status.Limit FileLimit) = codes "end 7 limit: file\n"
end_text (status.Limit (Tokens count)) = codes "end 7 limit: tokens\n"
end_text (status.Limit (Nodes count)) = codes "end 7 limit: nodes\n"
end_text (status.Limit (Depth depth)) = codes "end 7 limit: depth\n"
end_text (status.Limit Steps) = codes "end 7 limit: steps\n"
end_text (status.Limit (Pool need)) = codes "end 7 limit: pool\n"

-- the game of the file is a node of the report's pool
abbrev pub IsLive : Report → Type 0
IsLive r = IfSome r.file (λ f. f.game.root.0 < length r.work.pool.trees)

-- what an entry tells in a work
abbrev pub leg_in : Work → Entry → Leg
leg_in w e = record {
  names = w.names;
  step = tree_at w.pool.trees (Some e.step.0);
  cost = e.cost;
  context = option_map shape_in e.context;
  next = option_map (λ g. tree_at w.pool.trees (Some g.root)) e.next;
}

-- its step and its game are nodes of the pool
abbrev pub EntryLive : ℕ → Entry → Type 0
EntryLive n e = (e.step.0.0 < n) × IfSome e.next (λ g. g.root.0 < n)
