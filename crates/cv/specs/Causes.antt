-- What each answer comes from.
use Rattle.std.specs.Prelude.{◌≡◌, ℕ, ◌+◌, ◌-◌, ◌<◌, min, true, map, List, ◌∷◌, ◌++◌, length, Option, Some, None, Ok, Err, IfSome, IsNone, IsSome, IsSomeAnd, option_and_then}
use Rattle.std.specs.List.{list_all}
use Rattle.cv_outside.specs.Causes.{Rose}
use Rattle.cv_outside.specs.Told.{Files}
use Rattle.cv_lex.specs.declared.LexError.{LexError}
use Rattle.cv_lex.specs.Lexis.{Token, tokens_of}
use Rattle.cv_library.specs.Givens.{Given, tokens_given}
use Rattle.cv_library.specs.declared.error.ExpandError.{ExpandError}
use Rattle.cv_library.specs.declared.error.GivenError.TheVariants as given
use Rattle.cv_library.specs.declared.error.LibraryError.{LibraryError}
use Rattle.cv_oracles.specs.Translations.{number_in, read_as}
use Rattle.cv_parse_tables.specs.terminals.ScriptSigns.{between, script_signs}
use Rattle.cv_parse_tables.specs.terminals.Signs.{signs_of}
use Rattle.cv_script_laws.specs.forms.Scripts.{IsSomeScript}
use Rattle.cv_parse_notation.specs.Whole.{Dead}
use Rattle.cv_script.specs.declared.reader.error.ScriptError.TheVariants as block
use Rattle.cv_kernel.specs.Proofs.{closed_by, nodes_along}
use Rattle.cv_parse_notation.specs.declared.sign.Sign.{Sign}
use Rattle.cv_parse_grammar.specs.Names as names
use Rattle.cv_parse_grammar.specs.depth.Files.{IsDeadAtEveryDepth, IsNestedTooDeep}
use Rattle.cv_parse.specs.declared.error.ParseError.TheVariants.{Syntax, Nesting, NameTwice, NameUnknown}
use Rattle.cv_parse.specs.Parsed.{Parsed}
use Rattle.cv_parse.specs.Says.{HasDepth, HasNodes, HasWeight, IsLarge, IsMisnamedAt, Says}
use Rattle.cv_scope_rules.specs.declared.typing.fault.TypeFault.{TypeFault}
use Rattle.cv_scope_rules.specs.typing.Parts.{IsTypedFile, file_parts}
use Rattle.cv_scope_rules.specs.typing.Refusals.{IsFirstRefusal}
use Rattle.cv_scope_rules.specs.declared.fault.ScopeFault.{ScopeFault}
use Rattle.cv_scope_rules.specs.declared.fault.Fault.{Fault}
use Rattle.cv_scope_rules.specs.Refusals.{refusal}
use Rattle.cv_scope_rules.specs.Scope.{IsFirstFault, IsScoped}
use Rattle.cv_group.specs.declared.fault.GroupFault.{GroupFault}
use Rattle.cv_group.specs.Refusals.{refused_by}
use Rattle.cv_group_rules.specs.Symbols.{symbols_of}
use Rattle.cv_group_rules.specs.Faults.{AreAccepted, GroupRule, IsFirstGroupFault, equivalences_in}
use Rattle.cv_meaning.specs.Queries.{queries_in}
use Rattle.cv_query_form.specs.Rules.{IsFirstRefused}
use Rattle.cv_syntax_trees.specs.Tree.{Tree}
use Rattle.cv_syntax.specs.declared.work.File.{File}
use Rattle.cv_accept.specs.Accepted.{IsFull, block_of, most_pool}
use Rattle.cv_accept.specs.Places.{nodes_before}
use Rattle.cv_outside.specs.words.Forms.{Asked}
use Rattle.cv_report.specs.declared.report.FileFault.TheVariants.{Lex, LibraryLex, Library, Expand, Parse, Script, Types, Scope, Group, Query}
use Rattle.cv_report.specs.declared.report.Cause.TheVariants.{Moves, NoClose, Stuck}
use Rattle.cv_report.specs.declared.report.Command.TheVariants as command
use Rattle.cv_report.specs.declared.report.Report.{Report}
use Rattle.cv_report.specs.declared.report.Status.{Status}
use Rattle.cv_report.specs.declared.report.Status.TheVariants as status
use Rattle.cv_report.specs.declared.report.Which.TheVariants.{Depth, Nodes, Pool, Tokens, File as FileLimit}
use Rattle.cv_report.specs.declared.report.Which.{Which}
use Rattle.cv_steps.specs.Sequences.{scene}
use Rattle.cv_follow.specs.Scripts.{Stops, first_open, is_proved}
use Rattle.cv_kernel.specs.Followed.{known_to}
use Rattle.cv_moves.specs.Moves.{AreMoves}
use Rattle.cv_follow.specs.Fillings.{StandsFor}
use Rattle.cv_follow.specs.Searches.{Passes}
use Rattle.cv_follow.specs.Courses.{Course}
use Rattle.cv.specs.Strategy.{Leads, declared_in, game_in, moves_in, nodes_in, steps_in}
use Rattle.cv.specs.Words.{IsLong, source_asked, text_asked}

-- The source has tokens, and of those that are read this holds: the same ones, or those of the file for which they stand.
pub record OfTokens (source : Given) (Holds : List Token → Type 0) : Type 0 where
  pub tokens : List Token
  pub given : tokens_given source ≡ Ok tokens
  pub holds : Holds (read_as tokens)

-- The same of one of the tokens that are read, whose number in the source is this.
pub record OfToken (source : Given) (token : ℕ) (Holds : List Token → ℕ → Type 0) : Type 0 where
  pub tokens : List Token
  pub given : tokens_given source ≡ Ok tokens
  pub place : ℕ
  pub number : token ≡ number_in tokens place
  pub holds : Holds (read_as tokens) place

-- the signs of a proof block
abbrev pub block_signs : List Token → ℕ × ℕ → List Sign
block_signs tokens range = (script_signs (signs_of tokens).names (between (min range.0 range.1) range.1 tokens)).signs

-- The tokens are those of a file with a proof block that is refused at this token: no script goes through it.
pub record HasNoScript (tokens : List Token) (token : ℕ) : Type 0 where
  pub said : Parsed
  pub says : Says most_pool (signs_of tokens).signs said
  pub refused : block_of tokens said ≡ Err (block.Script token)
  pub range : ℕ × ℕ
  pub there : said.script ≡ Some range
  pub dead : Dead IsSomeScript (block_signs tokens range) (min range.0 range.1 + length (block_signs tokens range) - token)

-- The tokens are those of a file, whose proof block is a script if it has one, and this is the first fault of its terms.
pub record HasTypeFault (tokens : List Token) (e : TypeFault) : Type 0 where
  pub said : Parsed
  pub says : Says most_pool (signs_of tokens).signs said
  pub script : Option Tree
  pub block : block_of tokens said ≡ Ok script
  pub first : IsFirstRefusal said.declarations (file_parts said.declarations said.game) e

-- The tokens are those of such a file that is typed, and this names the first node of its game that breaks a rule of array
-- scope, by its place in the file.
pub record HasScopeFault (tokens : List Token) (e : ScopeFault) : Type 0 where
  pub said : Parsed
  pub says : Says most_pool (signs_of tokens).signs said
  pub script : Option Tree
  pub block : block_of tokens said ≡ Ok script
  pub typed : IsTypedFile said.declarations said.game
  pub node : ℕ
  pub rules : Fault
  pub refused : e ≡ refusal (nodes_before said.declarations + node) rules
  pub first : IsFirstFault said.declarations said.game node rules

-- The tokens are those of such a file that is typed and scoped, the k-th of its equivalences is the first that is not accepted,
-- and this is the first rule that it breaks. A collision is an equivalence.
pub record HasGroupFault (tokens : List Token) (k : ℕ) (e : GroupFault) : Type 0 where
  pub said : Parsed
  pub says : Says most_pool (signs_of tokens).signs said
  pub script : Option Tree
  pub block : block_of tokens said ≡ Ok script
  pub typed : IsTypedFile said.declarations said.game
  pub scoped : IsScoped said.declarations said.game
  pub rule : GroupRule
  pub refused : e ≡ refused_by rule
  pub first : IsFirstGroupFault (symbols_of said.declarations) (equivalences_in said.declarations) k rule

-- The tokens are those of such a file that is typed and scoped, whose equivalences are accepted, and the k-th of its queries is
-- the first that may not be asked.
pub record HasQueryFault (tokens : List Token) (k : ℕ) : Type 0 where
  pub said : Parsed
  pub says : Says most_pool (signs_of tokens).signs said
  pub script : Option Tree
  pub block : block_of tokens said ≡ Ok script
  pub typed : IsTypedFile said.declarations said.game
  pub scoped : IsScoped said.declarations said.game
  pub groups : AreAccepted (symbols_of said.declarations) (equivalences_in said.declarations)
  pub first : IsFirstRefused said.game (queries_in said.declarations) k

-- Without a proof block steps were found, each accepted in turn, of which so many were counted as moves, and a query is open.
pub record LeavesOpen (r : Report) (f : File) (c : Course) (made : ℕ) : Type 0 where
  pub plain : r.script ≡ None
  pub leads : Leads r f c
  pub unclosed : IsSome (first_open (closed_by c.proof) 1 (queries_in (declared_in r)))
  pub counted : AreMoves (map (λ t. t.step) c.proof) made

-- Without a proof block steps were found, each accepted in turn, and this limit is passed behind them: by the step that was proposed next,
-- or by the room that it asked for.
pub record PassesLimit (r : Report) (f : File) (c : Course) (which : Which) : Type 0 where
  pub plain : r.script ≡ None
  pub leads : Leads r f c
  pub passes : Passes (length r.work.pool.trees) (length c.proof) (scene (declared_in r) (known_to r.work.decls.own) c.last) (closed_by c.proof) which

-- The steps of a course are the front of the proof block of its file, with those that were found in the place of the word, each accepted in
-- turn; the next one stops the run so.
pub record HasStop (r : Report) (f : File) (c : Course) (s : Status) : Type 0 where
  pub block : List Tree
  pub there : steps_in r ≡ Some block
  pub steps : List Tree
  pub room : ℕ
  pub stands : StandsFor (nodes_in r f) block steps room
  pub next : Tree
  pub left : List Tree
  pub split : steps ≡ map (λ t. t.step) c.proof ++ next ∷ left
  pub leads : Leads r f c
  pub stops : Stops (room + nodes_along (declared_in r) (known_to r.work.decls.own) (game_in r f) c.proof) (length c.proof) (scene (declared_in r) (known_to r.work.decls.own) c.last) (closed_by c.proof) next s

-- The steps of a course are those of the proof block, with those that were found in the place of the word, all of them.
pub record HasAllSteps (r : Report) (f : File) (c : Course) : Type 0 where
  pub block : List Tree
  pub there : steps_in r ≡ Some block
  pub steps : List Tree
  pub room : ℕ
  pub stands : StandsFor (nodes_in r f) block steps room
  pub all : steps ≡ map (λ t. t.step) c.proof
  pub leads : Leads r f c

-- So it is, and this is the first query that none of them closes.
pub record HasOpenQuery (r : Report) (f : File) (c : Course) (q : ℕ) : Type 0 where
  pub steps : HasAllSteps r f c
  pub first : first_open (closed_by c.proof) 1 (queries_in (declared_in r)) ≡ Some q

-- what is known of the outside: what the words ask for, the told source that this reads, and the faults of the shelf, before and after
pub record Outside : Type 0 where
  pub asked : Option Asked
  pub told : Option Given
  pub before : ℕ
  pub after : ℕ

abbrev pub outside_of : Option Files → Option Asked → ℕ → ℕ → Outside
outside_of files asked before after = record { asked = asked; told = source_asked files asked; before = before; after = after }

-- where a source is told, it has tokens of which this holds, or tokens with signs of which this holds

abbrev pub OfTold : Outside → (List Token → Type 0) → Type 0
OfTold o Holds = IfSome o.told (λ source. OfTokens source Holds)

abbrev pub OfSigns : Outside → (List Sign → Type 0) → Type 0
OfSigns o Holds = OfTold o (λ tokens. Holds (signs_of tokens).signs)

-- the same of the token that has this number in the source

abbrev pub OfToldAt : Outside → ℕ → (List Token → ℕ → Type 0) → Type 0
OfToldAt o token Holds = IfSome o.told (λ source. OfToken source token Holds)

abbrev pub OfSignsAt : Outside → ℕ → (List Sign → ℕ → Type 0) → Type 0
OfSignsAt o token Holds = OfToldAt o token (λ tokens place. Holds (signs_of tokens).signs place)

-- The table of causes: what each answer comes from. What is said of a source is said of a told one. All tokens are those that
-- are read: of the expanded file, or, where this is an oracle file, of the file for which it stands; their numbers are told in the expanded
-- file.
pub data ComesFrom (o : Outside) (r : Report) (c : Course) : Status → Type 0 where
  all_proved : list_all is_proved r.verdicts.items ≡ true → ComesFrom o r c status.Proved
  stuck : {made : ℕ} → made < moves_in r.command → IsSomeAnd r.file (λ f. LeavesOpen r f c made) → ComesFrom o r c (status.Open Stuck)
  moves : IsSomeAnd r.file (λ f. LeavesOpen r f c (moves_in r.command)) → ComesFrom o r c (status.Open Moves)
  passes : {which : Which} → IsSomeAnd r.file (λ f. PassesLimit r f c which) → ComesFrom o r c (status.Limit which)
  stops : {s : Status} → IsSomeAnd r.file (λ f. HasStop r f c s) → ComesFrom o r c s
  no_close : {q : ℕ} → IsSomeAnd r.file (λ f. HasOpenQuery r f c q) → ComesFrom o r c (status.Open (NoClose q))
  done : r.command ≡ command.Games → IsSomeAnd r.file (λ f. HasAllSteps r f c) → ComesFrom o r c status.Done
  shown : r.command ≡ command.Games → r.script ≡ None → ComesFrom o r c status.Done
  sampled : IsSome (option_and_then text_asked o.asked) → ComesFrom o r c status.Done
  words : IsNone o.asked → ComesFrom o r c status.Words
  read : Rose o.before o.after → ComesFrom o r c status.Read
  long : IfSome o.told IsLong → ComesFrom o r c (status.Limit FileLimit)
  no_tokens : {e : LexError} → IfSome o.told (λ source. tokens_of source.bytes ≡ Err e) → ComesFrom o r c (status.FileRefused (Lex e))
  library_without_tokens : {e : LexError} → IfSome o.told (λ source. tokens_given source ≡ Err (given.LibraryLex e)) → ComesFrom o r c (status.FileRefused (LibraryLex e))
  no_library : {e : LibraryError} → IfSome o.told (λ source. tokens_given source ≡ Err (given.Library e)) → ComesFrom o r c (status.FileRefused (Library e))
  not_expanded : {e : ExpandError} → IfSome o.told (λ source. tokens_given source ≡ Err (given.Expand e)) → ComesFrom o r c (status.FileRefused (Expand e))
  tokens : {count : ℕ} → IfSome o.told (λ source. tokens_given source ≡ Err (given.Tokens count)) → ComesFrom o r c (status.Limit (Tokens count))
  syntax : {token : ℕ} → OfSignsAt o token (λ signs place. IsDeadAtEveryDepth signs place) → ComesFrom o r c (status.FileRefused (Parse (Syntax token)))
  nesting : {token : ℕ} → OfSignsAt o token (λ signs place. IsNestedTooDeep signs place) → ComesFrom o r c (status.FileRefused (Parse (Nesting token)))
  name_twice : {token : ℕ} → OfSignsAt o token (λ signs place. IsMisnamedAt signs names.NameTwice place) → ComesFrom o r c (status.FileRefused (Parse (NameTwice token)))
  name_unknown : {token : ℕ} → OfSignsAt o token (λ signs place. IsMisnamedAt signs names.NameUnknown place) → ComesFrom o r c (status.FileRefused (Parse (NameUnknown token)))
  script : {token : ℕ} → OfToldAt o token (λ tokens place. HasNoScript tokens place) → ComesFrom o r c (status.FileRefused (Script token))
  types : {e : TypeFault} → OfTold o (λ tokens. HasTypeFault tokens e) → ComesFrom o r c (status.FileRefused (Types e))
  scope : {e : ScopeFault} → OfTold o (λ tokens. HasScopeFault tokens e) → ComesFrom o r c (status.FileRefused (Scope e))
  group : {k : ℕ} {e : GroupFault} → OfTold o (λ tokens. HasGroupFault tokens k e) → ComesFrom o r c (status.FileRefused (Group k e))
  query : {k : ℕ} → OfTold o (λ tokens. HasQueryFault tokens k) → ComesFrom o r c (status.FileRefused (Query k))
  nodes : {count : ℕ} → OfSigns o (λ signs. IsLarge signs (HasNodes count)) → ComesFrom o r c (status.Limit (Nodes count))
  deep : {depth : ℕ} → OfSigns o (λ signs. IsLarge signs (HasDepth depth)) → ComesFrom o r c (status.Limit (Depth depth))
  pool : {need : ℕ} → IsNone r.file → most_pool < need → OfSigns o (λ signs. IsLarge signs (HasWeight most_pool need)) → ComesFrom o r c (status.Limit (Pool need))
  script_room : {need : ℕ} → IsNone r.file → IfSome o.told (λ source. IsFull most_pool source need) → ComesFrom o r c (status.Limit (Pool need))
  memory : ComesFrom o r c status.Memory
