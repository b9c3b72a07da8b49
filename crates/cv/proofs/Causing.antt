-- What each answer about bytes comes from.
use Rattle.std.proofs.Common.{◌≡◌, ℕ, ◌+◌, ◌-◌, ◌<◌, ◌≤◌, min, nat_lt, Bool, true, false, if◌then◌else◌, List, [], ◌∷◌, ◌++◌, append-nil, length, map, refl, ap, sym, ◌∙◌, subst, arith, Option, Some, None, Result, Ok, Err}
use Rattle.std.proofs.lemmas.Bool.Decides.{nat_tests}
use Rattle.std.proofs.lemmas.List.{length-map}
use Rattle.std.specs.List.{list_all}
use Rattle.std.specs.Prelude.{IfSome, IsNone, IsSome, IsSomeAnd}
use Rattle.cv_lex.specs.Lexis.{Token, tokens_of}
use Rattle.cv_parse_tables.specs.terminals.Signs.{signs_of}
use Rattle.cv_script.specs.declared.reader.error.ScriptError.{ScriptError}
use Rattle.cv_script.specs.reader.Trees.{in_room, tree_read}
use Rattle.cv_script.proofs.reader.Steps.{read_in_room}
use Rattle.cv_script_laws.specs.forms.Scripts.{IsSomeScript}
use Rattle.cv_script_laws.proofs.forms.Deciding.{refuses}
use Rattle.cv_parse_notation.specs.Whole.{Dead}
use Rattle.cv_script.specs.declared.reader.error.ScriptError.TheVariants as script
use Rattle.cv_parse_notation.specs.declared.sign.Sign.{Sign}
use Rattle.cv_parse_grammar.specs.Names as names
use Rattle.cv_parse_grammar.specs.depth.Files.{IsDeadAtEveryDepth, IsNestedTooDeep}
use Rattle.cv_syntax.specs.declared.work.BuildError.{BuildError}
use Rattle.cv_syntax.specs.declared.work.BuildError.TheVariants as build
use Rattle.cv_syntax_trees.specs.Tree.{Tree}
use Rattle.cv_parse.specs.declared.error.ParseError.{ParseError}
use Rattle.cv_parse.specs.declared.error.ParseError.TheVariants as parse
use Rattle.cv_parse.specs.Parsed.{Parsed, parsed}
use Rattle.cv_parse.specs.Says.{HasDepth, HasNodes, HasWeight, IsLarge, IsMisnamedAt}
use Rattle.cv_parse.proofs.Exactness.{deep_game, heavy_trees, large_game, said_is_saying, twice_named, unknown_name}
use Rattle.cv_syntax_trees.specs.Declarations.{Declaration}
use Rattle.cv_scope_rules.specs.declared.typing.fault.Fault.{Fault}
use Rattle.cv_scope_rules.specs.declared.typing.fault.Fault.TheVariants as type
use Rattle.cv_scope_rules.specs.declared.typing.fault.TypeFault.{TypeFault}
use Rattle.cv_scope_rules.specs.typing.Parts.{IsFirstIn, Part, file_parts}
use Rattle.cv_scope_rules.specs.typing.Refusals.{IsFirstRefusal, refusal}
use Rattle.cv_scope_rules.proofs.typing.First.{finds_first_in, parts_typed_where_none}
use Rattle.cv_scope_rules.specs.declared.fault.ScopeFault.{ScopeFault}
use Rattle.cv_scope_rules.specs.Refusals.{refusal as scope_refusal}
use Rattle.cv_scope_rules.specs.Scope.{first_scope_fault, names_of}
use Rattle.cv_scope_rules.specs.Standing.{at_root}
use Rattle.cv_scope_rules.proofs.First.{finds_first, scoped_where_none}
use Rattle.cv_group.specs.declared.fault.GroupFault.{GroupFault}
use Rattle.cv_group_rules.specs.Symbols.{symbols_of}
use Rattle.cv_group_rules.specs.Faults.{equivalences_in}
use Rattle.cv_group_rules.proofs.Deciding.{accepted_more as all_accepted, first_refused as first_group_refused}
use Rattle.cv_meaning.specs.Queries.{queries_in}
use Rattle.cv_query_form.proofs.First.{finds_first_law as first_refused_is_first}
use Rattle.cv_library.specs.Givens.{Given, tokens_given}
use Rattle.cv_library.specs.declared.error.GivenError.{GivenError}
use Rattle.cv_library.specs.declared.error.GivenError.TheVariants as given
use Rattle.cv_accept.specs.declared.error.FileError.{FileError}
use Rattle.cv_accept.specs.declared.error.FileError.TheVariants as fault
use Rattle.cv_accept.specs.Accepted.{IsFull, Refuses, block_by, block_of, content_of, file_of, group_fault, of_parsed, of_script, of_tokens, query_fault, read_of, scope_fault, there, type_fault}
use Rattle.cv_oracles.specs.Translations.{number_in, read_as}
use Rattle.cv_accept.specs.Numbers.{parse_told}
use Rattle.cv_accept.specs.Places.{nodes_before}
use Rattle.cv_accept.proofs.Places.{behind_none, behind_some}
use Rattle.cv_accept.proofs.Stages.{IsParsed, by_groups, by_queries, by_scopes, by_script, by_tokens, by_types, given_only, lexis_of, not_given, past_groups, past_scopes, past_script, past_types, rank, told_same, types_rank}
use Rattle.cv_accept.proofs.Telling.{as_build, as_nesting, as_syntax, as_twice, as_unknown, told_error, told_script}
use Rattle.cv_report.specs.declared.report.Cause.TheVariants.{Moves, Stuck}
use Rattle.cv_report.specs.declared.report.Command.{Command}
use Rattle.cv_report.specs.declared.report.Command.TheVariants as command
use Rattle.cv_report.specs.declared.report.Report.{Report}
use Rattle.cv_report.specs.declared.report.Status.TheVariants as status
use Rattle.cv_syntax.specs.declared.work.File.{File}
use Rattle.cv.specs.Causes.{ComesFrom, HasAllSteps, HasGroupFault, HasNoScript, HasOpenQuery, HasQueryFault, HasScopeFault, HasStop, HasTypeFault, LeavesOpen, OfToken, OfTokens, Outside, PassesLimit, block_signs}
use Rattle.cv.specs.Causes as cause
use Rattle.cv.specs.Faults.{parse_ended, status_of as ended_by}
use Rattle.cv.specs.Words.{AreTold}
use Rattle.cv_accept.specs.Accepted.{most_pool}
use Rattle.cv_report.specs.verdicts.Verdicts.{ended_with}
use Rattle.cv_follow.specs.Courses.{Course}
use Rattle.cv_follow.specs.Scripts.{EndsScript, first_open, is_proved}
use Rattle.cv_kernel.specs.Followed.{known_to}
use Rattle.cv_follow.proofs.Verdicts.{all_proved_law}
use Rattle.cv.specs.Strategy.{FollowsScript, FollowsStrategy, HasVerdicts, TakesSteps, declared_in, ends_under, game_in, moves_in, steps_in}
use Rattle.cv.specs.Strategy as strategy
use Rattle.cv_scene.specs.Scenes.{Scene}
use Rattle.cv_kernel.specs.Proofs.{closed_by, nodes_along}
use Rattle.cv_moves.specs.Moves.{AreMoves}
use Rattle.cv_steps.specs.Sequences.{scene}
use Rattle.cv_follow.specs.Searches.{EndsSearch, Passes, by_limit, end_of_search, without_more}
use Rattle.cv_report.specs.declared.report.Status.{Status}
use Rattle.cv_report.specs.declared.report.Which.{Which}
use Rattle.cv.proofs.Commands.{stops_under}
use Rattle.cv.proofs.Unread.{dead_anywhere, nested_at}

-- proof blocks

-- through a token at which a block is refused goes no script

no_script : (k : ℕ) (r : Result Tree ScriptError) → there r ≡ Err (script.Script k) → r ≡ Err (script.Script k)
no_script k (Ok t) e = absurd (cc)
no_script k (Err y) e = ap (λ z. let r : Result Tree ScriptError = Err z in r) (cc)

dead_block : (ts : List Token) (k : ℕ) (o : Option (ℕ × ℕ)) → block_by ts (signs_of ts).names o ≡ Err (script.Script k) → (range : ℕ × ℕ) × (o ≡ Some range) × Dead IsSomeScript (block_signs ts range) (min range.0 range.1 + length (block_signs ts range) - k)
dead_block ts k None e = absurd (cc)
dead_block ts k (Some range) e =
    let first = min range.0 range.1 in
    let signs = block_signs ts range in
    let h = no_script k (tree_read (signs_of ts).names ts first range.1) e in
    (range, refl, refuses 0 0 first signs k (script.Script k) refl (read_in_room 0 0 first signs ∙ ap (in_room 0 0) h))

-- what a refusal comes from

refused_as : (ds : List Declaration) (parts : List Part) (q : ℕ) (f : Fault) → IsFirstIn ds 0 parts q f → IsFirstRefusal ds parts (refusal q f)
refused_as ds parts q type.WrongType h = h
refused_as ds parts q type.Arity h = h
refused_as ds parts q type.IndexAsMessage h = h
refused_as ds parts q type.NotFixed h = h

module _ (ts : List Token) (p : Parsed) (e : parsed most_pool (signs_of ts).signs ≡ Ok p) where
  type_cause : (x : TypeFault) → of_script ts p (block_of ts p) ≡ Err (fault.Types x) → HasTypeFault ts x
  type_cause x i =
      let s = past_script ts p (block_of ts p) (fault.Types x) (omega arith) (omega arith) i in
      let t = by_types (content_of ts p s.0) p (type_fault p) x s.2 in
      record {
        said = p;
        says = said_is_saying most_pool (signs_of ts).signs p e;
        script = s.0;
        block = s.1;
        first = subst (IsFirstRefusal p.declarations (file_parts p.declarations p.game)) t.3 (refused_as p.declarations (file_parts p.declarations p.game) t.0 t.1 (finds_first_in p.declarations 0 (file_parts p.declarations p.game) t.0 t.1 t.2));
      }

  scope_cause : (x : ScopeFault) → of_script ts p (block_of ts p) ≡ Err (fault.Scope x) → HasScopeFault ts x
  scope_cause x i =
      let s = past_script ts p (block_of ts p) (fault.Scope x) (omega arith) (omega arith) i in
      let c = content_of ts p s.0 in
      let t = past_types c p (type_fault p) (fault.Scope x) (omega arith) s.2 in
      let u = by_scopes c p (scope_fault p) x t.1 in
      let v = behind_some (nodes_before p.declarations) (first_scope_fault p.declarations p.game) u.0 u.1 u.2 in
      record {
        said = p;
        says = said_is_saying most_pool (signs_of ts).signs p e;
        script = s.0;
        block = s.1;
        typed = parts_typed_where_none p.declarations 0 (file_parts p.declarations p.game) t.0;
        node = v.0;
        rules = u.1;
        refused = sym u.3 ∙ ap (λ n. scope_refusal n u.1) v.2;
        first = finds_first (names_of p.declarations p.game) at_root p.game v.0 u.1 v.1;
      }

  group_cause : (k : ℕ) (x : GroupFault) → of_script ts p (block_of ts p) ≡ Err (fault.Group k x) → HasGroupFault ts k x
  group_cause k x i =
      let s = past_script ts p (block_of ts p) (fault.Group k x) (omega arith) (omega arith) i in
      let c = content_of ts p s.0 in
      let t = past_types c p (type_fault p) (fault.Group k x) (omega arith) s.2 in
      let u = past_scopes c p (scope_fault p) (fault.Group k x) (omega arith) t.1 in
      let v = by_groups c p (group_fault p) k x u.1 in
      record {
        said = p;
        says = said_is_saying most_pool (signs_of ts).signs p e;
        script = s.0;
        block = s.1;
        typed = parts_typed_where_none p.declarations 0 (file_parts p.declarations p.game) t.0;
        scoped = scoped_where_none (names_of p.declarations p.game) at_root p.game (behind_none (nodes_before p.declarations) (first_scope_fault p.declarations p.game) u.0);
        rule = v.0;
        refused = sym v.2;
        first = first_group_refused (symbols_of p.declarations) (equivalences_in p.declarations) k v.0 v.1;
      }

  query_cause : (k : ℕ) → of_script ts p (block_of ts p) ≡ Err (fault.Query k) → HasQueryFault ts k
  query_cause k i =
      let s = past_script ts p (block_of ts p) (fault.Query k) (omega arith) (omega arith) i in
      let c = content_of ts p s.0 in
      let t = past_types c p (type_fault p) (fault.Query k) (omega arith) s.2 in
      let u = past_scopes c p (scope_fault p) (fault.Query k) (omega arith) t.1 in
      let v = past_groups c p (group_fault p) (fault.Query k) (omega arith) u.1 in
      record {
        said = p;
        says = said_is_saying most_pool (signs_of ts).signs p e;
        script = s.0;
        block = s.1;
        typed = parts_typed_where_none p.declarations 0 (file_parts p.declarations p.game) t.0;
        scoped = scoped_where_none (names_of p.declarations p.game) at_root p.game (behind_none (nodes_before p.declarations) (first_scope_fault p.declarations p.game) u.0);
        groups = all_accepted (symbols_of p.declarations) (equivalences_in p.declarations) v.0;
        first = first_refused_is_first p.game (queries_in p.declarations) k (by_queries c p (query_fault p) k v.1);
      }

  script_cause : (k : ℕ) → of_script ts p (block_of ts p) ≡ Err (fault.Script k) → HasNoScript ts k
  script_cause k i = go (block_of ts p) refl i
    where
      go : (r : Result (Option Tree) ScriptError) → block_of ts p ≡ r → of_script ts p r ≡ Err (fault.Script k) → HasNoScript ts k
      go (Ok b) n j = absurd (let r = types_rank (content_of ts p b) p (type_fault p) (fault.Script k) j in omega arith)
      go (Err y) n j = let b = dead_block ts k p.script (n ∙ ap Err (by_script y k (cc))) in record {
        said = p;
        says = said_is_saying most_pool (signs_of ts).signs p e;
        refused = n ∙ ap Err (by_script y k (cc));
        range = b.0;
        there = b.1;
        dead = b.2;
      }

-- a refusal of what tokens say comes from the tokens of the source

abbrev of_file : (x : FileError) (Holds : List Token → Type 0) → 2 ≤ rank x → Type 0
of_file x Holds r = (ts : List Token) (p : Parsed) → parsed most_pool (signs_of ts).signs ≡ Ok p → of_script ts p (block_of ts p) ≡ Err x → Holds ts

by_said : (ts : List Token) (x : FileError) (Holds : List Token → Type 0) (l : 2 ≤ rank x) → of_file x Holds l → (r : Result Parsed ParseError) → parsed most_pool (signs_of ts).signs ≡ r → of_parsed ts r ≡ Err x → Holds ts
by_said ts x Holds l h (Ok p) e i = h ts p e i
by_said ts x Holds l h (Err y) e i = absurd (let s : fault.Parse y ≡ x = cc in let j = subst (λ y. rank y ≤ 1) s (omega arith) in omega arith)

by_file : (ts : List Token) (x : FileError) (Holds : List Token → Type 0) (l : 2 ≤ rank x) → of_file x Holds l → file_of most_pool ts ≡ Err x → Holds ts
unfolding file_of
by_file ts x Holds l h e = by_said ts x Holds l h (parsed most_pool (signs_of ts).signs) refl e

by_bytes : (source : Given) (x : FileError) (Holds : List Token → Type 0) (l : 2 ≤ rank x) → 3 ≤ rank x → rank x ≤ 6 → of_file x Holds l → (r : Result (List Token) GivenError) → tokens_given source ≡ r → of_tokens most_pool r ≡ Err x → OfTokens source Holds
by_bytes source x Holds l n m h (Ok ts) e i =
    let t = told_error (number_in ts) (file_of most_pool (read_as ts)) x i in
    record { tokens = ts; given = e; holds = by_file (read_as ts) x Holds l h (t.1 ∙ ap (λ y. Err y) (told_same (number_in ts) t.0 x n t.2)) }
by_bytes source x Holds l n m h (Err y) e i = absurd (let one : 1 ≤ rank x = omega (arith, l) in given_only y x one m (cc))

refused_later : (source : Given) (x : FileError) (Holds : List Token → Type 0) (l : 2 ≤ rank x) → 3 ≤ rank x → rank x ≤ 6 → of_file x Holds l → read_of most_pool source ≡ Err x → OfTokens source Holds
unfolding read_of
refused_later source x Holds l n m h e = by_bytes source x Holds l n m h (tokens_given source) refl e

script_in : (source : Given) (k : ℕ) (r : Result (List Token) GivenError) → tokens_given source ≡ r → of_tokens most_pool r ≡ Err (fault.Script k) → OfToken source k (λ ts j. HasNoScript ts j)
script_in source k (Ok ts) e i =
    let t = told_error (number_in ts) (file_of most_pool (read_as ts)) (fault.Script k) i in
    let s = told_script (number_in ts) t.0 k t.2 in
    record {
      tokens = ts;
      given = e;
      place = s.0;
      number = sym s.2;
      holds = by_file (read_as ts) (fault.Script s.0) (λ us. HasNoScript us s.0) (omega arith) (λ us p n m. script_cause us p n s.0 m) (t.1 ∙ ap (λ y. Err y) s.1);
    }
script_in source k (Err y) e i = absurd (given_only y (fault.Script k) (omega arith) (omega arith) (cc))

no_block : (source : Given) (k : ℕ) → read_of most_pool source ≡ Err (fault.Script k) → OfToken source k (λ ts j. HasNoScript ts j)
unfolding read_of
no_block source k e = script_in source k (tokens_given source) refl e

parsed_refusal : (source : Given) (x : ParseError) → read_of most_pool source ≡ Err (fault.Parse x) → IsParsed most_pool (tokens_given source) x
unfolding read_of
parsed_refusal source x e = by_tokens most_pool (tokens_given source) x e

-- a refusal that tells no token
told : (source : Given) (b : BuildError) (Holds : List Sign → Type 0) → ((signs : List Sign) → parsed most_pool signs ≡ Err (parse.Build b) → Holds signs) → read_of most_pool source ≡ Err (fault.Parse (parse.Build b)) → OfTokens source (λ ts. Holds (signs_of ts).signs)
told source b Holds h e =
    let t = parsed_refusal source (parse.Build b) e in
    record { tokens = t.tokens; given = t.given; holds = h (signs_of (read_as t.tokens)).signs (t.parses ∙ ap (λ y. Err y) (as_build (number_in t.tokens) t.refusal b t.told)) }

-- a refusal that tells one
told_at : (source : Given) (refused : ℕ → ParseError) (k : ℕ) (Holds : List Sign → ℕ → Type 0) → ((number : ℕ → ℕ) (y : ParseError) → parse_told number y ≡ refused k → (j : ℕ) × (y ≡ refused j) × (number j ≡ k)) → ((signs : List Sign) (j : ℕ) → parsed most_pool signs ≡ Err (refused j) → Holds signs j) → IsParsed most_pool (tokens_given source) (refused k) → OfToken source k (λ ts j. Holds (signs_of ts).signs j)
told_at source refused k Holds tells h t =
    let s = tells (number_in t.tokens) t.refusal t.told in
    record { tokens = t.tokens; given = t.given; place = s.0; number = sym s.2; holds = h (signs_of (read_as t.tokens)).signs s.0 (t.parses ∙ ap (λ y. Err y) s.1) }

-- of a told source this holds
pub where_told : (told : Option Given) (source : Given) (P : Given → Type 0) → AreTold told source → P source → IfSome told P
where_told None source P a p = tt
where_told (Some b) source P a p = subst P (sym a) p

-- the cause of a refusal
pub refusal_cause : (o : Outside) (r : Report) (course : Course) (source : Given) → AreTold o.told source → r.file ≡ None → (x : FileError) → Refuses most_pool source x → ComesFrom o r course (ended_by x)
refusal_cause o r course source a none x e = go x e
  where
    in_told : (P : Given → Type 0) → P source → IfSome o.told P
    in_told P p = where_told o.told source P a p

    parsing : (x : ParseError) → read_of most_pool source ≡ Err (fault.Parse x) → ComesFrom o r course (parse_ended x)
    parsing (parse.Syntax k) e = cause.syntax (in_told _ (told_at source parse.Syntax k (λ signs j. IsDeadAtEveryDepth signs j) (λ number y i. as_syntax number y k i) (λ signs j i. dead_anywhere most_pool signs j i) (parsed_refusal source (parse.Syntax k) e)))
    parsing (parse.Nesting k) e = cause.nesting (in_told _ (told_at source parse.Nesting k (λ signs j. IsNestedTooDeep signs j) (λ number y i. as_nesting number y k i) (λ signs j i. nested_at most_pool signs j i) (parsed_refusal source (parse.Nesting k) e)))
    parsing (parse.NameTwice k) e = cause.name_twice (in_told _ (told_at source parse.NameTwice k (λ signs j. IsMisnamedAt signs names.NameTwice j) (λ number y i. as_twice number y k i) (λ signs j i. twice_named most_pool signs j i) (parsed_refusal source (parse.NameTwice k) e)))
    parsing (parse.NameUnknown k) e = cause.name_unknown (in_told _ (told_at source parse.NameUnknown k (λ signs j. IsMisnamedAt signs names.NameUnknown j) (λ number y i. as_unknown number y k i) (λ signs j i. unknown_name most_pool signs j i) (parsed_refusal source (parse.NameUnknown k) e)))
    parsing (parse.Build (build.Full n)) e =
        let large = told source (build.Full n) (λ signs. IsLarge signs (HasWeight most_pool n)) (λ signs i. heavy_trees most_pool signs n i) e in
        cause.pool (subst (λ (f : Option File). IsNone f) (sym none) refl) large.holds.large.0 (in_told _ large)
    parsing (parse.Build (build.Nodes n)) e = cause.nodes (in_told _ (told source (build.Nodes n) (λ signs. IsLarge signs (HasNodes n)) (λ signs i. large_game most_pool signs n i) e))
    parsing (parse.Build (build.Depth n)) e = cause.deep (in_told _ (told source (build.Depth n) (λ signs. IsLarge signs (HasDepth n)) (λ signs i. deep_game most_pool signs n i) e))
    parsing (parse.Build build.OutOfMemory) e = cause.memory

    go : (x : FileError) → Refuses most_pool source x → ComesFrom o r course (ended_by x)
    go (fault.Lex x) e = cause.no_tokens (in_told (λ (s : Given). tokens_of s.bytes ≡ Err x) (lexis_of source x e))
    go (fault.LibraryLex x) e = cause.library_without_tokens (in_told (λ (s : Given). tokens_given s ≡ Err (given.LibraryLex x)) (not_given source (given.LibraryLex x) (omega arith) e))
    go (fault.Library x) e = cause.no_library (in_told (λ (s : Given). tokens_given s ≡ Err (given.Library x)) (not_given source (given.Library x) (omega arith) e))
    go (fault.Expand x) e = cause.not_expanded (in_told (λ (s : Given). tokens_given s ≡ Err (given.Expand x)) (not_given source (given.Expand x) (omega arith) e))
    go (fault.Tokens n) e = cause.tokens (in_told (λ (s : Given). tokens_given s ≡ Err (given.Tokens n)) (not_given source (given.Tokens n) (omega arith) e))
    go (fault.Parse x) e = parsing x e
    go (fault.Script k) e = cause.script (in_told _ (no_block source k e))
    go (fault.Types x) e = cause.types (in_told _ (refused_later source (fault.Types x) (λ ts. HasTypeFault ts x) (omega arith) (omega arith) (omega arith) (λ ts p i j. type_cause ts p i x j) e))
    go (fault.Scope x) e = cause.scope (in_told _ (refused_later source (fault.Scope x) (λ ts. HasScopeFault ts x) (omega arith) (omega arith) (omega arith) (λ ts p i j. scope_cause ts p i x j) e))
    go (fault.Group k x) e = cause.group (in_told _ (refused_later source (fault.Group k x) (λ ts. HasGroupFault ts k x) (omega arith) (omega arith) (omega arith) (λ ts p i j. group_cause ts p i k x j) e))
    go (fault.Query k) e = cause.query (in_told _ (refused_later source (fault.Query k) (λ ts. HasQueryFault ts k) (omega arith) (omega arith) (omega arith) (λ ts p i j. query_cause ts p i k j) e))
    go (fault.Room need) e = cause.script_room (subst (λ (f : Option File). IsNone f) (sym none) refl) (in_told (λ bs. IsFull most_pool bs need) e)
    go fault.OutOfMemory e = cause.memory

-- the verdicts of a course that closes each query
all_closed : (r : Report) (course : Course) → HasVerdicts r course → first_open (closed_by course.proof) 1 (queries_in (declared_in r)) ≡ None → list_all is_proved r.verdicts.items ≡ true
all_closed r course (strategy.all v) q = ap (list_all is_proved) v ∙ all_proved_law course.proof (queries_in (declared_in r)) q
all_closed r course (strategy.none m v) q = ap (list_all is_proved) v

module _ (o : Outside) (r : Report) (f : File) (course : Course) (file : r.file ≡ Some f) (took : TakesSteps r f course) where
  with_file : (Holds : File → Type 0) → Holds f → IsSomeAnd r.file Holds
  with_file Holds h = subst (λ (x : Option File). IsSomeAnd x Holds) (sym file) h

  abbrev found : List Tree
  found = map (λ t. t.step) course.proof

  abbrev unclosed : Option ℕ
  unclosed = first_open (closed_by course.proof) 1 (queries_in (declared_in r))

  abbrev at : Scene
  at = scene (declared_in r) (known_to r.work.decls.own) course.last

  -- the cause of what is said of a file without a proof block
  module _ (plain : r.script ≡ None) (w : FollowsStrategy r course) where
    -- a query is open
    left : (made : ℕ) → AreMoves found made → (k : ℕ) → unclosed ≡ Some k → IsSomeAnd r.file (λ (g : File). LeavesOpen r g course made)
    left made m k q = with_file (λ (g : File). LeavesOpen r g course made) (record { plain = plain; leads = took.leads; unclosed = subst (λ (x : Option ℕ). IsSome x) (sym q) refl; counted = m })

    open_by : (k : ℕ) → unclosed ≡ Some k → (b : Bool) → nat_lt w.made (moves_in r.command) ≡ b → ComesFrom o r course (if b then status.Open Stuck else status.Open Moves)
    open_by k q true e = cause.stuck (let l : w.made < moves_in r.command = grind (arith, nat_tests) in l) (left w.made w.counted k q)
    open_by k q false e =
        let few = w.few in
        let more : moves_in r.command ≤ w.made = grind (arith, nat_tests) in
        let all : w.made ≡ moves_in r.command = omega arith in
        cause.moves (left (moves_in r.command) (subst (AreMoves found) all w.counted) k q)

    nothing : (u : Option ℕ) → unclosed ≡ u → ComesFrom o r course (end_of_search (moves_in r.command) w.made u)
    nothing None q = cause.all_proved (all_closed r course took.verdicts q)
    nothing (Some k) q = open_by k q (nat_lt w.made (moves_in r.command)) refl

    passed : (which : Which) → Passes (length r.work.pool.trees) (length found) at (closed_by course.proof) which → ComesFrom o r course (status.Limit which)
    passed which h = cause.passes (with_file (λ (g : File). PassesLimit r g course which) (record {
      plain = plain;
      leads = took.leads;
      passes = subst (λ k. Passes (length r.work.pool.trees) k at (closed_by course.proof) which) (length-map course.proof (λ t. t.step)) h;
    }))

    by_end : (end : Status) → EndsSearch (moves_in r.command) w.made (length r.work.pool.trees) at found (closed_by course.proof) (queries_in (declared_in r)) end → ComesFrom o r course end
    by_end _ without_more = nothing unclosed refl
    by_end _ (by_limit which h) = passed which h

    pub found_cause : ComesFrom o r course r.status
    found_cause = by_end r.status w.ends

  -- the cause of what is said of a file with a proof block
  module _ (block : List Tree) (steps : steps_in r ≡ Some block) (w : FollowsScript r f block course) where
    all_steps : w.steps ≡ found ++ [] → HasAllSteps r f course
    all_steps i = record { block = block; there = steps; steps = w.steps; room = w.room; stands = w.stands; all = i ∙ append-nil found; leads = took.leads }

    -- the verdicts on the queries
    closed : (u : Option ℕ) → unclosed ≡ u → w.steps ≡ found ++ [] → ComesFrom o r course (ended_with u)
    closed None q i = cause.all_proved (all_closed r course took.verdicts q)
    closed (Some k) q i = cause.no_close (with_file (λ (g : File). HasOpenQuery r g course k) (record { steps = all_steps i; first = q }))

    -- or none are asked for
    by_command : (c : Command) → r.command ≡ c → (u : Option ℕ) → unclosed ≡ u → w.steps ≡ found ++ [] → ComesFrom o r course (ends_under c (ended_with u))
    by_command command.Games g None q i = cause.done g (with_file (λ (g : File). HasAllSteps r g course) (all_steps i))
    by_command command.Games g (Some k) q i = cause.done g (with_file (λ (g : File). HasAllSteps r g course) (all_steps i))
    by_command (command.Prove n more query) g u q i = closed u q i
    by_command (command.Sample n p) g u q i = closed u q i
    by_command command.Nothing g u q i = closed u q i

    abbrev taken : ℕ
    taken = w.room + nodes_along (declared_in r) (known_to r.work.decls.own) (game_in r f) course.proof

    by_left : (left : List Tree) → w.steps ≡ found ++ left → EndsScript taken (length course.proof) at (closed_by course.proof) (queries_in (declared_in r)) left w.end → ComesFrom o r course r.status
    by_left [] i e = subst (ComesFrom o r course) (sym (w.ended ∙ ap (ends_under r.command) e)) (by_command r.command refl unclosed refl i)
    by_left (next ∷ left) i e =
        let stop : HasStop r f course w.end = record { block = block; there = steps; steps = w.steps; room = w.room; stands = w.stands; next = next; left = left; split = i; leads = took.leads; stops = e } in
        let same = w.ended ∙ stops_under r.command taken (length course.proof) at (closed_by course.proof) next w.end e in
        subst (ComesFrom o r course) (sym same) (cause.stops (with_file (λ (g : File). HasStop r g course w.end) stop))

    pub script_cause_of : ComesFrom o r course r.status
    script_cause_of = by_left w.ends.left w.ends.split w.ends.ends
