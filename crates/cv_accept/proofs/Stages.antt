-- The stages that refuse a source: what a refusal by a later one passed.
use Rattle.std.proofs.Common.{◌≡◌, ◌≤◌, ℕ, List, refl, ap, ◌∙◌, subst, arith, Option, Some, None, Result, Ok, Err}
use Rattle.cv_lex.specs.declared.LexError.{LexError}
use Rattle.cv_lex.specs.Lexis.{Token, tokens_of}
use Rattle.cv_library.specs.Expansions.{expanded}
use Rattle.cv_library.specs.Givens.{Given, of_expanded, of_file_tokens, of_library, of_library_tokens, tokens_given, with_library}
use Rattle.cv_library.specs.Libraries.{Definition, library_of}
use Rattle.cv_library.specs.declared.error.ExpandError.{ExpandError}
use Rattle.cv_library.specs.declared.error.ExpandError.TheVariants as expand
use Rattle.cv_library.specs.declared.error.GivenError.{GivenError}
use Rattle.cv_library.specs.declared.error.GivenError.TheVariants as given
use Rattle.cv_library.specs.declared.error.LibraryError.{LibraryError}
use Rattle.cv_parse_tables.specs.terminals.Signs.{signs_of}
use Rattle.cv_script.specs.declared.reader.error.ScriptError.{ScriptError}
use Rattle.cv_script.specs.declared.reader.error.ScriptError.TheVariants as script
use Rattle.cv_syntax_trees.specs.Tree.{Tree}
use Rattle.cv_parse.specs.declared.error.ParseError.{ParseError}
use Rattle.cv_parse.specs.Parsed.{Parsed, parsed}
use Rattle.cv_scope_rules.specs.declared.typing.fault.Fault.{Fault}
use Rattle.cv_scope_rules.specs.declared.typing.fault.TypeFault.{TypeFault}
use Rattle.cv_scope_rules.specs.typing.Refusals.{refusal}
use Rattle.cv_scope_rules.specs.declared.fault.Fault.{Fault as ScopeRules}
use Rattle.cv_scope_rules.specs.declared.fault.ScopeFault.{ScopeFault}
use Rattle.cv_scope_rules.specs.Refusals.{refusal as scope_refusal}
use Rattle.cv_group.specs.declared.fault.GroupFault.{GroupFault}
use Rattle.cv_group.specs.Refusals.{refused_by}
use Rattle.cv_group_rules.specs.Faults.{GroupRule}
use Rattle.cv_accept.specs.declared.error.FileError.{FileError}
use Rattle.cv_accept.specs.declared.error.FileError.TheVariants as fault
use Rattle.cv_oracles.specs.Translations.{number_in, read_as}
use Rattle.cv_accept.specs.Numbers.{parse_told, told}
use Rattle.cv_accept.proofs.Telling.{told_error, told_parse}
use Rattle.cv_accept.specs.Accepted.{Content, block_of, content_of, file_of, group_fault, most_pool, of_block, of_given, of_groups, of_parsed, of_queries, of_scopes, of_script, of_tokens, of_types, query_fault, read_of, scope_fault, type_fault}

-- the order of the stages that refuse
abbrev pub rank : FileError → ℕ
rank (fault.Lex e) = 0
rank (fault.LibraryLex e) = 0
rank (fault.Library e) = 0
rank (fault.Expand e) = 0
rank (fault.Tokens count) = 0
rank (fault.Parse e) = 1
rank (fault.Script k) = 2
rank (fault.Types e) = 3
rank (fault.Scope e) = 4
rank (fault.Group k e) = 5
rank (fault.Query k) = 6
rank fault.OutOfMemory = 7
rank (fault.Room need) = 8

module _ (c : Content) (p : Parsed) where
  queries_rank : (o : Option ℕ) (x : FileError) → of_queries c o ≡ Err x → 6 ≤ rank x
  queries_rank None x e = absurd (cc)
  queries_rank (Some k) x e = let s : fault.Query k ≡ x = cc in subst (λ y. 6 ≤ rank y) s (omega arith)

  groups_rank : (o : Option (ℕ × GroupRule)) (x : FileError) → of_groups c p o ≡ Err x → 5 ≤ rank x
  groups_rank None x e = let r = queries_rank (query_fault p) x e in omega arith
  groups_rank (Some y) x e = let s : fault.Group y.0 (refused_by y.1) ≡ x = cc in subst (λ y. 5 ≤ rank y) s (omega arith)

  scopes_rank : (o : Option (ℕ × ScopeRules)) (x : FileError) → of_scopes c p o ≡ Err x → 4 ≤ rank x
  scopes_rank None x e = let r = groups_rank (group_fault p) x e in omega arith
  scopes_rank (Some y) x e = let s : fault.Scope (scope_refusal y.0 y.1) ≡ x = cc in subst (λ y. 4 ≤ rank y) s (omega arith)

  pub types_rank : (o : Option (ℕ × Fault)) (x : FileError) → of_types c p o ≡ Err x → 3 ≤ rank x
  types_rank None x e = let r = scopes_rank (scope_fault p) x e in omega arith
  types_rank (Some y) x e = let s : fault.Types (refusal y.0 y.1) ≡ x = cc in subst (λ y. 3 ≤ rank y) s (omega arith)

  -- what a refusal by a later stage passed

  pub past_types : (o : Option (ℕ × Fault)) (x : FileError) → 4 ≤ rank x → of_types c p o ≡ Err x → (o ≡ None) × (of_scopes c p (scope_fault p) ≡ Err x)
  past_types None x r e = (refl, e)
  past_types (Some y) x r e = absurd (let s : fault.Types (refusal y.0 y.1) ≡ x = cc in let i = subst (λ y. rank y ≤ 3) s (omega arith) in omega arith)

  pub past_scopes : (o : Option (ℕ × ScopeRules)) (x : FileError) → 5 ≤ rank x → of_scopes c p o ≡ Err x → (o ≡ None) × (of_groups c p (group_fault p) ≡ Err x)
  past_scopes None x r e = (refl, e)
  past_scopes (Some y) x r e = absurd (let s : fault.Scope (scope_refusal y.0 y.1) ≡ x = cc in let i = subst (λ y. rank y ≤ 4) s (omega arith) in omega arith)

  pub past_groups : (o : Option (ℕ × GroupRule)) (x : FileError) → 6 ≤ rank x → of_groups c p o ≡ Err x → (o ≡ None) × (of_queries c (query_fault p) ≡ Err x)
  past_groups None x r e = (refl, e)
  past_groups (Some y) x r e = absurd (let s : fault.Group y.0 (refused_by y.1) ≡ x = cc in let i = subst (λ y. rank y ≤ 5) s (omega arith) in omega arith)

  pub by_types : (o : Option (ℕ × Fault)) (x : TypeFault) → of_types c p o ≡ Err (fault.Types x) → (q : ℕ) × (f : Fault) × (o ≡ Some (q, f)) × (refusal q f ≡ x)
  by_types None x e = absurd (let r = scopes_rank (scope_fault p) (fault.Types x) e in omega arith)
  by_types (Some (q, f)) x e = (q, f, refl, cc)

  pub by_scopes : (o : Option (ℕ × ScopeRules)) (x : ScopeFault) → of_scopes c p o ≡ Err (fault.Scope x) → (q : ℕ) × (f : ScopeRules) × (o ≡ Some (q, f)) × (scope_refusal q f ≡ x)
  by_scopes None x e = absurd (let r = groups_rank (group_fault p) (fault.Scope x) e in omega arith)
  by_scopes (Some (q, f)) x e = (q, f, refl, cc)

  pub by_groups : (o : Option (ℕ × GroupRule)) (k : ℕ) (x : GroupFault) → of_groups c p o ≡ Err (fault.Group k x) → (rule : GroupRule) × (o ≡ Some (k, rule)) × (refused_by rule ≡ x)
  by_groups None k x e = absurd (let r = queries_rank (query_fault p) (fault.Group k x) e in omega arith)
  by_groups (Some (j, rule)) k x e = let s : j ≡ k = cc in (rule, ap (λ n. let o : Option (ℕ × GroupRule) = Some (n, rule) in o) s, cc)

  pub by_queries : (o : Option ℕ) (k : ℕ) → of_queries c o ≡ Err (fault.Query k) → o ≡ Some k
  by_queries None k e = absurd (cc)
  by_queries (Some j) k e = let s : j ≡ k = cc in ap (λ n. let o : Option ℕ = Some n in o) s

block_rank : (e : ScriptError) → 2 ≤ rank (of_block e)
block_rank (script.Script k) = omega arith
block_rank (script.Build b) = omega arith

script_rank : (ts : List Token) (p : Parsed) (r : Result (Option Tree) ScriptError) (x : FileError) → of_script ts p r ≡ Err x → 2 ≤ rank x
script_rank ts p (Ok b) x e = let r = types_rank (content_of ts p b) p (type_fault p) x e in omega arith
script_rank ts p (Err y) x e = let s : of_block y ≡ x = cc in subst (λ z. 2 ≤ rank z) s (block_rank y)

-- the fault of a block is neither of types, of scope nor of queries
block_only : (y : ScriptError) (x : FileError) → 3 ≤ rank x → rank x ≤ 6 → of_block y ≡ x → ⊥
block_only (script.Script k) x l m e = let i = subst (λ y. rank y ≤ 2) e (omega arith) in omega arith
block_only (script.Build b) x l m e = let i = subst (λ y. 7 ≤ rank y) e (omega arith) in omega arith

pub past_script : (ts : List Token) (p : Parsed) (r : Result (Option Tree) ScriptError) (x : FileError) → 3 ≤ rank x → rank x ≤ 6 → of_script ts p r ≡ Err x → (block : Option Tree) × (r ≡ Ok block) × (of_types (content_of ts p block) p (type_fault p) ≡ Err x)
past_script ts p (Ok b) x l m e = (b, refl, e)
past_script ts p (Err y) x l m e = absurd (block_only y x l m (cc))

pub by_script : (y : ScriptError) (k : ℕ) → of_block y ≡ fault.Script k → y ≡ script.Script k
by_script (script.Script j) k e = cc
by_script (script.Build b) k e = absurd (cc)

by_parsed : (ts : List Token) (r : Result Parsed ParseError) (x : ParseError) → of_parsed ts r ≡ Err (fault.Parse x) → r ≡ Err x
by_parsed ts (Ok p) x e = absurd (let r = script_rank ts p (block_of ts p) (fault.Parse x) e in omega arith)
by_parsed ts (Err y) x e = let s : y ≡ x = cc in ap (λ z. let r : Result Parsed ParseError = Err z in r) s

parsed_rank : (ts : List Token) (r : Result Parsed ParseError) (x : FileError) → of_parsed ts r ≡ Err x → 1 ≤ rank x
parsed_rank ts (Ok p) x e = let r = script_rank ts p (block_of ts p) x e in omega arith
parsed_rank ts (Err y) x e = let s : fault.Parse y ≡ x = cc in subst (λ z. 1 ≤ rank z) s (omega arith)

-- a refusal for want of tokens is none by the grammar or behind it
pub given_only : (y : GivenError) (x : FileError) → 1 ≤ rank x → rank x ≤ 6 → of_given y ≡ x → ⊥
given_only (given.Lex z) x l m e = let i = subst (λ w. rank w ≤ 0) e (omega arith) in omega arith
given_only (given.LibraryLex z) x l m e = let i = subst (λ w. rank w ≤ 0) e (omega arith) in omega arith
given_only (given.Library z) x l m e = let i = subst (λ w. rank w ≤ 0) e (omega arith) in omega arith
given_only (given.Expand z) x l m e = let i = subst (λ w. rank w ≤ 0) e (omega arith) in omega arith
given_only (given.Tokens n) x l m e = let i = subst (λ w. rank w ≤ 0) e (omega arith) in omega arith
given_only given.OutOfMemory x l m e = let i = subst (λ w. 7 ≤ rank w) e (omega arith) in omega arith

same_given : (y x : GivenError) → of_given y ≡ of_given x → y ≡ x
same_given (given.Lex z) (given.Lex w) e = let s : z ≡ w = cc in ap given.Lex s
same_given (given.LibraryLex z) (given.LibraryLex w) e = let s : z ≡ w = cc in ap given.LibraryLex s
same_given (given.Library z) (given.Library w) e = let s : z ≡ w = cc in ap given.Library s
same_given (given.Expand z) (given.Expand w) e = let s : z ≡ w = cc in ap given.Expand s
same_given (given.Tokens n) (given.Tokens m) e = let s : n ≡ m = cc in ap given.Tokens s
same_given given.OutOfMemory given.OutOfMemory e = refl
same_given y x e = absurd (cc)

-- where the file has no tokens there are none

expansion_lexed : (r : Result (List Token) ExpandError) (x : LexError) → of_expanded r ≡ Err (given.Lex x) → ⊥
expansion_lexed (Ok ts) x e = cc
expansion_lexed (Err (expand.Unknown k)) x e = cc
expansion_lexed (Err (expand.Count k)) x e = cc
expansion_lexed (Err (expand.Tokens n)) x e = cc
expansion_lexed (Err expand.OutOfMemory) x e = cc

library_lexed : (ts : List Token) (r : Result (List Definition) LibraryError) (x : LexError) → of_library ts r ≡ Err (given.Lex x) → ⊥
library_lexed ts (Ok ds) x e = expansion_lexed (expanded ds ts) x e
library_lexed ts (Err y) x e = cc

library_tokens_lexed : (ts : List Token) (r : Result (List Token) LexError) (x : LexError) → of_library_tokens ts r ≡ Err (given.Lex x) → ⊥
library_tokens_lexed ts (Ok us) x e = library_lexed ts (library_of us) x e
library_tokens_lexed ts (Err y) x e = cc

file_lexed : (ts : List Token) (library : Option (List ℕ)) (x : LexError) → with_library ts library ≡ Err (given.Lex x) → ⊥
file_lexed ts None x e = cc
file_lexed ts (Some more) x e = library_tokens_lexed ts (tokens_of more) x e

by_file : (library : Option (List ℕ)) (r : Result (List Token) LexError) (x : LexError) → of_file_tokens library r ≡ Err (given.Lex x) → r ≡ Err x
by_file library (Ok ts) x e = absurd (file_lexed ts library x e)
by_file library (Err y) x e = let s : y ≡ x = cc in ap (λ z. let r : Result (List Token) LexError = Err z in r) s

-- numbers of tokens

-- a told fault is of the same stage
told_rank : (number : ℕ → ℕ) (e : FileError) → rank (told number e) ≡ rank e
told_rank number (fault.Lex e) = refl
told_rank number (fault.LibraryLex e) = refl
told_rank number (fault.Library e) = refl
told_rank number (fault.Expand e) = refl
told_rank number (fault.Tokens count) = refl
told_rank number (fault.Parse e) = refl
told_rank number (fault.Script k) = refl
told_rank number (fault.Types e) = refl
told_rank number (fault.Scope e) = refl
told_rank number (fault.Group k e) = refl
told_rank number (fault.Query k) = refl
told_rank number fault.OutOfMemory = refl
told_rank number (fault.Room need) = refl

-- faults behind that of a script tell no token
pub told_same : (number : ℕ → ℕ) (y x : FileError) → 3 ≤ rank x → told number y ≡ x → y ≡ x
told_same number (fault.Lex e) x l h = h
told_same number (fault.LibraryLex e) x l h = h
told_same number (fault.Library e) x l h = h
told_same number (fault.Expand e) x l h = h
told_same number (fault.Tokens count) x l h = h
told_same number (fault.Parse e) x l h = absurd (let m : 1 ≡ rank x = ap rank h in omega arith)
told_same number (fault.Script k) x l h = absurd (let m : 2 ≡ rank x = ap rank h in omega arith)
told_same number (fault.Types e) x l h = h
told_same number (fault.Scope e) x l h = h
told_same number (fault.Group k e) x l h = h
told_same number (fault.Query k) x l h = h
told_same number fault.OutOfMemory x l h = h
told_same number (fault.Room need) x l h = h

-- a refusal of the grammar is one of the tokens that are read

pub record IsParsed (limit : ℕ) (r : Result (List Token) GivenError) (x : ParseError) : Type 0 where
  pub tokens : List Token
  pub given : r ≡ Ok tokens
  pub refusal : ParseError
  pub parses : parsed limit (signs_of (read_as tokens)).signs ≡ Err refusal
  pub told : parse_told (number_in tokens) refusal ≡ x

pub by_tokens : (limit : ℕ) (r : Result (List Token) GivenError) (x : ParseError) → of_tokens limit r ≡ Err (fault.Parse x) → IsParsed limit r x
unfolding file_of
by_tokens limit (Ok ts) x e =
    let t = told_error (number_in ts) (file_of limit (read_as ts)) (fault.Parse x) e in
    let p = told_parse (number_in ts) t.0 x t.2 in
    record {
      tokens = ts;
      given = refl;
      refusal = p.0;
      parses = by_parsed (read_as ts) (parsed limit (signs_of (read_as ts)).signs) p.0 (t.1 ∙ ap Err p.1);
      told = p.2;
    }
by_tokens limit (Err y) x e = absurd (given_only y (fault.Parse x) (omega arith) (omega arith) (cc))

file_rank : (limit : ℕ) (ts : List Token) (x : FileError) → file_of limit ts ≡ Err x → 1 ≤ rank x
unfolding file_of
file_rank limit ts x e = parsed_rank ts (parsed limit (signs_of ts).signs) x e

-- why there are no tokens, where a refusal says so
by_given : (limit : ℕ) (r : Result (List Token) GivenError) (x : GivenError) → rank (of_given x) ≤ 0 → of_tokens limit r ≡ Err (of_given x) → r ≡ Err x
by_given limit (Ok ts) x l e =
    absurd (
    let t = told_error (number_in ts) (file_of limit (read_as ts)) (of_given x) e in
    let m = file_rank limit (read_as ts) t.0 t.1 in
    let n = told_rank (number_in ts) t.0 in
    let o = ap rank t.2 in
    omega arith
    )
by_given limit (Err y) x l e = ap (λ z. let r : Result (List Token) GivenError = Err z in r) (same_given y x (cc))

pub lexis_of : (source : Given) (x : LexError) → read_of most_pool source ≡ Err (fault.Lex x) → tokens_of source.bytes ≡ Err x
unfolding read_of
lexis_of source x e = by_file source.library (tokens_of source.bytes) x (by_given most_pool (tokens_given source) (given.Lex x) (omega arith) e)

pub not_given : (source : Given) (x : GivenError) → rank (of_given x) ≤ 0 → read_of most_pool source ≡ Err (of_given x) → tokens_given source ≡ Err x
unfolding read_of
not_given source x l e = by_given most_pool (tokens_given source) x l e
