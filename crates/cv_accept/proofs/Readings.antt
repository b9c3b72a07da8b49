-- From what is given to what it holds, or what it is refused for.
use Rattle.std.proofs.Common.{◌≡◌, ℕ, ◌<◌, ◌+◌, ◌≤◌, List, length, refl, ap, subst, sym, ◌∙◌, arith, Option, Some, None, Result, Ok, Err}
use Rattle.std.specs.Prelude.{IfSome, IsErrAnd}
use Rattle.cv_lex.specs.Lexis.{Token}
use Rattle.cv_lex.specs.View.{AreTokens}
use Rattle.cv_library.specs.declared.error.GivenError.{GivenError}
use Rattle.cv_library.specs.declared.error.GivenError.TheVariants as fault
use Rattle.cv_library.specs.Givens.{AreNotGiven, Given, tokens_given}
use Rattle.cv_library.proofs.Givens.{computed, given as said}
use Rattle.cv_pool.specs.KindTree.{KindTree}
use Rattle.cv_syntax.specs.declared.work.BuildError.TheVariants as build
use Rattle.cv_syntax_trees.specs.Tree.{Tree}
use Rattle.cv_parse_tables.specs.terminals.Signs.{signs_of}
use Rattle.cv_parse_tables.proofs.terminals.Telling.{count_all}
use Rattle.cv_script.specs.declared.reader.error.ScriptError.{ScriptError}
use Rattle.cv_parse.specs.Nodes.{file_nodes}
use Rattle.cv_parse.specs.declared.error.ParseError.{ParseError}
use Rattle.cv_parse.specs.declared.error.ParseError.TheVariants as parse
use Rattle.cv_parse.specs.Parsed.{Parsed, parsed, range_of}
use Rattle.cv_parse.specs.Parsed as parsing
use Rattle.cv_parse.proofs.Exactness.{said_is_saying, says_is_said}
use Rattle.cv_scope_rules.specs.declared.typing.fault.Fault.{Fault}
use Rattle.cv_scope_rules.specs.declared.typing.fault.TypeFault.{TypeFault}
use Rattle.cv_scope_rules.specs.declared.typing.fault.TypeFault.TheVariants as type
use Rattle.cv_scope_rules.specs.typing.Parts.{file_parts}
use Rattle.cv_scope_rules.specs.typing.Refusals.{IsRefusalOf}
use Rattle.cv_scope_rules.proofs.typing.First.{none_where_parts_typed, parts_typed_where_none}
use Rattle.cv_scope_rules.specs.declared.fault.Fault.{Fault as ScopeRules}
use Rattle.cv_scope_rules.specs.declared.fault.ScopeFault.{ScopeFault}
use Rattle.cv_scope_rules.specs.declared.fault.ScopeFault.TheVariants as scope
use Rattle.cv_scope_rules.specs.Refusals.{IsRefusalOf as IsRefusal}
use Rattle.cv_scope_rules.specs.Scope.{first_scope_fault, names_of}
use Rattle.cv_scope_rules.specs.Standing.{at_root}
use Rattle.cv_scope_rules.proofs.First.{none_where_scoped, scoped_where_none}
use Rattle.cv_group.specs.declared.fault.GroupFault.{GroupFault}
use Rattle.cv_group.specs.declared.fault.GroupFault.TheVariants as group
use Rattle.cv_group.specs.Refusals.{IsRefusalAt}
use Rattle.cv_group_rules.specs.Symbols.{symbols_of}
use Rattle.cv_group_rules.specs.Faults.{GroupRule, equivalences_in}
use Rattle.cv_group_rules.proofs.Deciding.{accepted_more as all-accepted, none_where_all as none-refused}
use Rattle.cv_query_form.specs.declared.fault.QueryFault.{QueryFault}
use Rattle.cv_query_form.specs.declared.fault.QueryFault.TheVariants as query
use Rattle.cv_meaning.specs.Queries.{queries_in}
use Rattle.cv_query_form.specs.Refusals.{IsRefusalOf as IsQueryRefusal}
use Rattle.cv_query_form.proofs.First.{asked_where_none, none_where_asked}
use Rattle.cv_parse_laws.proofs.Games.{well_formed}
use Rattle.cv_accept.specs.declared.error.FileError.{FileError}
use Rattle.cv_accept.specs.declared.error.FileError.TheVariants.{Lex, LibraryLex, Library, Expand, Tokens, Parse, Script, Types, Scope, Group, Query, Room, OutOfMemory}
use Rattle.cv_oracles.specs.Translations.{number_in, read_as}
use Rattle.cv_accept.specs.Accepted.{AreRead, Content, IsFile, IsFull, Refuses, RefusesTokens, block_of, content_of, file_of, group_fault, of_block, of_groups, of_given, of_parsed, of_queries, of_scopes, of_script, of_tokens, of_types, query_fault, read_by, read_of, scope_fault, type_fault}
use Rattle.cv_accept.specs.Numbers.{told, told_by}
use Rattle.cv_accept.specs.Faults.{IsBlock, of_parse, of_group, of_query, of_scope, of_type}
use Rattle.cv_accept.specs.Places.{nodes_before}
use Rattle.cv_accept.proofs.Places.{behind_none, none_behind}
use Rattle.cv_syntax.specs.declared.work.Work.{Work}
use Rattle.cv_accept.specs.declared.file.Accepted.{Accepted}
use Rattle.cv_accept.specs.Works.{IsAccepted, Reads, ReadsTokens, content_at}

-- no tokens
pub lexis_refuses : (limit : ℕ) (g : Given) (e : GivenError) → AreNotGiven e g → Refuses limit g (of_given e)
unfolding read_of
lexis_refuses limit g fault.OutOfMemory f = tt
lexis_refuses limit g (fault.Lex k) f = ap (of_tokens limit) f
lexis_refuses limit g (fault.LibraryLex k) f = ap (of_tokens limit) f
lexis_refuses limit g (fault.Library k) f = ap (of_tokens limit) f
lexis_refuses limit g (fault.Expand k) f = ap (of_tokens limit) f
lexis_refuses limit g (fault.Tokens n) f = ap (of_tokens limit) f

-- what tokens say
by_tokens : (limit : ℕ) (ts : List Token) → file_of limit ts ≡ of_parsed ts (parsed limit (signs_of ts).signs)
unfolding file_of
by_tokens limit ts = refl

-- no file
pub grammar_refuses : (limit : ℕ) (ts : List Token) (e : ParseError) → parsing.Refuses e (parsed limit (signs_of ts).signs) → RefusesTokens limit ts (of_parse e)
grammar_refuses limit ts (parse.Syntax k) h = by_tokens limit ts ∙ ap (of_parsed ts) h
grammar_refuses limit ts (parse.Nesting k) h = by_tokens limit ts ∙ ap (of_parsed ts) h
grammar_refuses limit ts (parse.NameTwice k) h = by_tokens limit ts ∙ ap (of_parsed ts) h
grammar_refuses limit ts (parse.NameUnknown k) h = by_tokens limit ts ∙ ap (of_parsed ts) h
grammar_refuses limit ts (parse.Build (build.Full n)) h = by_tokens limit ts ∙ ap (of_parsed ts) h
grammar_refuses limit ts (parse.Build (build.Nodes n)) h = by_tokens limit ts ∙ ap (of_parsed ts) h
grammar_refuses limit ts (parse.Build (build.Depth n)) h = by_tokens limit ts ∙ ap (of_parsed ts) h
grammar_refuses limit ts (parse.Build build.OutOfMemory) h = tt

-- the last brace of a proof block has a token
pub block_within : (limit : ℕ) (ts : List Token) (p : Parsed) → AreTokens ts → parsed limit (signs_of ts).signs ≡ Ok p → IfSome p.script (λ (b : ℕ × ℕ). b.1 < length ts)
block_within limit ts p are e =
    let w = said_is_saying limit (signs_of ts).signs p e in
    subst (λ (s : Option (ℕ × ℕ)). IfSome s (λ (b : ℕ × ℕ). b.1 < length ts)) (sym w.range) (below w.script)
  where
    below : (s : Option (ℕ × ℕ)) → IfSome (range_of (length (signs_of ts).signs) s) (λ (b : ℕ × ℕ). b.1 < length ts)
    below None = tt
    below (Some block) = let c = count_all ts are in omega arith

-- a proof block

by_parsing : (limit : ℕ) (ts : List Token) (p : Parsed) → parsed limit (signs_of ts).signs ≡ Ok p → file_of limit ts ≡ of_script ts p (block_of ts p)
by_parsing limit ts p h = by_tokens limit ts ∙ ap (of_parsed ts) h

module _ (limit live : ℕ) (ts : List Token) (p : Parsed) (h : parsed limit (signs_of ts).signs ≡ Ok p) where
  by_error : (x : ScriptError) → block_of ts p ≡ Err x → file_of limit ts ≡ Err (of_block x)
  by_error x e = by_parsing limit ts p h ∙ ap (of_script ts p) e

  pub block_refuses : (trees : List KindTree) (e : FileError) → live ≤ file_nodes p.declarations p.game → IsBlock limit live (block_of ts p) trees (Err e) → RefusesTokens limit ts e
  block_refuses trees OutOfMemory l w = tt
  block_refuses trees (Room need) l w = record {
    said = p;
    says = said_is_saying limit (signs_of ts).signs p h;
    script = w.0;
    block = w.1;
    asked = w.2;
    over = (let m : limit < live + need = w.3 in omega arith);
  }
  block_refuses trees (LibraryLex x) l w = by_error w.0 w.1 ∙ ap (λ y. Err y) (sym w.2)
  block_refuses trees (Library x) l w = by_error w.0 w.1 ∙ ap (λ y. Err y) (sym w.2)
  block_refuses trees (Expand x) l w = by_error w.0 w.1 ∙ ap (λ y. Err y) (sym w.2)
  block_refuses trees (Tokens x) l w = by_error w.0 w.1 ∙ ap (λ y. Err y) (sym w.2)
  block_refuses trees (Lex x) l w = by_error w.0 w.1 ∙ ap (λ y. Err y) (sym w.2)
  block_refuses trees (Parse x) l w = by_error w.0 w.1 ∙ ap (λ y. Err y) (sym w.2)
  block_refuses trees (Script x) l w = by_error w.0 w.1 ∙ ap (λ y. Err y) (sym w.2)
  block_refuses trees (Types x) l w = by_error w.0 w.1 ∙ ap (λ y. Err y) (sym w.2)
  block_refuses trees (Scope x) l w = by_error w.0 w.1 ∙ ap (λ y. Err y) (sym w.2)
  block_refuses trees (Group k x) l w = by_error w.0 w.1 ∙ ap (λ y. Err y) (sym w.2)
  block_refuses trees (Query x) l w = by_error w.0 w.1 ∙ ap (λ y. Err y) (sym w.2)

  -- a block that is read
  pub by_block : (block : Option Tree) → block_of ts p ≡ Ok block → file_of limit ts ≡ of_types (content_of ts p block) p (type_fault p)
  by_block block b = by_parsing limit ts p h ∙ ap (of_script ts p) b

-- what is left of a file whose block is read, with what it holds
module _ (limit : ℕ) (ts : List Token) (f : Content) (p : Parsed) where
  pub types_refuse : (e : TypeFault) → file_of limit ts ≡ of_types f p (type_fault p) → IsRefusalOf (type_fault p) e → RefusesTokens limit ts (of_type e)
  types_refuse (type.WrongType n) b r = b ∙ ap (of_types f p) r
  types_refuse (type.Arity n) b r = b ∙ ap (of_types f p) r
  types_refuse (type.IndexAsMessage n) b r = b ∙ ap (of_types f p) r
  types_refuse (type.NotFixed n) b r = b ∙ ap (of_types f p) r
  types_refuse type.OutOfMemory b r = tt

  pub by_types : file_of limit ts ≡ of_types f p (type_fault p) → type_fault p ≡ None → file_of limit ts ≡ of_scopes f p (scope_fault p)
  by_types b n = b ∙ ap (of_types f p) n

  pub scope_refuses : (e : ScopeFault) → file_of limit ts ≡ of_scopes f p (scope_fault p) → IsRefusal (scope_fault p) e → RefusesTokens limit ts (of_scope e)
  scope_refuses (scope.Unscoped n) h r = h ∙ ap (of_scopes f p) r
  scope_refuses (scope.TwoSites n) h r = h ∙ ap (of_scopes f p) r
  scope_refuses (scope.Channel n) h r = h ∙ ap (of_scopes f p) r
  scope_refuses (scope.Replications n) h r = h ∙ ap (of_scopes f p) r
  scope_refuses scope.OutOfMemory h r = tt

  pub by_scope : file_of limit ts ≡ of_scopes f p (scope_fault p) → scope_fault p ≡ None → file_of limit ts ≡ of_groups f p (group_fault p)
  by_scope h n = h ∙ ap (of_scopes f p) n

  pub group_refuses : (k : ℕ) (e : GroupFault) → file_of limit ts ≡ of_groups f p (group_fault p) → IsRefusalAt (group_fault p) k e → RefusesTokens limit ts (of_group k e)
  group_refuses k group.LeftNotTerm h r = h ∙ ap (of_groups f p) r
  group_refuses k group.TwoIndices h r = h ∙ ap (of_groups f p) r
  group_refuses k group.ShapeDiffers h r = h ∙ ap (of_groups f p) r
  group_refuses k group.FreeName h r = h ∙ ap (of_groups f p) r
  group_refuses k group.Unread h r = h ∙ ap (of_groups f p) r
  group_refuses k group.OutOfMemory h r = tt

  pub by_groups : file_of limit ts ≡ of_groups f p (group_fault p) → group_fault p ≡ None → file_of limit ts ≡ of_queries f (query_fault p)
  by_groups h n = h ∙ ap (of_groups f p) n

  pub query_refuses : (e : QueryFault) → file_of limit ts ≡ of_queries f (query_fault p) → IsQueryRefusal (query_fault p) e → RefusesTokens limit ts (of_query e)
  query_refuses (query.Query k) h r = h ∙ ap (of_queries f) r
  query_refuses query.OutOfMemory h r = tt

  pub all_reads : (w : Work) (a : Accepted) → file_of limit ts ≡ of_queries f (query_fault p) → query_fault p ≡ None → f ≡ content_at w a.file.game.root a.script → ReadsTokens limit ts w (Ok a)
  all_reads w a h q n = h ∙ (ap (of_queries f) q ∙ ap Ok n)

-- an error that was passed on
pub reads_on : (limit : ℕ) (ts : List Token) (w : Work) (r : Result Accepted FileError) (e : FileError) → IsErrAnd r (λ x. x ≡ e) → RefusesTokens limit ts e → ReadsTokens limit ts w r
reads_on limit ts w (Ok f) e i h = absurd i
reads_on limit ts w (Err x) e i h = subst (RefusesTokens limit ts) (sym i) h

-- what is given

told_refuses : (limit : ℕ) (g : Given) (ts : List Token) → tokens_given g ≡ Ok ts → (e : FileError) → file_of limit (read_as ts) ≡ Err e → read_of limit g ≡ Err (told (number_in ts) e)
unfolding read_of
told_refuses limit g ts t e i = ap (of_tokens limit) t ∙ ap (told_by (number_in ts)) i

-- a refusal of the tokens that are read, with the number in what is given
pub refuses_given : (limit : ℕ) (g : Given) (ts : List Token) → tokens_given g ≡ Ok ts → (e : FileError) → RefusesTokens limit (read_as ts) e → Refuses limit g (told (number_in ts) e)
refuses_given limit g ts t OutOfMemory h = tt
refuses_given limit g ts t (Room need) h = record { tokens = read_as ts; lexed = ap read_by t; lacks = h }
refuses_given limit g ts t (Lex x) h = told_refuses limit g ts t (Lex x) h
refuses_given limit g ts t (LibraryLex x) h = told_refuses limit g ts t (LibraryLex x) h
refuses_given limit g ts t (Library x) h = told_refuses limit g ts t (Library x) h
refuses_given limit g ts t (Expand x) h = told_refuses limit g ts t (Expand x) h
refuses_given limit g ts t (Tokens x) h = told_refuses limit g ts t (Tokens x) h
refuses_given limit g ts t (Parse x) h = told_refuses limit g ts t (Parse x) h
refuses_given limit g ts t (Script x) h = told_refuses limit g ts t (Script x) h
refuses_given limit g ts t (Types x) h = told_refuses limit g ts t (Types x) h
refuses_given limit g ts t (Scope x) h = told_refuses limit g ts t (Scope x) h
refuses_given limit g ts t (Group k x) h = told_refuses limit g ts t (Group k x) h
refuses_given limit g ts t (Query x) h = told_refuses limit g ts t (Query x) h

-- what is read of them is read of what is given
pub reads_given : (limit : ℕ) (g : Given) (ts : List Token) → tokens_given g ≡ Ok ts → (w : Work) (a : Accepted) → ReadsTokens limit (read_as ts) w (Ok a) → Reads limit g w (Ok a)
unfolding read_of
reads_given limit g ts t w a h = ap (of_tokens limit) t ∙ ap (told_by (number_in ts)) h

-- an error for want of tokens
pub reads_none : (limit : ℕ) (g : Given) (w : Work) (r : Result Accepted FileError) (e : FileError) → IsErrAnd r (λ x. x ≡ e) → Refuses limit g e → Reads limit g w r
reads_none limit g w (Ok f) e i h = absurd i
reads_none limit g w (Err x) e i h = subst (Refuses limit g) (sym i) h

-- what is known of a file that is accepted

-- what an accepted file passed
record Passed (c : Content) (p : Parsed) (f : Content) : Type 0 where
  types : type_fault p ≡ None
  scope : scope_fault p ≡ None
  groups : group_fault p ≡ None
  queries : query_fault p ≡ None
  content : c ≡ f

module _ (c : Content) (p : Parsed) (f : Content) where
  from_queries : type_fault p ≡ None → scope_fault p ≡ None → group_fault p ≡ None → (o : Option ℕ) → query_fault p ≡ o → of_queries c o ≡ Ok f → Passed c p f
  from_queries t s q None i e = record { types = t; scope = s; groups = q; queries = i; content = cc }
  from_queries t s q (Some k) i e = absurd (cc)

  from_groups : type_fault p ≡ None → scope_fault p ≡ None → (o : Option (ℕ × GroupRule)) → group_fault p ≡ o → of_groups c p o ≡ Ok f → Passed c p f
  from_groups t s None i e = from_queries t s i (query_fault p) refl e
  from_groups t s (Some x) i e = absurd (cc)

  from_scopes : type_fault p ≡ None → (o : Option (ℕ × ScopeRules)) → scope_fault p ≡ o → of_scopes c p o ≡ Ok f → Passed c p f
  from_scopes t None i e = from_groups t i (group_fault p) refl e
  from_scopes t (Some x) i e = absurd (cc)

  from_types : (o : Option (ℕ × Fault)) → type_fault p ≡ o → of_types c p o ≡ Ok f → Passed c p f
  from_types None i e = from_scopes i (scope_fault p) refl e
  from_types (Some x) i e = absurd (cc)

from_script : (ts : List Token) (p : Parsed) (f : Content) (r : Result (Option Tree) ScriptError) → of_script ts p r ≡ Ok f → (block : Option Tree) × (r ≡ Ok block) × (of_types (content_of ts p block) p (type_fault p) ≡ Ok f)
from_script ts p f (Ok block) e = (block, refl, e)
from_script ts p f (Err x) e = absurd (cc)

from_parsed : (limit : ℕ) (g : Given) (ts : List Token) (f : Content) (r : Result Parsed ParseError) → AreRead g ts → parsed limit (signs_of ts).signs ≡ r → of_parsed ts r ≡ Ok f → IsFile limit g f
from_parsed limit g ts f (Ok p) l e i =
    let s = from_script ts p f (block_of ts p) i in
    let b = from_types (content_of ts p s.0) p f (type_fault p) refl s.2 in
    record {
      tokens = ts;
      said = p;
      lexed = l;
      says = said_is_saying limit (signs_of ts).signs p e;
      script = s.0;
      block = s.1;
      typed = parts_typed_where_none p.declarations 0 (file_parts p.declarations p.game) b.types;
      scoped = scoped_where_none (names_of p.declarations p.game) at_root p.game (behind_none (nodes_before p.declarations) (first_scope_fault p.declarations p.game) b.scope);
      groups = all-accepted (symbols_of p.declarations) (equivalences_in p.declarations) b.groups;
      asked = asked_where_none p.game (queries_in p.declarations) b.queries;
      content = sym b.content;
    }
from_parsed limit g ts f (Err x) l e i = absurd (cc)

from_told : (limit : ℕ) (number : ℕ → ℕ) (g : Given) (ts : List Token) (f : Content) → AreRead g ts → (r : Result Content FileError) → file_of limit ts ≡ r → told_by number r ≡ Ok f → IsFile limit g f
unfolding file_of
from_told limit number g ts f l (Ok c) e i = from_parsed limit g ts f (parsed limit (signs_of ts).signs) l refl (let same : c ≡ f = cc in e ∙ ap Ok same)
from_told limit number g ts f l (Err x) e i = absurd (cc)

from_tokens : (limit : ℕ) (g : Given) (f : Content) (r : Result (List Token) GivenError) → tokens_given g ≡ r → of_tokens limit r ≡ Ok f → IsFile limit g f
from_tokens limit g f (Ok ts) l i = from_told limit (number_in ts) g (read_as ts) f (record { source = ts; lexed = computed g ts l; stand = refl }) (file_of limit (read_as ts)) refl i
from_tokens limit g f (Err x) l i = absurd (cc)

pub read_is_file : (limit : ℕ) (g : Given) (f : Content) → read_of limit g ≡ Ok f → IsFile limit g f
unfolding read_of
read_is_file limit g f e = from_tokens limit g f (tokens_given g) refl e

-- tokens of a file
said_of : (limit : ℕ) (g : Given) (f : Content) (w : IsFile limit g f) → file_of limit w.tokens ≡ Ok f
unfolding file_of
said_of limit g f w =
    let c = content_of w.tokens w.said w.script in
    ap (of_parsed w.tokens) (says_is_said limit (signs_of w.tokens).signs w.said w.says)
    ∙ (ap (of_script w.tokens w.said) w.block
    ∙ (ap (of_types c w.said) (none_where_parts_typed w.said.declarations 0 (file_parts w.said.declarations w.said.game) w.typed)
    ∙ (ap (of_scopes c w.said) (none_behind (nodes_before w.said.declarations) (first_scope_fault w.said.declarations w.said.game) (none_where_scoped (names_of w.said.declarations w.said.game) at_root w.said.game w.scoped))
    ∙ (ap (of_groups c w.said) (none-refused (symbols_of w.said.declarations) (equivalences_in w.said.declarations) w.groups)
    ∙ (ap (of_queries c) (none_where_asked w.said.game (queries_in w.said.declarations) w.asked)
    ∙ ap Ok (sym w.content))))))

pub file_is_read : (limit : ℕ) (g : Given) (f : Content) → IsFile limit g f → read_of limit g ≡ Ok f
unfolding read_of
file_is_read limit g f w =
    ap (of_tokens limit) (said g w.lexed.source w.lexed.lexed)
    ∙ ap (told_by (number_in w.lexed.source)) (ap (file_of limit) (sym w.lexed.stand) ∙ said_of limit g f w)

-- what the tokens that are read say is what is read
told_ok : {A : Type 0} (number : ℕ → ℕ) (r : Result A FileError) (x : A) → told_by number r ≡ Ok x → r ≡ Ok x
told_ok number (Ok y) x e = cc
told_ok number (Err y) x e = absurd (cc)

read_by_tokens : (limit : ℕ) (r : Result (List Token) GivenError) (ts : List Token) (f : Content) → read_by r ≡ Ok ts → of_tokens limit r ≡ Ok f → file_of limit ts ≡ Ok f
read_by_tokens limit (Ok us) ts f e i = let same : read_as us ≡ ts = cc in ap (file_of limit) (sym same) ∙ told_ok (number_in us) (file_of limit (read_as us)) f i
read_by_tokens limit (Err x) ts f e i = absurd (cc)

-- a file for whose proof block a pool may have no room
pub full_content : (limit : ℕ) (g : Given) (need : ℕ) (f : Content) (w : IsFull limit g need) → read_of limit g ≡ Ok f → f ≡ content_of w.tokens w.lacks.said (Some w.lacks.script)
unfolding read_of
full_content limit g need f w e =
    let l = w.lacks in
    let b = by_parsing limit w.tokens l.said (says_is_said limit (signs_of w.tokens).signs l.said l.says) ∙ ap (of_script w.tokens l.said) l.block in
    sym (from_types (content_of w.tokens l.said (Some l.script)) l.said f (type_fault l.said) refl (sym b ∙ read_by_tokens limit (tokens_given g) w.tokens f w.lexed e)).content

pub accepted : (limit : ℕ) (g : Given) (f : Content) → read_of limit g ≡ Ok f → IsAccepted f
accepted limit g f e =
    let w = read_is_file limit g f e in
    subst IsAccepted (sym w.content) (record {
      small = w.says.small;
      shallow = w.says.shallow;
      typed = w.typed;
      well_formed = well_formed limit (signs_of w.tokens).signs w.said (says_is_said limit (signs_of w.tokens).signs w.said w.says) w.scoped;
      asked = w.asked;
    })
