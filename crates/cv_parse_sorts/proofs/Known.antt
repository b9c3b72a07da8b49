-- A file has the names for whose secrecy its queries ask.
use Rattle.std.proofs.Common.{◌≡◌, ℕ, true, nat_lt, List, ◌∷◌, length, subst}
use Rattle.std.proofs.lemmas.Bool.{lt-ltb}
use Rattle.std.specs.List.{list_any}
use Rattle.cv_lex.specs.Lexis.{Token}
use Rattle.cv_syntax_trees.specs.Declarations.{Declaration}
use Rattle.cv_parse_tables.specs.terminals.Signs.{signs_of}
use Rattle.cv_parse.specs.Parsed.{Parsed, bool_type}
use Rattle.cv_parse.specs.Says.{Says}
use Rattle.cv_meaning.specs.Queries.{queries_in}
use Rattle.cv_scene.specs.Scenes.{KnowsQueries, asks_for}
use Rattle.cv_steps.specs.Sequences.{scene}
use Rattle.cv_parse_sorts.proofs.AskedQueries.{names_asked}
use Rattle.cv_parse_sorts.proofs.SmallNames.{signs_below, some_name}

-- `bool` is no query
declared_asked : (ds decls : List Declaration) → ds ≡ bool_type ∷ decls → (x : ℕ) → list_any (asks_for x) (queries_in ds) ≡ true → list_any (asks_for x) (queries_in decls) ≡ true
unfolding queries_in
declared_asked ds decls d x e = subst (λ l. list_any (asks_for x) (queries_in l) ≡ true) d e

pub queries_known : (limit : ℕ) (tokens : List Token) (said : Parsed) → Says limit (signs_of tokens).signs said → KnowsQueries (scene said.declarations (λ x. nat_lt x (length (signs_of tokens).names)) said.game)
queries_known limit tokens said s = λ x e.
    let n = length (signs_of tokens).names in
    lt-ltb x n (names_asked n (some_name tokens) (signs_of tokens).signs s.decls s.script said.game s.read (signs_below tokens) x (declared_asked said.declarations s.decls s.declared x e))
