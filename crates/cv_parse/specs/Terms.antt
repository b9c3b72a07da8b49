-- What the tokens from one on say as a term of a step, or why they begin with no term. This profile's own.
use Rattle.std.specs.Prelude.{◌≡◌, ℕ, suc, ◌+◌, ◌-◌, max, nat_lt, Bool, ◌||◌, if◌then◌else◌, List, [], ◌∷◌, drop, take, length, Some, Result, Ok, Err}
use Rattle.cv_lex.specs.Lexis.{Token}
use Rattle.cv_pool.specs.declared.node.NodeId.{NodeId}
use Rattle.cv_pool.specs.KindTree.{KindTree}
use Rattle.cv_syntax.specs.declared.work.BuildError.TheVariants.{Full}
use Rattle.cv_syntax_trees.specs.Tree.{Tree}
use Rattle.cv_syntax.specs.PoolTrees.{tree_at}
use Rattle.cv_parse_tables.specs.terminals.Signs.{Signed, no_counts, signs_from}
use Rattle.cv_parse_notation.specs.declared.sign.Mark.TheVariants as mark
use Rattle.cv_parse_notation.specs.declared.sign.Sign.{Sign}
use Rattle.cv_parse_notation.specs.declared.sign.Sign.TheVariants as sign
use Rattle.cv_parse_notation.specs.Reads.{Found, Read, Syntax, ◌>>=◌}
use Rattle.cv_parse_notation.specs.Spells.{Kind, is_mark, next_is}
use Rattle.cv_parse_notation.specs.Whole.{reads_with}
use Rattle.cv_parse_grammar.specs.declared.role.Role.{Role}
use Rattle.cv_parse_grammar.specs.Files.{levels}
use Rattle.cv_parse_grammar.specs.Rules.{heads, rule}
use Rattle.cv_parse_grammar.specs.Terms.{term}
use Rattle.cv_parse.specs.declared.error.ParseError.{ParseError}
use Rattle.cv_parse.specs.declared.error.ParseError.TheVariants.{Build}
use Rattle.cv_parse.specs.Parsed.{Refuses, of_fault}
use Rattle.cv_parse.specs.Games.{nodes_of}

-- a token that doesn't stand behind a term
abbrev pub goes_on : Kind → Bool
goes_on k = is_mark mark.Prime k || (is_mark mark.Open k || (is_mark mark.OpenSquare k || (is_mark mark.Equal k || (is_mark mark.Differ k || (is_mark mark.Both k || is_mark mark.Either k)))))

abbrev pub stops : Found Role Tree → Read Role Tree
stops x = if next_is goes_on x.rest then Err (Syntax (length x.rest)) else Ok x

-- a term, and what stands behind it
abbrev pub read_term : List Sign → Read Role Tree
read_term signs = reads_with heads rule term levels signs >>= stops

-- the term and the number of the token behind it, where a pool with so many nodes and this limit has room
abbrev pub roomed_term : (limit live : ℕ) → Tree → (next : ℕ) → Result (Tree × ℕ) ParseError
roomed_term limit live t next = if nat_lt limit (live + nodes_of t) then Err (Build (Full (nodes_of t))) else Ok (t, next)

abbrev pub of_term : (limit live count : ℕ) → Read Role Tree → Result (Tree × ℕ) ParseError
of_term limit live count (Ok x) = roomed_term limit live x.value (count - length x.rest)
of_term limit live count (Err f) = Err (of_fault count f)

-- The grammar first, then the room. No name is refused.
unfoldable pub term_of : (limit live from : ℕ) → List Sign → Result (Tree × ℕ) ParseError
term_of limit live from signs = of_term limit live (from + length signs) (read_term signs)

abbrev pub signed_from : List (List ℕ) → List Token → (from : ℕ) → Signed
signed_from names tokens from = signs_from names no_counts (drop from tokens)

abbrev pub term_read : (limit live : ℕ) → List (List ℕ) → List Token → (from : ℕ) → Result (Tree × ℕ) ParseError
term_read limit live names tokens from = term_of limit live from (signed_from names tokens from).signs

-- how many names there are at least, by the number in a sign
abbrev pub names_by : Sign → ℕ
names_by (sign.Word x w) = suc x
names_by (sign.Unnamed x) = suc x
names_by (sign.Number v) = 0
names_by (sign.Find k) = 0
names_by (sign.Mark m) = 0

-- the same by numbers in signs, where so many are there before
abbrev pub names_within : ℕ → List Sign → ℕ
names_within known [] = known
names_within known (s ∷ signs) = names_within (max known (names_by s)) signs

-- the names behind a term that ends before a token: those of the term are put behind those that are there, and no others
abbrev pub names_behind : List (List ℕ) → List Token → (from next : ℕ) → List (List ℕ)
names_behind names tokens from next =
    let signed = signed_from names tokens from in
    take (names_within (length names) (take (next - from) signed.signs)) signed.names

-- a term in a pool is the one that is read, or the refusal is the one that is meant; memory may run out anywhere
abbrev pub ReadsTerm : Result (Tree × ℕ) ParseError → List KindTree → Result (NodeId × ℕ) ParseError → Type 0
ReadsTerm read trees (Ok x) = read ≡ Ok (tree_at trees (Some x.0), x.1)
ReadsTerm read trees (Err e) = Refuses e read
