-- What the tokens of a file say, or why they are no file.
use Rattle.std.specs.Prelude.{◌≡◌, ℕ, ◌+◌, ◌-◌, true, false, nat_lt, if◌then◌else◌, List, ◌∷◌, length, Option, Some, None, Result, Ok, Err}
use Rattle.cv_syntax_trees.specs.declared.class.Class.TheVariants.{TypeName}
use Rattle.cv_pool.specs.KindTree.{KindTree}
use Rattle.cv_syntax.specs.declared.decls.Decl.{Decl}
use Rattle.cv_syntax.specs.declared.work.BuildError.TheVariants.{Depth, Full, Nodes, OutOfMemory}
use Rattle.cv_syntax.specs.declared.work.File.{File}
use Rattle.cv_syntax.specs.declared.work.Work.{Work}
use Rattle.cv_syntax_trees.specs.Declarations.{Declaration, Named}
use Rattle.cv_syntax.specs.Declarations.{declarations}
use Rattle.cv_syntax_trees.specs.Tree.{Tree, Empty, size, depth}
use Rattle.cv_syntax.specs.PoolTrees.{tree_at}
use Rattle.cv_syntax.specs.limits.Limits.{most_depth, most_nodes}
use Rattle.cv_parse_notation.specs.declared.sign.Sign.{Sign}
use Rattle.cv_parse_notation.specs.Reads.{Fault}
use Rattle.cv_parse_notation.specs.Reads as fault
use Rattle.cv_parse_grammar.specs.Names.{NameFault}
use Rattle.cv_parse_grammar.specs.Names as names
use Rattle.cv_parse_grammar.specs.Whole.{Content, Misnamed, Refusal, Unread, outcome}
use Rattle.cv_parse.specs.declared.error.ParseError.{ParseError}
use Rattle.cv_parse.specs.declared.error.ParseError.TheVariants.{Syntax, Nesting, NameTwice, NameUnknown, Build}
use Rattle.cv_parse.specs.Weights.{asked, capped, declared_weight, tree_weight}

-- what a file says: its declarations, `bool` before them; the tokens of its proof block, from the first to the
-- last brace; and its game
pub record Parsed : Type 0 where
  pub declarations : List Declaration
  pub script : Option (ℕ × ℕ)
  pub game : Tree

-- the type `bool`, which each file has: it is fixed and not large
abbrev pub bool_type : Declaration
bool_type = Named 0 (TypeName true false) Empty None

abbrev pub sized : Tree → Result (Unit {0}) ParseError
sized game =
    if nat_lt most_nodes (size game) then Err (Build (Nodes (capped (size game))))
    else if nat_lt most_depth (depth game) then Err (Build (Depth (capped (depth game))))
    else Ok tt

-- four times the weight of the trees is room enough; a pool with a lower limit is too small
abbrev pub weight_of : Parsed → ℕ
weight_of p = declared_weight p.declarations + tree_weight p.game

abbrev pub roomed : (limit : ℕ) → Parsed → Result Parsed ParseError
roomed limit p = if nat_lt limit (asked (weight_of p)) then Err (Build (Full (asked (weight_of p)))) else Ok p

abbrev pub sized_first : (limit : ℕ) → Parsed → Result (Unit {0}) ParseError → Result Parsed ParseError
sized_first limit p (Ok u) = roomed limit p
sized_first limit p (Err e) = Err e

abbrev pub limited : (limit : ℕ) → Parsed → Result Parsed ParseError
limited limit p = sized_first limit p (sized p.game)

-- the token at which so many of n are left
abbrev pub of_fault : (n : ℕ) → Fault → ParseError
of_fault n (fault.Syntax left) = Syntax (n - left)
of_fault n (fault.Nesting left) = Nesting (n - left)

abbrev pub of_name : (n : ℕ) → NameFault → ParseError
of_name n (names.NameTwice left) = NameTwice (n - left)
of_name n (names.NameUnknown left) = NameUnknown (n - left)

abbrev pub range_of : (n : ℕ) → Option (ℕ × ℕ) → Option (ℕ × ℕ)
range_of n None = None
range_of n (Some s) = Some (n - s.0, n - s.1)

abbrev pub said : (n : ℕ) → Content → Parsed
said n (ds, (s, g)) = record { declarations = bool_type ∷ ds; script = range_of n s; game = g }

abbrev pub of_outcome : (limit n : ℕ) → Result Content Refusal → Result Parsed ParseError
of_outcome limit n (Ok c) = limited limit (said n c)
of_outcome limit n (Err (Unread f)) = Err (of_fault n f)
of_outcome limit n (Err (Misnamed f)) = Err (of_name n f)

-- The grammar first, then the rules of names, then the limits.
unfoldable pub parsed : (limit : ℕ) → List Sign → Result Parsed ParseError
parsed limit signs = of_outcome limit (length signs) (outcome signs)

-- what a pool and declarations hold of a file
abbrev pub held_in : List KindTree → List Decl → File → Parsed
held_in trees list f = record { declarations = declarations trees list; script = f.script; game = tree_at trees (Some f.game.root) }

-- memory may run out anywhere; every other error is the one that is meant
abbrev pub Refuses : {A : Type 0} → ParseError → Result A ParseError → Type 0
Refuses (Build OutOfMemory) r = Unit {0}
Refuses e r = r ≡ Err e

abbrev pub ParsesIn : (limit : ℕ) → List Sign → List KindTree → List Decl → Result File ParseError → Type 0
ParsesIn limit signs trees list (Ok f) = parsed limit signs ≡ Ok (held_in trees list f)
ParsesIn limit signs trees list (Err e) = Refuses e (parsed limit signs)

abbrev pub Parses : (limit : ℕ) → List Sign → Work → Result File ParseError → Type 0
Parses limit signs w r = ParsesIn limit signs w.pool.trees w.decls.list r
