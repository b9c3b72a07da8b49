-- What a work holds.
use Rattle.std.specs.Prelude.{◌≡◌, ℕ, ◌+◌, ◌<◌, ◌≤◌, All, List, length, Option, Some, None, option_map, Result, Ok, Err}
use Rattle.std.specs.declared.vec.Vec.{Vec}
use Rattle.std.specs.declared.alloc.Global.{Global}
use Rattle.cv_lex.specs.Lexis.{Token}
use Rattle.cv_library.specs.Givens.{Given}
use Rattle.cv_pool.specs.declared.node.NodeId.{NodeId}
use Rattle.cv_pool.specs.KindTree.{KindTree}
use Rattle.cv_syntax.specs.declared.decls.Decl.{Decl}
use Rattle.cv_syntax.specs.declared.work.Work.{Work}
use Rattle.cv_syntax.specs.Declarations.{declarations}
use Rattle.cv_syntax_trees.specs.Tree.{Tree, depth, size}
use Rattle.cv_syntax.specs.PoolTrees.{tree_at}
use Rattle.cv_parse.specs.Nodes.{file_nodes}
use Rattle.cv_syntax.specs.limits.Limits.{most_depth, most_nodes, nodes_of}
use Rattle.cv_script.specs.reader.Scripts.{trees_of}
use Rattle.cv_script.specs.reader.Trees.{script_nodes}
use Rattle.cv_script.specs.declared.steps.Step.{Step}
use Rattle.cv_scope_rules.specs.typing.Parts.{IsTypedFile}
use Rattle.cv_scope_rules.specs.Phrases.{IsWellFormed}
use Rattle.cv_meaning.specs.Queries.{queries_in}
use Rattle.cv_query_form.specs.Rules.{AreAsked}
use Rattle.cv_accept.specs.declared.error.FileError.{FileError}
use Rattle.cv_accept.specs.declared.file.Accepted.{Accepted}
use Rattle.cv_accept.specs.Accepted.{Content, Refuses, RefusesTokens, file_of, read_of}

-- the trees of the steps of a proof block
abbrev pub script_in : List KindTree → Option (Vec Step Global) → Option (List Tree)
script_in trees script = option_map (λ v. trees_of trees v.items) script

-- names, of which the first are the file's own, declarations and steps, with the game at a node
abbrev pub content_in : List (List ℕ) → (own : ℕ) → List KindTree → List Decl → NodeId → Option (Vec Step Global) → Content
content_in names own trees list root script = record {
  names = names;
  own = own;
  declarations = declarations trees list;
  game = tree_at trees (Some root);
  script = script_in trees script;
}

abbrev pub content_at : Work → NodeId → Option (Vec Step Global) → Content
content_at w root script = content_in w.names w.decls.own w.pool.trees w.decls.list root script

-- what was read is what is given, and an error is the one that it is refused for
abbrev pub Reads : (limit : ℕ) → Given → Work → Result Accepted FileError → Type 0
Reads limit given w (Ok f) = read_of limit given ≡ Ok (content_at w f.file.game.root f.script)
Reads limit given w (Err e) = Refuses limit given e

-- the same of tokens
abbrev pub ReadsTokens : (limit : ℕ) → List Token → Work → Result Accepted FileError → Type 0
ReadsTokens limit ts w (Ok f) = file_of limit ts ≡ Ok (content_at w f.file.game.root f.script)
ReadsTokens limit ts w (Err e) = RefusesTokens limit ts e

-- how many nodes the steps of a proof block take
abbrev pub block_nodes : Option (List Tree) → ℕ
block_nodes None = 0
block_nodes (Some ts) = script_nodes ts

-- how many nodes a file takes with its steps
abbrev pub content_nodes : Content → ℕ
content_nodes f = file_nodes f.declarations f.game + block_nodes f.script

-- The steps of a proof block are live, with no more nodes than a pool may have; the pool is within its limit.
pub record HasSteps (limit : ℕ) (trees : List KindTree) (steps : List Step) : Type 0 where
  pub few : length trees ≤ limit
  pub live : All (λ s. s.0.0 < length trees) steps
  pub small : All (λ s. nodes_of (tree_at trees (Some s.0)) ≤ limit) steps

-- a file's game is no larger than a game may be and well formed, the file is typed, and its queries may be asked
pub record IsAccepted (f : Content) : Type 0 where
  pub small : size f.game ≤ most_nodes
  pub shallow : depth f.game ≤ most_depth
  pub typed : IsTypedFile f.declarations f.game
  pub well_formed : IsWellFormed f.declarations f.game
  pub asked : AreAsked f.game (queries_in f.declarations)
