-- What the stages of reading a script answer. This profile's own.
use Rattle.std.specs.Prelude.{◌≡◌, ℕ, ◌+◌, ◌<◌, min, List, [], ◌++◌, Result, Ok, Err}
use Rattle.cv_pool.specs.declared.pool.PoolError.{PoolError}
use Rattle.cv_pool.specs.declared.pool.PoolError.TheVariants as pool
use Rattle.cv_syntax.specs.declared.work.BuildError.TheVariants.{Full, OutOfMemory}
use Rattle.cv_syntax.specs.Postorder.{postorder}
use Rattle.cv_syntax_trees.specs.Tree.{Tree}
use Rattle.cv_parse_notation.specs.declared.sign.Sign.{Sign}
use Rattle.cv_parse_notation.specs.Reads.{found}
use Rattle.cv_parse_grammar.specs.Names.{Uses}
use Rattle.cv_parse_terms.specs.declared.lookahead.ReadError.{ReadError}
use Rattle.cv_parse_terms.specs.declared.lookahead.ReadError.TheVariants as reading
use Rattle.cv_parse_terms.specs.declared.trail.Trail.{Trail}
use Rattle.cv_script.specs.declared.reader.error.ScriptError.{ScriptError}
use Rattle.cv_script.specs.declared.reader.error.ScriptError.TheVariants.{Script, Build}
use Rattle.cv_script.specs.reader.Scripts.{Refuses, read_script, script_of}

-- a fault of signs that begin at a token
abbrev pub at_token : (from : ℕ) → ReadError → ScriptError
at_token from (reading.Syntax k) = Script (min (from + k) 4294967295)
at_token from (reading.Nesting k) = Script (min (from + k) 4294967295)
at_token from reading.OutOfMemory = Build OutOfMemory

abbrev pub of_pool : PoolError → ScriptError
of_pool (pool.Full need) = Build (Full need)
of_pool pool.OutOfMemory = Build OutOfMemory

-- A script was read to the end, and its parts were made.
pub record IsScript (signs : List Sign) (old new : Trail) : Type 0 where
  pub value : Tree
  pub uses : Uses
  pub is : read_script signs ≡ found value uses []
  pub parts : new.makes.items ≡ old.makes.items ++ postorder value

-- A script was read, or refused whatever room there is.
abbrev pub GivesScript : (from : ℕ) → List Sign → Trail → Trail → Result (Unit {0}) ScriptError → Type 0
GivesScript from signs old new (Ok u) = IsScript signs old new
GivesScript from signs old new (Err e) = (limit live : ℕ) → Refuses e (script_of limit live from signs)

-- memory ran out, or the pool has no room for what is asked
abbrev pub Crowds : (limit live need : ℕ) → ScriptError → Type 0
Crowds limit live need (Build OutOfMemory) = Unit {0}
Crowds limit live need e = (e ≡ Build (Full need)) × (limit < live + need)
