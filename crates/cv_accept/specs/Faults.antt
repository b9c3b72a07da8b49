-- How the faults of the stages are answered.
use Rattle.std.specs.Prelude.{◌≡◌, ℕ, ◌+◌, ◌<◌, List, Option, Some, option_map, Result, Ok, Err}
use Rattle.std.specs.declared.vec.Vec.{Vec}
use Rattle.std.specs.declared.alloc.Global.{Global}
use Rattle.cv_pool.specs.KindTree.{KindTree}
use Rattle.cv_syntax_trees.specs.Tree.{Tree}
use Rattle.cv_syntax.specs.declared.work.BuildError.TheVariants as build
use Rattle.cv_script.specs.declared.reader.error.ScriptError.{ScriptError}
use Rattle.cv_script.specs.declared.reader.error.ScriptError.TheVariants as script
use Rattle.cv_script.specs.reader.Scripts.{items}
use Rattle.cv_syntax.specs.limits.Limits.{nodes_of}
use Rattle.cv_script.specs.declared.steps.Step.{Step}
use Rattle.cv_parse.specs.declared.error.ParseError.{ParseError}
use Rattle.cv_parse.specs.declared.error.ParseError.TheVariants as parse
use Rattle.cv_scope_rules.specs.declared.typing.fault.TypeFault.{TypeFault}
use Rattle.cv_scope_rules.specs.declared.typing.fault.TypeFault.TheVariants as type
use Rattle.cv_scope_rules.specs.declared.fault.ScopeFault.{ScopeFault}
use Rattle.cv_scope_rules.specs.declared.fault.ScopeFault.TheVariants as scope
use Rattle.cv_group.specs.declared.fault.GroupFault.{GroupFault}
use Rattle.cv_group.specs.declared.fault.GroupFault.TheVariants as group
use Rattle.cv_query_form.specs.declared.fault.QueryFault.{QueryFault}
use Rattle.cv_query_form.specs.declared.fault.QueryFault.TheVariants as query
use Rattle.cv_accept.specs.Accepted.{of_block}
use Rattle.cv_accept.specs.Works.{script_in}
use Rattle.cv_accept.specs.declared.error.FileError.{FileError}
use Rattle.cv_accept.specs.declared.error.FileError.TheVariants.{Parse, Script, Types, Scope, Group, Query, Room, OutOfMemory}

abbrev pub of_type : TypeFault → FileError
of_type type.OutOfMemory = OutOfMemory
of_type e = Types e

abbrev pub of_scope : ScopeFault → FileError
of_scope scope.OutOfMemory = OutOfMemory
of_scope e = Scope e

abbrev pub of_group : (equiv : ℕ) → GroupFault → FileError
of_group k group.OutOfMemory = OutOfMemory
of_group k e = Group k e

abbrev pub of_query : QueryFault → FileError
of_query (query.Query k) = Query k
of_query query.OutOfMemory = OutOfMemory

abbrev pub of_parse : ParseError → FileError
of_parse (parse.Build build.OutOfMemory) = OutOfMemory
of_parse e = Parse e

-- why a file is refused whose proof block isn't read into a pool
abbrev pub of_script : ScriptError → FileError
of_script (script.Script token) = Script token
of_script (script.Build (build.Full need)) = Room need
of_script (script.Build e) = OutOfMemory

-- A block was read, with its names, or is refused so; a pool with so many nodes may have no room for it.
abbrev pub IsBlock : (limit live : ℕ) → Result (Option Tree) ScriptError → List KindTree → Result (Option (Vec Step Global)) FileError → Type 0
IsBlock limit live r trees (Ok v) = (block : Option Tree) × (r ≡ Ok block) × (script_in trees v ≡ option_map items block)
IsBlock limit live r trees (Err OutOfMemory) = Unit {0}
IsBlock limit live r trees (Err (Room need)) = (block : Tree) × (r ≡ Ok (Some block)) × (need ≡ nodes_of block) × (limit < live + need)
IsBlock limit live r trees (Err e) = (x : ScriptError) × (r ≡ Err x) × (e ≡ of_block x)
