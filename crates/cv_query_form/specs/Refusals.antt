-- What a refusal says.
use Rattle.std.specs.Prelude.{◌≡◌, ℕ, List, Option, Some}
use Rattle.cv_syntax_trees.specs.Tree.{Tree}
use Rattle.cv_query_form.specs.declared.fault.QueryFault.{QueryFault}
use Rattle.cv_query_form.specs.declared.fault.QueryFault.TheVariants as refused
use Rattle.cv_query_form.specs.Rules.{IsFirstRefused}

-- The refusal names what was found. Want of memory says nothing.
abbrev pub IsRefusalOf : Option ℕ → QueryFault → Type 0
IsRefusalOf found (refused.Query k) = found ≡ Some k
IsRefusalOf found refused.OutOfMemory = Unit {0}

-- The refusal names the first query that may not be asked. Want of memory says nothing.
abbrev pub IsFirstRefusal : Tree → List Tree → QueryFault → Type 0
IsFirstRefusal game queries (refused.Query k) = IsFirstRefused game queries k
IsFirstRefusal game queries refused.OutOfMemory = Unit {0}
