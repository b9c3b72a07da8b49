-- Declarations whose nodes a pool has.
use Rattle.std.specs.Prelude.{ℕ, ◌<◌}
use Rattle.cv_syntax.specs.declared.decls.Decl.{Decl}
use Rattle.cv_syntax.specs.declared.decls.Decl.TheVariants as decl
use Rattle.cv_pool.specs.Nodes.{ChildBelow}

-- each node of a declaration is live
abbrev pub IsLive : ℕ → Decl → Type 0
IsLive n (decl.Name id class args result) = ChildBelow n args
IsLive n (decl.Equation t) = t.0 < n
IsLive n (decl.Equiv id t) = t.0 < n
IsLive n (decl.Query t) = t.0 < n
