-- The game without a `let`, where the variable has one definition and it is one, and for how many nodes a pool is asked then.
use Rattle.std.specs.Prelude.{ℕ, ◌+◌, nat_lt, if◌then◌else◌, length, Option, Some, None, option_map}
use Rattle.cv_pool.specs.PoolView.{PoolView}
use Rattle.cv_syntax.specs.declared.work.BuildError.TheVariants as build
use Rattle.cv_syntax_trees.specs.Tree.{Tree}
use Rattle.cv_path.specs.declared.error.PathError.{PathError}
use Rattle.cv_path.specs.declared.error.PathError.TheVariants.{NoSuchPlace, Build}
use Rattle.cv_syntax.specs.listing.Needs.{need_for}
use Rattle.cv_steps.specs.Unletting.{only_assignment, without_assignment}

abbrev pub unlet : ℕ → Tree → Option Tree
unlet x game = option_map (λ d. without_assignment x d game) (only_assignment game x)

abbrev pub need_by : Option Tree → ℕ
need_by None = 0
need_by (Some t) = need_for t

abbrev pub need_unletting : ℕ → Tree → ℕ
need_unletting x game = need_by (unlet x game)

abbrev pub refusal_by : PoolView → Option Tree → Option PathError
refusal_by v None = Some NoSuchPlace
refusal_by v (Some t) = if nat_lt v.limit (length v.trees + need_for t) then Some (Build (build.Full (need_for t))) else None

-- there must be such a `let`, and the pool needs room for all these nodes
abbrev pub refusal : PoolView → ℕ → Tree → Option PathError
refusal v x game = refusal_by v (unlet x game)
