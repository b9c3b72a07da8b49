-- The types and the roles that a game's names have in the text of its context. This profile's own.
use Rattle.std.specs.Prelude.{◌≡◌, ℕ, ◌<◌, true, [], length, Option, Some, None}
use Rattle.cv_syntax_trees.specs.Tree.{Tree}
use Rattle.cv_syntax_trees.specs.declared.sites.sort.Sort.{Sort}
use Rattle.cv_syntax_trees.specs.declared.sites.sort.Sort.TheVariants.{BelowParameter, OfType}
use Rattle.cv_syntax_trees.specs.sites.Sites.{Variable, first_site}
use Rattle.cv_scene.specs.Reductions.{Reduction, is_plain, sites}
use Rattle.cv_meaning.specs.contexts.Roles.{Gone, Plain}
use Rattle.cv_inline_laws.specs.runs.Texts.{Text}
use Rattle.cv_context_runs.specs.visits.Fine.{defines}

-- the type of a variable of a game, as its first definition has it; for an index of a `find` its parameter

abbrev pub sort_name : Sort → ℕ
sort_name (OfType T) = T
sort_name (BelowParameter n) = n

abbrev pub type_by : Option Variable → ℕ
type_by None = 0
type_by (Some v) = sort_name v.sort

abbrev pub variable_type : (game : Tree) → ℕ → ℕ
variable_type game x = type_by (first_site x [] game)

-- the key and the answers are gone in the next game, and what the game defines besides them and coins is plain
pub record HasGameRoles (T : Text) (r : Reduction) : Type 0 where
  pub key : T.role r.key ≡ Gone
  pub answers : (l : ℕ) → l < length (sites r) → T.role (r.answer l) ≡ Gone
  pub variables : (x : ℕ) → defines x r.scene.game ≡ true → is_plain r x ≡ true → T.role x ≡ Plain
