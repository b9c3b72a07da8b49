-- The site of the variable of a cell, as the code has it.
use Rattle.std.specs.Prelude.{◌≡◌, Option, Some, None, option_and_then}
use Rattle.cv_syntax_trees.specs.Tree.{Tree}
use Rattle.cv_scope_rules.specs.Above.{stands_at}
use Rattle.cv_scope_rules.specs.Behind.{sites_of}
use Rattle.cv_scope_rules.specs.Context.{Context}
use Rattle.cv_scene.specs.Sights.{only_site, variable_of}
use Rattle.cv_derive.specs.declared.sites.Site.{Site}

-- what stands behind the only definition of the variable of a cell
abbrev pub site_in : (game cell : Tree) → Option Context
site_in game cell = option_and_then (λ x. only_site (sites_of game x)) (variable_of cell)

-- it stands at the place that the code has, with these replications
abbrev pub IsSite : Tree → Option Context → Option Site → Type 0
IsSite game (Some Γ) (Some s) = (stands_at game s.place ≡ Some Γ) × (Γ.replications ≡ s.replications.items)
IsSite game None None = Unit {0}
IsSite game there s = ⊥
