-- Draws of the code as those of the definitions. This profile's own.
use Rattle.std.specs.Prelude.{ℕ}
use Rattle.cv_meaning.specs.contexts.Roles as roles
use Rattle.cv_inline.specs.Draws as draws
use Rattle.cv_inline_sites.specs.declared.listing.draws.Draw.{Draw}
use Rattle.cv_inline_sites.specs.declared.listing.draws.Role.{Role}
use Rattle.cv_inline_sites.specs.declared.listing.draws.Role.TheVariants.{Key, Variable, OfFind}

abbrev pub role_in : Role → roles.Role
role_in Key = roles.TheKeyName
role_in (Variable s x) = roles.Variable s x
role_in (OfFind i) = roles.Index i.site i.place i.other i.branch i.replication

abbrev pub draw_in : Draw → draws.Draw
draw_in d = record { role = role_in d.role; base = d.base }

-- the draw for a name that a site binds
abbrev pub variable_draw : ℕ → ℕ → draws.Draw
variable_draw s x = record { role = roles.Variable s x; base = x }
