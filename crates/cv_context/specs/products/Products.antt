-- Lists of parameters that the code makes: each stands for the product of its parameters. This profile's own.
use Rattle.std.specs.Prelude.{ℕ, ◌==◌, List, [], map, filter, Option, Some, None}
use Rattle.std.specs.declared.vec.Vec.{Vec}
use Rattle.std.specs.declared.alloc.Global.{Global}
use Rattle.cv_syntax_trees.specs.sites.Sites.{Variable}
use Rattle.cv_scene.specs.Contexts.{parameters_of}
use Rattle.cv_match_terms.specs.declared.patterns.site.Site.{Site}

abbrev pub products : List (Vec ℕ Global) → List (List ℕ)
products calls = map (λ (ns : Vec ℕ Global). ns.items) calls

-- those of the sites of a function
abbrev pub products_at : List Site → (position : ℕ) → List (List ℕ)
products_at ss k = map (λ (s : Site). parameters_of s.replications.items) (filter (λ (s : Site). s.function == k) ss)

-- those of a variable, by its first definition
abbrev pub parameters_by : Option Variable → List ℕ
parameters_by None = []
parameters_by (Some v) = v.parameters
