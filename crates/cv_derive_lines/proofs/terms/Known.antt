-- The names that are there at a place.
use Rattle.std.proofs.Common.{◌≡◌, ℕ, Bool, true, false, cond, List, [], ◌∷◌, Option, Some, None, refl, sym, ap, ◌∙◌}
use Rattle.std.specs.Prelude.{◌||◌, ◌==◌, is_some, option_map}
use Rattle.std.proofs.Math.Path.{fun_ext}
use Rattle.cv_pool.specs.KindTree.{KindTree}
use Rattle.cv_syntax.specs.declared.decls.Decl.{Decl}
use Rattle.cv_syntax.specs.Declarations.{declarations}
use Rattle.cv_syntax_trees.specs.declared.sites.sort.Sort.{Sort}
use Rattle.cv_syntax_trees.specs.declared.sites.sort.Sort.TheVariants.{BelowParameter}
use Rattle.cv_syntax_trees.specs.sites.Sites.{first_of}
use Rattle.cv_typing.specs.declared.arrays.Arrays.{Arrays}
use Rattle.cv_scope_rules.specs.declared.typing.precedence.Precedence.TheVariants.{First}
use Rattle.cv_scope_rules.specs.typing.Parts.{nothing_above}
use Rattle.cv_scope_rules.specs.typing.Signature.{Above, variable_in}
use Rattle.cv_typing.specs.Tables.{Map, above_of}
use Rattle.cv_scope_rules.specs.typing.Wants.{bound}
use Rattle.cv_scope_rules.specs.Rules.{is_index}
use Rattle.cv_scene.specs.Sights.{Sight}
use Rattle.cv_scene.specs.Terms.{indices_above, is_function, names_under}
use Rattle.cv_derive_lines.specs.terms.Typed.{IsSightOf, names_of}
use Rattle.cv_scene_view.proofs.Above.{index_above}
use Rattle.cv_syntax_trees.proofs.lists.Options.{is_some_map}

-- an index of a place is one above it
pub index_at : (above : Map Sort) (s : Sight) → above_of above ≡ indices_above nothing_above s.replications → (x : ℕ) → is_some (above_of above x) ≡ is_index s.replications x
index_at above s e x = ap (λ (f : Above). is_some (f x)) e ∙ index_above nothing_above s.replications x

-- the names of a sight are those that the code has
pub names_same : (trees : List KindTree) (ds : List Decl) (variables : Arrays) (indices : Map Sort) (s : Sight) → IsSightOf trees ds variables indices s → names_of (declarations trees ds) variables indices ≡ names_under s.scene s.replications
names_same trees ds variables indices s e = λ i. record {
  function = is_function (sym e.declared i);
  variable = λ x. is_some (variable_in (e.sites i) x);
  index = fun_ext (index_at indices s e.bound) i;
}

pub ruleset known = (is_some_map)
