use Rattle.std.proofs.Common.{ap, ◌∙◌}
use Rattle.std.specs.Prelude.{is_some, length}
use Rattle.cv_syntax_trees.specs.sites.Sites.{Variable}
use Rattle.cv_scope_rules.specs.typing.Signature.{variable_in}
use Rattle.cv_typing.specs.Tables.{arrays_of}
use Rattle.cv_edit_places.proofs.terms.has_site.Goals as goal
use Rattle.cv_syntax_trees.proofs.lists.Options.{is_some_map}

pub returns : goal.returns
returns c =
    λ game e.
    c.is_some.ensures
    ∙ (ap is_some c.arity.ensures
    ∙ (is_some_map (λ (v : Variable). length v.parameters) (variable_in (arrays_of c.args.arrays.now) c.args.x)
    ∙ ap (λ A. is_some (variable_in A c.args.x)) e))
