use Rattle.std.proofs.Common.{refl, Option, ap, ap₂, sym, ◌∙◌}
use Rattle.std.specs.Prelude.{option_map}
use Rattle.std.specs.Option.{option_copied}
use Rattle.cv_syntax_trees.specs.declared.sites.sort.Sort.{Sort}
use Rattle.cv_syntax_trees.specs.declared.sites.sort.Sort.TheVariants.{BelowParameter}
use Rattle.cv_typing.specs.Lookups.{signature_in}
use Rattle.cv_syntax_trees.specs.sites.Sites.{first_of}
use Rattle.cv_typing.specs.Tables.{above_of, arrays_of}
use Rattle.cv_scope_rules.specs.typing.Signature.{index_in}
use Rattle.cv_scope_rules.proofs.typing.Leaves.{leaf_declared}
use Rattle.cv_typing.proofs.terms.leaf_sort.Goals as goal

pub returns-in-Some-function_sort : goal.returns-in-Some-function_sort
returns-in-Some-function_sort c = λ trees. sym (leaf_declared (signature_in trees c.args.decls.now.list c.args.arrays.now) (above_of c.args.above.now) c.args.x c.sort.result c.function_sort.result (index_in (arrays_of c.args.arrays.now) c.args.x) (sym c.get.ensures.value ∙ ap option_copied c.in_default.is) c.sort.ensures c.in_default-sort.is (c.function_sort.ensures trees) refl
    ∙ ap (λ (o : Option Sort). first_of o (option_map BelowParameter (index_in (arrays_of c.args.arrays.now) c.args.x))) c.in-Some-function_sort.is)

pub returns-in-Some-index : goal.returns-in-Some-index
returns-in-Some-index c = λ trees. sym (leaf_declared (signature_in trees c.args.decls.now.list c.args.arrays.now) (above_of c.args.above.now) c.args.x c.sort.result c.function_sort.result c.index.result (sym c.get.ensures.value ∙ ap option_copied c.in_default.is) c.sort.ensures c.in_default-sort.is (c.function_sort.ensures trees) c.index.ensures
    ∙ ap₂ (λ (o : Option Sort) i. first_of o (option_map BelowParameter i)) c.in_default-function_sort.is c.in-Some-index.is)

pub returns-in-None : goal.returns-in-None
returns-in-None c = λ trees. sym (leaf_declared (signature_in trees c.args.decls.now.list c.args.arrays.now) (above_of c.args.above.now) c.args.x c.sort.result c.function_sort.result c.index.result (sym c.get.ensures.value ∙ ap option_copied c.in_default.is) c.sort.ensures c.in_default-sort.is (c.function_sort.ensures trees) c.index.ensures
    ∙ ap₂ (λ (o : Option Sort) i. first_of o (option_map BelowParameter i)) c.in_default-function_sort.is c.in-None.is)
