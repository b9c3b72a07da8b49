use Rattle.cv_context.proofs.indices.News.{value_sort}
use Rattle.cv_context.proofs.indices.variables_with_one_new_have_its_type.Goals as goal

pub returns : goal.returns
returns c game x d p e = value_sort game x d p e
