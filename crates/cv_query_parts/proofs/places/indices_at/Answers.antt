use Rattle.std.proofs.Common.{ap₂, ◌∙◌}
use Rattle.cv_typing.proofs.Files.{nothing_bound}
use Rattle.cv_scene.specs.Terms.{indices_above}
use Rattle.cv_query_parts.proofs.places.indices_at.Goals as goal

pub returns : goal.returns
returns c = c.in_ok-add_indices.ensures ∙ ap₂ indices_above (nothing_bound c.new-above.result c.new-above.ensures.empty) (c.as_slice.ensures.value ∙ c.in_ok-rows.ensures)
