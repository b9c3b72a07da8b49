use Rattle.std.proofs.Common.{ap, sym, Some, ◌++◌, ◌∙◌}
use Rattle.cv_syntax.specs.PoolTrees.{tree_at}
use Rattle.cv_derive_facts.specs.Definitions.{places_of}
use Rattle.cv_edit_names.proofs.naming.places.Goals as goal

pub returns : goal.returns
returns c = c.in_ok-add_places.ensures.places ∙ (ap (λ l. l ++ places_of c.args.x 0 (tree_at c.args.pool.now.trees (Some c.args.game))) c.new-found.ensures.items ∙ sym (c.sites_stand_in_the_game.ensures.places (tree_at c.args.pool.now.trees (Some c.args.game)) c.args.x))
