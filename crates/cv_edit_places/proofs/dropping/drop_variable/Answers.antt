use Rattle.std.proofs.Common.{ap, subst, ◌∙◌, ◌++◌, ◌+◌, ◌≤◌, length, Some}
use Rattle.std.specs.Prelude.{OnOk}
use Rattle.cv_syntax.specs.Postorder.{postorder}
use Rattle.cv_syntax.specs.PoolTrees.{tree_at}
use Rattle.cv_steps.specs.Changes.{without, only}
use Rattle.cv_syntax.specs.listing.Needs.{most_asked}
use Rattle.cv_edit_places.proofs.Lists.{overs_without}
use Rattle.cv_edit_places.proofs.dropping.drop_variable.Goals as goal

pub plant_listed-requires : goal.plant_listed-requires
plant_listed-requires c =
    let t = without (only c.args.x) (tree_at c.args.pool.now.trees (Some c.args.root)) in
    record { listed = (t, c.deref.ensures.value ∙ (c.in-Ok.ensures ∙ ap (λ ms. ms ++ postorder t) c.new-makes.ensures.items)); limit = c.requires.limit }

pub returns-in-Ok-clause-tree : goal.returns-in-Ok-clause-tree
returns-in-Ok-clause-tree c =
    let t = without (only c.args.x) (tree_at c.args.pool.now.trees (Some c.args.root)) in
    c.plant_listed.ensures.tree t (c.deref.ensures.value ∙ (c.in-Ok.ensures ∙ ap (λ ms. ms ++ postorder t) c.new-makes.ensures.items))

pub returns-in-Ok-clause-full : goal.returns-in-Ok-clause-full
returns-in-Ok-clause-full c =
    let t = without (only c.args.x) (tree_at c.args.pool.now.trees (Some c.args.root)) in
    let listed = c.deref.ensures.value ∙ (c.in-Ok.ensures ∙ ap (λ ms. ms ++ postorder t) c.new-makes.ensures.items) in
    let need = ap most_asked (overs_without c.args.x (tree_at c.args.pool.now.trees (Some c.args.root))) in
    λ n r. let k = c.plant_listed.ensures.full t listed n r in (k.0 ∙ need, k.1)

pub returns-in-Ok-clause-accepted : goal.returns-in-Ok-clause-accepted
returns-in-Ok-clause-accepted c =
    let t = without (only c.args.x) (tree_at c.args.pool.now.trees (Some c.args.root)) in
    let listed = c.deref.ensures.value ∙ (c.in-Ok.ensures ∙ ap (λ ms. ms ++ postorder t) c.new-makes.ensures.items) in
    let need = ap most_asked (overs_without c.args.x (tree_at c.args.pool.now.trees (Some c.args.root))) in
    subst (λ m. OnOk c.plant_listed.result (length c.args.pool.now.trees + m ≤ c.args.pool.now.limit)) need (c.plant_listed.ensures.accepted t listed)

pub returns-in-Ok-clause-few : goal.returns-in-Ok-clause-few
returns-in-Ok-clause-few c =
    let t = without (only c.args.x) (tree_at c.args.pool.now.trees (Some c.args.root)) in
    let listed = c.deref.ensures.value ∙ (c.in-Ok.ensures ∙ ap (λ ms. ms ++ postorder t) c.new-makes.ensures.items) in
    let need = ap most_asked (overs_without c.args.x (tree_at c.args.pool.now.trees (Some c.args.root))) in
    subst (λ m. length c.plant_listed.new.pool.trees ≤ length c.args.pool.now.trees + m) need (c.plant_listed.ensures.few t listed)
