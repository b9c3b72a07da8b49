use Rattle.std.proofs.Common.{ap, refl, sym, ◌∙◌, ◌++◌, Some, Err, length}
use Rattle.cv_syntax.specs.Postorder.{postorder}
use Rattle.cv_syntax.specs.PoolTrees.{tree_at}
use Rattle.cv_edit_changes.specs.unletting.Assigned.{names_above}
use Rattle.cv_edit_changes.specs.unletting.Putting.{put_in}
use Rattle.cv_edit_changes.proofs.unletting.Unletting.{few_made, room_refused, unlet_made, with_room}
use Rattle.cv_edit_changes.proofs.unletting.making.make_unletting.Goals as goal
use Rattle.cv_edit_changes.proofs.pruning.Games.{same_error}

pub returns-in-Ok-plant_listed-clause-tree : goal.returns-in-Ok-plant_listed-clause-tree
returns-in-Ok-plant_listed-clause-tree c =
    let before = c.args.pool.now in
    let game = tree_at before.trees (Some c.args.game) in
    let d = c.args.directory.now in
    let t = put_in c.args.x (names_above before.trees d c.args.x) (tree_at before.trees c.in-Some.assigned.term) game in
    let is = unlet_made before.trees d c.args.x game c.in-Some.assigned c.in-Some.ensures.assigned c.requires.read.phrase in
    let listed = c.deref.ensures.value ∙ (c.in-Ok.ensures ∙ ap (λ ms. ms ++ postorder t) c.new-makes.ensures.items) in
    is ∙ ap Some (sym (c.in-Ok-plant_listed.ensures.tree t listed))

pub returns-in-Ok-plant_listed-clause-accepted : goal.returns-in-Ok-plant_listed-clause-accepted
returns-in-Ok-plant_listed-clause-accepted c =
    let before = c.args.pool.now in
    let game = tree_at before.trees (Some c.args.game) in
    let d = c.args.directory.now in
    let t = put_in c.args.x (names_above before.trees d c.args.x) (tree_at before.trees c.in-Some.assigned.term) game in
    let is = unlet_made before.trees d c.args.x game c.in-Some.assigned c.in-Some.ensures.assigned c.requires.read.phrase in
    let listed = c.deref.ensures.value ∙ (c.in-Ok.ensures ∙ ap (λ ms. ms ++ postorder t) c.new-makes.ensures.items) in
    with_room before c.args.x game t is (c.in-Ok-plant_listed.ensures.accepted t listed)

pub returns-in-Ok-plant_listed-clause-few : goal.returns-in-Ok-plant_listed-clause-few
returns-in-Ok-plant_listed-clause-few c =
    let before = c.args.pool.now in
    let game = tree_at before.trees (Some c.args.game) in
    let d = c.args.directory.now in
    let t = put_in c.args.x (names_above before.trees d c.args.x) (tree_at before.trees c.in-Some.assigned.term) game in
    let is = unlet_made before.trees d c.args.x game c.in-Some.assigned c.in-Some.ensures.assigned c.requires.read.phrase in
    let listed = c.deref.ensures.value ∙ (c.in-Ok.ensures ∙ ap (λ ms. ms ++ postorder t) c.new-makes.ensures.items) in
    few_made before c.args.x game t is (length c.plant_listed.new.pool.trees) (c.plant_listed.ensures.few t listed)

pub returns-in-Ok-clause-refused : goal.returns-in-Ok-clause-refused
returns-in-Ok-clause-refused c =
    let before = c.args.pool.now in
    let game = tree_at before.trees (Some c.args.game) in
    let d = c.args.directory.now in
    let t = put_in c.args.x (names_above before.trees d c.args.x) (tree_at before.trees c.in-Some.assigned.term) game in
    let is = unlet_made before.trees d c.args.x game c.in-Some.assigned c.in-Some.ensures.assigned c.requires.read.phrase in
    let listed = c.deref.ensures.value ∙ (c.in-Ok.ensures ∙ ap (λ ms. ms ++ postorder t) c.new-makes.ensures.items) in
    λ e r. room_refused before c.args.x game t is c.in-Err-plant_listed.fault e (sym (same_error _ _ e refl r) ∙ c.no_room.ensures)
    (λ n f. c.plant_listed.ensures.full t listed n (c.in-Err-plant_listed.is ∙ ap Err f))
