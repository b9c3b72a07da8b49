use Rattle.std.proofs.Common.{length, ◌∙◌}
use Rattle.cv_script.proofs.reader.Steps.{few_planted, only_parts, plants, room_planted, small_planted}
use Rattle.cv_script.proofs.reader.scripts.script_in.Goals as goal

pub returns-clause-reads : goal.returns-clause-reads
returns-clause-reads c =
    let d = c.in_ok-read.ensures in
    let parts = c.deref.ensures.value ∙ only_parts _ _ _ c.new-trail.ensures.makes d.parts in
    plants c.args.pool.now.limit (length c.args.pool.now.trees) c.args.from c.args.signs.now _ _ d c.plant_steps.new.pool.trees c.plant_steps.result (c.plant_steps.ensures.steps d.value parts) (c.plant_steps.ensures.room d.value parts) (c.plant_steps.ensures.crowds d.value parts)

pub returns-clause-few : goal.returns-clause-few
returns-clause-few c =
    let d = c.in_ok-read.ensures in
    let parts = c.deref.ensures.value ∙ only_parts _ _ _ c.new-trail.ensures.makes d.parts in
    few_planted c.plant_steps.new.pool.trees d.value (length c.args.pool.now.trees) c.args.pool.now.limit c.plant_steps.result (c.plant_steps.ensures.steps d.value parts) (c.plant_steps.ensures.few d.value parts)

pub returns-clause-room : goal.returns-clause-room
returns-clause-room c =
    let d = c.in_ok-read.ensures in
    let parts = c.deref.ensures.value ∙ only_parts _ _ _ c.new-trail.ensures.makes d.parts in
    room_planted c.plant_steps.new.pool.trees d.value (length c.args.pool.now.trees) c.args.pool.now.limit c.plant_steps.result (c.plant_steps.ensures.few d.value parts) (c.plant_steps.ensures.room d.value parts)

pub returns-clause-small : goal.returns-clause-small
returns-clause-small c =
    let d = c.in_ok-read.ensures in
    let parts = c.deref.ensures.value ∙ only_parts _ _ _ c.new-trail.ensures.makes d.parts in
    small_planted c.plant_steps.new.pool.trees d.value (length c.args.pool.now.trees) c.args.pool.now.limit c.plant_steps.result (c.plant_steps.ensures.steps d.value parts) (c.plant_steps.ensures.room d.value parts)
