use Rattle.std.proofs.Common.{◌≡◌, ◌<◌, ap, ap₂, sym, subst, ◌∙◌, Some, length}
use Rattle.std.specs.Prelude.{All}
use Rattle.cv_syntax.specs.PoolTrees.{tree_at}
use Rattle.cv_meaning.specs.Replaced.{replaced}
use Rattle.cv_path.specs.declared.replacing.Turn.{Turn}
use Rattle.cv_path.specs.Ways.{led}
use Rattle.cv_edit_places.specs.Changes.{change_of}
use Rattle.cv_edit_places.proofs.MadeGames.{led_grown, part_found}
use Rattle.cv_edit_places.proofs.making.make_game.Goals as goal

pub returns-in-Ok-clause-tree : goal.returns-in-Ok-clause-tree
returns-in-Ok-clause-tree c =
    let before = c.args.pool.now in
    let asked = c.reserve.new.self in
    let after = c.part.new.pool in
    let kept = c.reserve.ensures.kept in
    let game = tree_at before.trees (Some c.args.root) in
    let turns = c.in_ok-way.way.turns.items in
    let end = c.in_ok-way.way.end in
    let change = change_of before.trees c.args.change.now in
    let live = subst (λ ts. All (λ (t : Turn). t.node.0 < length ts) turns) (sym kept) c.in_ok-way.ensures.live in
    let by : tree_at after.trees c.in-Ok.by ≡ change (tree_at before.trees (Some end)) = c.in-Ok.ensures.tree ∙ ap (λ ts. change_of ts c.args.change.now (tree_at ts (Some end))) kept in
    c.rebuilt.ensures.tree
    ∙ (led_grown asked after turns (tree_at after.trees c.in-Ok.by) c.part.ensures.grows live
    ∙ (ap₂ (λ ts t. led ts turns t) kept by
    ∙ (c.in_ok-way.ensures.leads (change (tree_at before.trees (Some end)))
    ∙ ap (λ t. replaced game c.args.place (change t)) (sym (part_found game c.args.place _ c.in_ok-way.ensures.end)))))
