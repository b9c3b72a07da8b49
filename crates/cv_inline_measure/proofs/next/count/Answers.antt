use Rattle.std.proofs.Common.{ℕ, ◌≡◌, [], Some, ap, sym, ◌∙◌}
use Rattle.std.proofs.lemmas.Result.{IfOk-weaker}
use Rattle.cv_syntax.specs.PoolTrees.{tree_at}
use Rattle.cv_meaning.specs.contexts.Groups.{Group}
use Rattle.cv_inline.specs.NextGame.{next_in}
use Rattle.cv_inline_laws.specs.extents.Extents.{extent, of_game}
use Rattle.cv_inline_laws.proofs.extents.Games.{next_measured}
use Rattle.cv_inline_measure.specs.Counts.{measure_in}
use Rattle.cv_syntax.specs.limits.Limits.{told}
use Rattle.cv_inline_measure.specs.Settings.{inlined_calls}
use Rattle.cv_inline_measure.proofs.Walks.{is_measure}
use Rattle.cv_inline_measure.proofs.next.count.Goals as goal

pub returns : goal.returns
returns c =
    let trees = c.args.pool.now.trees in
    let μ = measure_in c.args.measure in
    let t = tree_at trees (Some c.args.context) in
    IfOk-weaker c.game.result
    (λ n. (x : ℕ) (g : Group) → g.key.0 ≡ c.args.right_key → n ≡ told (of_game μ (inlined_calls trees c.args.drawn.now x g c.args.callings.now) c.one_copy.result [] t))
    (λ n. (x : ℕ) (g : Group) → g.key.0 ≡ c.args.right_key → n ≡ told (extent μ (next_in (inlined_calls trees c.args.drawn.now x g c.args.callings.now) [] t)))
    (λ n h. λ x g e. h x g e ∙ (ap (λ (k : ℕ). told (of_game μ (inlined_calls trees c.args.drawn.now x g c.args.callings.now) k [] t)) c.one_copy.ensures
    ∙ ap told (sym (next_measured μ (is_measure c.args.measure) (inlined_calls trees c.args.drawn.now x g c.args.callings.now) [] t))))
    c.game.ensures
