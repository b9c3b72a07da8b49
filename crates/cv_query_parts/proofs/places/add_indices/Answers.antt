use Rattle.std.proofs.Common.{◌+◌, drop, ap, sym, ◌∙◌, arith}
use Rattle.std.proofs.lemmas.List.{at_drop_more}
use Rattle.cv_typing.specs.Tables.{above_of}
use Rattle.cv_scene.specs.Terms.{indices_above}
use Rattle.cv_query_parts.proofs.places.add_indices.Goals as goal

pub rows-preserved : goal.rows-preserved
rows-preserved c =
    ap (λ f. indices_above f (drop (c.rows.k + 1) c.args.rows.now)) c.in_ok-add_index.ensures
    ∙ (sym (at_drop_more (indices_above (above_of c.rows.above)) c.args.rows.now c.rows.k (0, 0) (omega (arith, c.rows-test.true)))
    ∙ c.rows.invariant)
