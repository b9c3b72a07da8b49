use Rattle.std.proofs.Common.{arith, sym, ap, ◌∙◌, ◌∷◌, [], ◌++◌}
use Rattle.std.proofs.lemmas.List.{take_all}
use Rattle.cv_directory.specs.Tables.{entries_in}
use Rattle.cv_derive_reasons.specs.cells.Only.{replications_by}
use Rattle.cv_derive_reasons.proofs.cells.Rows.{next_row, no_row}
use Rattle.cv_derive_reasons.proofs.cells.variables.replications_of.Goals as goal

pub returns-in_default : goal.returns-in_default
returns-in_default c trees few = c.indices.invariant.kept trees ∙ no_row ((entries_in trees c.args.directory.now).first c.args.x) c.indices.k (sym c.in_default.is ∙ c.replication.ensures trees)

pub indices-preserved : goal.indices-preserved
indices-preserved c = record {
  few = omega (arith, c.indices.invariant.few, c.push.ensures.len);
  kept = λ trees.
      c.push.ensures.items
      ∙ (ap (λ l. l ++ c.in-Some.replication ∷ []) (c.indices.invariant.kept trees)
      ∙ sym (next_row ((entries_in trees c.args.directory.now).first c.args.x) c.indices.k c.in-Some.replication (sym c.in-Some.is ∙ c.replication.ensures trees)));
}

pub returns : goal.returns
returns c trees few = c.indices.invariant.kept trees ∙ take_all c.indices.k (replications_by ((entries_in trees c.args.directory.now).first c.args.x)) (omega (arith, few, c.indices.auto.k-end, c.indices-test.false))
