use Rattle.cv_query_secrets.proofs.copies.Values.{cell_fine, term_fine}
use Rattle.cv_query_secrets.proofs.copies.terms_at_places_are_over_their_names.Goals as goal

pub returns-clause-terms : goal.returns-clause-terms
returns-clause-terms c = term_fine

pub returns-clause-cells : goal.returns-clause-cells
returns-clause-cells c = cell_fine
