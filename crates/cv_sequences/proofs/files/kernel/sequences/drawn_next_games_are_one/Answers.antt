use Rattle.cv_sequences.proofs.files.kernel.sequences.OneTable.{games, stays_apart, tables}
use Rattle.cv_sequences.proofs.files.kernel.sequences.drawn_next_games_are_one.Goals as goal

pub returns-clause-table : goal.returns-clause-table
returns-clause-table c = λ before after other own s e x t g h named w v. tables before after other own _ g h (w t named) (v t named)

pub returns-clause-game : goal.returns-clause-game
returns-clause-game c = λ before after other own s e x t g h u named w v. games before after other own _ g h u (w t named) (v t named)

pub returns-clause-names : goal.returns-clause-names
returns-clause-names c = λ before after own s e x t g u named w. stays_apart before after own _ g u (w t named)
