use Rattle.std.proofs.Common.{◌≡◌, ℕ, true, zero, suc, List, [], ◌∷◌, refl, ap, ◌∙◌}
use Rattle.std.specs.Prelude.{slice_set}
use Rattle.std.specs.Borrow.{Bor}
use Rattle.cv_parse_terms.specs.declared.piece.Piece.{Piece}
use Rattle.cv_parse_terms.specs.Tables.{rows_of}
use Rattle.cv_parse_terms.specs.TermRows.{row_in_table}
use Rattle.cv_parse_terms.proofs.marked.marked_table.Goals as goal

rows_with_one : (rows : List (Bor (List Piece))) (k : ℕ) (x : Bor (List Piece)) → rows_of (slice_set rows k x) ≡ slice_set (rows_of rows) k x.now
rows_with_one [] k x = refl
rows_with_one (y ∷ rows) zero x = refl
rows_with_one (y ∷ rows) (suc k) x = ap (λ l. y.now ∷ l) (rows_with_one rows k x)

pub returns : goal.returns
returns c = rows_with_one c.table-rows.result 11 _ ∙ ap (λ l. slice_set l 11 (row_in_table true 11)) c.table-rows.ensures
