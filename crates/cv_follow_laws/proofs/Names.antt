-- No text stands twice among the names of a file, and a source is one file at most.
use Rattle.std.proofs.Common.{◌≡◌, ℕ, min, List, Option, Some, None, sym, subst}
use Rattle.cv_library.specs.Givens.{Given}
use Rattle.cv_lex.specs.Lexis.{Token}
use Rattle.cv_pool.specs.names.Texts.{NoRepeat}
use Rattle.cv_parse_tables.specs.terminals.ScriptSigns.{between}
use Rattle.cv_parse_tables.specs.terminals.Signs.{no_counts, signs_of}
use Rattle.cv_parse_tables.proofs.terminals.Telling.{grown, names_apart}
use Rattle.cv_accept.specs.Accepted.{Content, IsFile, names_by}
use Rattle.cv_accept.proofs.Readings.{file_is_read}

with_block : (ts : List Token) (names : List (List ℕ)) (block : Option (ℕ × ℕ)) → NoRepeat names → NoRepeat (names_by ts names block)
with_block ts names None u = u
with_block ts names (Some b) u = (grown names no_counts (between (min b.0 b.1) b.1 ts)).apart u

pub stand_once : (limit : ℕ) (source : Given) (f : Content) → IsFile limit source f → NoRepeat f.names
stand_once limit source f w = subst (λ (c : Content). NoRepeat c.names) (sym w.content) (with_block w.tokens (signs_of w.tokens).names w.said.script (names_apart w.tokens))

pub one_file : (limit : ℕ) (source : Given) (f g : Content) → IsFile limit source f → IsFile limit source g → f ≡ g
one_file limit source f g w v =
    let read = file_is_read limit source f w in
    let again = file_is_read limit source g v in
    cc (read, again)
