-- The process of a file, as its last part. This profile's own.
use Rattle.std.specs.Prelude.{ℕ, List, ◌∷◌}
use Rattle.cv_syntax_trees.specs.Tree.{Tree}
use Rattle.cv_parse_notation.specs.declared.sign.Mark.TheVariants as mark
use Rattle.cv_parse_notation.specs.declared.sign.Sign.{Sign}
use Rattle.cv_parse_notation.specs.declared.sign.Sign.TheVariants as token
use Rattle.cv_parse_notation.specs.Form.{◌▸◌}
use Rattle.cv_parse_grammar.specs.declared.role.Region.TheVariants.{InProcess}
use Rattle.cv_parse_grammar.specs.declared.role.Role.TheVariants.{Enters, Leaves}
use Rattle.cv_parse_grammar.specs.Names.{Uses}
use Rattle.cv_parse_grammar.specs.Phrases.{Phrase, inside}
use Rattle.cv_parse_grammar.specs.Processes.{inputs}
use Rattle.cv_print_bytes.specs.terminals.Signs.{◌⁀◌, numbered, process_signs}
use Rattle.cv_print_bytes.specs.terminals.Told.{process_told, tells, uses_in}

-- the end of the row of a file
abbrev pub process_part : Phrase Tree
process_part = mark.Process ▸ inside InProcess inputs

-- its signs, where so many words `find` stand before, and its uses of names
abbrev pub part_signs : ℕ → Tree → List Sign
part_signs finds t = token.Mark mark.Process ∷ numbered finds (process_signs t)

abbrev pub part_uses : Tree → Uses
part_uses t = uses_in (tells (Enters InProcess) ⁀ process_told t ⁀ tells Leaves) 0
