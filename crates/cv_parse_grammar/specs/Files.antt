-- Files: what spells one, and how one is read.
use Rattle.std.specs.Prelude.{ℕ, List}
use Rattle.cv_parse_notation.specs.declared.sign.Sign.{Sign}
use Rattle.cv_parse_notation.specs.Spells.{Use}
use Rattle.cv_parse_notation.specs.Reads.{Reader}
use Rattle.cv_parse_notation.specs.Whole.{SpellsWith, IsWhole, reads_with, reads_whole}
use Rattle.cv_parse_grammar.specs.declared.role.Role.{Role}
use Rattle.cv_parse_grammar.specs.Rules.{File, rule, heads, file}

-- how deep brackets and syntax nodes may stand, less one
abbrev pub levels : ℕ
levels = 199

-- with n levels and one, these tokens spell the file in front of the rest, and use names so
abbrev pub IsFile : ℕ → List Sign → File → List (Use Role) → List Sign → Type 0
IsFile n tokens f uses rest = SpellsWith heads rule file n tokens f uses rest

-- these tokens, and no others, spell some file
abbrev pub IsSomeFile : ℕ → List Sign → Type 0
IsSomeFile n tokens = IsWhole heads rule file n tokens

abbrev pub read_file : ℕ → Reader Role File
read_file n tokens = reads_with heads rule file n tokens

-- a file and nothing behind it
abbrev pub read_whole : ℕ → Reader Role File
read_whole n tokens = reads_whole heads rule file n tokens
