-- The tokens of a file outside its proof block.
use Rattle.std.specs.Prelude.{ℕ, ◌+◌, List, ◌++◌, take, drop, Option, Some, None}
use Rattle.cv_lex.specs.Lexis.{Token}

-- all, or those up to the brace that opens the block and from behind the one that closes it; a block is given by the
-- number of its first token and that of its last brace
abbrev pub around : Option (ℕ × ℕ) → List Token → List Token
around None ts = ts
around (Some block) ts = take block.0 ts ++ drop (block.1 + 1) ts
