-- A phrase with something behind it: where what stands behind it may begin with some tokens alone.
use Rattle.std.specs.Prelude.{◌≡◌, ℕ, Bool, false, if◌then◌else◌, List, length, Ok, Err}
use Rattle.cv_syntax_trees.specs.Tree.{Tree}
use Rattle.cv_parse_notation.specs.declared.sign.Sign.{Sign}
use Rattle.cv_parse_notation.specs.Form.{Form}
use Rattle.cv_parse_notation.specs.Spells.{Kind, next_is, Use}
use Rattle.cv_parse_notation.specs.Reads.{Found, Read, Syntax, ◌>>=◌}
use Rattle.cv_parse_notation.specs.Whole.{SpellsWith, reads_with}

-- what was read, where the next token isn't one that may not stand behind it
abbrev pub stops_before : {R A : Type 0} → (barred : Kind → Bool) → Found R A → Read R A
stops_before barred x = if next_is barred x.rest then Err (Syntax (length x.rest)) else Ok x

abbrev pub reads_before : {R σ A : Type 0} → (barred : Kind → Bool) → (σ → Kind → Bool) → (σ → Form R σ Tree) → Form R σ A → ℕ → List Sign → Read R A
reads_before barred h rule f n tokens = reads_with h rule f n tokens >>= stops_before barred

-- the tokens begin with a phrase within n levels and one, and no barred token stands behind it
pub record IsBefore {R σ A : Type 0} (barred : Kind → Bool) (h : σ → Kind → Bool) (rule : σ → Form R σ Tree) (f : Form R σ A) (n : ℕ) (tokens : List Sign) : Type 0 where
  pub value : A
  pub uses : List (Use R)
  pub rest : List Sign
  pub spelled : SpellsWith h rule f n tokens value uses rest
  pub clear : next_is barred rest ≡ false
