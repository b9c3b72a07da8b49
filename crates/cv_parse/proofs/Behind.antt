-- What stands behind a term.
use Rattle.std.proofs.Common.{◌≡◌, List, [], ◌∷◌, ◌||◌, refl}
use Rattle.cv_parse_notation.specs.declared.sign.Sign.{Sign}
use Rattle.cv_parse_notation.specs.declared.sign.Mark.TheVariants as mark
use Rattle.cv_parse_notation.specs.Spells.{next_is, is_mark}
use Rattle.cv_parse.specs.Terms.{goes_on}

pub behind : (ts : List Sign) → (next_is (is_mark mark.Prime) ts || (next_is (is_mark mark.Open) ts || (next_is (is_mark mark.OpenSquare) ts || (next_is (is_mark mark.Equal) ts || (next_is (is_mark mark.Differ) ts || (next_is (is_mark mark.Both) ts || next_is (is_mark mark.Either) ts)))))) ≡ next_is goes_on ts
behind [] = refl
behind (t ∷ ts) = refl
