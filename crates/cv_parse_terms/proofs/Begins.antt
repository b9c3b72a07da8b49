-- How terms begin.
use Rattle.std.proofs.Common.{◌≡◌, List, [], ◌∷◌, ◌||◌, refl}
use Rattle.cv_parse_notation.specs.declared.sign.Sign.{Sign}
use Rattle.cv_parse_notation.specs.declared.sign.Mark.TheVariants as mark
use Rattle.cv_parse_notation.specs.Spells.{next_is, is_mark, is_word, is_find, is_zero}
use Rattle.cv_parse_grammar.specs.Phrases.{Body, Input, Output, ProcessBranch, RightRest, Term}
use Rattle.cv_parse_grammar.specs.Rules.{heads}

pub term_begins : (ts : List Sign) → (next_is is_word ts || (next_is (is_mark mark.Not) ts || (next_is (is_mark mark.True) ts || (next_is (is_mark mark.False) ts || next_is (is_mark mark.Open) ts)))) ≡ next_is (heads Term) ts
term_begins [] = refl
term_begins (t ∷ ts) = refl

pub output_begins : (ts : List Sign) → (next_is (is_mark mark.Yield) ts || (next_is (is_mark mark.Open) ts || (next_is (is_mark mark.Out) ts || (next_is (is_mark mark.New) ts || (next_is (is_mark mark.Let) ts || (next_is (is_mark mark.EventWord) ts || (next_is (is_mark mark.If) ts || next_is is_find ts))))))) ≡ next_is (heads Output) ts
output_begins [] = refl
output_begins (t ∷ ts) = refl

pub input_begins : (ts : List Sign) → (next_is is_zero ts || (next_is (is_mark mark.Open) ts || (next_is (is_mark mark.Bang) ts || next_is (is_mark mark.In) ts))) ≡ next_is (heads Input) ts
input_begins [] = refl
input_begins (t ∷ ts) = refl

pub body_begins : (ts : List Sign) → (next_is (is_mark mark.New) ts || (next_is (is_mark mark.Let) ts || (next_is (is_mark mark.If) ts || (next_is is_find ts || next_is (heads Term) ts)))) ≡ next_is (heads Body) ts
body_begins [] = refl
body_begins (t ∷ ts) = refl

-- a word or `suchthat`
pub branch_begins : (ts : List Sign) → (next_is is_word ts || next_is (is_mark mark.Suchthat) ts) ≡ next_is (heads ProcessBranch) ts
branch_begins [] = refl
branch_begins (t ∷ ts) = refl

pub rest_begins : (ts : List Sign) → (next_is (is_mark mark.New) ts || next_is (is_mark mark.Open) ts) ≡ next_is (heads RightRest) ts
rest_begins [] = refl
rest_begins (t ∷ ts) = refl
