-- How declarations begin.
use Rattle.std.proofs.Common.{◌≡◌, List, [], ◌∷◌, ◌||◌, refl}
use Rattle.cv_parse_notation.specs.declared.sign.Sign.{Sign}
use Rattle.cv_parse_notation.specs.declared.sign.Mark.TheVariants as mark
use Rattle.cv_parse_notation.specs.Spells.{next_is, is_mark, is_unnamed, starts}
use Rattle.cv_parse_grammar.specs.Rules.{heads}
use Rattle.cv_parse_grammar.specs.Declarations.{collision_decl, declaration}

pub collision_begins : (ts : List Sign) → (next_is (is_mark mark.Collision) ts || next_is is_unnamed ts) ≡ next_is (starts heads collision_decl) ts
collision_begins [] = refl
collision_begins (t ∷ ts) = refl

pub declaration_begins : (ts : List Sign) → (next_is (is_mark mark.Param) ts || (next_is (is_mark mark.Channel) ts || (next_is (is_mark mark.Proba) ts || (next_is (is_mark mark.TypeWord) ts || (next_is (is_mark mark.ConstWord) ts || (next_is (is_mark mark.Fun) ts || (next_is (is_mark mark.EventWord) ts || (next_is (is_mark mark.EquationWord) ts || (next_is (starts heads collision_decl) ts || (next_is (is_mark mark.Equiv) ts || next_is (is_mark mark.QueryWord) ts)))))))))) ≡ next_is (starts heads declaration) ts
declaration_begins [] = refl
declaration_begins (t ∷ ts) = refl
