use Rattle.std.proofs.Common.{sym, ◌∙◌}
use Rattle.cv_rule_birthday_laws.proofs.chosen.Pairs.{one_tuple}
use Rattle.cv_rule_birthday_laws.proofs.chosen.equal_values_stand_at_one_tuple.Goals as goal

pub returns : goal.returns
returns c = λ g x ps t m h e u w v i j. one_tuple g x ps t e u w (h u v i).1 (h w v j).1 (sym (h u v i).0 ∙ (h w v j).0)
