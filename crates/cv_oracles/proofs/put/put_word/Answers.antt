use Rattle.std.proofs.Common.{◌∙◌}
use Rattle.cv_lex.specs.View.{with_token}
use Rattle.cv_library.proofs.Adding.{adds_token}
use Rattle.cv_library.proofs.Putting.{on_ok}
use Rattle.cv_oracles.specs.Pieces.{word_for}
use Rattle.cv_oracles.proofs.Written.{word_there}
use Rattle.cv_oracles.proofs.put.put_word.Goals as goal

pub push-requires-clause-token : goal.push-requires-clause-token
push-requires-clause-token c = word_there c.args.word _ _ c.kind_of.ensures c.text_of.ensures

pub returns : goal.returns
returns c =
    on_ok c.push.result (λ e. adds_token c.args.out.now c.push.new.self (word_for c.args.word c.args.k) (e ∙ (λ i. with_token c.args.out.now (record { kind = c.kind_of.ensures i; text = c.text_of.ensures i; offset = c.args.k })))) c.push.ensures.ok
