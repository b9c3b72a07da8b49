use Rattle.std.proofs.Common.{[], ◌∷◌, get_or}
use Rattle.cv_library.proofs.Adding.{adds_both}
use Rattle.cv_oracles.specs.Pieces.{copy_for, word_for}
use Rattle.cv_oracles.proofs.Putting.{channels_more, put_more}
use Rattle.cv_oracles.proofs.write.put_names.Goals as goal

pub oracles-preserved : goal.oracles-preserved
oracles-preserved c =
    let ts = c.args.tokens.now in
    let ks = c.args.oracles.now in
    let i = c.oracles.oracle-index in
    put_more c.args.out.now c.oracles.out c.put_copy.new.out _ _ _ _ c.oracles.invariant (channels_more ts c.args.before c.oracles.word ks i c.oracles-test.true)
    (adds_both c.oracles.out c.put_word.new.out c.put_copy.new.out (word_for c.oracles.word c.args.before ∷ []) (copy_for ts (get_or ks i 0) (get_or ks i 0) ∷ []) c.in_ok-put_word.ensures c.in_ok-put_copy.ensures)
