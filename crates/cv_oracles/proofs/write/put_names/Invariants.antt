use Rattle.std.proofs.Common.{drop}
use Rattle.cv_oracles.specs.Translations.{channels}
use Rattle.cv_oracles.specs.declared.words.Word.TheVariants.{Channel}
use Rattle.cv_oracles.proofs.Putting.{IsPut}
use Rattle.cv_oracles.proofs.write.put_names.Given as goal

abbrev pub invariant-oracles : goal.invariant-oracles
invariant-oracles l = IsPut l.fn.out l.out (channels l.tokens l.before l.word (drop l.oracle-index l.oracles)) (channels l.tokens l.before Channel l.oracles)
