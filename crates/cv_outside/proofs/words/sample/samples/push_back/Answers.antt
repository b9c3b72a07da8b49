use Rattle.std.proofs.Common.{◌-◌, ◌++◌, ◌∙◌, ap, codes, rules}
use Rattle.cv_outside.specs.words.sample.Samples.{back, barred, line, numbered, pair}
use Rattle.cv_outside.proofs.words.sample.Pieces.{four}
use Rattle.cv_outside.proofs.words.sample.samples.push_back.Goals as goal

pub returns : goal.returns
unfolding back
returns c =
    four c.args.out.now.items (line (codes "(")) (barred (c.args.count - 1)) (numbered pair c.args.count) (line (codes ")"))
    c.extend_from_slice.new.self.items c.push_barred.new.out.items c.push_numbered.new.out.items c.extend_from_slice-2.new.self.items
    c.in_ok-extend_from_slice.ensures.items (c.in_ok-push_barred.ensures ∙ ap (λ n. c.extend_from_slice.new.self.items ++ barred n) (search rules))
    (c.in_ok-push_numbered.ensures ∙ ap (λ t. c.push_barred.new.out.items ++ numbered t c.args.count) c.pair.ensures) c.in_ok-extend_from_slice-2.ensures.items
