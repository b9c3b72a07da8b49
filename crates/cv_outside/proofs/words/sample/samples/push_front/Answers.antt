use Rattle.std.proofs.Common.{◌++◌, ◌∙◌, ap, codes}
use Rattle.cv_outside.specs.words.sample.Samples.{declared, each, front, key, line}
use Rattle.cv_outside.proofs.words.sample.Pieces.{five}
use Rattle.cv_outside.proofs.words.sample.samples.push_front.Goals as goal

pub returns : goal.returns
unfolding front
returns c =
    five c.args.out.now.items (line (codes "channel st.")) (each declared c.args.count) (line (codes "process in(st, ());")) (each key c.args.count) (line (codes "out(st, ());"))
    c.extend_from_slice.new.self.items c.push_each.new.out.items c.extend_from_slice-2.new.self.items c.push_each-2.new.out.items c.extend_from_slice-3.new.self.items
    c.in_ok-extend_from_slice.ensures.items (c.in_ok-push_each.ensures ∙ ap (λ t. c.extend_from_slice.new.self.items ++ each t c.args.count) c.declared.ensures)
    c.in_ok-extend_from_slice-2.ensures.items (c.in_ok-push_each-2.ensures ∙ ap (λ t. c.extend_from_slice-2.new.self.items ++ each t c.args.count) c.key.ensures)
    c.in_ok-extend_from_slice-3.ensures.items
