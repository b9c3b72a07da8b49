use Rattle.std.proofs.Common.{◌==◌, [], ◌∷◌, ◌++◌, ◌∙◌, ap, arith, cond, get_or}
use Rattle.cv_outside.proofs.words.sample.Pieces.{marked_end, marked_goes}
use Rattle.cv_outside.proofs.words.sample.samples.push_numbered.Goals as goal

pub marks-preserved : goal.marks-preserved
marks-preserved c =
    marked_goes c.args.number c.args.text.now c.marks.k 0 c.args.out.now.items c.marks.out.items c.push_mark.new.out.items (omega arith) c.marks.invariant
    (c.in_ok-push_mark.ensures ∙ ap (λ ds. c.marks.out.items ++ cond (get_or c.args.text.now c.marks.k 0 == 35) ds (get_or c.args.text.now c.marks.k 0 ∷ [])) (c.as_bytes.ensures.value ∙ c.in_ok-digits.ensures.ok))

pub returns : goal.returns
returns c = marked_end c.args.number c.args.text.now c.marks.k c.args.out.now.items c.marks.out.items (omega arith) c.marks.invariant
