use Rattle.std.proofs.Common.{◌≡◌, ℕ, ◌≤◌, ◌^◌, arith, length, subst, sym, ap, ◌∙◌}
use Rattle.cv_meaning.specs.contexts.Groups.{Right, side_group}
use Rattle.cv_match_laws.specs.answers.Answers.{file_scene}
use Rattle.cv_match_laws.specs.answers.Drawn.{draws, finds}
use Rattle.cv_inline_sites.specs.listing.Callings.{callings_in}
use Rattle.cv_inline_draws.specs.names.Fresh.{IsDrawnFor}
use Rattle.cv_steps_laws.specs.crypto.reductions.Tables.{labels}
use Rattle.cv_inline.specs.terms.Drawings.{drawn_in}
use Rattle.cv_steps_laws.specs.crypto.Steps.{first_answer, reduction_of}
use Rattle.cv_kernel_crypto.proofs.Inlined.{drawn_same}
use Rattle.cv_kernel_crypto.proofs.inlining.inlining_for.Goals as goal

pub returns-clause-drawn : goal.returns-clause-drawn
returns-clause-drawn c = λ r h.
    let trees = c.args.pool.now.trees in
    let g = side_group Right r.equivalence in
    let cs = c.in_ok-callings.ensures.callings r c.args.game h in
    let key : g.key ≡ c.right_key_of-right_key.result = sym (c.right_key_of-right_key.ensures ∙ ap (λ q. (side_group Right q).key) h.equivalence) in
    drawn_same trees r c.args.game c.args.context c.args.found.now h c.args.names.now c.draw.new.names c.args.taken.now (callings_in trees c.as_slice.result.now) (drawn_in c.in_ok-drawing.drawing) (ap (callings_in trees) c.as_slice.ensures.value ∙ cs)
    (c.in_ok-drawing.ensures.drawn g (ap (λ (k : ℕ × ℕ). k.0) key))

pub returns-clause-inlining : goal.returns-clause-inlining
returns-clause-inlining c = λ ds own t e x h a.
    let trees = c.args.pool.now.trees in
    let r = reduction_of (file_scene ds own t) e x in
    let g = side_group Right e in
    let before = c.args.names.now in
    let after = c.draw.new.names in
    let d = drawn_in c.in_ok-drawing.drawing in
    let cs = c.in_ok-callings.ensures.callings r c.args.game h in
    let key : g.key ≡ c.right_key_of-right_key.result = sym (c.right_key_of-right_key.ensures ∙ ap (λ q. (side_group Right q).key) h.equivalence) in
    let drawn = drawn_same trees r c.args.game c.args.context c.args.found.now h before after c.args.taken.now (callings_in trees c.as_slice.result.now) d (ap (callings_in trees) c.as_slice.ensures.value ∙ cs)
    (c.in_ok-drawing.ensures.drawn g (ap (λ (k : ℕ × ℕ). k.0) key)) in
    let few : length after ≤ first_answer = omega (arith, c.len.ensures.len, c.if-len-gt-FIRST_ANSWER.false) in
    record {
      callings = cs;
      drawn = c.steps_of_files_have_drawn_tables.ensures ds own first_answer t e x before after d a.owned a.named few (omega (arith, few)) (subst (λ ns. length ns ≤ 2 ^ 64) a.all a.counted) (subst (λ ns. IsDrawnFor before after ns (draws r) (finds r) (labels r) d) a.all drawn);
      key = key;
    }
