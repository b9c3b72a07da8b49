use Rattle.std.proofs.Common.{◌≡◌, ℕ, [], Some, arith, ap, ap₂, ◌∙◌}
use Rattle.cv_syntax.specs.PoolTrees.{tree_at}
use Rattle.cv_scene.specs.Refusals.{definitions_in}
use Rattle.cv_match_terms.specs.uses.Tallies.{Tally, drawn, plus, tally_at, tally_of}
use Rattle.cv_match_terms.proofs.uses.Joining.{nothing_plus}
use Rattle.cv_match_terms.proofs.uses.Walked.{only_drawn, uses_few}
use Rattle.cv_match_terms.proofs.uses.table.UseTable.of.Goals as goal

pub gather-requires-clause-room : goal.gather-requires-clause-room
gather-requires-clause-room c = λ y.
    let game = tree_at c.args.pool.now.trees (Some c.args.root) in
    let none : (tally_at c.new-entries.result.items y).uses ≡ 0 = ap (λ es. (tally_at es y).uses) c.new-entries.ensures.items in
    omega (arith, none, uses_few y game, c.requires.fits)

pub returns : goal.returns
returns c =
    let game = tree_at c.args.pool.now.trees (Some c.args.root) in
    let all : (y : ℕ) → tally_at c.gather.new.entries.items y ≡ tally_of [] y game = λ y. c.in_ok-gather.ensures.tallies y ∙ ap₂ (λ es rs. plus (tally_at es y) (tally_of rs y game)) c.new-entries.ensures.items c.new-passed.ensures.items ∙ nothing_plus (tally_of [] y game) in
    record {
      uses = λ y. ap (λ (t : Tally). t.uses) (all y);
      news = λ y. ap (λ (t : Tally). drawn t.draw) (all y) ∙ only_drawn (definitions_in y [] game);
    }
