use Rattle.std.proofs.Common.{◌<◌, [], None, length, map, get_or, reverse, sym, ap, subst, ◌∙◌, arith}
use Rattle.std.proofs.lemmas.List.{take_all}
use Rattle.cv_pool.proofs.Growth.{Grows_refl, Grows_trans}
use Rattle.cv_syntax.specs.PoolTrees.{tree_at}
use Rattle.cv_syntax.proofs.Trees.{tree_at_None}
use Rattle.cv_edit_places.specs.declared.parts.Part.TheVariants.{There}
use Rattle.cv_edit_places.specs.Parts.{IsLivePart, laid, stacked, top_of}
use Rattle.cv_edit_places.proofs.Laying.{laid_grown, next_room, top_popped}
use Rattle.cv_edit_places.proofs.Stacks.{overs_next, stacked_next, stacked_none}
use Rattle.cv_edit_places.proofs.building.build.Goals as goal

pub loop-part-init : goal.loop-part-init
loop-part-init c =
    let pool = c.args.pool.now in
    let none = c.new-stack.ensures.items in
    record {
      trees = ap (λ s. reverse (map (tree_at pool.trees) s)) none ∙ sym (stacked_none pool.trees);
      live = λ k d l. absurd (omega (arith, ap length none));
      grows = Grows_refl pool;
      spare = omega arith;
      few = omega arith;
    }

pub add-requires-clause-spare : goal.add-requires-clause-spare
add-requires-clause-spare c =
    let ps = c.args.parts.now.items.items in
    let i = c.loop-part.part-index in
    let value = c.as_slice-part-items.ensures.value in
    omega (arith, c.requires.spare, c.loop-part.invariant.spare, next_room c.args.pool.now.trees ps i (There None) _ (omega (arith, ap length value)) (ap (λ xs. get_or xs i (There None)) (sym value)))

pub returns-in_err-add-clause-spare : goal.returns-in_err-add-clause-spare
returns-in_err-add-clause-spare c =
    let ps = c.args.parts.now.items.items in
    let i = c.loop-part.part-index in
    let value = c.as_slice-part-items.ensures.value in
    omega (arith, c.add.ensures.spare, c.loop-part.invariant.spare, next_room c.args.pool.now.trees ps i (There None) _ (omega (arith, ap length value)) (ap (λ xs. get_or xs i (There None)) (sym value)))

pub returns-in_err-add-clause-few : goal.returns-in_err-add-clause-few
returns-in_err-add-clause-few c =
    let ps = c.args.parts.now.items.items in
    let i = c.loop-part.part-index in
    let value = c.as_slice-part-items.ensures.value in
    omega (arith, c.add.ensures.few, c.loop-part.invariant.few, next_room c.args.pool.now.trees ps i (There None) _ (omega (arith, ap length value)) (ap (λ xs. get_or xs i (There None)) (sym value)))

pub loop-part-preserved : goal.loop-part-preserved
loop-part-preserved c =
    let before = c.args.pool.now in
    let ps = c.args.parts.now.items.items in
    let i = c.loop-part.part-index in
    let value = c.as_slice-part-items.ensures.value in
    let here : i < length ps = omega (arith, ap length value) in
    let is = ap (λ xs. get_or xs i (There None)) (sym value) in
    let invariant = c.loop-part.invariant in
    let count = overs_next ps i (There None) _ here is in
    let stack = reverse (map (tree_at c.loop-part.pool.trees) c.loop-part.stack.items) in
    record {
      trees =
          c.in_ok-add.ensures.trees
          ∙ (laid_grown before c.loop-part.pool _ stack invariant.grows (subst (IsLivePart (length before.trees)) is (c.requires.live i (There None) here))
          ∙ (ap (laid before.trees (get_or c.as_slice-part-items.result.now i (There None))) invariant.trees ∙ sym (stacked_next ps i (There None) _ here is before.trees)));
      live = c.in_ok-add.ensures.live;
      grows = Grows_trans before c.loop-part.pool c.add.new.pool invariant.grows c.add.ensures.grows;
      spare = omega (arith, count, invariant.spare, c.add.ensures.spare);
      few = omega (arith, count, invariant.few, c.add.ensures.few);
    }

pub returns-clause-tree : goal.returns-clause-tree
returns-clause-tree c =
    let before = c.args.pool.now in
    let ps = c.args.parts.now.items.items in
    let all = take_all c.loop-part.part-index ps (omega (arith, ap length c.as_slice-part-items.ensures.value, c.loop-part-test.false)) in
    ap (tree_at c.loop-part.pool.trees) c.unwrap_or.ensures
    ∙ (top_popped (tree_at c.loop-part.pool.trees) c.loop-part.stack.items c.pop.new.self.items c.pop.result (tree_at_None c.loop-part.pool.trees) c.pop.ensures.items (λ l. c.pop.ensures.variant.1 (omega arith))
    ∙ ap top_of (c.loop-part.invariant.trees ∙ ap (stacked before.trees []) all))
