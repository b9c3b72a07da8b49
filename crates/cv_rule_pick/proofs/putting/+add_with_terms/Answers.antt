use Rattle.std.proofs.Common.{◌∷◌, ◌∙◌, [], Some, ap, arith, length, length-append, option_map, sym}
use Rattle.std.proofs.lemmas.Result.{on_ok_weaker}
use Rattle.cv_syntax.specs.PoolTrees.{tree_at}
use Rattle.cv_syntax.specs.Postorder.{joined}
use Rattle.cv_syntax.proofs.Trees.{child_above, child_live, empty_at, node_at, tree_at_None}
use Rattle.cv_scope_rules.specs.Context.{cells_of}
use Rattle.cv_edit_places.specs.Parts.{closed, stack_of}
use Rattle.cv_edit_places.proofs.Stacks.{closed_push}
use Rattle.cv_rule_pick.specs.Picking.{with_terms}
use Rattle.cv_rule_pick.proofs.WithTerms.{made_end, none_made, one_made, put_end, put_here, put_later}
use Rattle.cv_rule_pick.proofs.putting.+add_with_terms.Goals as goal

pub chain-preserved : goal.chain-preserved
chain-preserved t c =
    let trees = c.args.pool.now.trees in
    let cs = cells_of c.args.replications.now (tree_at trees c.args.binders) in
    let ms = tree_at trees c.args.terms in
    let node = c.read_node-node.result in
    let heads = c.chain.heads.items in
    let old = stack_of trees c.chain.parts in
    let a = tree_at trees node.first in
    let b = tree_at trees node.second in
    let e = node_at trees c.chain.at c.in-Some.k node c.in-Some.is c.read_node-node.ensures.tree in
    let f = ap (λ o. Rattle.cv_rule_pick.specs.Picking.term_of cs ms (tree_at trees o)) c.in-Some.is ∙ (sym c.term_of.ensures.term ∙ ap (option_map (tree_at trees)) c.in_default-term_of.is) in
    let pushed = c.in_ok-push.ensures.items in
    record {
      below = child_above _ c.chain.at c.in-Some.k node.second c.in-Some.is c.chain.invariant.below c.read_node-node.ensures.second;
      live = child_live (length trees) c.chain.at c.in-Some.k node.second c.in-Some.is c.chain.invariant.live c.read_node-node.ensures.second;
      stack =
          ap (λ hs. closed hs (with_terms cs ms b ∷ stack_of trees c.add_with_terms.new.parts)) pushed
          ∙ (closed_push heads node.head (with_terms cs ms b ∷ stack_of trees c.add_with_terms.new.parts)
          ∙ (ap (λ s. closed heads (joined node.head (with_terms cs ms b ∷ s))) c.in_ok-add_with_terms.ensures.stack
          ∙ (ap (λ u. closed heads (u ∷ old)) (sym (put_later cs ms (tree_at trees c.chain.at) node.head a b e f))
          ∙ c.chain.invariant.stack)));
      made = omega (arith, c.chain.invariant.made, c.in_ok-add_with_terms.ensures.made, ap length pushed, length-append heads (node.head ∷ []), one_made cs ms (tree_at trees c.chain.at) node.head a b e f);
      alive = λ l. c.in_ok-add_with_terms.ensures.live (c.chain.invariant.alive l);
    }

pub returns-in-Some-term_of-clause-stack : goal.returns-in-Some-term_of-clause-stack
returns-in-Some-term_of-clause-stack t c =
    let trees = c.args.pool.now.trees in
    let cs = cells_of c.args.replications.now (tree_at trees c.args.binders) in
    let ms = tree_at trees c.args.terms in
    let old = stack_of trees c.chain.parts in
    let heads = c.chain.heads.items in
    let f = ap (λ o. Rattle.cv_rule_pick.specs.Picking.term_of cs ms (tree_at trees o)) c.in-Some.is ∙ (sym c.term_of.ensures.term ∙ ap (option_map (tree_at trees)) c.in-Some-term_of.is) in
    let node = c.read_node-node.result in
    let e = node_at trees c.chain.at c.in-Some.k node c.in-Some.is c.read_node-node.ensures.tree in
    let here = put_here cs ms (tree_at trees c.chain.at) node.head (tree_at trees node.first) (tree_at trees node.second) e (tree_at trees c.in-Some-term_of.term) f in
    let base = c.in_ok-there.ensures.stack trees ∙ sym (ap (λ u. u ∷ old) here) in
    on_ok_weaker c.close.result (λ k. k trees ∙ (ap (closed heads) base ∙ c.chain.invariant.stack)) c.close.ensures.stack

pub returns-in-Some-term_of-clause-made : goal.returns-in-Some-term_of-clause-made
returns-in-Some-term_of-clause-made t c =
    let trees = c.args.pool.now.trees in
    let cs = cells_of c.args.replications.now (tree_at trees c.args.binders) in
    let ms = tree_at trees c.args.terms in
    let f = ap (λ o. Rattle.cv_rule_pick.specs.Picking.term_of cs ms (tree_at trees o)) c.in-Some.is ∙ (sym c.term_of.ensures.term ∙ ap (option_map (tree_at trees)) c.in-Some-term_of.is) in
    let node = c.read_node-node.result in
    let e = node_at trees c.chain.at c.in-Some.k node c.in-Some.is c.read_node-node.ensures.tree in
    let end = none_made cs ms (tree_at trees c.chain.at) node.head (tree_at trees node.first) (tree_at trees node.second) e (tree_at trees c.in-Some-term_of.term) f in
    on_ok_weaker c.close.result (λ k. omega (arith, k, c.in_ok-there.ensures.made, c.chain.invariant.made, end)) c.close.ensures.made

pub returns-in-Some-term_of-clause-live : goal.returns-in-Some-term_of-clause-live
returns-in-Some-term_of-clause-live t c =
    let n = length c.args.pool.now.trees in
    on_ok_weaker c.close.result (λ k a. k n (c.in_ok-there.ensures.live n (c.chain.invariant.alive a) c.in-Some-term_of.ensures.live)) c.close.ensures.live

pub returns-clause-stack : goal.returns-clause-stack
returns-clause-stack t c =
    let trees = c.args.pool.now.trees in
    let cs = cells_of c.args.replications.now (tree_at trees c.args.binders) in
    let ms = tree_at trees c.args.terms in
    let old = stack_of trees c.chain.parts in
    let heads = c.chain.heads.items in
    let end = put_end cs ms (tree_at trees c.chain.at) (empty_at trees c.chain.at c.in_default.is) in
    let base = c.in_ok-there-2.ensures.stack trees ∙ (ap (λ u. u ∷ old) (tree_at_None trees) ∙ sym (ap (λ u. u ∷ old) end)) in
    on_ok_weaker c.close-2.result (λ k. k trees ∙ (ap (closed heads) base ∙ c.chain.invariant.stack)) c.close-2.ensures.stack

pub returns-clause-made : goal.returns-clause-made
returns-clause-made t c =
    let trees = c.args.pool.now.trees in
    let cs = cells_of c.args.replications.now (tree_at trees c.args.binders) in
    let ms = tree_at trees c.args.terms in
    let end = made_end cs ms (tree_at trees c.chain.at) (empty_at trees c.chain.at c.in_default.is) in
    on_ok_weaker c.close-2.result (λ k. omega (arith, k, c.in_ok-there-2.ensures.made, c.chain.invariant.made, end)) c.close-2.ensures.made

pub returns-clause-live : goal.returns-clause-live
returns-clause-live t c =
    let n = length c.args.pool.now.trees in
    on_ok_weaker c.close-2.result (λ k a. k n (c.in_ok-there-2.ensures.live n (c.chain.invariant.alive a) tt)) c.close-2.ensures.live
