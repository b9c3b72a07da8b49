use Rattle.std.proofs.Common.{◌≡◌, ℕ, zero, suc, List, [], ◌∷◌, Option, Some, None, refl, sym, subst}
use Rattle.cv_costs.specs.Factors.{with_parameter}
use Rattle.cv_costs.specs.names.Naming.{first_naming}
use Rattle.cv_costs.specs.names.Reach.{is_in_scope}
use Rattle.cv_costs.specs.wording.Changing.{changed_at}
use Rattle.cv_meaning.specs.Queries.{queries_in}
use Rattle.cv_meaning.specs.Replaced.{replaced}
use Rattle.cv_path.specs.Copies.{copies_at, parameters}
use Rattle.cv_rule_birthday.specs.guess.Guessing.{falsified, first_read}
use Rattle.cv_rule_fresh.specs.collisions.Choices.{choice_in}
use Rattle.cv_scene.specs.Derivations.{first_bad}
use Rattle.cv_scene.specs.Instances.{standing_for}
use Rattle.cv_scene.specs.Large.{first_other_site}
use Rattle.cv_scene.specs.Late.{is_defined_in, is_late}
use Rattle.cv_scene.specs.Refusals.{first_in_condition}
use Rattle.cv_scene.specs.Scenes.{first_reading, has_news_alone, has_some_new, names}
use Rattle.cv_scene.specs.Terms.{is_there}
use Rattle.cv_scene.specs.lines.Given.{with_given}
use Rattle.cv_scene.specs.lines.Lines.{lines_of, statements}
use Rattle.cv_scope_rules.specs.Above.{standing_at}
use Rattle.cv_scope_rules.specs.Behind.{sites_in}
use Rattle.cv_scope_rules.specs.Context.{context_at}
use Rattle.cv_scope_rules.specs.Made.{is_bound}
use Rattle.cv_scope_rules.specs.Phrases.{binds_none, is_phrase}
use Rattle.cv_scope_rules.specs.Sites.{sites_from}
use Rattle.cv_scope_rules.specs.typing.Parts.{first_in}
use Rattle.cv_scope_rules.specs.typing.Signature.{names_in}
use Rattle.cv_scope_rules.specs.typing.Typing.{binders_differ}
use Rattle.cv_scope_rules.specs.typing.Wants.{all_bound}
use Rattle.cv_settling_rules.specs.Conjuncts.{parts_of}
use Rattle.cv_settling_rules.specs.Measure.{large_equalities}
use Rattle.cv_settling_rules.specs.Spots.{spots_in}
use Rattle.cv_settling_rules.specs.Variables.{definitions_in, reads_in}
use Rattle.cv_steps.specs.Changes.{without}
use Rattle.cv_steps.specs.Rewriting.{has_term_at}
use Rattle.cv_steps.specs.Unletting.{is_listed, with_term}
use Rattle.cv_syntax.specs.faults.Walk.{first_fault}
use Rattle.cv_syntax_trees.specs.Tree.{depth, same_tree, size, subtree}
use Rattle.cv_syntax_trees.specs.sites.Counting.{count}
use Rattle.cv_syntax_trees.specs.sites.Sites.{bound_sort, first_index, first_site, is_untyped_in}
use Rattle.cv_syntax_trees.specs.Tree.{Tree, Empty, lone, reads_only}
use Rattle.cv_syntax_trees.specs.declared.head.Head.TheVariants.{Yes}
use Rattle.cv_query_certificates.specs.Worked.{some_begun}
use Rattle.cv_scene.specs.Scenes.{Scene}
use Rattle.cv_scene.specs.Sights.{from_one}
use Rattle.cv_direct_rules.specs.Direct.{IsDirect}
use Rattle.cv_settling_rules.specs.Candidates.{Birthday, Guess, Merge, Rewrite, Unnew}
use Rattle.cv_settling_rules.specs.Worked.{equal, own}
use Rattle.cv_strategy_rules.specs.Worked.{absurd_else, asked, at_rest, by_first, guessing, read_once, shorter, unused}
use Rattle.cv_strategy_rules.proofs.Refuted.{idle, refuted, unlowered}
use Rattle.cv_strategy_rules.proofs.worked_games.Goals as goal

pub returns-clause-prune : goal.returns-clause-prune
unfolding spots_in parts_of large_equalities definitions_in reads_in size depth subtree same_tree first_site bound_sort first_index is_untyped_in count sites_in is_bound context_at standing_at sites_from is_phrase binds_none first_in binders_differ names_in all_bound first_fault names has_some_new has_news_alone first_reading first_in_condition standing_for is_there first_other_site with_given lines_of statements first_bad is_late is_defined_in queries_in replaced without with_term is_listed has_term_at changed_at first_naming is_in_scope with_parameter copies_at parameters falsified first_read choice_in
returns-clause-prune c = record {
  behind = record { before = []; after = _; all = refl; none = tt };
  settles = record { by = absurd_else; next = _; legal = record { leads = record { stands = refl; cost = _; row = refl }; game = refl }; lower = refl };
}

pub returns-clause-merge : goal.returns-clause-merge
unfolding spots_in parts_of large_equalities definitions_in reads_in size depth subtree same_tree first_site bound_sort first_index is_untyped_in count sites_in is_bound context_at standing_at sites_from is_phrase binds_none first_in binders_differ names_in all_bound first_fault names has_some_new has_news_alone first_reading first_in_condition standing_for is_there first_other_site with_given lines_of statements first_bad is_late is_defined_in queries_in replaced without with_term is_listed has_term_at changed_at first_naming is_in_scope with_parameter copies_at parameters falsified first_read choice_in
returns-clause-merge c = record {
  behind = record { before = []; after = _; all = refl; none = tt };
  settles = record { by = Empty; next = _; legal = record { leads = record { stands = refl; cost = _; row = refl }; game = refl }; lower = refl };
}

pub returns-clause-unnew : goal.returns-clause-unnew
unfolding spots_in parts_of large_equalities definitions_in reads_in size depth subtree same_tree first_site bound_sort first_index is_untyped_in count sites_in is_bound context_at standing_at sites_from is_phrase binds_none first_in binders_differ names_in all_bound first_fault names has_some_new has_news_alone first_reading first_in_condition standing_for is_there first_other_site with_given lines_of statements first_bad is_late is_defined_in queries_in replaced without with_term is_listed has_term_at changed_at first_naming is_in_scope with_parameter copies_at parameters falsified first_read choice_in
returns-clause-unnew c = record {
  behind = record { before = Unnew 9 ∷ []; after = _; all = refl; none = (refuted unused (Unnew 9) 1 0 (λ by. refl), tt) };
  settles = record { by = Empty; next = _; legal = record { leads = record { stands = refl; cost = _; row = refl }; game = refl }; lower = refl };
}

pub returns-clause-unlet : goal.returns-clause-unlet
unfolding spots_in parts_of large_equalities definitions_in reads_in size depth subtree same_tree first_site bound_sort first_index is_untyped_in count sites_in is_bound context_at standing_at sites_from is_phrase binds_none first_in binders_differ names_in all_bound first_fault names has_some_new has_news_alone first_reading first_in_condition standing_for is_there first_other_site with_given lines_of statements first_bad is_late is_defined_in queries_in replaced without with_term is_listed has_term_at changed_at first_naming is_in_scope with_parameter copies_at parameters falsified first_read choice_in
returns-clause-unlet c = record {
  behind = record { before = Unnew 9 ∷ Unnew 10 ∷ []; after = _; all = refl; none = (refuted read_once (Unnew 9) 1 0 (λ by. refl), (refuted read_once (Unnew 10) 1 0 (λ by. refl), tt)) };
  settles = record { by = Empty; next = _; legal = record { leads = record { stands = refl; cost = _; row = refl }; game = refl }; lower = refl };
}

pub returns-clause-rewrite : goal.returns-clause-rewrite
unfolding spots_in parts_of large_equalities definitions_in reads_in size depth subtree same_tree first_site bound_sort first_index is_untyped_in count sites_in is_bound context_at standing_at sites_from is_phrase binds_none first_in binders_differ names_in all_bound first_fault names has_some_new has_news_alone first_reading first_in_condition standing_for is_there first_other_site with_given lines_of statements first_bad is_late is_defined_in queries_in replaced without with_term is_listed has_term_at changed_at first_naming is_in_scope with_parameter copies_at parameters falsified first_read choice_in
returns-clause-rewrite c = record {
  behind = record { before = Unnew 9 ∷ []; after = _; all = refl; none = (refuted shorter (Unnew 9) 1 0 (λ by. refl), tt) };
  settles = record { by = by_first; next = _; legal = record { leads = record { stands = refl; cost = _; row = refl }; game = refl }; lower = refl };
}

pub returns-clause-guess : goal.returns-clause-guess
unfolding spots_in parts_of large_equalities definitions_in reads_in size depth subtree same_tree first_site bound_sort first_index is_untyped_in count sites_in is_bound context_at standing_at sites_from is_phrase binds_none first_in binders_differ names_in all_bound first_fault names has_some_new has_news_alone first_reading first_in_condition standing_for is_there first_other_site with_given lines_of statements first_bad is_late is_defined_in queries_in replaced without with_term is_listed has_term_at changed_at first_naming is_in_scope with_parameter copies_at parameters falsified first_read choice_in
returns-clause-guess c = record {
  behind = record {
    before = Merge 3 ∷ Unnew 9 ∷ Unnew 4 ∷ Rewrite 4 (equal (equal (own 4) (own 9)) (lone Yes)) ∷ Rewrite 4 (equal (own 9) (own 4)) ∷ Birthday 9 [] ∷ Birthday 4 [] ∷ Guess 9 (4 ∷ []) ∷ [];
    after = _;
    all = refl;
    none = (
      refuted (guessing []) (Merge 3) 2 _ (λ by. refl),
      (
        refuted (guessing []) (Unnew 9) 1 0 (λ by. refl),
        (
          refuted (guessing []) (Unnew 4) 2 5 (λ by. refl),
          (
            unlowered (guessing []) 4 (equal (equal (own 4) (own 9)) (lone Yes)) refl,
            (
              unlowered (guessing []) 4 (equal (own 9) (own 4)) refl,
              (
                refuted (guessing []) (Birthday 9 []) 2 1 (λ by. refl),
                (
                  idle (guessing []) (Birthday 4 []) _ _ (λ by. refl) refl,
                  (
                    refuted (guessing []) (Guess 9 (4 ∷ [])) 2 1 (λ by. refl),
                    tt,
                  ),
                ),
              ),
            ),
          ),
        ),
      ),
    );
  };
  settles = record { by = Empty; next = _; legal = record { leads = record { stands = refl; cost = _; row = refl }; game = refl }; lower = refl };
}

pub returns-clause-fresh : goal.returns-clause-fresh
unfolding spots_in parts_of large_equalities definitions_in reads_in size depth subtree same_tree first_site bound_sort first_index is_untyped_in count sites_in is_bound context_at standing_at sites_from is_phrase binds_none first_in binders_differ names_in all_bound first_fault names has_some_new has_news_alone first_reading first_in_condition standing_for is_there first_other_site with_given lines_of statements first_bad is_late is_defined_in queries_in replaced without with_term is_listed has_term_at changed_at first_naming is_in_scope with_parameter copies_at parameters falsified first_read choice_in
returns-clause-fresh c = record {
  behind = record {
    before = Merge 3 ∷ Unnew 9 ∷ Unnew 4 ∷ Rewrite 4 (equal (equal (own 4) (own 9)) (lone Yes)) ∷ Rewrite 4 (equal (own 9) (own 4)) ∷ Birthday 9 [] ∷ Birthday 4 [] ∷ Guess 9 (4 ∷ []) ∷ Guess 4 (4 ∷ []) ∷ [];
    after = _;
    all = refl;
    none = (
      refuted (guessing (own 4 ∷ [])) (Merge 3) 2 _ (λ by. refl),
      (
        refuted (guessing (own 4 ∷ [])) (Unnew 9) 1 0 (λ by. refl),
        (
          refuted (guessing (own 4 ∷ [])) (Unnew 4) 2 5 (λ by. refl),
          (
            unlowered (guessing (own 4 ∷ [])) 4 (equal (equal (own 4) (own 9)) (lone Yes)) refl,
            (
              unlowered (guessing (own 4 ∷ [])) 4 (equal (own 9) (own 4)) refl,
              (
                refuted (guessing (own 4 ∷ [])) (Birthday 9 []) 2 1 (λ by. refl),
                (
                  idle (guessing (own 4 ∷ [])) (Birthday 4 []) _ _ (λ by. refl) refl,
                  (
                    refuted (guessing (own 4 ∷ [])) (Guess 9 (4 ∷ [])) 2 1 (λ by. refl),
                    (
                      refuted (guessing (own 4 ∷ [])) (Guess 4 (4 ∷ [])) 3 _ (λ by. refl),
                      tt,
                    ),
                  ),
                ),
              ),
            ),
          ),
        ),
      ),
    );
  };
  settles = record { by = Empty; next = _; legal = record { leads = record { stands = refl; cost = _; row = refl }; game = refl }; lower = refl };
}

pub returns-clause-settled : goal.returns-clause-settled
unfolding spots_in parts_of large_equalities definitions_in reads_in size depth subtree same_tree first_site bound_sort first_index is_untyped_in count sites_in is_bound context_at standing_at sites_from is_phrase binds_none first_in binders_differ names_in all_bound first_fault names has_some_new has_news_alone first_reading first_in_condition standing_for is_there first_other_site with_given lines_of statements first_bad is_late is_defined_in queries_in replaced without with_term is_listed has_term_at changed_at first_naming is_in_scope with_parameter copies_at parameters falsified first_read choice_in
returns-clause-settled c = (refuted at_rest (Unnew 9) 1 0 (λ by. refl), (refuted at_rest (Birthday 9 []) 2 1 (λ by. refl), (refuted at_rest (Guess 9 []) 2 1 (λ by. refl), tt)))

some_none : (x : ℕ × ℕ) (xs : List (ℕ × ℕ)) → ◌≡◌ {A = List (ℕ × ℕ)} (x ∷ xs) [] → ⊥
some_none x xs e = cc

other : (t u : Tree) → ◌≡◌ {A = Option Tree} (Some t) (Some u) → t ≡ u
other t u e = cc

nothing : (t : Tree) → ◌≡◌ {A = Option Tree} None (Some t) → ⊥
nothing t e = cc

the_query : (k : ℕ) (q query : Tree) → from_one (q ∷ []) k ≡ Some query → q ≡ query
the_query zero q query e = absurd (nothing query e)
the_query (suc zero) q query e = other q query e
the_query (suc (suc k)) q query e = absurd (nothing query e)

undirect : (s : Scene) → IsDirect s some_begun → ⊥
unfolding reads_only
undirect s d = some_none _ _ d.known

pub returns-clause-stuck : goal.returns-clause-stuck
unfolding spots_in parts_of large_equalities definitions_in reads_in size depth subtree same_tree first_site bound_sort first_index is_untyped_in count sites_in is_bound context_at standing_at sites_from is_phrase binds_none first_in binders_differ names_in all_bound first_fault names has_some_new has_news_alone first_reading first_in_condition standing_for is_there first_other_site with_given lines_of statements first_bad is_late is_defined_in queries_in replaced without with_term is_listed has_term_at changed_at first_naming is_in_scope with_parameter copies_at parameters falsified first_read choice_in
returns-clause-stuck c = record {
  due = record {
    settled = (refuted asked (Unnew 9) 1 0 (λ by. refl), (refuted asked (Birthday 9 []) 2 1 (λ by. refl), (refuted asked (Guess 9 []) 2 1 (λ by. refl), tt)));
    some = (1, some_begun, record { there = refl; unclosed = refl });
    none = λ k query o d. undirect asked (subst (IsDirect asked) (sym (the_query k some_begun query o.there)) d);
  };
  unmoved = tt;
}
