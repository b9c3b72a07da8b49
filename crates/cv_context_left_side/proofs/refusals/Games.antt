-- Each phrase of a game without a refusal is apt.
use Rattle.std.proofs.Common.{◌≡◌, ℕ, ◌+◌, ◌<◌, Bool, true, false, ◌&&◌, List, [], ◌∷◌, ◌++◌, length, Option, None, refl}
use Rattle.std.proofs.lemmas.Bool.{both_ways, and_parts}
use Rattle.cv_syntax_trees.specs.declared.head.Head.TheVariants.{Branch, Cons, Event, Find, If, In, Let, New, Out, Par, Repl, Stop, Yield}
use Rattle.cv_syntax_trees.specs.Tree.{Tree, Empty, Node, first_place, second_place}
use Rattle.cv_meaning.specs.Interpretation.{is_constant_of}
use Rattle.cv_scope_rules.specs.Phrases.{Arm, Binders, Body, Branches, Cells, Else, Guarded, Guards, Inputs, Message, Nil, Pattern, Term, Terms, Then, is_phrase}
use Rattle.cv_scope_rules.specs.Scope.{is_variable}
use Rattle.cv_scope_rules.specs.declared.position.Position.TheVariants as position
use Rattle.cv_scene.specs.Apt.{AreTermsApt, IsApt, has_value}
use Rattle.cv_scene.specs.Instances.{call_at}
use Rattle.cv_scene.specs.Reductions.{Reduction, is_coin, matching}
use Rattle.cv_match_laws.proofs.names.Bindings.{below_own, branch_plain, input_plain, let_plain, new_no_answer}
use Rattle.cv_context_runs.specs.instances.Statements.{AreTermsOf, HasOwnSites}
use Rattle.cv_context_runs.proofs.instances.Arguments.{unread_unused}
use Rattle.cv_context_runs.proofs.instances.Outside.{free_message, free_term, free_terms, unnamed_unused}
use Rattle.cv_context_runs.proofs.instances.Statements.{below_message, below_term, below_terms, terms_apt}
use Rattle.cv_context_runs.proofs.instances.Terms.{only_terms}
use Rattle.cv_context_left_side.proofs.refusals.Cells as cells
use Rattle.cv_context_left_side.proofs.refusals.Cells.{IsAway, condition_apt, index_apt}
use Rattle.cv_context_left_side.proofs.refusals.Children.{Stands, constants_parts, first_stands, guarded_coins, guarded_indices, guarded_key, news_parts, second_stands}
use Rattle.cv_context_left_side.proofs.refusals.Keys.{key_free}
use Rattle.cv_context_left_side.proofs.refusals.Small.{binders_apt, cells_apt, message_apt, nil_apt, pattern_apt, term_apt, terms_apt as list_apt}

module _ (r : Reduction) (own : HasOwnSites r) (key_variable : is_variable r.scene.game r.key ≡ true) (coin_variable : (y : ℕ) → is_coin r y ≡ true → is_variable r.scene.game y ≡ true) where
  only : (t : Tree) → has_value t ≡ false → call_at (matching r) t ≡ None
  only t e = only_terms r.scene.declarations (matching r) t own.left e

  -- terms of statements

  of_terms : (rs : List (ℕ × ℕ)) (n p : ℕ) (t : Tree) → Stands r position.Anywhere rs n p t → AreTermsOf r rs n p t
  of_terms rs n p t s = record {
    key = s.key;
    coins = s.coins;
    answers = s.names.answers;
    sites = s.sites;
    indices = λ k c f. key_free r own.left position.Anywhere rs p t s.indices k (n + k) c f (s.sites k c f);
  }

  term_fine : (rs : List (ℕ × ℕ)) (n p : ℕ) (t : Tree) → is_phrase Term t ≡ true → Stands r position.Anywhere rs n p t → AreTermsApt r rs n t
  term_fine rs n p t e s = terms_apt r own rs n p t (of_terms rs n p t s) (free_term (matching r) t e) (below_term (matching r) rs t e 0 p)

  terms_fine : (rs : List (ℕ × ℕ)) (n p : ℕ) (t : Tree) → is_phrase Terms t ≡ true → Stands r position.Anywhere rs n p t → AreTermsApt r rs n t
  terms_fine rs n p t e s = terms_apt r own rs n p t (of_terms rs n p t s) (free_terms (matching r) t e) (below_terms (matching r) rs t e 0 p)

  message_fine : (rs : List (ℕ × ℕ)) (n p : ℕ) (t : Tree) → is_phrase Message t ≡ true → Stands r position.Anywhere rs n p t → AreTermsApt r rs n t
  message_fine rs n p t e s = terms_apt r own rs n p t (of_terms rs n p t s) (free_message (matching r) t e) (below_message (matching r) rs t e 0 p)

  -- cells and conditions

  guards_away : (rs : List (ℕ × ℕ)) (n p : ℕ) (a b : Tree) → Stands r position.Guards rs n p (Node Cons a b) → IsAway r a
  guards_away rs n p a b s = record { coins = guarded_coins r only position.Guards rs n p Cons a b refl s refl; answers = λ k l. unnamed_unused (r.answer k) a ((below_own r Cons a b s.names).0.answers k l) }

  guarded_away : (rs : List (ℕ × ℕ)) (n p : ℕ) (a b : Tree) → Stands r position.Guarded rs n p (Node Cons a b) → IsAway r a
  guarded_away rs n p a b s = record { coins = guarded_coins r only position.Guarded rs n p Cons a b refl s refl; answers = λ k l. unnamed_unused (r.answer k) a ((below_own r Cons a b s.names).0.answers k l) }

  -- phrases with statements

  mutual
    unfolding is_phrase IsApt

    pub inputs_apt : (rs : List (ℕ × ℕ)) (n p : ℕ) (t : Tree) → is_phrase Inputs t ≡ true → Stands r position.Anywhere rs n p t → IsApt r Inputs rs n t
    inputs_apt rs n p (Node Stop a b) e s = let q = and_parts (is_phrase Nil a) _ e in (tt, (nil_apt r a q.0 rs _, nil_apt r b q.1 rs _))
    inputs_apt rs n p (Node Par a b) e s =
        let q = and_parts (is_phrase Inputs a) _ e in
        (tt, (inputs_apt rs n _ a q.0 (first_stands r only position.Anywhere rs n p Par a b refl s refl refl), inputs_apt rs _ _ b q.1 (second_stands r only position.Anywhere rs n p Par a b refl s)))
    inputs_apt rs n p (Node (Repl i m) a b) e s =
        let q = and_parts (is_phrase Nil a) _ e in (
          index_apt r key_variable coin_variable rs i m a b (news_parts (is_variable r.scene.game) rs (Repl i m) a b s.news).0 (constants_parts (is_constant_of r.scene.declarations) (Repl i m) a b s.constants).0 s.names.answers,
          (nil_apt r a q.0 rs _, inputs_apt (rs ++ (i, m) ∷ []) _ _ b q.1 (second_stands r only position.Anywhere rs n p (Repl i m) a b refl s)),
        )
    inputs_apt rs n p (Node (In c) a b) e s =
        let q = and_parts (is_phrase Pattern a) _ e in
        (input_plain r c a b s.names, (pattern_apt r a q.0 rs _, body_apt rs _ _ b q.1 (second_stands r only position.Anywhere rs n p (In c) a b refl s)))
    inputs_apt rs n p t e s = absurd (both_ways false refl e)

    body_apt : (rs : List (ℕ × ℕ)) (n p : ℕ) (t : Tree) → is_phrase Body t ≡ true → Stands r position.Anywhere rs n p t → IsApt r Body rs n t
    body_apt rs n p (Node Yield a b) e s = let q = and_parts (is_phrase Nil a) _ e in (tt, (nil_apt r a q.0 rs _, nil_apt r b q.1 rs _))
    body_apt rs n p (Node (New x T) a b) e s =
        let q = and_parts (is_phrase Nil a) _ e in
        (new_no_answer r x T a b s.names, (nil_apt r a q.0 rs _, body_apt rs _ _ b q.1 (second_stands r only position.Anywhere rs n p (New x T) a b refl s)))
    body_apt rs n p (Node (Let x T) a b) e s =
        let q = and_parts (is_phrase Term a) _ e in
        ((let_plain r x T a b s.names, term_fine rs n _ a q.0 (first_stands r only position.Anywhere rs n p (Let x T) a b refl s refl refl)), (term_apt r a q.0 rs _, body_apt rs _ _ b q.1 (second_stands r only position.Anywhere rs n p (Let x T) a b refl s)))
    body_apt rs n p (Node (Event v) a b) e s =
        let q = and_parts (is_phrase Terms a) _ e in
        (terms_fine rs n _ a q.0 (first_stands r only position.Anywhere rs n p (Event v) a b refl s refl refl), (list_apt r a q.0 rs _, body_apt rs _ _ b q.1 (second_stands r only position.Anywhere rs n p (Event v) a b refl s)))
    body_apt rs n p (Node (Out c) a b) e s =
        let q = and_parts (is_phrase Message a) _ e in
        (message_fine rs n _ a q.0 (first_stands r only position.Anywhere rs n p (Out c) a b refl s refl refl), (message_apt r a q.0 rs _, inputs_apt rs _ _ b q.1 (second_stands r only position.Anywhere rs n p (Out c) a b refl s)))
    body_apt rs n p (Node If a b) e s =
        let q = and_parts (is_phrase Term a) _ e in
        (term_fine rs n _ a q.0 (first_stands r only position.Anywhere rs n p If a b refl s refl refl), (term_apt r a q.0 rs _, then_apt rs _ _ b q.1 (second_stands r only position.Anywhere rs n p If a b refl s)))
    body_apt rs n p (Node (Find l) a b) e s =
        let q = and_parts (is_phrase Branches a) _ e in
        (tt, (branches_apt rs n _ a q.0 (first_stands r only position.Anywhere rs n p (Find l) a b refl s refl refl), body_apt rs _ _ b q.1 (second_stands r only position.Anywhere rs n p (Find l) a b refl s)))
    body_apt rs n p t e s = absurd (both_ways false refl e)

    then_apt : (rs : List (ℕ × ℕ)) (n p : ℕ) (t : Tree) → is_phrase Then t ≡ true → Stands r position.Bodies rs n p t → IsApt r Then rs n t
    then_apt rs n p (Node Cons a b) e s =
        let q = and_parts (is_phrase Body a) _ e in
        (tt, (body_apt rs n _ a q.0 (first_stands r only position.Bodies rs n p Cons a b refl s refl refl), else_apt rs _ _ b q.1 (second_stands r only position.Bodies rs n p Cons a b refl s)))
    then_apt rs n p t e s = absurd (both_ways false refl e)

    else_apt : (rs : List (ℕ × ℕ)) (n p : ℕ) (t : Tree) → is_phrase Else t ≡ true → Stands r position.ElseBody rs n p t → IsApt r Else rs n t
    else_apt rs n p (Node Cons a b) e s =
        let q = and_parts (is_phrase Body a) _ e in
        (tt, (body_apt rs n _ a q.0 (first_stands r only position.ElseBody rs n p Cons a b refl s refl refl), nil_apt r b q.1 rs _))
    else_apt rs n p t e s = absurd (both_ways false refl e)

    branches_apt : (rs : List (ℕ × ℕ)) (n p : ℕ) (t : Tree) → is_phrase Branches t ≡ true → Stands r position.Branches rs n p t → IsApt r Branches rs n t
    branches_apt rs n p Empty e s = tt
    branches_apt rs n p (Node Cons a b) e s =
        let q = and_parts (is_phrase Arm a) _ e in
        (tt, (arm_apt rs n _ a q.0 (first_stands r only position.Branches rs n p Cons a b refl s refl refl), branches_apt rs _ _ b q.1 (second_stands r only position.Branches rs n p Cons a b refl s)))
    branches_apt rs n p t e s = absurd (both_ways false refl e)

    arm_apt : (rs : List (ℕ × ℕ)) (n p : ℕ) (t : Tree) → is_phrase Arm t ≡ true → Stands r position.Anywhere rs n p t → IsApt r Arm rs n t
    arm_apt rs n p (Node Branch a b) e s =
        let q = and_parts (is_phrase Binders a) _ e in
        (branch_plain r a b s.names, (binders_apt r a q.0 rs _, guards_apt rs _ _ b q.1 (second_stands r only position.Anywhere rs n p Branch a b refl s)))
    arm_apt rs n p t e s = absurd (both_ways false refl e)

    guards_apt : (rs : List (ℕ × ℕ)) (n p : ℕ) (t : Tree) → is_phrase Guards t ≡ true → Stands r position.Guards rs n p t → IsApt r Guards rs n t
    guards_apt rs n p (Node Cons a b) e s =
        let q = and_parts (is_phrase Cells a) _ e in (
          cells.cells_apt r a q.0 (guards_away rs n p a b s) (guarded_indices r only position.Guards rs n p Cons a b refl s),
          (cells_apt r a q.0 rs _, guarded_apt rs _ _ b q.1 (second_stands r only position.Guards rs n p Cons a b refl s)),
        )
    guards_apt rs n p t e s = absurd (both_ways false refl e)

    guarded_apt : (rs : List (ℕ × ℕ)) (n p : ℕ) (t : Tree) → is_phrase Guarded t ≡ true → Stands r position.Guarded rs n p t → IsApt r Guarded rs n t
    guarded_apt rs n p (Node Cons a b) e s =
        let q = and_parts (is_phrase Term a) _ e in (
          condition_apt r a (guarded_away rs n p a b s) (unread_unused r.key (first_place p Cons) a (guarded_key r only position.Guarded rs n p Cons a b refl s refl)),
          (term_apt r a q.0 rs _, body_apt rs _ _ b q.1 (second_stands r only position.Guarded rs n p Cons a b refl s)),
        )
    guarded_apt rs n p t e s = absurd (both_ways false refl e)
