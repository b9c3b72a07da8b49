-- A game without a refusal is apt, and asked experiments test neither key nor coins.
use Rattle.std.proofs.Common.{◌≡◌, ℕ, ◌+◌, ◌<◌, Bool, true, false, cond, ◌&&◌, ◌||◌, not, ◌==◌, List, [], ◌∷◌, length, Contains, ◌⊎◌, inl, inr, Option, Some, None, is_some, refl, sym, ap, subst, ◌∙◌, eq-eqb, arith}
use Rattle.std.proofs.lemmas.Bool.{both_ways, and_parts, not-true, or_left, or_right}
use Rattle.std.specs.List.{list_any}
use Rattle.std.specs.Prelude.{slice_get}
use Rattle.cv_syntax_trees.specs.Tree.{Tree}
use Rattle.cv_meaning.specs.Advantage.{IsAsked, secrecy_query}
use Rattle.cv_meaning.specs.Experiments.{Breaks, Experiment, Guesses, mode_of}
use Rattle.cv_meaning.specs.Runs.{Events, Random, Real}
use Rattle.cv_meaning_laws.proofs.adequacy.Lists.{contains_has}
use Rattle.cv_meaning_laws.proofs.Listed.{Has}
use Rattle.cv_syntax_trees.specs.sites.Sites.{first_of}
use Rattle.cv_meaning.specs.Queries.{queries_in}
use Rattle.cv_scope_rules.specs.Phrases.{Inputs}
use Rattle.cv_scope_rules.specs.Scope.{is_variable, names_of}
use Rattle.cv_scope_rules.specs.Standing.{at_root}
use Rattle.cv_scope_rules.specs.declared.position.Position.TheVariants.{Anywhere}
use Rattle.cv_scene.specs.Scenes.{asks_for, is_queried}
use Rattle.cv_scene.specs.Instances.{Matching}
use Rattle.cv_scene.specs.Refusals.{CoinUse, InCondition, KeyInArgument, NotOneSite, Refusal, Use, at_place, first_argument_use, first_coin_use, first_in_condition, first_refusal, first_use, has_key, is_of_type, new_of}
use Rattle.cv_scene.specs.LeftTerms.{HasLeftTerms}
use Rattle.cv_scene.specs.Reductions.{Reduction, is_coin, is_plain, matching, sites}
use Rattle.cv_scene.specs.Sites.{sites_of}
use Rattle.cv_scene.specs.Apt.{IsAptGame, IsTestApt}
use Rattle.cv_match_laws.proofs.names.Bindings.{only_by_new}
use Rattle.cv_match_laws.proofs.names.Plain.{not_plain}
use Rattle.cv_context.proofs.indices.News.{value_sort}
use Rattle.cv_context.proofs.indices.Replications.{all_new}
use Rattle.cv_context.proofs.indices.Typed.{game_free, variable_there}
use Rattle.cv_match_laws.proofs.functions.Bodies.{left_terms}
use Rattle.cv_context_runs.specs.instances.Statements.{HasOwnSites}
use Rattle.cv_context_runs.proofs.instances.Own.{coin_chosen, coin_unasked, key_no_answer, key_no_coin, unused_outside}
use Rattle.cv_context_runs.proofs.instances.Sites.{chosen_no_constant}
use Rattle.cv_context_runs.proofs.instances.Terms.{only_terms}
use Rattle.cv_context_left_side.specs.refusals.Reducible.{IsReducible}
use Rattle.cv_context_left_side.proofs.refusals.Games.{inputs_apt}

-- what is not refused

record IsAllowed (M : Matching) : Type 0 where
  key : has_key M ≡ true
  uses : first_use M Anywhere 0 M.scene.game ≡ None
  conditions : first_in_condition M.key Anywhere 0 M.scene.game ≡ None
  coins : first_coin_use M (sites_of M) ≡ None
  arguments : first_argument_use M (sites_of M) ≡ None

pub neither : (o u : Option Refusal) → first_of o u ≡ None → (o ≡ None) × (u ≡ None)
neither None u e = (refl, e)
neither (Some f) u e = absurd (cc)

pub at_none : (f : ℕ → Refusal) (o : Option ℕ) → at_place f o ≡ None → o ≡ None
at_none f None e = refl
at_none f (Some p) e = absurd (cc)

is_allowed : (M : Matching) → first_refusal M ≡ None → IsAllowed M
is_allowed M e = go (has_key M) refl e
  where
    rest : Option Refusal
    rest =
        first_of (at_place Use (first_use M Anywhere 0 M.scene.game))
        (first_of (at_place InCondition (first_in_condition M.key Anywhere 0 M.scene.game))
        (first_of (at_place CoinUse (first_coin_use M (sites_of M))) (at_place KeyInArgument (first_argument_use M (sites_of M)))))

    go : (b : Bool) → has_key M ≡ b → cond b (
        first_of (at_place Use (first_use M Anywhere 0 M.scene.game))
        (first_of (at_place InCondition (first_in_condition M.key Anywhere 0 M.scene.game))
        (first_of (at_place CoinUse (first_coin_use M (sites_of M))) (at_place KeyInArgument (first_argument_use M (sites_of M)))))
        ) (Some NotOneSite) ≡ None → IsAllowed M
    go false k f = absurd (cc)
    go true k f =
        let a = neither (at_place Use (first_use M Anywhere 0 M.scene.game)) _ f in
        let b = neither (at_place InCondition (first_in_condition M.key Anywhere 0 M.scene.game)) _ a.1 in
        let c = neither (at_place CoinUse (first_coin_use M (sites_of M))) _ b.1 in
        record { key = k; uses = at_none Use _ a.0; conditions = at_none InCondition _ b.0; coins = at_none CoinUse _ c.0; arguments = at_none KeyInArgument _ c.1 }

record HasNew (game : Tree) (x : ℕ) : Type 0 where
  definition : ℕ × List (ℕ × ℕ)
  is : new_of game x ≡ Some definition

of_some : (game : Tree) (x : ℕ) → is_some (new_of game x) ≡ true → HasNew game x
of_some game x e = go (new_of game x) refl e
  where
    go : (o : Option (ℕ × List (ℕ × ℕ))) → new_of game x ≡ o → is_some o ≡ true → HasNew game x
    go None i e = absurd (both_ways false refl e)
    go (Some d) i e = record { definition = d; is = i }

typed_some : (T : ℕ) (o : Option (ℕ × List (ℕ × ℕ))) → is_of_type T o ≡ true → is_some o ≡ true
typed_some T None e = e
typed_some T (Some d) e = refl

-- queries

pub has_any : (f : Tree → Bool) (qs : List Tree) (q : Tree) → Has qs q → f q ≡ true → list_any f qs ≡ true
has_any f [] q h e = absurd h
has_any f (p ∷ qs) q (inl i) e = or_left (f p) (list_any f qs) (ap f (sym i) ∙ e)
has_any f (p ∷ qs) q (inr h) e = or_right (f p) (list_any f qs) (has_any f qs q h e)

asks_own : (one : Bool) (x : ℕ) → asks_for x (secrecy_query one x) ≡ true
asks_own true x = eq-eqb x x refl
asks_own false x = eq-eqb x x refl

module _ (r : Reduction) (h : IsReducible r) where
  left : HasLeftTerms r.scene.declarations (matching r).group
  left = left_terms r.scene.declarations r.equivalence h.form h.accepted

  allowed : IsAllowed (matching r)
  allowed = is_allowed (matching r) h.allowed

  key_new : HasNew r.scene.game r.key
  key_new = of_some r.scene.game r.key (typed_some (matching r).group.key.1 (new_of r.scene.game r.key) (and_parts (is_of_type (matching r).group.key.1 (new_of r.scene.game r.key)) _ allowed.key).0)

  key_unasked : is_queried r.scene r.key ≡ false
  key_unasked = not-true (is_queried r.scene r.key) (and_parts (is_of_type (matching r).group.key.1 (new_of r.scene.game r.key)) _ allowed.key).1

  coin_new : (y : ℕ) → is_coin r y ≡ true → HasNew r.scene.game y
  coin_new y e = of_some r.scene.game y (coin_chosen r left allowed.coins y e)

  there : (x : ℕ) → HasNew r.scene.game x → is_variable r.scene.game x ≡ true
  there x n = variable_there r.scene.game x n.definition.0 (value_sort r.scene.game x n.definition h.formed.phrase n.is)

  own : HasOwnSites r
  own = record { left = left; formed = h.formed; coins = allowed.coins; arguments = allowed.arguments; answers = h.answers }

  pub apt_game : IsAptGame r
  apt_game =
      let ds = r.scene.declarations in
      let game = r.scene.game in
      let news = all_new (names_of ds game) at_root game h.formed.scoped in
      record {
        formed = h.formed;
        apt = inputs_apt r own (there r.key key_new) (λ y e. there y (coin_new y e)) [] 0 0 game h.formed.phrase (record {
          names = record { key = only_by_new r.key game key_new.definition key_new.is; coins = λ y e. let n = coin_new y e in only_by_new y game n.definition n.is; answers = h.answers.unnamed };
          key = allowed.uses;
          conditions = allowed.conditions;
          coins = λ y e. unused_outside r left allowed.coins y e;
          sites = λ k s e. let z : 0 + k ≡ k = omega arith in ap (slice_get (sites r)) z ∙ e;
          indices = game_free ds game r.key key_new.definition.0 (value_sort game r.key key_new.definition h.formed.phrase key_new.is) h.formed.phrase h.names news h.typed;
          news = news;
          constants = h.formed.constants;
        });
        terms = λ t e. only_terms ds (matching r) t left e;
        answers = h.answers.apart;
        free_answers = h.answers.no_constant;
        key_constant = chosen_no_constant ds game r.key key_new.definition h.formed.constants key_new.is;
        key_coin = key_no_coin r left allowed.coins;
        key_answer = key_no_answer r left allowed.coins h.answers;
      }

  unasked : (x : ℕ) → is_plain r x ≡ false → is_queried r.scene x ≡ false
  unasked = not_plain r (λ x. is_queried r.scene x ≡ false) key_unasked (coin_unasked r left allowed.coins) h.answers.unasked

  asked_plain : (one : Bool) (x : ℕ) → Contains (queries_in r.scene.declarations) (secrecy_query one x) → is_plain r x ≡ true
  asked_plain one x a = go (is_plain r x) refl
    where
      go : (b : Bool) → is_plain r x ≡ b → b ≡ true
      go true e = refl
      go false e = absurd (both_ways (is_queried r.scene x) (unasked x e) (has_any (asks_for x) (queries_in r.scene.declarations) (secrecy_query one x) (contains_has (queries_in r.scene.declarations) (secrecy_query one x) a) (asks_own one x)))

  pub apt_test : (x : Experiment) → IsAsked (queries_in r.scene.declarations) x → IsTestApt r (mode_of x)
  apt_test (Breaks q) a = tt
  apt_test (Guesses Events) a = absurd a
  apt_test (Guesses (Real one x)) a = asked_plain one x a
  apt_test (Guesses (Random one x)) a = asked_plain one x a
