-- The context of a game with names that are drawn: each name has its role.
use Rattle.std.proofs.Common.{◌≡◌, ℕ, suc, ◌<◌, Bool, true, false, cond, ◌&&◌, ◌||◌, not, ◌==◌, nat_lt, List, [], ◌∷◌, length, refl, sym, ap, subst, ◌∙◌, eq-eqb, eqb-true, arith}
use Rattle.std.proofs.lemmas.Bool.{and_parts, both_ways, not-true, false_from_ne_true}
use Rattle.std.proofs.lemmas.Bool.Decides.{nat_tests}
use Rattle.std.specs.List.{AllByRecursion, list_any}
use Rattle.cv_meaning.specs.Interpretation.{Interpretation, is_constant_of, setting_of}
use Rattle.cv_meaning.specs.contexts.Groups.{Right, side_group}
use Rattle.cv_scene.specs.Contexts.{AreAnswers}
use Rattle.cv_scene.specs.Reductions.{Reduction, context_of_game, is_answer, is_coin, is_plain, sites}
use Rattle.cv_scene.specs.Refusals.{new_of}
use Rattle.cv_scene.specs.Scenes.{names}
use Rattle.cv_scene.specs.Scenes as scenes
use Rattle.cv_scene.specs.Terms.{has_index}
use Rattle.cv_match_laws.specs.answers.Answers.{KnowsConstants}
use Rattle.cv_context_runs.proofs.service.Kept.{answers_are}
use Rattle.cv_context_right_side.specs.texts.SiteTexts.{indices_of, role_in_game}
use Rattle.cv_context_right_side.proofs.texts.Names.{index_named}
use Rattle.cv_match_laws.specs.answers.Drawn.{AreDrawnFor, callings}
use Rattle.cv_context_laws.proofs.next_games.Labels.{labels_apart, many_labels}
use Rattle.cv_meaning.specs.contexts.Roles.{Gone, Plain, Replication, Role}
use Rattle.cv_inline_laws.specs.draws.DrawnNames.{AreApart, DrawnNames, is_new, names_of_draws, role_in}
use Rattle.cv_inline_laws.proofs.draws.Names.{other_role}
use Rattle.cv_inline_names_laws.specs.drawn.Named.{NamedContext}

-- what holds of each name of a list
each : (P : ℕ → Type 0) (ys : List ℕ) (y : ℕ) → AllByRecursion P ys → list_any (λ x. x == y) ys ≡ true → P y
each P [] y f e = absurd (both_ways false refl e)
each P (x ∷ ys) y f e = go (x == y) refl e (each P ys y f.1)
  where
    go : (b : Bool) → (x == y) ≡ b → (b || list_any (λ x. x == y) ys) ≡ true → (list_any (λ x. x == y) ys ≡ true → P y) → P y
    go true i e k = subst P (eqb-true x y i) f.0
    go false i e k = k e

below : (s n : ℕ) → nat_lt s n ≡ true → s < n
below s n e = grind (arith, nat_tests)

pub above : (s n : ℕ) → s < n → nat_lt s n ≡ true
above s n e = grind (arith, nat_tests)

-- an answer that no site has
abbrev pub spare : Reduction → ℕ
spare r = r.answer (length (sites r))

-- it is gone, too, so that all answers are
abbrev pub role_there : Reduction → ℕ → Role
role_there r x = cond (x == spare r) Gone (role_in_game r x)

abbrev pub answer_there : Reduction → ℕ → ℕ
answer_there r s = cond (nat_lt s (length (sites r))) (r.answer s) (spare r)

module _ (r : Reduction) (i : Interpretation) (drawn labels : List ℕ) (d : AreDrawnFor r drawn labels) (answers : (n : ℕ) → AreAnswers r.scene n r.answer) (constants : KnowsConstants r.scene) (key : names r.key r.scene.game ≡ true) where
  abbrev pub D : DrawnNames
  D = names_of_draws (side_group Right r.equivalence) (callings r) drawn labels (role_there r)

  -- drawn names are new

  pub new_parts : (y : ℕ) → is_new D y ≡ true → (r.scene.known y ≡ false) × (names y r.scene.game ≡ false)
  new_parts y e =
      let p = and_parts (not (r.scene.known y)) (not (names y r.scene.game)) (each (λ y. scenes.is_new r.scene y ≡ true) drawn y d.new e) in
      (not-true (r.scene.known y) p.0, not-true (names y r.scene.game) p.1)

  pub known_there : (x : ℕ) → r.scene.known x ≡ true → is_new D x ≡ false
  known_there x e = false_from_ne_true (is_new D x) (λ n. both_ways (r.scene.known x) (new_parts x n).0 e)

  named_there : (x : ℕ) → names x r.scene.game ≡ true → is_new D x ≡ false
  named_there x e = false_from_ne_true (is_new D x) (λ n. both_ways (names x r.scene.game) (new_parts x n).1 e)

  -- names of the game are no answers

  unnamed : (k : ℕ) → names (r.answer k) r.scene.game ≡ false
  unnamed k = (answers (suc k)).unnamed k (omega arith)

  no_answer : (x k : ℕ) → names x r.scene.game ≡ true → (x == r.answer k) ≡ false
  no_answer x k e = false_from_ne_true (x == r.answer k) (λ s. both_ways (names (r.answer k) r.scene.game) (unnamed k) (ap (λ y. names y r.scene.game) (sym (eqb-true x (r.answer k) s)) ∙ e))

  pub role_of_name : (x : ℕ) → names x r.scene.game ≡ true → role_in D x ≡ role_in_game r x
  role_of_name x e = other_role D x (named_there x e) ∙ ap (λ b. cond b Gone (role_in_game r x)) (no_answer x (length (sites r)) e)

  -- answers are gone

  no_index : (k : ℕ) → has_index r.scene.game (r.answer k) ≡ false
  no_index k = false_from_ne_true (has_index r.scene.game (r.answer k)) (λ e. both_ways (names (r.answer k) r.scene.game) (unnamed k) (index_named (r.answer k) r.scene.game e))

  not_plain : (a b c : Bool) → c ≡ true → (a && (b && not c)) ≡ false
  not_plain false b c e = refl
  not_plain true false c e = refl
  not_plain true true true e = refl
  not_plain true true false e = absurd (both_ways false refl e)

  game_role_gone : (k : ℕ) → k < length (sites r) → role_in_game r (r.answer k) ≡ Gone
  game_role_gone k l =
      ap (λ b. cond {A = Role} b Replication (cond (is_plain r (r.answer k)) Plain Gone)) (no_index k)
      ∙ ap (λ b. cond {A = Role} b Plain Gone) (not_plain (not (r.answer k == r.key)) (not (is_coin r (r.answer k))) (is_answer r (r.answer k)) (answers_are r k l))

  not_drawn : (k : ℕ) → is_new D (r.answer k) ≡ false
  not_drawn k = d.answers k

  pub answer_gone : (k : ℕ) → k < length (sites r) → role_in D (r.answer k) ≡ Gone
  answer_gone k l = other_role D (r.answer k) (not_drawn k) ∙ go (r.answer k == spare r)
    where
      go : (b : Bool) → cond b Gone (role_in_game r (r.answer k)) ≡ Gone
      go true = refl
      go false = game_role_gone k l

  spare_gone : role_in D (spare r) ≡ Gone
  spare_gone = other_role D (spare r) (not_drawn (length (sites r))) ∙ ap (λ b. cond b Gone (role_in_game r (spare r))) (eq-eqb (spare r) (spare r) refl)

  pub all_gone : (s : ℕ) → role_in D (answer_there r s) ≡ Gone
  all_gone s = go (nat_lt s (length (sites r))) refl
    where
      go : (b : Bool) → nat_lt s (length (sites r)) ≡ b → role_in D (cond b (r.answer s) (spare r)) ≡ Gone
      go true e = answer_gone s (below s (length (sites r)) e)
      go false e = spare_gone

  pub key_apart : (s : ℕ) → (r.key == answer_there r s) ≡ false
  key_apart s = go (nat_lt s (length (sites r)))
    where
      go : (b : Bool) → (r.key == cond b (r.answer s) (spare r)) ≡ false
      go true = no_answer r.key s key
      go false = no_answer r.key (length (sites r)) key

  -- the role of a variable for which a query asks
  pub role_of_asked : (x : ℕ) → r.scene.known x ≡ true → is_plain r x ≡ true → has_index r.scene.game x ≡ false → role_in D x ≡ Plain
  role_of_asked x k p n =
      other_role D x (known_there x k)
      ∙ ap (λ b. cond b Gone (role_in_game r x)) (false_from_ne_true (x == spare r) (λ s. both_ways (r.scene.known (spare r)) ((answers (suc (length (sites r)))).unknown (length (sites r)) (omega arith)) (ap r.scene.known (sym (eqb-true x (spare r) s)) ∙ k)))
      ∙ ap (λ b. cond {A = Role} b Replication (cond (is_plain r x) Plain Gone)) n
      ∙ ap (λ b. cond {A = Role} b Plain Gone) p

  pub apart : AreApart D
  apart = record { names = d.many; names_apart = d.apart; labels = many_labels r drawn labels d; labels_apart = labels_apart r drawn labels d }

  pub no_constant : (y : ℕ) → is_new D y ≡ true → is_constant_of r.scene.declarations y ≡ false
  no_constant y e = false_from_ne_true (is_constant_of r.scene.declarations y) (λ c. both_ways (r.scene.known y) (new_parts y e).0 (constants y c))

  abbrev pub named_context : NamedContext
  named_context = record {
    g = setting_of r.scene.declarations i;
    context = context_of_game r;
    key = r.key;
    names = drawn;
    labels = labels;
    game_role = role_there r;
    answer = answer_there r;
    constant = is_constant_of r.scene.declarations;
    key_length = indices_of (new_of r.scene.game r.key);
    apart = apart;
    no_constant = no_constant;
    constants = λ x e. e;
    answers = all_gone;
    key_apart = key_apart;
  }
