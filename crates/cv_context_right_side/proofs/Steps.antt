-- The context of a step's game, with the names that are drawn for its next game, is a right game.
use Rattle.std.proofs.Common.{◌≡◌, ℕ, ◌<◌, Bool, true, false, cond, List, [], ◌∷◌, length, Contains, inl, inr, Option, Some, None, is_some, refl, sym, ap, ◌∙◌, eq-eqb}
use Rattle.std.proofs.lemmas.Bool.{or_left, or_right}
use Rattle.std.specs.List.{list_any}
use Rattle.std.specs.Prelude.{option_map}
use Rattle.cv_syntax_trees.specs.Declarations.{Declaration}
use Rattle.cv_syntax_trees.specs.Tree.{Tree}
use Rattle.cv_meaning.specs.Advantage.{IsAsked, chance_of, secrecy_query}
use Rattle.cv_meaning.specs.Chances.{AtMost, distance}
use Rattle.cv_meaning.specs.Experiments.{Breaks, Experiment, Guesses, mode_of}
use Rattle.cv_meaning.specs.Interpretation.{Interpretation, is_constant_of, setting_of}
use Rattle.cv_meaning.specs.Runs.{Adversary, Events, Random, Real}
use Rattle.cv_meaning.specs.Tapes.{blank}
use Rattle.cv_meaning_laws.proofs.adequacy.Lists.{contains_has}
use Rattle.cv_meaning_laws.proofs.Listed.{Has}
use Rattle.cv_meaning.specs.contexts.ContextAdvantage.{context_advantage}
use Rattle.cv_syntax_trees.specs.declared.sites.sort.Sort.{Sort}
use Rattle.cv_syntax_trees.specs.declared.sites.sort.Sort.TheVariants.{OfType}
use Rattle.cv_syntax_trees.specs.sites.Sites.{Variable, first_site}
use Rattle.cv_meaning.specs.Queries.{queries_in}
use Rattle.cv_scope_rules.proofs.Apart.{game_alike, game_branches}
use Rattle.cv_scope_rules.specs.Phrases.{Inputs, IsWellFormedContext}
use Rattle.cv_scene.specs.Apt.{IsAptGame, IsTestApt}
use Rattle.cv_scene.specs.LeftTerms.{HasLeftTerms}
use Rattle.cv_scene.specs.Reductions.{Reduction, context_of_game, is_plain, matching, sites}
use Rattle.cv_scene.specs.Scenes.{asks_for, is_queried, names}
use Rattle.cv_context.proofs.indices.News.{value_sort}
use Rattle.cv_match_laws.proofs.functions.Bodies.{left_terms}
use Rattle.cv_context_laws.proofs.free_indices.Free.{game_free}
use Rattle.cv_context_laws.proofs.shape.Games.{context_part}
use Rattle.cv_context_laws.proofs.shape.Scoped.{game_scoped}
use Rattle.cv_context_laws.proofs.well_formed.Apart.{branches_become, like_becomes}
use Rattle.cv_context_laws.proofs.well_formed.Shown.{context_becomes}
use Rattle.cv_context_laws.proofs.well_formed.Whole.{context_kept}
use Rattle.cv_context_left_side.proofs.refusals.Whole.{apt_game, apt_test, has_any}
use Rattle.cv_context_right_side.specs.texts.SiteTexts.{IsTextOfGame, role_in_game}
use Rattle.cv_context_right_side.proofs.texts.Allowed.{IsAllowed, allowed}
use Rattle.cv_context_right_side.proofs.texts.Names.{defined_named, site_defined}
use Rattle.cv_context_right_side.proofs.texts.Roles.{key_gone, roles_of_indices, roles_of_names}
use Rattle.cv_context_right_side.proofs.texts.Texts.{apt_site, site_text}
use Rattle.cv_context_laws.specs.types.Typed.{variable_type}
use Rattle.cv_context_laws.proofs.types.Own.{no_own}
use Rattle.cv_context_laws.proofs.types.Whole.{context_laid}
use Rattle.cv_match_laws.specs.answers.Drawn.{AreDrawnFor, next_game}
use Rattle.cv_context_laws.proofs.next_games.Labels.{labels_new}
use Rattle.cv_meaning.specs.contexts.Roles.{Gone, Plain}
use Rattle.cv_inline_laws.specs.runs.Contexts.{IsAskedAlike}
use Rattle.cv_inline_laws.specs.runs.Texts.{Text}
use Rattle.cv_context_runs.specs.visits.Fine.{HasRolesOf, has_free_indices}
use Rattle.cv_inline_names_laws.specs.drawn.Named.{NamedContext, text_of}
use Rattle.cv_context_right_side.specs.Right.{IsNamedFor, IsRightGame, IsStepOfFile}
use Rattle.cv_context_right_side.proofs.Costs.{costs}
use Rattle.cv_context_right_side.proofs.Drawn.{above, answer_gone, answer_there, named_context, new_parts, role_of_asked, role_of_name, spare}

-- a variable with values of a type has a site

has_site : (o : Option Variable) (S : Sort) → option_map (λ (v : Variable). v.sort) o ≡ Some S → is_some o ≡ true
has_site None S e = absurd (cc)
has_site (Some v) S e = refl

-- queries

asks_own : (one : Bool) (x : ℕ) → asks_for x (secrecy_query one x) ≡ true
asks_own true x = eq-eqb x x refl
asks_own false x = eq-eqb x x refl

module _ (r : Reduction) (h : IsStepOfFile r) (i : Interpretation) (drawn labels : List ℕ) (d : AreDrawnFor r drawn labels) where
  abbrev ds : List Declaration
  ds = r.scene.declarations

  abbrev game : Tree
  game = r.scene.game

  apt : IsAptGame r
  apt = apt_game r h.reducible

  left : HasLeftTerms ds (matching r).group
  left = left_terms ds r.equivalence h.reducible.form h.reducible.accepted

  free : has_free_indices (matching r) game ≡ true
  free = game_free r h.reducible.formed h.reducible.typed h.reducible.names h.reducible.form h.reducible.accepted h.reducible.allowed

  may : IsAllowed (matching r)
  may = allowed (matching r) h.reducible.allowed

  pub key_named : names r.key game ≡ true
  key_named =
      defined_named r.key game (site_defined Inputs r.key [] game h.reducible.formed.phrase
      (has_site (first_site r.key [] game) (OfType may.definition.0) (value_sort game r.key may.definition h.reducible.formed.phrase may.key)))

  abbrev pub c : NamedContext
  c = named_context r i drawn labels d h.answers h.constants key_named

  abbrev T : Text
  T = text_of c blank blank

  -- the context is in scope
  formed : IsWellFormedContext ds (context_of_game r).game
  formed =
      let become = context_becomes r apt left in
      let alike = game_alike ds game apt.formed.scoped in
      let apart = game_branches ds game apt.formed.scoped in
      record {
        scoped = game_scoped ds (context_of_game r).game (context_kept r apt left free) (like_becomes r apt.answers game (context_of_game r).game become alike apart) (branches_become r apt.answers game (context_of_game r).game become alike apart);
        phrase = (context_part r apt left).phrase;
        constants = (context_part r apt left).unbound;
      }

  -- the game's names have their roles

  named_roles : (x : ℕ) → names x game ≡ true → T.role x ≡ role_in_game r x
  named_roles = role_of_name r i drawn labels d h.answers h.constants key_named

  roles : HasRolesOf T r game
  roles = roles_of_names r h.reducible.formed T named_roles (λ l e w. refl)

  gone : T.role r.key ≡ Gone
  gone = named_roles r.key key_named ∙ key_gone r h.reducible.formed may.definition may.key

  of_game : IsTextOfGame T r
  of_game = record {
    constants = refl;
    drawn = λ y e. (new_parts r i drawn labels d h.answers h.constants key_named y e).1;
    roles = roles;
    indices = roles_of_indices r h.reducible.formed T named_roles;
    key_length = refl;
  }

  answers_there : (l : ℕ) → l < length (sites r) → answer_there r l ≡ r.answer l
  answers_there l e = ap (λ b. cond b (r.answer l) (spare r)) (above l (length (sites r)) e)

  named : IsNamedFor r c
  named = record {
    context = refl;
    key = refl;
    answers = answers_there;
    constant_there = λ x e. e;
    key_constant = apt.key_constant;
    gone = gone;
    form = record { accepted = h.reducible.accepted; side = h.right.side; functions = h.right.functions; bare = h.right.bare; own = no_own (is_constant_of ds) (context_of_game r) h.right.free };
    apt = apt;
    left = left;
    sites_apt = λ l s e. apt_site r h.arguments h.reducible.formed h.reducible.typed h.reducible.names h.reducible.form h.reducible.accepted h.reducible.allowed h.reducible.answers l s e;
    texts = λ l s e. site_text r h.arguments h.reducible.formed h.reducible.typed h.reducible.names h.reducible.form h.reducible.accepted h.reducible.allowed h.reducible.answers l s e T of_game;
  }

  pub right : IsRightGame r c (variable_type game)
  right = record {
    named = named;
    formed = formed;
    roles = roles;
    labels = labels_new r drawn labels d;
    free = free;
    typed = context_laid r T apt left h.reducible.typed (record { key = gone; answers = answer_gone r i drawn labels d h.answers h.constants key_named; variables = roles.variables });
  }

  -- what experiments test is plain

  asked_plain : (one : Bool) (x : ℕ) → Contains (queries_in ds) (secrecy_query one x) → is_plain r x ≡ true → T.role x ≡ Plain
  asked_plain one x e p =
      let q : is_queried r.scene x ≡ true = has_any (asks_for x) (queries_in ds) (secrecy_query one x) (contains_has (queries_in ds) (secrecy_query one x) e) (asks_own one x) in
      role_of_asked r i drawn labels d h.answers h.constants key_named x (h.queries x q) p (h.unasked x q)

  asked_alike : (x : Experiment) → IsAsked (queries_in ds) x → IsTestApt r (mode_of x) → IsAskedAlike T (mode_of x)
  asked_alike (Breaks q) e p = tt
  asked_alike (Guesses Events) e p = absurd e
  asked_alike (Guesses (Real one x)) e p = asked_plain one x e p
  asked_alike (Guesses (Random one x)) e p = (asked_plain one x e p, λ w. refl)

  pub alike : (x : Experiment) → IsAsked (queries_in ds) x → IsAskedAlike T (mode_of x)
  alike x e = asked_alike x e (apt_test r h.reducible x e)

  pub step_costs : (x : Experiment) (a : Adversary) → IsAsked (queries_in ds) x
      → AtMost (distance (chance_of (setting_of ds i) x a game) (chance_of (setting_of ds i) x a (next_game r drawn labels))) (context_advantage ds i (context_of_game r) x a)
  step_costs x a e = costs r c (variable_type game) i x a h.reducible h.arguments right refl e (alike x e)
