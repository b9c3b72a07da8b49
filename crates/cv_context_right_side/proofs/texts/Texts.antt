-- Each site of a game that nothing refuses is apt, and has its text.
use Rattle.std.proofs.Common.{◌≡◌, ℕ, zero, suc, ◌<◌, Bool, true, false, ◌&&◌, ◌||◌, not, ◌==◌, List, [], ◌∷◌, length, Option, Some, None, is_some, refl, sym, ap, ap₂, subst, ◌∙◌, eq-eqb, eqb-true}
use Rattle.std.proofs.lemmas.Bool.{and_parts, both_ways, or_left, or_parts, or_right, false_from_ne_true}
use Rattle.std.specs.List.{AllByRecursion}
use Rattle.std.specs.Prelude.{slice_get}
use Rattle.cv_syntax_trees.specs.declared.head.Head.{Head}
use Rattle.cv_syntax_trees.specs.declared.head.Head.TheVariants.{Leaf, Read}
use Rattle.cv_syntax_trees.specs.Declarations.{Declaration}
use Rattle.cv_syntax_trees.specs.Tree.{Tree, Empty, Node, chain, first, head_reads_only, reads_only}
use Rattle.cv_meaning.specs.Interpretation.{is_constant_of}
use Rattle.cv_syntax_trees.specs.sites.Sites.{first_site}
use Rattle.cv_group_rules.specs.Symbols.{symbols_of}
use Rattle.cv_group_rules.specs.Faults.{IsAccepted}
use Rattle.cv_scope_rules.specs.Phrases.{Inputs, IsWellFormed}
use Rattle.cv_scope_rules.specs.Rules.{is_index}
use Rattle.cv_scope_rules.specs.Scope.{is_variable, names_of as scope_names}
use Rattle.cv_scope_rules.specs.Standing.{at_root}
use Rattle.cv_scope_rules.specs.declared.position.Position.TheVariants.{Anywhere}
use Rattle.cv_scope_rules.proofs.Unbound.{no_variable}
use Rattle.cv_scope_rules.specs.typing.Parts.{IsTypedGame}
use Rattle.cv_typing_runs.specs.Games.{HasArguments, HasKnownNames, has_site}
use Rattle.cv_typing_runs.proofs.Games as games
use Rattle.cv_scene.specs.Apt.{IsSiteApt}
use Rattle.cv_scene.specs.Contexts.{AreAnswers}
use Rattle.cv_scene.specs.Instances.{is_read_of, names_of, terms_of}
use Rattle.cv_scene.specs.LeftTerms.{HasLeftTerms}
use Rattle.cv_scene.specs.Reductions.{Reduction, is_plain, matching, sites}
use Rattle.cv_scene.specs.Refusals.{first_refusal, uses}
use Rattle.cv_scene.specs.Scenes.{head_names, names}
use Rattle.cv_scene.specs.Sights.{variable_of}
use Rattle.cv_scene.specs.Sites.{Site}
use Rattle.cv_scene.specs.Terms.{has_index}
use Rattle.cv_match_laws.specs.functions.Forms.{HasLeftForm}
use Rattle.cv_match_laws.proofs.functions.Bodies.{left_terms}
use Rattle.cv_match_laws.proofs.instances.Coins.{site_call, site_given}
use Rattle.cv_match_laws.proofs.instances.Given.{Given, firsts, look_at}
use Rattle.cv_context.specs.indices.Indices.{indices_are_new, indices_use_none}
use Rattle.cv_context.proofs.indices.News.{value_sort}
use Rattle.cv_context.proofs.indices.Replications.{all_new}
use Rattle.cv_context.proofs.indices.Typed.{game_free, variable_there}
use Rattle.cv_context_runs.proofs.instances.Own.{site_without_refusal}
use Rattle.cv_context_runs.proofs.instances.Sites.{chosen_no_constant, read_is}
use Rattle.cv_meaning.specs.contexts.KeyTerms.{AreFineKeyTerms}
use Rattle.cv_meaning.specs.contexts.Inlined.{is_index_of}
use Rattle.cv_meaning.specs.contexts.Roles as roles
use Rattle.cv_meaning.specs.contexts.Roles.{Gone, Plain, Replication, Role}
use Rattle.cv_inline_laws.specs.runs.Contexts.{ordinary_in}
use Rattle.cv_inline_laws.specs.runs.Texts.{Text, plain_in}
use Rattle.cv_context_right_side.specs.texts.SiteTexts.{HasSiteText, IsTextOfGame, indices_of}
use Rattle.cv_context_right_side.proofs.texts.Allowed.{IsAllowed, allowed}
use Rattle.cv_context_right_side.proofs.texts.Keys.{KeyRead, fine_terms, index_parameter, index_terms, key_count, key_read, new_variable, terms_read}
use Rattle.cv_context_right_side.proofs.texts.Names.{index_named, index_no_constant, index_no_variable, site_defined}
use Rattle.cv_context_right_side.proofs.texts.Stands.{IsThere, Stands, sites_there, term_there}

get_site : (P : Site → Type 0) (ss : List Site) → AllByRecursion P ss → (k : ℕ) (s : Site) → slice_get ss k ≡ Some s → P s
get_site P [] h k s e = absurd (cc)
get_site P (c ∷ ss) h zero s e = let same : c ≡ s = cc in subst P same h.0
get_site P (c ∷ ss) h (suc k) s e = get_site P ss h.1 k s e

read_free : (x : ℕ) (m : Tree) → is_read_of x (variable_of m) ≡ true → indices_use_none x m ≡ true → uses x (first m) ≡ 0
unfolding indices_use_none
read_free x (Node (Leaf y) a b) e f = eqb-true (uses x a) 0 (and_parts (uses x a == 0) _ f).0
read_free x (Node (Read y) a b) e f = eqb-true (uses x a) 0 (and_parts (uses x a == 0) _ f).0
read_free x m e f = absurd (both_ways false refl e)

-- a tree that reads names that pass reads names that pass another test, where its names do

more_head : (p q : ℕ → Bool) (h : Head) → ((x : ℕ) → head_names x h ≡ true → p x ≡ true → q x ≡ true) → head_reads_only p h ≡ true → head_reads_only q h ≡ true
more_head p q (Leaf x) f e = f x (eq-eqb x x refl) e
more_head p q (Read x) f e = f x (eq-eqb x x refl) e
more_head p q h f e = refl

more_read : (p q : ℕ → Bool) (t : Tree) → ((x : ℕ) → names x t ≡ true → p x ≡ true → q x ≡ true) → reads_only p t ≡ true → reads_only q t ≡ true
unfolding names reads_only
more_read p q Empty f e = refl
more_read p q (Node h a b) f e =
    let r = and_parts (head_reads_only p h) _ e in
    let s = and_parts (reads_only p a) (reads_only p b) r.1 in
    ap₂ ◌&&◌ (more_head p q h (λ x n. f x (or_left (head_names x h) _ n)) r.0)
    (ap₂ ◌&&◌ (more_read p q a (λ x n. f x (or_right (head_names x h) _ (or_left (names x a) (names x b) n))) s.0)
    (more_read p q b (λ x n. f x (or_right (head_names x h) _ (or_right (names x a) (names x b) n))) s.1))

module _ (r : Reduction) (given : HasArguments r.scene.declarations) (formed : IsWellFormed r.scene.declarations r.scene.game) (typed : IsTypedGame r.scene.declarations r.scene.game) (known : HasKnownNames r.scene.declarations r.scene.game)
    (form : HasLeftForm r.equivalence) (accepted : IsAccepted (symbols_of r.scene.declarations) r.equivalence) (free : first_refusal (matching r) ≡ None) (answers : AreAnswers r.scene (length (sites r)) r.answer) where
  abbrev ds : List Declaration
  ds = r.scene.declarations

  abbrev game : Tree
  game = r.scene.game

  left : HasLeftTerms ds (matching r).group
  left = left_terms ds r.equivalence form accepted

  may : IsAllowed (matching r)
  may = allowed (matching r) free

  news : indices_are_new (is_variable game) [] game ≡ true
  news = all_new (scope_names ds game) at_root game formed.scoped

  game_stands : Stands ds game r.key Inputs [] game
  game_stands = record {
    phrase = formed.phrase;
    typed = games.typed ds game given formed typed known;
    named = λ x e. e;
    indices = λ x e. e;
    above = λ x e. absurd (both_ways false refl e);
    unused = game_free ds game r.key may.definition.0 (value_sort game r.key may.definition formed.phrase may.key) formed.phrase known news typed;
  }

  no_index_key : has_index game r.key ≡ true → ⊥
  no_index_key e = both_ways (is_variable game r.key) (index_no_variable (is_variable game) r.key game news e) (variable_there game r.key may.definition.0 (value_sort game r.key may.definition formed.phrase may.key))

  module _ (l : ℕ) (s : Site) (at : slice_get (sites r) l ≡ Some s) where
    there : IsThere ds game r.key s.replications s.term
    there = get_site (λ (s : Site). IsThere ds game r.key s.replications s.term) (sites r) (sites_there ds game r.key (matching r) Anywhere [] 0 game (Inputs, game_stands)) l s at

    above : (x : ℕ) → is_index_of s.replications x ≡ true → has_index game x ≡ true
    above x e = there.1.above x e

    name_there : (z : ℕ) (m : Tree) → look_at (matching r).group s.call.function s.call.instance z ≡ Some m → 0 < uses z s.call.function.body → IsThere ds game r.key s.replications m
    name_there z m e u =
        let c = site_call r left l s at in
        term_there ds game r.key (names_of (matching r).group s.call.function) (terms_of s.call.instance) z m e s.replications s.call.function.body c.left.term c.left.plain u
        (subst (IsThere ds game r.key s.replications) (sym c.instance.body) there)

    key_there : IsThere ds game r.key s.replications s.call.instance.key
    key_there = let g = site_given r left l s at in name_there (matching r).group.key.0 s.call.instance.key g.key g.key_read

    pub apt_site : IsSiteApt r s.replications l s
    apt_site = site_without_refusal r left may.coins l s at formed may.arguments answers (read_free r.key s.call.instance.key (site_call r left l s at).instance.key key_there.1.unused)

    read : KeyRead ds game r.key s.replications (first s.call.instance.key)
    read =
        key_read ds game r.key s.replications (index_parameter s.replications r.key (false_from_ne_true (is_index s.replications r.key) (λ e. no_index_key (above r.key e)))) (chosen_no_constant ds game r.key may.definition formed.constants may.key)
        s.call.instance.key key_there (read_is r.key (variable_of s.call.instance.key) (site_call r left l s at).instance.key)

    fine : AreFineKeyTerms (is_index_of s.replications) (has_site game) (first s.call.instance.key)
    fine = index_terms ds game s.replications read.variable.indices (first s.call.instance.key) read.phrase read.sorts

    terms_named : (xs : List ℕ) (ms : List Tree) → Given (look_at (matching r).group s.call.function s.call.instance) s.call.function.body xs ms → (y : ℕ) → names y (chain ms) ≡ true → names y game ≡ true
    unfolding names
    terms_named [] [] g y e = absurd (both_ways false refl e)
    terms_named (x ∷ xs) (m ∷ ms) g y e = go (names y m) refl e (terms_named xs ms g.1 y)
      where
        go : (b : Bool) → names y m ≡ b → (b || names y (chain ms)) ≡ true → (names y (chain ms) ≡ true → names y game ≡ true) → names y game ≡ true
        go true i e f = (name_there x m g.0.0 g.0.1).1.named y i
        go false i e f = f e
    terms_named [] (m ∷ ms) g y e = absurd g
    terms_named (x ∷ xs) [] g y e = absurd g

    module _ (T : Text) (h : IsTextOfGame T r) where
      constant : (x : ℕ) → T.g.is_constant x ≡ is_constant_of ds x
      constant x = ap (λ (f : ℕ → Bool). f x) h.constants

      index_free : (x : ℕ) → is_index_of s.replications x ≡ true → T.g.is_constant x ≡ false
      index_free x e = constant x ∙ index_no_constant (is_constant_of ds) x game formed.constants (above x e)

      site_free : (x : ℕ) → has_site game x ≡ true → T.g.is_constant x ≡ false
      site_free x e =
          constant x
          ∙ false_from_ne_true (is_constant_of ds x) (λ i. both_ways (has_site game x) (or_parts (is_some (first_site x [] game)) _ (no_variable (is_constant_of ds) x i game formed.constants)).0 e)

      pub site_text : HasSiteText T s
      site_text = record {
        indices = record {
          roles = λ x e. h.indices x (above x e);
          drawn = λ y e. false_from_ne_true (is_index_of s.replications y) (λ i. both_ways (names y game) (h.drawn y e) (index_named y game (above y i)));
          constants = λ x e. false_from_ne_true (is_index_of s.replications x) (λ i. both_ways (T.g.is_constant x) (index_free x i) (T.constants x e));
        };
        key_terms = fine_terms (is_index_of s.replications) (has_site game) (plain_in T) (is_plain r) (λ x e p. ap roles.is_plain (h.roles.variables x (site_defined Inputs x [] game formed.phrase e) p)) (first s.call.instance.key) fine apt_site.key_indices;
        no_constants = terms_read (is_index_of s.replications) (has_site game) (λ x. not (T.g.is_constant x)) (λ x e. ap not (index_free x e)) (λ x e. ap not (site_free x e)) (first s.call.instance.key) read.phrase fine;
        key_length = key_count ds game r.key s.replications (first s.call.instance.key) may.definition read (new_variable ds game r.key r.key may.definition (Inputs, game_stands) may.key) ∙ sym (h.key_length ∙ ap indices_of may.key);
        arguments = more_read (is_plain r) (ordinary_in T) (chain s.call.instance.arguments) (λ x n p. h.roles.ordinary x (terms_named (firsts s.call.function.arguments) s.call.instance.arguments (site_given r left l s at).arguments x n) p) apt_site.arguments;
      }
