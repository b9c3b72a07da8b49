-- The runs of a context are within its shape.
use Rattle.std.proofs.Common.{◌≡◌, ℕ, zero, suc, ◌+◌, ◌≤◌, Bool, true, false, cond, List, [], length, not, Option, Some, None, refl, sym, ap, subst, ◌∙◌, arith}
use Rattle.std.proofs.lemmas.Bool.{and_parts, both_ways}
use Rattle.std.specs.List.{sum_by}
use Rattle.std.specs.Prelude.{slice_get}
use Rattle.cv_syntax_trees.specs.Declarations.{Declaration}
use Rattle.cv_syntax_trees.specs.Tree.{Tree, Empty, Node, second}
use Rattle.cv_meaning.specs.Experiments.{visits_of_run}
use Rattle.cv_meaning.specs.Interpretation.{Setting}
use Rattle.cv_meaning.specs.Runs.{Adversary, Mode}
use Rattle.cv_meaning.specs.Tapes.{Tape}
use Rattle.cv_meaning.specs.contexts.Groups.{Left, side_tree}
use Rattle.cv_scope_rules.specs.Phrases.{HasConstantsOf, IsWellFormedContext}
use Rattle.cv_scope_rules.proofs.Apart.{game_alike, game_branches}
use Rattle.cv_scene.specs.Apt.{IsAptGame}
use Rattle.cv_scene.specs.Contexts.{calls_of}
use Rattle.cv_scene.specs.LeftTerms.{HasLeftTerms}
use Rattle.cv_scene.specs.Reductions.{Reduction, context_of_game, matching, sites}
use Rattle.cv_scene.specs.Refusals.{NotOneSite, Refusal, has_key, is_of_type, new_of}
use Rattle.cv_scene.specs.Scenes.{is_queried}
use Rattle.cv_scene.specs.Sites.{Site}
use Rattle.cv_rule_fresh.specs.collisions.Chances.{copies}
use Rattle.cv_context.specs.products.Shapes.{calls_from, name_of, shape_of}
use Rattle.cv_match_laws.proofs.functions.Bodies.{left_terms}
use Rattle.cv_context_laws.proofs.free_indices.Free.{game_free}
use Rattle.cv_context_laws.proofs.shape.Games.{context_part}
use Rattle.cv_context_laws.proofs.shape.Scoped.{game_scoped}
use Rattle.cv_context_laws.proofs.well_formed.Apart.{branches_become, like_becomes}
use Rattle.cv_context_laws.proofs.well_formed.Shown.{context_becomes}
use Rattle.cv_context_laws.proofs.well_formed.Whole.{context_kept}
use Rattle.cv_context_left_side.specs.refusals.Reducible.{IsReducible}
use Rattle.cv_context_left_side.proofs.refusals.Whole.{apt_game}
use Rattle.cv_context_files.specs.counts.Counts.{IsWithinShape, calls_function, chooses_key, visits_of}
use Rattle.cv_context_files.proofs.counts.Copies.{copies_in}
use Rattle.cv_context_files.proofs.counts.Keys.{few_keys, key_among}
use Rattle.cv_context_files.proofs.counts.Sites.{among, few_calls, functions}
use Rattle.cv_context_files.proofs.counts.Spots.{few_visits}

most : (m n p : ℕ) → m ≤ n → n ≤ p → m ≤ p
most m n p e f = omega (arith, e, f)

-- the calls of the function of a position stand at its position
calls_at : (ss : List Site) (j k : ℕ) (t : Tree) (c : ℕ × List (List ℕ)) → slice_get (calls_from ss j t) k ≡ Some c → calls_of ss (j + k) ≡ c.1
unfolding calls_from
calls_at ss j k Empty c e = absurd (cc)
calls_at ss j zero (Node h f more) c e =
    let same : (name_of f, calls_of ss j) ≡ c = cc in
    let z : j + 0 ≡ j = omega arith in
    ap (calls_of ss) z ∙ ap (λ (d : ℕ × List (List ℕ)). d.1) same
calls_at ss j (suc k) (Node h f more) c e = let z : j + suc k ≡ suc j + k = omega arith in ap (calls_of ss) z ∙ calls_at ss (suc j) k more c e

module _ (r : Reduction) (h : IsReducible r) where
  abbrev ds : List Declaration
  ds = r.scene.declarations

  abbrev context : Tree
  context = (context_of_game r).game

  formed : IsWellFormedContext ds context
  formed =
      let apt : IsAptGame r = apt_game r h in
      let left : HasLeftTerms ds (matching r).group = left_terms ds r.equivalence h.form h.accepted in
      let free = game_free r h.formed h.typed h.names h.form h.accepted h.allowed in
      let become = context_becomes r apt left in
      let alike = game_alike ds r.scene.game apt.formed.scoped in
      let apart = game_branches ds r.scene.game apt.formed.scoped in
      record {
        scoped = game_scoped ds context (context_kept r apt left free) (like_becomes r apt.answers r.scene.game context become alike apart) (branches_become r apt.answers r.scene.game context become alike apart);
        phrase = (context_part r apt left).phrase;
        constants = (context_part r apt left).unbound;
      }

  -- the key has one definition

  unrefused : (rest : Option Refusal) (b : Bool) → has_key (matching r) ≡ b → cond b rest (Some NotOneSite) ≡ None → has_key (matching r) ≡ true
  unrefused rest true e i = e
  unrefused rest false e i = absurd (cc)

  defined : (o : Option (ℕ × List (ℕ × ℕ))) → is_of_type (matching r).group.key.1 o ≡ true → (d : ℕ × List (ℕ × ℕ)) × (o ≡ Some d)
  defined None e = absurd (both_ways _ refl e)
  defined (Some d) e = (d, refl)

  one : (d : ℕ × List (ℕ × ℕ)) × (new_of r.scene.game r.key ≡ Some d)
  one = defined (new_of r.scene.game r.key) (and_parts (is_of_type (matching r).group.key.1 (new_of r.scene.game r.key)) (not (is_queried r.scene r.key)) (unrefused _ (has_key (matching r)) refl h.allowed)).0

  pub runs : (g : Setting) (m : Mode) (a : Adversary) (t : Tape) → HasConstantsOf ds g → IsWithinShape g.interpretation (context_of_game r).functions (shape_of r.scene r.equivalence r.key) (visits_of_run g m a context t)
  unfolding shape_of
  runs g m a t e =
      let i = g.interpretation in record {
        keys = most _ (copies_in i chooses_key [] context) _ (few_visits chooses_key key_among g context ds m a t e formed) (few_keys r i one.0 one.1 h.formed.phrase formed.phrase);
        calls = λ k c s.
            let P = calls_function (functions r i k) k in
            let few = most _ (copies_in i P [] context) _ (few_visits P (among r i k) g context ds m a t e formed) (few_calls r i k h.formed.phrase formed.phrase) in
            subst (λ ps. length (visits_of P (visits_of_run g m a context t)) ≤ sum_by (copies i) ps) (let z : 0 + k ≡ k = omega arith in ap (calls_of (sites r)) (sym z) ∙ calls_at (sites r) 0 k (second (side_tree Left r.equivalence)) c s) few;
      }
