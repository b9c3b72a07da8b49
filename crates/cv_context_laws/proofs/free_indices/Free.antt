-- An instance uses the key, so it stands in no index that doesn't.
use Rattle.std.proofs.Common.{◌≡◌, ℕ, ◌+◌, ◌<◌, Bool, true, false, cond, not, ◌&&◌, ◌||◌, ◌==◌, List, Option, Some, None, is_some, refl, ap₂, subst, eqb-true, arith}
use Rattle.std.proofs.lemmas.Bool.{and_parts, both_ways}
use Rattle.cv_syntax_trees.specs.declared.head.Head.{Head}
use Rattle.cv_syntax_trees.specs.declared.head.Head.TheVariants.{Read}
use Rattle.cv_syntax_trees.specs.Declarations.{Declaration}
use Rattle.cv_syntax_trees.specs.Tree.{Tree, Empty, Node}
use Rattle.cv_group_rules.specs.Symbols.{symbols_of}
use Rattle.cv_group_rules.specs.Faults.{IsAccepted}
use Rattle.cv_scope_rules.specs.Phrases.{IsWellFormed}
use Rattle.cv_scope_rules.specs.Scope.{names_of as scope_names}
use Rattle.cv_scope_rules.specs.Standing.{at_root}
use Rattle.cv_scope_rules.specs.typing.Parts.{IsTypedGame}
use Rattle.cv_typing_runs.specs.Games.{HasKnownNames}
use Rattle.cv_scene.specs.Scenes.{head_reads, is_queried}
use Rattle.cv_scene.specs.Instances.{Call, Matching, call_at, names_of, terms_of}
use Rattle.cv_scene.specs.Refusals.{NotOneSite, Refusal, first_refusal, has_key, is_of_type, new_of, uses}
use Rattle.cv_scene.specs.LeftTerms.{HasLeftTerms}
use Rattle.cv_match_laws.proofs.instances.Calls.{call_found}
use Rattle.cv_match_laws.proofs.instances.Given.{read_uses, stands_for}
use Rattle.cv_match_laws.proofs.instances.Uses.{filled_uses}
use Rattle.cv_scene.specs.Reductions.{Reduction, matching}
use Rattle.cv_match_laws.specs.functions.Forms.{HasLeftForm}
use Rattle.cv_match_laws.proofs.functions.Bodies.{left_terms}
use Rattle.cv_context.proofs.indices.News.{value_sort}
use Rattle.cv_context.proofs.indices.Replications.{all_new}
use Rattle.cv_context.proofs.indices.Typed.{game_free as unused}
use Rattle.cv_context.specs.indices.Indices.{indices_use_none, reads_name}
use Rattle.cv_context_runs.specs.visits.Fine.{has_free_indices, has_no_call, reads_no_call}

module _ (ds : List Declaration) (M : Matching) (left : HasLeftTerms ds M.group) where
  instance_uses : (t : Tree) (c : Call) → call_at M t ≡ Some c → 0 < uses M.key t
  instance_uses t c e =
      let i = call_found ds M t c left e in
      let s = stands_for ds M c.function c.instance i.left i.instance.coins i.instance.arguments in
      let many = filled_uses (names_of M.group c.function) (terms_of c.instance) M.group.key.0 M.key c.instance.key s.key
      (read_uses M.key c.instance.key i.instance.key) c.function.body i.left.term i.left.plain in
      let read = s.key_read in
      subst (λ m. 0 < uses M.key m) i.instance.body (omega arith)

  no_calls : (t : Tree) → uses M.key t ≡ 0 → has_no_call M t ≡ true
  unfolding uses has_no_call
  no_calls Empty e = refl
  no_calls (Node h a b) e = ap₂ (λ x y. x && y) (alone (call_at M (Node h a b)) refl) (ap₂ (λ x y. x && y) (no_calls a (omega arith)) (no_calls b (omega arith)))
    where
      alone : (o : Option Call) → call_at M (Node h a b) ≡ o → not (is_some o) ≡ true
      alone None i = refl
      alone (Some c) i = let z : 0 < cond (head_reads M.key h) 1 0 + (uses M.key a + uses M.key b) = instance_uses (Node h a b) c i in absurd (omega arith)

  none_read : (h : Head) (a : Tree) → (not (reads_name h) || (uses M.key a == 0)) ≡ true → reads_no_call M h a ≡ true
  none_read (Read x) a e = no_calls a (eqb-true (uses M.key a) 0 e)
  none_read h a e = refl

  pub free : (t : Tree) → indices_use_none M.key t ≡ true → has_free_indices M t ≡ true
  unfolding indices_use_none has_free_indices
  free Empty e = refl
  free (Node h a b) e =
      let p = and_parts (not (reads_name h) || (uses M.key a == 0)) (indices_use_none M.key a && indices_use_none M.key b) e in
      let q = and_parts (indices_use_none M.key a) (indices_use_none M.key b) p.1 in
      ap₂ (λ x y. x && y) (none_read h a p.0) (ap₂ (λ x y. x && y) (free a q.0) (free b q.1))

-- the key of a game that isn't refused has one `new`

refused : (M : Matching) (rest : Option Refusal) (b : Bool) → has_key M ≡ b → cond b rest (Some NotOneSite) ≡ None → has_key M ≡ true
refused M rest true e i = e
refused M rest false e i = absurd (cc)

pub game_free : (r : Reduction) → IsWellFormed r.scene.declarations r.scene.game → IsTypedGame r.scene.declarations r.scene.game → HasKnownNames r.scene.declarations r.scene.game → HasLeftForm r.equivalence → IsAccepted (symbols_of r.scene.declarations) r.equivalence
    → first_refusal (matching r) ≡ None → has_free_indices (matching r) r.scene.game ≡ true
game_free r well typed known form accepted allowed = go (new_of r.scene.game r.key) refl (and_parts (is_of_type (matching r).group.key.1 (new_of r.scene.game r.key)) (not (is_queried r.scene r.key)) (refused (matching r) _ (has_key (matching r)) refl allowed)).0
  where
    go : (o : Option (ℕ × List (ℕ × ℕ))) → new_of r.scene.game r.key ≡ o → is_of_type (matching r).group.key.1 o ≡ true → has_free_indices (matching r) r.scene.game ≡ true
    go None e i = absurd (both_ways false refl i)
    go (Some d) e i =
        free r.scene.declarations (matching r) (left_terms r.scene.declarations r.equivalence form accepted) r.scene.game
        (unused r.scene.declarations r.scene.game r.key d.0 (value_sort r.scene.game r.key d well.phrase e) well.phrase known
        (all_new (scope_names r.scene.declarations r.scene.game) at_root r.scene.game well.scoped) typed)
