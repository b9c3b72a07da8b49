-- A game in which `new` chooses of a type that isn't `[fixed]` is none of the file.
use Rattle.std.proofs.Common.{◌≡◌, ℕ, Bool, true, false, cond, ◌||◌, not, ◌==◌, List, [], ◌∷◌, Option, Some, None, is_some, refl, ap, ap₂, ◌∙◌, eqb-true}
use Rattle.std.proofs.lemmas.Bool.{and_parts, both_ways}
use Rattle.cv_syntax_trees.specs.declared.head.Head.{Head}
use Rattle.cv_syntax_trees.specs.declared.head.Head.TheVariants.{New}
use Rattle.cv_syntax_trees.specs.Declarations.{Declaration}
use Rattle.cv_syntax_trees.specs.Tree.{Tree, Empty, Node, first_place, second_place}
use Rattle.cv_syntax_trees.specs.sites.Counting.{count}
use Rattle.cv_syntax.specs.faults.Walk.{first_fault, first_of, placed}
use Rattle.cv_meaning.specs.Interpretation.{is_constant_of}
use Rattle.cv_scope_rules.specs.Phrases.{Inputs, binds_none, is_phrase}
use Rattle.cv_scope_rules.specs.Scope.{first_scope_fault}
use Rattle.cv_scope_rules.specs.declared.typing.fault.Fault.{Fault}
use Rattle.cv_scope_rules.specs.declared.typing.fault.Fault.TheVariants.{Arity, IndexAsMessage, NotFixed, WrongType}
use Rattle.cv_scope_rules.specs.typing.Parts.{first_in, game_part, signature_of}
use Rattle.cv_scope_rules.specs.typing.Signature.{Above, Signature, arity_by, is_arity, is_fixed_in, sort_by}
use Rattle.cv_scope_rules.specs.typing.Typing.{fault_of, is_unfixed, site_differs, typing_walk}
use Rattle.cv_scope_rules.specs.typing.Wants.{Want, is_index_sent, is_wrong}
use Rattle.cv_scene.specs.Terms.{is_game, is_there, names_anywhere}
use Rattle.cv_steps_laws.specs.crypto.Steps.{is_next}
use Rattle.cv_strategy_rules.specs.Moves.{chooses}
use Rattle.cv_strategy_moves.specs.Keys.{has_choice_of}

abbrev OptionFault : Type 0
OptionFault = Option Fault

some_fault : (f : Fault) → ◌≡◌ {A = OptionFault} (Some f) None → ⊥
some_fault f e = cc

of_fixed : (wrong arity sent unfixed : Bool) → ◌≡◌ {A = OptionFault} (cond wrong (Some WrongType) (cond arity (cond sent (Some IndexAsMessage) (cond unfixed (Some NotFixed) None)) (Some Arity))) None → unfixed ≡ false
of_fixed true arity sent unfixed e = absurd (some_fault WrongType e)
of_fixed false false sent unfixed e = absurd (some_fault Arity e)
of_fixed false true true unfixed e = absurd (some_fault IndexAsMessage e)
of_fixed false true false true e = absurd (some_fault NotFixed e)
of_fixed false true false false e = refl

unplaced : (p : ℕ) (o : OptionFault) (rest : Option (ℕ × Fault)) → first_of (placed p o) rest ≡ None → (o ≡ None) × (rest ≡ None)
unplaced p None rest e = (refl, e)
unplaced p (Some f) rest e = absurd (cc)

neither_fault : (o q : Option (ℕ × Fault)) → first_of o q ≡ None → (o ≡ None) × (q ≡ None)
neither_fault None q e = (refl, e)
neither_fault (Some f) q e = absurd (cc)

module _ (ds : List Declaration) (T : ℕ) (unfixed : is_fixed_in ds T ≡ false) where
  of_other : (e : Signature) (h : Head) → e.declarations ≡ ds → is_unfixed e h ≡ false → chooses T h ≡ false
  of_other e (New x U) d f = go (U == T) refl
    where
      go : (b : Bool) → (U == T) ≡ b → b ≡ false
      go false q = refl
      go true q = absurd (both_ways (is_unfixed e (New x U)) f (ap not (ap₂ is_fixed_in d (eqb-true U T q) ∙ unfixed)))
  of_other e h d f = refl

  no_choice : (e : Signature) → e.declarations ≡ ds → (t : Tree) (s : Above × Want) (p : ℕ) → first_fault (typing_walk e) s p t ≡ None → has_choice_of T t ≡ false
  unfolding first_fault has_choice_of
  no_choice e d Empty s p f = refl
  no_choice e d (Node h a b) s p f =
      let u = unplaced p (fault_of e s.0 s.1 h a) _ f in
      let v = neither_fault (first_fault (typing_walk e) ((typing_walk e).first s h a) (first_place p h) a) (first_fault (typing_walk e) ((typing_walk e).second s h a) (second_place p h a) b) u.1 in
      ap₂ ◌||◌
      (of_other e h d
      (of_fixed (is_wrong s.1 (sort_by e s.0 h a) || site_differs e.arrays h a) (is_arity (arity_by e s.0 h) (count a)) (is_index_sent s.1 (sort_by e s.0 h a)) (is_unfixed e h) u.0))
      (ap₂ ◌||◌ (no_choice e d a _ (first_place p h) v.0) (no_choice e d b _ (second_place p h a) v.1))

  none_there : (o : Option (ℕ × Fault)) → not (is_some o) ≡ true → o ≡ None
  none_there None e = refl
  none_there (Some f) e = absurd (both_ways _ refl e)

  untyped : (game : Tree) → first_in ds 0 (game_part game ∷ []) ≡ None → has_choice_of T game ≡ false
  unfolding first_in
  untyped game e = no_choice (signature_of ds (game_part game)) refl game _ 0 (neither_fault _ None e).0

  pub no_game : (next : Tree) → has_choice_of T next ≡ true → is_next ds next ≡ false
  no_game next h = go (is_next ds next) refl
    where
      go : (b : Bool) → is_next ds next ≡ b → b ≡ false
      go false q = refl
      go true q =
          let g : is_game ds next ≡ true = (and_parts (is_game ds next) _ q).0 in
          let p = and_parts (is_phrase Inputs next) _ g in
          let r = and_parts (binds_none (is_constant_of ds) next) _ p.1 in
          let t = and_parts (is_there (names_anywhere ds next) Inputs next) _ r.1 in
          let f = and_parts (not (is_some (first_in ds 0 (game_part next ∷ [])))) (not (is_some (first_scope_fault ds next))) t.1 in
          absurd (both_ways (has_choice_of T next) (untyped next (none_there _ f.0)) h)
