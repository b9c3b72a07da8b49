-- A context chooses its key at the definition of the key in the game.
use Rattle.std.proofs.Common.{◌≡◌, ℕ, suc, ◌+◌, ◌≤◌, ◌==◌, Bool, true, false, cond, List, [], ◌∷◌, ◌++◌, length, Option, Some, None, refl, sym, ap, subst, ◌∙◌, arith, eqb-true, eq-eqb}
use Rattle.std.proofs.lemmas.Bool.{both_ways}
use Rattle.cv_syntax_trees.specs.declared.head.Head.{Head}
use Rattle.cv_syntax_trees.specs.declared.head.Head.TheVariants.{Key, New}
use Rattle.cv_syntax_trees.specs.Tree.{Tree, Empty, Node}
use Rattle.cv_meaning.specs.Interpretation.{Interpretation}
use Rattle.cv_scope_rules.specs.Context.{cell_of, first_position, replications_below, second_position}
use Rattle.cv_scope_rules.specs.Made.{made_by}
use Rattle.cv_scope_rules.specs.Phrases.{Inputs, Phrase, is_oracle_phrase, is_phrase, parts}
use Rattle.cv_scope_rules.specs.Sites.{Variable}
use Rattle.cv_scope_rules.specs.declared.position.Position.{Position}
use Rattle.cv_scope_runs.proofs.Rows.{placed, position_of}
use Rattle.cv_scene.specs.Apt.{inside}
use Rattle.cv_scene.specs.Contexts.{after_calls, context_in, in_context, is_statement, parameters_of}
use Rattle.cv_scene.specs.Instances.{Call, call_at}
use Rattle.cv_scene.specs.Reductions.{Reduction, context_of_game, is_coin, matching}
use Rattle.cv_scene.specs.Refusals.{definitions_in, new_of, only_new}
use Rattle.cv_scene.specs.Sites.{Site, is_guard}
use Rattle.cv_match_laws.proofs.values.Numbers.{context}
use Rattle.cv_rule_fresh.specs.collisions.Chances.{copies}
use Rattle.cv_context.specs.products.Shapes.{keys_by}
use Rattle.cv_context_laws.proofs.shape.Terms.{children, same_parts}
use Rattle.cv_context_files.specs.counts.Counts.{chooses_key}
use Rattle.cv_context_files.proofs.counts.Copies.{AreAmongOracles, copies_in, guard_terms, terms_none}
use Rattle.cv_context_files.proofs.counts.Nodes.{behind, calls_worth, cell_none, inner, key_worth}

pub key_among : AreAmongOracles chooses_key
key_among (Key x) e = refl
key_among h e = absurd (both_ways _ refl e)

module _ (r : Reduction) (i : Interpretation) where
  -- how many copies definitions have

  abbrev worth : List (Head × List (ℕ × ℕ)) → ℕ
  worth [] = 0
  worth (d ∷ ds) = copies i (parameters_of d.1) + worth ds

  worth_append : (xs ys : List (Head × List (ℕ × ℕ))) → worth (xs ++ ys) ≡ worth xs + worth ys
  worth_append [] ys = let z : worth ys ≡ 0 + worth ys = omega arith in z
  worth_append (x ∷ xs) ys = let e = worth_append xs ys in let z : copies i (parameters_of x.1) + worth (xs ++ ys) ≡ copies i (parameters_of x.1) + worth xs + worth ys = omega (arith, e) in z

  abbrev own : List (ℕ × ℕ) → Head → Tree → List (Head × List (ℕ × ℕ))
  own rs h a = cond (made_by h a (Variable r.key)) ((h, rs) ∷ []) []

  -- the key's own `new` becomes its choice
  key_own : (rs : List (ℕ × ℕ)) (h : Head) (a : Tree) → key_worth r i chooses_key key_among rs h ≤ worth (own rs h a)
  key_own rs (New x T) a = go (x == r.key) (r.key == x) refl refl
    where
      go : (b c : Bool) → (x == r.key) ≡ b → (r.key == x) ≡ c → cond b (copies i (parameters_of rs)) 0 ≤ worth (cond c ((New x T, rs) ∷ []) [])
      go true true e f = let z : copies i (parameters_of rs) ≤ copies i (parameters_of rs) + 0 = omega arith in z
      go true false e f = absurd (both_ways _ f (eq-eqb r.key x (sym (eqb-true x r.key e))))
      go false c e f = omega arith
  key_own rs h a = omega arith

  no_calls : (rs : List (ℕ × ℕ)) (cs : List Site) (j : ℕ) → calls_worth r i chooses_key key_among rs j cs ≡ 0
  no_calls rs [] j = refl
  no_calls rs (c ∷ cs) j = let e = no_calls rs cs (suc j) in let z : 0 + calls_worth r i chooses_key key_among rs (suc j) cs ≡ 0 = omega (arith, e) in z

  whole : (c d k m n x y z total : ℕ) → c ≡ 0 → total ≤ k + (m + n) → k ≤ x → m ≤ y → n ≤ z → c + total ≤ x + (y + z)
  whole c d k m n x y z total e f g h l = omega (arith, e, f, g, h, l)

  pub within : (t : Tree) (σ : Phrase) (rs : List (ℕ × ℕ)) (j : ℕ) → is_phrase σ t ≡ true → is_oracle_phrase σ (context r (position_of σ) rs j t) ≡ true
      → copies_in i chooses_key rs (context r (position_of σ) rs j t) ≤ worth (definitions_in r.key rs t)
  unfolding context_in definitions_in
  within Empty σ rs j e o = omega arith
  within (Node h a b) σ rs j e o =
      let c = children σ h a b e in
      let at = placed σ c.first c.second h (same_parts σ h (c.first, c.second) c.row) in
      go c.first c.second c.row (call_at (matching r) (Node h a b)) o
      (λ u. subst (λ x. copies_in i chooses_key rs (context r x rs j a) ≤ worth (definitions_in r.key rs a)) (sym at.0) (within a c.first rs j c.in_first (subst (λ x. is_oracle_phrase c.first (context r x rs j a) ≡ true) at.0 u)))
      (λ u. subst (λ x. copies_in i chooses_key (replications_below h rs) (context r x (replications_below h rs) N b) ≤ worth (definitions_in r.key (replications_below h rs) b)) (sym at.1)
      (within b c.second (replications_below h rs) N c.in_second (subst (λ x. is_oracle_phrase c.second (context r x (replications_below h rs) N b) ≡ true) at.1 u)))
    where
      w : Position
      w = position_of σ

      N : ℕ
      N = j + length (inside r w rs h a)

      A : Tree
      A = context r (first_position w h) rs j a

      B : Tree
      B = context r (second_position w h) (replications_below h rs) N b

      before : List Site
      before = cond (is_statement h) (inside r w rs h a) []

      DA : ℕ
      DA = worth (definitions_in r.key rs a)

      DB : ℕ
      DB = worth (definitions_in r.key (replications_below h rs) b)

      guarded : (τ ρ : Phrase) → parts σ h ≡ Some (τ, ρ) → (g : Bool) → is_guard w ≡ g → (is_oracle_phrase τ A ≡ true → copies_in i chooses_key rs A ≤ DA) → is_oracle_phrase τ (cond g a A) ≡ true → copies_in i chooses_key rs (cond g a A) ≤ DA
      guarded τ ρ row true x k u = let z = terms_none i chooses_key key_among a τ rs (guard_terms σ h (τ, ρ) row x) u in omega (arith, z)
      guarded τ ρ row false x k u = k u

      all : (DO : List (Head × List (ℕ × ℕ))) → worth (DO ++ (definitions_in r.key rs a ++ definitions_in r.key (replications_below h rs) b)) ≡ worth DO + (DA + DB)
      all DO = worth_append DO _ ∙ ap (λ n. worth DO + n) (worth_append (definitions_in r.key rs a) _)

      go : (τ ρ : Phrase) → parts σ h ≡ Some (τ, ρ) → (o : Option Call)
          → is_oracle_phrase σ (elim o as (λ _. Tree) [
            | Some c ↦ cell_of rs (r.answer j)
            | None ↦ after_calls r.answer j before (in_context (matching r) (is_coin r) h (cond (is_guard w) a A) B)
          ]) ≡ true
          → (is_oracle_phrase τ A ≡ true → copies_in i chooses_key rs A ≤ DA) → (is_oracle_phrase ρ B ≡ true → copies_in i chooses_key (replications_below h rs) B ≤ DB)
          → copies_in i chooses_key rs (elim o as (λ _. Tree) [
            | Some c ↦ cell_of rs (r.answer j)
            | None ↦ after_calls r.answer j before (in_context (matching r) (is_coin r) h (cond (is_guard w) a A) B)
          ])
          ≤ worth (own rs h a ++ (definitions_in r.key rs a ++ definitions_in r.key (replications_below h rs) b))
      go τ ρ row (Some c) u k l = let z = cell_none r i chooses_key key_among rs rs (r.answer j) in omega (arith, z)
      go τ ρ row None u k l =
          let put = behind r i chooses_key key_among σ rs before j (in_context (matching r) (is_coin r) h (cond (is_guard w) a A) B) u in
          let node = inner r i chooses_key key_among h σ τ ρ rs (cond (is_guard w) a A) B DA DB row put.phrase (guarded τ ρ row (is_guard w) refl k) l in
          subst (λ n. copies_in i chooses_key rs (after_calls r.answer j before (in_context (matching r) (is_coin r) h (cond (is_guard w) a A) B)) ≤ n) (sym (all (own rs h a)))
          (subst (λ n. n ≤ worth (own rs h a) + (DA + DB)) (sym put.worth)
          (whole _ 0 _ DA DB _ _ _ _ (no_calls rs before j) node (key_own rs h a) (omega arith) (omega arith)))

  -- the key has one definition
  one_worth : (ds : List (Head × List (ℕ × ℕ))) (d : ℕ × List (ℕ × ℕ)) → only_new ds ≡ Some d → worth ds ≡ copies i (keys_by (only_new ds))
  one_worth ((New x T, rs) ∷ []) d e = let z : copies i (parameters_of rs) + 0 ≡ copies i (parameters_of rs) = omega arith in z
  one_worth ds d e = absurd (cc)

  pub few_keys : (d : ℕ × List (ℕ × ℕ)) → new_of r.scene.game r.key ≡ Some d → is_phrase Inputs r.scene.game ≡ true → is_oracle_phrase Inputs (context_of_game r).game ≡ true
      → copies_in i chooses_key [] (context_of_game r).game ≤ copies i (keys_by (new_of r.scene.game r.key))
  few_keys d q e o = subst (λ n. copies_in i chooses_key [] (context_of_game r).game ≤ n) (one_worth (definitions_in r.key [] r.scene.game) d q) (within r.scene.game Inputs [] 0 e o)
