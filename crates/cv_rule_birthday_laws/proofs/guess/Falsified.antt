-- Games with `false` for guesses: what has no terms stays as it is, and so does a read of the variable.
use Rattle.std.proofs.Common.{◌≡◌, ℕ, Option, Some, None, ◌&&◌, ◌||◌, Bool, true, false, cond, refl, ap, ap₂, ◌∙◌}
use Rattle.std.proofs.lemmas.Bool.{both_ways, and_parts}
use Rattle.cv_syntax_trees.specs.declared.head.Head.TheVariants.{Leaf, Read}
use Rattle.cv_syntax_trees.specs.Tree.{Tree, Empty, Node, first_place, second_place}
use Rattle.cv_syntax_trees.specs.lists.Options.{first_of}
use Rattle.cv_scene.specs.lines.Truths.{no}
use Rattle.cv_meaning.specs.Still.{head_is_still, is_still}
use Rattle.cv_scope_rules.specs.Phrases.{Phrase, Nil, Term}
use Rattle.cv_steps.specs.Rewriting.{parts_of}
use Rattle.cv_steps.proofs.Places.{bare_is_no_term, is_bare, parts_bare}
use Rattle.cv_rule_birthday.specs.guess.Guessing.{Places, falsified, is_equality, is_guess, reads}

pub nothing_first : (c : Bool) (p : ℕ) (o q : Option ℕ) → cond c (Some p) (first_of o q) ≡ None → (c ≡ false) × (o ≡ None) × (q ≡ None)
nothing_first true p o q e = absurd (cc)
nothing_first false p (Some n) q e = absurd (cc)
nothing_first false p None q e = (refl, refl, e)

module _ (x : ℕ) (ps : Places) where
  pub kept_bare : (σ : Phrase) (t : Tree) (p : ℕ) → is_bare σ ≡ true → falsified x ps σ p t ≡ t
  unfolding falsified
  kept_bare σ Empty p e = refl
  kept_bare σ (Node h a b) p e =
      let r = parts_bare σ h e in
      ap (λ c. cond (c && (is_equality h && (ps p && (reads x a || reads x b)))) no (Node h (falsified x ps (parts_of σ h).0 (first_place p h) a) (falsified x ps (parts_of σ h).1 (second_place p h a) b))) (bare_is_no_term σ e)
      ∙ ap₂ (Node h) (kept_bare (parts_of σ h).0 a (first_place p h) r.first) (kept_bare (parts_of σ h).1 b (second_place p h a) r.second)

  -- a read of the variable
  pub kept_read : (t : Tree) (p : ℕ) → reads x t ≡ true → falsified x ps Term p t ≡ t
  unfolding falsified
  kept_read Empty p e = absurd (both_ways false refl e)
  kept_read (Node (Leaf y) a b) p e = ap₂ (Node (Leaf y)) (kept_bare Nil a _ refl) (kept_bare Nil b _ refl)
  kept_read (Node (Read y) a b) p e = ap₂ (Node (Read y)) (kept_bare Nil a _ refl) (kept_bare Nil b _ refl)
  kept_read (Node h a b) p e = absurd (both_ways false refl e)

  -- no service comes to what it didn't come to
  pub still_falsified : (σ : Phrase) (t : Tree) (p : ℕ) → is_still t ≡ true → is_still (falsified x ps σ p t) ≡ true
  unfolding falsified
  still_falsified σ Empty p e = e
  still_falsified σ (Node h a b) p e =
      let r = and_parts (head_is_still h) _ e in
      let s = and_parts (is_still a) _ r.1 in
      go (is_guess x ps σ p h a b) r.0 (still_falsified (parts_of σ h).0 a (first_place p h) s.0) (still_falsified (parts_of σ h).1 b (second_place p h a) s.1)
    where
      go : (c : Bool) → head_is_still h ≡ true → is_still (falsified x ps (parts_of σ h).0 (first_place p h) a) ≡ true → is_still (falsified x ps (parts_of σ h).1 (second_place p h a) b) ≡ true
          → is_still (cond c no (Node h (falsified x ps (parts_of σ h).0 (first_place p h) a) (falsified x ps (parts_of σ h).1 (second_place p h a) b))) ≡ true
      go true h a b = refl
      go false h a b = ap₂ ◌&&◌ h (ap₂ ◌&&◌ a b)
