-- The table of phrases, as the code goes through it.
use Rattle.std.proofs.Common.{◌≡◌, ◌&&◌, Bool, true, false, Option, Some, None, refl, sym, ap, ◌∙◌}
use Rattle.cv_syntax_trees.specs.declared.head.Head.{Head}
use Rattle.cv_syntax_trees.specs.declared.head.Head.TheVariants as head
use Rattle.cv_syntax_trees.specs.Tree.{Tree, Empty, Node}
use Rattle.cv_scope_rules.specs.Phrases as grammar
use Rattle.cv_scope_rules.specs.Phrases.{both_are, is_phrase, may_end, parts}
use Rattle.cv_scene_view.specs.declared.phrases.phrases.Phrase.{Phrase}
use Rattle.cv_scene_view.specs.declared.phrases.phrases.Phrase.TheVariants.{Nil, Inputs, Body, Then, Else, Branches, Arm, Guards, Guarded, Pattern, Message, Indices, Binders, Cells, OneCell, Terms, Term}
use Rattle.cv_scene_view.specs.phrases.Phrases.{others_of, parts_of, phrase_of}

-- a node that is no item of a list
pub others_are : (π : Phrase) (h : Head) → (π ≡ Inputs → ⊥) → (π ≡ Body → ⊥) → (π ≡ Term → ⊥) → (π ≡ OneCell → ⊥) → (h ≡ head.Cons → ⊥) → others_of (phrase_of π) h ≡ parts (phrase_of π) h
others_are Nil h i b t o c = refl
others_are Inputs h i b t o c = absurd (i refl)
others_are Body h i b t o c = absurd (b refl)
others_are Then head.Cons i b t o c = absurd (c refl)
others_are Then h i b t o c = refl
others_are Else head.Cons i b t o c = absurd (c refl)
others_are Else h i b t o c = refl
others_are Branches head.Cons i b t o c = absurd (c refl)
others_are Branches h i b t o c = refl
others_are Arm h i b t o c = refl
others_are Guards head.Cons i b t o c = absurd (c refl)
others_are Guards h i b t o c = refl
others_are Guarded head.Cons i b t o c = absurd (c refl)
others_are Guarded h i b t o c = refl
others_are Pattern head.Cons i b t o c = absurd (c refl)
others_are Pattern h i b t o c = refl
others_are Message head.Cons i b t o c = absurd (c refl)
others_are Message h i b t o c = refl
others_are Indices h i b t o c = refl
others_are Binders h i b t o c = refl
others_are Cells head.Cons i b t o c = absurd (c refl)
others_are Cells h i b t o c = refl
others_are OneCell h i b t o c = absurd (o refl)
others_are Terms head.Cons i b t o c = absurd (c refl)
others_are Terms h i b t o c = refl
others_are Term h i b t o c = absurd (t refl)

-- the children of a node, by the parts that the code finds

module _ (q : Option (grammar.Phrase × grammar.Phrase)) (first second : grammar.Phrase → Bool) (o : Option (Phrase × Phrase)) (e : parts_of o ≡ q) where
  pub both_none : o ≡ None → both_are q first second ≡ false
  both_none f = ap (λ r. both_are r first second) (sym e) ∙ ap (λ p. both_are (parts_of p) first second) f

  pub both_first : (p : Phrase × Phrase) (d : Bool) → o ≡ Some p → d ≡ first (phrase_of p.0) → d ≡ false → both_are q first second ≡ false
  both_first p d f g h = ap (λ r. both_are r first second) (sym e) ∙ (ap (λ p. both_are (parts_of p) first second) f ∙ ap (λ c. c && second (phrase_of p.1)) (sym g ∙ h))

  pub both_rest : (p : Phrase × Phrase) (d : Bool) → o ≡ Some p → d ≡ first (phrase_of p.0) → d ≡ true → both_are q first second ≡ second (phrase_of p.1)
  both_rest p d f g h = ap (λ r. both_are r first second) (sym e) ∙ (ap (λ p. both_are (parts_of p) first second) f ∙ ap (λ c. c && second (phrase_of p.1)) (sym g ∙ h))

-- phrases

pub phrase_node : (σ : grammar.Phrase) (t : Tree) (h : Head) (a b : Tree) → t ≡ Node h a b → is_phrase σ t ≡ both_are (parts σ h) (λ τ. is_phrase τ a) (λ ρ. is_phrase ρ b)
unfolding is_phrase
phrase_node σ t h a b e = ap (is_phrase σ) e

pub phrase_end : (σ : grammar.Phrase) (t : Tree) → t ≡ Empty → is_phrase σ t ≡ may_end σ
unfolding is_phrase
phrase_end σ t e = ap (is_phrase σ) e

module _ (σ : grammar.Phrase) (t : Tree) (h : Head) (a b : Tree) (e : t ≡ Node h a b) (o : Option (Phrase × Phrase)) (f : parts_of o ≡ parts σ h) where
  pub phrase_none : o ≡ None → is_phrase σ t ≡ false
  phrase_none g = phrase_node σ t h a b e ∙ both_none (parts σ h) (λ τ. is_phrase τ a) (λ ρ. is_phrase ρ b) o f g

  pub phrase_first : (p : Phrase × Phrase) (d : Bool) → o ≡ Some p → d ≡ is_phrase (phrase_of p.0) a → d ≡ false → is_phrase σ t ≡ false
  phrase_first p d g i j = phrase_node σ t h a b e ∙ both_first (parts σ h) (λ τ. is_phrase τ a) (λ ρ. is_phrase ρ b) o f p d g i j

  pub phrase_rest : (p : Phrase × Phrase) (d : Bool) → o ≡ Some p → d ≡ is_phrase (phrase_of p.0) a → d ≡ true → is_phrase σ t ≡ is_phrase (phrase_of p.1) b
  phrase_rest p d g i j = phrase_node σ t h a b e ∙ both_rest (parts σ h) (λ τ. is_phrase τ a) (λ ρ. is_phrase ρ b) o f p d g i j

pub ruleset phrases_are = (others_are)
