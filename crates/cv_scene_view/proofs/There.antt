-- The names that a phrase reads, as the code goes through it.
use Rattle.std.proofs.Common.{◌≡◌, ℕ, ◌&&◌, Bool, true, false, Option, Some, None, refl, sym, ap, ◌∙◌}
use Rattle.std.specs.Prelude.{◌||◌}
use Rattle.cv_syntax_trees.specs.declared.head.Head.{Head}
use Rattle.cv_syntax_trees.specs.declared.head.Head.TheVariants.{Leaf, Read, Apply}
use Rattle.cv_syntax_trees.specs.Tree.{Tree, Empty, Node}
use Rattle.cv_scope_rules.specs.Phrases as grammar
use Rattle.cv_scope_rules.specs.Phrases.{both_are, parts}
use Rattle.cv_scene.specs.Terms.{Names, head_is_there, is_there}
use Rattle.cv_scene_view.specs.declared.phrases.phrases.Phrase.{Phrase}
use Rattle.cv_scene_view.specs.declared.phrases.phrases.Phrase.TheVariants.{OneCell}
use Rattle.cv_scene_view.specs.phrases.Phrases.{parts_of, phrase_of}
use Rattle.cv_scene_view.proofs.phrases.Grammar.{both_first, both_none, both_rest}

-- heads

pub cell_there : (known : Names) (π : Phrase) (x : ℕ) → π ≡ OneCell → known.variable x ≡ head_is_there known (phrase_of π) (Leaf x)
cell_there known π x e = sym (ap (λ ρ. head_is_there known (phrase_of ρ) (Leaf x)) e)

pub leaf_there : (known : Names) (π : Phrase) (x : ℕ) → (π ≡ OneCell → ⊥) → (known.index x || (known.function x || known.variable x)) ≡ head_is_there known (phrase_of π) (Leaf x)
leaf_there known OneCell x n = absurd (n refl)
leaf_there known π x n = refl

pub read_there : (known : Names) (π : Phrase) (x : ℕ) → known.variable x ≡ head_is_there known (phrase_of π) (Read x)
read_there known OneCell x = refl
read_there known π x = refl

pub apply_there : (known : Names) (π : Phrase) (f : ℕ) → known.function f ≡ head_is_there known (phrase_of π) (Apply f)
apply_there known OneCell f = refl
apply_there known π f = refl

pub other_there : (known : Names) (π : Phrase) (h : Head) → ((x : ℕ) → h ≡ Leaf x → ⊥) → ((x : ℕ) → h ≡ Read x → ⊥) → ((f : ℕ) → h ≡ Apply f → ⊥) → true ≡ head_is_there known (phrase_of π) h
other_there known π (Leaf x) l r a = absurd (l x refl)
other_there known π (Read x) l r a = absurd (r x refl)
other_there known π (Apply f) l r a = absurd (a f refl)
other_there known OneCell h l r a = refl
other_there known π h l r a = refl

-- trees

there_node : (known : Names) (σ : grammar.Phrase) (t : Tree) (h : Head) (a b : Tree) → t ≡ Node h a b → is_there known σ t ≡ (head_is_there known σ h && both_are (parts σ h) (λ τ. is_there known τ a) (λ ρ. is_there known ρ b))
unfolding is_there
there_node known σ t h a b e = ap (is_there known σ) e

pub there_end : (known : Names) (σ : grammar.Phrase) (t : Tree) → t ≡ Empty → is_there known σ t ≡ true
unfolding is_there
there_end known σ t e = ap (is_there known σ) e

module _ (known : Names) (σ : grammar.Phrase) (t : Tree) (h : Head) (a b : Tree) (e : t ≡ Node h a b) (c : Bool) (f : c ≡ head_is_there known σ h) where
  abbrev children : Bool
  children = both_are (parts σ h) (λ τ. is_there known τ a) (λ ρ. is_there known ρ b)

  pub there_not : c ≡ false → is_there known σ t ≡ false
  there_not g = there_node known σ t h a b e ∙ ap (λ k. k && children) (sym f ∙ g)

  by_children : c ≡ true → is_there known σ t ≡ children
  by_children g = there_node known σ t h a b e ∙ ap (λ k. k && children) (sym f ∙ g)

  module _ (g : c ≡ true) (o : Option (Phrase × Phrase)) (i : parts_of o ≡ parts σ h) where
    pub there_none : o ≡ None → is_there known σ t ≡ false
    there_none j = by_children g ∙ both_none (parts σ h) (λ τ. is_there known τ a) (λ ρ. is_there known ρ b) o i j

    pub there_first : (p : Phrase × Phrase) (d : Bool) → o ≡ Some p → d ≡ is_there known (phrase_of p.0) a → d ≡ false → is_there known σ t ≡ false
    there_first p d j k l = by_children g ∙ both_first (parts σ h) (λ τ. is_there known τ a) (λ ρ. is_there known ρ b) o i p d j k l

    pub there_rest : (p : Phrase × Phrase) (d : Bool) → o ≡ Some p → d ≡ is_there known (phrase_of p.0) a → d ≡ true → is_there known σ t ≡ is_there known (phrase_of p.1) b
    there_rest p d j k l = by_children g ∙ both_rest (parts σ h) (λ τ. is_there known τ a) (λ ρ. is_there known ρ b) o i p d j k l
