-- The way down to a term.
use Rattle.std.proofs.Common.{◌≡◌, ℕ, ◌+◌, ◌-◌, false, Some, None, refl, sym, ap, ap₂, ◌∙◌}
use Rattle.cv_syntax_trees.specs.declared.head.Head.{Head}
use Rattle.cv_syntax_trees.specs.declared.head.Head.TheVariants.{Read}
use Rattle.cv_syntax_trees.specs.Head.{weight}
use Rattle.cv_syntax_trees.specs.Tree.{Tree, Empty, Node, size}
use Rattle.cv_path.specs.declared.place.Lies.TheVariants.{Here, Within, Behind}
use Rattle.cv_path.specs.Places.{LiesAt}
use Rattle.cv_path.proofs.Going.{choice_behind, choice_here, choice_within, less_behind, less_within}
use Rattle.cv_scope_rules.specs.Phrases as grammar
use Rattle.cv_steps.specs.Rewriting.{by_parts, has_term_at, is_term, parts_of}

-- a read, and another node

pub read_parts : (σ : grammar.Phrase) (h : Head) (x : ℕ) → h ≡ Read x → parts_of σ h ≡ (grammar.Nil, grammar.Nil)
read_parts σ h x e = ap (parts_of σ) e

still_parts : (h : Head) (p : grammar.Phrase × grammar.Phrase) → ((x : ℕ) → h ≡ Read x → ⊥) → by_parts h (Some p) ≡ p
still_parts (Read x) p n = absurd (n x refl)
still_parts h p n = refl

still_none : (h : Head) → ((x : ℕ) → h ≡ Read x → ⊥) → by_parts h None ≡ (grammar.Nil, grammar.Nil)
still_none (Read x) n = absurd (n x refl)
still_none h n = refl

pub other_parts : (σ : grammar.Phrase) (h : Head) (p : grammar.Phrase × grammar.Phrase) → ((x : ℕ) → h ≡ Read x → ⊥) → grammar.parts σ h ≡ Some p → parts_of σ h ≡ p
other_parts σ h p n e = ap (by_parts h) e ∙ still_parts h p n

pub no_parts : (σ : grammar.Phrase) (h : Head) → ((x : ℕ) → h ≡ Read x → ⊥) → grammar.parts σ h ≡ None → parts_of σ h ≡ (grammar.Nil, grammar.Nil)
no_parts σ h n e = ap (by_parts h) e ∙ still_none h n

-- one step down

module _ (σ : grammar.Phrase) (t : Tree) (h : Head) (a b : Tree) (p q : ℕ) (e : t ≡ Node h a b) where
  pub term_here : LiesAt h a p Here → has_term_at σ t p ≡ is_term σ
  unfolding has_term_at
  term_here l =
      ap (λ u. has_term_at σ u p) e
      ∙ choice_here h a p (is_term σ) (has_term_at (parts_of σ h).0 a (p - weight h)) (has_term_at (parts_of σ h).1 b (p - (weight h + size a))) l

  pub term_within : (τ : grammar.Phrase) → τ ≡ (parts_of σ h).0 → LiesAt h a p (Within q) → has_term_at σ t p ≡ has_term_at τ a q
  unfolding has_term_at
  term_within τ f l =
      ap (λ u. has_term_at σ u p) e
      ∙ (choice_within h a p (is_term σ) (has_term_at (parts_of σ h).0 a (p - weight h)) (has_term_at (parts_of σ h).1 b (p - (weight h + size a))) q l
      ∙ ap₂ (λ ρ n. has_term_at ρ a n) (sym f) (less_within h a p q l))

  pub term_behind : (τ : grammar.Phrase) → τ ≡ (parts_of σ h).1 → LiesAt h a p (Behind q) → has_term_at σ t p ≡ has_term_at τ b q
  unfolding has_term_at
  term_behind τ f l =
      ap (λ u. has_term_at σ u p) e
      ∙ (choice_behind h a p (is_term σ) (has_term_at (parts_of σ h).0 a (p - weight h)) (has_term_at (parts_of σ h).1 b (p - (weight h + size a))) q l
      ∙ ap₂ (λ ρ n. has_term_at ρ b n) (sym f) (less_behind h a p q l))

pub no_term : (σ : grammar.Phrase) (t : Tree) (p : ℕ) → t ≡ Empty → has_term_at σ t p ≡ false
unfolding has_term_at
no_term σ t p e = ap (λ u. has_term_at σ u p) e
