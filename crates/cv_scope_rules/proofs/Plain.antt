-- A tree in the grammar of games has no key and no call.
use Rattle.std.proofs.Common.{◌≡◌, ℕ, true, ◌&&◌, Option, Some, None, refl, sym, ap₂, ◌∙◌}
use Rattle.std.proofs.lemmas.Bool.{both_ways, and_parts}
use Rattle.cv_syntax_trees.specs.declared.head.Head.{Head}
use Rattle.cv_syntax_trees.specs.declared.head.Head.TheVariants.{Key, Call}
use Rattle.cv_syntax_trees.specs.Tree.{Tree, Empty, Node}
use Rattle.cv_scope_rules.specs.Phrases.{Phrase, Nil, parts, both_are, is_phrase, head_is_plain, is_plain}
use Rattle.cv_syntax_trees.proofs.lists.Options.{none_some}

no_key : (σ : Phrase) (x : ℕ) → parts σ (Key x) ≡ None
no_key Nil x = refl
no_key σ x = refl

no_call : (σ : Phrase) (x l : ℕ) → parts σ (Call x l) ≡ None
no_call Nil x l = refl
no_call σ x l = refl

head_plain : (σ : Phrase) (h : Head) (q : Phrase × Phrase) → parts σ h ≡ Some q → head_is_plain h ≡ true
head_plain σ (Key x) q e = absurd (none_some q (sym (no_key σ x) ∙ e))
head_plain σ (Call x l) q e = absurd (none_some q (sym (no_call σ x l) ∙ e))
head_plain σ h q e = refl

pub phrase_plain : (σ : Phrase) (b : Tree) → is_phrase σ b ≡ true → is_plain b ≡ true
unfolding is_phrase
phrase_plain σ Empty e = refl
phrase_plain σ (Node h a b) e = go (parts σ h) refl e (λ τ. phrase_plain τ a) (λ τ. phrase_plain τ b)
  where
    go : (o : Option (Phrase × Phrase)) → parts σ h ≡ o → both_are o (λ τ. is_phrase τ a) (λ ρ. is_phrase ρ b) ≡ true → ((τ : Phrase) → is_phrase τ a ≡ true → is_plain a ≡ true) → ((τ : Phrase) → is_phrase τ b ≡ true → is_plain b ≡ true) → head_is_plain h && (is_plain a && is_plain b) ≡ true
    go None k z f g = absurd (both_ways _ refl z)
    go (Some q) k z f g = let r = and_parts (is_phrase q.0 a) _ z in ap₂ ◌&&◌ (head_plain σ h q k) (ap₂ ◌&&◌ (f q.0 r.0) (g q.1 r.1))
