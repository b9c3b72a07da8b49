-- What the parts of a written phrase are.
use Rattle.std.proofs.Common.{◌≡◌, ℕ, zero, suc, ◌≤◌, max, true, false, ◌&&◌, Some, refl, ap, sym, ◌∙◌, arith}
use Rattle.std.proofs.lemmas.Bool.{and_parts, both_ways}
use Rattle.cv_syntax_trees.specs.declared.head.Head.{Head}
use Rattle.cv_syntax_trees.specs.Tree.{Tree, Empty, Node}
use Rattle.cv_scope_rules.specs.Phrases.{Phrase, Nil, parts, both_are, is_phrase}
use Rattle.cv_print_bytes.specs.terminals.Levels.{beside}
use Rattle.cv_print_bytes.specs.terminals.Written.{IsWritten, head_is_written, is_written}

pub record Parted (τ ρ : Phrase) (h : Head) (a b : Tree) : Type 0 where
  pub first : IsWritten τ a
  pub second : IsWritten ρ b
  pub here : head_is_written h a ≡ true

pub parted : (φ τ ρ : Phrase) (h : Head) (a b : Tree) → parts φ h ≡ Some (τ, ρ) → IsWritten φ (Node h a b) → Parted τ ρ h a b
unfolding is_phrase is_written
parted φ τ ρ h a b e w =
    let p : (is_phrase τ a && is_phrase ρ b) ≡ true = ap (λ o. both_are o (λ σ. is_phrase σ a) (λ σ. is_phrase σ b)) (sym e) ∙ w.phrase in
    let q = and_parts (is_phrase τ a) (is_phrase ρ b) p in
    let r = and_parts (head_is_written h a) (is_written a && is_written b) w.words in
    let s = and_parts (is_written a) (is_written b) r.1 in
    record { first = record { phrase = q.0; words = s.0 }; second = record { phrase = q.1; words = s.1 }; here = r.0 }

pub both_below : (a b n : ℕ) → max a b ≤ n → (a ≤ n) × (b ≤ n)
both_below a b n l = (omega (arith, l), omega (arith, l))

-- a number above another is one more than some number
pub deep : (P : ℕ → Type 0) (n k : ℕ) → suc k ≤ n → ((m : ℕ) → k ≤ m → P (suc m)) → P n
deep P zero k l f = absurd (omega (arith, l))
deep P (suc n) k l f = f n (omega (arith, l))

-- as many as two sides take
pub deep_beside : (P : ℕ → Type 0) (n i j : ℕ) → beside i j ≤ n → ((m : ℕ) → i ≤ suc m → j ≤ m → P (suc (suc m))) → P n
deep_beside P zero i j l f = absurd (omega (arith, l))
deep_beside P (suc zero) i j l f = absurd (omega (arith, l))
deep_beside P (suc (suc n)) i j l f = f n (omega (arith, l)) (omega (arith, l))

pub nil_is : (t : Tree) → IsWritten Nil t → t ≡ Empty
unfolding is_phrase
nil_is Empty w = refl
nil_is (Node h a b) w = absurd (both_ways _ refl w.phrase)

-- no such phrase
pub no_phrase : (φ : Phrase) (t : Tree) → is_phrase φ t ≡ false → IsWritten φ t → ⊥
no_phrase φ t e w = both_ways (is_phrase φ t) e w.phrase
