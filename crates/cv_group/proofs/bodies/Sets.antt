-- Sets of names, and of names with bounds, to which more is added.
use Rattle.std.proofs.Common.{◌≡◌, ℕ, Bool, true, false, cond, ◌&&◌, ◌||◌, refl, ap, sym, ◌∙◌, nat_eq}
use Rattle.std.specs.Prelude.{◌==◌}
use Rattle.std.specs.HashSet.{Updates}
use Rattle.cv_syntax.specs.NameSets.{NameSet, is_in}
use Rattle.cv_syntax_trees.specs.sites.Pairs.{same_pair}
use Rattle.cv_group.specs.bodies.Levels.{PairSet, is_paired}
use Rattle.cv_syntax_trees.proofs.lists.Tests.{and_or}

-- s' is s with q, p is q with r
pub or_more : (new s p q r : Bool) → new ≡ (s || q) → p ≡ (q || r) → (new || r) ≡ (s || p)
or_more new s p q r e f = ap (λ b. b || r) e ∙ (assoc s q r ∙ ap (λ b. s || b) (sym f))
  where
    assoc : (a b c : Bool) → ((a || b) || c) ≡ (a || (b || c))
    assoc true b c = refl
    assoc false b c = refl

pub or_nothing : (b q : Bool) → q ≡ false → b ≡ (b || q)
or_nothing true q e = refl
or_nothing false q e = sym e

pub pair_more : (e new s p q r : Bool) → new ≡ (s || (e && q)) → p ≡ (q || r) → (new || (e && r)) ≡ (s || (e && p))
pair_more e new s p q r f g = or_more new s (e && p) (e && q) (e && r) f (ap (λ b. e && b) g ∙ and_or e q r)

pub pair_nothing : (e s p : Bool) → p ≡ false → s ≡ (s || (e && p))
pair_nothing e s p f = or_nothing s (e && p) (ap (λ b. e && b) f ∙ none e)
  where
    none : (e : Bool) → (e && false) ≡ false
    none true = refl
    none false = refl

or_swap : (b c : Bool) → cond b true c ≡ (c || b)
or_swap true true = refl
or_swap true false = refl
or_swap false true = refl
or_swap false false = refl

-- a name more
pub name_added : (m n : NameSet) (x : ℕ) → Updates nat_eq m n x true → (y : ℕ) → is_in n y ≡ (is_in m y || (x == y))
name_added m n x u y = u.0 y ∙ or_swap (x == y) (is_in m y)

-- a pair more
pub pair_added : (m n : PairSet) (b x : ℕ) → Updates same_pair m n (b, x) true → (c y : ℕ) → is_paired n c y ≡ (is_paired m c y || ((b == c) && (x == y)))
pair_added m n b x u c y = u.0 (c, y) ∙ or_swap ((b == c) && (x == y)) (is_paired m c y)
