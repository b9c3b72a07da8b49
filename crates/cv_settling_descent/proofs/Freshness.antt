-- Games with `false` in the place of an equality.
use Rattle.std.proofs.Common.{◌≡◌, ℕ, zero, suc, ◌<◌, ◌≤◌, ◌==◌, ◌||◌, ◌&&◌, ◌⊎◌, inl, inr, true, false, refl, sym, ap, subst, ◌∙◌, arith, nat_lt, lt-ltb}
use Rattle.std.proofs.lemmas.Bool.{both_ways, and_parts}
use Rattle.cv_syntax_trees.specs.declared.head.Head.TheVariants.{And, Apply, Eq, Leaf, No, Not, Or, Read, Yes}
use Rattle.cv_syntax_trees.specs.Tree.{Tree, Empty, Node, size}
use Rattle.cv_scope_rules.specs.Phrases.{Inputs, Term, is_phrase}
use Rattle.cv_scene.specs.lines.Truths.{no}
use Rattle.cv_scene.specs.Scenes.{Scene, part_at}
use Rattle.cv_steps.specs.Changes.{change_at}
use Rattle.cv_steps.specs.Steps.{Cost, Leads}
use Rattle.cv_rule_fresh.specs.collisions.Fresh.{fresh_row}
use Rattle.cv_rule_fresh.proofs.Leads.{BySide, fresh_leads}
use Rattle.cv_settling_rules.specs.Measure.{is_less, large_equalities, lowers}
use Rattle.cv_settling_measures.specs.Parts.{measure_in}
use Rattle.cv_settling_measures.proofs.Equalities.{is_large_term}
use Rattle.cv_settling_measures.proofs.Rewriting.{term_lowers, term_there}

pub term_size : (t : Tree) → is_phrase Term t ≡ true → 1 ≤ size t
unfolding is_phrase size
term_size Empty e = absurd (both_ways false refl e)
term_size (Node (Leaf x) a b) e = omega arith
term_size (Node (Read x) a b) e = omega arith
term_size (Node (Apply f) a b) e = omega arith
term_size (Node Eq a b) e = omega arith
term_size (Node And a b) e = omega arith
term_size (Node Or a b) e = omega arith
term_size (Node Not a b) e = omega arith
term_size (Node Yes a b) e = omega arith
term_size (Node No a b) e = omega arith
term_size (Node h a b) e = absurd (both_ways false refl e)

nothing_less : (n k : ℕ) → 1 < k → (nat_lt 0 n || ((0 == n) && nat_lt 1 k)) ≡ true
nothing_less zero k l = lt-ltb 1 k l
nothing_less (suc n) k l = ap (λ v. v || ((0 == suc n) && nat_lt 1 k)) (lt-ltb 0 (suc n) (omega arith))

less_than_equality : (s : Scene) (l r : Tree) → is_phrase Term (Node Eq l r) ≡ true → is_less (measure_in s no) (measure_in s (Node Eq l r)) ≡ true
unfolding is_phrase size large_equalities
less_than_equality s l r e =
    let p = and_parts (is_phrase Term l) (is_phrase Term r) e in
    nothing_less (large_equalities s (Node Eq l r)) (size (Node Eq l r)) (omega (arith, term_size l p.0))

pub fresh_lowers : (s : Scene) (p : ℕ) (next : Tree) (cost : Cost) → is_phrase Inputs s.game ≡ true → fresh_row s p ≡ Leads next cost → lowers s next ≡ true
unfolding is_phrase
fresh_lowers s p next cost w e =
    let f = fresh_leads s p next cost e in
    let term : is_phrase Term (Node Eq f.left f.right) ≡ true = ap (is_phrase Term) (sym f.part) ∙ term_there Inputs s.game p w f.stands in
    subst (λ t. lowers s t ≡ true) (leads f.left f.right f.by)
    (term_lowers s p no w f.stands refl (sorts f.left f.right f.part)
    ∙ (ap (λ t. is_less (measure_in s no) (measure_in s t)) f.part ∙ less_than_equality s f.left f.right term))
  where
    leads : (l r : Tree) → BySide s p l r next cost ⊎ BySide s p r l next cost → change_at s.game p (λ t. no) ≡ next
    leads l r (inl b) = b.leads
    leads l r (inr b) = b.leads

    sorts : (l r : Tree) → part_at s.game p ≡ Node Eq l r → is_large_term s no ≡ is_large_term s (part_at s.game p)
    sorts l r k = sym (ap (is_large_term s) k)
