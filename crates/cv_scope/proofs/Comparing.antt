-- Terms by the heads and the children of their nodes.
use Rattle.std.proofs.Common.{◌≡◌, ◌≤◌, ℕ, zero, suc, Bool, true, false, refl, ap, sym, ◌∙◌, arith, nat_eq, eqb-true, List, [], ◌∷◌, length, drop}
use Rattle.std.proofs.lemmas.Bool.{eq-eqb, ne_eqb, eqb-false}
use Rattle.cv_scope_rules.specs.Rules.{carries}
use Rattle.cv_syntax_trees.specs.Tree.{Tree, Empty}
use Rattle.cv_syntax.proofs.Trees.{tree_of_NoTree}

pub ruleset term_laws = (tree_of_NoTree)

-- at the end of a list of names all indices were there
pub carries_end : (rs : List (ℕ × ℕ)) (n : ℕ) (t : Tree) → n ≤ length rs → t ≡ Empty → nat_eq n (length rs) ≡ carries (drop n rs) t
carries_end rs n t l e = at_empty rs n l ∙ ap (carries (drop n rs)) (sym e)
  where
    at_empty : (rs : List (ℕ × ℕ)) (n : ℕ) → n ≤ length rs → nat_eq n (length rs) ≡ carries (drop n rs) Empty
    at_empty [] zero l = eq-eqb 0 0 refl
    at_empty [] (suc n) l = absurd (omega arith)
    at_empty (r ∷ rs) zero l = ne_eqb 0 (length (r ∷ rs)) (λ z. omega arith)
    at_empty (r ∷ rs) (suc n) l = same_suc n (length rs) ∙ at_empty rs n (omega arith)
      where
        same_suc : (a b : ℕ) → nat_eq (suc a) (suc b) ≡ nat_eq a b
        same_suc a b = go (nat_eq a b) refl
          where
            go : (c : Bool) → nat_eq a b ≡ c → nat_eq (suc a) (suc b) ≡ c
            go true f = eq-eqb (suc a) (suc b) (ap suc (eqb-true a b f))
            go false f = ne_eqb (suc a) (suc b) (λ z. eqb-false a b f (omega arith))
