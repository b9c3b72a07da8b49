-- What bodies begin with, function by function.
use Rattle.std.proofs.Common.{◌≡◌, Bool, true, false, List, [], ◌∷◌, ◌++◌, Some, None, refl, ap, sym, ◌∙◌}
use Rattle.std.specs.Prelude.{◌||◌}
use Rattle.std.specs.List.{list_any}
use Rattle.std.proofs.lemmas.List.Folds.{list_any-append}
use Rattle.cv_syntax_trees.specs.declared.head.Code.{Code}
use Rattle.cv_syntax_trees.specs.declared.head.Head.{Head}
use Rattle.cv_syntax_trees.specs.Head.{code}
use Rattle.cv_syntax_trees.specs.Tree.{Tree, Empty, Node}
use Rattle.cv_syntax.proofs.Trees.{tree_of_NoTree}
use Rattle.cv_meaning.specs.contexts.Groups.{function_of, functions_of}
use Rattle.cv_match_terms.specs.declared.heads.heads.Heads.{Heads}
use Rattle.cv_match_terms.specs.heads.Beginnings.{begins, has_code, is_code, code_of, may_begin, same_code}
use Rattle.cv_syntax_trees.proofs.lists.Tests.{or_false, or_assoc}

or_true : (a : Bool) → (a || true) ≡ true
or_true true = refl
or_true false = refl

-- one body more

module _ (k : Head) (b : Tree) (old : Heads) where
  pub noted_code : (c : Code) → Some c ≡ code_of b → (ks : List Code) → ks ≡ old.codes.items ++ c ∷ [] → (old.any || has_code (code k) ks) ≡ (may_begin old k || is_code (code k) (code_of b))
  noted_code c e ks f =
      ap (λ l. old.any || has_code (code k) l) f
      ∙ (ap (λ b. old.any || b) (list_any-append (λ h. same_code h (code k)) old.codes.items (c ∷ []) ∙ ap (λ b. has_code (code k) old.codes.items || b) (or_false (same_code c (code k))))
      ∙ (sym (or_assoc old.any (has_code (code k) old.codes.items) (same_code c (code k)))
      ∙ ap (λ o. may_begin old k || is_code (code k) o) e))

  pub noted_any : None ≡ code_of b → true ≡ (may_begin old k || is_code (code k) (code_of b))
  noted_any e = sym (ap (λ o. may_begin old k || is_code (code k) o) (sym e) ∙ or_true (may_begin old k))

-- functions, one after another

module _ (k : Head) (t : Tree) (had all : Bool) (same : (had || list_any (begins k) (functions_of t)) ≡ all) where
  pub begun_end : t ≡ Empty → had ≡ all
  begun_end e = sym (or_false had) ∙ (ap (λ u. had || list_any (begins k) (functions_of u)) (sym e) ∙ same)

  pub begun_more : (h : Head) (f more : Tree) → t ≡ Node h f more → (has : Bool) → has ≡ (had || begins k (function_of f)) → (has || list_any (begins k) (functions_of more)) ≡ all
  begun_more h f more e has i =
      ap (λ c. c || list_any (begins k) (functions_of more)) i
      ∙ (or_assoc had (begins k (function_of f)) (list_any (begins k) (functions_of more))
      ∙ (ap (λ u. had || list_any (begins k) (functions_of u)) (sym e) ∙ same))

pub ruleset beginnings = (tree_of_NoTree)
